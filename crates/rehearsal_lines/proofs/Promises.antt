-- The promises of `specs/Promises.antt`: every line is of one of the forms or of none (`view`), and a line of a form is read as such.
use Prim.Native.Nat.{ℕ}
use native.Mathlib.Omega.{arith}
use mathlib.Core.List.{List, ◌++◌}
use mathlib.Core.Path.{◌≡◌, refl, subst₃}
use lib.ListN.{drop}
use Rattle.transactions.specs.declared.Socket.{Socket}
use Rattle.hexadecimal.specs.Hex.{value_of}
use Rattle.line_fields.specs.Lines.{ascii, decimal_of}
use Rattle.log_lines.specs.Lines.{begins_opening}
use Rattle.rehearsal_lines.specs.Lines.{line_of, room_after, refused_line, module_of, settings_of, rates_of, is_digit}
use Rattle.rehearsal_lines.specs.Promises.{SaysNothing, SaysChannel, SaysModule, Kinds, KindsOfLines, RefusedLineIsComment, Examples}
use Rattle.rehearsal_lines.specs.declared.Line.TheVariants.{Module, Channel, Passed, Other}
use Rattle.rehearsal_lines.proofs.Forms.{first-decides, View, nothing, channel, module-of, neither, view, passed-read, channel-read, channel-room, module-read}
use Rattle.rehearsal_lines.proofs.Numbers.{own-digits}

-- two answers that differ
clash : {A : Type 0} → ◌≡◌ {A = ℕ} 0 1 → A
clash z = absurd (omega arith)

module _ (line room : List ℕ) where
  says_nothing : View line room → line_of line room ≡ Passed → SaysNothing line
  says_nothing (nothing s) e = s
  says_nothing (channel s) e = let q = channel-read line room s in clash (cc)
  says_nothing (module-of s) e = let q = (module-read line room s).0 in clash (cc)
  says_nothing (neither q r) e = clash (cc)

  says-channel : {seed lost repeated : ℕ} → View line room → line_of line room ≡ Channel seed lost repeated → SaysChannel line seed lost repeated
  says-channel (nothing s) e = let q = (passed-read line room s).0 in clash (cc)
  says-channel {seed} {lost} {repeated} (channel {seed = seed'} {lost = lost'} {repeated = repeated'} s) e =
      let q = channel-read line room s in
      let same : seed' ≡ seed = cc in
      let same_lost : lost' ≡ lost = cc in
      let same_repeated : repeated' ≡ repeated = cc in
      subst₃ (λ (x y z : ℕ). SaysChannel line x y z) same same_lost same_repeated s
  says-channel (module-of s) e = let q = (module-read line room s).0 in clash (cc)
  says-channel (neither q r) e = clash (cc)

  says-module : {socket : Socket} {id count : ℕ} → View line room → line_of line room ≡ Module socket id count → SaysModule line room socket id count
  says-module (nothing s) e = let q = (passed-read line room s).0 in clash (cc)
  says-module (channel s) e = let q = channel-read line room s in clash (cc)
  says-module {socket} {id} {count} (module-of {socket = socket'} {id = id'} {count = count'} s) e =
      let q = (module-read line room s).0 in
      let same : socket' ≡ socket = cc in
      let same_id : id' ≡ id = cc in
      let same_count : count' ≡ count = cc in
      subst₃ (λ (x : Socket) (y z : ℕ). SaysModule line room x y z) same same_id same_count s
  says-module (neither q r) e = clash (cc)

  -- a line of no form
  says_none : View line room → (SaysNothing line → ⊥) → ((seed lost repeated : ℕ) → SaysChannel line seed lost repeated → ⊥)
      → ((socket : Socket) (id count : ℕ) → SaysModule line room socket id count → ⊥) → line_of line room ≡ Other
  says_none (nothing s) a b c = absurd (a s)
  says_none (channel s) a b c = absurd (b _ _ _ s)
  says_none (module-of s) a b c = absurd (c _ _ _ s)
  says_none (neither q r) a b c = q

  room-kept : View line room → ((socket : Socket) (id count : ℕ) → SaysModule line room socket id count → ⊥) → room_after line room ≡ room
  room-kept (nothing s) h = (passed-read line room s).1
  room-kept (channel s) h = channel-room line room s
  room-kept (module-of s) h = absurd (h _ _ _ s)
  room-kept (neither q r) h = r

  kinds : Kinds line room
  kinds =
      record {
        passed = (says_nothing (view line room), λ s. (passed-read line room s).0);
        channel = λ seed lost repeated. (says-channel (view line room), channel-read line room);
        a_module = λ socket id count. (says-module (view line room), λ s. (module-read line room s).0);
        other = (
          λ e. (
            λ s. let q = (passed-read line room s).0 in clash (cc),
            λ seed lost repeated s. let q = channel-read line room s in clash (cc),
            λ socket id count s. let q = (module-read line room s).0 in clash (cc),
          ),
          λ n. says_none (view line room) n.0 n.1 n.2,
        );
        filled = λ socket id count said. (module-read line room said).1;
        kept = room-kept (view line room);
      }

pub kinds-of-lines : KindsOfLines
kinds-of-lines line room = kinds line room

pub refused-line-is-comment : RefusedLineIsComment
unfolding refused_line
refused-line-is-comment number =
    let own = own-digits number in
    let rest = drop 1 (ascii "# refused ") ++ decimal_of number in
    record {
      digits = decimal_of number;
      form = refl;
      number_is = record { some = own.0; digits = own.1; value_is = own.2; few = omega arith };
      passed = first-decides 35 rest;
    }

pub examples : Examples
unfolding line_of is_digit settings_of rates_of module_of refused_line decimal_of begins_opening value_of
examples = record { passed = refl; channel = refl; channel_above = refl; channel_colon = refl; channel_slash = refl; a_module = refl; no_room = refl; refused = refl }
