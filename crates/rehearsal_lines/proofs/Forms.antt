-- The forms of lines: a line of a form is read as such, and a line that is read so is of that form.
use Prim.Native.Nat.{ℕ, suc, ◌+◌, ◌-◌, ◌/◌, ◌≤◌}
use native.Mathlib.Numerals.{add-one}
use native.Mathlib.Omega.{arith}
use mathlib.Core.Bool.{true, false, ◌&&◌}
use mathlib.Core.List.{List, [], ◌∷◌, ◌++◌}
use mathlib.Core.Logic.{inl, inr}
use mathlib.Core.Path.{◌≡◌, refl, sym, ap, ap₂, subst, ◌∙◌}
use lib.Dec.{leb, eqb}
use lib.ListN.{length, take, drop, get_or, length-append, length-drop, take-append-drop}
use lib.Seq.{take_at, drop_at, get_or_at, get_or-take, drop-cons, append_snoc}
use borrow.Author.Tests.{le-leb, eq-eqb, ne_eqb, leb-true, eqb-true}
use Rattle.octets.specs.Numbers.{big32}
use Rattle.octets.proofs.Parts.{same-exactly, write-start}
use Rattle.octets.proofs.Tests.{cases, both_hold, holds-both}
use Rattle.hexadecimal.specs.Hex.{all_digits, is_hexadecimal, octets_of}
use Rattle.hexadecimal.proofs.Laws.{length-octets}
use Rattle.log_lines.specs.Lines.{begins_opening, is_opening, socket_in, id_in}
use Rattle.transactions.specs.declared.Socket.{Socket}
use Rattle.log_lines.specs.Lines.{is_passed}
use Rattle.rehearsal_lines.specs.Lines.{is_digit, all_decimal, value_from, is_decimal, field, behind, rates_of, settings_of, channel_word, message_digits, is_held, module_of, module_room, is_channel, line_of, room_after}
use Rattle.rehearsal_lines.specs.Promises.{SaysNothing, Writes, SaysChannel, module_line, SaysModule}
use Rattle.rehearsal_lines.specs.declared.Line.TheVariants.{Module, Channel, Passed, Other}
use Rattle.rehearsal_lines.proofs.Laws.{held-so}
use Rattle.rehearsal_lines.proofs.Numbers.{digit-so}

-- ---- comments

pub first-decides : (c : ℕ) (rest : List ℕ) → is_passed (c ∷ rest) ≡ eqb c 35
first-decides c rest = rw (ne_eqb (suc (length rest)) 0 (λ e. omega arith))

nothing_said : (line : List ℕ) → is_passed line ≡ true → SaysNothing line
nothing_said [] e = inl refl
nothing_said (c ∷ rest) e = inr (rest, ap (λ (x : ℕ). x ∷ rest) (eqb-true c 35 (sym (first-decides c rest) ∙ e)))

passes : (line : List ℕ) → SaysNothing line → is_passed line ≡ true
passes line (inl e) = rw e
passes line (inr r) = rw r.1 (first-decides 35 r.0)

-- ---- decimal numbers

writes : (text : List ℕ) (most : ℕ) → is_decimal text most ≡ true → Writes text most (value_from 0 text)
writes text most e =
    let a = both_hold {a = leb 1 (length text)} e in
    let b = both_hold {a = all_decimal text} a.1 in
    record { some = leb-true 1 (length text) a.0; digits = b.0; value_is = refl; few = leb-true (value_from 0 text) most b.1 }

decimal-of : {text : List ℕ} {most value : ℕ} → Writes text most value → is_decimal text most ≡ true
decimal-of {text} {most} w =
    holds-both (le-leb 1 (length text) w.some) (holds-both w.digits (le-leb (value_from 0 text) most (omega (arith, w.value_is, w.few))))

-- ---- fields

-- a text with a field and something behind it
split : (text : List ℕ) → 1 ≤ length (behind text) → text ≡ field text ++ (32 ∷ behind text)
split [] = λ h. absurd (omega arith)
split (c ∷ text) =
    cases (eqb c 32)
    (λ e. rw e (λ h. ap (λ (x : ℕ). x ∷ text) (eqb-true c 32 e)))
    (λ e. rw (e, add-one) (λ h. ap (λ (t : List ℕ). c ∷ t) ((rw add-one at (split text)) h)))

module _ (behind-it : List ℕ) where
  field-digits : (digits : List ℕ) → all_decimal digits ≡ true → field (digits ++ (32 ∷ behind-it)) ≡ digits
  field-digits [] e = refl
  field-digits (c ∷ digits) e =
      let b = both_hold {a = is_digit c} e in
      rw (ne_eqb c 32 (λ z. omega (arith, digit-so c b.0))) (ap (λ (t : List ℕ). c ∷ t) (field-digits digits b.1))

  behind-digits : (digits : List ℕ) → all_decimal digits ≡ true → behind (digits ++ (32 ∷ behind-it)) ≡ behind-it
  behind-digits digits e =
      rw (field-digits digits e, ← (append_snoc digits 32 behind-it))
      (drop_at (digits ++ (32 ∷ [])) behind-it (length digits + 1) (length-append digits (32 ∷ [])))

-- ---- the channel

-- the numbers behind the word
abbrev numbers : List ℕ → List ℕ → List ℕ → List ℕ
numbers seed lost repeated = seed ++ (32 ∷ (lost ++ (32 ∷ repeated)))

settings-read : {seed_text lost_text repeated_text : List ℕ} {seed lost repeated : ℕ}
    → Writes seed_text 4294967295 seed → Writes lost_text 100 lost → Writes repeated_text 100 repeated
    → settings_of (numbers seed_text lost_text repeated_text) ≡ Channel seed lost repeated
unfolding settings_of rates_of
settings-read {seed_text} {lost_text} {repeated_text} s l r =
    let rates = lost_text ++ (32 ∷ repeated_text) in
    rw (behind-digits rates seed_text s.digits, field-digits rates seed_text s.digits, behind-digits repeated_text lost_text l.digits, field-digits repeated_text lost_text l.digits)
    (rw (decimal-of s, decimal-of l, decimal-of r, s.value_is, l.value_is, r.value_is))

pub channel-read : (line room : List ℕ) {seed lost repeated : ℕ} → SaysChannel line seed lost repeated → line_of line room ≡ Channel seed lost repeated
unfolding line_of
channel-read line room said =
    let rest = numbers said.seed_text said.lost_text said.repeated_text in
    rw (said.form, first-decides 99 (drop 1 channel_word ++ rest)) (settings-read said.seed_is said.lost_is said.repeated_is)

-- the texts of numbers that are read
module _ (settings : List ℕ) (seed : is_decimal (field settings) 4294967295 ≡ true)
    (both : (is_decimal (field (behind settings)) 100 && is_decimal (behind (behind settings)) 100) ≡ true) where
  abbrev rates : List ℕ
  rates = behind settings

  lost-writes : Writes (field rates) 100 (value_from 0 (field rates))
  lost-writes = writes (field rates) 100 (both_hold {a = is_decimal (field rates) 100} both).0

  repeated-writes : Writes (behind rates) 100 (value_from 0 (behind rates))
  repeated-writes = writes (behind rates) 100 (both_hold {a = is_decimal (field rates) 100} both).1

  rates-split : rates ≡ field rates ++ (32 ∷ behind rates)
  rates-split = split rates repeated-writes.some

  settings-split : settings ≡ numbers (field settings) (field rates) (behind rates)
  settings-split =
      let some : 1 ≤ length rates = omega (arith, ap length rates-split, length-append (field rates) (32 ∷ behind rates)) in
      split settings some ∙ ap (λ (t : List ℕ). field settings ++ (32 ∷ t)) rates-split

channel-said : (line : List ℕ) → is_channel line ≡ true → let settings = drop 8 line in
    is_decimal (field settings) 4294967295 ≡ true → (is_decimal (field (behind settings)) 100 && is_decimal (behind (behind settings)) 100) ≡ true
    → SaysChannel line (value_from 0 (field settings)) (value_from 0 (field (behind settings))) (value_from 0 (behind (behind settings)))
channel-said line word seed both =
    let settings = drop 8 line in
    record {
      seed_text = field settings;
      lost_text = field (behind settings);
      repeated_text = behind (behind settings);
      form =
          sym (take-append-drop 8 line)
          ∙ ap₂ (λ (a b : List ℕ). a ++ b) ((same-exactly (take 8 line) channel_word).0 word) (settings-split settings seed both);
      seed_is = writes (field settings) 4294967295 seed;
      lost_is = lost-writes settings seed both;
      repeated_is = repeated-writes settings seed both;
    }

-- ---- a module

-- a list by its first two
first_two : (l : List ℕ) → 2 ≤ length l → l ≡ get_or l 0 0 ∷ get_or l 1 0 ∷ drop 2 l
first_two [] h = absurd (omega arith)
first_two (a ∷ []) h = absurd (omega arith)
first_two (a ∷ b ∷ l) h = refl

opening-so : (l : List ℕ) → is_opening l ≡ true
    → (length l ≡ 10) × (49 ≤ get_or l 0 0) × (get_or l 0 0 ≤ 56) × (get_or l 1 0 ≡ 32) × (all_digits (drop 2 l) ≡ true)
unfolding begins_opening
opening-so l e =
    let a = both_hold {a = begins_opening l} e in
    let b = both_hold {a = eqb (length l) 10} a.0 in
    let d = both_hold {a = leb 49 (get_or l 0 0)} b.1 in
    let f = both_hold {a = leb (get_or l 0 0) 56} d.1 in
    (eqb-true (length l) 10 b.0, leb-true 49 (get_or l 0 0) d.0, leb-true (get_or l 0 0) 56 f.0, eqb-true (get_or l 1 0) 32 f.1, a.1)

module _ (line room : List ℕ) (held : is_held line room ≡ true) where
  abbrev opening : List ℕ
  opening = take 10 line

  first-same : get_or opening 0 0 ≡ get_or line 0 0
  first-same = get_or-take 10 line 0 0 (omega arith)

  opening-form : opening ≡ (48 + (socket_in line).0) ∷ 32 ∷ drop 2 opening
  opening-form =
      let o = opening-so opening (held-so line room held).0 in
      first_two opening (omega (arith, o.0))
      ∙ ap₂ (λ (x y : ℕ). x ∷ y ∷ drop 2 opening) (omega (arith, first-same, o.1)) o.3

  message-form : drop 10 line ≡ 32 ∷ message_digits line
  message-form =
      let h = held-so line room held in
      drop-cons line 10 0 (omega (arith, length-drop 11 line, h.4)) ∙ ap (λ (x : ℕ). x ∷ message_digits line) h.1

  module-said : SaysModule line room (socket_in line) (id_in opening) (length (message_digits line) / 2)
  module-said =
      let h = held-so line room held in
      let o = opening-so opening h.0 in
      record {
        id_text = drop 2 opening;
        message = message_digits line;
        form = sym (take-append-drop 10 line) ∙ ap₂ (λ (a b : List ℕ). a ++ b) opening-form message-form;
        socket_fits = (omega (arith, first-same, o.1), omega (arith, first-same, o.2));
        id_digits = (omega (arith, length-drop 2 opening, o.0), o.4);
        id_is = refl;
        message_digits = h.2;
        count_is = refl;
        count_fits = (h.4, h.5, h.6);
      }

module _ (socket : ℕ) (id message room : List ℕ) (low : 1 ≤ socket) (high : socket ≤ 8) (eight : length id ≡ 8) where
  abbrev text : List ℕ
  text = module_line socket id message

  not-passed : is_passed text ≡ false
  not-passed = first-decides (48 + socket) (32 ∷ (id ++ (32 ∷ message))) ∙ ne_eqb (48 + socket) 35 (λ e. omega arith)

  not-channel : is_channel text ≡ false
  not-channel = rw (ne_eqb (48 + socket) 99 (λ e. omega arith))

  ten : take 10 text ≡ (48 + socket) ∷ 32 ∷ id
  ten = rw (take_at id (32 ∷ message) 8 eight)

  space : get_or text 10 0 ≡ 32
  space = get_or_at id 32 message 0 8 eight

  rest : message_digits text ≡ message
  rest = rw (← (append_snoc id 32 message)) (drop_at (id ++ (32 ∷ [])) message 9 (omega (arith, length-append id (32 ∷ []))))

  begins : begins_opening ((48 + socket) ∷ 32 ∷ id) ≡ true
  unfolding begins_opening
  begins =
      holds-both (eq-eqb (length ((48 + socket) ∷ 32 ∷ id)) 10 (omega arith))
      (rw (le-leb 49 (48 + socket) (omega arith), le-leb (48 + socket) 56 (omega arith)))

  module _ (digits : all_digits id ≡ true) (hexadecimal : is_hexadecimal message ≡ true)
      (some : 1 ≤ length message / 2) (few : length message / 2 ≤ 1469) (fits : length message / 2 ≤ length room) where
    holds : is_held text room ≡ true
    holds =
        rw (rest, space, hexadecimal, le-leb 1 (length message / 2) some, le-leb (length message / 2) 1469 few, le-leb (length message / 2) (length room) fits)
        (rw (ap is_opening ten, begins, digits))

    text-read : (line_of text room ≡ Module (record { 0 = socket }) (big32 (octets_of id) 0) (length message / 2))
        × (room_after text room ≡ octets_of message ++ drop (length message / 2) room)
    unfolding line_of room_after module_of module_room
    text-read =
        let e : 48 + socket - 48 ≡ socket = omega arith in
        rw (not-passed, not-channel, holds)
        (rw (e, rest, ap id_in ten), rw rest (write-start room (octets_of message) ∙ rw (length-octets message)))

pub module-read : (line room : List ℕ) {socket : Socket} {id count : ℕ} (said : SaysModule line room socket id count)
    → (line_of line room ≡ Module socket id count) × (room_after line room ≡ octets_of said.message ++ drop count room)
module-read line room {socket} {id} {count} said =
    let n = said.count_is in
    let read =
    text-read socket.0 said.id_text said.message room said.socket_fits.0 said.socket_fits.1 said.id_digits.0
    said.id_digits.1 said.message_digits (omega (arith, said.count_fits)) (omega (arith, said.count_fits)) (omega (arith, said.count_fits)) in
    subst (λ (l : List ℕ). (line_of l room ≡ Module socket id count) × (room_after l room ≡ octets_of said.message ++ drop count room)) (sym said.form)
    (rw (said.id_is, n) at read)

-- ---- every line

-- a line is of one of the forms, or says nothing that is known
pub data View (line room : List ℕ) : Type 0 where
  nothing : SaysNothing line → View line room
  channel : {seed lost repeated : ℕ} → SaysChannel line seed lost repeated → View line room
  module-of : {socket : Socket} {id count : ℕ} → SaysModule line room socket id count → View line room
  neither : line_of line room ≡ Other → room_after line room ≡ room → View line room

module _ (line room : List ℕ) where
  pub passed-read : SaysNothing line → (line_of line room ≡ Passed) × (room_after line room ≡ room)
  unfolding line_of room_after
  passed-read said = rw (passes line said) (refl, refl)

  pub channel-room : {seed lost repeated : ℕ} → SaysChannel line seed lost repeated → room_after line room ≡ room
  unfolding room_after
  channel-room said =
      let rest = numbers said.seed_text said.lost_text said.repeated_text in
      rw (said.form, first-decides 99 (drop 1 channel_word ++ rest))

  module _ (p : is_passed line ≡ false) where
    view-channel : is_channel line ≡ true → View line room
    unfolding line_of room_after settings_of rates_of
    view-channel word =
        let settings = drop 8 line in
        cases (is_decimal (field settings) 4294967295)
        (λ s. cases (is_decimal (field (behind settings)) 100 && is_decimal (behind (behind settings)) 100)
        (λ r. channel (channel-said line word s r))
        (λ r. neither (rw (p, word, s, r)) (rw (p, word))))
        (λ s. neither (rw (p, word, s)) (rw (p, word)))

    view-module : is_channel line ≡ false → View line room
    unfolding line_of room_after module_of module_room
    view-module word =
        cases (is_held line room) (λ h. module-of (module-said line room h)) (λ h. neither (rw (p, word, h)) (rw (p, word, h)))

  pub view : View line room
  view = cases (is_passed line) (λ p. nothing (nothing_said line p)) (λ p. cases (is_channel line) (view-channel p) (view-module p))
