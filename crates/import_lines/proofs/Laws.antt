-- Laws of a line of a log: what the reading of its digits tells, and frames that are too long.
use Rattle.std.specs.Prelude.{Some, None, Result, Err}
use Rattle.links.specs.declared.Answer.{Answer}
use Rattle.links.specs.declared.Refusal.{Refusal}
use Prim.Native.Nat.{ℕ, ◌/◌, ◌≤◌, ◌<◌}
use native.Mathlib.Omega.{arith}
use mathlib.Core.Bool.{true, false}
use mathlib.Core.List.{List, [], ◌∷◌}
use mathlib.Core.Path.{◌≡◌, refl, ap}
use lib.Dec.{leb, eqb}
use lib.Pointwise.{pointwise}
use Rattle.std.proofs.Common.{nat_eq}
use lib.ListN.{length, take}
use borrow.Author.Tests.{le-leb, lt-leb, leb-true, leb-false}
use Rattle.octets.proofs.Tests.{cases, both_hold}
use Rattle.hexadecimal.specs.Hex.{is_hexadecimal, octets_of, decoded_of, decoded_output}
use Rattle.std.specs.Prelude.{Ok, Err}
use Rattle.hexadecimal.specs.declared.DecodeError.TheVariants.{TooLong}
use Rattle.hexadecimal.proofs.Laws.{length-octets}
use Rattle.hexadecimal.proofs.Readings.{read-long, read-octets, read-front}
use Rattle.log_lines.specs.Lines.{is_frame, is_marked_sent, is_opening, socket_in, id_in, opening_of}
use Rattle.log_lines.specs.declared.Opening.{Opening}
use Rattle.pb_adv.specs.Frame.{parsed}
use Rattle.pb_adv.specs.declared.FrameRefusal.TheVariants.{Malformed}
use Rattle.links.specs.Links.{provisioner}
use Rattle.links.specs.Station.{Station, received}
use Rattle.import_tray.specs.Trays.{station_of}
use Rattle.import_tray.specs.declared.Tray.{Tray}
use Rattle.import_frames.specs.Heard.{heard_step, heard_area}
use Rattle.import_frames.specs.Sent.{sent_step}
use Rattle.import_lines.specs.Lines.{opened_step, plain_step, other_step, held_frame}

-- ---- frames

-- a hexadecimal line with an octet is a frame, and one without is none
pub frame-line : (line : List ℕ) → is_hexadecimal line ≡ true → 1 ≤ length line / 2 → is_frame line ≡ true
frame-line line p h = rw (p, le-leb 2 (length line) (omega arith))

pub empty-line : (line : List ℕ) → length line / 2 ≡ 0 → is_frame line ≡ false
empty-line line h = rw (lt-leb 2 (length line) (omega arith)) (cases (is_hexadecimal line) (λ p. rw p) (λ p. rw p))

frame-length : (line : List ℕ) → is_frame line ≡ true → 2 ≤ length line
frame-length line p = leb-true 2 (length line) (both_hold {a = is_hexadecimal line} p).1

pub no-frame : (line : List ℕ) → is_hexadecimal line ≡ false → is_frame line ≡ false
no-frame line p = rw p

parsed-long : (f : List ℕ) → 30 ≤ length f → parsed f ≡ Err Malformed
unfolding parsed
parsed-long f h = rw (le-leb 6 (length f) (omega arith), lt-leb (length f) 29 (omega arith))

-- frames that are too long all do the same, whatever they hold: heard, 1 after 11 and 14
same_received : (σ : Station) (f g : List ℕ) → 30 ≤ length f → 30 ≤ length g → received provisioner σ f ≡ received provisioner σ g
unfolding received
same_received σ f g p q = rw (parsed-long f p, parsed-long g q)

pub long-frames : (tray : Tray) (area : List ℕ) (number : ℕ) (f g : List ℕ) → 30 ≤ length f → 30 ≤ length g
    → (heard_step tray area number f ≡ heard_step tray area number g) × (heard_area tray area f ≡ heard_area tray area g)
unfolding heard_step heard_area
long-frames tray area number f g p q =
    let e = same_received (station_of tray area) f g p q in
    (rw (e, parsed-long f p, parsed-long g q), ap (λ (r : Result Answer Refusal × Station). r.1.area) e)

-- sent, 1
pub long-sent : (tray : Tray) (number : ℕ) (f g : List ℕ) → 30 ≤ length f → 30 ≤ length g → sent_step tray number f ≡ sent_step tray number g
unfolding sent_step
long-sent tray number f g p q = rw (parsed-long f p, parsed-long g q)

-- ---- frames in a room of 30

module _ (line room : List ℕ) where
  held_whole : is_frame line ≡ true → length line / 2 ≤ length room → held_frame line room ≡ octets_of line
  unfolding held_frame
  held_whole p h = rw (p, le-leb (length line / 2) (length room) h)

  held-long : is_frame line ≡ true → length room < length line / 2 → held_frame line room ≡ room
  unfolding held_frame
  held-long p h = rw (p, lt-leb (length line / 2) (length room) h)

  held_none : is_frame line ≡ false → held_frame line room ≡ []
  unfolding held_frame
  held_none p = rw p

  -- by what the reading tells
  pub held-octets : {n : ℕ} → decoded_of line room ≡ Ok n
      → (n ≡ length (held_frame line room)) × (take n (decoded_output line room) ≡ held_frame line room)
  held-octets {n} e =
      let r = read-octets line room e in
      cases (leb 1 n)
      (λ q. let one = leb-true 1 n q in
      rw (held_whole (frame-line line r.0 (omega arith)) (omega arith)) (read-front line room e))
      (λ q. let few = leb-false 1 n q in
      let zero : n ≡ 0 = omega arith in
      rw (held_none (empty-line line (omega arith)), zero) (refl, refl))

  pub held-room : decoded_of line room ≡ Err TooLong → (held_frame line room ≡ room) × (decoded_output line room ≡ room)
  held-room e = let r = read-long line room e in (held-long (frame-line line r.0 (omega (arith, r.1))) r.1, r.2)

  pub held-is-frame : (length (held_frame line room) ≡ 0 → ⊥) → is_frame line ≡ true
  held-is-frame some = cases (is_frame line) (λ p. p) (λ p. absurd (some (rw (held_none p))))

  module _ (thirty : length room ≡ 30) where
    pub held-no-frame : length (held_frame line room) ≡ 0 → is_frame line ≡ false
    held-no-frame =
        cases (is_frame line)
        (λ p. let two = frame-length line p in
        cases (leb (length line / 2) (length room))
        (λ q. let few = leb-true (length line / 2) (length room) q in
        rw (held_whole p few) (λ e. absurd (omega (arith, length-octets line))))
        (λ q. let many = leb-false (length line / 2) (length room) q in
        rw (held-long p many) (λ e. absurd (omega arith))))
        (λ p e. p)

    -- what is held of a frame does the same as the frame, heard or sent
    pub held_same : is_frame line ≡ true → (tray : Tray) (area : List ℕ) (number : ℕ)
        → (heard_step tray area number (held_frame line room) ≡ heard_step tray area number (octets_of line))
        × (heard_area tray area (held_frame line room) ≡ heard_area tray area (octets_of line))
        × (sent_step tray number (held_frame line room) ≡ sent_step tray number (octets_of line))
    held_same p tray area number =
        cases (leb (length line / 2) (length room))
        (λ q. rw (held_whole p (leb-true (length line / 2) (length room) q)) (refl, refl, refl))
        (λ q. let many = leb-false (length line / 2) (length room) q in
        let long : 30 ≤ length (octets_of line) = omega (arith, length-octets line) in
        let heard = long-frames tray area number room (octets_of line) (omega arith) long in
        rw (held-long p many) (heard.0, heard.1, long-sent tray number room (octets_of line) (omega arith) long))

-- ---- the mark of a frame that was sent

-- a line begins with the mark where its first character is the mark
pub marked-front : (line : List ℕ) → pointwise nat_eq (take 1 line) (62 ∷ []) ≡ is_marked_sent line
marked-front [] = refl
marked-front (c ∷ line) = cases (eqb c 62) (λ e. rw e) (λ e. rw e)

-- ---- openings

-- a line that is no frame, by what it says as an opening
module _ (line : List ℕ) where
  pub opened-line : {o : Opening} → opening_of line ≡ Some o → (tray : Tray) (number : ℕ) → other_step tray number line ≡ opened_step tray number o.socket o.id
  unfolding opening_of other_step
  opened-line {o} =
      cases (is_opening line)
      (λ p. rw p (λ e. let same : record { socket = socket_in line; id = id_in line } ≡ o = cc in
      λ tray number. rw (← same)))
      (λ p. rw p (λ e. let z : ◌≡◌ {A = ℕ} 0 1 = cc in absurd (omega arith)))

  pub unopened-line : opening_of line ≡ None → (tray : Tray) (number : ℕ) → other_step tray number line ≡ plain_step tray number line
  unfolding opening_of other_step
  unopened-line =
      cases (is_opening line)
      (λ p. rw p (λ e. let z : ◌≡◌ {A = ℕ} 0 1 = cc in absurd (omega arith)))
      (λ p. rw p (λ e tray number. refl))
