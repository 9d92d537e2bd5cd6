-- The promises of `specs/Promises.antt`.
use Prim.Native.Nat.{ℕ, ◌+◌, ◌-◌, ◌%◌, ◌≤◌, ◌<◌}
use native.Mathlib.Omega.{arith}
use mathlib.Core.Bool.{true, false}
use mathlib.Core.List.{List, ◌∷◌}
use mathlib.Core.Path.{◌≡◌, refl, ap, ◌∙◌}
use lib.Dec.{leb, eqb}
use lib.ListN.{length}
use borrow.Author.Tests.{le-leb, ne_eqb, leb-true}
use Rattle.octets.specs.Numbers.{Octets, octets32, big32}
use Rattle.octets.proofs.Numbers.{four-octets, number-back}
use Rattle.octets.proofs.Tests.{cases, both_hold}
use Rattle.hexadecimal.specs.Hex.{is_hexadecimal, value_of, text_of}
use Rattle.hexadecimal.proofs.Laws.{length-text, text-hexadecimal, octets-back}
use Rattle.transactions.specs.Numbers.{is_socket}
use Rattle.transactions.specs.declared.Socket.{Socket}
use Rattle.log_lines.specs.Lines.{is_frame, is_opening, begins_opening, id_in, opening_text, heard_text, sent_text}
use Rattle.import_tray.specs.declared.Tray.{Tray}
use Rattle.import_frames.specs.Heard.{heard_step, heard_area}
use Rattle.import_frames.specs.Sent.{sent_step}
use Rattle.import_lines.specs.Lines.{opened_step, other_step, sent_line, unheard_step, line_step, line_area}
use Rattle.import_lines.specs.Promises.{ImportedAsWritten}

-- no digit: a text that has it is no octets
marked : (t : List ℕ) → is_hexadecimal (62 ∷ t) ≡ false
unfolding value_of
marked t = cases (eqb (length (62 ∷ t) % 2) 0) (λ e. rw e) (λ e. rw e)

spaced : (c : ℕ) (t : List ℕ) → is_hexadecimal (c ∷ 32 ∷ t) ≡ false
unfolding value_of
spaced c t =
    cases (eqb (length (c ∷ 32 ∷ t) % 2) 0)
    (λ e. rw e (cases (leb (value_of c) 15) (λ d. rw d) (λ d. rw d)))
    (λ e. rw e)

module _ (frame : List ℕ) (o : Octets frame) (some : 1 ≤ length frame) where
  is-frame : is_frame (text_of frame) ≡ true
  is-frame = rw (text-hexadecimal frame o, le-leb 2 (length (text_of frame)) (omega (arith, length-text frame)))

  module _ (tray : Tray) (area : List ℕ) (number : ℕ) where
    heard-so : (line_step tray area number (heard_text frame) ≡ heard_step tray area number frame) × (line_area tray area (heard_text frame) ≡ heard_area tray area frame)
    unfolding line_step line_area
    heard-so = rw (is-frame, octets-back frame o) (refl, refl)

    sent-so : (line_step tray area number (sent_text frame) ≡ sent_step tray number frame) × (line_area tray area (sent_text frame) ≡ area)
    unfolding line_step line_area unheard_step sent_line
    sent-so = rw (marked (text_of frame), is-frame, octets-back frame o) (refl, refl)

module _ (s : Socket) (right : is_socket s 8 ≡ true) where
  first_so : (1 ≤ s.0) × (s.0 ≤ 8)
  first_so = let r = both_hold {a = leb 1 s.0} right in (leb-true 1 s.0 r.0, leb-true s.0 8 r.1)

  socket-back : 48 + s.0 - 48 ≡ s.0
  socket-back = omega arith

  module _ (id : ℕ) (h : id < 4294967296) where
    is-opening : is_opening (opening_text s id) ≡ true
    unfolding begins_opening
    is-opening =
        rw (le-leb 49 (48 + s.0) (omega (arith, first_so)), le-leb (48 + s.0) 56 (omega (arith, first_so)))
        (both_hold {a = eqb (length (text_of (octets32 id)) % 2) 0} (text-hexadecimal (octets32 id) (four-octets id h))).1

    id-in : id_in (opening_text s id) ≡ id
    id-in = ap (λ (l : List ℕ). big32 l 0) (octets-back (octets32 id) (four-octets id h)) ∙ number-back id

    module _ (tray : Tray) (area : List ℕ) (number : ℕ) where
      opening-so : (line_step tray area number (opening_text s id) ≡ opened_step tray number s id) × (line_area tray area (opening_text s id) ≡ area)
      unfolding line_step line_area unheard_step other_step
      opening-so =
          rw (spaced (48 + s.0) (text_of (octets32 id)), ne_eqb (48 + s.0) 62 (λ e. omega (arith, first_so)), is-opening, socket-back, id-in)
          (refl, refl)

pub imported-as-written : ImportedAsWritten
imported-as-written = record {
  opening = λ tray area number s id right h. opening-so s right id h tray area number;
  heard = λ tray area number frame o some. heard-so frame o some tray area number;
  sent = λ tray area number frame o some. sent-so frame o some tray area number;
}
