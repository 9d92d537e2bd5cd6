-- A text behind what waits, and sockets one after the other.
use Prim.Native.Nat.{ℕ, zero, suc, ◌+◌, ◌-◌, ◌≤◌, min}
use native.Mathlib.Omega.{arith}
use mathlib.Core.Bool.{true}
use mathlib.Core.List.{List, []}
use mathlib.Core.Path.{◌≡◌, refl, sym, ◌∙◌}
use lib.Dec.{leb}
use lib.ListN.{length, take}
use lib.Seq.{take_all}
use borrow.Author.Tests.{le-leb, leb-true, leb-false}
use Rattle.octets.specs.Parts.{write}
use Rattle.octets.specs.Writing.{written, output_after}
use Rattle.octets.proofs.Parts.{write-nothing}
use Rattle.octets.proofs.Tests.{cases}
use Rattle.lines.specs.declared.Streams.{Streams}
use Rattle.lines.proofs.Laws.{behind, behind-long}
use Rattle.import_tray.specs.Trays.{report_text, last_report}
use Rattle.import_tray.specs.declared.Tray.{Tray}
use Rattle.import_capabilities.specs.Turns.{RowWaits, SocketsPut}
use Rattle.import_capabilities.specs.Turns.SocketsPut.{more}
use Rattle.std.specs.Prelude.{Ok}

-- an output that nothing is written to
pub no_text : (output : List ℕ) → (Ok 0 ≡ written true [] output) × (output ≡ output_after true [] output)
unfolding written output_after
no_text output = rw (le-leb 0 (length output) (omega arith)) (refl, sym (write-nothing output 0))

-- ---- a text of at most 315 characters

text-fits : (text output : List ℕ) → length text ≤ 315 → 315 ≤ length output
    → (written true text output ≡ Ok (length text)) × (output_after true text output ≡ write output 0 text)
unfolding written output_after
text-fits text output h room = rw (le-leb (length text) (length output) (omega arith)) (refl, refl)

-- behind the text that waits, with room for any row
pub text-put : (output : List ℕ) (at : ℕ) → at + 315 ≤ length output → (text : List ℕ) → length text ≤ 315
    → (written true text (behind output at) ≡ Ok (length text)) × (output_after true text (behind output at) ≡ write (behind output at) 0 text)
text-put output at fits text short = text-fits text (behind output at) short (omega (arith, behind-long output at (omega arith)))

-- ---- one socket more

pub sockets-more : {tray : Tray} {s before r : Streams} {output between after : List ℕ} (k : ℕ) → 1 ≤ k → SocketsPut tray s output (k - 1) before between
    → RowWaits before between (report_text (last_report tray (record { 0 = k }))) r after → SocketsPut tray s output (k + 1 - 1) r after
sockets-more zero h m t = absurd (omega arith)
sockets-more (suc n) h m t =
    let e : suc n - 1 ≡ n = omega arith in
    let f : suc n + 1 - 1 ≡ suc n = omega arith in
    rw f (more (rw e at m) t)

-- ---- the characters that are held

pub held-within : (characters : List ℕ) (count : ℕ) → length characters ≡ 64 → take (min count 64) characters ≡ take count characters
held-within characters count long =
    cases (leb count 64) (λ e. let m : min count 64 ≡ count = omega (arith, leb-true count 64 e) in rw m)
    (λ e. let b = leb-false count 64 e in
    let m : min count 64 ≡ 64 = omega arith in
    rw m (take_all 64 characters (omega arith) ∙ sym (take_all count characters (omega arith))))
