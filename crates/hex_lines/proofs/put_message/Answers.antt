use Prim.Native.Nat.{suc, ◌+◌, ◌*◌, ◌≤◌}
use lib.ListN.{length}
use mathlib.Core.Path.{◌≡◌, refl, sym, ap, ◌∙◌}
use native.Mathlib.Omega.{arith}
use Rattle.hex_lines.proofs.Laws.{no_lines, all_lines, lines-turn, lines-within, text-long}
use Rattle.hex_lines.specs.Lines.{message_text, with_next}
use Rattle.hex_lines.specs.Steps.{segment_line}
use Rattle.octets.proofs.Parts.{write-nothing}
use Rattle.octets.proofs.Writing.{written-fits, output-fits, output-short}
use Rattle.transactions.specs.Numbers.{number_after}
use Rattle.transactions.specs.Segments.{seg_n}
use Rattle.hex_lines.proofs.put_message.Goals as goal
use Rattle.hex_lines.proofs.put_message.Goals.{After-last_segment-last, In-loop-index, else-loop-index-test, then-loop-index-test+else-index-last}
use Rattle.std.specs.Prelude.{ℕ, Result}
use Rattle.octets.specs.declared.WrongArgument.{WrongArgument}

-- the length that is computed is the text's
long : (c : After-last_segment-last) → let n = c.last_segment-last.result in
    length (message_text c.args.number c.args.message.now) ≡ 2 * (length c.args.message.now + 9 + 6 * n) + n + 1
long c = rw c.last_segment-last.ensures (text-long c.args.number c.args.message.now c.requires.0)

-- in the loop there is such a segment, and room for its line
room : (c : In-loop-index) → let l = c.loop-index in
    let a = c.args in
    (l.index ≤ seg_n (length a.message.now)) × (l.at + length (segment_line a.number a.message.now l.index) ≤ length a.output.now)
room c =
    let l = c.loop-index in
    let index : l.index ≤ seg_n (length c.args.message.now) = omega (arith, c.last_segment-last.ensures) in
    (index, omega (arith, lines-within c.args.number c.args.message.now c.requires.0 l.index index, text-long c.args.number c.args.message.now c.requires.0, c.last_segment-last.ensures))

pub returns-then-output-length : goal.returns-then-output-length
returns-then-output-length c =
    let a = c.args in
    let short = output-short (message_text a.number a.message.now) a.output.now (omega (arith, long (goal.at.returns-then-output-length c).After-last_segment-last)) in
    (ap (λ (w : Result ℕ WrongArgument). with_next w (number_after a.number)) short.0, short.1)

pub loop-index-init : goal.loop-index-init
loop-index-init c =
    let a = c.args in
    rw (no_lines a.number a.message.now) (refl, refl, sym (write-nothing a.output.now 0))

pub put_line-at-requires : goal.put_line-at-requires
put_line-at-requires c =
    let r = room (goal.at.put_line-at-requires c).In-loop-index in
    record { segment = record { some-octets = c.requires.0; few-octets = c.requires.1; index = r.0 }; room = omega (arith, c.loop-index.invariant.0) }

pub loop-index-preserved : goal.loop-index-preserved
loop-index-preserved c =
    let w = c.put_line-at in
    let l = c.loop-index in
    let a = c.args in
    let turn = lines-turn a.number a.message.now a.output.now l.output l.at l.index l.invariant.1 l.invariant.2 (omega (arith, room (goal.at.loop-index-preserved c).In-loop-index)) in
    (omega (arith, w.auto), w.ensures.0 ∙ turn.0, w.ensures.1 ∙ turn.1)

pub returns : goal.returns
returns c =
    let l = c.loop-index in
    let p = (goal.at.returns c).After-last_segment-last in
    let a = c.args in
    let text = message_text a.number a.message.now in
    let fits : length text ≤ length a.output.now = omega (arith, long p) in
    let last : c.last_segment-last.result ≡ seg_n (length a.message.now) = c.last_segment-last.ensures in (
      rw (c.next.ensures, ← (long p), written-fits text a.output.now fits),
      elim c.loop-index-test.branch [
        | else-loop-index-test w ↦ absurd (omega (arith, w.loop-index-test.false))
        | then-loop-index-test+else-index-last w ↦
            let done : l.index + 1 ≡ suc (seg_n (length a.message.now)) = omega (arith, last) in
            let few : l.index ≤ seg_n (length a.message.now) = omega (arith, last) in
            let room : l.at + length (segment_line a.number a.message.now l.index) ≤ length a.output.now = omega (arith, lines-within a.number a.message.now c.requires.0 l.index few, text-long a.number a.message.now c.requires.0, last) in
            let turn = lines-turn a.number a.message.now a.output.now l.output l.at l.index l.invariant.1 l.invariant.2 (omega (arith, room)) in
            w.output-is ∙ w.put_line-at.ensures.1 ∙ turn.1 ∙ rw (done, all_lines a.number a.message.now) (sym (output-fits text a.output.now fits))
      ],
    )
