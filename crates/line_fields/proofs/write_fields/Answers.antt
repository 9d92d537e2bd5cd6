use Prim.Native.Nat.{◌+◌}
use mathlib.Core.List.{[], ◌∷◌, ◌++◌, map}
use lib.ListN.{length, get_or, length-append}
use lib.Seq.{length-take-le}
use mathlib.Core.Path.{◌≡◌, ◌∙◌}
use native.Mathlib.Omega.{arith}
use Rattle.line_fields.proofs.Laws.{text_at, texts-long, begun-next, begun_all, holds-long}
use Rattle.line_fields.specs.Lines.{field_text}
use Rattle.line_fields.specs.declared.Field.TheVariants.{Empty}
use borrow.Author.Rules.{rules}
use Rattle.line_fields.proofs.write_fields.Goals as goal

pub loop-i-preserved : goal.loop-i-preserved
loop-i-preserved c =
    let w = c.put_ended-at in
    let f = c.field_text in
    let l = c.loop-i in
    let fields = c.args.fields in
    let sized : length fields ≡ 15 = search rules in
    let ts = map field_text fields in
    let field = get_or fields l.i Empty in
    let n : length ts ≡ 15 = texts-long fields ∙ sized in
    let here : get_or ts l.i [] ≡ field_text field = text_at fields l.i Empty (omega (arith, sized, c.loop-i-test.true)) in
    let end = c.end_of in
    let room : length f.result.text ≡ 20 = search rules in
    let long = holds-long f.result (field_text field) room f.ensures in
    let next : w.result ≡ l.at + length (field_text field ++ (end.result ∷ [])) = omega (arith, w.ensures.0, long, length-append (field_text field) (end.result ∷ [])) in
    let after = rw f.ensures.0 at w.ensures.1 in (
      w.auto.line ∙ l.invariant.0,
      omega (arith, w.ensures.0, f.ensures.1, l.invariant.1),
      begun-next ts _ l.line l.at l.i w.result w.new.line (omega (arith, n))
          (rw (here, n, ← end.ensures) next) (rw (here, n, ← end.ensures) after) (omega (arith, w.ensures.0, f.ensures.1, l.invariant)) l.invariant.2,
    )

pub returns : goal.returns
returns c =
    let l = c.loop-i in
    let fields = c.args.fields in
    let sized : length fields ≡ 15 = search rules in
    let t = begun_all (map field_text fields) _ l.line l.at l.i (omega (arith, texts-long fields, sized, c.loop-i-test.false)) (omega (arith, l.invariant)) l.invariant.2 in
    let w = c.write_text.ensures in
    rw (← t.1) (w.0, w.1, omega (arith, length-take-le l.at l.line (omega (arith, l.invariant)), l.invariant))
