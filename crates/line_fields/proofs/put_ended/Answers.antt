use Prim.Native.Nat.{◌+◌, ◌-◌}
use native.Mathlib.Omega.{arith}
use mathlib.Core.Path.{◌≡◌}
use lib.ListN.{length}
use lib.Seq.{length-take-le}
use Rattle.line_fields.specs.Lines.{text_in}
use Rattle.line_fields.proofs.Laws.{range-write}
use Rattle.octets.proofs.Parts.{write-octet}
use borrow.Author.Rules.{rules}
use Rattle.line_fields.proofs.put_ended.Goals as goal

pub returns : goal.returns
returns c =
    let a = c.args in
    let x = a.characters in
    let room : length x.text ≡ 20 = search rules in
    let long : length (text_in x) ≡ x.length = length-take-le x.length x.text (omega (arith, c.requires)) in
    let put : c.copy_from_slice.new.self ≡ text_in x = c.copy_from_slice.ensures.after in
    let range = range-write a.line.now (text_in x) a.at (a.at + x.length - a.at) (omega (arith, long)) in
    (omega arith, rw (put, range) (rw long at (write-octet a.line.now a.at (text_in x) a.end (omega (arith, long, c.requires)))))
