use native.Mathlib.Omega.{arith}
use Prim.Native.Nat.{◌/◌, ◌%◌, ◌<◌}
use mathlib.Core.Path.{◌≡◌, refl}
use Rattle.line_fields.specs.Lines.{word_text, field_text}
use Rattle.line_fields.proofs.Laws.{words-short}
use borrow.Author.Rules.{rules}
use Rattle.line_fields.proofs.field_text.Goals as goal

pub characters_of-requires : goal.characters_of-requires
unfolding word_text
characters_of-requires c = rw c.text.ensures (words-short c.in-Word.word)

pub returns-in-Empty : goal.returns-in-Empty
unfolding field_text
returns-in-Empty c = rw c.in-Empty.is (refl, omega arith)

pub returns-in-Word : goal.returns-in-Word
unfolding field_text word_text
returns-in-Word c = rw (c.in-Word.is, ← c.text.ensures) c.characters_of.ensures

pub returns-in-Decimal : goal.returns-in-Decimal
unfolding field_text
returns-in-Decimal c = rw c.in-Decimal.is c.decimal_text.ensures

pub returns-in-Octet : goal.returns-in-Octet
unfolding field_text
returns-in-Octet c = rw c.in-Octet.is c.hexadecimal_text.ensures

pub returns-in-Pair : goal.returns-in-Pair
unfolding field_text
returns-in-Pair c =
    let v = c.in-Pair.value in
    let small : v < 65536 = search rules in
    let e : v / 256 % 256 ≡ v / 256 = omega arith in
    rw c.in-Pair.is (rw (c.to_be_bytes.ensures, e) at c.hexadecimal_text-in-Pair.ensures)

pub returns-in-Number : goal.returns-in-Number
unfolding field_text
returns-in-Number c =
    let v = c.in-Number.value in
    let small : v < 4294967296 = search rules in
    let e : v / 16777216 % 256 ≡ v / 16777216 = omega arith in
    rw c.in-Number.is (rw (c.to_be_bytes-in-Number.ensures, e) at c.hexadecimal_text-in-Number.ensures)
