-- A line is a message just where the reading gives octets and not none of them (`none`, `empty`, `full`); the definitions then go as the code.
use Prim.Native.Nat.{◌≤◌}
use lib.ListN.{length, take, replicate}
use mathlib.Core.Path.{◌≡◌, sym, ap, ◌∙◌}
use native.Mathlib.Omega.{arith}
use Rattle.octets.specs.Writing.{written, output_after}
use Rattle.hexadecimal.specs.Hex.{octets_of, decoded_of}
use Rattle.std.specs.Prelude.{Ok}
use Rattle.hex_lines.proofs.Laws.{read_none, read-nothing, read-message, read_count, read-front}
use Rattle.hex_lines.specs.Lines.{line_text, line_next}
use Rattle.hex_lines.proofs.write_line.Goals as goal
use Rattle.hex_lines.proofs.write_line.Goals.{In-Ok}

read : (c : In-Ok) → decoded_of c.args.line.now (replicate 1469 0) ≡ Ok c.in-Ok.n
read c = sym c.decode.ensures.0 ∙ c.in-Ok.is

counted : (c : In-Ok) → (c.in-Ok.n ≡ length (octets_of c.args.line.now)) × (c.in-Ok.n ≤ 1469)
counted c = read_count c.args.line.now (read c)

front : (c : In-Ok) → take c.in-Ok.n c.decode.new.output ≡ octets_of c.args.line.now
front c = ap (take c.in-Ok.n) c.decode.ensures.1 ∙ read-front c.args.line.now (read c)

pub returns-in_default : goal.returns-in_default
unfolding line_text line_next written output_after
returns-in_default c =
    let none = read_none c.args.line.now (λ n e. c.in_default.not-Ok n (c.decode.ensures.0 ∙ e)) in
    rw none c.put_refused.ensures

pub returns-then-n-eq0 : goal.returns-then-n-eq0
unfolding line_text line_next written output_after
returns-then-n-eq0 c =
    let empty = read-nothing c.args.line.now (read (goal.at.returns-then-n-eq0 c).In-Ok) c.if-n-eq0.true in
    rw empty c.put_refused-then-n-eq0.ensures

pub slice_bounds-message-end : goal.slice_bounds-message-end
slice_bounds-message-end c = omega (arith, counted (goal.at.slice_bounds-message-end c).In-Ok, c.decode.auto)

pub slice_bounds-put_message-end : goal.slice_bounds-put_message-end
slice_bounds-put_message-end c =
    let s = (goal.at.slice_bounds-put_message-end c).In-Ok in
    rw (front s) (counted s).0

pub returns : goal.returns
unfolding line_text line_next written output_after
returns c =
    let s = (goal.at.returns c).In-Ok in
    let full = read-message c.args.line.now (read s) (omega arith) in
    rw full (rw (front s) at c.put_message.ensures)
