use native.Mathlib.Omega.{arith}
use Prim.Native.Nat.{◌≤◌}
use mathlib.Core.Path.{◌≡◌, ap, ◌∙◌}
use lib.ListN.{length}
use Rattle.octets.proofs.Parts.{write-length}
use Rattle.octets.proofs.Writing.{written-fits, output-fits}
use Rattle.lines.specs.Streams.{waiting_after}
use Rattle.lines.proofs.Laws.{waits-too}
use Rattle.stock_table.specs.Columns.{header_line}
use borrow.Author.Rules.{rules}
use Rattle.import_capabilities.proofs.begin.Goals as goal

pub returns : goal.returns
returns c =
    let output = c.args.output.now in
    let w = c.write_header-answer in
    let room : length output ≡ 65536 = search rules in
    let long : length header_line ≤ length output = omega (arith, w.ensures.2, room) in
    let put = w.ensures.1 ∙ output-fits header_line output long in
    let kept = ap length put ∙ write-length output 0 header_line (omega arith) in
    let waits = rw (c.start.ensures, w.ensures.0, written-fits header_line output long) at c.waits.ensures in
    let count : waiting_after 0 w.new.output (length header_line) ≡ length header_line = waits-too 0 w.new.output (length header_line) (omega arith) ∙ omega arith in
    record {
      streams = rw count at waits;
      line = c.empty_line.ensures;
      log = c.new_log.ensures;
      put = put;
    }
