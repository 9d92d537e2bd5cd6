use native.Mathlib.Omega.{arith}
use Rattle.line_fields.specs.Lines.{line_of}
use Rattle.stock_table.specs.Columns.{header_line}
use Rattle.stock_table.proofs.writing.write_header.Goals as goal

pub returns : goal.returns
unfolding header_line line_of
returns c = let w = c.write_text.ensures in (w.0, w.1, omega arith)
