use Rattle.stock_table.specs.Columns.{row_line}
use Rattle.stock_table.proofs.writing.write_row.Goals as goal

pub returns : goal.returns
unfolding row_line
returns c = rw c.row_fields.ensures at c.write_fields.ensures
