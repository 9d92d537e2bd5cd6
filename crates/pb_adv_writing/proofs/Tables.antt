-- The tables of the writers of frames (`specs/Tables.antt`).
use mathlib.Core.Bool.{true}
use Rattle.octets.proofs.Writing.{writer-table}
use Rattle.pb_adv.specs.Frame.{acknowledgement_octets, open_octets, ack_octets, close_octets, is_uuid}
use Rattle.pb_adv_writing.specs.Writing.{segment_frame, is_segment}
use Rattle.pb_adv_writing.specs.Tables.{WriterTables}

pub writer-tables : WriterTables
writer-tables = record {
  segment = λ id t m k output. writer-table (is_segment m k) (segment_frame id t m k) output;
  opening = λ id uuid output. writer-table (is_uuid uuid) (open_octets id uuid) output;
  acknowledgement = λ id t output. writer-table true (acknowledgement_octets id t) output;
  ack = λ id output. writer-table true (ack_octets id) output;
  close = λ id reason output. writer-table true (close_octets id reason) output;
}
