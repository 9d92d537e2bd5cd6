-- The tables of the writers of frames, to be held beside document 01: the rows are those of every writer, with what is right for each. The proofs are
-- `proofs/Tables.antt`.
use Rattle.std.specs.Prelude.{ℕ, Bool, true, ◌&&◌, List, leb, eqb, length}
use Rattle.octets.specs.Tables.{ByTable}
use Rattle.octets.specs.Writing.{told, written}
use Rattle.octets.specs.Promises.{writer_rows}
use Rattle.transactions.specs.Segments.{seg_n}
use Rattle.transactions.specs.declared.TransactionNumber.{TransactionNumber}
use Rattle.pb_adv.specs.Frame.{acknowledgement_octets, open_octets, ack_octets, close_octets, is_uuid}
use Rattle.pb_adv_writing.specs.Writing.{segment_frame, is_segment}

-- 11: "index above SegN [..], message or UUID length"
abbrev pub is_right_segment : List ℕ → ℕ → Bool
is_right_segment m k = (leb 1 (length m) && leb (length m) 1469) && leb k (seg_n (length m))

abbrev pub is_right_uuid : List ℕ → Bool
is_right_uuid uuid = eqb (length uuid) 16

pub record WriterTables : Type 0 where
  pub segment : (id : ℕ) (t : TransactionNumber) (m : List ℕ) (k : ℕ) (output : List ℕ)
      → ByTable (told (written (is_segment m k) (segment_frame id t m k) output)) (writer_rows (is_right_segment m k) (segment_frame id t m k) output)
  pub opening : (id : ℕ) (uuid output : List ℕ)
      → ByTable (told (written (is_uuid uuid) (open_octets id uuid) output)) (writer_rows (is_right_uuid uuid) (open_octets id uuid) output)
  -- the others have no argument but the output that can be wrong
  pub acknowledgement : (id : ℕ) (t : TransactionNumber) (output : List ℕ)
      → ByTable (told (written true (acknowledgement_octets id t) output)) (writer_rows true (acknowledgement_octets id t) output)
  pub ack : (id : ℕ) (output : List ℕ) → ByTable (told (written true (ack_octets id) output)) (writer_rows true (ack_octets id) output)
  pub close : (id reason : ℕ) (output : List ℕ) → ByTable (told (written true (close_octets id reason) output)) (writer_rows true (close_octets id reason) output)
