-- "Figures at the edges": the figures marked (P), as a single table under one claim about our definitions.
use Rattle.std.specs.Prelude.{ℕ, Bool, true, false, ◌&&◌, List, [], ◌∷◌, ◌++◌, ◌≡◌, eqb, replicate}
use Prim.Native.String.{String, compare}
use text.Mathlib.Text.{is_eq}
use Rattle.octets.specs.Numbers.{octets32}
use Rattle.octets.specs.Parts.{same}
use Rattle.octets.specs.Cut.{up_to}
use Rattle.octets.specs.Told.{Told, refused, answered}
use Rattle.fcs.specs.Fcs.{check_octet}
use Rattle.transactions.specs.Segments.{seg_n}
use Rattle.beacon.specs.Beacons.{heard, told as beacon_told}
use Rattle.beacon.specs.declared.SecurityState.{SecurityState}
use Rattle.beacon.specs.declared.Hearing.{Hearing}
use Rattle.beacon.specs.declared.Key.TheVariants.{Old}
use Rattle.beacon.specs.declared.Subnet.TheVariants.{Primary}
use Rattle.proxy.specs.Pieces.{message_pieces}
use Rattle.filter_messages.specs.Messages.{told as filter_told}
use Rattle.proxy_filter.specs.Calls.{new, controlled}
use Rattle.proxy_filter.specs.Promises.{octets_of}

-- what a figure says
pub data Figure : Type 0 where
  -- the check octet of a message
  check : List ℕ → ℕ → Figure
  -- SegN for a length L
  last : ℕ → ℕ → Figure
  -- the pieces of a message of type 0 at a proxy size
  pieces : ℕ → List ℕ → List (List ℕ) → Figure
  -- the status of a new filter to which a list of addresses was added, after one more address
  status : List ℕ → ℕ → List ℕ → Figure
  -- with IV index I known, a beacon with index B: it is not refused, and its two reports
  reports : ℕ → ℕ → List ℕ → Figure

-- whether an answer has this word and these values
abbrev pub says : Told → String → List ℕ → Bool
says (refused n) word values = false
says (answered w others) word values = is_eq (compare w word) && same others values

abbrev pub same_lists : List (List ℕ) → List (List ℕ) → Bool
same_lists [] [] = true
same_lists [] (y ∷ m) = false
same_lists (x ∷ l) [] = false
same_lists (x ∷ l) (y ∷ m) = same x y && same_lists l m

-- phase 0 and the IV index in normal operation
abbrev pub knowing : ℕ → SecurityState
knowing index = record { phase = 0; iv = record { index = index; updating = false } }

-- authentic with the old key, on the primary subnet
abbrev pub from_primary : Hearing
from_primary = record { authentic = true; key = Old; subnet = Primary }

-- "Type 1: flags 1 [..], Network ID 8, IV index 4, authentication 8"
abbrev pub beacon_of : ℕ → List ℕ
beacon_of index = 0x01 ∷ 0x00 ∷ replicate 8 0 ++ octets32 index ++ replicate 8 0

-- whether our definitions give it
abbrev pub holds : Figure → Bool
holds (check m c) = eqb (check_octet m) c
holds (last l n) = eqb (seg_n l) n
holds (pieces size m octets) = same_lists (message_pieces size 0 m) octets
holds (status l a values) = says (filter_told (controlled (controlled new (0x01 ∷ octets_of l)).filter (0x01 ∷ octets_of (a ∷ []))).answer) "status" values
holds (reports i b values) = says (beacon_told (heard (knowing i) from_primary (beacon_of b)).answer) "secure" values

abbrev pub all_hold : List Figure → Bool
all_hold [] = true
all_hold (f ∷ fs) = holds f && all_hold fs

-- THE TABLE
abbrev pub figures : List Figure
figures =
    check (0x00 ∷ []) 0x30
    ∷ check (0x00 ∷ 0x00 ∷ []) 0x14
    ∷ check (0x00 ∷ 0x05 ∷ []) 0x82
    ∷ check (0x04 ∷ []) 0x37
    ∷ check (0x08 ∷ []) 0x3E
    ∷ last 20 0
    ∷ last 21 1
    ∷ last 43 1
    ∷ last 44 2
    ∷ last 1469 63
    -- top bits 0; then 1 and 3, in the two high bits of the first octet
    ∷ pieces 20 (up_to 19) ((0x00 ∷ up_to 19) ∷ [])
    ∷ pieces 20 (up_to 20) ((0x40 ∷ up_to 19) ∷ (0xC0 ∷ 19 ∷ []) ∷ [])
    -- "A 17th address: count stays 16": after the 16th and after the 17th
    ∷ status (1 ∷ 2 ∷ 3 ∷ 4 ∷ 5 ∷ 6 ∷ 7 ∷ 8 ∷ 9 ∷ 10 ∷ 11 ∷ 12 ∷ 13 ∷ 14 ∷ 15 ∷ []) 16 (0x03 ∷ 0 ∷ 0 ∷ 16 ∷ [])
    ∷ status (1 ∷ 2 ∷ 3 ∷ 4 ∷ 5 ∷ 6 ∷ 7 ∷ 8 ∷ 9 ∷ 10 ∷ 11 ∷ 12 ∷ 13 ∷ 14 ∷ 15 ∷ 16 ∷ []) 17 (0x03 ∷ 0 ∷ 0 ∷ 16 ∷ [])
    ∷ reports 0xFFFFFFFF 0xFFFFFFFF (0 ∷ 0 ∷ [])
    ∷ []

-- THE CLAIM
abbrev pub FiguresHold : Type 0
FiguresHold = all_hold figures ≡ true
