-- A state that isn't bad. "Bad are: two records in use with one Link ID; a free or opening record otherwise not blank; a number outside its
-- half; a half-received message without segment 0, with none missing, with L or marks out of range, or numbered as the last delivered."
use Rattle.std.specs.Prelude.{Bool, true, false, ◌&&◌, not, List, [], ◌∷◌, eqb, Option, Some, None}
use Rattle.transactions.specs.declared.TransactionNumber.{TransactionNumber}
use Rattle.std.specs.List.{list_all}
use Rattle.octets.specs.Lengths.{is_length}
use Rattle.transactions.specs.Segments.{seg_n}
use Rattle.links.specs.Marks.{is_marked, all_marked, none_above}
use Rattle.links.specs.Links.{peer, sends, first_number, is_last, in_use}
use Rattle.links.specs.declared.Side.{Side}
use Rattle.links.specs.declared.Side.TheVariants.{Provisioner, Device}
use Rattle.links.specs.declared.LinkState.{LinkState}
use Rattle.links.specs.declared.LinkState.TheVariants as S
use Rattle.links.specs.declared.HalfMessage.{HalfMessage}
use Rattle.links.specs.declared.Link.{Link}

-- the half-received message: a number of the peer's half, L in range, not numbered as the last delivered, segment 0 in, one missing, no mark
-- above SegN
unfoldable pub good_message : Side → Option TransactionNumber → HalfMessage → Bool
good_message side last h =
    sends (peer side) h.number
    && (is_length h.length
    && (not (is_last last h.number)
    && (is_marked h.marks 0
    && (not (all_marked (seg_n h.length) h.marks)
    && none_above (seg_n h.length) h.marks))))

abbrev pub good_half : Side → Option TransactionNumber → Option HalfMessage → Bool
good_half side last None = true
good_half side last (Some h) = good_message side last h

-- the last delivered number: of the peer's half
abbrev pub good_last : Side → Option TransactionNumber → Bool
good_last side None = true
good_last side (Some t) = sends (peer side) t

abbrev pub is_nothing : Option TransactionNumber → Bool
is_nothing None = true
is_nothing (Some t) = false

abbrev pub is_empty : Option HalfMessage → Bool
is_empty None = true
is_empty (Some h) = false

-- "sending from 0x00, nothing outstanding, last delivered or half-received"; from 0x80 at a device's end
abbrev pub at_rest : Side → Link → Bool
at_rest side l = eqb l.next.0 (first_number side).0 && (not l.outstanding && (is_nothing l.last && is_empty l.half))

-- a record by its state; the device's end has none that is opening
abbrev pub good_as : Side → LinkState → Link → Bool
good_as side S.Free l = eqb l.id 0 && at_rest side l
good_as Provisioner S.Opening l = at_rest Provisioner l
good_as Device S.Opening l = false
good_as side S.Open l = sends side l.next && (good_last side l.last && good_half side l.last l.half)

abbrev pub good_link : Side → Link → Bool
good_link side l = good_as side l.state l

-- two records that don't have one Link ID in use
abbrev pub apart : Link → Link → Bool
apart a b = not (in_use a.state && (in_use b.state && eqb a.id b.id))

-- no two of the records have one Link ID in use
abbrev pub all_apart : List Link → Bool
all_apart [] = true
all_apart (l ∷ ls) = list_all (apart l) ls && all_apart ls

-- A STATE THAT ISN'T BAD
unfoldable pub good : Side → List Link → Bool
good side ls = list_all (good_link side) ls && all_apart ls
