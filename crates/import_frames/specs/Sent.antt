-- A frame as the station sent it: "A sent frame keeps the link's record as the station had it". Quotations are of `docs/IMPORT.md`.
use Rattle.std.specs.Prelude.{ℕ, Bool, not, ◌&&◌, cond, List, eqb, get_or, Option, None, Some, Result, Ok, Err}
use Rattle.links.specs.declared.Answer.{Answer}
use Rattle.pb_adv.specs.declared.Frame.{Frame}
use Rattle.pb_adv.specs.declared.FrameRefusal.{FrameRefusal}
use Rattle.pb_adv.specs.Frame.{parsed}
use Rattle.pb_adv.specs.declared.SegmentHeader.{SegmentHeader}
use Rattle.pb_adv.specs.declared.SegmentHeader.TheVariants.{Start, Continuation}
use Rattle.pb_adv.specs.declared.Frame.TheVariants as P
use Rattle.transactions.specs.declared.TransactionNumber.{TransactionNumber}
use Rattle.links.specs.Links.{provisioner, refusal_number}
use Rattle.links.specs.declared.Refusal.{Refusal}
use Rattle.links.specs.declared.Refusal.TheVariants as R
use Rattle.links.specs.Station.{no_link, frame_refusal, local_send, local_close}
use Rattle.links.specs.Promises.{addressed}
use Rattle.links.specs.declared.Side.TheVariants.{Provisioner}
use Rattle.links.specs.declared.Link.{Link}
use Rattle.stock_table.specs.Rows.{refused_row}
use Rattle.stock_table.specs.declared.Origin.{Origin}
use Rattle.import_tray.specs.Trays.{with_links, row_after, nothing_after}
use Rattle.import_tray.specs.declared.Tray.{Tray}
use Rattle.import_tray.specs.declared.Step.{Step}
use Rattle.import_frames.specs.Origins.{outcome_of, socket_at, frame_origin}
use Rattle.import_frames.specs.declared.Delivery.{Delivery}
use Rattle.import_frames.specs.declared.Asked.{Asked}
use Rattle.import_frames.specs.declared.Asked.TheVariants as A

-- ---- what it asks of the records

-- "with the link's next sending number, where that is not outstanding"
abbrev pub sends_next : Link → TransactionNumber → Bool
sends_next link t = not link.outstanding && eqb link.next.0 t.0

-- "a Start: 3 if no record in use has its Link ID; [..] the local Send of L octets [..]; every other Start is a repeat and does nothing"
abbrev pub sent_at : List Link → Option ℕ → TransactionNumber → ℕ → Result (Option Asked) Refusal
sent_at links None t n = Err R.UnknownLink
sent_at links (Some s) t n = cond (sends_next (get_or links s no_link) t) (Ok (Some (A.Send (socket_at s) n))) (Ok None)

abbrev pub segment_sent : List Link → Option ℕ → TransactionNumber → SegmentHeader → Result (Option Asked) Refusal
segment_sent links found t (Start n c) = sent_at links found t n
segment_sent links found t (Continuation k) = Ok None

-- "a Close: the local Close of the socket whose record in use has its Link ID; nothing where there is none"
abbrev pub closed_at : Option ℕ → Option Asked
closed_at None = None
closed_at (Some s) = Some (A.Close (socket_at s))

-- "It is taken apart as every frame is (1, 2)"; "every other frame does nothing"
abbrev pub sent_of : List Link → Option ℕ → Result Frame FrameRefusal → Result (Option Asked) Refusal
sent_of links found (Ok (P.Segment s)) = segment_sent links found s.number s.header
sent_of links found (Ok (P.Acknowledgement id t)) = Ok None
sent_of links found (Ok (P.Open id uuid)) = Ok None
sent_of links found (Ok (P.Ack id)) = Ok None
sent_of links found (Ok (P.Close id reason)) = Ok (closed_at found)
sent_of links found (Err r) = Err (frame_refusal r)

-- ---- what it does

-- after a local call: nothing but its refusal is written
abbrev pub local_by : Result (Option Delivery) Refusal → Tray → ℕ → Origin → Step
local_by (Err r) tray line origin = row_after tray (refused_row line origin (refusal_number r))
local_by (Ok d) tray line origin = nothing_after tray

abbrev pub local_step : Tray → ℕ → Origin → Result Answer Refusal → List Link → Step
local_step tray line origin answer links = local_by (outcome_of answer) (with_links tray links) line origin

abbrev pub called : Tray → ℕ → Origin → Result Answer Refusal × List Link → Step
called tray line origin r = local_step tray line origin r.0 r.1

abbrev pub sent_by : Result (Option Asked) Refusal → Tray → ℕ → Origin → Step
sent_by (Ok None) tray line origin = nothing_after tray
sent_by (Err r) tray line origin = row_after tray (refused_row line origin (refusal_number r))
sent_by (Ok (Some (A.Send socket n))) tray line origin = called tray line origin (local_send Provisioner tray.links socket n)
sent_by (Ok (Some (A.Close socket))) tray line origin = called tray line origin (local_close Provisioner tray.links socket)

-- A FRAME SENT, in the line of that number
unfoldable pub sent_step : Tray → ℕ → List ℕ → Step
sent_step tray line f =
    let found : Option ℕ = addressed provisioner tray.links (parsed f) in
    sent_by (sent_of tray.links found (parsed f)) tray line (frame_origin found (parsed f))
