-- A frame as it was heard: the receiving call, and what is written of its answer. Quotations are of `docs/IMPORT.md`.
use Rattle.std.specs.Prelude.{ℕ, ◌+◌, ◌*◌, Bool, false, ◌&&◌, cond, List, eqb, get_or, None, Option, Some, Result, Ok, Err}
use Rattle.links.specs.declared.Answer.{Answer}
use Rattle.pb_adv.specs.declared.Frame.{Frame}
use Rattle.pb_adv.specs.declared.FrameRefusal.{FrameRefusal}
use Rattle.octets.specs.Parts.{part}
use Rattle.pb_adv.specs.Frame.{parsed}
use Rattle.pb_adv.specs.declared.Frame.TheVariants as P
use Rattle.transactions.specs.declared.TransactionNumber.{TransactionNumber}
use Rattle.links.specs.Links.{provisioner, refusal_number}
use Rattle.links.specs.declared.Refusal.{Refusal}
use Rattle.links.specs.Station.{Station, no_link, received}
use Rattle.links.specs.Promises.{addressed}
use Rattle.links.specs.declared.Link.{Link}
use Rattle.provisioning.specs.Message.{message_read}
use Rattle.stock_table.specs.Rows.{refused_row}
use Rattle.stock_table.specs.declared.Row.{Row}
use Rattle.import_tray.specs.Trays.{station_of, with_links, step_to, nothing_after}
use Rattle.import_tray.specs.declared.Tray.{Tray}
use Rattle.import_tray.specs.declared.Step.{Step}
use Rattle.import_messages.specs.Messages.{message_step}
use Rattle.import_frames.specs.Origins.{outcome_of, frame_origin}
use Rattle.import_frames.specs.declared.Delivery.{Delivery}

-- ---- refusals

-- the next sending number of the record that was found
abbrev pub next_of : List Link → Option ℕ → TransactionNumber
next_of links (Some s) = (get_or links s no_link).next
next_of links None = no_link.next

-- "Two refusals are repeats that every radio brings [..]: 12 of an acknowledgement heard whose number is one less than the link's next sending number;
-- and 3 of a Close heard."
abbrev pub is_repeat : TransactionNumber → Result Frame FrameRefusal → Refusal → Bool
is_repeat next (Ok (P.Segment s)) r = false
is_repeat next (Ok (P.Acknowledgement id t)) r = eqb (refusal_number r) 12 && eqb (t.0 + 1) next.0
is_repeat next (Ok (P.Open id uuid)) r = false
is_repeat next (Ok (P.Ack id)) r = false
is_repeat next (Ok (P.Close id reason)) r = eqb (refusal_number r) 3
is_repeat next (Err f) r = false

-- what is written of a refusal, with the records before the frame
abbrev pub refused_report : List Link → Result Frame FrameRefusal → ℕ → Refusal → Option Row
refused_report links p line r =
    let found : Option ℕ = addressed provisioner links p in
    cond (is_repeat (next_of links found) p r) None (Some (refused_row line (frame_origin found p) (refusal_number r)))

-- ---- deliveries

-- a delivery of n octets: the message stands at the start of the part of the record that was found
abbrev pub delivered_step : Option ℕ → Result Frame FrameRefusal → Tray → List ℕ → ℕ → ℕ → Step
delivered_step (Some s) p tray area line n = message_step tray s line (frame_origin (Some s) p) (message_read (part area (1469 * s) n))
delivered_step None p tray area line n = nothing_after tray

-- ---- a frame

-- by what the answer comes to: the records before it, and the tray and the lent area after it
abbrev pub heard_by : Result (Option Delivery) Refusal → List Link → Result Frame FrameRefusal → Tray → List ℕ → ℕ → Step
heard_by (Err r) links p tray area line = step_to tray (refused_report links p line r)
heard_by (Ok (Some d)) links p tray area line = delivered_step (addressed provisioner links p) p tray area line d.length
heard_by (Ok None) links p tray area line = nothing_after tray

-- A FRAME HEARD, in the line of that number
unfoldable pub heard_step : Tray → List ℕ → ℕ → List ℕ → Step
heard_step tray area line f =
    let r : Result Answer Refusal × Station = received provisioner (station_of tray area) f in
    heard_by (outcome_of r.0) tray.links (parsed f) (with_links tray r.1.links) r.1.area line

-- the lent area after it
unfoldable pub heard_area : Tray → List ℕ → List ℕ → List ℕ
heard_area tray area f = (received provisioner (station_of tray area) f).1.area
