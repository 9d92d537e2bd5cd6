-- What stays, case by case.
use mathlib.Core.Path.{◌≡◌, refl}
use Rattle.links.specs.declared.Answer.{Answer}
use Rattle.std.specs.Prelude.{Result, Ok, Err}
use Rattle.links.specs.declared.Link.{Link}
use Rattle.links.specs.declared.Refusal.{Refusal}
use Rattle.links.specs.declared.Refusal.TheVariants as R
use Rattle.links.specs.declared.Answer.TheVariants as A
use Rattle.rehearsal_hosts.specs.Hosts.{station_refused, begun_by}
use Rattle.rehearsal_hosts.specs.declared.StationHost.{StationHost}
use Rattle.rehearsal_hosts.specs.declared.DeviceHost.{DeviceHost}

-- a refusal leaves the acknowledgements that are due
pub refused-same : (h : StationHost) (r : Refusal) → (station_refused h r).acknowledgements ≡ h.acknowledgements
refused-same h R.UnknownLink = refl
refused-same h R.Malformed = refl
refused-same h R.UnknownOpcode = refl
refused-same h R.NotOpen = refl
refused-same h R.WrongDirection = refl
refused-same h R.NotBegun = refl
refused-same h R.Mismatch = refl
refused-same h R.WrongCheck = refl
refused-same h R.SocketInUse = refl
refused-same h R.LinkIdInUse = refl
refused-same h R.WrongArgument = refl
refused-same h R.NotOutstanding = refl
refused-same h R.Outstanding = refl
refused-same h R.BadState = refl
refused-same h R.OtherUuid = refl
refused-same h R.Busy = refl

-- what a device has to send of acknowledgements and Acks stays when it begins its message
pub begun-same : (h : DeviceHost) (link : Link) (a : Result Answer Refusal) → ((begun_by h link a).acknowledgements ≡ h.acknowledgements) × ((begun_by h link a).acks ≡ h.acks)
begun-same h link (Err r) = (refl, refl)
begun-same h link (Ok A.AcknowledgeAgain) = (refl, refl)
begun-same h link (Ok A.Kept) = (refl, refl)
begun-same h link (Ok A.Repeat) = (refl, refl)
begun-same h link (Ok (A.Delivered n t)) = (refl, refl)
begun-same h link (Ok A.Opened) = (refl, refl)
begun-same h link (Ok A.Already) = (refl, refl)
begun-same h link (Ok (A.Closed reason)) = (refl, refl)
begun-same h link (Ok A.Acknowledged) = (refl, refl)
begun-same h link (Ok (A.Sending t last)) = (refl, refl)
begun-same h link (Ok A.Done) = (refl, refl)
