use mathlib.Core.Path.{refl}
use Rattle.line_fields.proofs.Word.text.Goals as goal

pub returns-in-Record : goal.returns-in-Record
returns-in-Record c = rw c.in-Record.is refl

pub returns-in-Repeated : goal.returns-in-Repeated
returns-in-Repeated c = rw c.in-Repeated.is refl

pub returns-in-Conflict : goal.returns-in-Conflict
returns-in-Conflict c = rw c.in-Conflict.is refl

pub returns-in-Message : goal.returns-in-Message
returns-in-Message c = rw c.in-Message.is refl

pub returns-in-Refused : goal.returns-in-Refused
returns-in-Refused c = rw c.in-Refused.is refl

pub returns-in-Missing : goal.returns-in-Missing
returns-in-Missing c = rw c.in-Missing.is refl

pub returns-in-Unopened : goal.returns-in-Unopened
returns-in-Unopened c = rw c.in-Unopened.is refl

pub returns-in-End : goal.returns-in-End
returns-in-End c = rw c.in-End.is refl

pub returns-in-Invite : goal.returns-in-Invite
returns-in-Invite c = rw c.in-Invite.is refl

pub returns-in-Capabilities : goal.returns-in-Capabilities
returns-in-Capabilities c = rw c.in-Capabilities.is refl

pub returns-in-Start : goal.returns-in-Start
returns-in-Start c = rw c.in-Start.is refl

pub returns-in-PublicKey : goal.returns-in-PublicKey
returns-in-PublicKey c = rw c.in-PublicKey.is refl

pub returns-in-InputComplete : goal.returns-in-InputComplete
returns-in-InputComplete c = rw c.in-InputComplete.is refl

pub returns-in-Confirmation : goal.returns-in-Confirmation
returns-in-Confirmation c = rw c.in-Confirmation.is refl

pub returns-in-Random : goal.returns-in-Random
returns-in-Random c = rw c.in-Random.is refl

pub returns-in-Data : goal.returns-in-Data
returns-in-Data c = rw c.in-Data.is refl

pub returns-in-Complete : goal.returns-in-Complete
returns-in-Complete c = rw c.in-Complete.is refl

pub returns-in-Failed : goal.returns-in-Failed
returns-in-Failed c = rw c.in-Failed.is refl
