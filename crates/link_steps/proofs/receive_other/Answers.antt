-- By the Link ID (`by-id`), and the link's state for it (`id-state`).
use mathlib.Core.List.{[]}
use mathlib.Core.Path.{◌∙◌}
use Rattle.std.specs.Prelude.{Ok}
use Rattle.pb_adv.specs.Frame.{id_of}
use Rattle.links.specs.Station.{frame_step}
use Rattle.link_steps.specs.Calls.{one_link}
use Rattle.link_steps.proofs.Laws.{by-id, id-state}
use Rattle.link_steps.proofs.receive_other.Goals as goal

pub returns-in-Free : goal.returns-in-Free
unfolding frame_step
returns-in-Free c =
    let a = c.args in
    let x = one_link a.link [] in
    let e = by-id a.side x [] a.parsed ∙ id-state a.side x (id_of a.parsed) [] (Ok a.parsed) in
    simp (e, ← c.id.ensures, ← c.state_for.ensures, c.in-Free.is, c.refuse_link.ensures)

pub returns-in-Opening : goal.returns-in-Opening
returns-in-Opening c =
    let a = c.args in
    let x = one_link a.link [] in
    let e = by-id a.side x [] a.parsed ∙ id-state a.side x (id_of a.parsed) [] (Ok a.parsed) in
    simp (e, ← c.id.ensures, ← c.state_for.ensures, c.in-Opening.is, c.step_opening.ensures)

pub returns-in-Open : goal.returns-in-Open
returns-in-Open c =
    let a = c.args in
    let x = one_link a.link [] in
    let e = by-id a.side x [] a.parsed ∙ id-state a.side x (id_of a.parsed) [] (Ok a.parsed) in
    simp (e, ← c.id.ensures, ← c.state_for.ensures, c.in-Open.is, c.step_open.ensures)
