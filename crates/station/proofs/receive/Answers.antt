-- 11, 14, then by the record that has the frame's Link ID (`received-found`).
use borrow.Author.Rules.{rules}
use lib.ListN.{length}
use mathlib.Core.Path.{◌∙◌, ◌≡◌, ap, sym}
use Rattle.links.specs.Links.{find}
use Rattle.pb_adv.specs.Frame.{link_id}
use Rattle.station.proofs.Laws.{place-below, received-bad, received-found, received-small}
use Rattle.station.proofs.receive.Goals as goal

pub returns-then-area-ne-AREA_LENGTH : goal.returns-then-area-ne-AREA_LENGTH
returns-then-area-ne-AREA_LENGTH c =
    let a = c.args in
    let n : length a.links ≡ 8 = search rules in
    let e = received-small a.links a.area.now a.frame.now n c.if-area-ne-AREA_LENGTH.true in
    (simp (e, c.refuse_call.ensures), simp e)

pub offset_bounds-links-place : goal.offset_bounds-links-place
offset_bounds-links-place c =
    let b = place-below c.args.links (search rules) _ _ c.find_link-found.ensures _ c.place_of-place.ensures in
    search rules

pub bounds-links-place : goal.bounds-links-place
bounds-links-place c =
    place-below c.args.links (search rules) _ _ c.find_link-found.ensures _ c.place_of-place.ensures

pub step_at-stepped-requires : goal.step_at-stepped-requires
step_at-stepped-requires c =
    (place-below c.args.links (search rules) _ _ c.find_link-found.ensures _ c.place_of-place.ensures, c.if-area-ne-AREA_LENGTH.false)

pub offset_bounds-links-place-2 : goal.offset_bounds-links-place-2
offset_bounds-links-place-2 c =
    let b = place-below c.args.links (search rules) _ _ c.find_link-found.ensures _ c.place_of-place.ensures in
    search rules

pub bounds-links-place-2 : goal.bounds-links-place-2
bounds-links-place-2 c =
    place-below c.args.links (search rules) _ _ c.find_link-found.ensures _ c.place_of-place.ensures

pub returns : goal.returns
returns c =
    let a = c.args in
    let n : length a.links ≡ 8 = search rules in
    let f : find a.links (link_id a.frame.now) ≡ c.find_link-found.result = ap (find a.links) (sym c.read32.ensures) ∙ sym c.find_link-found.ensures in
    let e = received-found a.links a.area.now a.frame.now n c.if-area-ne-AREA_LENGTH.false (sym c.is_good.ensures ∙ c.if-not-is_good.false) c.find_link-found.result f in
    let st = c.step_at-stepped in
    (rw (e, ← c.place_of-place.ensures, st.ensures.0), rw (e, ← c.place_of-place.ensures) st.ensures.1)

pub returns-then-not-is_good : goal.returns-then-not-is_good
returns-then-not-is_good c =
    let a = c.args in
    let n : length a.links ≡ 8 = search rules in
    let e = received-bad a.links a.area.now a.frame.now n c.if-area-ne-AREA_LENGTH.false (sym c.is_good.ensures ∙ c.if-not-is_good.true) in
    (simp (e, c.refuse_call-then-not-is_good.ensures), simp e)
