-- One turn of the loop takes two octets: `first-turn`, `next-turn`, `last_turn`.
use borrow.Author.Rules.{rules}
use lib.ListN.{length}
use mathlib.Core.Path.{◌≡◌, refl, ◌∙◌}
use native.Mathlib.Omega.{arith}
use Rattle.proxy_filter.proofs.Turns.{first-turn, next-turn, last_turn}
use Rattle.proxy_filter.proofs.Filter.change_all.Goals as goal

pub loop-address-init : goal.loop-address-init
loop-address-init c =
    let a = c.args in
    let n : length a.self.entries ≡ 16 = search rules in
    let whole : c.chunks_exact-address-items.result.rest.now ≡ a.octets.now = c.chunks_exact-address-items.ensures.rest in
    let two : c.chunks_exact-address-items.result.size ≡ 2 = c.chunks_exact-address-items.ensures.size in
    rw (c.into_iter-address-iterator.ensures.into_iter_gives, whole, two) (refl, first-turn a.self a.change _ c.requires n)

pub change_one-self-requires : goal.change_one-self-requires
change_one-self-requires c = c.loop-address.invariant.1.good

pub loop-address-preserved : goal.loop-address-preserved
loop-address-preserved c =
    let l = c.loop-address in
    let a = c.args in
    let p = c.in-Some.ensures.steps in (
      p.0 ∙ l.invariant.0,
      rw (c.change_one-self.ensures, c.read16.ensures)
          (next-turn a.self a.change _ l.self c.in-Some.address.now c.next.new.self.rest.now (p.1.1 ∙ l.invariant.0) (rw (← p.1.0) l.invariant.1)),
    )

pub returns : goal.returns
returns c =
    let l = c.loop-address in
    let a = c.args in
    let p = c.in-None.ensures.steps in
    last_turn a.self a.change _ l.self l.address-iterator.rest.now l.invariant.1 (omega (arith, p.1.0, l.invariant.0))
