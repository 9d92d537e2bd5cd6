use borrow.Author.Rules.{rules}
use lib.ListN.{length}
use mathlib.Core.Path.{◌≡◌}
use native.Mathlib.Omega.{arith}
use Rattle.proxy_filter.proofs.Holding.{good-count, taken_out}
use Rattle.proxy_filter.proofs.Filter.remove_at.Goals as goal

pub close_place-self-requires : goal.close_place-self-requires
close_place-self-requires c = let n = good-count c.args.self c.requires.0 in omega arith

pub returns : goal.returns
returns c =
    let f = c.args.self in
    let p = c.requires in
    let n : length f.entries ≡ 16 = search rules in
    rw c.close_place-self.ensures (taken_out f n p.0 c.args.at p.1)
