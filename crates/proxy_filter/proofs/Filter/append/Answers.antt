-- With room and without.
use borrow.Author.Rules.{rules}
use lib.ListN.{length}
use mathlib.Core.Path.{◌≡◌}
use Rattle.proxy_filter.proofs.Holding.{no_room, room}
use Rattle.proxy_filter.proofs.Filter.append.Goals as goal

pub returns-then-count-ge16 : goal.returns-then-count-ge16
returns-then-count-ge16 c =
    let f = c.args.self in
    let n : length f.entries ≡ 16 = search rules in
    no_room f n c.requires _ c.if-count-ge16.true

pub returns : goal.returns
returns c =
    let f = c.args.self in
    let n : length f.entries ≡ 16 = search rules in
    room f n c.requires c.args.address c.if-count-ge16.false
