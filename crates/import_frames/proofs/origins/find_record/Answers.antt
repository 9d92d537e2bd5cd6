use mathlib.Core.Path.{◌≡◌, sym}
use lib.ListN.{length}
use borrow.Author.Rules.{rules}
use Rattle.pb_adv.specs.Frame.{id_of}
use Rattle.import_frames.proofs.Laws.{by-id, found_within}
use Rattle.import_frames.proofs.origins.find_record.Goals as goal

pub returns-in-Ok : goal.returns-in-Ok
returns-in-Ok c =
    let ls = c.args.links in
    let n : length ls ≡ 8 = search rules in
    let e = rw c.id.ensures at c.find_link.ensures in
    rw (c.in-Ok.is, by-id ls c.in-Ok.frame) (e, found_within ls (id_of c.in-Ok.frame) n _ (sym e))
