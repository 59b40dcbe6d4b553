use Rattle.std.proofs.Common.{◌∙◌, ap}
use Rattle.std.specs.List.{list_all}
use Rattle.shapes.specs.Shapes.{Entry, entry_of}
use Rattle.shapes.specs.Tests.{columns_from}
use Rattle.bag_search.specs.Entries.{like, moved_to}
use Rattle.bag_search.proofs.sides.pair_fits.Goals as goal

pub returns : goal.returns
returns c =
    let s = c.args.sides.now.left.shape.now in
    let t = c.args.sides.now.right.shape.now in
    let one = c.args.one in
    let other = c.args.other in
    c.columns_fit.ensures
    ∙ ap (λ (e : Entry). list_all (λ p. list_all (λ q. like s t p (moved_to one.to p) q (moved_to other.to q)) (columns_from other.entry 0 c.entry_of-others.result.columns)) (columns_from one.entry 0 e.columns)) c.entry_of-columns.ensures
    ∙ ap (λ (e : Entry). list_all (λ p. list_all (λ q. like s t p (moved_to one.to p) q (moved_to other.to q)) (columns_from other.entry 0 e.columns)) (columns_from one.entry 0 (entry_of s.entries one.entry).columns)) c.entry_of-others.ensures
