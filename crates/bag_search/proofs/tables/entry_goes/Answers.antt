use Rattle.std.proofs.Common.{◌∙◌, sym, subst}
use Rattle.bag_search.specs.Known.{entry_at_place, HasAnswers}
use Rattle.bag_search.proofs.KnownLaws.{one-told, entry-place}
use Rattle.bag_search.proofs.tables.entry_goes.Goals as goal

pub returns-clause-known : goal.returns-clause-known
returns-clause-known c =
    let s = c.args.sides.now.left.shape.now in
    let t = c.args.sides.now.right.shape.now in
    record {
      entries = subst (HasAnswers (entry_at_place s t)) (sym c.keep.ensures) (one-told (entry_at_place s t) c.args.known.now.entries.items c.in-Some.place c.entry_fits-answer.result c.requires.known.entries (c.entry_fits-answer.ensures ∙ sym (entry-place s t c.args.step c.in-Some.place c.in-Some.ensures)));
      pairs = c.requires.known.pairs;
    }
