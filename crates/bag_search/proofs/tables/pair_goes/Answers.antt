use Rattle.std.proofs.Common.{◌∙◌, sym, subst}
use Rattle.bag_search.specs.Known.{pair_at_place, HasAnswers}
use Rattle.bag_search.proofs.KnownLaws.{one-told, pair-place}
use Rattle.bag_search.proofs.tables.pair_goes.Goals as goal

pub returns-clause-known : goal.returns-clause-known
returns-clause-known c =
    let s = c.args.sides.now.left.shape.now in
    let t = c.args.sides.now.right.shape.now in
    record {
      entries = c.requires.known.entries;
      pairs = subst (HasAnswers (pair_at_place s t)) (sym c.keep.ensures) (one-told (pair_at_place s t) c.args.known.now.pairs.items c.in-Some.place c.pair_fits-answer.result c.requires.known.pairs (c.pair_fits-answer.ensures ∙ sym (pair-place s t c.args.one c.args.other c.in-Some.place c.in-Some.ensures)));
    }
