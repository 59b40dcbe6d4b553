use Rattle.std.proofs.Common.{rules, ◌≡◌, ◌-◌, ◌<◌, List, [], ◌∷◌, refl, length, take, drop, sym, subst, arith}
use Rattle.std.proofs.lemmas.List.Elements.{All-take, All-drop}
use Rattle.std.specs.Prelude.{IfSome}
use Rattle.std.proofs.lemmas.Option.{MatchOption-at_none}
use Rattle.std.proofs.lemmas.Result.{IfOk-weaker}
use Rattle.u_terms.specs.Syntax.{U}
use Rattle.u_moves.specs.Derivations.{IsKnown}
use Rattle.u_normal.proofs.terms.KnownParts.{known-zero}
use Rattle.u_bag.specs.declared.pairs.Pair.{Pair}
use Rattle.u_bag.specs.Pairs.{HasPairing, lefts_of}
use Rattle.u_bag.specs.Shapes.{SomeHasTooManySums}
use Rattle.u_bag.specs.Sums.{IsFromPairs, IsKnownPair}
use Rattle.u_bag.proofs.costs.GainedCosts.{if-some}
use Rattle.u_bag.proofs.pairing.Paired.{first-and-others, only-pair, others-too-many}
use Rattle.u_bag.proofs.costs.SumCosts.{beside-costs, no-pairs-costs, one-costs}
use Rattle.u_bag.specs.Costs.{KeepsAddedCosts, KeepsPairingCosts}
use Rattle.u_bag.proofs.sums.+added_pairs.Goals as goal

pub still-requires : goal.still-requires
still-requires t c = subst (λ (u : U). IsKnown 0 c.args.moves.outs u) (sym (c.in_ok-new-in-empty.ensures {u = tt})) (known-zero c.args.moves.outs)

pub added_pairs-requires : goal.added_pairs-requires
added_pairs-requires t c = (
  search rules,
  (
    All-take (IsKnownPair c.args.moves.outs) (length c.args.pairs.now - 1) (drop 1 c.args.pairs.now) (All-drop (IsKnownPair c.args.moves.outs) 1 c.args.pairs.now c.requires.known),
    All-take HasPairing (length c.args.pairs.now - 1) (drop 1 c.args.pairs.now) (All-drop HasPairing 1 c.args.pairs.now c.requires.paired),
  ),
)

pub returns-in_default-2-clause-leads : goal.returns-in_default-2-clause-leads
returns-in_default-2-clause-leads t c =
    let rest = take (length c.args.pairs.now - 1) (drop 1 c.args.pairs.now) in
    others-too-many c.args.pairs.now c.pair-item-2.result (omega (arith, c.in-len1-up.len_at_least)) c.pair-item-2.is
    (MatchOption-at_none (SomeHasTooManySums (lefts_of rest)) (IsFromPairs c.args.moves.facts.now c.args.moves.outs rest) c.in_default-2.is c.in_ok-others-in-len1-up.ensures.leads)

pub returns-in_ok-still-in-empty-clause-costs : goal.returns-in_ok-still-in-empty-clause-costs
returns-in_ok-still-in-empty-clause-costs t c = no-pairs-costs c.args.moves.outs c.args.pairs.now c.in_ok-still-in-empty.field-0 (none c.args.pairs.now (c.in-empty.len_below))
  where
    none : (ps : List Pair) → length ps < 1 → ps ≡ []
    none [] less = refl
    none (p ∷ ps) less = absurd (omega (arith, less))

pub returns-in-len1-clause-costs : goal.returns-in-len1-clause-costs
returns-in-len1-clause-costs t c =
    let outs = c.args.moves.outs in
    let pair = c.pair-item.result in
    IfOk-weaker c.paired.result (λ o. IfSome o (KeepsPairingCosts outs pair.left.now pair.right.now)) (λ o. IfSome o (KeepsAddedCosts outs c.args.pairs.now))
    (if-some (KeepsPairingCosts outs pair.left.now pair.right.now) (KeepsAddedCosts outs c.args.pairs.now)
    (λ d h. one-costs outs c.args.pairs.now pair d (only-pair c.args.pairs.now pair (omega (arith, c.in-len1.len_at_least, c.in-len1.len_below)) c.pair-item.is) h)) c.paired.ensures.costs

pub returns-in_ok-added-in-len1-up-clause-costs : goal.returns-in_ok-added-in-len1-up-clause-costs
returns-in_ok-added-in-len1-up-clause-costs t c =
    let outs = c.args.moves.outs in
    let pair = c.pair-item-2.result in
    let rest = take (length c.args.pairs.now - 1) (drop 1 c.args.pairs.now) in
    beside-costs outs c.args.pairs.now rest pair c.in-Some.first c.in-Some-2.others c.in_ok-added-in-len1-up.field-0
    (first-and-others c.args.pairs.now pair (omega (arith, c.in-len1-up.len_at_least)) c.pair-item-2.is) (omega arith)
    (subst (λ o. IfSome o (KeepsPairingCosts outs pair.left.now pair.right.now)) c.in-Some.is c.in_ok-first-in-len1-up.ensures.costs)
    (subst (λ o. IfSome o (KeepsAddedCosts outs rest)) c.in-Some-2.is c.in_ok-others-in-len1-up.ensures.costs) c.in_ok-added-in-len1-up.ensures.costs
