use Rattle.std.proofs.Common.{◌≡◌, List, length, ap, sym, subst, ◌∙◌}
use Rattle.std.specs.Prelude.{All}
use Rattle.std.proofs.lemmas.List.{length-map}
use Rattle.std.proofs.lemmas.Option.{MatchOption-at_none, MatchOption-at_some}
use Rattle.std.proofs.lemmas.Result.{IfOk-weaker}
use Rattle.u_terms.specs.Syntax.{U}
use Rattle.u_rules.specs.Terms.{add_leaves, terms}
use Rattle.u_bag.specs.Pairs.{AreBlocks, AreFoundAmong, ArePartners, IsOfWholeShape, SomeShapeless}
use Rattle.u_bag.proofs.pairing.SumBlocks.{are-whole, left-shapeless, pairable-long, partners-of, right-shapeless}
use Rattle.u_bag.proofs.pairs.pair_sums.Goals as goal

pub returns-then-len : goal.returns-then-len
returns-then-len c h =
    let same : length (add_leaves c.args.left.now) ≡ length (add_leaves c.args.right.now) = pairable-long c.args.outs (add_leaves c.args.left.now) (add_leaves c.args.right.now) h in
    let l : length c.in_ok-lefts.lefts ≡ length (add_leaves c.args.left.now) = sym (length-map c.in_ok-lefts.lefts (λ x. x.now)) ∙ ap length (c.in_ok-lefts.ensures {u = tt}) in
    let r : length c.in_ok-rights.rights ≡ length (add_leaves c.args.right.now) = sym (length-map c.in_ok-rights.rights (λ x. x.now)) ∙ ap length (c.in_ok-rights.ensures {u = tt}) in
    c.if-len.true (c.len.ensures ∙ l ∙ same ∙ sym r ∙ sym c.len-2.ensures)

pub returns-in_default : goal.returns-in_default
returns-in_default c =
    let l : terms c.as_slice.result.now ≡ add_leaves c.args.left.now = ap terms c.as_slice.ensures ∙ c.in_ok-lefts.ensures {u = tt} in
    left-shapeless c.args.outs (add_leaves c.args.left.now) (add_leaves c.args.right.now)
    (subst (SomeShapeless c.args.outs) l (MatchOption-at_none (SomeShapeless c.args.outs (terms c.as_slice.result.now)) (λ bs. AreBlocks c.args.outs (terms c.as_slice.result.now) bs.items) c.in_default.is (c.in_ok-lefts-2.ensures {u = tt})))

pub returns-in_default-2 : goal.returns-in_default-2
returns-in_default-2 c =
    let r : terms c.as_slice-2.result.now ≡ add_leaves c.args.right.now = ap terms c.as_slice-2.ensures ∙ c.in_ok-rights.ensures {u = tt} in
    right-shapeless c.args.outs (add_leaves c.args.left.now) (add_leaves c.args.right.now)
    (subst (SomeShapeless c.args.outs) r (MatchOption-at_none (SomeShapeless c.args.outs (terms c.as_slice-2.result.now)) (λ bs. AreBlocks c.args.outs (terms c.as_slice-2.result.now) bs.items) c.in_default-2.is (c.in_ok-rights-2.ensures {u = tt})))

pub pair_all-requires-clause-lefts : goal.pair_all-requires-clause-lefts
pair_all-requires-clause-lefts c =
    let l : terms c.as_slice.result.now ≡ add_leaves c.args.left.now = ap terms c.as_slice.ensures ∙ c.in_ok-lefts.ensures {u = tt} in
    let ls : AreBlocks c.args.outs (add_leaves c.args.left.now) c.in-Some.lefts.items =
    subst (λ (us : List U). AreBlocks c.args.outs us c.in-Some.lefts.items) l (MatchOption-at_some (SomeShapeless c.args.outs (terms c.as_slice.result.now)) (λ bs. AreBlocks c.args.outs (terms c.as_slice.result.now) bs.items) c.in-Some.lefts c.in-Some.is (c.in_ok-lefts-2.ensures {u = tt})) in
    subst (All IsOfWholeShape) (sym c.as_slice-3.ensures.value) (are-whole c.args.outs (add_leaves c.args.left.now) c.in-Some.lefts.items ls)

pub pair_all-requires-clause-rights : goal.pair_all-requires-clause-rights
pair_all-requires-clause-rights c =
    let r : terms c.as_slice-2.result.now ≡ add_leaves c.args.right.now = ap terms c.as_slice-2.ensures ∙ c.in_ok-rights.ensures {u = tt} in
    let rs : AreBlocks c.args.outs (add_leaves c.args.right.now) c.in-Some-2.rights.items =
    subst (λ (us : List U). AreBlocks c.args.outs us c.in-Some-2.rights.items) r (MatchOption-at_some (SomeShapeless c.args.outs (terms c.as_slice-2.result.now)) (λ bs. AreBlocks c.args.outs (terms c.as_slice-2.result.now) bs.items) c.in-Some-2.rights c.in-Some-2.is (c.in_ok-rights-2.ensures {u = tt})) in
    are-whole c.args.outs (add_leaves c.args.right.now) c.in-Some-2.rights.items rs

pub returns : goal.returns
returns c =
    let l : terms c.as_slice.result.now ≡ add_leaves c.args.left.now = ap terms c.as_slice.ensures ∙ c.in_ok-lefts.ensures {u = tt} in
    let r : terms c.as_slice-2.result.now ≡ add_leaves c.args.right.now = ap terms c.as_slice-2.ensures ∙ c.in_ok-rights.ensures {u = tt} in
    let ls : AreBlocks c.args.outs (add_leaves c.args.left.now) c.in-Some.lefts.items =
    subst (λ (us : List U). AreBlocks c.args.outs us c.in-Some.lefts.items) l (MatchOption-at_some (SomeShapeless c.args.outs (terms c.as_slice.result.now)) (λ bs. AreBlocks c.args.outs (terms c.as_slice.result.now) bs.items) c.in-Some.lefts c.in-Some.is (c.in_ok-lefts-2.ensures {u = tt})) in
    let rs : AreBlocks c.args.outs (add_leaves c.args.right.now) c.in-Some-2.rights.items =
    subst (λ (us : List U). AreBlocks c.args.outs us c.in-Some-2.rights.items) r (MatchOption-at_some (SomeShapeless c.args.outs (terms c.as_slice-2.result.now)) (λ bs. AreBlocks c.args.outs (terms c.as_slice-2.result.now) bs.items) c.in-Some-2.rights c.in-Some-2.is (c.in_ok-rights-2.ensures {u = tt})) in
    IfOk-weaker c.pair_all.result (AreFoundAmong c.as_slice-3.result.now c.in-Some-2.rights.items c.args.budget) (ArePartners c.args.outs (add_leaves c.args.left.now) (add_leaves c.args.right.now) c.args.budget)
    (partners-of c.args.outs (add_leaves c.args.left.now) (add_leaves c.args.right.now) c.as_slice-3.result.now c.in-Some-2.rights.items
    (subst (AreBlocks c.args.outs (add_leaves c.args.left.now)) (sym c.as_slice-3.ensures.value) ls) rs c.args.budget) c.pair_all.ensures
