use Rattle.std.proofs.Common.{List, Bool, sym, subst}
use Rattle.std.proofs.lemmas.Result.{IfOk-weaker}
use Rattle.u_terms.specs.Syntax.{Val}
use Rattle.u_rules.specs.Terms.{terms}
use Rattle.u_entail.specs.declared.carrying.Pair.{Pair}
use Rattle.u_entail.specs.declared.hops.Hop.{Hop}
use Rattle.u_entail.specs.Carrying.{AlongPairs, AreEntailed, ArePairs, PairsEither}
use Rattle.u_entail.proofs.copies.Carried.{either-entailed}
use Rattle.u_entail.proofs.copies.Copied.{exchanged-by, exchanged-copy, straight-by, straight-copy}
use Rattle.u_entail.proofs.copying.copy_mark_between.Goals as goal

pub hops_between-requires : goal.hops_between-requires
hops_between-requires c =
    let product = c.args.classes.now in
    let p = c.args.pairs.now in
    subst (λ (ps : List Pair). AreEntailed product ps) (sym c.as_slice.ensures.value) (either-entailed product p.mark.now c.args.wanted.now p.exchanged p.points.items c.requires.pairs.paired)

pub copied_difference-requires-clause-lead : goal.copied_difference-requires-clause-lead
copied_difference-requires-clause-lead c =
    let m = c.args.moves in
    let product = c.args.classes.now in
    let p = c.args.pairs.now in
    let wanted = c.args.wanted.now in
    let factors = terms c.args.factors.now in
    let hops = c.as_slice-then-pairs.result.now in
    let along = subst (λ (hs : List Hop). AlongPairs product 0 p.points.items hs) (sym c.as_slice-then-pairs.ensures.value)
    (subst (λ (ps : List Pair). AlongPairs product 0 ps c.in_ok-hops.hops.items) c.as_slice.ensures.value (c.in_ok-hops.ensures {u = tt})) in
    let paired = subst (λ (b : Bool). PairsEither product p.mark.now wanted b p.points.items) c.if-pairs.true c.requires.pairs.paired in
    exchanged-by m.facts.now m.outs product factors c.requires.begins c.args.place p.mark.now wanted c.requires.at (λ (from to : List Val). ArePairs product from p.points.items to) hops along.by paired

pub returns-then-pairs : goal.returns-then-pairs
returns-then-pairs c =
    let m = c.args.moves in
    let product = c.args.classes.now in
    let p = c.args.pairs.now in
    let wanted = c.args.wanted.now in
    let factors = terms c.args.factors.now in
    let hops = c.as_slice-then-pairs.result.now in
    let along = subst (λ (hs : List Hop). AlongPairs product 0 p.points.items hs) (sym c.as_slice-then-pairs.ensures.value)
    (subst (λ (ps : List Pair). AlongPairs product 0 ps c.in_ok-hops.hops.items) c.as_slice.ensures.value (c.in_ok-hops.ensures {u = tt})) in
    let paired = subst (λ (b : Bool). PairsEither product p.mark.now wanted b p.points.items) c.if-pairs.true c.requires.pairs.paired in
    IfOk-weaker c.copied_difference.result _ _ (λ d h. exchanged-copy m.facts.now m.outs product factors c.requires.begins c.args.place p.mark.now wanted c.requires.at (λ (from to : List Val). ArePairs product from p.points.items to) hops along.by paired d h) c.copied_difference.ensures

pub copied-requires-clause-lead : goal.copied-requires-clause-lead
copied-requires-clause-lead c =
    let m = c.args.moves in
    let product = c.args.classes.now in
    let p = c.args.pairs.now in
    let wanted = c.args.wanted.now in
    let factors = terms c.args.factors.now in
    let hops = c.as_slice-else-pairs.result.now in
    let along = subst (λ (hs : List Hop). AlongPairs product 0 p.points.items hs) (sym c.as_slice-else-pairs.ensures.value)
    (subst (λ (ps : List Pair). AlongPairs product 0 ps c.in_ok-hops.hops.items) c.as_slice.ensures.value (c.in_ok-hops.ensures {u = tt})) in
    let paired = subst (λ (b : Bool). PairsEither product p.mark.now wanted b p.points.items) c.if-pairs.false c.requires.pairs.paired in
    straight-by m.facts.now m.outs product factors c.requires.begins c.args.place p.mark.now wanted c.requires.at (λ (from to : List Val). ArePairs product from p.points.items to) hops along.by paired

pub returns : goal.returns
returns c =
    let m = c.args.moves in
    let product = c.args.classes.now in
    let p = c.args.pairs.now in
    let wanted = c.args.wanted.now in
    let factors = terms c.args.factors.now in
    let hops = c.as_slice-else-pairs.result.now in
    let along = subst (λ (hs : List Hop). AlongPairs product 0 p.points.items hs) (sym c.as_slice-else-pairs.ensures.value)
    (subst (λ (ps : List Pair). AlongPairs product 0 ps c.in_ok-hops.hops.items) c.as_slice.ensures.value (c.in_ok-hops.ensures {u = tt})) in
    let paired = subst (λ (b : Bool). PairsEither product p.mark.now wanted b p.points.items) c.if-pairs.false c.requires.pairs.paired in
    IfOk-weaker c.copied.result _ _ (λ d h. straight-copy m.facts.now m.outs product factors c.requires.begins c.args.place p.mark.now wanted c.requires.at (λ (from to : List Val). ArePairs product from p.points.items to) hops along.by paired d h) c.copied.ensures
