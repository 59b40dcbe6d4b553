use Rattle.std.proofs.Common.{◌≡◌, ℕ, length, length-append, sym, subst, ◌∙◌, arith}
use Rattle.std.specs.Prelude.{get_or}
use Rattle.std.proofs.lemmas.Slice.Zip.{zip_turn, zip_end}
use Rattle.u_terms.specs.declared.term.Val.TheVariants as v
use Rattle.u_bag.specs.Order.{IsRowSent}
use Rattle.u_bag.proofs.pairing.Ordered.{column-left, column-sent}
use Rattle.u_bag.proofs.order.send_row.Goals as goal

pub bounds-sources-to : goal.bounds-sources-to
bounds-sources-to c =
    let turn = zip_turn c.args.row.now c.args.other.now c.loop-from.yielded c.into_iter-from-iterator.result c.loop-from.from-iterator c.next.new.self c.next.result (cc) (cc)
    c.loop-from.yielded_by (c.in-Some.from, c.in-Some.to) c.in-Some.is c.next.ensures.steps in
    let at = c.in-Some-both_places.ensures {u = tt} in
    let low = c.requires.below c.in-Some-both_places.from c.in-Some-both_places.to
    (record { place = length c.loop-from.yielded; is_first = turn.0; at_from = sym (turn.2 (v.Lit 0)) ∙ at.0; at_to = sym (turn.3 (v.Lit 0)) ∙ at.1 }) in
    omega (arith, low, c.loop-from.auto.sources)

pub loop-from-preserved-in-Some-both_places : goal.loop-from-preserved-in-Some-both_places
loop-from-preserved-in-Some-both_places c =
    let turn = zip_turn c.args.row.now c.args.other.now c.loop-from.yielded c.into_iter-from-iterator.result c.loop-from.from-iterator c.next.new.self c.next.result (cc) (cc)
    c.loop-from.yielded_by (c.in-Some.from, c.in-Some.to) c.in-Some.is c.next.ensures.steps in
    let at = c.in-Some-both_places.ensures {u = tt} in
    let from : get_or c.args.row.now (length c.loop-from.yielded) (v.Lit 0) ≡ v.Bound c.in-Some-both_places.from = sym (turn.2 (v.Lit 0)) ∙ at.0 in
    let to : get_or c.args.other.now (length c.loop-from.yielded) (v.Lit 0) ≡ v.Bound c.in-Some-both_places.to = sym (turn.3 (v.Lit 0)) ∙ at.1 in
    let low = c.requires.below c.in-Some-both_places.from c.in-Some-both_places.to (record { place = length c.loop-from.yielded; is_first = turn.0; at_from = from; at_to = to }) in
    rw length-append (column-sent c.args.row.now c.args.other.now (length c.loop-from.yielded) c.in-Some-both_places.from c.in-Some-both_places.to c.args.sources.now c.loop-from.sources
    c.requires.one turn.0 from to (omega (arith, low, c.loop-from.auto.sources)) c.loop-from.invariant)

pub loop-from-preserved : goal.loop-from-preserved
loop-from-preserved c =
    let turn = zip_turn c.args.row.now c.args.other.now c.loop-from.yielded c.into_iter-from-iterator.result c.loop-from.from-iterator c.next.new.self c.next.result (cc) (cc)
    c.loop-from.yielded_by (c.in-Some.from, c.in-Some.to) c.in-Some.is c.next.ensures.steps in
    rw length-append (column-left c.args.row.now c.args.other.now (length c.loop-from.yielded) c.args.sources.now c.loop-from.sources
    (λ from to at_from at_to. c.in_default.ensures {u = tt} from to (turn.2 (v.Lit 0) ∙ at_from) (turn.3 (v.Lit 0) ∙ at_to)) c.loop-from.invariant)

pub returns : goal.returns
returns c =
    let end = zip_end c.args.row.now c.args.other.now c.loop-from.yielded c.into_iter-from-iterator.result c.loop-from.from-iterator c.next.new.self c.next.result (cc) (cc)
    c.loop-from.yielded_by c.in-None.is c.next.ensures.steps in
    subst (λ (n : ℕ). IsRowSent c.args.row.now c.args.other.now n c.args.sources.now c.loop-from.sources) (omega (arith, end, c.requires.long)) c.loop-from.invariant
