use Rattle.std.proofs.Common.{ℕ, List, true, slice_set, sym, subst}
use Rattle.u_equal.specs.Standing.{IsIn}
use Rattle.u_equal.specs.Numbered.{AreMarked, IsAdded}
use Rattle.u_equal.proofs.congruence.Added.{added-last, marked-more, marked-same}
use Rattle.u_equal.proofs.numbered.Queue.push.Goals as goal

pushed : (c : goal.After-self-1) → AreMarked c.push_back.new.self.items (slice_set c.make_place.new.marks.items c.args.number true)
pushed c =
    let old : List ℕ = c.self.inside.numbers.items in
    let number = c.args.number in
    let marks = c.make_place.new.marks.items in
    let absent = subst (λ (ns : List ℕ). IsIn number ns → ⊥) (sym c.self.view_is) (c.has.ensures.no c.if-has.false) in
    subst (λ (ns : List ℕ). AreMarked ns (slice_set marks number true)) (sym c.in_ok-push_back.ensures.items)
    (marked-more old marks (marked-same old c.self.inside.marks.items c.self.invariant marks c.make_place.ensures.same) number absent c.in_ok-make_place.ensures.place)

pub invariant_of-self-2 : goal.invariant_of-self-2
invariant_of-self-2 c = pushed c

pub returns-clause-added : goal.returns-clause-added
returns-clause-added c =
    let old : List ℕ = c.self.inside.numbers.items in
    let number = c.args.number in
    subst (λ (ns : List ℕ). IsAdded number ns c.push_back.new.self.items) c.self.view_is
    (subst (λ (ns : List ℕ). IsAdded number old ns) (sym c.in_ok-push_back.ensures.items) (added-last old number))

pub returns-clause-once : goal.returns-clause-once
returns-clause-once c = let are = pushed c in are.once
