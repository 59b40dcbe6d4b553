use Rattle.std.proofs.Common.{List, ℕ, Bool, subst, arith}
use Rattle.u_equal.specs.Numbered.{AreMarked}
use Rattle.u_equal.proofs.congruence.Added.{first-within, marked-left}
use Rattle.u_equal.proofs.numbered.Queue.pop.Goals as goal

pub index_mut-requires : goal.index_mut-requires
index_mut-requires c =
    let marks : List Bool = c.self.inside.marks.items in
    let within = first-within c.in_ok-number.number c.pop_front.new.self.items marks (subst (λ (ns : List ℕ). AreMarked ns marks) c.in_ok-number.ensures.items c.self.invariant) in
    omega (arith, within)

pub invariant_of-self-2 : goal.invariant_of-self-2
invariant_of-self-2 c =
    let marks : List Bool = c.self.inside.marks.items in
    marked-left c.in_ok-number.number c.pop_front.new.self.items marks (subst (λ (ns : List ℕ). AreMarked ns marks) c.in_ok-number.ensures.items c.self.invariant)
