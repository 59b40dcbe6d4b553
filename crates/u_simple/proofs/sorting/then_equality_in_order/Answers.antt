use Rattle.std.proofs.Common.{◌≡◌, ap, sym, subst, ◌∙◌}
use Rattle.u_terms.specs.Syntax.{U, Val}
use Rattle.u_terms.specs.declared.facts.Facts.{Facts}
use Rattle.u_rules.specs.Terms.{◌≐◌}
use Rattle.u_moves.specs.Derivations.{Derivation, IsKnown, IsSound}
use Rattle.u_congruence.specs.Congruence.{IsBy}
use Rattle.u_normal.proofs.terms.KnownParts.{to-known}
use Rattle.u_simple.proofs.Known.{known-first, known-second}
use Rattle.u_simple.proofs.sorting.then_equality_in_order.Goals as goal

-- an equality that is lent from a derivation as its last term
known-lent : (F : Facts) (outs : _) (d lent : Derivation) (to : U) (a b : Val) → IsBy F outs d → lent ≡ d → IsSound lent → to ≡ lent.to → to ≡ a ≐ b → IsKnown 0 outs (a ≐ b)
known-lent F outs d lent to a b by e sound is equality =
    subst (λ (u : U). IsKnown 0 outs u) (sym (ap (λ (t : Derivation). t.to) e) ∙ sym is ∙ equality) (to-known F outs d by (subst (λ (t : Derivation). IsSound t) e sound))

pub sorted_equality-requires-clause-a : goal.sorted_equality-requires-clause-a
sorted_equality-requires-clause-a c =
    known-first c.args.moves.outs c.in-Eq.a c.in-Eq.b
    (known-lent c.args.moves.facts.now c.args.moves.outs c.args.d c.get.result.now c.to.result.now c.in-Eq.a c.in-Eq.b c.requires c.get.ensures c.to.ensures.sound c.to.ensures.lent c.in-Eq.is)

pub sorted_equality-requires-clause-b : goal.sorted_equality-requires-clause-b
sorted_equality-requires-clause-b c =
    known-second c.args.moves.outs c.in-Eq.a c.in-Eq.b
    (known-lent c.args.moves.facts.now c.args.moves.outs c.args.d c.get.result.now c.to.result.now c.in-Eq.a c.in-Eq.b c.requires c.get.ensures c.to.ensures.sound c.to.ensures.lent c.in-Eq.is)
