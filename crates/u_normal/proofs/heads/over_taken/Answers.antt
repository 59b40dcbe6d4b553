use Rattle.std.proofs.Common.{◌≡◌, ℕ, ◌+◌, ap, sym, subst, ◌∙◌}
use Rattle.std.specs.Prelude.{IsPermutation}
use Rattle.u_terms.specs.Syntax.{U}
use Rattle.u_rules.specs.Terms.{◌⊗◌, mul_leaves}
use Rattle.u_moves.specs.Derivations.{IsKnown}
use Rattle.u_moves.proofs.derivations.Whole.{if-ok}
use Rattle.u_congruence.specs.Congruence.{IsFromTo}
use Rattle.u_congruence.proofs.Turned.{known-Mul}
use Rattle.u_normal.specs.Leading.{Leads}
use Rattle.u_normal.specs.Taking.{load}
use Rattle.u_normal.specs.Heads.{IsSumOrZero, IsHeaded}
use Rattle.u_normal.proofs.terms.KnownParts.{rest-known, part-known}
use Rattle.u_normal.proofs.derivations.Led.{leads-to}
use Rattle.u_normal.proofs.products.Takings.{taken-leaves, taken-load, taken-not_one, taken-not_more}
use Rattle.u_normal.proofs.products.Finishes.{sum-or_zero}
use Rattle.u_normal.proofs.heads.over_taken.Goals as goal

pub regrouped-requires-clause-known_to : goal.regrouped-requires-clause-known_to
regrouped-requires-clause-known_to c =
    let e : c.in_ok-last.last ≡ c.args.sum.now.rest ⊗ c.args.sum.now.part = c.in_ok-last.ensures {u = tt} ∙ ap (λ (u : U). u ⊗ c.get-2.result.now) c.get.ensures ∙ ap (λ (u : U). c.args.sum.now.rest ⊗ u) c.get-2.ensures in
    subst (λ (u : U). IsKnown 0 c.args.moves.outs u) (sym e)
    (known-Mul 0 c.args.moves.outs c.args.sum.now.rest c.args.sum.now.part (rest-known c.args.moves.outs c.requires.taken.takes c.requires.known) (part-known c.args.moves.outs c.requires.taken.takes c.requires.known))

pub regrouped-requires-clause-leaves : goal.regrouped-requires-clause-leaves
regrouped-requires-clause-leaves c =
    let e : c.in_ok-last.last ≡ c.args.sum.now.rest ⊗ c.args.sum.now.part = c.in_ok-last.ensures {u = tt} ∙ ap (λ (u : U). u ⊗ c.get-2.result.now) c.get.ensures ∙ ap (λ (u : U). c.args.sum.now.rest ⊗ u) c.get-2.ensures in
    subst (λ (u : U). IsPermutation (mul_leaves c.args.u.now) (mul_leaves u)) (sym e) (taken-leaves c.args.u.now c.args.sum.now.rest c.args.sum.now.part c.requires.taken.takes)

pub over_part-requires-clause-rest : goal.over_part-requires-clause-rest
over_part-requires-clause-rest c = subst (λ (u : U). IsKnown 0 c.args.moves.outs u) (sym c.get-3.ensures) (rest-known c.args.moves.outs c.requires.taken.takes c.requires.known)

pub over_part-requires-clause-part : goal.over_part-requires-clause-part
over_part-requires-clause-part c = subst (λ (u : U). IsKnown 0 c.args.moves.outs u) (sym c.get-4.ensures) (part-known c.args.moves.outs c.requires.taken.takes c.requires.known)

pub over_part-requires-clause-sum : goal.over_part-requires-clause-sum
over_part-requires-clause-sum c =
    subst (λ u. IsSumOrZero u) (sym c.get-4.ensures)
    (sum-or_zero c.args.sum.now.part (taken-not_one c.requires.taken.takes) (taken-not_more c.requires.taken.takes) c.requires.taken.kind_is)

pub returns : goal.returns
returns c =
    let turn = c.in_ok-turn.ensures {u = tt} in
    let n : load c.get-3.result.now + load c.get-4.result.now ≡ load c.args.u.now =
    ap (λ (u : U). load u + load c.get-4.result.now) c.get-3.ensures ∙ ap (λ (u : U). load c.args.sum.now.rest + load u) c.get-4.ensures ∙ taken-load c.requires.taken.takes in
    if-ok (IsFromTo c.in_ok-turn.turn.facts c.in_ok-turn.turn.outs c.in_ok-turn.turn.from c.in_ok-rest.rest.to)
    (Leads (IsHeaded (load c.args.u.now)) c.args.moves.facts.now c.args.moves.outs c.args.u.now)
    (leads-to (IsHeaded (load c.args.u.now)) c.args.moves.facts.now c.in_ok-turn.turn.facts c.args.moves.outs c.in_ok-turn.turn.outs c.args.u.now c.in_ok-turn.turn.from c.in_ok-rest.rest.to
    turn.facts turn.outs turn.from
    (subst (λ (m : ℕ). IsHeaded m c.in_ok-rest.rest.to) n (c.in_ok-rest.ensures {u = tt}).reached))
    c.joined.result c.joined.ensures.ends
