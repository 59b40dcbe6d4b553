use Rattle.std.proofs.Common.{◌≡◌, ◌+◌, refl, ap, sym, subst, ◌∙◌}
use Rattle.u_terms.specs.Syntax.{U}
use Rattle.u_rules.specs.Terms.{◌⊗◌, ◌⊕◌, O, S}
use Rattle.u_moves.specs.Derivations.{IsKnown}
use Rattle.u_moves.proofs.derivations.Whole.{if-ok}
use Rattle.u_congruence.specs.Congruence.{IsFromTo}
use Rattle.u_normal.specs.Leading.{Leads}
use Rattle.u_normal.specs.Taking.{load}
use Rattle.u_normal.specs.Heads.{IsHeaded}
use Rattle.u_normal.proofs.terms.KnownParts.{known-left, known-right, known-body}
use Rattle.u_normal.proofs.derivations.Led.{leads-to}
use Rattle.u_normal.proofs.products.Finishes.{headed-Zero, headed-Add, headed-Sum}
use Rattle.u_normal.proofs.heads.over_part.Goals as goal

pub distributed-requires-clause-a : goal.distributed-requires-clause-a
distributed-requires-clause-a c =
    subst (λ (u : U). IsKnown 0 c.args.moves.outs u) (sym c.get.ensures) (known-left c.args.moves.outs 0 c.in-Add.a c.in-Add.b (subst (λ (u : U). IsKnown 0 c.args.moves.outs u) c.in-Add.is c.requires.part))

pub distributed-requires-clause-b : goal.distributed-requires-clause-b
distributed-requires-clause-b c =
    subst (λ (u : U). IsKnown 0 c.args.moves.outs u) (sym c.get-in-Add.ensures) (known-right c.args.moves.outs 0 c.in-Add.a c.in-Add.b (subst (λ (u : U). IsKnown 0 c.args.moves.outs u) c.in-Add.is c.requires.part))

pub drawn_in-requires-clause-f : goal.drawn_in-requires-clause-f
drawn_in-requires-clause-f c =
    subst (λ (u : U). IsKnown 1 c.args.moves.outs u) (sym c.get-in-Sum.ensures) (known-body c.args.moves.outs c.in-Sum.f (subst (λ (u : U). IsKnown 0 c.args.moves.outs u) c.in-Sum.is c.requires.part))

pub returns-in-Zero : goal.returns-in-Zero
returns-in-Zero c =
    if-ok (IsFromTo c.args.moves.facts.now c.args.moves.outs (c.args.rest.now ⊗ O) O)
    (Leads (IsHeaded (load c.args.rest.now + load c.args.part.now)) c.args.moves.facts.now c.args.moves.outs (c.args.rest.now ⊗ c.args.part.now))
    (leads-to (IsHeaded (load c.args.rest.now + load c.args.part.now)) c.args.moves.facts.now c.args.moves.facts.now c.args.moves.outs c.args.moves.outs (c.args.rest.now ⊗ c.args.part.now) (c.args.rest.now ⊗ O) O
    refl refl (ap (λ (u : U). c.args.rest.now ⊗ u) (sym c.in-Zero.is)) (headed-Zero c.args.rest.now c.args.part.now O c.in-Zero.is refl))
    c.zero_product.result c.zero_product.ensures

pub returns-in-Add : goal.returns-in-Add
returns-in-Add c =
    let e : c.args.part.now ≡ c.get.result.now ⊕ c.get-in-Add.result.now = c.in-Add.is ∙ ap (λ (u : U). u ⊕ c.in-Add.b) (sym c.get.ensures) ∙ ap (λ (u : U). c.get.result.now ⊕ u) (sym c.get-in-Add.ensures) in
    if-ok (IsFromTo c.args.moves.facts.now c.args.moves.outs (c.args.rest.now ⊗ (c.get.result.now ⊕ c.get-in-Add.result.now)) (c.args.rest.now ⊗ c.get.result.now ⊕ c.args.rest.now ⊗ c.get-in-Add.result.now))
    (Leads (IsHeaded (load c.args.rest.now + load c.args.part.now)) c.args.moves.facts.now c.args.moves.outs (c.args.rest.now ⊗ c.args.part.now))
    (leads-to (IsHeaded (load c.args.rest.now + load c.args.part.now)) c.args.moves.facts.now c.args.moves.facts.now c.args.moves.outs c.args.moves.outs (c.args.rest.now ⊗ c.args.part.now)
    (c.args.rest.now ⊗ (c.get.result.now ⊕ c.get-in-Add.result.now)) (c.args.rest.now ⊗ c.get.result.now ⊕ c.args.rest.now ⊗ c.get-in-Add.result.now)
    refl refl (ap (λ (u : U). c.args.rest.now ⊗ u) (sym e)) (headed-Add c.args.rest.now c.args.part.now c.get.result.now c.get-in-Add.result.now (c.args.rest.now ⊗ c.get.result.now ⊕ c.args.rest.now ⊗ c.get-in-Add.result.now) e refl))
    c.distributed.result c.distributed.ensures

pub returns-in-Sum : goal.returns-in-Sum
returns-in-Sum c =
    let e : c.args.part.now ≡ S c.get-in-Sum.result.now = c.in-Sum.is ∙ ap (λ (u : U). S u) (sym c.get-in-Sum.ensures) in
    if-ok (IsFromTo c.args.moves.facts.now c.args.moves.outs (c.args.rest.now ⊗ S c.get-in-Sum.result.now) (S (c.args.rest.now ⊗ c.get-in-Sum.result.now)))
    (Leads (IsHeaded (load c.args.rest.now + load c.args.part.now)) c.args.moves.facts.now c.args.moves.outs (c.args.rest.now ⊗ c.args.part.now))
    (leads-to (IsHeaded (load c.args.rest.now + load c.args.part.now)) c.args.moves.facts.now c.args.moves.facts.now c.args.moves.outs c.args.moves.outs (c.args.rest.now ⊗ c.args.part.now)
    (c.args.rest.now ⊗ S c.get-in-Sum.result.now) (S (c.args.rest.now ⊗ c.get-in-Sum.result.now))
    refl refl (ap (λ (u : U). c.args.rest.now ⊗ u) (sym e)) (headed-Sum c.args.rest.now c.args.part.now c.get-in-Sum.result.now (S (c.args.rest.now ⊗ c.get-in-Sum.result.now)) e refl))
    c.drawn_in.result c.drawn_in.ensures
