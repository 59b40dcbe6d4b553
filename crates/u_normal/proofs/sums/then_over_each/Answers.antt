use Rattle.std.proofs.Common.{◌≡◌, ap, sym, subst, refl, ◌∙◌}
use Rattle.u_terms.specs.Syntax.{U}
use Rattle.u_terms.proofs.Parts.{parts-Sum}
use Rattle.u_rules.specs.Terms.{S}
use Rattle.u_moves.specs.Derivations.{Derivation, IsKnown, IsSound}
use Rattle.u_moves.proofs.derivations.Whole.{if-ok}
use Rattle.u_congruence.specs.Congruence.{IsFromTo}
use Rattle.u_normal.specs.Leading.{Leads}
use Rattle.u_normal.specs.Summing.{IsBlockSum, over_each}
use Rattle.u_normal.proofs.terms.KnownParts.{known-body, to-known}
use Rattle.u_normal.proofs.derivations.Led.{leads-to}
use Rattle.u_normal.proofs.products.Blocks.{over-blocks}
use Rattle.u_normal.proofs.sums.then_over_each.Goals as goal

pub over_each-requires : goal.over_each-requires
over_each-requires c =
    let e : c.args.d.to ≡ S c.in-Sum.f = ap (λ (d : Derivation). d.to) (sym c.get.ensures) ∙ sym c.to.ensures.lent ∙ c.in-Sum.is in
    subst (λ (u : U). IsKnown 1 c.args.moves.outs u) (sym c.get-in-Sum.ensures)
    (known-body c.args.moves.outs c.in-Sum.f
    (subst (λ (u : U). IsKnown 0 c.args.moves.outs u) e
    (to-known c.args.moves.facts.now c.args.moves.outs c.args.d c.requires.by (subst (λ (d : Derivation). IsSound d) c.get.ensures c.to.ensures.sound))))

pub returns : goal.returns
returns c =
    let sum = c.requires.sum in
    let each = c.in_ok-each-in-Sum.ensures {u = tt} in
    let e : c.args.d.to ≡ S c.in-Sum.f = ap (λ (d : Derivation). d.to) (sym c.get.ensures) ∙ sym c.to.ensures.lent ∙ c.in-Sum.is in
    let f : sum.body ≡ c.get-in-Sum.result.now = parts-Sum sum.body c.in-Sum.f (sym sum.is ∙ e) ∙ sym c.get-in-Sum.ensures in
    if-ok (IsFromTo c.args.d.facts c.args.d.outs c.args.d.from c.in_ok-each-in-Sum.each.to)
    (Leads IsBlockSum c.args.moves.facts.now c.args.moves.outs c.args.d.from)
    (leads-to IsBlockSum c.args.moves.facts.now c.args.d.facts c.args.moves.outs c.args.d.outs c.args.d.from c.args.d.from c.in_ok-each-in-Sum.each.to
    c.requires.by.facts c.requires.by.outs refl
    (subst (λ (u : U). IsBlockSum u) (ap over_each f ∙ sym each.to) (over-blocks sum.body sum.sum)))
    c.joined.result c.joined.ensures.ends
