use Rattle.std.proofs.Common.{◌≡◌, refl, ap, sym, subst, ◌∙◌}
use Rattle.u_terms.specs.Syntax.{U}
use Rattle.u_terms.specs.Products.{product_of}
use Rattle.u_rules.specs.Terms.{mul_leaves}
use Rattle.u_moves.specs.Derivations.{Derivation, IsKnown, IsSound}
use Rattle.u_moves.proofs.derivations.Whole.{if-ok}
use Rattle.normal_form.specs.Kinds.{ordered}
use Rattle.u_congruence.specs.Congruence.{IsFromTo, IsBy}
use Rattle.u_normal.specs.declared.merging.Wrap.TheVariants as wrap
use Rattle.u_normal.specs.Leading.{Leads}
use Rattle.u_normal.specs.Taking.{load}
use Rattle.u_normal.specs.Merging.{IsMerged}
use Rattle.u_normal.specs.Heads.{IsHeaded}
use Rattle.u_normal.proofs.terms.KnownParts.{to-known}
use Rattle.u_normal.proofs.derivations.Led.{leads-to}
use Rattle.u_normal.proofs.products.Finishes.{tidied-headed}
use Rattle.u_normal.proofs.heads.tidied.Goals as goal

pub merged-requires-2-clause-known : goal.merged-requires-2-clause-known
merged-requires-2-clause-known c =
    let squashes = c.in_ok-squashes.ensures {u = tt} in
    let by : IsBy c.args.moves.facts.now c.args.moves.outs c.in_ok-squashes.squashes = record { facts = squashes.facts; outs = squashes.outs } in
    subst (λ (u : U). IsKnown 0 c.args.moves.outs u) (sym (c.to.ensures.lent ∙ ap (λ (d : Derivation). d.to) c.get.ensures))
    (to-known c.args.moves.facts.now c.args.moves.outs c.in_ok-squashes.squashes by (subst (λ (d : Derivation). IsSound d) c.get.ensures c.to.ensures.sound))

pub returns : goal.returns
returns c =
    let squashes = c.in_ok-squashes.ensures {u = tt} in
    let negations = c.in_ok-negations.ensures {u = tt} in
    let whole = c.in_ok-both.ensures.ends in
    let e : c.to.result.now ≡ c.in_ok-squashes.squashes.to = c.to.ensures.lent ∙ ap (λ (d : Derivation). d.to) c.get.ensures in
    if-ok (IsFromTo c.args.moves.facts.now c.args.moves.outs c.in_ok-both.both.from (product_of (ordered (mul_leaves c.in_ok-both.both.to))))
    (Leads (IsHeaded (load c.args.u.now)) c.args.moves.facts.now c.args.moves.outs c.args.u.now)
    (leads-to (IsHeaded (load c.args.u.now)) c.args.moves.facts.now c.args.moves.facts.now c.args.moves.outs c.args.moves.outs c.args.u.now c.in_ok-both.both.from (product_of (ordered (mul_leaves c.in_ok-both.both.to)))
    refl refl (whole.from ∙ squashes.from)
    (subst (λ (u : U). IsHeaded (load c.args.u.now) (product_of (ordered (mul_leaves u)))) (sym whole.to)
    (tidied-headed c.args.u.now c.in_ok-squashes.squashes.to c.in_ok-negations.negations.to squashes.reached (subst (λ (u : U). IsMerged wrap.Not u c.in_ok-negations.negations.to) e negations.reached))))
    c.then_in_order.result c.then_in_order.ensures
