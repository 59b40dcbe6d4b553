use Rattle.std.proofs.Common.{◌≡◌, ap, sym, subst, ◌∙◌}
use Rattle.std.specs.Prelude.{IsPermutation}
use Rattle.u_terms.specs.Syntax.{U}
use Rattle.u_rules.specs.declared.rule.Rule.TheVariants as rule
use Rattle.u_rules.specs.Terms.{add_leaves}
use Rattle.u_moves.specs.Derivations.{Derivation, IsKnown, IsSound}
use Rattle.normal_form.specs.NormalTerms.{sum_of}
use Rattle.u_moves.proofs.derivations.Whole.{if-ok}
use Rattle.u_normal.specs.Leading.{IsOneMore}
use Rattle.u_normal.proofs.costs.OneMore.{more-of}
use Rattle.u_normal.proofs.terms.KnownParts.{to-known, in_row-known, in_row-leaves}
use Rattle.u_normal.proofs.steps.then_in_row.Goals as goal

pub add_ac-requires-clause-x : goal.add_ac-requires-clause-x
add_ac-requires-clause-x c =
    let e : c.into_inner.result ≡ c.args.d.to = c.into_inner.ensures ∙ c.in_ok-last.ensures {u = tt} ∙ c.to-3.ensures.lent ∙ ap (λ (d : Derivation). d.to) c.get-4.ensures in
    subst (λ (u : U). IsKnown 0 c.args.moves.outs u) (sym e)
    (to-known c.args.moves.facts.now c.args.moves.outs c.args.d c.requires (subst (λ (d : Derivation). IsSound d) c.get-4.ensures c.to-3.ensures.sound))

pub add_ac-requires-clause-y : goal.add_ac-requires-clause-y
add_ac-requires-clause-y c =
    let e : c.into_inner-2.result ≡ sum_of (add_leaves c.args.d.to) =
    c.into_inner-2.ensures ∙ c.in_ok-row.ensures {u = tt} ∙ c.in_ok-in_row.ensures {u = tt} ∙ ap (λ (u : U). sum_of (add_leaves u)) (c.to.ensures.lent ∙ ap (λ (d : Derivation). d.to) c.get.ensures) in
    subst (λ (u : U). IsKnown 0 c.args.moves.outs u) (sym e)
    (in_row-known c.args.moves.outs c.args.d.to
    (to-known c.args.moves.facts.now c.args.moves.outs c.args.d c.requires (subst (λ (d : Derivation). IsSound d) c.get-4.ensures c.to-3.ensures.sound)))

pub add_ac-requires-clause-leaves : goal.add_ac-requires-clause-leaves
add_ac-requires-clause-leaves c =
    let e : c.into_inner.result ≡ c.args.d.to = c.into_inner.ensures ∙ c.in_ok-last.ensures {u = tt} ∙ c.to-3.ensures.lent ∙ ap (λ (d : Derivation). d.to) c.get-4.ensures in
    let f : c.into_inner-2.result ≡ sum_of (add_leaves c.args.d.to) =
    c.into_inner-2.ensures ∙ c.in_ok-row.ensures {u = tt} ∙ c.in_ok-in_row.ensures {u = tt} ∙ ap (λ (u : U). sum_of (add_leaves u)) (c.to.ensures.lent ∙ ap (λ (d : Derivation). d.to) c.get.ensures) in
    subst (λ (u : U). IsPermutation (add_leaves u) (add_leaves c.into_inner-2.result)) (sym e)
    (subst (λ (u : U). IsPermutation (add_leaves c.args.d.to) (add_leaves u)) (sym f) (in_row-leaves c.args.d.to))

pub returns-clause-more : goal.returns-clause-more
returns-clause-more c =
    let last : c.into_inner.result ≡ c.args.d.to = c.into_inner.ensures ∙ c.in_ok-last.ensures {u = tt} ∙ c.to-3.ensures.lent ∙ ap (λ (d : Derivation). d.to) c.get-4.ensures in
    let joined = c.in_ok-then.ensures {u = tt} in
    if-ok (λ (x : Derivation). x ≡ c.in_ok-then.field-0) (IsOneMore c.args.d)
    (more-of c.args.moves.facts.now c.args.moves.outs c.args.d c.into_inner-3.result c.in_ok-step.step c.in_ok-then.field-0 c.into_inner.result c.into_inner-2.result rule.AddAc _ (λ e. cc) (λ e. cc) c.into_inner-3.ensures
    (subst (λ (d : Derivation). IsSound d) c.get-4.ensures c.to-3.ensures.sound) last (c.in_ok-step.ensures {u = tt}) joined.steps joined.bounds joined.to)
    c.new-2.result c.new-2.ensures
