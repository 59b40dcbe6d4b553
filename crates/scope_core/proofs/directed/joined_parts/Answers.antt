use Rattle.std.proofs.Common.{◌≡◌, length, ◌<◌, ◌^◌, Some, ap, sym, subst, ◌∙◌, arith}
use Rattle.scope_core.specs.Ropes.{IsDirected, are_listed_sound, columns_in, columns_listed, shown_listed, stand_listed}
use Rattle.scope_core.proofs.basics.Ropes.{columns-Joined, made-Joined, stands-Joined-is}
use Rattle.scope_core.proofs.directed.joined_parts.Goals as goal

pub invariant_of-result : goal.invariant_of-result
invariant_of-result c =
    let parts = c.from_vec.result in
    let taken : parts ≡ c.args.parts.items = c.from_vec.ensures ∙ c.trimmed-parts.ensures in
    let lent : c.as_slice.result.now ≡ parts = c.as_slice.ensures.value ∙ sym c.from_vec.ensures in
    let wide = ap (λ e. e.width) (c.in_ok-new.ensures {u = tt}) in
    let fits : c.in_ok-extent.extent.width < 2 ^ 64 = omega arith in
    made-Joined parts _ _ (c.in_ok-new-2.ensures {u = tt})
    (wide ∙ (c.in_ok-extent.ensures.width ∙ ap (λ ps. length (columns_listed ps)) lent))
    (omega (arith, wide, fits))
    (ap (λ e. e.shown) (c.in_ok-new.ensures {u = tt}) ∙ (c.in_ok-extent.ensures.shown ∙ ap shown_listed lent))
    (ap are_listed_sound taken ∙ c.requires)

pub returns-clause-columns : goal.returns-clause-columns
returns-clause-columns c =
    let taken : c.from_vec.result ≡ c.args.parts.items = c.from_vec.ensures ∙ c.trimmed-parts.ensures in
    ap columns_in (c.in_ok-new-2.ensures {u = tt}) ∙ (columns-Joined c.from_vec.result _ ∙ ap columns_listed taken)

pub returns-clause-directed : goal.returns-clause-directed
returns-clause-directed c =
    let taken : c.from_vec.result ≡ c.args.parts.items = c.from_vec.ensures ∙ c.trimmed-parts.ensures in
    λ declared outside are. subst (λ r. IsDirected declared outside (Some r)) (sym (c.in_ok-new-2.ensures {u = tt}))
    (λ name. stands-Joined-is (declared name) (outside name) name c.from_vec.result _
    ∙ (ap (λ ps. stand_listed (declared name) (outside name) name ps) taken ∙ are name))
