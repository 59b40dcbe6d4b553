use Rattle.std.proofs.Common.{◌≡◌, ℕ, List, length, ap, sym, ◌∙◌, subst}
use Rattle.std.proofs.lemmas.List.{length-map}
use Rattle.u_terms.specs.Syntax.{U, Val}
use Rattle.u_rules.specs.Terms.{mul_leaves, terms}
use Rattle.u_equal.specs.Gathering.{values_at}
use Rattle.u_equal.specs.Joined.{seen, JoinsFactors}
use Rattle.u_equal.specs.Tables.{AreValuesOf, HasArguments, HasSides}
use Rattle.u_equal.proofs.products.Made.{fresh-state, sides-in, arguments-in, classes-made}
use Rattle.u_equal.proofs.classes.Classes.of.Goals as goal

pub join_factors-requires-clause-state : goal.join_factors-requires-clause-state
join_factors-requires-clause-state c = fresh-state c.in_ok-values.values.keys (seen c.in_ok-forest.forest) c.in_ok-forest.ensures.fresh

pub join_factors-requires-clause-sides : goal.join_factors-requires-clause-sides
join_factors-requires-clause-sides c =
    let p = c.args.product.now in
    let values = c.in_ok-values.values.keys in
    let factors : terms c.as_slice-2.result.now ≡ mul_leaves p = ap terms c.as_slice-2.ensures ∙ c.in_ok-factors.ensures in
    let table = subst (λ (vs : List Val). AreValuesOf vs values) (ap values_at c.as_slice.ensures.value ∙ c.in_ok-standing.ensures) c.in_ok-values.ensures in
    subst (λ (vs : List Val). HasSides (terms c.as_slice-2.result.now) vs) (sym c.in_ok-forest.ensures.fresh.values_are)
    (subst (λ (fs : List U). HasSides fs values) (sym factors) (sides-in p values table))

pub calls_of-requires : goal.calls_of-requires
calls_of-requires c =
    let p = c.args.product.now in
    let values = c.in_ok-values.values.keys in
    let table = subst (λ (vs : List Val). AreValuesOf vs values) (ap values_at c.as_slice.ensures.value ∙ c.in_ok-standing.ensures) c.in_ok-values.ensures in
    subst (λ (vs : List Val). HasArguments vs) (sym (c.in_ok-join_factors.ensures.joined.values ∙ c.in_ok-forest.ensures.fresh.values_are)) (arguments-in p values table)

pub invariant_of-result : goal.invariant_of-result
invariant_of-result c =
    let p = c.args.product.now in
    let values = c.in_ok-values.values.keys in
    let s = c.in_ok-forest.forest in
    let t = c.join_factors.new.self in
    let factors : terms c.as_slice-2.result.now ≡ mul_leaves p = ap terms c.as_slice-2.ensures ∙ c.in_ok-factors.ensures in
    let long : length c.as_slice-2.result.now ≡ length (mul_leaves p) = sym (length-map c.as_slice-2.result.now (λ r. r.now)) ∙ ap length factors in
    let table = subst (λ (vs : List Val). AreValuesOf vs values) (ap values_at c.as_slice.ensures.value ∙ c.in_ok-standing.ensures) c.in_ok-values.ensures in
    let joined = subst (λ (fs : List U). JoinsFactors fs (length (mul_leaves p)) (seen s) (seen t)) factors
    (subst (λ (n : ℕ). JoinsFactors (terms c.as_slice-2.result.now) n (seen s) (seen t)) long c.in_ok-join_factors.ensures.joined) in
    classes-made p values s t c.join_calls.new.self table c.in_ok-forest.ensures.fresh joined c.in_ok-join_calls.ensures.progress c.in_ok-join_calls.ensures.closed c.in_ok-join_calls.ensures.tree
