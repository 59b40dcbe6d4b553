use Rattle.std.proofs.Common.{suc, ◌≡◌, ◌∷◌, List, [], ℕ, length, ap, ◌∙◌, refl, sym, subst, arith}
use Rattle.std.specs.Prelude.{Bool, true, false, ◌==◌}
use Rattle.std.proofs.lemmas.Bool.{true≢false, ne_eqb}
use Rattle.std.proofs.lemmas.Result.{IfOk-weaker}
use Rattle.u_terms.specs.Syntax.{Val}
use Rattle.u_terms.specs.declared.term.Val.TheVariants as v
use Rattle.u_entail.specs.Spots.{HasValueSpot, IsValuePut}
use Rattle.u_entail.proofs.substitution.Placed.{nothing-left, no-call, call-spot, call-put}
use Rattle.u_entail.proofs.place.+putting.Goals as goal

not-empty : (b : Bool) (place : List ℕ) → b ≡ (length place == 0) → b ≡ false → place ≡ [] → ⊥
not-empty b place tells false_is none_is = true≢false (sym (tells ∙ ap (λ (p : List ℕ). length p == 0) none_is) ∙ false_is)

is-empty : (b : Bool) (place : List ℕ) → b ≡ (length place == 0) → b ≡ true → place ≡ []
is-empty b [] tells true_is = refl
is-empty b (i ∷ rest) tells true_is = absurd (true≢false (sym true_is ∙ tells ∙ ne_eqb (suc (length rest)) 0 (λ e. absurd (omega (arith, e)))))

pub put_in_value-returns-then-is_empty : goal.put_in_value-returns-then-is_empty
put_in_value-returns-then-is_empty t c =
    IfOk-weaker c.copy.result _ _ (λ new is. nothing-left c.args.old.now c.args.place.now c.args.value.now new (is-empty c.is_empty.result c.args.place.now c.is_empty.ensures c.if-is_empty.true) is) c.copy.ensures

pub put_in_value-put_in_points-requires : goal.put_in_value-put_in_points-requires
put_in_value-put_in_points-requires t c =
    let differ = not-empty c.is_empty.result c.args.place.now c.is_empty.ensures c.if-is_empty.false in
    let is : c.args.old.now ≡ v.Fun c.in-Fun.symbol c.as_slice.result.now = c.in-Fun.is ∙ ap (λ xs. v.Fun c.in-Fun.symbol xs) (sym c.as_slice.ensures) in (
      omega arith,
      call-spot c.in-Fun.symbol c.as_slice.result.now c.args.place.now differ (subst (λ (x : Val). HasValueSpot x c.args.place.now) is c.requires),
    )

pub put_in_value-unreachable-requires : goal.put_in_value-unreachable-requires
put_in_value-unreachable-requires t c =
    let differ = not-empty c.is_empty.result c.args.place.now c.is_empty.ensures c.if-is_empty.false in
    no-call c.args.old.now c.args.place.now differ c.in_default.not-Fun c.requires

pub put_in_value-returns : goal.put_in_value-returns
put_in_value-returns t c =
    let differ = not-empty c.is_empty.result c.args.place.now c.is_empty.ensures c.if-is_empty.false in
    let is : c.args.old.now ≡ v.Fun c.in-Fun.symbol c.as_slice.result.now = c.in-Fun.is ∙ ap (λ xs. v.Fun c.in-Fun.symbol xs) (sym c.as_slice.ensures) in
    subst (λ (x : Val). IsValuePut x c.args.place.now c.args.value.now (v.Fun c.in-Fun.symbol c.in_ok-args-in-Fun.args)) (sym is)
    (call-put c.in-Fun.symbol c.as_slice.result.now c.args.place.now differ c.args.value.now c.in_ok-args-in-Fun.args (c.in_ok-args-in-Fun.ensures {u = tt}))
