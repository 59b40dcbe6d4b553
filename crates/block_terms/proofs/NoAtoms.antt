-- Conditions and items hold no atoms; and a term whose factors say something is no sum.
use Rattle.std.proofs.Common.{◌≡◌, ℕ, List, [], ◌∷◌, ◌++◌, Option, Some, refl, ap, ◌∙◌}
use Rattle.std.specs.Prelude.{option_and_then}
use Rattle.u_terms.specs.declared.term.U.TheVariants as u
use Rattle.u_terms.specs.Syntax.{U, Zero, One, Add, Mul, Squash, Not, Sum, Rel, Eq, Pred, Val}
use Rattle.u_terms.specs.Binding.{same_place, place_for_names}
use Rattle.scope_core.specs.Syntax as r
use Rattle.scope_core.specs.Syntax.{RVal, RCond, Values, NoValues, ValueThen, Conditions, NoConditions, ConditionThen}
use Rattle.sql_to_u.specs.Scopes.{Scope}
use Rattle.sql_to_u.specs.Translation.{TermAt, query_term, value_term, value_terms, condition_term, condition_terms, item_factors}
use Rattle.block_shapes.specs.Blocks as tree
use Rattle.term_shapes.specs.Factors.{Factor, factors, sum_count, under_sums}
use Rattle.term_shapes.specs.TermShape as term
use Rattle.term_shapes.specs.TermShape.{Points, Atoms, folded, with_factor, with_atom}
use Rattle.term_shapes.proofs.Reading.{factors-Eq, factors-Pred, factors-Not, negated-Eq, negated-Pred, folded-append}
use Rattle.block_terms.proofs.Mapping.{factors_at, factors_at-append, all_factors}
use Rattle.block_shapes.proofs.ClassLaws.{none-some, both-some}

-- ---- a term whose factors say something is no sum
pub no-sum : (points : Points) (said more : term.Said) (w : U) → folded (with_factor points) said (factors w) ≡ Some more → (sum_count w ≡ 0) × (under_sums w ≡ w)
unfolding factors sum_count under_sums
no-sum points said more Zero h = (refl, refl)
no-sum points said more One h = (refl, refl)
no-sum points said more (Add a b) h = (refl, refl)
no-sum points said more (Mul a b) h = (refl, refl)
no-sum points said more (Squash a) h = (refl, refl)
no-sum points said more (Not a) h = (refl, refl)
no-sum points said more (Sum a) h = absurd (none-some more h)
no-sum points said more (Rel t s vs) h = (refl, refl)
no-sum points said more (Eq a b) h = (refl, refl)
no-sum points said more (Pred p s vs) h = (refl, refl)

-- ---- conditions and items
module _ (views : List TermAt) (scope : Scope) (inner next size : ℕ) (atoms : Atoms) where
  abbrev closed_factors : List Factor → List Factor
  closed_factors fs = factors_at same_place (place_for_names next size) 0 fs

  pub condition-no_atom : (c : RCond) (x : tree.Said) → tree.condition_said c ≡ Some x → folded with_atom atoms (closed_factors (factors (condition_term views c scope inner))) ≡ Some atoms
  unfolding query_term
  condition-no_atom (r.Eq a b) x e = ap (λ (l : List Factor). folded with_atom atoms (closed_factors l)) (factors-Eq (value_term views a scope inner) (value_term views b scope inner))
  condition-no_atom (r.Pred symbol s args) x e = ap (λ (l : List Factor). folded with_atom atoms (closed_factors l)) (factors-Pred symbol (value_terms views args scope inner))
  condition-no_atom (r.Not (r.Eq a b)) x e =
      ap (λ (l : List Factor). folded with_atom atoms (closed_factors l))
      (factors-Not (u.Eq (value_term views a scope inner) (value_term views b scope inner)) ∙ ap (λ (f : Factor). f ∷ []) (negated-Eq (value_term views a scope inner) (value_term views b scope inner)))
  condition-no_atom (r.Not (r.Pred symbol s args)) x e =
      ap (λ (l : List Factor). folded with_atom atoms (closed_factors l))
      (factors-Not (u.Pred symbol (value_terms views args scope inner)) ∙ ap (λ (f : Factor). f ∷ []) (negated-Pred symbol (value_terms views args scope inner)))
  condition-no_atom (r.And s ps) x e = absurd (none-some x e)
  condition-no_atom (r.Or s ps) x e = absurd (none-some x e)
  condition-no_atom (r.Exists q) x e = absurd (none-some x e)
  condition-no_atom (r.In a q) x e = absurd (none-some x e)
  condition-no_atom (r.Not (r.And s ps)) x e = absurd (none-some x e)
  condition-no_atom (r.Not (r.Or s ps)) x e = absurd (none-some x e)
  condition-no_atom (r.Not (r.Not c)) x e = absurd (none-some x e)
  condition-no_atom (r.Not (r.Exists q)) x e = absurd (none-some x e)
  condition-no_atom (r.Not (r.In a q)) x e = absurd (none-some x e)

  pub conditions-no_atoms : {m : _} (cs : Conditions m) (xs : List tree.Said) → tree.conditions_said cs ≡ Some xs → folded with_atom atoms (closed_factors (all_factors (condition_terms views cs scope inner))) ≡ Some atoms
  unfolding query_term
  conditions-no_atoms NoConditions xs e = refl
  conditions-no_atoms (ConditionThen c cs) xs e =
      let k = both-some (λ y ys. y ∷ ys) (tree.condition_said c) (tree.conditions_said cs) xs e in
      ap (folded with_atom atoms) (factors_at-append same_place (place_for_names next size) 0 (factors (condition_term views c scope inner)) (all_factors (condition_terms views cs scope inner)))
      ∙ folded-append with_atom atoms (closed_factors (factors (condition_term views c scope inner))) (closed_factors (all_factors (condition_terms views cs scope inner)))
      ∙ ap (λ (o : Option Atoms). option_and_then (λ more. folded with_atom more (closed_factors (all_factors (condition_terms views cs scope inner)))) o) (condition-no_atom c k.x k.left)
      ∙ conditions-no_atoms cs k.y k.right

  pub items-no_atoms : {m : _} (vs : Values m) (row : List Val) → folded with_atom atoms (closed_factors (all_factors (item_factors views vs scope row inner))) ≡ Some atoms
  unfolding query_term
  items-no_atoms NoValues row = refl
  items-no_atoms (ValueThen value rest) [] = refl
  items-no_atoms (ValueThen value rest) (x ∷ row) =
      ap (λ (l : List Factor). folded with_atom atoms (closed_factors (l ++ all_factors (item_factors views rest scope row inner)))) (factors-Eq (value_term views value scope inner) x) ∙ items-no_atoms rest row
