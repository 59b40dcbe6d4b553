-- The conditions of a block, as the factors of its term have them.
use Rattle.std.proofs.Common.{◌≡◌, ℕ, List, [], ◌∷◌, Option, Some, ap, sym, ◌∙◌, subst}
use Rattle.std.specs.Prelude.{option_map, option_and_then}
use Rattle.u_terms.specs.declared.term.U.TheVariants as u
use Rattle.u_terms.specs.Syntax.{Val}
use Rattle.u_terms.specs.Binding.{mapped_value, same_place, place_for_names}
use Rattle.scope_core.specs.Syntax as r
use Rattle.scope_core.specs.Syntax.{RVal, RCond, Values, NoValues, ValueThen, Conditions, NoConditions, ConditionThen}
use Rattle.sql_to_u.specs.Scopes.{Here, Scope}
use Rattle.sql_to_u.specs.Translation.{TermAt, query_term, value_term, value_terms, condition_term, condition_terms}
use Rattle.shapes.specs.Options.{both_of}
use Rattle.shapes.specs.Shapes.{Entry, Point, holds, fails, differ, IsPoint}
use Rattle.block_shapes.specs.Blocks as tree
use Rattle.term_shapes.specs.Factors.{Factor, equality, difference, truth, falsehood, factors}
use Rattle.term_shapes.specs.TermShape as term
use Rattle.term_shapes.specs.TermShape.{Points, folded, with_factor}
use Rattle.term_shapes.proofs.Reading.{factors-Eq, factors-Pred, factors-Not, negated-Eq, negated-Pred, folded-append}
use Rattle.block_shapes.proofs.ClassLaws.{some-same, none-some, both-some, map-some}
use Rattle.block_shapes.specs.Drawn.{ArePoints}
use Rattle.block_terms.proofs.Mapping.{values_at, factors_at, factors_at-append, all_factors}
use Rattle.block_terms.proofs.Values.{Located, Stands, stands-point, value-stands, equality-said, difference-said}

abbrev pub IsIn : List Entry → tree.Said → Type 0
IsIn es (tree.equality p q) = IsPoint es p × IsPoint es q
IsIn es (tree.mark m) = ArePoints es m.points

abbrev pub AreIn : List Entry → List tree.Said → Type 0
AreIn es [] = Unit {0}
AreIn es (x ∷ xs) = IsIn es x × AreIn es xs

abbrev pub added : term.Said → tree.Said → term.Said
added said (tree.equality p q) = term.with_equality said p q
added said (tree.mark m) = term.with_mark said m.kind m.points

abbrev pub all_added : term.Said → List tree.Said → term.Said
all_added said [] = said
all_added said (x ∷ xs) = all_added (added said x) xs

pub fold-one : (points : Points) (said more : term.Said) (f : Factor) → with_factor points said f ≡ Some more → folded (with_factor points) said (f ∷ []) ≡ Some more
fold-one points said more f e = ap (λ (o : Option term.Said). option_and_then (λ s. folded (with_factor points) s []) o) e

module _ (views : List TermAt) (here : Here) (outer : Scope) (inner next size : ℕ) (es : List Entry) (points : Points) (located : Located here.firsts next size es points) where
  abbrev value_of : RVal → Val
  value_of value = mapped_value same_place (place_for_names next size) 0 (value_term views value (here ∷ outer) inner)

  stands : (value : RVal) (p : Point) → tree.value_point value ≡ Some p → IsPoint es p → Stands points (value_of value) p
  stands value p e i = value-stands views here outer inner next size es points located value p e i

  values-stand : {m : _} (vs : Values m) (ps : List Point) → tree.value_points vs ≡ Some ps → ArePoints es ps
      → term.value_points points (values_at same_place (place_for_names next size) 0 (value_terms views vs (here ∷ outer) inner)) ≡ Some ps
  unfolding query_term
  values-stand NoValues ps e i = e
  values-stand (ValueThen value rest) ps e i =
      let b = both-some (λ p qs. p ∷ qs) (tree.value_point value) (tree.value_points rest) ps e in
      let all : ArePoints es (b.x ∷ b.y) = subst (ArePoints es) (sym b.is) i in
      ap (λ o. both_of (λ p qs. p ∷ qs) o (term.value_points points (values_at same_place (place_for_names next size) 0 (value_terms views rest (here ∷ outer) inner))))
      (stands-point points (value_of value) b.x (stands value b.x b.left all.0))
      ∙ ap (λ o. both_of (λ p qs. p ∷ qs) (Some b.x) o) (values-stand rest b.y b.right all.1) ∙ ap Some b.is

  abbrev factors_of : RCond → List Factor
  factors_of c = factors_at same_place (place_for_names next size) 0 (factors (condition_term views c (here ∷ outer) inner))

  pub condition-said : (c : RCond) (x : tree.Said) (said : term.Said) → tree.condition_said c ≡ Some x → IsIn es x → folded (with_factor points) said (factors_of c) ≡ Some (added said x)
  unfolding query_term
  condition-said (r.Eq a b) x said e i =
      let k = both-some tree.equality (tree.value_point a) (tree.value_point b) x e in
      let both : IsIn es (tree.equality k.x k.y) = subst (IsIn es) (sym k.is) i in
      ap (λ (l : List Factor). folded (with_factor points) said (factors_at same_place (place_for_names next size) 0 l)) (factors-Eq (value_term views a (here ∷ outer) inner) (value_term views b (here ∷ outer) inner))
      ∙ fold-one points said (term.with_equality said k.x k.y) (equality (value_of a) (value_of b))
      (equality-said points said (value_of a) (value_of b) k.x k.y (stands a k.x k.left both.0) (stands b k.y k.right both.1))
      ∙ ap (λ (y : tree.Said). Some (added said y)) k.is
  condition-said (r.Pred symbol s args) x said e i =
      let k = map-some (λ ps. tree.mark (record { kind = holds symbol; points = ps })) (tree.value_points args) x e in
      let all : IsIn es (tree.mark (record { kind = holds symbol; points = k.x })) = subst (IsIn es) (sym k.is) i in
      ap (λ (l : List Factor). folded (with_factor points) said (factors_at same_place (place_for_names next size) 0 l)) (factors-Pred symbol (value_terms views args (here ∷ outer) inner))
      ∙ fold-one points said (term.with_mark said (holds symbol) k.x) (truth symbol (values_at same_place (place_for_names next size) 0 (value_terms views args (here ∷ outer) inner)))
      (ap (option_map (term.with_mark said (holds symbol))) (values-stand args k.x k.from all))
      ∙ ap (λ (y : tree.Said). Some (added said y)) k.is
  condition-said (r.Not (r.Eq a b)) x said e i =
      let k = both-some (λ p q. tree.mark (record { kind = differ; points = p ∷ q ∷ [] })) (tree.value_point a) (tree.value_point b) x e in
      let all : IsIn es (tree.mark (record { kind = differ; points = k.x ∷ k.y ∷ [] })) = subst (IsIn es) (sym k.is) i in
      ap (λ (l : List Factor). folded (with_factor points) said (factors_at same_place (place_for_names next size) 0 l))
      (factors-Not (u.Eq (value_term views a (here ∷ outer) inner) (value_term views b (here ∷ outer) inner)) ∙ ap (λ (f : Factor). f ∷ []) (negated-Eq (value_term views a (here ∷ outer) inner) (value_term views b (here ∷ outer) inner)))
      ∙ fold-one points said (term.with_mark said differ (k.x ∷ k.y ∷ [])) (difference (value_of a) (value_of b))
      (difference-said points said (value_of a) (value_of b) k.x k.y (stands a k.x k.left all.0) (stands b k.y k.right all.1.0))
      ∙ ap (λ (y : tree.Said). Some (added said y)) k.is
  condition-said (r.Not (r.Pred symbol s args)) x said e i =
      let k = map-some (λ ps. tree.mark (record { kind = fails symbol; points = ps })) (tree.value_points args) x e in
      let all : IsIn es (tree.mark (record { kind = fails symbol; points = k.x })) = subst (IsIn es) (sym k.is) i in
      ap (λ (l : List Factor). folded (with_factor points) said (factors_at same_place (place_for_names next size) 0 l))
      (factors-Not (u.Pred symbol (value_terms views args (here ∷ outer) inner)) ∙ ap (λ (f : Factor). f ∷ []) (negated-Pred symbol (value_terms views args (here ∷ outer) inner)))
      ∙ fold-one points said (term.with_mark said (fails symbol) k.x) (falsehood symbol (values_at same_place (place_for_names next size) 0 (value_terms views args (here ∷ outer) inner)))
      (ap (option_map (term.with_mark said (fails symbol))) (values-stand args k.x k.from all))
      ∙ ap (λ (y : tree.Said). Some (added said y)) k.is
  condition-said (r.And s ps) x said e i = absurd (none-some x e)
  condition-said (r.Or s ps) x said e i = absurd (none-some x e)
  condition-said (r.Exists q) x said e i = absurd (none-some x e)
  condition-said (r.In a q) x said e i = absurd (none-some x e)
  condition-said (r.Not (r.And s ps)) x said e i = absurd (none-some x e)
  condition-said (r.Not (r.Or s ps)) x said e i = absurd (none-some x e)
  condition-said (r.Not (r.Not c)) x said e i = absurd (none-some x e)
  condition-said (r.Not (r.Exists q)) x said e i = absurd (none-some x e)
  condition-said (r.Not (r.In a q)) x said e i = absurd (none-some x e)

  pub conditions-said : {m : _} (cs : Conditions m) (xs : List tree.Said) (said : term.Said) → tree.conditions_said cs ≡ Some xs → AreIn es xs
      → folded (with_factor points) said (factors_at same_place (place_for_names next size) 0 (all_factors (condition_terms views cs (here ∷ outer) inner))) ≡ Some (all_added said xs)
  unfolding query_term
  conditions-said NoConditions xs said e i = ap (λ (l : List tree.Said). Some (all_added said l)) (some-same [] xs e)
  conditions-said (ConditionThen c cs) xs said e i =
      let k = both-some (λ y ys. y ∷ ys) (tree.condition_said c) (tree.conditions_said cs) xs e in
      let all : AreIn es (k.x ∷ k.y) = subst (AreIn es) (sym k.is) i in
      ap (folded (with_factor points) said) (factors_at-append same_place (place_for_names next size) 0 (factors (condition_term views c (here ∷ outer) inner)) (all_factors (condition_terms views cs (here ∷ outer) inner)))
      ∙ folded-append (with_factor points) said (factors_of c) (factors_at same_place (place_for_names next size) 0 (all_factors (condition_terms views cs (here ∷ outer) inner)))
      ∙ ap (λ (o : Option term.Said). option_and_then (λ more. folded (with_factor points) more (factors_at same_place (place_for_names next size) 0 (all_factors (condition_terms views cs (here ∷ outer) inner)))) o) (condition-said c k.x said k.left all.0)
      ∙ conditions-said cs k.y (added said k.x) k.right all.1
      ∙ ap (λ (l : List tree.Said). Some (all_added said l)) k.is
