-- The values and conditions of a block, as the factors of its term have them.
use Rattle.std.proofs.Common.{◌≡◌, ℕ, zero, suc, ◌+◌, ◌-◌, ◌<◌, ◌≤◌, Bool, true, false, List, [], ◌∷◌, length, get_or, Some, None, refl, ap, sym, ◌∙◌, subst, arith}
use Rattle.std.specs.Prelude.{nat_le, nat_lt, ◌&&◌, if◌then◌else◌, slice_get, slice_set, option_map, option_and_then}
use Rattle.std.proofs.lemmas.Bool.Decides.{nat_tests}
use Rattle.u_terms.specs.declared.term.Val.TheVariants as v
use Rattle.u_terms.specs.Syntax.{Val}
use Rattle.u_terms.specs.Binding.{mapped, mapped_value, same_place, place_for_names}
use Rattle.scope_core.specs.Syntax as r
use Rattle.scope_core.specs.Syntax.{RVal, RCond, Values, NoValues, ValueThen}
use Rattle.sql_to_u.specs.Scopes.{Here, Scope}
use Rattle.sql_to_u.specs.Translation.{TermAt, query_term, value_term}
use Rattle.shapes.specs.Options.{both_of}
use Rattle.shapes.specs.Shapes.{Entry, Point, column, literal, differ, entry_of, IsPoint}
use Rattle.block_shapes.specs.Blocks as tree
use Rattle.term_shapes.specs.TermShape as term
use Rattle.term_shapes.specs.TermShape.{Points, pointed, at_place}
use Rattle.term_shapes.proofs.Reading.{pointed-empty}
use Rattle.block_shapes.proofs.ClassLaws.{some-same, none-some}
use Rattle.block_terms.proofs.Atoms.{offset, total, offset-in}

-- where the columns of a block's entries are
pub record Located (firsts : List ℕ) (next size : ℕ) (es : List Entry) (points : Points) : Type 0 where
  pub first : (i : ℕ) → i < length es → get_or firsts i 0 ≡ next + offset es i
  pub wide : total es ≡ size
  pub point : (i d : ℕ) → i < length es → d < (entry_of es i).columns → slice_get points (size - 1 - (offset es i + d)) ≡ Some (Some (column i d))

yes-if : (a b : Bool) (x y : Val) → a ≡ true → b ≡ true → (if a && b then x else y) ≡ x
yes-if true true x y e d = refl
yes-if true false x y e d = absurd (grind (arith, d))
yes-if false b x y e d = absurd (grind (arith, e))

name-closed : (next size name : ℕ) → next ≤ name → name < next + size → mapped_value same_place (place_for_names next size) 0 (v.Free name) ≡ v.Bound (next + size - 1 - name)
unfolding mapped
name-closed next size name low high =
    let one : nat_le next name ≡ true = grind (arith, nat_tests) in
    let two : nat_lt name (next + size) ≡ true = grind (arith, nat_tests) in
    let place : 0 + (next + size - 1 - name) ≡ next + size - 1 - name = omega arith in
    yes-if (nat_le next name) (nat_lt name (next + size)) (v.Bound (0 + (next + size - 1 - name))) (v.Free name) one two ∙ ap v.Bound place

literal-closed : (next size a : ℕ) → mapped_value same_place (place_for_names next size) 0 (v.Lit a) ≡ v.Lit a
unfolding mapped
literal-closed next size a = refl

-- what a value of a plain block is in the term: a summed place or a literal, which has its point
pub data Stands (points : Points) : Val → Point → Type 0 where
  a_place : (place : ℕ) (p : Point) → slice_get points place ≡ Some (Some p) → Stands points (v.Bound place) p
  a_literal : (a : ℕ) → Stands points (v.Lit a) (literal a)

pub stands-point : (points : Points) (x : Val) (p : Point) → Stands points x p → term.value_point points x ≡ Some p
stands-point points x p (a_place place q h) = ap at_place h
stands-point points x p (a_literal a) = refl

module _ (views : List TermAt) (here : Here) (outer : Scope) (inner next size : ℕ) (es : List Entry) (points : Points) (located : Located here.firsts next size es points) where
  abbrev pub closed : RVal → Val
  closed value = mapped_value same_place (place_for_names next size) 0 (value_term views value (here ∷ outer) inner)

  column-stands : (entry c : ℕ) → entry < length es → c < (entry_of es entry).columns → Stands points (mapped_value same_place (place_for_names next size) 0 (v.Free (get_or here.firsts entry 0 + c))) (column entry c)
  column-stands entry c less within =
      let first = located.first entry less in
      let far = offset-in es entry c less within in
      let name : get_or here.firsts entry 0 + c ≡ next + (offset es entry + c) = omega (arith, first) in
      let low : next ≤ get_or here.firsts entry 0 + c = omega (arith, first) in
      let high : get_or here.firsts entry 0 + c < next + size = omega (arith, first, far, located.wide) in
      let place : next + size - 1 - (get_or here.firsts entry 0 + c) ≡ size - 1 - (offset es entry + c) = omega (arith, name, far, located.wide) in
      subst (λ (x : Val). Stands points x (column entry c)) (sym (name-closed next size (get_or here.firsts entry 0 + c) low high ∙ ap v.Bound place))
      (a_place (size - 1 - (offset es entry + c)) (column entry c) (located.point entry c less within))

  pub value-stands : (value : RVal) (p : Point) → tree.value_point value ≡ Some p → IsPoint es p → Stands points (closed value) p
  unfolding query_term
  value-stands (r.Col zero entry c) p e i =
      let same : column entry c ≡ p = some-same (column entry c) p e in
      let k : IsPoint es (column entry c) = subst (IsPoint es) (sym same) i in
      subst (λ (q : Point). Stands points (closed (r.Col 0 entry c)) q) same (column-stands entry c k.0 k.1)
  value-stands (r.Col (suc up) entry c) p e i = absurd (none-some p e)
  value-stands (r.Key place) p e i = absurd (none-some p e)
  value-stands (r.Lit a) p e i =
      subst (λ (q : Point). Stands points (closed (r.Lit a)) q) (some-same (literal a) p e) (subst (λ (x : Val). Stands points x (literal a)) (sym (literal-closed next size a)) (a_literal a))
  value-stands (r.Fun sym_ s args) p e i = absurd (none-some p e)
  value-stands (r.Agg fun is_distinct argument) p e i = absurd (none-some p e)
  value-stands (r.Sub b) p e i = absurd (none-some p e)

-- ---- equalities and differences
pub equality-said : (points : Points) (said : term.Said) (x y : Val) (p q : Point) → Stands points x p → Stands points y q
    → term.said_equality points said x y ≡ Some (term.with_equality said p q)
equality-said points said x y p q (a_place a p' h) (a_place b q' k) = ap (λ o. both_of (term.with_equality said) (at_place o) (term.value_point points (v.Bound b))) h ∙ ap (λ o. both_of (term.with_equality said) (Some p') (at_place o)) k
equality-said points said x y p q (a_place a p' h) (a_literal b) = ap (λ o. both_of (term.with_equality said) (at_place o) (Some (literal b))) h
equality-said points said x y p q (a_literal a) (a_place b q' k) = ap (λ o. both_of (term.with_equality said) (Some (literal a)) (at_place o)) k
equality-said points said x y p q (a_literal a) (a_literal b) = refl

pub difference-said : (points : Points) (said : term.Said) (x y : Val) (p q : Point) → Stands points x p → Stands points y q
    → term.said_difference points said x y ≡ Some (term.with_mark said differ (p ∷ q ∷ []))
difference-said points said x y p q h k =
    ap (λ o. both_of (λ p q. term.with_mark said differ (p ∷ q ∷ [])) o (term.value_point points y)) (stands-point points x p h)
    ∙ ap (λ o. both_of (λ p q. term.with_mark said differ (p ∷ q ∷ [])) (Some p) o) (stands-point points y q k)

-- an item, equal to the name of its output, which has none yet
pub output-said : (points : Points) (said : term.Said) (x : Val) (p : Point) (name : ℕ) → slice_get said.outputs name ≡ Some None → Stands points x p
    → term.said_equality points said x (v.Free name) ≡ Some (term.with_outputs said (slice_set said.outputs name (Some p)))
output-said points said x p name free (a_place a p' h) =
    ap (λ o. option_and_then (λ q. option_map (term.with_outputs said) (pointed said.outputs name q)) (at_place o)) h
    ∙ ap (option_map (term.with_outputs said)) (pointed-empty said.outputs name p' free)
output-said points said x p name free (a_literal a) = ap (option_map (term.with_outputs said)) (pointed-empty said.outputs name (literal a) free)
