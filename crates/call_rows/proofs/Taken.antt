-- The factors of a product that the calls take.
use Rattle.std.proofs.Common.{◌≡◌, ◌⊎◌, ℕ, ◌<◌, ◌^◌, List, length, get_or, inl, inr, ap, sym, ◌∙◌, subst, arith}
use Rattle.std.specs.Prelude.{MatchOption, Option, Some, slice_get}
use Rattle.std.proofs.lemmas.List.{length-map}
use Rattle.std.proofs.lemmas.Option.{same_Some, slice_get_within}
use denote.Bor.{Bor}
use Rattle.u_terms.specs.Syntax.{U, Val}
use Rattle.u_terms.specs.declared.term.U.TheVariants as u
use Rattle.u_terms.specs.Size.{depth}
use Rattle.u_terms.specs.Products.{product_of}
use Rattle.u_rules.specs.Terms.{◌⊗◌, mul_leaves, terms}
use Rattle.u_moves.specs.Derivations.{IsKnown}
use Rattle.u_equal.proofs.products.Listed.{item-here}
use Rattle.u_entail.specs.Carrying.{Follows, IsMarkFrom, MarkCourse}
use Rattle.u_entail.specs.Gaining.{Begins}
use Rattle.u_entail.specs.Marks.{HasMark, IsMark, holds, fails}
use Rattle.u_entail.specs.Sides.{AreFactors}
use Rattle.u_entail.proofs.chains.Chained.{are-factors, first-leaves, leaves-shallow}

module _ (whole : U) (factors : List (Bor U)) (is : terms factors ≡ mul_leaves whole) (few : length factors < 1048576) where
  long : length (mul_leaves whole) ≡ length factors
  long = ap length (sym is) ∙ length-map factors (λ r. r.now)

  pub taken-factors : IsKnown 0 1000 whole → AreFactors 1000 (terms factors)
  taken-factors known = are-factors 1000 whole (terms factors) is known (omega (arith, few, long))

  pub taken-shallow : depth whole < 1048576 → depth (product_of (terms factors)) < 2 ^ 22
  taken-shallow shallow = omega (arith, leaves-shallow whole (terms factors) is, few, length-map factors (λ r. r.now), shallow)

-- the classes are those of the first product
pub taken-begins : (whole first more : U) → whole ≡ first ⊗ more → (got : U) → got ≡ whole → (classes : U) → classes ≡ first → (factors : List U) → factors ≡ mul_leaves got → Begins classes factors
taken-begins whole first more is got got_is classes classes_are factors leaves =
    first-leaves classes more got (got_is ∙ is ∙ ap (λ (u : U). u ⊗ more) (sym classes_are)) factors leaves

-- a mark that stands at the place
module _ (factors : List (Bor U)) (place : ℕ) (has : HasMark (terms factors) place) (item : Bor U) (item_is : item ≡ get_or factors place item) (mark : U) (mark_is : mark ≡ item.now) where
  pub mark-at : slice_get (terms factors) place ≡ Some mark
  mark-at =
      let within = slice_get_within (terms factors) place has.mark has.at in
      item-here (λ (r : Bor U). r.now) factors place item (omega (arith, within, length-map factors (λ r. r.now))) item_is ∙ ap (λ (u : U). Some u) (sym mark_is)

  pub mark-is : IsMark mark
  mark-is = subst IsMark (same_Some has.mark mark (sym has.at ∙ mark-at)) has.is

pub seen-mark : (x : U) → ((symbol : ℕ) × (points : List Val) × (x ≡ u.Pred symbol points)) ⊎ ((inner : U) × (x ≡ u.Not inner)) → IsMark x
seen-mark x (inl h) = subst IsMark (sym h.2) (holds h.0 h.1)
seen-mark x (inr h) = subst IsMark (sym h.1) (fails h.0)

-- the marks of a route that was found
pub route-found : (product mark wanted : U) (found : Option MarkCourse) → MatchOption found (Follows product mark wanted → ⊥) (λ course. IsMarkFrom course product mark wanted) → (course : MarkCourse) → found ≡ Some course
    → IsMarkFrom course product mark wanted
route-found product mark wanted found h course is = subst (λ (o : Option MarkCourse). MatchOption o (Follows product mark wanted → ⊥) (λ c. IsMarkFrom c product mark wanted)) is h
