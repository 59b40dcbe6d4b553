-- The terms of filtered unions have the shapes of their blocks, so what is known of sums of blocks holds of them.
use Rattle.std.proofs.Common.{◌≡◌, ℕ, zero, suc, ◌+◌, ◌*◌, ◌≤◌, Bool, true, false, List, [], length, sym, ◌∙◌, subst, inl, inr, arith}
use Rattle.std.proofs.lemmas.Option.{same_Some}
use Rattle.std.proofs.Math.Nat.{mul-le-mul_left, mul-le-mul_right}
use Rattle.alike_unions.specs.Unknown.{IsUnknownOf}
use Rattle.alike_unions.proofs.Sizes.{small-term}
use Rattle.block_shapes.specs.Classes.{Alike, FilteredUnion, Small}
use Rattle.block_terms.proofs.FewOnes.{tree-few}
use Rattle.block_terms.proofs.Queries.{union-shape}
use Rattle.scope_core.specs.Sound.{IsSoundAlone}
use Rattle.scope_core.specs.Syntax.{RQuery}
use Rattle.scope_core.specs.Width.{width}
use Rattle.shapes.specs.Small.{SmallQuery, most_entries}
use Rattle.shapes.specs.Tried.{tries}
use Rattle.sql_to_u.specs.Answer.{translation, view_terms}
use Rattle.sql_to_u.specs.Limits.{IsWithinLimits}
use Rattle.term_shapes.specs.BlockTerms.{HaveShapes}
use Rattle.term_shapes.specs.FewOnes.{HasFewOnes}
use Rattle.u_prover.specs.Proving.{AreAlikeSums, HaveFewColumns, IsEnough, IsUnknown, PassesLimits}
use Rattle.u_prover.proofs.Promised.{alike-passes, each-small, none-passes, small-passes}
use Rattle.u_terms.specs.declared.facts.Facts.{Facts}

-- ---- the terms
few-ones : (views : List RQuery) (tree : RQuery) (h : FilteredUnion tree) → HasFewOnes (translation views tree)
few-ones views tree h = tree-few (view_terms [] views) tree h.shapes h.are

module _ (views : List RQuery) (left right : RQuery) (a : FilteredUnion left) (b : FilteredUnion right) (sound_left : IsSoundAlone left) (sound_right : IsSoundAlone right)
    (same : width left ≡ width right) where
  left-shapes : HaveShapes (width left) (translation views left) a.shapes
  left-shapes = union-shape (view_terms [] views) left a.shapes a.are sound_left

  right-shapes : HaveShapes (width left) (translation views right) b.shapes
  right-shapes = subst (λ n. HaveShapes n (translation views right) b.shapes) (sym same) (union-shape (view_terms [] views) right b.shapes b.are sound_right)

  -- ---- why none is known
  pub unknown-of : (budget : ℕ) (F : Facts) (spent : Bool) → IsUnknown F (width left) (translation views left) (translation views right) budget spent
      → IsUnknownOf a.shapes b.shapes budget spent
  unknown-of budget F spent unknown = record {
    passes = λ on. elim (unknown.cause) [
      | inl missed ↦ missed.above on a.shapes b.shapes left-shapes right-shapes
      | inr limits ↦ let e : false ≡ true = sym limits.0 ∙ on in absurd (cc)
    ];
    alike = λ paired small.
        (small-passes F (width left) (translation views left) (translation views right) budget spent a.shapes b.shapes left-shapes right-shapes paired small.0 small.1
        (few-ones views left a) (few-ones views right b) unknown.cause).0;
  }

-- ---- of unions that are alike
pub alike-sums : (views : List RQuery) (left right : RQuery) (h : Alike left right) → IsSoundAlone left → IsSoundAlone right → width left ≡ width right
    → HaveFewColumns h.of_left.shapes → AreAlikeSums (width left) (translation views left) (translation views right)
alike-sums views left right h sound_left sound_right same few = record {
  ss = h.of_left.shapes;
  ts = h.of_right.shapes;
  left_has = left-shapes views left right h.of_left h.of_right sound_left sound_right same;
  right_has = right-shapes views left right h.of_left h.of_right sound_left sound_right same;
  alike = h.paired;
  few = few;
}

pub only-limits : (views : List RQuery) (left right : RQuery) (h : Alike left right) → IsSoundAlone left → IsSoundAlone right → width left ≡ width right
    → HaveFewColumns h.of_left.shapes → (budget : ℕ) → IsEnough h.of_left.shapes budget
    → (F : Facts) (spent : Bool) → IsUnknown F (width left) (translation views left) (translation views right) budget spent
    → (spent ≡ false) × PassesLimits F (width left) (translation views left) (translation views right)
only-limits views left right h sound_left sound_right same few budget enough F spent unknown = elim (unknown.cause) [
  | inl missed ↦
      absurd (none-passes h.of_left.shapes h.of_right.shapes budget enough
      (alike-passes F (width left) (translation views left) (translation views right) budget spent h.of_left.shapes h.of_right.shapes
      (left-shapes views left right h.of_left h.of_right sound_left sound_right same) (right-shapes views left right h.of_left h.of_right sound_left sound_right same) h.paired few missed).1)
  | inr limits ↦ limits
]

-- ---- and small
-- a union has one list of shapes
small-query : (left right : RQuery) (h : Alike left right) → Small left right → SmallQuery most_entries h.of_left.shapes × SmallQuery most_entries h.of_right.shapes
small-query left right h small = (
  subst (SmallQuery most_entries) (same_Some small.of_left.shapes h.of_left.shapes (sym small.of_left.are ∙ h.of_left.are)) small.sizes.0,
  subst (SmallQuery most_entries) (same_Some small.of_right.shapes h.of_right.shapes (sym small.of_right.are ∙ h.of_right.are)) small.sizes.1,
)

pub never-unknown : (views : List RQuery) (left right : RQuery) (h : Alike left right) → Small left right → IsSoundAlone left → IsSoundAlone right
    → width left ≡ width right → (budget : ℕ) → IsEnough h.of_left.shapes budget
    → (F : Facts) (spent : Bool) → IsUnknown F (width left) (translation views left) (translation views right) budget spent → ⊥
never-unknown views left right h small sound_left sound_right same budget enough F spent unknown =
    let few = small-query left right h small in
    unknown.unpromised (record {
      ss = h.of_left.shapes;
      ts = h.of_right.shapes;
      left_has = left-shapes views left right h.of_left h.of_right sound_left sound_right same;
      right_has = right-shapes views left right h.of_left h.of_right sound_left sound_right same;
      alike = h.paired;
      left_small = few.0;
      right_small = few.1;
      left_ones = few-ones views left h.of_left;
      right_ones = few-ones views right h.of_right;
      enough = enough;
    })

-- more entries have more lists
tries-grow : (m n : ℕ) → m ≤ n → tries m ≤ tries n
tries-grow zero n le = omega (arith)
tries-grow (suc m) zero le = absurd (omega (arith, le))
tries-grow (suc m) (suc n) le =
    let less : tries m ≤ tries n = tries-grow m n (omega (arith, le)) in
    let wider : suc m * (1 + tries m) ≤ suc m * (1 + tries n) = mul-le-mul_left (suc m) (omega (arith, less)) in
    let longer : suc m * (1 + tries n) ≤ suc n * (1 + tries n) = mul-le-mul_right (1 + tries n) le in
    omega (arith, wider, longer)

pub most-enough : (left right : RQuery) (h : Alike left right) → Small left right → (budget : ℕ) → tries most_entries ≤ budget → IsEnough h.of_left.shapes budget
most-enough left right h small budget most s i =
    let few = (small-query left right h small).0 in
    omega (arith, most, tries-grow (length s.entries) most_entries (each-small most_entries h.of_left.shapes few.each s i).few_entries)

pub most-never : (views : List RQuery) (left right : RQuery) → Alike left right → Small left right → IsSoundAlone left → IsSoundAlone right
    → width left ≡ width right → (budget : ℕ) → tries most_entries ≤ budget
    → (F : Facts) (spent : Bool) → IsUnknown F (width left) (translation views left) (translation views right) budget spent → ⊥
most-never views left right h small sound_left sound_right same budget most =
    never-unknown views left right h small sound_left sound_right same budget (most-enough left right h small budget most)

-- ---- the terms' size
pub small-terms : (views : List RQuery) (left right : RQuery) → Alike left right → Small left right → IsSoundAlone left → IsSoundAlone right
    → IsWithinLimits (translation views left) × IsWithinLimits (translation views right)
small-terms views left right h small sound_left sound_right =
    let few = small-query left right h small in (
      small-term (width left) (translation views left) h.of_left.shapes (union-shape (view_terms [] views) left h.of_left.shapes h.of_left.are sound_left) (few-ones views left h.of_left) few.0,
      small-term (width right) (translation views right) h.of_right.shapes (union-shape (view_terms [] views) right h.of_right.shapes h.of_right.are sound_right) (few-ones views right h.of_right) few.1,
    )
