-- What a search for a pairing comes to: of two blocks, and of the blocks of two sums.
use Rattle.std.proofs.Common.{◌≡◌, ℕ, suc, ◌-◌, ◌<◌, ◌≤◌, List, [], ◌∷◌, length, get_or, map, take, drop, refl, ap, sym, subst, ◌∙◌, arith}
use Rattle.std.specs.Prelude.{Contains, IsPermutation}
use Rattle.std.proofs.Math.Seq.{take-length}
use Rattle.std.proofs.lemmas.List.{get_or-map, length-map}
use Rattle.std.proofs.lemmas.List.Sorted.{Contains-permutation, IsPermutation-refl, IsPermutation-sym}
use Rattle.std.proofs.lemmas.Option.{same_Some}
use Rattle.shapes.specs.Shapes.{Shape}
use Rattle.shapes.specs.Alike.{Alike}
use Rattle.shapes.specs.Tried.{IsPairing, tried}
use Rattle.term_shapes.specs.TermShape.{HasShape}
use Rattle.u_terms.specs.Syntax.{U}
use Rattle.u_terms.specs.declared.facts.Facts.{Facts}
use Rattle.u_rules.specs.Terms.{add_leaves}
use Rattle.normal_form.specs.NormalTerms.{sum_of}
use Rattle.normal_form.proofs.Leaves.{IsAddLeaf, add_leaves-row, each-add_leaf, leaves-in_row}
use Rattle.u_simple.proofs.Chosen.{each-permuted}
use Rattle.u_moves.specs.Derivations.{IsKnown}
use Rattle.u_bag.specs.declared.blocks.Matched.{Matched}
use Rattle.u_bag.specs.declared.blocks.Matched.TheVariants.{Found, Nothing, Spent}
use Rattle.u_bag.specs.declared.pairs.Pair.{Pair}
use Rattle.u_bag.specs.Matching.{IsMade, IsMatched, IsNotPaired}
use Rattle.u_bag.specs.Pairs.{ArePairs, CanBePaired, lefts_of, rights_of}
use Rattle.u_bag.specs.Shapes.{StaysWithinBudget, SomeHasTooManySums}
use Rattle.u_bag.specs.Sums.{AreKnownPairs, AreMade, IsSumsMatch}
use Rattle.u_bag.proofs.products.Factors.{term-known}
use Rattle.u_bag.proofs.pairing.Partners.{alike-by}
use Rattle.u_bag.proofs.costs.SumCosts.{sum-costs}

-- ---- two blocks
same-shape : (outs : ℕ) (u : U) (s t : Shape) → HasShape outs u s → HasShape outs u t → s ≡ t
same-shape outs u s t h k = same_Some s t (sym h ∙ k)

module _ (outs : ℕ) (left right : U) (budget : ℕ) (s t : Shape) (l : HasShape outs left s) (r : HasShape outs right t) where
  pub keeps : tried s t ≤ budget → StaysWithinBudget outs left right budget
  keeps less = record {
    within = λ x y h. subst (λ (z : Shape). tried z y ≤ budget) (same-shape outs left s x l h.left_has)
        (subst (λ (z : Shape). tried s z ≤ budget) (same-shape outs right t y r h.right_has) less);
  }

  -- the shapes are not alike
  pub not-paired : tried s t ≤ budget → (Alike s t → ⊥) → IsNotPaired outs left right budget
  not-paired less apart = record {
    apart = λ a. absurd (apart (subst (λ (x : Shape). Alike x t) (same-shape outs left a.s s a.shapes.left_has l) (subst (λ (y : Shape). Alike a.s y) (same-shape outs right a.t t a.shapes.right_has r) a.alike)));
    within = keeps less;
  }

  -- the derivation that was made by a pairing
  pub made-matched : (F : Facts) (list : List ℕ) → tried s t ≤ budget → IsPairing s t list → (m : Matched) → IsMade F outs left right m → IsMatched F outs left right budget m
  made-matched F list less pairing (Found d) h = record {
    leads = h.0;
    alike = record { s = s; t = t; shapes = record { left_has = l; right_has = r }; alike = alike-by s t list pairing };
    within = keeps less;
    costs = h.1;
  }
  made-matched F list less pairing Nothing h = record { apart = λ a. h; within = keeps less }
  made-matched F list less pairing Spent h = absurd h

-- ---- the pairs of two sums
member-known : (outs : ℕ) (u : U) (us : List U) → IsKnown 0 outs u → ((x : U) → Contains us x → Contains (add_leaves u) x) → (f : Pair → U) (pairs : List Pair) → map f pairs ≡ us
    → (k : ℕ) (d : Pair) → k < length pairs → IsKnown 0 outs (f (get_or pairs k d))
member-known outs u us known among f pairs is k d less =
    term-known outs u (f (get_or pairs k d)) known
    (among (f (get_or pairs k d))
    (subst (λ (ws : List U). Contains ws (f (get_or pairs k d))) is (k, omega (arith, less, length-map pairs f), get_or-map f pairs k d (f (get_or pairs k d)) less)))

pub pairs-known : (outs : ℕ) (left right : U) (pairs : List Pair) → IsKnown 0 outs left → IsKnown 0 outs right → ArePairs (add_leaves left) (add_leaves right) pairs → AreKnownPairs outs pairs
pairs-known outs left right pairs l r h = λ k d less. record {
  left = member-known outs left (add_leaves left) l (λ x i. i) (λ (p : Pair). p.left.now) pairs h.lefts_are k d less;
  right = member-known outs right (rights_of pairs) r
      (λ x i. Contains-permutation (rights_of pairs) (add_leaves right) x (IsPermutation-sym (add_leaves right) (rights_of pairs) h.rights_are) i) (λ (p : Pair). p.right.now) pairs refl k d less;
}

module _ (left right : U) (pairs : List Pair) (h : ArePairs (add_leaves left) (add_leaves right) pairs) where
  -- the terms of both sums are those of the pairs
  pub left-terms : (u : U) → u ≡ sum_of (lefts_of pairs) → IsPermutation (add_leaves left) (add_leaves u)
  left-terms u is = subst (IsPermutation (add_leaves left)) (sym (ap add_leaves (is ∙ ap sum_of h.lefts_are) ∙ leaves-in_row left)) (IsPermutation-refl (add_leaves left))

  pub right-terms : (u : U) → u ≡ sum_of (rights_of pairs) → IsPermutation (add_leaves u) (add_leaves right)
  right-terms u is =
      subst (λ (us : List U). IsPermutation us (add_leaves right))
      (sym (ap add_leaves is ∙ add_leaves-row (rights_of pairs) (each-permuted IsAddLeaf (add_leaves right) (rights_of pairs) h.rights_are (each-add_leaf right))))
      (IsPermutation-sym (add_leaves right) (rights_of pairs) h.rights_are)

-- ---- pair by pair
pub first-and-others : (pairs : List Pair) (pair : Pair) → 1 ≤ length pairs → pair ≡ get_or pairs 0 pair → pairs ≡ pair ∷ take (length pairs - 1) (drop 1 pairs)
first-and-others [] pair some is = absurd (omega (arith, some))
first-and-others (first ∷ pairs) pair some is =
    let n : length pairs ≡ length (first ∷ pairs) - 1 = omega arith in
    ap (λ (p : Pair). p ∷ pairs) (sym is) ∙ ap (λ (ps : List Pair). pair ∷ ps) (sym (take-length pairs) ∙ ap (λ (k : ℕ). take k pairs) n)

pub only-pair : (pairs : List Pair) (pair : Pair) → length pairs ≡ 1 → pair ≡ get_or pairs 0 pair → pairs ≡ pair ∷ []
only-pair [] pair one is = absurd (omega (arith, one))
only-pair (first ∷ []) pair one is = ap (λ (p : Pair). p ∷ []) (sym is)
only-pair (first ∷ second ∷ pairs) pair one is = absurd (omega (arith, one))

module _ (pairs : List Pair) (pair : Pair) (some : 1 ≤ length pairs) (is : pair ≡ get_or pairs 0 pair) where
  pub others-too-many : SomeHasTooManySums (lefts_of (take (length pairs - 1) (drop 1 pairs))) → SomeHasTooManySums (lefts_of pairs)
  others-too-many h = subst (λ (ps : List Pair). SomeHasTooManySums (lefts_of ps)) (sym (first-and-others pairs pair some is))
      (record { block = h.block; is_in = (suc h.is_in.0, (let low = h.is_in.1 in omega (arith, low)), h.is_in.2); many = h.many })

-- the derivation of the whole
pub made-sums : (F : Facts) (outs : ℕ) (left right : U) (budget : ℕ) (found : List Pair) → ArePairs (add_leaves left) (add_leaves right) found → CanBePaired outs (add_leaves left) (add_leaves right) → (m : Matched)
    → AreMade F outs left right found m → IsSumsMatch F outs left right budget m
made-sums F outs left right budget found pairs can (Found d) h = record { leads = h.0; paired = can; costs = sum-costs outs left right found d pairs can h.1 }
made-sums F outs left right budget found pairs can Nothing h = λ p. h
made-sums F outs left right budget found pairs can Spent h = absurd h
