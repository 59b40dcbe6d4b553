-- A mark that stands twice at the end of a product, and then behind all of its factors.
use Rattle.std.proofs.Common.{◌≡◌, ℕ, zero, suc, ◌+◌, ◌<◌, ◌≤◌, List, [], ◌∷◌, ◌++◌, length, take, drop, get_or, refl, ap, sym, ◌∙◌, subst, add-one, arith}
use Rattle.std.specs.Prelude.{Some, slice_get, remove, IsPermutation, IfOk, Result, Ok, Err}
use Rattle.std.proofs.lemmas.List.{append-nil, append_assoc, drop-map, length-append, length-map, map-append}
use Rattle.std.proofs.lemmas.List.Sorted.{IsPermutation-append_comm, IsPermutation-append_left, IsPermutation-append_right, IsPermutation-sym}
use Rattle.std.proofs.lemmas.List.Sums.{sum_by-cons}
use Rattle.std.proofs.lemmas.Option.{none-some, same_Some, slice_get_within}
use denote.Ref.{Bor}
use Rattle.data_model.specs.Lists.{Each}
use Rattle.u_terms.specs.Names.{EachName}
use Rattle.u_terms.specs.Syntax.{U, Val, constructors}
use Rattle.u_terms.specs.Places.{IsClosed}
use Rattle.u_terms.specs.Products.{product_of}
use Rattle.u_terms.specs.Size.{nodes, depth}
use Rattle.u_terms.specs.declared.facts.Facts.{Facts}
use Rattle.u_terms.proofs.ClosedTerms.{IsClosed-Pred}
use Rattle.u_terms.proofs.MappedNames.{EachNameRow-list}
use Rattle.u_terms.proofs.Sizes.{nodes-Mul, nodes-Squash, depth-Mul, depth-Squash}
use Rattle.u_rules.specs.Terms.{◌⊗◌, P, neg, sq, mul_leaves, terms}
use Rattle.u_rules.proofs.multisets.LeavesAt.{mul_leaves-Mul, mul_leaves-One}
use Rattle.u_moves.specs.Derivations.{Derivation, IsKnown, IsJoined}
use Rattle.u_moves.specs.Moving.{AreKnownValues}
use Rattle.u_entail.specs.Sides.{AreFactors}
use Rattle.u_entail.specs.Gaining.{IsRegrouped}
use Rattle.u_entail.specs.Marks.{IsAgain, IsDoubled, IsDoubledBehind, IsParted, StandsAgain, without}
use Rattle.u_entail.specs.Spines.{spine, weight, IsMadeBehind}
use Rattle.u_entail.proofs.sizes.Bounds.{AreWithin, weight-append, weight-product, nodes-row, depth-product, depth-row-more, depth-spine}
use Rattle.u_entail.proofs.products.Lists.{each-append, each-parts, split-at}
use Rattle.u_entail.proofs.products.Parts.{mul-known, one-known, spine-known, terms-front}
use Rattle.u_moves.proofs.derivations.Plain.{joined-plain}
use Rattle.u_entail.proofs.products.Spines.{nodes-spine, depth-behind, depth-fewer, depth-near, product-spine}

-- what code that leaves the mark out has
pub terms-without : (refs : List (Bor U)) (place : ℕ) → terms (remove refs place) ≡ without place (terms refs)
terms-without refs place =
    map-append (λ r. r.now) (take place refs) (drop (suc place) refs)
    ∙ ap (λ us. us ++ terms (drop (suc place) refs)) (terms-front refs place)
    ∙ ap (λ us. take place (terms refs) ++ us) (sym (drop-map (λ r. r.now) (suc place) refs) ∙ ap (λ n. drop n (terms refs)) (sym (add-one place)))

pub points-known : (outs symbol : ℕ) (points : List Val) → IsKnown 0 outs (P symbol points) → AreKnownValues outs points
unfolding EachName constructors
points-known outs symbol points k = record { closed = rw (IsClosed-Pred 0 symbol points) at k.closed; named = rw (EachNameRow-list (λ x. x < outs) points) at k.named }

pub inside-known : (outs : ℕ) (x : U) → IsKnown 0 outs (neg x) → IsKnown 0 outs x
unfolding IsClosed EachName constructors
inside-known outs x k = record { closed = k.closed; named = k.named }

pub squash-closed : (x : U) → IsClosed 0 x → IsClosed 0 (sq x)
unfolding IsClosed constructors
squash-closed x h = h

pub term-at : (refs : List (Bor U)) (place : ℕ) (r : Bor U) (u : U) → slice_get (terms refs) place ≡ Some u → (get_or refs place r).now ≡ u
term-at [] place r u at = absurd (none-some u at)
term-at (x ∷ refs) zero r u at = same_Some x.now u at
term-at (x ∷ refs) (suc place) r u at = term-at refs place r u at

pub within-terms : (refs : List (Bor U)) (place : ℕ) (u : U) → slice_get (terms refs) place ≡ Some u → place < length refs
within-terms refs place u at = omega (arith, slice_get_within (terms refs) place u at, length-map refs (λ r. r.now))

-- ---- leaves
abbrev all_leaves : List U → List U
all_leaves [] = []
all_leaves (x ∷ xs) = mul_leaves x ++ all_leaves xs

all-append : (xs ys : List U) → all_leaves (xs ++ ys) ≡ all_leaves xs ++ all_leaves ys
all-append [] ys = refl
all-append (x ∷ xs) ys = ap (λ us. mul_leaves x ++ us) (all-append xs ys) ∙ sym (append_assoc (mul_leaves x) (all_leaves xs) (all_leaves ys))

leaves-spine : (xs : List U) (last : U) → mul_leaves (spine xs last) ≡ all_leaves xs ++ mul_leaves last
leaves-spine [] last = refl
leaves-spine (x ∷ xs) last =
    mul_leaves-Mul x (spine xs last) ∙ ap (λ us. mul_leaves x ++ us) (leaves-spine xs last) ∙ sym (append_assoc (mul_leaves x) (all_leaves xs) (mul_leaves last))

leaves-product : (xs : List U) → mul_leaves (product_of xs) ≡ all_leaves xs
leaves-product [] = mul_leaves-One
leaves-product (x ∷ []) = sym (append-nil (mul_leaves x))
leaves-product (x ∷ (y ∷ xs)) = mul_leaves-Mul x (product_of (y ∷ xs)) ∙ ap (λ us. mul_leaves x ++ us) (leaves-product (y ∷ xs))

-- the middle part goes to the end
to_end : (xs ms ys : List U) → IsPermutation (xs ++ (ms ++ ys)) ((xs ++ ys) ++ ms)
to_end xs ms ys =
    subst (λ us. IsPermutation (xs ++ (ms ++ ys)) us) (sym (append_assoc xs ys ms)) (IsPermutation-append_right xs (ms ++ ys) (ys ++ ms) (IsPermutation-append_comm ms ys))

-- one of two goes back
from_end : (xs ms ys : List U) → IsPermutation ((xs ++ ys) ++ (ms ++ ms)) ((xs ++ (ms ++ ys)) ++ ms)
from_end xs ms ys =
    subst (λ us. IsPermutation us ((xs ++ (ms ++ ys)) ++ ms)) (append_assoc (xs ++ ys) ms ms)
    (IsPermutation-append_left ms ((xs ++ ys) ++ ms) (xs ++ (ms ++ ys)) (IsPermutation-sym (xs ++ (ms ++ ys)) ((xs ++ ys) ++ ms) (to_end xs ms ys)))

product-known : (outs : ℕ) (xs : List U) → Each (IsKnown 0 outs) xs → IsKnown 0 outs (product_of xs)
product-known outs [] each = one-known outs
product-known outs (x ∷ []) each = each.0
product-known outs (x ∷ (y ∷ xs)) each = mul-known outs 0 x (product_of (y ∷ xs)) each.0 (product-known outs (y ∷ xs) each.1)

module _ (factors others : List U) (place : ℕ) (mark : U) (p : IsParted factors others place mark) where
  abbrev front : List U
  front = take place factors

  abbrev back : List U
  back = drop (place + 1) factors

  whole-is : factors ≡ front ++ mark ∷ back
  whole-is = split-at factors place mark p.at

  leaves-whole : all_leaves factors ≡ all_leaves front ++ (mul_leaves mark ++ all_leaves back)
  leaves-whole = ap all_leaves whole-is ∙ all-append front (mark ∷ back)

  leaves-others : all_leaves others ≡ all_leaves front ++ all_leaves back
  leaves-others = ap all_leaves p.rest ∙ all-append front back

  pub last-leaves : (x y : U) → x ≡ product_of factors → y ≡ spine others mark → IsPermutation (mul_leaves x) (mul_leaves y)
  last-leaves x y ex ey =
      subst (λ us. IsPermutation us (mul_leaves y)) (sym (ap mul_leaves ex ∙ leaves-product factors ∙ leaves-whole))
      (subst (λ us. IsPermutation (all_leaves front ++ (mul_leaves mark ++ all_leaves back)) us)
      (sym (ap mul_leaves ey ∙ leaves-spine others mark ∙ ap (λ us. us ++ mul_leaves mark) leaves-others)) (to_end (all_leaves front) (mul_leaves mark) (all_leaves back)))

  pub gathered-leaves : (x y : U) → x ≡ spine others (mark ⊗ mark) → y ≡ spine factors mark → IsPermutation (mul_leaves x) (mul_leaves y)
  gathered-leaves x y ex ey =
      subst (λ us. IsPermutation us (mul_leaves y))
      (sym (ap mul_leaves ex ∙ leaves-spine others (mark ⊗ mark) ∙ ap (λ us. us ++ mul_leaves (mark ⊗ mark)) leaves-others
      ∙ ap (λ us. (all_leaves front ++ all_leaves back) ++ us) (mul_leaves-Mul mark mark)))
      (subst (λ us. IsPermutation ((all_leaves front ++ all_leaves back) ++ (mul_leaves mark ++ mul_leaves mark)) us)
      (sym (ap mul_leaves ey ∙ leaves-spine factors mark ∙ ap (λ us. us ++ mul_leaves mark) leaves-whole))
      (from_end (all_leaves front) (mul_leaves mark) (all_leaves back)))

  parted : (Q : U → Type 0) → Each Q factors → Each Q front × Each Q (mark ∷ back)
  parted Q each = each-parts Q front (mark ∷ back) (subst (λ (xs : List U). Each Q xs) whole-is each)

  of-others : (Q : U → Type 0) → Each Q factors → Each Q others
  of-others Q each = let both = parted Q each in subst (λ (xs : List U). Each Q xs) (sym p.rest) (each-append Q front back both.0 both.1.1)

  weighs : weight others + nodes mark + 1 ≡ weight factors
  weighs = omega (arith, ap weight whole-is, ap weight p.rest, weight-append front (mark ∷ back), weight-append front back, sum_by-cons nodes mark back)

  pub fewer : length others + 1 ≡ length factors
  fewer = omega (arith, ap length whole-is, ap length p.rest, length-append front (mark ∷ back), length-append front back)

  module _ (outs : ℕ) (ready : AreFactors outs factors) where
    pub mark-known : IsKnown 0 outs mark
    mark-known = let both = parted (IsKnown 0 outs) ready.known in both.1.0

    others-known : Each (IsKnown 0 outs) others
    others-known = of-others (IsKnown 0 outs) ready.known

    pub first-known : (x : U) → x ≡ product_of factors → IsKnown 0 outs x
    first-known x e = subst (IsKnown 0 outs) (sym e) (product-known outs factors ready.known)

    pub last-known : (x : U) → x ≡ spine others mark → IsKnown 0 outs x
    last-known x e = subst (IsKnown 0 outs) (sym e) (spine-known outs 0 others mark others-known mark-known)

    pub twice-known : (x : U) → x ≡ spine others (mark ⊗ mark) → IsKnown 0 outs x
    twice-known x e = subst (IsKnown 0 outs) (sym e) (spine-known outs 0 others (mark ⊗ mark) others-known (mul-known outs 0 mark mark mark-known mark-known))

    pub end-known : (x : U) → x ≡ spine factors mark → IsKnown 0 outs x
    end-known x e = subst (IsKnown 0 outs) (sym e) (spine-known outs 0 factors mark ready.known mark-known)

  -- ---- how large
  abbrev first : U
  first = product_of factors

  mark-small : nodes mark ≤ nodes first
  mark-small = omega (arith, weighs, weight-product factors)

  levels : AreWithin (depth first) factors
  levels = depth-product factors

  mark-level : depth mark ≤ depth first
  mark-level = let both = parted (λ x. depth x ≤ depth first) levels in both.1.0

  deep-end : depth (spine factors mark) ≤ length factors + depth first
  deep-end = omega (arith, mark-level, depth-spine (depth first) factors mark levels)

  deep-first : depth first ≤ depth (spine factors mark)
  deep-first = omega (arith, depth-row-more factors (mark ∷ []), ap depth (product-spine factors mark))

  deep-last : depth (spine others mark) ≤ depth (spine factors mark)
  deep-last = omega (arith, depth-fewer front mark back mark, ap (λ (xs : List U). depth (spine xs mark)) p.rest, ap (λ (xs : List U). depth (spine xs mark)) whole-is)

  deep-twice : depth (spine others (mark ⊗ mark)) ≤ depth (spine factors mark) + 1
  deep-twice = omega (arith, deep-last, depth-Mul mark mark, depth-near 1 others (mark ⊗ mark) mark (omega (arith, depth-Mul mark mark)))

  module _ (facts : Facts) (outs : ℕ) where
    pub doubled-behind : (last twice d : Derivation) → IsRegrouped facts outs first (spine others mark) last → IsDoubled facts outs mark twice → IsMadeBehind others last twice d
        → IsDoubledBehind facts outs factors others mark d
    doubled-behind last twice d l t made =
        let r = l.leads in
        let s = t.leads in
        record {
          leads = record {
            facts = made.facts ∙ r.facts;
            outs = made.outs ∙ r.outs;
            from = made.from ∙ r.from;
            to = made.to ∙ ap (λ (x : U). spine others x) s.to;
            plain = made.plain r.plain s.plain;
          };
          steps = omega (arith, made.steps, l.steps, t.steps);
          lean = record {
            nodes = omega (arith, made.nodes, l.nodes, t.nodes, nodes-spine others mark, nodes-spine factors mark, weighs, nodes-row factors);
            depth = omega (arith, made.depth, l.depth, t.depth, deep-first, deep-last, depth-behind factors mark, fewer);
          };
        }

    pub again-behind : {E : Type 0} (doubled gathered : Derivation) → IsDoubledBehind facts outs factors others mark doubled
        → IsRegrouped facts outs (spine others (mark ⊗ mark)) (spine factors mark) gathered → (r : Result Derivation E) → IfOk r (λ d. d.facts ≡ doubled.facts) → IfOk r (λ d. d.outs ≡ doubled.outs)
        → IfOk r (λ d. d.from ≡ doubled.from) → IfOk r (λ d. d.to ≡ gathered.to) → IfOk r (λ d. d.steps ≡ doubled.steps ++ gathered.steps) → IfOk r (IsJoined doubled gathered)
        → IfOk r (IsAgain facts outs factors mark)
    again-behind doubled gathered h g (Ok d) ef eo ea eb es j =
        let k = h.leads in
        let l = g.leads in
        let n = h.lean in
        let few : d.nodes ≤ nodes (spine factors mark) + 1 = omega (arith, j.nodes, n.nodes, g.nodes, nodes-spine others (mark ⊗ mark), nodes-Mul mark mark, nodes-spine factors mark, weighs) in
        let shallow : d.depth ≤ depth (spine factors mark) + 1 = omega (arith, j.depth, n.depth, g.depth, deep-twice) in
        record {
          leads = record {
            facts = ef ∙ k.facts;
            outs = eo ∙ k.outs;
            from = ea ∙ k.from;
            to = eb ∙ l.to ∙ sym (product-spine factors mark);
            plain = joined-plain doubled gathered d es k.plain l.plain;
          };
          steps = omega (arith, ap length es, length-append doubled.steps gathered.steps, h.steps, g.steps);
          nodes = omega (arith, few, nodes-spine factors mark, weight-product factors, mark-small);
          depth = omega (arith, shallow, deep-end);
          lean = record { nodes = omega (arith, few, ap nodes (product-spine factors mark)); depth = omega (arith, shallow, ap depth (product-spine factors mark)) };
        }
    again-behind doubled gathered h g (Err e) ef eo ea eb es j = tt

pub again-at : (facts : Facts) (outs : ℕ) (factors : List U) (place : ℕ) (mark : U) (d : Derivation) → slice_get factors place ≡ Some mark → IsAgain facts outs factors mark d
    → StandsAgain facts outs factors place d
again-at facts outs factors place mark d at h = record { each = λ m is. subst (λ (x : U). IsAgain facts outs factors x d) (same_Some mark m (sym at ∙ is)) h }

-- ---- the mark twice
module _ (facts : Facts) (outs : ℕ) (mark : U) where
  pub doubled : (squared plain d : Derivation) → IsRegrouped facts outs mark (mark ⊗ sq mark) squared → IsRegrouped facts outs (sq mark) mark plain → IsMadeBehind (mark ∷ []) squared plain d
      → IsDoubled facts outs mark d
  doubled squared plain d s p made =
      let k = s.leads in
      let l = p.leads in
      record {
        leads = record {
          facts = made.facts ∙ k.facts;
          outs = made.outs ∙ k.outs;
          from = made.from ∙ k.from;
          to = made.to ∙ ap (λ (x : U). mark ⊗ x) l.to;
          plain = made.plain k.plain l.plain;
        };
        steps = omega (arith, made.steps, s.steps, p.steps);
        nodes = omega (arith, made.nodes, s.nodes, p.nodes, nodes-Mul mark (sq mark), nodes-Squash mark, sum_by-cons nodes mark []);
        depth = omega (arith, made.depth, s.depth, p.depth, depth-Mul mark (sq mark), depth-Squash mark);
      }
