-- An equality in the place of a last factor 1: how it is gained, and how large the terms on the way are.
use Rattle.std.proofs.Common.{◌≡◌, ℕ, ◌+◌, ◌*◌, ◌^◌, ◌<◌, ◌≤◌, max, List, [], ◌∷◌, ◌++◌, length, refl, ap, sym, ◌∙◌, subst, arith}
use Rattle.std.specs.Prelude.{Some, IsPermutation, IfOk, Result, Ok, Err, sum_by}
use Rattle.std.proofs.lemmas.List.{append-nil, length-append}
use Rattle.std.proofs.lemmas.List.Sorted.{IsPermutation-refl}
use Rattle.std.proofs.lemmas.List.Sums.{sum_by-append}
use Rattle.data_model.specs.Lists.{Each}
use Rattle.u_terms.specs.Syntax.{U, Zero, One, Add, Mul, Squash, Not, Sum, Rel, Eq, Pred, Val}
use Rattle.u_terms.specs.Products.{product_of}
use Rattle.u_terms.specs.Size.{nodes, depth, value_nodes, value_depth}
use Rattle.u_terms.specs.declared.facts.Facts.{Facts}
use Rattle.u_terms.proofs.Sizes.{nodes-Mul, nodes-Eq, nodes-One, depth-Mul, depth-Eq, depth-One}
use Rattle.u_rules.specs.declared.rule.Arg.{Arg}
use Rattle.u_rules.specs.declared.rule.Rule.{Rule}
use Rattle.u_rules.specs.declared.rule.Rule.TheVariants as rule
use Rattle.u_rules.specs.Terms.{◌⊗◌, ◌≐◌, I, mul_leaves}
use Rattle.u_rules.proofs.multisets.LeavesAt.{mul_leaves-Mul, mul_leaves-One}
use Rattle.u_equal.specs.declared.link.Link.{Link}
use Rattle.u_equal.specs.Entails.{Entails}
use Rattle.u_equal.specs.Links.{Nests}
use Rattle.u_equal.specs.Routes.{IsChain}
use Rattle.u_equal.specs.Standing.{standing}
use Rattle.u_equal.proofs.entailment.Entailed.{leads-entail}
use Rattle.u_moves.specs.Derivations.{Derivation, IsKnown, IsWithin, IsOneStep, IsStill, IsJoined}
use Rattle.u_moves.specs.Moving.{root_step, IsKnownValue}
use Rattle.u_moves.specs.Turning.{turned_back}
use Rattle.u_moves.proofs.derivations.Lines.{count-back}
use Rattle.u_entail.specs.declared.following.Followed.{Followed}
use Rattle.u_entail.specs.declared.hops.Hop.{Hop}
use Rattle.u_entail.specs.Sides.{AreFactors, LeadsBy}
use Rattle.u_entail.specs.Small.{AreBasic, IsSmall}
use Rattle.u_entail.specs.Spots.{here, at_right}
use Rattle.u_entail.specs.Hops.{AreHops, HopsLead, StayWithin}
use Rattle.u_entail.specs.Following.{IsBounded, IsFollowed, Stands}
use Rattle.u_entail.specs.Gaining.{right_side, Begins, EndsIn, HasStepsOf, IsBegun, IsGained, IsGainedBy, IsGainedIn, IsLed, IsModest, IsRegathered, IsRegrouped, IsShort, IsWidened, LeadsBetween, StaysSmall}
use Rattle.u_entail.specs.Spines.{spine, weight, IsMadeBehind}
use Rattle.u_entail.proofs.sizes.Bounds.{AreWithin, weight-leaves, weight-product, depth-leaves, depth-product, depth-spine}
use Rattle.u_entail.proofs.chains.Flat.{stay-lead, stay-start}
use Rattle.u_entail.proofs.sizes.Basic.{basic-small, no-calls, value-positive}
use Rattle.u_entail.proofs.sizes.Small.{small-factors, small-weight, stand-leaves, times-le}
use Rattle.u_entail.proofs.chains.Leading.{leads-by, leads-given, nests-given, count-given}
use Rattle.u_entail.proofs.products.Lists.{each-append, each-parts}
use Rattle.u_entail.proofs.products.Parts.{spine-known}
use Rattle.u_moves.proofs.derivations.Plain.{back-plain, joined-plain, move-plain, still-plain}
use Rattle.u_moves.proofs.contexts.Depths.{value_depth-positive}
use Rattle.u_entail.proofs.products.Spines.{nodes-spine, depth-behind, depth-near, spine-append, product-spine}

-- ---- leaves
abbrev IsLeaf : U → Type 0
IsLeaf u = mul_leaves u ≡ u ∷ []

pub leaves-leaves : (u : U) → Each IsLeaf (mul_leaves u)
unfolding mul_leaves
leaves-leaves Zero = (refl, tt)
leaves-leaves One = tt
leaves-leaves (Add a b) = (refl, tt)
leaves-leaves (Mul a b) = each-append IsLeaf (mul_leaves a) (mul_leaves b) (leaves-leaves a) (leaves-leaves b)
leaves-leaves (Squash a) = (refl, tt)
leaves-leaves (Not a) = (refl, tt)
leaves-leaves (Sum body) = (refl, tt)
leaves-leaves (Rel table shape arguments) = (refl, tt)
leaves-leaves (Eq a b) = (refl, tt)
leaves-leaves (Pred symbol shape arguments) = (refl, tt)

leaves-spine : (xs : List U) (last : U) → Each IsLeaf xs → mul_leaves (spine xs last) ≡ xs ++ mul_leaves last
leaves-spine [] last each = refl
leaves-spine (x ∷ xs) last each =
    mul_leaves-Mul x (spine xs last) ∙ ap (λ us. us ++ mul_leaves (spine xs last)) each.0 ∙ ap (λ us. x ∷ us) (leaves-spine xs last each.1)

as-often : (xs ys : List U) → xs ≡ ys → IsPermutation xs ys
as-often xs ys e = subst (λ zs. IsPermutation xs zs) e (IsPermutation-refl xs)

module _ (product : U) (factors : List U) (is : factors ≡ mul_leaves product) where
  are-leaves : Each IsLeaf factors
  are-leaves = subst (λ xs. Each IsLeaf xs) (sym is) (leaves-leaves product)

  pub spread-leaves : (u : U) → u ≡ spine factors I → IsPermutation (mul_leaves product) (mul_leaves u)
  spread-leaves u e =
      as-often (mul_leaves product) (mul_leaves u)
      (sym (ap mul_leaves e ∙ leaves-spine factors I are-leaves ∙ ap (λ xs. factors ++ xs) mul_leaves-One ∙ append-nil factors ∙ is))

  pub gathered-leaves : (a b : Val) (u w : U) → u ≡ spine factors (a ≐ b) → w ≡ product ⊗ (a ≐ b) → IsPermutation (mul_leaves u) (mul_leaves w)
  gathered-leaves a b u w e f =
      as-often (mul_leaves u) (mul_leaves w)
      (ap mul_leaves e ∙ leaves-spine factors (a ≐ b) are-leaves ∙ ap (λ xs. xs ++ mul_leaves (a ≐ b)) is ∙ sym (mul_leaves-Mul product (a ≐ b)) ∙ sym (ap mul_leaves f))

pub widened-leaves : (x u : U) → u ≡ x ⊗ I → IsPermutation (mul_leaves x) (mul_leaves u)
widened-leaves x u e =
    as-often (mul_leaves x) (mul_leaves u) (sym (ap mul_leaves e ∙ mul_leaves-Mul x I ∙ ap (λ xs. mul_leaves x ++ xs) mul_leaves-One ∙ append-nil (mul_leaves x)))

-- ---- one step
module _ (facts : Facts) (outs : ℕ) where
  pub regrouped : (l r first last : U) (q : Rule) (args : List Arg) (d : Derivation) → (q ≡ rule.SqFix → ⊥) → (q ≡ rule.SumUse → ⊥) → l ≡ first → r ≡ last
      → IsOneStep facts outs l (root_step q args) r d → IsRegrouped facts outs first last d
  regrouped l r first last q args d proves uses el er one = record {
    leads = record { facts = one.facts; outs = one.outs; from = one.from ∙ el; to = one.to ∙ er; plain = move-plain q args d proves uses one.steps };
    steps = ap length one.steps;
    nodes = omega (arith, one.nodes, ap nodes el, ap nodes er);
    depth = omega (arith, one.depth, ap depth el, ap depth er);
  }

  pub regrouped-back : (l r first last : U) (q : Rule) (args : List Arg) (d e : Derivation) → (q ≡ rule.SqFix → ⊥) → (q ≡ rule.SumUse → ⊥) → l ≡ last → r ≡ first
      → IsOneStep facts outs l (root_step q args) r d → e.facts ≡ d.facts → e.outs ≡ d.outs → e.from ≡ d.to → e.to ≡ d.from
      → e.steps ≡ turned_back d.steps → e.nodes ≡ d.nodes → e.depth ≡ d.depth → IsRegrouped facts outs first last e
  regrouped-back l r first last q args d e proves uses el er one ef eo ea eb es en em = record {
    leads = record {
      facts = ef ∙ one.facts;
      outs = eo ∙ one.outs;
      from = ea ∙ one.to ∙ er;
      to = eb ∙ one.from ∙ el;
      plain = back-plain d e es (move-plain q args d proves uses one.steps);
    };
    steps = ap length es ∙ count-back d.steps ∙ ap length one.steps;
    nodes = omega (arith, en, one.nodes, ap nodes el, ap nodes er);
    depth = omega (arith, em, one.depth, ap depth el, ap depth er);
  }

-- ---- the equality, from 1 to the value with itself
module _ (facts : Facts) (outs : ℕ) (factors : List U) (a : Val) (first itself d : Derivation) (ends : EndsIn facts outs (spine factors I) first) (one : IsRegrouped facts outs I (a ≐ a) itself)
    (made : IsMadeBehind factors first itself d) where
  begun-bounded : (n m : ℕ) → IsWithin n m (spine factors I) → IsWithin n m (spine factors (a ≐ a)) → IsBounded n m first → IsBounded n m d
  begun-bounded n m w x bounded = record {
    few = omega (arith, made.nodes, one.nodes, nodes-spine factors I, nodes-spine factors (a ≐ a), w.few, x.few, bounded.few);
    shallow = omega (arith, made.depth, one.depth, depth-behind factors I, depth-behind factors (a ≐ a), w.shallow, x.shallow, bounded.shallow);
  }

  pub equality-begun : IsBegun facts outs factors a first d
  equality-begun =
      let l = one.leads in
      record {
        ends = record { facts = made.facts ∙ ends.facts; outs = made.outs ∙ ends.outs; to = made.to ∙ ap (λ (t : U). spine factors t) l.to };
        from = made.from;
        steps = omega (arith, made.steps, one.steps);
        within = begun-bounded;
        plain = λ plain. made.plain plain l.plain;
      }

-- ---- and along the hops
module _ (facts : Facts) (outs : ℕ) (factors : List U) (last : U) (begun : Derivation) where
  pub start-stands : EndsIn facts outs (spine factors last) begun → IsKnown 0 outs last → Stands facts outs factors (record { deriv = begun; last = last })
  start-stands ends known = record { facts = ends.facts; outs = ends.outs; to = ends.to; known = known }

  pub last-led : (hops : List Hop) (end : Followed) → Stands facts outs factors end → IsFollowed factors hops (record { deriv = begun; last = last }) end → IsLed facts outs factors last hops begun end.deriv
  last-led hops end h f = record {
    facts = h.facts;
    outs = h.outs;
    from = f.from;
    arrives = λ to leads. h.to ∙ ap (λ (x : U). spine factors x) (f.arrives to leads);
    steps = f.steps;
    within = f.within;
    plain = f.plain;
  }

pub equality-gained : (facts : Facts) (outs : ℕ) (factors : List U) (a : Val) (hops : List Hop) (first begun d : Derivation) (last : U) → last ≡ (a ≐ a) → EndsIn facts outs (spine factors I) first
    → IsBegun facts outs factors a first begun → IsLed facts outs factors last hops begun d → IsGained factors a hops first d
equality-gained facts outs factors a hops first begun d last is ends b l =
    let k = subst (λ (x : U). IsLed facts outs factors x hops begun d) is l in
    record {
      facts = k.facts ∙ sym ends.facts;
      outs = k.outs ∙ sym ends.outs;
      from = k.from ∙ b.from;
      arrives = k.arrives;
      steps = omega (arith, k.steps, b.steps);
      within = λ n m to stay w x bounded. k.within n m to stay (b.within n m w x bounded);
      plain = λ plain. k.plain (b.plain plain);
    }

-- ---- how large
-- a last factor 1 is no larger than an equality in its place
one-below : (most deepest : ℕ) (factors : List U) (a b : Val) → IsWithin most deepest (spine factors (a ≐ b)) → IsWithin most deepest (spine factors I)
one-below most deepest factors a b end = record {
  few = omega (arith, end.few, nodes-spine factors I, nodes-spine factors (a ≐ b), nodes-One, nodes-Eq a b);
  shallow = omega (arith, end.shallow, depth-near 0 factors I (a ≐ b) (omega (arith, depth-One, depth-Eq a b)));
}

module _ (outs : ℕ) (factors : List U) (first : U) (weighs : weight factors ≤ nodes first + 1) (deep : AreWithin (depth first) factors) (a b : Val) (known : IsKnownValue outs a) (n : ℕ) where
  abbrev pub most_nodes : ℕ
  most_nodes = 2 * (nodes first + nodes (a ≐ b)) + 2 * (n * nodes first)

  abbrev pub most_depth : ℕ
  most_depth = length factors + max (depth first) (depth (a ≐ b)) + 1 + n

  equal-within : (x : Val) → IsSmall (nodes first) (depth first) n x → IsWithin most_nodes most_depth (spine factors (a ≐ x))
  equal-within x small = record {
    few = omega (arith, weighs, small.few, nodes-spine factors (a ≐ x), nodes-Eq a x, nodes-Eq a b);
    shallow = omega (arith, small.shallow, depth-spine (depth first) factors (a ≐ x) deep, depth-Eq a x, depth-Eq a b);
  }

  pub stay-within : (hops : List Hop) → StaysSmall factors n a hops b → StayWithin most_nodes most_depth factors (a ≐ a) hops (a ≐ b)
  stay-within hops stays = stays (nodes first) (depth first) (small-weight (nodes first) (depth first) factors weighs deep) most_nodes most_depth equal-within

  pub end-within : IsWithin most_nodes most_depth (spine factors (a ≐ b))
  end-within = record {
    few = omega (arith, weighs, nodes-spine factors (a ≐ b), nodes-Eq a b);
    shallow = omega (arith, depth-spine (depth first) factors (a ≐ b) deep);
  }

  pub first-within : IsWithin most_nodes most_depth first
  first-within = record { few = omega arith; shallow = omega arith }

  pub whole-within : IsWithin most_nodes most_depth (first ⊗ (a ≐ b))
  whole-within = record { few = omega (arith, nodes-Mul first (a ≐ b), nodes-Eq a b); shallow = omega (arith, depth-Mul first (a ≐ b)) }

-- ---- where the hops of links lead
pub hops-small : (factors : List U) (n : ℕ) (a b : Val) (links : List Link) → LeadsBy factors n a links b → (hops : List Hop) → AreHops right_side links hops → StaysSmall factors n a hops b
hops-small factors n a b links leads hops are = λ many deep small most deepest within. are.stay many deep factors small n a b leads (at_right a here) refl most deepest within

pub small-lead : (factors : List U) (n : ℕ) (a b : Val) (hops : List Hop) → StaysSmall factors n a hops b → HopsLead factors (a ≐ a) hops (a ≐ b)
small-lead factors n a b hops stays =
    let many : ℕ = nodes (product_of factors) in
    let deep : ℕ = depth (product_of factors) in
    let most : ℕ = weight factors + 1 + value_nodes a + (many + 2 * (n * many)) in
    let deepest : ℕ = length factors + max deep (1 + max (value_depth a) (deep + n)) in
    stay-lead most deepest factors (a ≐ a) (a ≐ b) hops
    (stays many deep (small-factors factors) most deepest
    (λ x small. record {
      few = omega (arith, small.few, nodes-spine factors (a ≐ x), nodes-Eq a x);
      shallow = omega (arith, small.shallow, depth-spine deep factors (a ≐ x) (depth-product factors), depth-Eq a x);
    }))

-- ---- the product times the equality
pub spread-ends : (facts : Facts) (outs : ℕ) (first last : U) (d : Derivation) → IsRegrouped facts outs first last d → EndsIn facts outs last d
spread-ends facts outs first last d r = let l = r.leads in record { facts = l.facts; outs = l.outs; to = l.to }

pub gained-between : (facts : Facts) (outs : ℕ) (product : U) (factors : List U) (a b : Val) (hops : List Hop) (d : Derivation) → HopsLead factors (a ≐ a) hops (a ≐ b)
    → IsGainedIn facts outs product factors a hops d → LeadsBetween facts outs product (spine factors (a ≐ b)) d
gained-between facts outs product factors a b hops d leads h =
    let s = h.first in
    let l = s.leads in
    let g = h.gained in
    record { facts = g.facts ∙ l.facts; outs = g.outs ∙ l.outs; from = g.from ∙ l.from; to = g.arrives (a ≐ b) leads; plain = g.plain l.plain }

pub regathered : {E : Type 0} (facts : Facts) (outs : ℕ) (factors : List U) (product : U) (a b : Val) (gained gathered : Derivation) → IsRegrouped facts outs (spine factors (a ≐ b)) (product ⊗ (a ≐ b)) gathered
    → (r : Result Derivation E) → IfOk r (λ d. d.facts ≡ gained.facts) → IfOk r (λ d. d.outs ≡ gained.outs) → IfOk r (λ d. d.from ≡ gained.from) → IfOk r (λ d. d.to ≡ gathered.to)
    → IfOk r (λ d. d.steps ≡ gained.steps ++ gathered.steps) → IfOk r (IsJoined gained gathered) → IfOk r (IsRegathered facts outs factors product a b gained)
regathered facts outs factors product a b gained gathered last (Ok d) ef eo ea eb es j =
    record { gathered = gathered; last = last; facts = ef; outs = eo; from = ea; to = eb; steps = es; bounds = j }
regathered facts outs factors product a b gained gathered last (Err e) ef eo ea eb es j = tt

module _ (facts : Facts) (outs : ℕ) (product : U) (factors : List U) (is : factors ≡ mul_leaves product) (a b : Val) (known : IsKnownValue outs a) (hops : List Hop) (leads : HopsLead factors (a ≐ a) hops (a ≐ b))
    (gained d : Derivation) (h : IsGainedIn facts outs product factors a hops gained) (k : IsRegathered facts outs factors product a b gained d) where
  weighs : weight factors ≤ nodes product + 1
  weighs = omega (arith, ap weight is, weight-leaves product)

  deep : AreWithin (depth product) factors
  deep = subst (λ xs. AreWithin (depth product) xs) (sym is) (depth-leaves product)

  module _ (most deepest : ℕ) (stay : StayWithin most deepest factors (a ≐ a) hops (a ≐ b)) (start : IsWithin most deepest product) (whole : IsWithin most deepest (product ⊗ (a ≐ b)))
      (end : IsWithin most deepest (spine factors (a ≐ b))) where
    spread-bounded : IsBounded most deepest h.spread
    spread-bounded =
        let s = h.first in
        let one = one-below most deepest factors a b end in
        record { few = omega (arith, s.nodes, start.few, one.few); shallow = omega (arith, s.depth, start.shallow, one.shallow) }

    gained-bounded : IsBounded most deepest gained
    gained-bounded =
        let g = h.gained in
        g.within most deepest (a ≐ b) stay (one-below most deepest factors a b end) (stay-start most deepest factors (a ≐ a) (a ≐ b) hops stay end) spread-bounded

    whole-bounded : IsBounded most deepest d
    whole-bounded =
        let j = k.bounds in
        let last = k.last in
        let w = gained-bounded in
        record { few = omega (arith, j.nodes, w.few, last.nodes, end.few, whole.few); shallow = omega (arith, j.depth, w.shallow, last.depth, end.shallow, whole.shallow) }

  small-bounded : (n : ℕ) → StaysSmall factors n a hops b → IsBounded (most_nodes outs factors product weighs deep a b known n) (most_depth outs factors product weighs deep a b known n) d
  small-bounded n stays =
      whole-bounded (most_nodes outs factors product weighs deep a b known n) (most_depth outs factors product weighs deep a b known n) (stay-within outs factors product weighs deep a b known n hops stays)
      (first-within outs factors product weighs deep a b known n) (whole-within outs factors product weighs deep a b known n) (end-within outs factors product weighs deep a b known n)

  whole-steps : length d.steps ≤ length hops + 3
  whole-steps =
      let s = h.first in
      let g = h.gained in
      let last = k.last in
      omega (arith, g.steps, s.steps, last.steps, ap length k.steps, length-append gained.steps k.gathered.steps)

  pub product-gained : IsGainedBy facts outs factors product (product ⊗ (a ≐ b)) a b hops 3 d
  product-gained =
      let l = gained-between facts outs product factors a b hops gained leads h in
      let last = k.last in
      let m = last.leads in
      record {
        leads = record { facts = k.facts ∙ l.facts; outs = k.outs ∙ l.outs; from = k.from ∙ l.from; to = k.to ∙ m.to; plain = joined-plain gained k.gathered d k.steps l.plain m.plain };
        steps = whole-steps;
        nodes = λ n stays. let w = small-bounded n stays in w.few;
        depth = λ n stays. let w = small-bounded n stays in w.shallow;
        within = whole-bounded;
      }

-- ---- by a chain
module _ (facts : Facts) (outs : ℕ) (product : U) (factors : List U) (first last : U) (a b : Val) (links : List Link) (hops : List Hop) (are : AreHops right_side links hops) (more : ℕ) (d : Derivation)
    (chain : IsChain product a b (Some links)) (begins : Begins product factors) (g : IsGainedBy facts outs factors first last a b hops more d) where
  -- the hops with calls in calls as deep as in the links
  small-by : (n : ℕ) → Nests n links → StaysSmall factors n a hops b
  small-by n nests = hops-small factors n a b links (leads-by product factors begins.rest begins.is n a b links chain.0 nests) hops are

  pub by-links : HasStepsOf product a b more d
  by-links = let far = chain.3 in record { number = far.number; distance = far.is; few = omega (arith, g.steps, are.few far.number far.counted) }

  pub by-chain : IsShort product factors first a b more d
  by-chain = record {
    steps = λ none. omega (arith, g.steps, are.few (length links) (count-given links (leads-given product none a b links chain.0)), chain.1 none);
    nodes = λ none. omega (arith, g.nodes 0 (small-by 0 (nests-given links (leads-given product none a b links chain.0))));
    depth = λ none. omega (arith, g.depth 0 (small-by 0 (nests-given links (leads-given product none a b links chain.0))));
  }

  -- there are no more levels than values, and no more values than nodes
  pub by-levels : sum_by nodes factors ≤ nodes first → IsModest factors first a b d
  by-levels fits =
      let n : ℕ = length (standing product) in
      let few : n ≤ nodes first = omega (arith, stand-leaves product, fits, ap (λ (xs : List U). sum_by nodes xs) begins.is, sum_by-append nodes (mul_leaves product) begins.rest) in
      record { nodes = omega (arith, g.nodes n (small-by n chain.2), times-le n (nodes first) (nodes first) few); depth = omega (arith, g.depth n (small-by n chain.2), few) }

  -- where neither calls nor aggregates stand, within whatever both ends are within
  pub by-values : AreBasic factors → (most deepest : ℕ) → IsWithin most deepest first → IsWithin most deepest last → IsWithin most deepest (spine factors (a ≐ b)) → IsBounded most deepest d
  by-values basic most deepest start whole end =
      let stays = small-by 0 (nests-given links (leads-given product (no-calls factors basic product begins) a b links chain.0)) in
      g.within most deepest (stays 1 1 (basic-small factors basic) most deepest (λ x small. record {
        few = omega (arith, end.few, small.few, value-positive b, nodes-spine factors (a ≐ x), nodes-spine factors (a ≐ b), nodes-Eq a x, nodes-Eq a b);
        shallow = omega (arith, end.shallow, depth-near 0 factors (a ≐ x) (a ≐ b) (omega (arith, small.shallow, value_depth-positive b, depth-Eq a x, depth-Eq a b)));
      })) start whole end

  pub by-entailment : Entails product a b
  by-entailment = leads-entail product a b links chain.0

-- ---- the factors, with a last factor 1
module _ (facts : Facts) (outs : ℕ) (factors : List U) where
  pub widened-none : factors ≡ [] → (d : Derivation) → IsStill facts outs I d → IsWidened facts outs factors d
  widened-none none d s = record {
    leads = record {
      facts = s.facts;
      outs = s.outs;
      from = s.from ∙ sym (ap product_of none);
      to = s.to ∙ sym (ap (λ (xs : List U). spine xs I) none);
      plain = still-plain d s.steps;
    };
    steps = omega (arith, ap length s.steps);
    within = λ n m w x. record {
      few = omega (arith, s.nodes, w.few, ap (λ (xs : List U). nodes (product_of xs)) none);
      shallow = omega (arith, s.depth, w.shallow, ap (λ (xs : List U). depth (product_of xs)) none);
    };
  }

  module _ (front : List U) (last : U) (parts : factors ≡ front ++ last ∷ []) where
    whole-product : product_of factors ≡ spine front last
    whole-product = ap product_of parts ∙ product-spine front last

    whole-spine : spine factors I ≡ spine front (last ⊗ I)
    whole-spine = ap (λ (xs : List U). spine xs I) parts ∙ spine-append front (last ∷ []) I

    pub widened-more : (still wide d : Derivation) → IsStill facts outs (spine front last) still → IsRegrouped facts outs last (last ⊗ I) wide → IsMadeBehind front still wide d → IsWidened facts outs factors d
    widened-more still wide d s r made =
        let l = r.leads in
        record {
          leads = record {
            facts = made.facts ∙ s.facts;
            outs = made.outs ∙ s.outs;
            from = made.from ∙ s.from ∙ sym whole-product;
            to = made.to ∙ ap (λ (t : U). spine front t) l.to ∙ sym whole-spine;
            plain = made.plain (still-plain still s.steps) l.plain;
          };
          steps = omega (arith, made.steps, r.steps, ap length s.steps);
          within = λ n m w x. record {
            few =
                omega (arith, made.nodes, s.nodes, r.nodes, nodes-spine front last, nodes-spine front (last ⊗ I), ap nodes whole-product, ap nodes whole-spine, w.few, x.few);
            shallow =
                omega (arith, made.depth, s.depth, r.depth, depth-behind front last, depth-behind front (last ⊗ I), ap depth whole-product, ap depth whole-spine, w.shallow, x.shallow);
          };
        }

module _ (outs : ℕ) (factors front : List U) (last : U) (parts : factors ≡ front ++ last ∷ []) (ready : AreFactors outs factors) where
  both-known : Each (IsKnown 0 outs) front × Each (IsKnown 0 outs) (last ∷ [])
  both-known = each-parts (IsKnown 0 outs) front (last ∷ []) (subst (λ (xs : List U). Each (IsKnown 0 outs) xs) parts ready.known)

  pub last-known : IsKnown 0 outs last
  last-known = both-known.1.0

  pub whole-known : (w : U) → w ≡ spine front last → IsKnown 0 outs w
  whole-known w is = subst (IsKnown 0 outs) (sym is) (spine-known outs 0 front last both-known.0 last-known)

  pub whole-shallow : (w : U) → w ≡ spine front last → outs + depth (product_of factors) < 2 ^ 32 → outs + depth w < 2 ^ 32
  whole-shallow w is room = omega (arith, room, ap depth is, ap (λ (xs : List U). depth (product_of xs)) parts, ap depth (product-spine front last))

-- ---- the equality behind the factors
module _ (facts : Facts) (outs : ℕ) (factors : List U) (a b : Val) (known : IsKnownValue outs a) (hops : List Hop) (leads : HopsLead factors (a ≐ a) hops (a ≐ b)) (first d : Derivation)
    (w : IsWidened facts outs factors first) (g : IsGained factors a hops first d) where
  abbrev whole : U
  whole = product_of factors

  appended-bounded : (most deepest : ℕ) → StayWithin most deepest factors (a ≐ a) hops (a ≐ b) → IsWithin most deepest whole → IsWithin most deepest (spine factors (a ≐ b)) → IsBounded most deepest d
  appended-bounded most deepest stay start end =
      let one = one-below most deepest factors a b end in
      g.within most deepest (a ≐ b) stay one (stay-start most deepest factors (a ≐ a) (a ≐ b) hops stay end) (w.within most deepest start one)

  module _ (n : ℕ) (stays : StaysSmall factors n a hops b) where
    abbrev appended_nodes : ℕ
    appended_nodes = most_nodes outs factors whole (weight-product factors) (depth-product factors) a b known n

    abbrev appended_depth : ℕ
    appended_depth = most_depth outs factors whole (weight-product factors) (depth-product factors) a b known n

    appended-small : IsBounded appended_nodes appended_depth d
    appended-small =
        appended-bounded appended_nodes appended_depth (stay-within outs factors whole (weight-product factors) (depth-product factors) a b known n hops stays)
        (first-within outs factors whole (weight-product factors) (depth-product factors) a b known n) (end-within outs factors whole (weight-product factors) (depth-product factors) a b known n)

  pub product-appended : IsGainedBy facts outs factors (product_of factors) (product_of (factors ++ (a ≐ b) ∷ [])) a b hops 2 d
  product-appended =
      let l = w.leads in
      record {
        leads = record {
          facts = g.facts ∙ l.facts;
          outs = g.outs ∙ l.outs;
          from = g.from ∙ l.from;
          to = g.arrives (a ≐ b) leads ∙ sym (product-spine factors (a ≐ b));
          plain = g.plain l.plain;
        };
        steps = omega (arith, g.steps, w.steps);
        nodes = λ n stays. let h = appended-small n stays in h.few;
        depth = λ n stays. let h = appended-small n stays in h.shallow;
        within = λ most deepest stay start last end. appended-bounded most deepest stay start end;
      }
