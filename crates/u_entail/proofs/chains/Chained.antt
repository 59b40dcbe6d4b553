-- What a chain of the product's classes says of the answer.
use Rattle.std.proofs.Common.{◌≡◌, ℕ, ◌+◌, ◌<◌, ◌≤◌, ◌^◌, List, [], ◌∷◌, ◌++◌, Option, Some, None, length, refl, ap, sym, ◌∙◌, subst, arith}
use Rattle.std.proofs.lemmas.List.{append-nil}
use Rattle.data_model.specs.Lists.{Each}
use Rattle.u_terms.specs.Syntax.{U, Zero, One, Add, Mul, Squash, Not, Sum, Rel, Eq, Pred, Val}
use Rattle.u_terms.specs.Names.{EachName}
use Rattle.u_terms.specs.Places.{IsClosed}
use Rattle.u_terms.specs.Products.{product_of}
use Rattle.u_terms.specs.declared.facts.Facts.{Facts}
use Rattle.u_terms.specs.Size.{nodes, depth}
use Rattle.u_terms.proofs.Sizes.{depth-positive}
use Rattle.u_rules.specs.Terms.{◌⊗◌, ◌≐◌, mul_leaves}
use Rattle.u_rules.proofs.multisets.LeavesAt.{mul_leaves-Mul}
use Rattle.u_equal.specs.declared.link.Link.{Link}
use Rattle.u_equal.specs.Entails.{Entails}
use Rattle.u_equal.specs.Routes.{IsChain}
use Rattle.u_equal.specs.Standing.{standing}
use Rattle.u_moves.specs.Derivations.{Derivation, IsKnown, IsWithin}
use Rattle.u_moves.specs.Moving.{IsKnownValue}
use Rattle.u_entail.specs.declared.hops.Hop.{Hop}
use Rattle.u_entail.specs.Sides.{AreFactors}
use Rattle.u_entail.specs.Following.{IsBounded}
use Rattle.u_entail.specs.Hops.{AreHops, HopsLead, Lead}
use Rattle.u_entail.specs.Gaining.{right_side, IsGainedBy, IsGained, IsLean, IsWidened, Derives, Appends, Begins}
use Rattle.u_entail.specs.Spines.{spine}
use Rattle.u_entail.proofs.sizes.Bounds.{AreWithin, depth-leaves, depth-row, depth-row-more, nodes-row-more}
use Rattle.u_entail.proofs.chains.Leading.{leads-by}
use Rattle.u_entail.proofs.chains.Gained.{by-links, by-chain, by-levels, by-values, by-entailment, hops-small, product-appended, small-lead}
use Rattle.u_entail.proofs.sizes.Small.{sum-leaves, sum-product}
use Rattle.u_entail.proofs.products.Spines.{product-spine}
use Rattle.u_entail.proofs.products.Lists.{each-append}

pub all-leaves : (product : U) (factors : List U) → factors ≡ mul_leaves product → Begins product factors
all-leaves product factors is = record { rest = []; is = is ∙ sym (append-nil (mul_leaves product)) }

-- what stays within whatever both ends are within is no larger than its last term, a row with one factor more
row-lean : (factors : List U) (x : U) (d : Derivation)
    → ((most deepest : ℕ) → IsWithin most deepest (product_of factors) → IsWithin most deepest (product_of (factors ++ x ∷ [])) → IsWithin most deepest (spine factors x) → IsBounded most deepest d)
    → IsLean (product_of (factors ++ x ∷ [])) 0 d
row-lean factors x d within =
    let row : U = product_of (factors ++ x ∷ []) in
    let last : row ≡ spine factors x = product-spine factors x in
    let bounded = within (nodes row) (depth row) (record { few = nodes-row-more factors (x ∷ []); shallow = depth-row-more factors (x ∷ []) }) (record { few = omega arith; shallow = omega arith })
    (record { few = omega (arith, ap nodes last); shallow = omega (arith, ap depth last) }) in
    record { nodes = omega (arith, bounded.few); depth = omega (arith, bounded.shallow) }

module _ (product classes : U) (is : classes ≡ product) (a b : Val) (found : Option (List Link)) (chain : IsChain classes a b found) where
  of_product : IsChain product a b found
  of_product = subst (λ (p : U). IsChain p a b found) is chain

  pub no-chain : found ≡ None → Entails product a b → ⊥
  no-chain none = subst (λ (f : Option (List Link)). IsChain product a b f) none of_product

  module _ (links : List Link) (some : found ≡ Some links) where
    pub the-chain : IsChain product a b (Some links)
    the-chain = subst (λ (f : Option (List Link)). IsChain product a b f) some of_product

    module _ (hops : List Hop) (are : AreHops right_side links hops) where
      pub hops-lead : (factors : List U) → Begins product factors → HopsLead factors (a ≐ a) hops (a ≐ b)
      hops-lead factors begins =
          let n : ℕ = length (standing product) in
          small-lead factors n a b hops (hops-small factors n a b links (leads-by product factors begins.rest begins.is n a b links the-chain.0 the-chain.2) hops are)

      pub lead-hops : (factors : List U) → Begins product factors → Lead factors (a ≐ a) hops
      lead-hops factors begins = record { to = a ≐ b; by = hops-lead factors begins }

      pub derives : (facts : Facts) (outs : ℕ) (factors : List U) → factors ≡ mul_leaves product → (d : Derivation)
          → IsGainedBy facts outs factors product (product ⊗ (a ≐ b)) a b hops 3 d → Derives facts outs product a b d
      derives facts outs factors leaves d g =
          let begins = all-leaves product (mul_leaves product) refl in
          let h = subst (λ (xs : List U). IsGainedBy facts outs xs product (product ⊗ (a ≐ b)) a b hops 3 d) leaves g in
          record {
            entailed = by-entailment facts outs product (mul_leaves product) product (product ⊗ (a ≐ b)) a b links hops are 3 d the-chain begins h;
            leads = h.leads;
            links = by-links facts outs product (mul_leaves product) product (product ⊗ (a ≐ b)) a b links hops are 3 d the-chain begins h;
            short = by-chain facts outs product (mul_leaves product) product (product ⊗ (a ≐ b)) a b links hops are 3 d the-chain begins h;
            modest = by-levels facts outs product (mul_leaves product) product (product ⊗ (a ≐ b)) a b links hops are 3 d the-chain begins h (sum-leaves product);
          }

      pub appends : (facts : Facts) (outs : ℕ) (factors : List U) → Begins product factors → IsKnownValue outs a → (first d : Derivation) → IsWidened facts outs factors first
          → IsGained factors a hops first d → Appends facts outs product factors a b d
      appends facts outs factors begins known first d w g =
          let last : U = product_of (factors ++ (a ≐ b) ∷ []) in
          let h = product-appended facts outs factors a b known hops (hops-lead factors begins) first d w g in
          record {
            entailed = by-entailment facts outs product factors (product_of factors) last a b links hops are 2 d the-chain begins h;
            leads = h.leads;
            links = by-links facts outs product factors (product_of factors) last a b links hops are 2 d the-chain begins h;
            short = by-chain facts outs product factors (product_of factors) last a b links hops are 2 d the-chain begins h;
            modest = by-levels facts outs product factors (product_of factors) last a b links hops are 2 d the-chain begins h (sum-product factors);
            lean = λ basic. row-lean factors (a ≐ b) d (by-values facts outs product factors (product_of factors) last a b links hops are 2 d the-chain begins h basic);
          }

leaves-known : (outs : ℕ) (u : U) → IsKnown 0 outs u → Each (IsKnown 0 outs) (mul_leaves u)
unfolding mul_leaves IsClosed EachName
leaves-known outs Zero k = (k, tt)
leaves-known outs One k = tt
leaves-known outs (Add a b) k = (k, tt)
leaves-known outs (Mul a b) k =
    each-append (IsKnown 0 outs) (mul_leaves a) (mul_leaves b) (leaves-known outs a (record { closed = k.closed.0; named = k.named.0 })) (leaves-known outs b (record { closed = k.closed.1; named = k.named.1 }))
leaves-known outs (Squash a) k = (k, tt)
leaves-known outs (Not a) k = (k, tt)
leaves-known outs (Sum body) k = (k, tt)
leaves-known outs (Rel table shape arguments) k = (k, tt)
leaves-known outs (Eq a b) k = (k, tt)
leaves-known outs (Pred symbol shape arguments) k = (k, tt)

-- the leaves of a product that begins with another one
pub first-leaves : (first more whole : U) → whole ≡ first ⊗ more → (factors : List U) → factors ≡ mul_leaves whole → Begins first factors
first-leaves first more whole is factors leaves = record { rest = mul_leaves more; is = leaves ∙ ap mul_leaves is ∙ mul_leaves-Mul first more }

pub leaves-shallow : (u : U) (factors : List U) → factors ≡ mul_leaves u → depth (product_of factors) ≤ length factors + depth u
leaves-shallow u factors is = depth-row (depth u) factors (depth-positive u) (subst (λ (xs : List U). AreWithin (depth u) xs) (sym is) (depth-leaves u))

pub are-factors : (outs : ℕ) (product : U) (factors : List U) → factors ≡ mul_leaves product → IsKnown 0 outs product → length (mul_leaves product) < 2 ^ 32 → AreFactors outs factors
are-factors outs product factors is known few = record {
  known = subst (λ (xs : List U). Each (IsKnown 0 outs) xs) (sym is) (leaves-known outs product known);
  few = omega (arith, few, ap length is);
}
