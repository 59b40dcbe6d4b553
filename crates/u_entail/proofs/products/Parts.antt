-- The parts of lists and of terms that a step by an equality is made of.
use Rattle.std.proofs.Common.{◌≡◌, ℕ, ◌+◌, List, [], ◌∷◌, ◌++◌, length, take, drop, get_or, ◌-◌, refl, ap, sym, ◌∙◌, arith}
use Rattle.std.specs.Prelude.{Some, slice_get}
use Rattle.std.proofs.Math.Seq.{take-length}
use Rattle.std.proofs.lemmas.List.{take-map, drop-map, take_rest, take_more}
use denote.Ref.{Bor}
use Rattle.data_model.specs.Lists.{Each}
use Rattle.u_terms.specs.Syntax.{U, Val}
use Rattle.u_terms.specs.Names.{EachName}
use Rattle.u_terms.specs.Places.{IsClosed}
use Rattle.u_terms.specs.Syntax.{constructors}
use Rattle.u_terms.proofs.Closedness.{closed-more}
use Rattle.u_rules.specs.Terms.{◌⊗◌, ◌≐◌, I, terms}
use Rattle.u_moves.specs.Derivations.{IsKnown}
use Rattle.u_moves.specs.Moving.{IsKnownValue}
use Rattle.u_entail.specs.Spines.{spine}
use Rattle.u_entail.proofs.products.Lists.{each-weaker, split-at}
use Rattle.u_entail.proofs.products.Spines.{spine-append}

-- ---- lists that are lent
pub terms-front : (refs : List (Bor U)) (n : ℕ) → terms (take n refs) ≡ take n (terms refs)
terms-front refs n = sym (take-map (λ r. r.now) n refs)

pub terms-behind : (refs : List (Bor U)) (n : ℕ) → terms (take (length refs - n) (drop n refs)) ≡ drop n (terms refs)
terms-behind refs n = ap terms (take_rest refs n) ∙ sym (drop-map (λ r. r.now) n refs)

pub terms-last : (refs : List (Bor U)) (k : ℕ) (r : Bor U) → k + 1 ≡ length refs → r ≡ get_or refs k r → terms refs ≡ terms (take k refs) ++ r.now ∷ []
terms-last refs k r long is =
    sym (ap terms (ap (λ n. take n refs) long ∙ take-length refs)) ∙ ap terms (take_more refs k r (omega arith)) ∙ ap (λ x. terms (take k refs ++ x ∷ [])) (sym is) ∙ terms-push (take k refs) r
  where
    terms-push : (xs : List (Bor U)) (x : Bor U) → terms (xs ++ x ∷ []) ≡ terms xs ++ x.now ∷ []
    terms-push [] x = refl
    terms-push (y ∷ xs) x = ap (λ zs. y.now ∷ zs) (terms-push xs x)

-- ---- a spine, parted at one of its factors
pub spine-split : (factors : List U) (i : ℕ) (x last : U) → slice_get factors i ≡ Some x → spine factors last ≡ spine (take i factors) (x ⊗ spine (drop (i + 1) factors) last)
spine-split factors i x last at = ap (λ (xs : List U). spine xs last) (split-at factors i x at) ∙ spine-append (take i factors) (x ∷ drop (i + 1) factors) last

-- ---- what is known of parts
pub mul-closed : (x y : U) → IsClosed 0 x → IsClosed 0 y → IsClosed 0 (x ⊗ y)
unfolding IsClosed constructors
mul-closed x y h k = (h, k)

module _ (outs : ℕ) where
  pub left-known : (a b : Val) → IsKnown 0 outs (a ≐ b) → IsKnownValue outs a
  unfolding IsClosed EachName
  left-known a b k = record { closed = k.closed.0; named = k.named.0 }

  pub right-known : (a b : Val) → IsKnown 0 outs (a ≐ b) → IsKnownValue outs b
  unfolding IsClosed EachName
  right-known a b k = record { closed = k.closed.1; named = k.named.1 }

  pub mul-known : (places : ℕ) (x y : U) → IsKnown places outs x → IsKnown places outs y → IsKnown places outs (x ⊗ y)
  unfolding IsClosed EachName constructors
  mul-known places x y h k = record { closed = (h.closed, k.closed); named = (h.named, k.named) }

  pub one-known : IsKnown 0 outs I
  unfolding IsClosed EachName constructors
  one-known = record { closed = tt; named = tt }

  pub eq-known : (a b : Val) → IsKnownValue outs a → IsKnownValue outs b → IsKnown 0 outs (a ≐ b)
  unfolding IsClosed EachName
  eq-known a b h k = record { closed = (h.closed, k.closed); named = (h.named, k.named) }

  pub wider-known : (x : U) → IsKnown 0 outs x → IsKnown 1 outs x
  wider-known x k = record { closed = closed-more x 0 1 (omega arith) k.closed; named = k.named }

  pub spine-known : (places : ℕ) (factors : List U) (last : U) → Each (IsKnown places outs) factors → IsKnown places outs last → IsKnown places outs (spine factors last)
  spine-known places [] last each k = k
  spine-known places (x ∷ xs) last each k = mul-known places x (spine xs last) each.0 (spine-known places xs last each.1 k)

  pub all-closed : (factors : List U) → Each (IsKnown 0 outs) factors → Each (IsClosed 0) factors
  all-closed factors each = each-weaker (IsKnown 0 outs) (IsClosed 0) (λ x k. k.closed) factors each
