-- A product that is reckoned factor by factor is as large as the whole.
use Rattle.std.proofs.Common.{◌≡◌, ℕ, ◌+◌, min, max, List, [], ◌∷◌, ◌++◌, refl, ap, sym, ◌∙◌, arith}
use Rattle.sql_to_u.specs.declared.size.Size.{Size}
use Rattle.sql_to_u.specs.declared.product.Product.{Product}
use Rattle.sql_to_u.specs.declared.product.Product.TheVariants as p
use Rattle.sql_to_u.specs.Sizes.{leaf, both, with_factor, with_factors, finished, product_size}

-- the whole at once
abbrev pub folded : List Size → Size
folded [] = leaf
folded (s ∷ []) = s
folded (s ∷ t ∷ rest) = both s (folded (t ∷ rest))

abbrev pub sized : ℕ → ℕ → Size
sized n d = record { nodes = n; depth = d }

pub made : (n d m e : ℕ) → n ≡ m → d ≡ e → sized n d ≡ sized m e
made n d m e p q = λ i. record { nodes = p i; depth = q i }

-- ---- capped arithmetic, for any cap
pub cap-add : (c a b : ℕ) → min (min a c + b) c ≡ min (a + b) c
cap-add c a b = omega arith

pub cap-count : (c a b : ℕ) → min (a + min b c) c ≡ min (a + b) c
cap-count c a b = omega arith

more-nodes : (c n l s : ℕ) → min (min (min (n + l) c + 1) c + s) c ≡ min (n + min (min (l + s) c + 1) c) c
more-nodes c n l s =
    ap (λ x. min (x + s) c) (cap-add c (n + l) 1) ∙ cap-add c (n + l + 1) s
    ∙ (let e : n + l + 1 + s ≡ n + (l + s + 1) = omega arith in ap (λ x. min x c) e)
    ∙ sym (ap (λ x. min (n + x) c) (cap-add c (l + s) 1) ∙ cap-count c n (l + s + 1))

deepest : (c d l k s : ℕ) → max (max d (min (l + k + 1) c)) (min (s + (k + 1)) c) ≡ max d (min (max l s + 1 + k) c)
deepest c d l k s = omega arith

more-depth : (c d l k s : ℕ) → max (max d (min (min (l + k) c + 1) c)) (min (s + min (k + 1) c) c) ≡ max d (min (min (max l s + 1) c + k) c)
more-depth c d l k s =
    ap (λ x. max (max d x) (min (s + min (k + 1) c) c)) (cap-add c (l + k) 1)
    ∙ ap (λ x. max (max d (min (l + k + 1) c)) x) (cap-count c s (k + 1))
    ∙ deepest c d l k s
    ∙ sym (ap (λ x. max d x) (cap-add c (max l s + 1) k))

one-nodes : (c l s : ℕ) → min (min (l + 1) c + s) c ≡ min (min (l + s) c + 1) c
one-nodes c l s = omega arith

one-depth : (c l s : ℕ) → max (min (l + 1) c) (min (s + 1) c) ≡ min (max l s + 1) c
one-depth c l s = omega arith

-- ---- one more factor
join-more : (k n d : ℕ) (l s : Size) → finished (with_factor (p.More k n d l) s) ≡ finished (p.More k n d (both l s))
join-more k n d l s = made _ _ _ _ (more-nodes _ n l.nodes s.nodes) (more-depth _ d l.depth k s.depth)

join-one : (l s : Size) → finished (with_factor (p.One l) s) ≡ both l s
join-one l s = made _ _ _ _ (one-nodes _ l.nodes s.nodes) (one-depth _ l.depth s.depth)

more-is : (fs : List Size) (k n d : ℕ) (l : Size) → finished (with_factors (p.More k n d l) fs) ≡ finished (p.More k n d (folded (l ∷ fs)))
more-is [] k n d l = refl
more-is (f ∷ fs) k n d l = more-is fs _ _ _ f ∙ join-more k n d l (folded (f ∷ fs))

one-is : (fs : List Size) (l : Size) → finished (with_factors (p.One l) fs) ≡ folded (l ∷ fs)
one-is [] l = refl
one-is (f ∷ fs) l = more-is fs _ _ _ f ∙ join-one l (folded (f ∷ fs))

pub product-is : (fs : List Size) → product_size fs ≡ folded fs
product-is [] = refl
product-is (f ∷ fs) = one-is fs f

pub with-append : (q : Product) (xs ys : List Size) → with_factors q (xs ++ ys) ≡ with_factors (with_factors q xs) ys
with-append q [] ys = refl
with-append q (x ∷ xs) ys = with-append (with_factor q x) xs ys
