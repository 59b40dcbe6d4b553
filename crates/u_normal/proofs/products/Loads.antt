-- How much there is to do in a product, and how many of its factors are of a kind.
use Rattle.std.proofs.Common.{◌≡◌, ℕ, ◌+◌, ◌≤◌, Bool, true, false, cond, List, [], ◌∷◌, ◌++◌, length, refl, ap, sym, ◌∙◌, arith}
use Rattle.std.specs.Prelude.{IsPermutation, filter}
use Rattle.std.specs.List.{sum_by}
use Rattle.std.proofs.lemmas.List.Sums.{sum_by-append, sum_by-cons}
use Rattle.std.proofs.lemmas.List.Sorted.{sum_by-IsPermutation}
use Rattle.u_terms.specs.declared.term.U.TheVariants as u
use Rattle.u_terms.specs.Syntax.{U, Zero, One, Add, Mul, Squash, Not, Sum, Rel, Eq, Pred, constructors}
use Rattle.u_terms.specs.Size.{nodes}
use Rattle.u_terms.specs.Binding.{mapped, opened}
use Rattle.u_terms.proofs.Sizes.{nodes-Mul}
use Rattle.u_rules.specs.Terms.{mul_leaves}
use Rattle.u_rules.proofs.multisets.LeavesAt.{mul_leaves-One, mul_leaves-Mul}
use Rattle.normal_form.specs.declared.kind.Kind.{Kind}
use Rattle.normal_form.specs.Kinds.{kind_of, is_kind, of_kind}
use Rattle.u_normal.specs.Taking.{load, count}
use Rattle.u_normal.proofs.products.Nodes.{opened-nodes}

-- ---- load
pub load-Mul : (a b : U) → load (u.Mul a b) ≡ load a + load b
unfolding load
load-Mul a b = ap (λ (us : List U). sum_by (λ x. nodes x + 1) us) (mul_leaves-Mul a b) ∙ sum_by-append (λ x. nodes x + 1) (mul_leaves a) (mul_leaves b)

pub load-One : load u.One ≡ 0
unfolding load
load-One = ap (λ (us : List U). sum_by (λ x. nodes x + 1) us) mul_leaves-One

pub load-leaf : (t : U) → mul_leaves t ≡ t ∷ [] → load t ≡ nodes t + 1
unfolding load
load-leaf t e =
    let f : sum_by (λ x. nodes x + 1) (t ∷ []) ≡ (nodes t + 1) + 0 = sum_by-cons (λ x. nodes x + 1) t [] in
    ap (λ (us : List U). sum_by (λ x. nodes x + 1) us) e ∙ omega (arith, f)

pub load-permuted : (a b : U) → IsPermutation (mul_leaves a) (mul_leaves b) → load b ≡ load a
unfolding load
load-permuted a b h = sum_by-IsPermutation (λ x. nodes x + 1) (mul_leaves a) (mul_leaves b) h

small-leaf : (t : U) → mul_leaves t ≡ t ∷ [] → load t ≤ nodes t + 1
small-leaf t e = omega (arith, load-leaf t e)

pub load-small : (t : U) → load t ≤ nodes t + 1
unfolding mul_leaves constructors
load-small Zero = small-leaf Zero refl
load-small One = omega (arith, load-One)
load-small (Add a b) = small-leaf (Add a b) refl
load-small (Mul a b) = omega (arith, load-Mul a b, load-small a, load-small b, nodes-Mul a b)
load-small (Squash a) = small-leaf (Squash a) refl
load-small (Not a) = small-leaf (Not a) refl
load-small (Sum body) = small-leaf (Sum body) refl
load-small (Rel table shape arguments) = small-leaf (Rel table shape arguments) refl
load-small (Eq a b) = small-leaf (Eq a b) refl
load-small (Pred symbol shape arguments) = small-leaf (Pred symbol shape arguments) refl

-- ---- of an opened body
opened-leaf : (x : ℕ) (t : U) → mul_leaves t ≡ t ∷ [] → mul_leaves (opened t x) ≡ opened t x ∷ [] → load (opened t x) ≡ load t
opened-leaf x t e f = load-leaf (opened t x) f ∙ ap (λ (n : ℕ). n + 1) (opened-nodes t x) ∙ sym (load-leaf t e)

pub load-opened : (t : U) (x : ℕ) → load (opened t x) ≡ load t
unfolding mul_leaves mapped constructors
load-opened Zero x = opened-leaf x Zero refl refl
load-opened One x = refl
load-opened (Add a b) x = opened-leaf x (Add a b) refl refl
load-opened (Mul a b) x = load-Mul (opened a x) (opened b x) ∙ ap (λ (n : ℕ). n + load (opened b x)) (load-opened a x) ∙ ap (λ (n : ℕ). load a + n) (load-opened b x) ∙ sym (load-Mul a b)
load-opened (Squash a) x = opened-leaf x (Squash a) refl refl
load-opened (Not a) x = opened-leaf x (Not a) refl refl
load-opened (Sum body) x = opened-leaf x (Sum body) refl refl
load-opened (Rel table shape arguments) x = opened-leaf x (Rel table shape arguments) refl refl
load-opened (Eq a b) x = opened-leaf x (Eq a b) refl refl
load-opened (Pred symbol shape arguments) x = opened-leaf x (Pred symbol shape arguments) refl refl

-- ---- counts
first-kept : (b : Bool) (x : U) (xs : List U) → length (cond b (x ∷ xs) xs) ≡ cond b 1 0 + length xs
first-kept true x xs = omega arith
first-kept false x xs = omega arith

length-kept : (p : U → Bool) (xs : List U) → length (filter p xs) ≡ sum_by (λ x. cond (p x) 1 0) xs
length-kept p [] = refl
length-kept p (x ∷ xs) =
    let e : length (filter p (x ∷ xs)) ≡ cond (p x) 1 0 + length (filter p xs) = first-kept (p x) x (filter p xs) in
    let f : sum_by (λ x. cond (p x) 1 0) (x ∷ xs) ≡ cond (p x) 1 0 + sum_by (λ x. cond (p x) 1 0) xs = sum_by-cons (λ x. cond (p x) 1 0) x xs in
    omega (arith, e, f, length-kept p xs)

pub count-permuted : (kind : Kind) (a b : U) → IsPermutation (mul_leaves a) (mul_leaves b) → count kind b ≡ count kind a
count-permuted kind a b h =
    let p : U → Bool = λ (x : U). is_kind kind (kind_of x) in
    length-kept p (mul_leaves b) ∙ sum_by-IsPermutation (λ x. cond (p x) 1 0) (mul_leaves a) (mul_leaves b) h ∙ sym (length-kept p (mul_leaves a))

pub count-Mul : (kind : Kind) (a b : U) → count kind (u.Mul a b) ≡ count kind a + count kind b
count-Mul kind a b =
    let p : U → Bool = λ (x : U). is_kind kind (kind_of x) in
    ap (λ (us : List U). length (of_kind kind us)) (mul_leaves-Mul a b)
    ∙ length-kept p (mul_leaves a ++ mul_leaves b)
    ∙ sum_by-append (λ x. cond (p x) 1 0) (mul_leaves a) (mul_leaves b)
    ∙ ap (λ (n : ℕ). n + sum_by (λ x. cond (p x) 1 0) (mul_leaves b)) (sym (length-kept p (mul_leaves a)))
    ∙ ap (λ (n : ℕ). count kind a + n) (sym (length-kept p (mul_leaves b)))

pub count-One : (kind : Kind) → count kind u.One ≡ 0
count-One kind = ap (λ (us : List U). length (of_kind kind us)) mul_leaves-One

pub count-leaf : (kind : Kind) (t : U) → mul_leaves t ≡ t ∷ [] → count kind t ≡ cond (is_kind kind (kind_of t)) 1 0
count-leaf kind t e =
    let f : length (of_kind kind (t ∷ [])) ≡ cond (is_kind kind (kind_of t)) 1 0 + 0 = first-kept (is_kind kind (kind_of t)) t [] in
    ap (λ (us : List U). length (of_kind kind us)) e ∙ omega (arith, f)
