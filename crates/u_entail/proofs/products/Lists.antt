-- Lists taken apart, and what holds of each item.
use Rattle.std.proofs.Common.{◌≡◌, ℕ, zero, suc, ◌+◌, ◌<◌, List, [], ◌∷◌, ◌++◌, length, take, drop, get_or, refl, ap, sym, ◌∙◌, subst, add-one, arith}
use Rattle.std.specs.Prelude.{Some, slice_get}
use Rattle.std.proofs.Math.Seq.{drop-cons}
use Rattle.std.proofs.lemmas.Option.{none-some, same_Some}
use Rattle.data_model.specs.Lists.{Each}

pub each-at : {X : Type 0} (P : X → Type 0) (xs : List X) (i : ℕ) (x : X) → Each P xs → slice_get xs i ≡ Some x → P x
each-at P [] i x each at = absurd (none-some x at)
each-at P (y ∷ ys) zero x each at = subst P (same_Some y x at) each.0
each-at P (y ∷ ys) (suc i) x each at = each-at P ys i x each.1 at

pub each-drop : {X : Type 0} (P : X → Type 0) (xs : List X) (i : ℕ) → Each P xs → Each P (drop i xs)
each-drop P [] zero each = tt
each-drop P [] (suc i) each = tt
each-drop P (x ∷ xs) zero each = each
each-drop P (x ∷ xs) (suc i) each = each-drop P xs i each.1

pub each-weaker : {X : Type 0} (P Q : X → Type 0) → ((x : X) → P x → Q x) → (xs : List X) → Each P xs → Each Q xs
each-weaker P Q h [] each = tt
each-weaker P Q h (x ∷ xs) each = (h x each.0, each-weaker P Q h xs each.1)

pub each-append : {X : Type 0} (P : X → Type 0) (xs ys : List X) → Each P xs → Each P ys → Each P (xs ++ ys)
each-append P [] ys h k = k
each-append P (x ∷ xs) ys h k = (h.0, each-append P xs ys h.1 k)

pub each-parts : {X : Type 0} (P : X → Type 0) (xs ys : List X) → Each P (xs ++ ys) → Each P xs × Each P ys
each-parts P [] ys h = (tt, h)
each-parts P (x ∷ xs) ys h = let both = each-parts P xs ys h.1 in ((h.0, both.0), both.1)

split-suc : {X : Type 0} (xs : List X) (i : ℕ) (x : X) → slice_get xs i ≡ Some x → xs ≡ take i xs ++ x ∷ drop (suc i) xs
split-suc [] i x at = absurd (none-some x at)
split-suc (y ∷ ys) zero x at = ap (λ z. z ∷ ys) (same_Some y x at)
split-suc (y ∷ ys) (suc i) x at = ap (λ zs. y ∷ zs) (split-suc ys i x at)

pub split-at : {X : Type 0} (xs : List X) (i : ℕ) (x : X) → slice_get xs i ≡ Some x → xs ≡ take i xs ++ x ∷ drop (i + 1) xs
split-at xs i x at = split-suc xs i x at ∙ ap (λ n. take i xs ++ x ∷ drop n xs) (sym (add-one i))

pub drop-item : {X : Type 0} (xs : List X) (i : ℕ) (x : X) → i < length xs → x ≡ get_or xs i x → drop i xs ≡ x ∷ drop (i + 1) xs
drop-item xs i x within is = drop-cons xs i x within ∙ ap (λ y. y ∷ drop (suc i) xs) (sym is) ∙ ap (λ n. x ∷ drop n xs) (sym (add-one i))

each-to : {X : Type 0} (P : X → Type 0) (xs : List X) (i j : ℕ) (d x : X) → j ≡ i + 1 → x ≡ get_or xs i d → i < length xs → Each P (take i xs) → P x → Each P (take j xs)
each-to P [] i j d x next is within each one = absurd (omega (arith, within))
each-to P (y ∷ ys) zero j d x next is within each one = let first : j ≡ suc zero = omega (arith, next) in rw first (subst P is one, tt)
each-to P (y ∷ ys) (suc i) j d x next is within each one =
    let later : j ≡ suc (i + 1) = omega (arith, next) in
    rw later (each.0, each-to P ys i (i + 1) d x refl is (omega (arith, within)) each.1 one)

-- of one item more
pub each-next : {X : Type 0} (P : X → Type 0) (xs : List X) (i : ℕ) (d x : X) → x ≡ get_or xs i d → i < length xs → Each P (take i xs) → P x → Each P (take (i + 1) xs)
each-next P xs i d x is within each one = each-to P xs i (i + 1) d x refl is within each one
