-- What holds of each member of a list.
use Rattle.std.proofs.Common.{◌≡◌, ℕ, zero, suc, ◌<◌, Bool, true, false, not, List, [], ◌∷◌, ◌++◌, map, filter, cond, length, get_or, subst, sym, arith}
use Rattle.std.specs.List.{flat_map}
use Rattle.data_model.specs.Lists.{Each}
use Rattle.data_model.specs.Rows.{Row, same_row, distinct, is_among}
use Rattle.sql_model.specs.Syntax.{SetOp, UnionAll, Union, Except, Intersect}
use Rattle.sql_model.specs.Answers.{distinct_if, combined}

pub Each-append : {X : Type 0} (P : X → Type 0) (xs ys : List X) → Each P xs → Each P ys → Each P (xs ++ ys)
Each-append P [] ys hs ks = ks
Each-append P (x ∷ xs) ys hs ks = (hs.0, Each-append P xs ys hs.1 ks)

-- of a list in two parts
pub Each-left : {X : Type 0} (P : X → Type 0) (xs ys : List X) → Each P (xs ++ ys) → Each P xs
Each-left P [] ys h = tt
Each-left P (x ∷ xs) ys h = (h.0, Each-left P xs ys h.1)

pub Each-right : {X : Type 0} (P : X → Type 0) (xs ys : List X) → Each P (xs ++ ys) → Each P ys
Each-right P [] ys h = h
Each-right P (x ∷ xs) ys h = Each-right P xs ys h.1

pub Each-in : {X : Type 0} (P Q : X → Type 0) → ((x : X) → P x → Q x) → (xs : List X) → Each P xs → Each Q xs
Each-in P Q h [] hs = tt
Each-in P Q h (x ∷ xs) hs = (h x hs.0, Each-in P Q h xs hs.1)

pub Each-end : {X : Type 0} (P : X → Type 0) (xs : List X) (x : X) → Each P xs → P x → Each P (xs ++ x ∷ [])
Each-end P xs x hs h = Each-append P xs (x ∷ []) hs (h, tt)

pub Each-at : {X : Type 0} (P : X → Type 0) (xs : List X) (i : ℕ) (x : X) → Each P xs → i < length xs → x ≡ get_or xs i x → P x
Each-at P [] i x hs h is = absurd (omega (arith, h))
Each-at P (y ∷ xs) zero x hs h is = subst P (sym is) hs.0
Each-at P (y ∷ xs) (suc i) x hs h is = Each-at P xs i x hs.1 (omega (arith, h)) is

pub Each-map : {X Y : Type 0} (P : X → Type 0) (Q : Y → Type 0) (f : X → Y) → ((x : X) → P x → Q (f x)) → (xs : List X) → Each P xs → Each Q (map f xs)
Each-map P Q f h [] hs = tt
Each-map P Q f h (x ∷ xs) hs = (h x hs.0, Each-map P Q f h xs hs.1)

kept_one : {X : Type 0} (P : X → Type 0) (hit : Bool) (x : X) (xs : List X) → P x → Each P xs → Each P (cond hit (x ∷ xs) xs)
kept_one P true x xs h hs = (h, hs)
kept_one P false x xs h hs = hs

pub Each-filter : {X : Type 0} (P : X → Type 0) (test : X → Bool) (xs : List X) → Each P xs → Each P (filter test xs)
Each-filter P test [] hs = tt
Each-filter P test (x ∷ xs) hs = kept_one P (test x) x (filter test xs) hs.0 (Each-filter P test xs hs.1)

pub Each-flat_map : {X Y : Type 0} (P : X → Type 0) (Q : Y → Type 0) (f : X → List Y) → ((x : X) → P x → Each Q (f x)) → (xs : List X) → Each P xs → Each Q (flat_map f xs)
Each-flat_map P Q f h [] hs = tt
Each-flat_map P Q f h (x ∷ xs) hs = Each-append Q (f x) (flat_map f xs) (h x hs.0) (Each-flat_map P Q f h xs hs.1)

-- ---- of the rows of an answer
pub Each-distinct : (P : Row → Type 0) (rows : List Row) → Each P rows → Each P (distinct rows)
Each-distinct P [] hs = tt
Each-distinct P (r ∷ rows) hs = (hs.0, Each-filter P (λ s. not (same_row r s)) (distinct rows) (Each-distinct P rows hs.1))

pub Each-distinct_if : (P : Row → Type 0) (b : Bool) (rows : List Row) → Each P rows → Each P (distinct_if b rows)
Each-distinct_if P true rows h = Each-distinct P rows h
Each-distinct_if P false rows h = h

pub Each-combined : (P : Row → Type 0) (op : SetOp) (left right : List Row) → Each P left → Each P right → Each P (combined op left right)
Each-combined P UnionAll left right h k = Each-append P left right h k
Each-combined P Union left right h k = Each-distinct P (left ++ right) (Each-append P left right h k)
Each-combined P Except left right h k = Each-distinct P (filter (λ r. not (is_among r right)) left) (Each-filter P (λ r. not (is_among r right)) left h)
Each-combined P Intersect left right h k = Each-distinct P (filter (λ r. is_among r right) left) (Each-filter P (λ r. is_among r right) left h)
