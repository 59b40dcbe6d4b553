-- Items of a list that is made of parts, and lists that are mapped.
use Rattle.std.proofs.Common.{◌≡◌, ℕ, zero, suc, ◌<◌, ◌+◌, ◌-◌, List, [], ◌∷◌, ◌++◌, map, filter, length, get_or, take, drop, ◌≤◌, refl, ap, sym, ◌∙◌, arith}
use Rattle.std.proofs.lemmas.List.{drop-take, length-append, append-nil, append_assoc, drop_all}
use Rattle.std.proofs.Math.Seq.{drop-cons}
use Rattle.std.proofs.lemmas.List.Elements.{filter-append}
use Rattle.sql_model.specs.Syntax.{Name}
use Rattle.sql_model.specs.Frames.{ColumnName}
use Rattle.sql_model.specs.Columns.{is_called}
use Rattle.scope_core.specs.Faults.{count_called}

pub longer : {X : Type 0} (xs : List X) (x : X) → length (xs ++ x ∷ []) ≡ suc (length xs)
longer [] x = refl
longer (y ∷ xs) x = ap suc (longer xs x)

pub get-between : {X : Type 0} (before : List X) (x : X) (after : List X) (d : X) → get_or (before ++ x ∷ after) (length before) d ≡ x
get-between [] x after d = refl
get-between (y ∷ before) x after d = get-between before x after d

pub get-before : {X : Type 0} (xs : List X) (x d : X) (i : ℕ) → i < length xs → get_or (xs ++ x ∷ []) i d ≡ get_or xs i d
get-before [] x d i h = absurd (omega (arith, h))
get-before (y ∷ xs) x d zero h = refl
get-before (y ∷ xs) x d (suc i) h = get-before xs x d i (omega (arith, h))

pub map-map : {X Y Z : Type 0} (f : Y → Z) (h : X → Y) (xs : List X) → map f (map h xs) ≡ map (λ x. f (h x)) xs
map-map f h [] = refl
map-map f h (x ∷ xs) = ap (λ l. f (h x) ∷ l) (map-map f h xs)

pub map-id : {X : Type 0} (xs : List X) → map (λ x. x) xs ≡ xs
map-id [] = refl
map-id (x ∷ xs) = ap (λ l. x ∷ l) (map-id xs)

pub count_called-append : (name : Name) (cs ds : List ColumnName) → count_called name (cs ++ ds) ≡ count_called name cs + count_called name ds
count_called-append name cs ds = rw (filter-append (is_called name) cs ds) (length-append (filter (is_called name) cs) (filter (is_called name) ds))

-- ---- a walk along a list that appends a piece for each item
pub drop-head : {X : Type 0} (xs : List X) (i : ℕ) (x : X) → i < length xs → x ≡ get_or xs i x → drop i xs ≡ x ∷ drop (i + 1) xs
drop-head xs i x h is =
    let e : i + 1 ≡ suc i = omega arith in
    let d : drop i xs ≡ get_or xs i x ∷ drop (suc i) xs = drop-cons xs i x h in
    rw (e, d) (ap (λ y. y ∷ drop (suc i) xs) (sym is))

pub walk-step : {X Y : Type 0} (rest : List X → List Y) (xs : List X) (i : ℕ) (x : X) (made made' piece whole : List Y)
    → i < length xs → x ≡ get_or xs i x → rest (x ∷ drop (i + 1) xs) ≡ piece ++ rest (drop (i + 1) xs) → made' ≡ made ++ piece
    → made ++ rest (drop i xs) ≡ whole → made' ++ rest (drop (i + 1) xs) ≡ whole
walk-step rest xs i x made made' piece whole h is step more invariant =
    rw more (append_assoc made piece (rest (drop (i + 1) xs)) ∙ (ap (λ r. made ++ r) (sym step ∙ ap rest (sym (drop-head xs i x h is))) ∙ invariant))

pub walk-end : {X Y : Type 0} (rest : List X → List Y) (xs : List X) (i : ℕ) (made whole : List Y)
    → length xs ≤ i → rest [] ≡ [] → made ++ rest (drop i xs) ≡ whole → made ≡ whole
walk-end rest xs i made whole h none invariant =
    let d : drop i xs ≡ [] = drop_all i xs h in
    sym (append-nil made) ∙ (ap (λ r. made ++ r) (sym (ap rest d ∙ none)) ∙ invariant)

-- what a function of lists gives from a place on
pub at-head : {X Y : Type 0} (f : List X → Y) (xs : List X) (i : ℕ) (x : X) → i < length xs → x ≡ get_or xs i x → f (drop i xs) ≡ f (x ∷ drop (i + 1) xs)
at-head f xs i x h is = ap f (drop-head xs i x h is)

pub at-end : {X Y : Type 0} (f : List X → Y) (xs : List X) (i : ℕ) → length xs ≤ i → f (drop i xs) ≡ f []
at-end f xs i h = let d : drop i xs ≡ [] = drop_all i xs h in ap f d

-- ---- a piece of a list that grows at its end
pub between-longer : {X : Type 0} (first i : ℕ) (xs : List X) (d : X) → first ≤ i → i < length xs
    → drop first (take i xs) ++ get_or xs i d ∷ [] ≡ drop first (take (suc i) xs)
between-longer first i [] d h l = absurd (omega (arith, l))
between-longer zero zero (x ∷ xs) d h l = refl
between-longer zero (suc i) (x ∷ xs) d h l = ap (λ ys. x ∷ ys) (between-longer zero i xs d (omega arith) (omega (arith, l)))
between-longer (suc first) zero (x ∷ xs) d h l = absurd (omega (arith, h))
between-longer (suc first) (suc i) (x ∷ xs) d h l = between-longer first i xs d (omega (arith, h)) (omega (arith, l))

pub between-one : {X : Type 0} (i : ℕ) (xs : List X) (d : X) → i < length xs → get_or xs i d ∷ [] ≡ drop i (take (suc i) xs)
between-one i [] d l = absurd (omega (arith, l))
between-one zero (x ∷ xs) d l = refl
between-one (suc i) (x ∷ xs) d l = between-one i xs d (omega (arith, l))

pub between : {X : Type 0} (first end : ℕ) (xs : List X) → first ≤ end → take (end - first) (drop first xs) ≡ drop first (take end xs)
between first end xs h =
    let e : first + (end - first) ≡ end = omega (arith, h) in
    sym (ap (λ k. drop first (take k xs)) (sym e) ∙ drop-take first (end - first) xs)
