-- Measures under sums, of products of equalities, and of rows of places.
use Rattle.std.proofs.Common.{◌≡◌, ℕ, zero, suc, ◌+◌, ◌<◌, ◌≤◌, min, List, [], ◌∷◌, length, refl, ap, sym, ◌∙◌, arith}
use Rattle.u_terms.specs.Syntax.{U, Val, Bound, Free}
use Rattle.u_terms.specs.declared.term.Val.TheVariants as v
use Rattle.u_terms.specs.declared.facts.Fkey.{Fkey}
use Rattle.u_terms.specs.Size.{nodes, value_nodes, list_nodes, depth, value_depth, list_depth}
use Rattle.u_terms.specs.Binding.{same_name, sums}
use Rattle.u_binder.specs.Changes.{moved_at}
use Rattle.u_rules.specs.declared.measure.Measure.{Measure}
use Rattle.u_rules.specs.Terms.{R, ◌≐◌, ◌⊗◌, turned, places, column, equal_columns, equal_rows, found_rows}
use Rattle.u_terms.specs.Products.{product_of}
use Rattle.u_rules.specs.Measures.{capped, flat, measure_of, value_measure, list_measure}
use Rattle.u_rules.specs.Combined.{with, below, summed, columns_measure, rows_measure, place_columns, key_sizes, fkey_sizes}
use Rattle.u_rules.proofs.terms.Measured.{measure-Mul, measure-Sum, measure-Rel, measure-Eq, measure-Bound, measure-Lit, measure-none}
use Rattle.std.proofs.lemmas.List.Sums.{sum_by-cons}
use Rattle.u_terms.proofs.Sizes.{list_depth-cons, nodes-Bound}
use Rattle.u_terms.proofs.MappedSizes.{nodes-mapped, depth-mapped}

-- ---- sums
under : (m : ℕ) (n : ℕ) → capped (capped (m + n) + 1) ≡ capped (m + suc n)
under m n = omega arith

nothing_under : (m : ℕ) → capped (capped m + 0) ≡ capped m
nothing_under m = omega arith

summed-none : (f : U) → measure_of f ≡ summed 0 (measure_of f)
unfolding measure_of
summed-none f = rw (nothing_under (nodes f), nothing_under (depth f)) refl

summed-more : (n : ℕ) (m : Measure) → below (summed n m) ≡ summed (suc n) m
summed-more n m = rw (under m.nodes n, under m.depth n) refl

pub measure-sums : (count : ℕ) (f : U) → measure_of (sums count f) ≡ summed count (measure_of f)
measure-sums zero f = summed-none f
measure-sums (suc n) f = measure-Sum (sums n f) ∙ ap below (measure-sums n f) ∙ summed-more n (measure_of f)

-- ---- places exchanged
bound-one : (i : ℕ) → value_nodes (Bound i) ≡ 1
unfolding nodes
bound-one i = refl

free-one : (x : ℕ) → value_nodes (Free x) ≡ 1
unfolding nodes
free-one x = refl

bound-flat : (i : ℕ) → value_depth (Bound i) ≡ 1
unfolding depth
bound-flat i = refl

free-flat : (x : ℕ) → value_depth (Free x) ≡ 1
unfolding depth
free-flat x = refl

pub measure-turned : (a b : ℕ) (f : U) → measure_of (turned a b f) ≡ measure_of f
unfolding measure_of
measure-turned a b f =
    let n = nodes-mapped (moved_at a b) same_name (λ k i. bound-one _) (λ k x. free-one x) (λ k i. bound-flat _) (λ k x. free-flat x) f 0 in
    let d = depth-mapped (moved_at a b) same_name (λ k i. bound-one _) (λ k x. free-one x) (λ k i. bound-flat _) (λ k x. free-flat x) f 0 in
    rw (n, d) refl

-- ---- products of equalities
pub measure-columns : (head : U) (s : List Val) (cs : List ℕ) (t : List Val) (ds : List ℕ)
    → measure_of (product_of (head ∷ equal_columns s cs t ds)) ≡ columns_measure (measure_of head) s cs t ds
measure-columns head s [] t ds = refl
measure-columns head s (c ∷ cs) t [] = refl
measure-columns head s (c ∷ cs) t (d ∷ ds) =
    measure-Mul head (product_of ((column s c ≐ column t d) ∷ equal_columns s cs t ds))
    ∙ ap (with (measure_of head)) (measure-columns (column s c ≐ column t d) s cs t ds ∙ ap (λ (m : Measure). columns_measure m s cs t ds) (measure-Eq (column s c) (column t d)))

pub measure-rows : (head : U) (s t : List Val) → measure_of (product_of (head ∷ equal_rows s t)) ≡ rows_measure (measure_of head) s t
measure-rows head [] t = refl
measure-rows head (a ∷ s) [] = refl
measure-rows head (a ∷ s) (b ∷ t) =
    measure-Mul head (product_of ((a ≐ b) ∷ equal_rows s t))
    ∙ ap (with (measure_of head)) (measure-rows (a ≐ b) s t ∙ ap (λ (m : Measure). rows_measure m s t) (measure-Eq a b))

pub measure-key : (table : ℕ) (key : List ℕ) (s r : List Val)
    → flat (measure_of (product_of (R table s ∷ (R table r ∷ equal_columns s key r key)))) (measure_of (product_of (R table s ∷ equal_rows s r))) ≡ key_sizes key s r
measure-key table key s r =
    let left : measure_of (product_of (R table s ∷ (R table r ∷ equal_columns s key r key))) ≡ with (below (list_measure s)) (columns_measure (below (list_measure r)) s key r key)
    = measure-Mul (R table s) (product_of (R table r ∷ equal_columns s key r key))
    ∙ ap (λ (m : Measure). with m (measure_of (product_of (R table r ∷ equal_columns s key r key)))) (measure-Rel table s)
    ∙ ap (with (below (list_measure s))) (measure-columns (R table r) s key r key ∙ ap (λ (m : Measure). columns_measure m s key r key) (measure-Rel table r)) in
    let right : measure_of (product_of (R table s ∷ equal_rows s r)) ≡ rows_measure (below (list_measure s)) s r
    = measure-rows (R table s) s r ∙ ap (λ (m : Measure). rows_measure m s r) (measure-Rel table s) in
    rw (left, right) refl

-- ---- places
place-leaf : (w c : ℕ) → value_measure (column (places w) c) ≡ record { nodes = 1; depth = 1 }
place-leaf zero c = measure-Lit 0
place-leaf (suc w) zero = measure-Bound w
place-leaf (suc w) (suc c) = place-leaf w c

columns-of_places : (w : ℕ) (head : Measure) (cs : List ℕ) (t : List Val) (ds : List ℕ) → columns_measure head (places w) cs t ds ≡ place_columns head cs t ds
columns-of_places w head [] t ds = refl
columns-of_places w head (c ∷ cs) t [] = refl
columns-of_places w head (c ∷ cs) t (d ∷ ds) =
    ap (with head) (ap (λ (m : Measure). columns_measure (with m (value_measure (column t d))) (places w) cs t ds) (place-leaf w c)
    ∙ columns-of_places w (with (record { nodes = 1; depth = 1 }) (value_measure (column t d))) cs t ds)

places_nodes : (w : ℕ) → list_nodes (places w) ≡ w
places_nodes zero = refl
places_nodes (suc w) = sum_by-cons value_nodes (Bound w) (places w) ∙ (let e = nodes-Bound w in let f = places_nodes w in omega (arith, e, f))

places_depth : (w : ℕ) → list_depth (places w) ≡ min w 1
unfolding depth
places_depth zero = refl
places_depth (suc w) = list_depth-cons (Bound w) (places w) ∙ (let e = places_depth w in omega (arith, e))

measure-places : (w : ℕ) → w < 4294967296 → list_measure (places w) ≡ record { nodes = w; depth = min w 1 }
unfolding list_measure
measure-places w h =
    let e : capped (list_nodes (places w)) ≡ w = omega (arith, places_nodes w) in
    let f : capped (list_depth (places w)) ≡ min w 1 = omega (arith, places_depth w) in
    rw (e, f) refl

pub measure-fkey : (w : ℕ) (f : Fkey) (s : List Val) → w < 4294967296
    → flat (measure_of (R f.from s)) (measure_of (R f.from s ⊗ found_rows w f s)) ≡ fkey_sizes w f.key s f.cols
measure-fkey w f s h =
    let inner : measure_of (product_of (R f.to (places w) ∷ equal_columns (places w) f.key s f.cols)) ≡ place_columns (below (record { nodes = w; depth = min w 1 })) f.key s f.cols
    = measure-columns (R f.to (places w)) (places w) f.key s f.cols
    ∙ columns-of_places w (measure_of (R f.to (places w))) f.key s f.cols
    ∙ ap (λ (m : Measure). place_columns m f.key s f.cols) (measure-Rel f.to (places w) ∙ ap below (measure-places w h)) in
    let right : measure_of (R f.from s ⊗ found_rows w f s) ≡ with (below (list_measure s)) (summed w (place_columns (below (record { nodes = w; depth = min w 1 })) f.key s f.cols))
    = measure-Mul (R f.from s) (found_rows w f s)
    ∙ ap (λ (m : Measure). with m (measure_of (found_rows w f s))) (measure-Rel f.from s)
    ∙ ap (with (below (list_measure s))) (measure-sums w (product_of (R f.to (places w) ∷ equal_columns (places w) f.key s f.cols)) ∙ ap (summed w) inner) in
    rw (measure-Rel f.from s, right) refl

pub ruleset laws = (measure-sums, measure-turned, measure-Lit)

-- for the code that makes sums
pub column-past : (vs : List Val) (c : ℕ) → length vs ≤ c → column vs c ≡ v.Lit 0
column-past [] c h = refl
column-past (x ∷ vs) zero h = absurd (omega arith)
column-past (x ∷ vs) (suc c) h = column-past vs c (omega arith)

pub measure-past : (vs : List Val) (c : ℕ) → length vs ≤ c → record { nodes = 1; depth = 1 } ≡ value_measure (column vs c)
measure-past vs c h = sym (ap value_measure (column-past vs c h) ∙ measure-Lit 0)
