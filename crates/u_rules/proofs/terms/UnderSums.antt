-- Terms under sums, and rows of the places of sums, for code that compares in place.
use Rattle.std.proofs.Common.{◌≡◌, ℕ, zero, suc, ◌+◌, ◌-◌, ◌<◌, ◌≤◌, Bool, true, false, List, [], ◌∷◌, Option, Some, None, length, map, get_or, slice_index_or, slice_range, refl, ap, sym, ◌∙◌, arith}
use Rattle.std.specs.Prelude.{IsTrue, MatchOption, ◌↔◌}
use Rattle.std.proofs.lemmas.List.{take_all}
use denote.Ref.{Bor}
use Rattle.u_terms.specs.declared.term.U.{U as TheU}
use Rattle.u_terms.specs.declared.term.U.TheVariants as u
use Rattle.u_terms.specs.declared.term.Val.TheVariants as v
use Rattle.u_terms.specs.Syntax.{U, Val}
use Rattle.u_terms.specs.Binding.{mapped, mapped_value, same_place, sums}
use Rattle.u_terms.proofs.Mapped.{mapped-Sum, mapped-Bound}
use Rattle.u_terms.specs.Size.{depth}
use Rattle.u_terms.proofs.MappedSizes.{sums-depth}
use Rattle.u_terms.proofs.Parts.{parts-Sum}
use Rattle.u_rules.specs.Sides.{side_of}
use Rattle.u_terms.specs.Products.{product_of}
use Rattle.u_rules.specs.Terms.{◌≐◌, places, column, equal_columns, equal_rows}
use Rattle.u_rules.proofs.soundness.Columns.{length-places}
use Rattle.u_rules.proofs.terms.TableMeasures.{column-past}

-- ---- sums
sums-step : (count : ℕ) (body : U) → 0 < count → sums count body ≡ u.Sum (sums (count - 1) body)
sums-step zero body h = absurd (omega arith)
sums-step (suc n) body h = let e : suc n - 1 ≡ n = omega arith in rw e refl

-- what stands under one sum and the others is what stands under them all
pub under-sums : (count : ℕ) (term inner : U) (o : Option (Bor TheU)) → term ≡ u.Sum inner → 0 < count
    → MatchOption o ((body : U) → inner ≡ sums (count - 1) body → ⊥) (λ body. inner ≡ sums (count - 1) body.now)
    → MatchOption o ((body : U) → term ≡ sums count body → ⊥) (λ body. term ≡ sums count body.now)
under-sums count term inner None is h m = λ body e. m body (parts-Sum inner (sums (count - 1) body) (sym is ∙ e ∙ sums-step count body h))
under-sums count term inner (Some x) is h m = is ∙ ap (λ (a : U). u.Sum a) m ∙ sym (sums-step count x.now h)

parts-sums : (count : ℕ) (a b : U) → sums count a ≡ sums count b → a ≡ b
parts-sums zero a b e = e
parts-sums (suc n) a b e = parts-sums n a b (parts-Sum (sums n a) (sums n b) e)

mapped-sums : (f g : ℕ → ℕ → Val) (count k : ℕ) (body : U) → mapped f g k (sums count body) ≡ sums count (mapped f g (k + count) body)
mapped-sums f g zero k body = let e : k + 0 ≡ k = omega arith in rw e refl
mapped-sums f g (suc n) k body =
    let e : k + 1 + n ≡ k + suc n = omega arith in
    mapped-Sum f g k (sums n body) ∙ ap (λ (a : U). u.Sum a) (mapped-sums f g n (k + 1) body ∙ ap (λ (m : ℕ). sums n (mapped f g m body)) e)

-- a term is others under sums, changed, where what stands under its own sums is those, changed
pub same-under : (f g : ℕ → ℕ → Val) (count : ℕ) (term under body : U) (same : Bool) → term ≡ sums count under
    → (IsTrue same ↔ (under ≡ mapped f g count body)) → IsTrue same ↔ (term ≡ mapped f g 0 (sums count body))
same-under f g count term under body same is h =
    let e : 0 + count ≡ count = omega arith in
    let m : mapped f g 0 (sums count body) ≡ sums count (mapped f g count body) = mapped-sums f g count 0 body ∙ ap (λ (k : ℕ). sums count (mapped f g k body)) e in (
      λ yes. is ∙ ap (sums count) (h.0 yes) ∙ sym m,
      λ is_side. h.1 (parts-sums count under (mapped f g count body) (sym is ∙ is_side ∙ m)),
    )

pub never-under : (f g : ℕ → ℕ → Val) (count : ℕ) (term body : U) → ((under : U) → term ≡ sums count under → ⊥) → term ≡ mapped f g 0 (sums count body) → ⊥
never-under f g count term body never is = never (mapped f g (0 + count) body) (is ∙ mapped-sums f g count 0 body)

pub side-under : (turned : Bool) (count : ℕ) (a b : U) → side_of turned (sums count a) (sums count b) ≡ sums count (side_of turned a b)
side-under true count a b = refl
side-under false count a b = refl

pub deep-under : (count : ℕ) (term under : U) → term ≡ sums count under → depth term ≡ depth under + count
deep-under count term under is = ap depth is ∙ sums-depth count under

-- ---- places
pub column-place : (w c : ℕ) → c < w → column (places w) c ≡ v.Bound (w - 1 - c)
column-place zero c h = absurd (omega arith)
column-place (suc w) zero h = let e : suc w - 1 - 0 ≡ w = omega arith in rw e refl
column-place (suc w) (suc c) h = let e : suc w - 1 - suc c ≡ w - 1 - c = omega arith in rw e (column-place w c (omega arith))

pub column-no_place : (w c : ℕ) → w ≤ c → column (places w) c ≡ v.Lit 0
column-no_place w c h = let e = length-places w in column-past (places w) c (omega (arith, h, e))

-- places of no name stay as they are
pub mapped-places : (g : ℕ → ℕ → Val) (k w : ℕ) → map (mapped_value same_place g k) (places w) ≡ places w
mapped-places g k zero = refl
mapped-places g k (suc w) = rw (mapped-Bound same_place g k w, mapped-places g k w) refl

-- ---- products of equalities, a factor at a time
-- a list without its first member, as code takes it
tail : {X : Type 0} (x : X) (xs : List X) → slice_range (x ∷ xs) 1 (length (x ∷ xs)) ≡ xs
tail x xs = let e : length (x ∷ xs) - 1 ≡ length xs = omega arith in rw e (take_all (length xs) xs (omega arith))

pub columns-step : (head : U) (s : List Val) (cs : List ℕ) (t : List Val) (ds : List ℕ) → 1 ≤ length cs → 1 ≤ length ds
    → product_of (head ∷ equal_columns s cs t ds) ≡ u.Mul head (product_of ((column s (slice_index_or cs 0 0) ≐ column t (slice_index_or ds 0 0)) ∷ equal_columns s (slice_range cs 1 (length cs)) t (slice_range ds 1 (length ds))))
columns-step head s [] t ds h g = absurd (omega arith)
columns-step head s (c ∷ cs) t [] h g = absurd (omega arith)
columns-step head s (c ∷ cs) t (d ∷ ds) h g = rw (tail c cs, tail d ds) refl

pub rows-step : (head : U) (s t : List Val) (a b : Val) → 1 ≤ length s → 1 ≤ length t → a ≡ get_or s 0 a → b ≡ get_or t 0 b
    → product_of (head ∷ equal_rows s t) ≡ u.Mul head (product_of ((a ≐ b) ∷ equal_rows (slice_range s 1 (length s)) (slice_range t 1 (length t))))
rows-step head [] t a b h g is_a is_b = absurd (omega arith)
rows-step head (x ∷ s) [] a b h g is_a is_b = absurd (omega arith)
rows-step head (x ∷ s) (y ∷ t) a b h g is_a is_b = rw (is_a, is_b, tail x s, tail y t) refl

pub ruleset columns_at = (column-place, column-no_place)
