-- Columns one after the other, and what stands at a place.
use Rattle.std.proofs.Common.{◌≡◌, ◌≢◌, ℕ, zero, suc, ◌+◌, ◌-◌, ◌<◌, Bool, true, List, [], ◌∷◌, refl, ap, sym, ◌∙◌, arith}
use Rattle.std.specs.Prelude.{◌&&◌, get_or}
use Rattle.std.specs.List.{list_all}
use Rattle.shapes.specs.Shapes.{Point, column, Entry, entry_of, no_entry}
use Rattle.shapes.specs.Tests.{columns_from, entry_at}

pub columns-none : (test : Point → Bool) (e c left : ℕ) → left ≡ 0 → list_all test (columns_from e c left) ≡ true
columns-none test e c left h = ap (λ n. list_all test (columns_from e c n)) h

pub columns-more : (test : Point → Bool) (e c left : ℕ) → left ≢ 0 → list_all test (columns_from e c left) ≡ (test (column e c) && list_all test (columns_from e (c + 1) (left - 1)))
columns-more test e c left h =
    let n : left ≡ suc (left - 1) = omega (arith, h) in
    ap (λ n. list_all test (columns_from e c n)) n

pub ruleset laws = (columns-none, columns-more)

-- the column at c passed a test
pub next-column : (test : Point → Bool) (e c many : ℕ) (whole passed : Bool) → c < many → passed ≡ test (column e c) → passed ≡ true
    → whole ≡ list_all test (columns_from e c (many - c)) → whole ≡ list_all test (columns_from e (c + 1) (many - (c + 1)))
next-column test e c many whole passed less is passes h =
    let n : many - c ≡ suc (many - (c + 1)) = omega (arith, less) in
    h ∙ ap (λ n. list_all test (columns_from e c n)) n ∙ ap (λ b. b && list_all test (columns_from e (c + 1) (many - (c + 1)))) (sym is ∙ passes)

pub entry-get : (es : List Entry) (i : ℕ) → entry_of es i ≡ get_or es i no_entry
entry-get [] i = refl
entry-get (e ∷ es) zero = refl
entry-get (e ∷ es) (suc i) = entry-get es i

pub entry_at-get : (l : List ℕ) (i : ℕ) → entry_at l i ≡ get_or l i 0
entry_at-get [] i = refl
entry_at-get (x ∷ l) zero = refl
entry_at-get (x ∷ l) (suc i) = entry_at-get l i

pub ruleset entries = (entry-get, entry_at-get)
