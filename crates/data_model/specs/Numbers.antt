-- The arithmetic of multiplicities: truth as a number, squash, negation, and sums over the values below a number
-- (the semiring operations of U-expressions: Chu, Murphy, Roesch, Cheung and Suciu, "Axiomatic Foundations and Algorithms for
-- Deciding Semantic Equivalences of SQL Queries", PVLDB 11(11), 2018, section 3.1).
use Rattle.std.specs.Prelude.{ℕ, zero, suc, ◌+◌, Bool, true, false, List, [], ◌∷◌, ◌++◌}

abbrev pub one_if : Bool → ℕ
one_if true = 1
one_if false = 0

-- the truncation ‖m‖: whether, and not how often
abbrev pub squash : ℕ → ℕ
squash zero = 0
squash (suc m) = 1

abbrev pub negate : ℕ → ℕ
negate zero = 1
negate (suc m) = 0

-- f 0 + .. + f (m - 1)
abbrev pub sum_below : ℕ → (ℕ → ℕ) → ℕ
sum_below zero f = 0
sum_below (suc m) f = sum_below m f + f m

-- f 0, .., f (m - 1)
abbrev pub list_below : ℕ → (ℕ → ℕ) → List ℕ
list_below zero f = []
list_below (suc m) f = list_below m f ++ f m ∷ []
