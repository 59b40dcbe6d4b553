-- A union stays small when its blocks change places.
use Rattle.std.proofs.Common.{◌≡◌, ℕ, suc, List, [], ◌∷◌, refl, arith}
use Rattle.std.specs.Prelude.{◌↔◌, All, IsPermutation, sum_by}
use Rattle.std.proofs.lemmas.List.Elements.{All-cons, All-nil}
use Rattle.std.proofs.lemmas.List.Sorted.{All-permutation, IsPermutation-sym, length_permutation, sum_by-IsPermutation}
use Rattle.std.proofs.lemmas.List.Sums.{sum_by-cons}
use Rattle.shapes.specs.Shapes.{Shape}
use Rattle.shapes.specs.Small.{columns_of, facts_of, SmallBlock, AllSmall, all_columns, all_facts, SmallQuery}

columns-sum : (ss : List Shape) → all_columns ss ≡ sum_by (λ s. columns_of s.entries) ss
columns-sum [] = refl
columns-sum (s ∷ ss) = omega (arith, columns-sum ss, sum_by-cons (λ (s : Shape). columns_of s.entries) s ss)

facts-sum : (ss : List Shape) → all_facts ss ≡ sum_by facts_of ss
facts-sum [] = refl
facts-sum (s ∷ ss) = omega (arith, facts-sum ss, sum_by-cons facts_of s ss)

each-small : (entries : ℕ) (ss : List Shape) → AllSmall entries ss → All (SmallBlock entries) ss
each-small entries [] small = All-nil (SmallBlock entries)
each-small entries (s ∷ ss) small = All-cons (SmallBlock entries) s ss small.0 (each-small entries ss small.1)

small-each : (entries : ℕ) (ss : List Shape) → All (SmallBlock entries) ss → AllSmall entries ss
small-each entries [] each = tt
small-each entries (s ∷ ss) each = (each 0 s (omega arith), small-each entries ss (λ k d less. each (suc k) d (omega (arith, less))))

pub small-permuted : (entries : ℕ) (ss ts : List Shape) → IsPermutation ss ts → SmallQuery entries ss → SmallQuery entries ts
small-permuted entries ss ts same small = record {
  few_blocks = omega (arith, small.few_blocks, length_permutation ss ts same);
  each = small-each entries ts (All-permutation (SmallBlock entries) ss ts same (each-small entries ss small.each));
  columns = omega (arith, small.columns, columns-sum ss, columns-sum ts, sum_by-IsPermutation (λ (s : Shape). columns_of s.entries) ss ts same);
  facts = omega (arith, small.facts, facts-sum ss, facts-sum ts, sum_by-IsPermutation facts_of ss ts same);
}

pub small-in_any_order : (entries : ℕ) (ss ts : List Shape) → IsPermutation ss ts → SmallQuery entries ss ↔ SmallQuery entries ts
small-in_any_order entries ss ts same = (small-permuted entries ss ts same, small-permuted entries ts ss (IsPermutation-sym ss ts same))
