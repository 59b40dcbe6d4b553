-- A search through lists of numbers below `width`, one number longer at each turn, that counts each list which it tries.
use Rattle.std.specs.Prelude.{ℕ, zero, suc, ◌+◌, Bool, not, if◌then◌else◌, List, [], ◌∷◌, ◌++◌}
use Rattle.shapes.specs.Tests.{has}

-- ended at a list, or went through all; and how many lists were tried
pub data Outcome : Type 0 where
  ended : List ℕ → ℕ → Outcome
  went_on : ℕ → Outcome

abbrev pub tries_of : Outcome → ℕ
tries_of (ended l count) = count
tries_of (went_on count) = count

abbrev pub counted : ℕ → Outcome → Outcome
counted count (ended l more) = ended l (count + more)
counted count (went_on more) = went_on (count + more)

-- the second only where the first goes on
abbrev pub after : Outcome → Outcome → Outcome
after (ended l count) rest = ended l count
after (went_on count) rest = counted count rest

-- at the numbers from `from` on, `many` of them, in order
abbrev pub through : (ℕ → Outcome) → ℕ → ℕ → Outcome
through f from zero = went_on 0
through f from (suc many) = after (f from) (through f (from + 1) many)

-- the numbers that may stand in a list; a list shorter than wanted that may go on; a list that is long enough and wanted
module _ (width : ℕ) (may_follow : List ℕ → ℕ → Bool) (fits wanted : List ℕ → Bool) where
  abbrev pub at_end : List ℕ → Outcome
  at_end l = if wanted l then ended l 0 else went_on 0

  abbrev pub one_more : List ℕ → (List ℕ → Outcome) → ℕ → Outcome
  one_more l next x = if may_follow l x then counted 1 (next (l ++ x ∷ [])) else went_on 0

  -- the lists that go on from `l` and are `missing + 1` longer
  unfoldable pub searched : ℕ → List ℕ → Outcome
  searched zero l = through (one_more l at_end) 0 width
  searched (suc missing) l = through (one_more l (λ longer. if fits longer then searched missing longer else went_on 0)) 0 width

  -- the list itself, where it is long enough, and else those that go on from it, if it fits
  abbrev pub further : ℕ → List ℕ → Outcome
  further zero l = at_end l
  further (suc missing) l = if fits l then searched missing l else went_on 0

-- each number once
abbrev pub fresh : List ℕ → ℕ → Bool
fresh l x = not (has x l)
