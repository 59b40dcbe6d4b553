-- What a search answers that has a budget.
use Rattle.std.specs.Prelude.{◌≡◌, ℕ, ◌+◌, ◌<◌, ◌≤◌, List, length}
use Rattle.shapes.specs.Shapes.{Shape}
use Rattle.shapes.specs.Alike.{Alike}
use Rattle.shapes.specs.Tests.{fits, makes_alike}
use Rattle.shapes.specs.Search.{Outcome, ended, went_on, searched, fresh, one_more}
use Rattle.shapes.specs.Search as lists
use Rattle.shapes.specs.Tried.{IsPairing, tried}
use Rattle.bag_search.specs.declared.search.Answer.{Answer}
use Rattle.bag_search.specs.declared.search.Answer.TheVariants.{Found, Nothing, Spent}
use Rattle.bag_search.specs.declared.search.Match.{Match}
use Rattle.bag_search.specs.declared.search.Match.TheVariants as m

-- ---- the whole search
-- of a search that a budget cuts short
abbrev pub Matches : Outcome → ℕ → Match → Type 0
Matches (ended e count) budget (m.Found found) = (count ≤ budget) × (found ≡ e)
Matches (went_on count) budget m.Nothing = count ≤ budget
Matches (ended e count) budget m.Spent = budget < count
Matches (went_on count) budget m.Spent = budget < count
Matches _ budget _ = ⊥

-- `Spent` where more lists are tried than the budget has; else a pairing, or `Nothing` where the two are not alike
abbrev pub Says : Shape → Shape → ℕ → Match → Type 0
Says s t budget (m.Found list) = (tried s t ≤ budget) × IsPairing s t list
Says s t budget m.Nothing = (tried s t ≤ budget) × (Alike s t → ⊥)
Says s t budget m.Spent = budget < tried s t

-- ---- from a list on
-- the lists that go on from one, and are `missing + 1` longer
abbrev pub outcome : Shape → Shape → ℕ → List ℕ → Outcome
outcome s t missing l = searched (length t.entries) fresh (fits s t) (makes_alike s t) missing l

-- a list and those that go on from it
abbrev pub further : Shape → Shape → ℕ → List ℕ → Outcome
further s t missing l = lists.further (length t.entries) fresh (fits s t) (makes_alike s t) missing l

abbrev pub choice : Shape → Shape → ℕ → List ℕ → ℕ → Outcome
choice s t missing l = one_more (length t.entries) fresh (fits s t) (makes_alike s t) l (further s t missing)

-- an answer, what is left of the budget, and the list that the search is at
abbrev pub Answers : Outcome → ℕ → Answer → ℕ → List ℕ → List ℕ → Type 0
Answers (ended e count) budget Found left l now = (count + left ≡ budget) × (now ≡ e)
Answers (went_on count) budget Nothing left l now = (count + left ≡ budget) × (now ≡ l)
Answers (ended e count) budget Spent left l now = budget < count
Answers (went_on count) budget Spent left l now = budget < count
Answers _ budget _ left l now = ⊥
