-- What the search answers, in the words of the relation.
use Rattle.std.proofs.Common.{◌≡◌, ℕ, List, refl, sym, subst}
use Rattle.shapes.specs.Shapes.{Shape, IsWhole}
use Rattle.shapes.specs.Tried.{IsPairing, search_alike}
use Rattle.shapes.specs.Search.{Outcome, ended, went_on}
use Rattle.shapes.proofs.Decides.{found, nothing}
use Rattle.bag_search.specs.declared.search.Match.{Match}
use Rattle.bag_search.specs.declared.search.Match.TheVariants as m
use Rattle.bag_search.specs.Answers.{Matches, Says}

module _ (s t : Shape) (whole_s : IsWhole s) (whole_t : IsWhole t) (budget : ℕ) where
  says : (o : Outcome) → search_alike s t ≡ o → (answer : Match) → Matches o budget answer → Says s t budget answer
  says (ended e c) is (m.Found l) h = (rw is (h.0), subst (λ (k : List ℕ). IsPairing s t k) (sym h.1) (found s t whole_s whole_t e c is))
  says (ended e c) is m.Nothing h = absurd h
  says (ended e c) is m.Spent h = rw is h
  says (went_on c) is (m.Found l) h = absurd h
  says (went_on c) is m.Nothing h = (rw is h, nothing s t whole_s whole_t c is)
  says (went_on c) is m.Spent h = rw is h

pub answers-say : (s t : Shape) (budget : ℕ) (answer : Match) → IsWhole s → IsWhole t → Matches (search_alike s t) budget answer → Says s t budget answer
answers-say s t budget answer whole_s whole_t h = says s t whole_s whole_t budget (search_alike s t) refl answer h

pub ruleset laws = (answers-say)
