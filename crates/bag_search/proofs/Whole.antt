-- The whole search.
use Rattle.std.proofs.Common.{◌≡◌, ◌≢◌, ℕ, ◌-◌, true, false, List, [], length, ap, subst, sym, arith}
use Rattle.std.specs.Prelude.{nat_eq}
use Rattle.std.proofs.lemmas.Bool.Decides.{nat_tests}
use Rattle.shapes.specs.Shapes.{Shape}
use Rattle.shapes.specs.Tried.{search_alike}
use Rattle.shapes.specs.Search.{Outcome, ended, went_on}
use Rattle.bag_search.specs.declared.search.Answer.{Answer}
use Rattle.bag_search.specs.declared.search.Answer.TheVariants.{Found, Nothing, Spent}
use Rattle.bag_search.specs.declared.search.Match.TheVariants as m
use Rattle.shapes.specs.Tests.{fits}
use Rattle.bag_search.specs.Answers.{Answers, Matches, further}
use Rattle.bag_search.proofs.Wanted.{unfit-further}

pub unequal : (s t : Shape) (budget : ℕ) → length s.entries ≢ length t.entries → Matches (search_alike s t) budget m.Nothing
unfolding search_alike
unequal s t budget h =
    let no : nat_eq (length s.entries) (length t.entries) ≡ false = grind (arith, nat_tests) in
    rw no (omega arith)

-- where the empty list does not fit
pub unfit-nothing : (s t : Shape) (budget : ℕ) → length s.entries ≡ length t.entries → fits s t [] ≡ false → Matches (search_alike s t) budget m.Nothing
unfolding search_alike
unfit-nothing s t budget same misfit =
    let yes_so : nat_eq (length s.entries) (length t.entries) ≡ true = grind (arith, nat_tests) in
    rw yes_so (subst (λ o. Matches o budget m.Nothing) (sym (unfit-further s t (length s.entries) [] misfit)) (omega arith))

found-matches : (o : Outcome) (budget left : ℕ) (now : List ℕ) → Answers o budget Found left [] now → Matches o budget (m.Found now)
found-matches (ended e c) budget left now h = (omega (arith, h.0), h.1)
found-matches (went_on c) budget left now h = absurd h

nothing-matches : (o : Outcome) (budget left : ℕ) (now : List ℕ) → Answers o budget Nothing left [] now → Matches o budget m.Nothing
nothing-matches (ended e c) budget left now h = absurd h
nothing-matches (went_on c) budget left now h = omega (arith, h.0)

spent-matches : (o : Outcome) (budget left : ℕ) (now : List ℕ) → Answers o budget Spent left [] now → Matches o budget m.Spent
spent-matches (ended e c) budget left now h = h
spent-matches (went_on c) budget left now h = h

-- from the empty list on
module _ (s t : Shape) (l now : List ℕ) (a : Answer) (budget left : ℕ) (none : l ≡ []) (same : length s.entries ≡ length t.entries)
    (h : Answers (further s t (length s.entries - length l) l) budget a left l now) where
  answers : (b : Answer) → a ≡ b → Answers (search_alike s t) budget b left [] now
  unfolding search_alike
  answers b is =
      let yes_so : nat_eq (length s.entries) (length t.entries) ≡ true = grind (arith, nat_tests) in
      let all : length s.entries - length l ≡ length s.entries = omega (arith, ap length none) in
      rw yes_so
      (subst (λ (c : Answer). Answers (further s t (length s.entries) []) budget c left [] now) is
      (subst (λ n. Answers (further s t n []) budget a left [] now) all
      (subst (λ (k : List ℕ). Answers (further s t (length s.entries - length l) k) budget a left k now) none h)))

  pub all-found : a ≡ Found → (list : List ℕ) → list ≡ now → Matches (search_alike s t) budget (m.Found list)
  all-found is list taken = subst (λ (k : List ℕ). Matches (search_alike s t) budget (m.Found k)) (sym taken) (found-matches (search_alike s t) budget left now (answers Found is))

  pub all-nothing : a ≡ Nothing → Matches (search_alike s t) budget m.Nothing
  all-nothing is = nothing-matches (search_alike s t) budget left now (answers Nothing is)

  pub all-spent : a ≡ Spent → Matches (search_alike s t) budget m.Spent
  all-spent is = spent-matches (search_alike s t) budget left now (answers Spent is)
