-- Prefixes that go on to whole texts with chosen tokens alone. Where such tokens cost nothing, a prefix has cost what the value of any of these
-- texts costs.
use Rattle.std.specs.Prelude.{◌≡◌, ℕ, ◌+◌, ◌≤◌, ◌<◌, Bool, true, List, ◌∷◌, ◌++◌}
use Rattle.std.specs.List.{list_all}
use Rattle.grammar.specs.Language.{Language}

-- chosen tokens, or none, spell the value
pub record Fills {T A : Type 0} (chosen : T → Bool) (L : Language T A) (v : A) : Type 0 where
  pub filling : List T
  pub are_chosen : list_all chosen filling ≡ true
  pub spelled : L.spells filling v

-- the tokens, and behind them chosen ones or none, spell the value
pub record Completes {T A : Type 0} (chosen : T → Bool) (L : Language T A) (ts : List T) (v : A) : Type 0 where
  pub more : List T
  pub are_chosen : list_all chosen more ≡ true
  pub spelled : L.spells (ts ++ more) v

-- the tokens are completed so to a text with some value
pub record Completed {T A : Type 0} (chosen : T → Bool) (L : Language T A) (ts : List T) : Type 0 where
  pub value : A
  pub by : Completes chosen L ts value

-- what stands here before the rest is completed so
pub record Reaches {T A : Type 0} (chosen : T → Bool) (L : Language T A) (here : List T) (v : A) (rest : List T) : Type 0 where
  pub taken : List T
  pub whole : here ≡ taken ++ rest
  pub completes : Completes chosen L taken v

-- M remains to be read here of a reading of N that began at the start: where a prefix of M is completed, so is one of N from the start,
-- with the value by h
pub record Continues {T A C : Type 0} (chosen : T → Bool) (M : Language T C) (here : List T) (N : Language T A) (start : List T) (h : C → A) : Type 0 where
  pub reaches : (v : C) (rest : List T) → Reaches chosen M here v rest → Reaches chosen N start (h v) rest

-- With so much spent before, what stands here before the rest is within the most, and with the next token it is not.
pub record Overspends {T A : Type 0} (chosen : T → Bool) (L : Language T A) (cost : A → ℕ) (most spent : ℕ) (here rest : List T) : Type 0 where
  pub before : A
  pub up_to : Reaches chosen L here before rest
  pub within : spent + cost before ≤ most
  pub token : T
  pub more : List T
  pub next : rest ≡ token ∷ more
  pub with_it : A
  pub and_it : Reaches chosen L here with_it more
  pub too_much : most < spent + cost with_it
