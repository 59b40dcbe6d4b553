-- The words that ask for a proof.
use Rattle.std.specs.Prelude.{◌≡◌, ℕ, ◌<◌, ◌^◌, ◌⊎◌, List, [], ◌∷◌, map, codes, string_bytes, String}
use Rattle.std.specs.Fmt.{decimal}
use Rattle.std.specs.declared.alloc.Global.{Global}
use Rattle.udp_run.specs.Answer.{AsksNothing}

-- how many pairings of two blocks are tried where the words do not say it
abbrev pub default_budget : ℕ
default_budget = 1000000

-- a number of 64 bits that is at least 1
abbrev pub IsBudget : ℕ → Type 0
IsBudget budget = (0 < budget) × (budget < 2 ^ 64)

-- the words are `prove` and the name of a case, and perhaps `--budget` and a number without leading zeros behind them
abbrev pub IsProve : List (String Global) → List ℕ → ℕ → Type 0
IsProve words case budget =
    ((map string_bytes words ≡ codes "prove" ∷ case ∷ []) × (budget ≡ default_budget))
    ⊎ ((map string_bytes words ≡ codes "prove" ∷ case ∷ codes "--budget" ∷ decimal budget ∷ []) × IsBudget budget)

-- the words ask for no proof
abbrev pub AsksNoProof : List (String Global) → Type 0
AsksNoProof words = (case : List ℕ) (budget : ℕ) → IsProve words case budget → ⊥

-- the words are of no form
abbrev pub IsNoForm : List (String Global) → Type 0
IsNoForm words = AsksNothing words × AsksNoProof words

-- the words ask for a proof, and this holds of the name of the case
abbrev pub AsksProof : List (String Global) → (List ℕ → Type 0) → Type 0
AsksProof words P = (case : List ℕ) × (budget : ℕ) × IsProve words case budget × P case
