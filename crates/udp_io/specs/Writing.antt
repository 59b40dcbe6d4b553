-- What writing does to what a sink holds, where the sink tells it. A sink may stop telling, and then it tells no more.
use Rattle.std.specs.Prelude.{◌≡◌, ℕ, ◌<◌, List, ◌++◌, length, take, ⊤, Some, None, Option, Result, MatchResult}

-- these bytes were appended
abbrev pub Grows : Option (List ℕ) → Option (List ℕ) → List ℕ → Type 0
Grows old None bytes = ⊤
Grows None (Some new) bytes = ⊥
Grows (Some old) (Some new) bytes = new ≡ old ++ bytes

-- `put(bytes)` appended the first n bytes at `Ok(n)`, and nothing at `Err`
abbrev pub PutGrows : {E : Type 0} → Option (List ℕ) → Option (List ℕ) → Result ℕ E → List ℕ → Type 0
PutGrows old new result bytes = MatchResult result (λ n. Grows old new (take n bytes)) (λ _. new ≡ old)

-- a prefix of these bytes was appended, and not all of them
abbrev pub GrowsByPrefix : Option (List ℕ) → Option (List ℕ) → List ℕ → Type 0
GrowsByPrefix old new bytes = (n : ℕ) × (n < length bytes) × Grows old new (take n bytes)
