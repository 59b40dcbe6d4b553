-- The bag of values that an aggregate is applied to, as the list of how often each value of the domain occurs.
use Rattle.std.specs.Prelude.{ℕ, suc, min, nat_eq, Bool, if◌then◌else◌, List, [], ◌∷◌}
use Rattle.data_model.specs.Numbers.{list_below}

-- how often a value occurs
abbrev pub count : ℕ → List ℕ → ℕ
count v [] = 0
count v (x ∷ xs) = if nat_eq x v then suc (count v xs) else count v xs

-- how often each of the n values occurs, or with DISTINCT whether it does
abbrev pub counts_of : ℕ → Bool → List ℕ → List ℕ
counts_of n is_distinct values = list_below n (λ v. if is_distinct then min (count v values) 1 else count v values)
