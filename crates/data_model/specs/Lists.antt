-- Facts about the members of a list, by recursion, so that a fact about a list that is written out is a tuple.
use Rattle.std.specs.Prelude.{List, [], ◌∷◌, ◌⊎◌}

-- P holds of each member
abbrev pub Each : {X : Type 0} → (X → Type 0) → List X → Type 0
Each P [] = Unit {0}
Each P (x ∷ xs) = P x × Each P xs

-- P holds of some member
abbrev pub Has : {X : Type 0} → (X → Type 0) → List X → Type 0
Has P [] = ⊥
Has P (x ∷ xs) = P x ⊎ Has P xs

-- P holds of each member and each later one
abbrev pub EachPair : {X : Type 0} → (X → X → Type 0) → List X → Type 0
EachPair P [] = Unit {0}
EachPair P (x ∷ xs) = Each (P x) xs × EachPair P xs
