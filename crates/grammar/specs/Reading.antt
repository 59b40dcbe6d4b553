-- What a reader does with a list of tokens: how far it takes them, and with what.
use Rattle.std.specs.Prelude.{◌≡◌, ◌≤◌, List, [], ◌∷◌, ◌++◌, length}
use Rattle.grammar.specs.Language.{Language}

-- with the next token this is no prefix any more
abbrev pub Stops : {T A : Type 0} → Language T A → List T → List T → Type 0
Stops L taken [] = Unit {0}
Stops L taken (t ∷ more) = L.prefix (taken ++ t ∷ []) → ⊥

-- with the next token this is a prefix, but none within the limits
abbrev pub Passes : {T A : Type 0} → Language T A → Language T A → List T → List T → Type 0
Passes U B taken [] = ⊥
Passes U B taken (t ∷ more) = U.prefix (taken ++ t ∷ []) × (B.prefix (taken ++ t ∷ []) → ⊥)

-- In these U is a language with no limits, and B the same within them.

-- the tokens taken spell the value within the limits, and none goes on
pub record Took {T A : Type 0} (U B : Language T A) (ts : List T) (v : A) (rest : List T) : Type 0 where
  pub taken : List T
  pub whole : ts ≡ taken ++ rest
  pub spelled : B.spells taken v
  pub stops : Stops U taken rest

-- the tokens taken are a prefix within the limits and spell nothing, and none goes on
pub record Failed {T A : Type 0} (U B : Language T A) (ts rest : List T) : Type 0 where
  pub taken : List T
  pub whole : ts ≡ taken ++ rest
  pub begun : B.prefix taken
  pub unspelled : (v : A) → U.spells taken v → ⊥
  pub stops : Stops U taken rest

-- the tokens taken are a prefix within the limits, and the next token passes them
pub record Exceeded {T A : Type 0} (U B : Language T A) (ts rest : List T) : Type 0 where
  pub taken : List T
  pub whole : ts ≡ taken ++ rest
  pub begun : B.prefix taken
  pub passes : Passes U B taken rest

-- the tokens taken are a prefix
pub record Began {T A : Type 0} (B : Language T A) (ts rest : List T) : Type 0 where
  pub taken : List T
  pub whole : ts ≡ taken ++ rest
  pub begun : B.prefix taken

-- the longest list of leading tokens that is a prefix
pub record IsLongestPrefix {T A : Type 0} (L : Language T A) (ts taken : List T) : Type 0 where
  pub leading : (rest : List T) × (ts ≡ taken ++ rest)
  pub begins : L.prefix taken
  pub longest : (x y : List T) → ts ≡ x ++ y → L.prefix x → length x ≤ length taken

-- M remains to be read here of a reading of N that began at the start: what is read of M from here on is what is read of N from the
-- start, with the value by h. N and M stand each for a pair of languages.
pub record Residual {T A C : Type 0} (M M' : Language T C) (here : List T) (N N' : Language T A) (start : List T) (h : C → A) : Type 0 where
  pub took : (v : C) (rest : List T) → Took M M' here v rest → Took N N' start (h v) rest
  pub failed : (rest : List T) → Failed M M' here rest → Failed N N' start rest
  pub exceeded : (rest : List T) → Exceeded M M' here rest → Exceeded N N' start rest
  pub began : (rest : List T) → Began M' here rest → Began N' start rest
