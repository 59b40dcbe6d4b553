-- Limits on what a text holds. Each is a language of the texts that keep it, beside the language without limits; and the token that passes one.
use Rattle.std.specs.Prelude.{◌≡◌, ◌≤◌, ◌+◌, ℕ, Bool, List, [], ◌∷◌, ◌++◌}
use Rattle.grammar.specs.Completions.{Completes}
use Rattle.grammar.specs.Language.{Language}

-- Behind these tokens this one goes on, and is the first with which they are no prefix within the limit.
pub record IsFirstBeyond {T A : Type 0} (whole limited : Language T A) (before : List T) (token : T) : Type 0 where
  pub goes_on : whole.prefix (before ++ token ∷ [])
  pub within : limited.prefix before
  pub beyond : limited.prefix (before ++ token ∷ []) → ⊥

-- A language with no limits, the language of its texts that keep each of some limits, and which limits are told sooner than others.
pub record Limited (T A : Type 0) : Type 1 where
  pub whole : Language T A
  pub Limit : Type 0
  pub keeping : Limit → Language T A
  pub IsSooner : Limit → Limit → Type 0

-- The token behind those taken goes on with no limits, and is the first beyond this one. All were kept before it, and with it those that are
-- told sooner.
pub record PassesLimit {T A : Type 0} (L : Limited T A) (ts : List T) (which : L.Limit) : Type 0 where
  pub taken : List T
  pub token : T
  pub rest : List T
  pub parts : ts ≡ taken ++ token ∷ rest
  pub beyond : IsFirstBeyond L.whole (L.keeping which) taken token
  pub kept : (other : L.Limit) → (L.keeping other).prefix taken
  pub sooner : (other : L.Limit) → L.IsSooner other which → (L.keeping other).prefix (taken ++ token ∷ [])

-- none of the tokens at which a text goes on is the first beyond the limit
abbrev pub KeepsWithin : {T A : Type 0} → Language T A → Language T A → List T → Type 0
KeepsWithin whole limited ts = (before after : List _) (token : _) → ts ≡ before ++ token ∷ after → IsFirstBeyond whole limited before token → ⊥

-- With so much spent before them, the texts with which no more than the most is spent, as the cost says. A prefix is within the limit where
-- one of these texts goes on from it with chosen tokens, which cost nothing.
abbrev pub within_cost : {T A : Type 0} → (T → Bool) → (A → ℕ) → ℕ → ℕ → Language T A → Language T A
within_cost chosen cost most spent L = record {
  spells = λ ts v. L.spells ts v × (spent + cost v ≤ most);
  prefix = λ ts. (v : _) × Completes chosen L ts v × (spent + cost v ≤ most);
}
