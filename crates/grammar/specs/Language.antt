-- Languages: which lists of tokens spell which value, and after which lists a text may go on. Both go by splitting lists.
use Rattle.std.specs.Prelude.{◌≡◌, ◌≢◌, ℕ, ◌≤◌, ◌<◌, Bool, true, List, [], ◌∷◌, ◌++◌, ◌⊎◌, length}
use Rattle.std.proofs.Common.{inl, inr}

-- a language over tokens T, with values A
pub record Language (T A : Type 0) : Type 1 where
  pub spells : List T → A → Type 0
  -- the list is a prefix: a text of this language may begin with it
  pub prefix : List T → Type 0

-- no tokens
abbrev pub empty_language : {T : Type 0} → Language T (Unit {0})
empty_language = record { spells = λ ts v. ts ≡ []; prefix = λ ts. ts ≡ [] }

-- one token of these kinds, which is the value
abbrev pub token_language : {T K : Type 0} → (T → K) → (K → Bool) → Language T T
token_language kind p = record {
  spells = λ ts v. (ts ≡ v ∷ []) × (p (kind v) ≡ true);
  prefix = λ ts. (ts ≡ []) ⊎ ((t : _) × (ts ≡ t ∷ []) × (p (kind t) ≡ true));
}

-- the one, and then the other
abbrev pub seq_language : {T A B : Type 0} → Language T A → Language T B → Language T (A × B)
seq_language L M = record {
  spells = λ ts v. (x y : List _) × (ts ≡ x ++ y) × L.spells x v.0 × M.spells y v.1;
  prefix = λ ts. L.prefix ts ⊎ ((x y : List _) × (v : _) × (ts ≡ x ++ y) × L.spells x v × M.prefix y);
}

-- the one or the other
abbrev pub alt_language : {T A : Type 0} → Language T A → Language T A → Language T A
alt_language L M = record { spells = λ ts v. L.spells ts v ⊎ M.spells ts v; prefix = λ ts. L.prefix ts ⊎ M.prefix ts }

-- the tokens of these values, one after the other
abbrev pub Concatenates : {T A : Type 0} → (List T → A → Type 0) → List T → List A → Type 0
Concatenates S ts [] = ts ≡ []
Concatenates S ts (v ∷ vs) = (x y : List _) × (ts ≡ x ++ y) × S x v × Concatenates S y vs

-- any number of times
abbrev pub star_language : {T A : Type 0} → Language T A → Language T (List A)
star_language L = record {
  spells = Concatenates L.spells;
  prefix = λ ts. (ts ≡ []) ⊎ ((x y : List _) × (vs : List _) × (ts ≡ x ++ y) × Concatenates L.spells x vs × L.prefix y);
}

-- at most m times
abbrev pub upto_language : {T A : Type 0} → ℕ → Language T A → Language T (List A)
upto_language m L = record {
  spells = λ ts vs. Concatenates L.spells ts vs × (length vs ≤ m);
  prefix = λ ts. (ts ≡ []) ⊎ ((x y : List _) × (vs : List _) × (ts ≡ x ++ y) × Concatenates L.spells x vs × L.prefix y × (length vs < m));
}

-- the same tokens, with another value
abbrev pub map_language : {T A B : Type 0} → (A → B) → Language T A → Language T B
map_language f L = record { spells = λ ts v. (u : _) × L.spells ts u × (v ≡ f u); prefix = L.prefix }

-- only the spellings of a value that passes the test
abbrev pub only_language : {T A : Type 0} → (A → Bool) → Language T A → Language T A
only_language p L = record { spells = λ ts v. L.spells ts v × (p v ≡ true); prefix = L.prefix }

-- only the spellings with a token
abbrev pub nonempty_language : {T A : Type 0} → Language T A → Language T A
nonempty_language L = record { spells = λ ts v. L.spells ts v × (ts ≢ []); prefix = L.prefix }

-- the value together with the number of its tokens
abbrev pub counted_language : {T A : Type 0} → Language T A → Language T (A × ℕ)
counted_language L = record { spells = λ ts v. L.spells ts v.0 × (v.1 ≡ length ts); prefix = L.prefix }

-- the one, and then one that goes by its value
abbrev pub bind_language : {T A B : Type 0} → Language T A → (A → Language T B) → Language T B
bind_language L M = record {
  spells = λ ts w. (x y : List _) × (v : _) × (ts ≡ x ++ y) × L.spells x v × (M v).spells y w;
  prefix = λ ts. L.prefix ts ⊎ ((x y : List _) × (v : _) × (ts ≡ x ++ y) × L.spells x v × (M v).prefix y);
}

-- what follows a value of either sort, and takes it
abbrev pub branch : {T A B C : Type 0} → Language T (A → C) → Language T (B → C) → A ⊎ B → Language T C
branch L M (inl a) = map_language (λ f. f a) L
branch L M (inr b) = map_language (λ f. f b) M

-- nothing is spelled
abbrev pub no_language : {T A : Type 0} → Language T A
no_language = record { spells = λ ts v. ⊥; prefix = λ ts. ts ≡ [] }

-- what L spells M spells, and a prefix of L is a prefix of M
pub record Includes {T A : Type 0} (M L : Language T A) : Type 0 where
  pub spells : (ts : List T) (v : A) → L.spells ts v → M.spells ts v
  pub prefix : (ts : List T) → L.prefix ts → M.prefix ts

-- a prefix of a prefix is a prefix, and so is a spelling
pub record HasPrefixes {T A : Type 0} (L : Language T A) : Type 0 where
  pub empty : L.prefix []
  pub shorter : (x y : List T) → L.prefix (x ++ y) → L.prefix x
  pub spelled : (ts : List T) (v : A) → L.spells ts v → L.prefix ts

-- no list of tokens spells two values
abbrev pub IsUnambiguous : {T A : Type 0} → Language T A → Type 0
IsUnambiguous L = (ts : List _) (v w : _) → L.spells ts v → L.spells ts w → v ≡ w
