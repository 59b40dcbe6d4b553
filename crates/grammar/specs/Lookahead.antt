-- What one token of lookahead tells of a language, computed for forms from a table for the names.
use Rattle.std.specs.Prelude.{◌≡◌, ℕ, Bool, true, false, not, ◌&&◌, ◌||◌, List, [], ◌∷◌, ◌++◌, Some, None}
use Rattle.std.specs.List.{list_all}
use Rattle.grammar.specs.Language.{Language}
use Rattle.grammar.specs.Form.{Form, Rules, empty, token, seq, alt, star, nest, map, only, nonempty, counted, fork, ref, language}

pub record Lookahead (K : Type 0) : Type 0 where
  -- whether no tokens may be spelled
  pub nullable : Bool
  -- the kinds with which a prefix may begin
  pub first : K → Bool
  -- the kinds that may go on after a spelling
  pub last : K → Bool

-- the language does what its lookahead allows
pub record HasLookahead {T K A : Type 0} (kind : T → K) (L : Language T A) (a : Lookahead K) : Type 0 where
  pub nullable : (v : A) → L.spells [] v → a.nullable ≡ true
  pub first : (t : T) (x : List T) → L.prefix (t ∷ x) → a.first (kind t) ≡ true
  pub last : (x : List T) (v : A) (t : T) (y : List T) → L.spells x v → L.prefix (x ++ t ∷ y) → a.last (kind t) ≡ true

-- ---- the lookahead of a form

abbrev pub no_kind : {K : Type 0} → K → Bool
no_kind k = false

abbrev pub empty_lookahead : {K : Type 0} → Lookahead K
empty_lookahead = record { nullable = true; first = no_kind; last = no_kind }

abbrev pub token_lookahead : {K : Type 0} → (K → Bool) → Lookahead K
token_lookahead p = record { nullable = false; first = p; last = no_kind }

abbrev pub seq_lookahead : {K : Type 0} → Lookahead K → Lookahead K → Lookahead K
seq_lookahead a b = record {
  nullable = a.nullable && b.nullable;
  first = λ k. a.first k || (a.nullable && b.first k);
  last = λ k. b.last k || (b.nullable && a.last k);
}

abbrev pub alt_lookahead : {K : Type 0} → Lookahead K → Lookahead K → Lookahead K
alt_lookahead a b = record {
  nullable = a.nullable || b.nullable;
  first = λ k. a.first k || b.first k;
  last = λ k. (a.last k || b.last k) || ((a.nullable && b.first k) || (b.nullable && a.first k));
}

abbrev pub star_lookahead : {K : Type 0} → Lookahead K → Lookahead K
star_lookahead a = record { nullable = true; first = a.first; last = λ k. a.last k || a.first k }

-- that of what has a token
abbrev pub nonempty_lookahead : {K : Type 0} → Lookahead K → Lookahead K
nonempty_lookahead a = record { nullable = false; first = a.first; last = a.last }

-- that of either
abbrev pub either_lookahead : {K : Type 0} → Lookahead K → Lookahead K → Lookahead K
either_lookahead a b = record { nullable = a.nullable || b.nullable; first = λ k. a.first k || b.first k; last = λ k. a.last k || b.last k }

abbrev pub lookahead : {T K N : Type 0} {V : N → Type 0} {A : Type 0} → (N → Lookahead K) → Form T K N V A → Lookahead K
lookahead table empty = empty_lookahead
lookahead table (token p) = token_lookahead p
lookahead table (seq f g) = seq_lookahead (lookahead table f) (lookahead table g)
lookahead table (alt f g) = alt_lookahead (lookahead table f) (lookahead table g)
lookahead table (star most f) = star_lookahead (lookahead table f)
lookahead table (nest f) = lookahead table f
lookahead table (map h f) = lookahead table f
lookahead table (only p f) = lookahead table f
lookahead table (nonempty f) = nonempty_lookahead (lookahead table f)
lookahead table (counted f) = lookahead table f
lookahead table (fork f g h) = seq_lookahead (lookahead table f) (either_lookahead (lookahead table g) (lookahead table h))
lookahead table (ref n) = table n

-- ---- one token tells how to go on

-- the list holds every kind, as far as tests tell
abbrev pub AreAll : {K : Type 0} → List K → Type 0
AreAll kinds = (p : _ → Bool) → list_all p kinds ≡ true → (k : _) → p k ≡ true

-- no kind is in both
abbrev pub are_apart : {K : Type 0} → List K → (K → Bool) → (K → Bool) → Bool
are_apart kinds f g = list_all (λ k. not (f k && g k)) kinds

-- each kind of the first is in the second
abbrev pub is_inside : {K : Type 0} → List K → (K → Bool) → (K → Bool) → Bool
is_inside kinds f g = list_all (λ k. not (f k) || g k) kinds

-- the first allows no more than the second
abbrev pub is_narrower : {K : Type 0} → List K → Lookahead K → Lookahead K → Bool
is_narrower kinds a b = (not a.nullable || b.nullable) && (is_inside kinds a.first b.first && is_inside kinds a.last b.last)

-- at each choice the next token decides
abbrev pub is_predictive : {T K N : Type 0} {V : N → Type 0} {A : Type 0} → List K → (N → Lookahead K) → Form T K N V A → Bool
is_predictive kinds table empty = true
is_predictive kinds table (token p) = true
is_predictive kinds table (seq f g) =
    (is_predictive kinds table f && is_predictive kinds table g) && are_apart kinds (lookahead table f).last (lookahead table g).first
is_predictive kinds table (alt f g) =
    (is_predictive kinds table f && is_predictive kinds table g)
    && (are_apart kinds (lookahead table f).first (lookahead table g).first && not ((lookahead table f).nullable && (lookahead table g).nullable))
is_predictive kinds table (star most f) =
    is_predictive kinds table f && (not (lookahead table f).nullable && are_apart kinds (lookahead table f).last (lookahead table f).first)
is_predictive kinds table (nest f) = is_predictive kinds table f
is_predictive kinds table (map h f) = is_predictive kinds table f
is_predictive kinds table (only p f) = is_predictive kinds table f
is_predictive kinds table (nonempty f) = is_predictive kinds table f
is_predictive kinds table (counted f) = is_predictive kinds table f
is_predictive kinds table (fork f g h) =
    is_predictive kinds table f && (is_predictive kinds table g && (is_predictive kinds table h
    && are_apart kinds (lookahead table f).last (either_lookahead (lookahead table g) (lookahead table h)).first))
is_predictive kinds table (ref n) = true

-- the table's line for a name is right
abbrev pub is_right : {T K N : Type 0} {V : N → Type 0} → List K → (N → Lookahead K) → Rules T K N V → N → Bool
is_right kinds table rules n = is_predictive kinds table (rules n) && is_narrower kinds (lookahead table (rules n)) (table n)

-- a grammar in which one token of lookahead decides, with the table that says so
pub record PredictiveGrammar (T K N : Type 0) (V : N → Type 0) : Type 1 where
  pub kind : T → K
  pub kinds : List K
  pub every : AreAll kinds
  pub rules : Rules T K N V
  pub table : N → Lookahead K
  pub right : (n : N) → is_right kinds table rules n ≡ true

-- the language of a name, with no limits
abbrev pub unlimited : {T K N : Type 0} {V : N → Type 0} → PredictiveGrammar T K N V → (n : N) → Language T (V n)
unlimited g n = language g.kind g.rules None n

-- and within the limits, with so many levels
abbrev pub limited : {T K N : Type 0} {V : N → Type 0} → PredictiveGrammar T K N V → ℕ → (n : N) → Language T (V n)
limited g levels n = language g.kind g.rules (Some levels) n
