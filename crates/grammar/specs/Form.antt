-- Grammars as data: the forms of productions, and the languages that they mean with a limit on depth and length or with none.
use Rattle.std.specs.Prelude.{ℕ, ◌≤◌, zero, suc, Bool, List, Option, Some, None, ◌⊎◌}
use Rattle.grammar.specs.Language.{Language, empty_language, token_language, seq_language, alt_language, star_language, upto_language, map_language, only_language, nonempty_language, counted_language, bind_language, branch, no_language}

-- A form over tokens T with kinds K, in which names N of productions with values V may stand; the form's own value comes last.
pub data Form (T K N : Type 0) (V : N → Type 0) : Type 0 → Type 1 where
  empty : Form T K N V (Unit {0})
  -- one token of these kinds
  token : (K → Bool) → Form T K N V T
  seq : {A B : Type 0} → Form T K N V A → Form T K N V B → Form T K N V (A × B)
  alt : {A : Type 0} → Form T K N V A → Form T K N V A → Form T K N V A
  -- any number of times; within the limits at most so often, where a number is given
  star : {A : Type 0} → Option ℕ → Form T K N V A → Form T K N V (List A)
  -- one level deeper
  nest : {A : Type 0} → Form T K N V A → Form T K N V A
  -- the same tokens, with another value
  map : {A B : Type 0} → (A → B) → Form T K N V A → Form T K N V B
  -- only where the value passes the test
  only : {A : Type 0} → (A → Bool) → Form T K N V A → Form T K N V A
  -- only with a token
  nonempty : {A : Type 0} → Form T K N V A → Form T K N V A
  -- the value together with the number of its tokens
  counted : {A : Type 0} → Form T K N V A → Form T K N V (A × ℕ)
  -- what follows goes by the first's value, and takes it
  fork : {A B C : Type 0} → Form T K N V (A ⊎ B) → Form T K N V (A → C) → Form T K N V (B → C) → Form T K N V C
  ref : (n : N) → Form T K N V (V n)

-- the productions
abbrev pub Rules : (T K N : Type 0) → (N → Type 0) → Type 1
Rules T K N V = (n : N) → Form T K N V (V n)

-- how many more levels may be opened; None says that there are no limits
abbrev pub Room : Type 0
Room = Option ℕ

-- the second has as much room as the first, or more
abbrev pub IsRoomier : Room → Room → Type 0
IsRoomier room None = Unit {0}
IsRoomier None (Some levels) = ⊥
IsRoomier (Some few) (Some levels) = few ≤ levels

abbrev pub repeated : {T A : Type 0} → Room → Option ℕ → Language T A → Language T (List A)
repeated None most L = star_language L
repeated (Some levels) None L = star_language L
repeated (Some levels) (Some most) L = upto_language most L

-- the language of a form with this room, where the names have these languages
abbrev pub form_language : {T K N : Type 0} {V : N → Type 0} {A : Type 0} →
    (T → K) → (Room → (n : N) → Language T (V n)) → Room → Form T K N V A → Language T A
form_language kind E room empty = empty_language
form_language kind E room (token p) = token_language kind p
form_language kind E room (seq f g) = seq_language (form_language kind E room f) (form_language kind E room g)
form_language kind E room (alt f g) = alt_language (form_language kind E room f) (form_language kind E room g)
form_language kind E room (star most f) = repeated room most (form_language kind E room f)
form_language kind E None (nest f) = form_language kind E None f
form_language kind E (Some zero) (nest f) = no_language
form_language kind E (Some (suc levels)) (nest f) = form_language kind E (Some levels) f
form_language kind E room (map h f) = map_language h (form_language kind E room f)
form_language kind E room (only p f) = only_language p (form_language kind E room f)
form_language kind E room (nonempty f) = nonempty_language (form_language kind E room f)
form_language kind E room (counted f) = counted_language (form_language kind E room f)
form_language kind E room (fork f g h) = bind_language (form_language kind E room f) (branch (form_language kind E room g) (form_language kind E room h))
form_language kind E room (ref n) = E room n

-- the names' languages, where productions name one another at most so deep
abbrev pub language_within : {T K N : Type 0} {V : N → Type 0} → (T → K) → Rules T K N V → ℕ → Room → (n : N) → Language T (V n)
language_within kind rules zero room n = no_language
language_within kind rules (suc height) room n = form_language kind (language_within kind rules height) room (rules n)

-- the language of a name of the grammar, with this room
unfoldable pub language : {T K N : Type 0} {V : N → Type 0} → (T → K) → Rules T K N V → Room → (n : N) → Language T (V n)
language kind rules room n = record {
  spells = λ ts v. (height : ℕ) × (language_within kind rules height room n).spells ts v;
  prefix = λ ts. (height : ℕ) × (language_within kind rules height room n).prefix ts;
}
