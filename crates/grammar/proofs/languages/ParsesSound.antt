-- What is computed is spelled.
use Rattle.std.proofs.Common.{◌≡◌, ℕ, zero, suc, ◌-◌, ◌≤◌, ◌<◌, Bool, true, false, ◌||◌, List, [], ◌∷◌, ◌++◌, length, length-append, append_assoc, ◌⊎◌, inl, inr, refl, sym, ◌∙◌, ap, subst, Option, Some, None, arith}
use Rattle.std.proofs.lemmas.List.{append-nil}
use Rattle.std.proofs.lemmas.Bool.{ltb-true}
use Rattle.std.specs.Prelude.{nat_lt}
use Rattle.grammar.specs.Language.{Language, Includes, Concatenates, upto_language, branch}
use Rattle.grammar.specs.Form.{Form, Rules, Room, empty, token, seq, alt, star, nest, map, only, nonempty, counted, fork, ref, form_language, language_within, language, repeated}
use Rattle.grammar.specs.Parses.{Parses, where_passes, with_values, then_parses, repeated_parses, either_parses, most_times, parses, name_parses, whole_values, is_nil, any_parse, fewer_parses, either_begins, begins, name_begins}
use Rattle.grammar.proofs.languages.Forms.{includes_itself, star_includes_upto}
use Rattle.grammar.proofs.languages.Heights.{in_name}
use Rattle.grammar.proofs.languages.Sets.{and_left, and_right}

-- what is left of the tokens after some that spell the value
abbrev Spelled : {T A : Type 0} → Language T A → List T → A → List T → Type 0
Spelled L ts v rest = (taken : List _) × (ts ≡ taken ++ rest) × L.spells taken v

-- each parse is spelled by what it took
abbrev AreSound : {T A : Type 0} → Language T A → List T → Parses T A → Type 0
AreSound L ts [] = Unit {0}
AreSound L ts (p ∷ ps) = Spelled L ts p.0 p.1 × AreSound L ts ps

module _ {T A : Type 0} (L : Language T A) (ts : List T) where
  sound_append : (ps qs : Parses T A) → AreSound L ts ps → AreSound L ts qs → AreSound L ts (ps ++ qs)
  sound_append [] qs s r = r
  sound_append (p ∷ ps) qs s r = (s.0, sound_append ps qs s.1 r)

  sound_passes : (b : Bool) (p : A × List T) → (b ≡ true → Spelled L ts p.0 p.1) → AreSound L ts (where_passes b p)
  sound_passes true p s = (s refl, tt)
  sound_passes false p s = tt

sound_in : {T A : Type 0} (L M : Language T A) (ts : List T) → ((x : List T) (v : A) → L.spells x v → M.spells x v) → (ps : Parses T A) → AreSound L ts ps → AreSound M ts ps
sound_in L M ts m [] s = tt
sound_in L M ts m (p ∷ ps) s = ((s.0.0, s.0.1, m s.0.0 p.0 s.0.2), sound_in L M ts m ps s.1)

module _ {T A B : Type 0} (L : Language T A) (M : Language T B) (ts : List T) where
  sound_then : (ps : Parses T A) (next : A → List T → Parses T B) → ((v : A) (rest : List T) → Spelled L ts v rest → AreSound M ts (next v rest)) → AreSound L ts ps → AreSound M ts (then_parses ps next)
  sound_then [] next n s = tt
  sound_then (p ∷ ps) next n s = sound_append M ts (next p.0 p.1) (then_parses ps next) (n p.0 p.1 s.0) (sound_then ps next n s.1)

-- the parses behind what is spelled, and their values by h
module _ {T A B : Type 0} (M : Language T A) (N : Language T B) (ts x rest : List T) (e : ts ≡ x ++ rest) (h : A → B) (n : (y : List T) (w : A) → M.spells y w → N.spells (x ++ y) (h w)) where
  sound_after : (ps : Parses T A) → AreSound M rest ps → AreSound N ts (with_values h ps)
  sound_after [] s = tt
  sound_after (p ∷ ps) s = ((x ++ s.0.0, e ∙ (ap (λ z. x ++ z) s.0.1 ∙ sym (append_assoc x s.0.0 p.1)), n s.0.0 p.0 s.0.2), sound_after ps s.1)

module _ {T A : Type 0} (L : Language T A) (one : List T → Parses T A) (sound : (ts : List T) → AreSound L ts (one ts)) where
  -- each list of values is no longer than was allowed
  repeated_sound : (most : ℕ) (ts : List T) → AreSound (upto_language most L) ts (repeated_parses most one ts)
  repeated_sound zero ts = (([], refl, (refl, omega arith)), tt)
  repeated_sound (suc most) ts = (
    ([], refl, (refl, omega arith)),
    sound_then L (upto_language (suc most) L) ts (one ts) (λ v rest. with_values (λ vs. v ∷ vs) (repeated_parses most one rest))
        (λ v rest s. sound_after (upto_language most L) (upto_language (suc most) L) ts s.0 rest s.1 (λ vs. v ∷ vs) (λ y vs r. ((s.0, y, refl, s.2, r.0), omega (arith, r.1)))
        (repeated_parses most one rest) (repeated_sound most rest)) (sound ts),
  )

-- so many times are as many as are allowed
into_repeated : {T A : Type 0} (L : Language T A) (room : Room) (most : Option ℕ) (ts : List T) → Includes (repeated room most L) (upto_language (most_times room most ts) L)
into_repeated L None most ts = star_includes_upto L L (includes_itself L) (length ts)
into_repeated L (Some levels) None ts = star_includes_upto L L (includes_itself L) (length ts)
into_repeated L (Some levels) (Some most) ts = includes_itself _

module _ {T K N : Type 0} {V : N → Type 0} (kind : T → K) (E : Room → (n : N) → Language T (V n)) (P : Room → (n : N) → List T → Parses T (V n)) (sound : (room : Room) (n : N) (ts : List T) → AreSound (E room n) ts (P room n ts)) where
  abbrev of : {A : Type 0} → Form T K N V A → Room → Language T A
  of f room = form_language kind E room f

  abbrev ps : {A : Type 0} → Form T K N V A → Room → List T → Parses T A
  ps f room = parses kind P room f

  form_sound : {A : Type 0} (f : Form T K N V A) (room : Room) (ts : List T) → AreSound (of f room) ts (ps f room ts)
  form_sound empty room ts = (([], refl, refl), tt)
  form_sound (token p) room [] = tt
  form_sound (token p) room (t ∷ ts) = sound_passes (of (token p) room) (t ∷ ts) (p (kind t)) (t, ts) (λ e. (t ∷ [], refl, (refl, e)))
  form_sound (seq f g) room ts =
      sound_then (of f room) (of (seq f g) room) ts (ps f room ts) (λ v rest. with_values (λ w. (v, w)) (ps g room rest))
      (λ v rest s. sound_after (of g room) (of (seq f g) room) ts s.0 rest s.1 (λ w. (v, w)) (λ y w r. (s.0, y, refl, s.2, r)) (ps g room rest) (form_sound g room rest))
      (form_sound f room ts)
  form_sound (alt f g) room ts =
      sound_append (of (alt f g) room) ts (ps f room ts) (ps g room ts)
      (sound_in (of f room) (of (alt f g) room) ts (λ x v s. inl s) (ps f room ts) (form_sound f room ts))
      (sound_in (of g room) (of (alt f g) room) ts (λ x v s. inr s) (ps g room ts) (form_sound g room ts))
  form_sound (star most f) room ts =
      sound_in (upto_language (most_times room most ts) (of f room)) (of (star most f) room) ts (into_repeated (of f room) room most ts).spells (repeated_parses (most_times room most ts) (ps f room) ts)
      (repeated_sound (of f room) (ps f room) (form_sound f room) (most_times room most ts) ts)
  form_sound (nest f) None ts = form_sound f None ts
  form_sound (nest f) (Some zero) ts = tt
  form_sound (nest f) (Some (suc levels)) ts = form_sound f (Some levels) ts
  form_sound (map h f) room ts = sound_after (of f room) (of (map h f) room) ts [] ts refl h (λ y w r. (w, r, refl)) (ps f room ts) (form_sound f room ts)
  form_sound (only p f) room ts =
      sound_then (of f room) (of (only p f) room) ts (ps f room ts) (λ v rest. where_passes (p v) (v, rest))
      (λ v rest s. sound_passes (of (only p f) room) ts (p v) (v, rest) (λ e. (s.0, s.1, (s.2, e)))) (form_sound f room ts)
  form_sound (nonempty f) room ts =
      sound_then (of f room) (of (nonempty f) room) ts (ps f room ts) (λ v rest. where_passes (nat_lt (length rest) (length ts)) (v, rest))
      (λ v rest s. sound_passes (of (nonempty f) room) ts (nat_lt (length rest) (length ts)) (v, rest) (λ e. (s.0, s.1, (s.2, some_taken s.0 rest s.1 e)))) (form_sound f room ts)
    where
      some_taken : (x rest : List T) → ts ≡ x ++ rest → nat_lt (length rest) (length ts) ≡ true → x ≡ [] → ⊥
      some_taken x rest e n i = omega (arith, ap length (e ∙ ap (λ z. z ++ rest) i), ltb-true (length rest) (length ts) n)
  form_sound (counted f) room ts =
      sound_then (of f room) (of (counted f) room) ts (ps f room ts) (λ v rest. ((v, length ts - length rest), rest) ∷ [])
      (λ v rest s. ((s.0, s.1, (s.2, taken_count s.0 rest s.1)), tt)) (form_sound f room ts)
    where
      taken_count : (x rest : List T) → ts ≡ x ++ rest → length ts - length rest ≡ length x
      taken_count x rest e = omega (arith, ap length e, length-append x rest)
  form_sound (fork f g h) room ts =
      sound_then (of f room) (of (fork f g h) room) ts (ps f room ts) (λ v rest. either_parses (ps g room rest) (ps h room rest) v)
      (λ v rest s. either_sound v rest s (form_sound g room rest) (form_sound h room rest)) (form_sound f room ts)
    where
      either_sound : (v : _ ⊎ _) (rest : List T) → Spelled (of f room) ts v rest → AreSound (of g room) rest (ps g room rest) → AreSound (of h room) rest (ps h room rest)
          → AreSound (of (fork f g h) room) ts (either_parses (ps g room rest) (ps h room rest) v)
      either_sound (inl a) rest s p q = sound_after (of g room) (of (fork f g h) room) ts s.0 rest s.1 (λ k. k a) (λ y k r. (s.0, y, inl a, refl, s.2, (k, r, refl))) (ps g room rest) p
      either_sound (inr b) rest s p q = sound_after (of h room) (of (fork f g h) room) ts s.0 rest s.1 (λ k. k b) (λ y k r. (s.0, y, inr b, refl, s.2, (k, r, refl))) (ps h room rest) q
  form_sound (ref n) room ts = sound room n ts

module _ {T K N : Type 0} {V : N → Type 0} (kind : T → K) (rules : Rules T K N V) where
  sound_within : (height : ℕ) (room : Room) (n : N) (ts : List T) → AreSound (language_within kind rules height room n) ts (name_parses kind rules height room n ts)
  sound_within zero room n ts = tt
  sound_within (suc height) room n ts = form_sound kind (language_within kind rules height) (name_parses kind rules height) (sound_within height) (rules n) room ts

  name_sound : (height : ℕ) (room : Room) (n : N) (ts : List T) → AreSound (language kind rules room n) ts (name_parses kind rules height room n ts)
  name_sound height room n ts = sound_in (language_within kind rules height room n) (language kind rules room n) ts (in_name kind rules height room n).spells (name_parses kind rules height room n ts) (sound_within height room n ts)

  whole_sound : {A : Type 0} (L : Language T A) (ts : List T) (v : A) (vs : List A) (ps : Parses T A) → AreSound L ts ps → whole_values ps ≡ v ∷ vs → L.spells ts v
  whole_sound L ts v vs [] s e = cc
  whole_sound L ts v vs ((w, []) ∷ ps) s e =
      let i : w ≡ v = cc in
      subst (L.spells ts) i (subst (λ z. L.spells z w) (sym (s.0.1 ∙ append-nil s.0.0)) s.0.2)
  whole_sound L ts v vs ((w, t ∷ rest) ∷ ps) s e = whole_sound L ts v vs ps s.1 e

  -- the first whole value that is computed is spelled
  pub computed : (height : ℕ) (room : Room) (n : N) (ts : List T) (v : V n) (vs : List (V n)) → whole_values (name_parses kind rules height room n ts) ≡ v ∷ vs → (language kind rules room n).spells ts v
  computed height room n ts v vs e = whole_sound (language kind rules room n) ts v vs (name_parses kind rules height room n ts) (name_sound height room n ts) e

-- ---- prefixes

nil_begins : {T : Type 0} (ts : List T) → is_nil ts ≡ true → ts ≡ []
nil_begins [] e = refl
nil_begins (t ∷ ts) e = cc

one_of_both : (p q : Bool) → p || q ≡ true → (p ≡ true) ⊎ (q ≡ true)
one_of_both true q e = inl refl
one_of_both false q e = inr e

-- one of the parses, of which this holds
record Goes {T A : Type 0} (L : Language T A) (ts : List T) (goes_on : A → List T → Bool) : Type 0 where
  value : A
  rest : List T
  taken : Spelled L ts value rest
  goes : goes_on value rest ≡ true

goes : {T A : Type 0} (L : Language T A) (ts : List T) (goes_on : A → List T → Bool) (ps : Parses T A) → AreSound L ts ps → any_parse ps goes_on ≡ true → Goes L ts goes_on
goes L ts goes_on [] s e = cc
goes L ts goes_on (p ∷ ps) s e = elim (one_of_both (goes_on p.0 p.1) (any_parse ps goes_on) e) [
  | inl i ↦ record { value = p.0; rest = p.1; taken = s.0; goes = i }
  | inr i ↦ goes L ts goes_on ps s.1 i
]

module _ {T K N : Type 0} {V : N → Type 0} (kind : T → K) (E : Room → (n : N) → Language T (V n)) (P : Room → (n : N) → List T → Parses T (V n)) (F : Room → (n : N) → List T → Bool)
    (sound : (room : Room) (n : N) (ts : List T) → AreSound (E room n) ts (P room n ts)) (prefix : (room : Room) (n : N) (ts : List T) → F room n ts ≡ true → (E room n).prefix ts) where
  abbrev in_form : {A : Type 0} → Form T K N V A → Room → Language T A
  in_form f room = form_language kind E room f

  abbrev starts : {A : Type 0} → Form T K N V A → Room → List T → Bool
  starts f room ts = begins kind P F room f ts

  abbrev ArePrefixes : {A : Type 0} → Form T K N V A → Room → Type 0
  ArePrefixes f room = (ts : List T) → starts f room ts ≡ true → (in_form f room).prefix ts

  parsed : {A : Type 0} (f : Form T K N V A) (room : Room) (ts : List T) → AreSound (in_form f room) ts (parses kind P room f ts)
  parsed f room ts = form_sound kind E P sound f room ts

  token_prefix : (p : K → Bool) (room : Room) → ArePrefixes (token p) room
  token_prefix p room [] e = inl refl
  token_prefix p room (t ∷ []) e = inr (t, refl, and_left (p (kind t)) true e)
  token_prefix p room (t ∷ u ∷ ts) e = absurd (never (and_right (p (kind t)) false e))
    where
      never : false ≡ true → ⊥
      never i = cc

  seq_prefix : {A B : Type 0} (f : Form T K N V A) (g : Form T K N V B) (room : Room) → ArePrefixes f room → ArePrefixes g room → ArePrefixes (seq f g) room
  seq_prefix f g room m n ts e = elim (one_of_both (starts f room ts) _ e) [
    | inl i ↦ inl (m ts i)
    | inr i ↦ let r = goes (in_form f room) ts (λ v rest. starts g room rest) (parses kind P room f ts) (parsed f room ts) i in
        inr (r.taken.0, r.rest, r.value, r.taken.1, r.taken.2, n r.rest r.goes)
  ]

  fork_prefix : {A B C : Type 0} (f : Form T K N V (A ⊎ B)) (g : Form T K N V (A → C)) (h : Form T K N V (B → C)) (room : Room) → ArePrefixes f room → ArePrefixes g room → ArePrefixes h room
      → ArePrefixes (fork f g h) room
  fork_prefix f g h room m n o ts e = elim (one_of_both (starts f room ts) _ e) [
    | inl i ↦ inl (m ts i)
    | inr i ↦ let r = goes (in_form f room) ts (λ v rest. either_begins (starts g room rest) (starts h room rest) v) (parses kind P room f ts) (parsed f room ts) i in
        inr (r.taken.0, r.rest, r.value, r.taken.1, r.taken.2, either r.value r.rest r.goes)
  ]
    where
      either : (v : _ ⊎ _) (rest : List T) → either_begins (starts g room rest) (starts h room rest) v ≡ true → (branch (in_form g room) (in_form h room) v).prefix rest
      either (inl a) rest i = n rest i
      either (inr b) rest i = o rest i

  -- so many of the form, and the prefix of one more
  fewer : {A : Type 0} (f : Form T K N V A) (room : Room) → ArePrefixes f room → (most : ℕ) (ts : List T)
      → any_parse (fewer_parses most (parses kind P room f) ts) (λ vs rest. starts f room rest) ≡ true
      → (x y : List T) × (vs : List A) × (ts ≡ x ++ y) × Concatenates (in_form f room).spells x vs × (in_form f room).prefix y × (length vs < most)
  fewer f room m zero ts e = cc
  fewer f room m (suc most) ts e =
      let r = goes (upto_language most (in_form f room)) ts (λ vs rest. starts f room rest) (repeated_parses most (parses kind P room f) ts) (repeated_sound (in_form f room) (parses kind P room f) (parsed f room) most ts) e in
      (r.taken.0, r.rest, r.value, r.taken.1, r.taken.2.0, m r.rest r.goes, below (length r.value) r.taken.2.1)
    where
      below : (n : ℕ) → n ≤ most → n < suc most
      below n l = omega (arith, l)

  star_prefix : {A : Type 0} (f : Form T K N V A) (most : Option ℕ) (room : Room) → ArePrefixes f room → ArePrefixes (star most f) room
  star_prefix f most room m ts e =
      (into_repeated (in_form f room) room most ts).prefix ts (elim (one_of_both (is_nil ts) _ e) [ inl i ↦ inl (nil_begins ts i) | inr i ↦ inr (fewer f room m (most_times room most ts) ts i) ])

  form_begins : {A : Type 0} (f : Form T K N V A) (room : Room) → ArePrefixes f room
  form_begins empty room ts e = nil_begins ts e
  form_begins (token p) room ts e = token_prefix p room ts e
  form_begins (seq f g) room ts e = seq_prefix f g room (form_begins f room) (form_begins g room) ts e
  form_begins (alt f g) room ts e = elim (one_of_both (starts f room ts) (starts g room ts) e) [ inl i ↦ inl (form_begins f room ts i) | inr i ↦ inr (form_begins g room ts i) ]
  form_begins (star most f) room ts e = star_prefix f most room (form_begins f room) ts e
  form_begins (nest f) None ts e = form_begins f None ts e
  form_begins (nest f) (Some zero) ts e = nil_begins ts e
  form_begins (nest f) (Some (suc levels)) ts e = form_begins f (Some levels) ts e
  form_begins (map h f) room ts e = form_begins f room ts e
  form_begins (only p f) room ts e = form_begins f room ts e
  form_begins (nonempty f) room ts e = form_begins f room ts e
  form_begins (counted f) room ts e = form_begins f room ts e
  form_begins (fork f g h) room ts e = fork_prefix f g h room (form_begins f room) (form_begins g room) (form_begins h room) ts e
  form_begins (ref n) room ts e = prefix room n ts e

module _ {T K N : Type 0} {V : N → Type 0} (kind : T → K) (rules : Rules T K N V) where
  begins_within : (height : ℕ) (room : Room) (n : N) (ts : List T) → name_begins kind rules height room n ts ≡ true → (language_within kind rules height room n).prefix ts
  begins_within zero room n ts e = nil_begins ts e
  begins_within (suc height) room n ts e =
      form_begins kind (language_within kind rules height) (name_parses kind rules height) (name_begins kind rules height) (sound_within kind rules height) (begins_within height) (rules n) room ts e

  -- what is computed to be a prefix is one
  pub computed_prefix : (height : ℕ) (room : Room) (n : N) (ts : List T) → name_begins kind rules height room n ts ≡ true → (language kind rules room n).prefix ts
  computed_prefix height room n ts e = (in_name kind rules height room n).prefix ts (begins_within height room n ts e)
