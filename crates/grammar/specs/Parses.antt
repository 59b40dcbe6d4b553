-- All ways to read the prefix of a list of tokens, computed. It is a help for samples: what is computed is spelled.
use Rattle.std.specs.Prelude.{ℕ, nat_lt, zero, suc, ◌-◌, Bool, true, false, ◌&&◌, ◌||◌, List, [], ◌∷◌, ◌++◌, length, Some, None, Option, ◌⊎◌}
use Rattle.std.proofs.Common.{inl, inr}
use Rattle.grammar.specs.Form.{Form, Rules, Room, empty, token, seq, alt, star, nest, map, only, nonempty, counted, fork, ref}

-- values, each with the tokens that are left
abbrev pub Parses : Type 0 → Type 0 → Type 0
Parses T A = List (A × List T)

abbrev pub where_passes : {T A : Type 0} → Bool → A × List T → Parses T A
where_passes true p = p ∷ []
where_passes false p = []

-- the parses of what each leaves
abbrev pub then_parses : {T A B : Type 0} → Parses T A → (A → List T → Parses T B) → Parses T B
then_parses [] next = []
then_parses (p ∷ ps) next = next p.0 p.1 ++ then_parses ps next

-- each value with another in its place
abbrev pub with_values : {T A B : Type 0} → (A → B) → Parses T A → Parses T B
with_values h parses = then_parses parses (λ v rest. (h v, rest) ∷ [])

-- at most so many times
abbrev pub repeated_parses : {T A : Type 0} → ℕ → (List T → Parses T A) → List T → Parses T (List A)
repeated_parses zero one ts = ([], ts) ∷ []
repeated_parses (suc most) one ts = ([], ts) ∷ then_parses (one ts) (λ v rest. with_values (λ vs. v ∷ vs) (repeated_parses most one rest))

-- what follows a value of either sort, and takes it
abbrev pub either_parses : {T A B C : Type 0} → Parses T (A → C) → Parses T (B → C) → A ⊎ B → Parses T C
either_parses ps qs (inl a) = with_values (λ k. k a) ps
either_parses ps qs (inr b) = with_values (λ k. k b) qs

abbrev pub most_times : {T : Type 0} → Room → Option ℕ → List T → ℕ
most_times None most ts = length ts
most_times (Some levels) None ts = length ts
most_times (Some levels) (Some most) ts = most

abbrev pub parses : {T K N : Type 0} {V : N → Type 0} {A : Type 0} →
    (T → K) → (Room → (n : N) → List T → Parses T (V n)) → Room → Form T K N V A → List T → Parses T A
parses kind P room empty ts = (tt, ts) ∷ []
parses kind P room (token p) [] = []
parses kind P room (token p) (t ∷ ts) = where_passes (p (kind t)) (t, ts)
parses kind P room (seq f g) ts = then_parses (parses kind P room f ts) (λ v rest. with_values (λ w. (v, w)) (parses kind P room g rest))
parses kind P room (alt f g) ts = parses kind P room f ts ++ parses kind P room g ts
parses kind P room (star most f) ts = repeated_parses (most_times room most ts) (parses kind P room f) ts
parses kind P None (nest f) ts = parses kind P None f ts
parses kind P (Some zero) (nest f) ts = []
parses kind P (Some (suc levels)) (nest f) ts = parses kind P (Some levels) f ts
parses kind P room (map h f) ts = with_values h (parses kind P room f ts)
parses kind P room (only p f) ts = then_parses (parses kind P room f ts) (λ v rest. where_passes (p v) (v, rest))
parses kind P room (nonempty f) ts = then_parses (parses kind P room f ts) (λ v rest. where_passes (nat_lt (length rest) (length ts)) (v, rest))
parses kind P room (counted f) ts = then_parses (parses kind P room f ts) (λ v rest. ((v, length ts - length rest), rest) ∷ [])
parses kind P room (fork f g h) ts = then_parses (parses kind P room f ts) (λ v rest. either_parses (parses kind P room g rest) (parses kind P room h rest) v)
parses kind P room (ref n) ts = P room n ts

-- of a name, where productions name one another at most so deep
abbrev pub name_parses : {T K N : Type 0} {V : N → Type 0} → (T → K) → Rules T K N V → ℕ → Room → (n : N) → List T → Parses T (V n)
name_parses kind rules zero room n ts = []
name_parses kind rules (suc height) room n ts = parses kind (name_parses kind rules height) room (rules n) ts

-- the values of those parses that leave no token
abbrev pub whole_values : {T A : Type 0} → Parses T A → List A
whole_values [] = []
whole_values ((v, []) ∷ parses) = v ∷ whole_values parses
whole_values ((v, t ∷ rest) ∷ parses) = whole_values parses

-- Whether a list is a prefix, computed: it ends within a form, or behind one and within what follows. It is a help for samples too: what is
-- computed to be a prefix is one.
abbrev pub is_nil : {T : Type 0} → List T → Bool
is_nil [] = true
is_nil (t ∷ ts) = false

abbrev pub begins_token : {T : Type 0} → (T → Bool) → List T → Bool
begins_token p [] = true
begins_token p (t ∷ ts) = p t && is_nil ts

-- what one of the parses leaves goes on so
abbrev pub any_parse : {T A : Type 0} → Parses T A → (A → List T → Bool) → Bool
any_parse [] goes_on = false
any_parse (p ∷ ps) goes_on = goes_on p.0 p.1 || any_parse ps goes_on

-- fewer times than so many
abbrev pub fewer_parses : {T A : Type 0} → ℕ → (List T → Parses T A) → List T → Parses T (List A)
fewer_parses zero one ts = []
fewer_parses (suc most) one ts = repeated_parses most one ts

abbrev pub either_begins : {A B : Type 0} → Bool → Bool → A ⊎ B → Bool
either_begins p q (inl a) = p
either_begins p q (inr b) = q

abbrev pub begins : {T K N : Type 0} {V : N → Type 0} {A : Type 0} →
    (T → K) → (Room → (n : N) → List T → Parses T (V n)) → (Room → (n : N) → List T → Bool) → Room → Form T K N V A → List T → Bool
begins kind P F room empty ts = is_nil ts
begins kind P F room (token p) ts = begins_token (λ t. p (kind t)) ts
begins kind P F room (seq f g) ts = begins kind P F room f ts || any_parse (parses kind P room f ts) (λ v rest. begins kind P F room g rest)
begins kind P F room (alt f g) ts = begins kind P F room f ts || begins kind P F room g ts
begins kind P F room (star most f) ts =
    is_nil ts || any_parse (fewer_parses (most_times room most ts) (parses kind P room f) ts) (λ vs rest. begins kind P F room f rest)
begins kind P F None (nest f) ts = begins kind P F None f ts
begins kind P F (Some zero) (nest f) ts = is_nil ts
begins kind P F (Some (suc levels)) (nest f) ts = begins kind P F (Some levels) f ts
begins kind P F room (map h f) ts = begins kind P F room f ts
begins kind P F room (only p f) ts = begins kind P F room f ts
begins kind P F room (nonempty f) ts = begins kind P F room f ts
begins kind P F room (counted f) ts = begins kind P F room f ts
begins kind P F room (fork f g h) ts =
    begins kind P F room f ts || any_parse (parses kind P room f ts) (λ v rest. either_begins (begins kind P F room g rest) (begins kind P F room h rest) v)
begins kind P F room (ref n) ts = F room n ts

abbrev pub name_begins : {T K N : Type 0} {V : N → Type 0} → (T → K) → Rules T K N V → ℕ → Room → (n : N) → List T → Bool
name_begins kind rules zero room n ts = is_nil ts
name_begins kind rules (suc height) room n ts = begins kind (name_parses kind rules height) (name_begins kind rules height) room (rules n) ts
