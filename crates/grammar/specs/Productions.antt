-- Ways to write a production.
use Rattle.std.specs.Prelude.{ℕ, List, Option, Some, None}
use Rattle.grammar.specs.Form.{Form, empty, seq, alt, star, map}

-- both, with the value of the second
abbrev pub skip_then : {T K N : Type 0} {V : N → Type 0} {A B : Type 0} → Form T K N V A → Form T K N V B → Form T K N V B
skip_then f g = map (λ p. p.1) (seq f g)

-- both, with the value of the first
abbrev pub then_skip : {T K N : Type 0} {V : N → Type 0} {A B : Type 0} → Form T K N V A → Form T K N V B → Form T K N V A
then_skip f g = map (λ p. p.0) (seq f g)

-- [f]
abbrev pub optional : {T K N : Type 0} {V : N → Type 0} {A : Type 0} → Form T K N V A → Form T K N V (Option A)
optional f = alt (map (λ v. Some v) f) (map (λ v. None) empty)

-- f {separator f}, within the limits with at most so many separators, where a number is given
abbrev pub separated : {T K N : Type 0} {V : N → Type 0} {A B : Type 0} → Option ℕ → Form T K N V B → Form T K N V A → Form T K N V (A × List A)
separated most separator f = seq f (star most (skip_then separator f))
