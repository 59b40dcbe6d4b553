-- A test that each kind of the list passes, every kind passes.
use Rattle.std.proofs.Common.{◌≡◌, ℕ, zero, suc, Bool, true, List, [], ◌∷◌, refl, subst}
use Rattle.std.specs.List.{list_all}
use Rattle.grammar.specs.Lookahead.{AreAll}
use Rattle.grammar.proofs.languages.Sets.{and_left, and_right}
use Rattle.sql_grammar.specs.Kinds as k
use Rattle.sql_grammar.specs.Kinds.{Kind, every_kind, number}

abbrev nth : List Kind → ℕ → Kind
nth [] n = k.All
nth (x ∷ kinds) zero = x
nth (x ∷ kinds) (suc n) = nth kinds n

passed : (p : Kind → Bool) (kinds : List Kind) (n : ℕ) → p k.All ≡ true → list_all p kinds ≡ true → p (nth kinds n) ≡ true
passed p [] n all e = all
passed p (x ∷ kinds) zero all e = and_left (p x) (list_all p kinds) e
passed p (x ∷ kinds) (suc n) all e = passed p kinds n all (and_right (p x) (list_all p kinds) e)

-- each stands at its number
placed : (kind : Kind) → nth every_kind (number kind) ≡ kind
placed k.All = refl
placed other = refl

pub every_kind_is_there : AreAll every_kind
every_kind_is_there p e kind = subst (λ z. p z ≡ true) (placed kind) (passed p every_kind (number kind) (and_left (p k.All) _ e) e)
