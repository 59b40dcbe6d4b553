-- What whole texts of a form cost, by their values.
use Rattle.std.proofs.Common.{◌≡◌, ℕ, ◌+◌, Bool, List, [], ◌∷◌, refl, None, Option, Some, arith}
use Rattle.grammar.specs.Form.{Form, empty, token, seq, alt, star, nest, map, only, ref}
use Rattle.grammar.specs.Productions.{skip_then, then_skip, optional, separated}

abbrev pub summed : {A : Type 0} → (A → ℕ) → List A → ℕ
summed a [] = 0
summed a (v ∷ vs) = a v + summed a vs

abbrev pub optional_cost : {A : Type 0} → (A → ℕ) → Option A → ℕ
optional_cost a None = 0
optional_cost a (Some v) = a v

-- A way to reckon what forms cost: the cost of a form is made of those of its parts, and a name has its own. What a production costs is
-- shown once for all of them.
pub record Costing {T K N : Type 0} {V : N → Type 0} (own_cost : (n : N) → V n → ℕ) (Costed : (A : Type 0) → Form T K N V A → (A → ℕ) → Type 0) : Type 1 where
  pub of_same : {A : Type 0} {f : Form T K N V A} {a : A → ℕ} (b : A → ℕ) → Costed A f a → ((v : A) → b v ≡ a v) → Costed A f b
  pub of_empty : Costed (Unit {0}) empty (λ v. 0)
  pub of_token : (p : K → Bool) → Costed T (token p) (λ v. 0)
  pub of_seq : {A B : Type 0} {f : Form T K N V A} {g : Form T K N V B} {a : A → ℕ} {b : B → ℕ} → Costed A f a → Costed B g b → Costed (A × B) (seq f g) (λ v. a v.0 + b v.1)
  pub of_alt : {A : Type 0} {f g : Form T K N V A} {a : A → ℕ} → Costed A f a → Costed A g a → Costed A (alt f g) a
  pub of_nest : {A : Type 0} {f : Form T K N V A} {a : A → ℕ} → Costed A f a → Costed A (nest f) a
  pub of_map : {A B : Type 0} {f : Form T K N V A} {a : A → ℕ} (h : A → B) (b : B → ℕ) → Costed A f a → ((v : A) → b (h v) ≡ a v) → Costed B (map h f) b
  pub of_only : {A : Type 0} {f : Form T K N V A} {a : A → ℕ} (q : A → Bool) → Costed A f a → Costed A (only q f) a
  pub of_star : {A : Type 0} {f : Form T K N V A} {a : A → ℕ} (most : Option ℕ) → Costed A f a → Costed (List A) (star most f) (summed a)
  pub of_ref : (n : N) → Costed (V n) (ref n) (own_cost n)

-- ---- ways to write a production

module _ {T K N : Type 0} {V : N → Type 0} {own_cost : (n : N) → V n → ℕ} {Costed : (A : Type 0) → Form T K N V A → (A → ℕ) → Type 0} (p : Costing own_cost Costed) where
  pub free_map : {A B : Type 0} {f : Form T K N V A} (h : A → B) → Costed _ f (λ v. 0) → Costed _ (map h f) (λ v. 0)
  free_map h l = p.of_map h (λ v. 0) l (λ v. refl)

  pub free_seq : {A B : Type 0} {f : Form T K N V A} {g : Form T K N V B} → Costed _ f (λ v. 0) → Costed _ g (λ v. 0) → Costed _ (seq f g) (λ v. 0)
  free_seq l m = p.of_same (λ v. 0) (p.of_seq l m) (λ v. refl)

  pub free_optional : {A : Type 0} {f : Form T K N V A} → Costed _ f (λ v. 0) → Costed _ (optional f) (λ v. 0)
  free_optional l = p.of_alt (free_map (λ v. Some v) l) (free_map (λ v. None) p.of_empty)

  from_zero : (c : ℕ) → c ≡ 0 + c
  from_zero c = omega arith

  to_zero : (c : ℕ) → c ≡ c + 0
  to_zero c = omega arith

  pub costed_skip_then : {A B : Type 0} {f : Form T K N V A} {g : Form T K N V B} {b : B → ℕ} → Costed _ f (λ v. 0) → Costed _ g b → Costed _ (skip_then f g) b
  costed_skip_then {b = b} l m = p.of_map (λ q. q.1) b (p.of_seq l m) (λ v. from_zero (b v.1))

  pub costed_then_skip : {A B : Type 0} {f : Form T K N V A} {g : Form T K N V B} {a : A → ℕ} → Costed _ f a → Costed _ g (λ v. 0) → Costed _ (then_skip f g) a
  costed_then_skip {a = a} l m = p.of_map (λ q. q.0) a (p.of_seq l m) (λ v. to_zero (a v.0))

  pub costed_optional : {A : Type 0} {f : Form T K N V A} {a : A → ℕ} → Costed _ f a → Costed _ (optional f) (optional_cost a)
  costed_optional {a = a} l = p.of_alt (p.of_map (λ v. Some v) (optional_cost a) l (λ v. refl)) (p.of_map (λ v. None) (optional_cost a) p.of_empty (λ v. refl))

  pub costed_separated : {A B : Type 0} {f : Form T K N V A} {g : Form T K N V B} {a : A → ℕ} (most : Option ℕ) → Costed _ g (λ v. 0) → Costed _ f a
      → Costed _ (separated most g f) (λ v. a v.0 + summed a v.1)
  costed_separated most m l = p.of_seq l (p.of_star most (costed_skip_then m l))
