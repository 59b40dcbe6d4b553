-- Tests of kinds that compute, and what follows from them.
use Rattle.std.proofs.Common.{◌≡◌, Bool, true, false, not, ◌&&◌, ◌||◌, List, refl}
use Rattle.grammar.specs.Lookahead.{AreAll, are_apart, is_inside}

pub or_left : (a b : Bool) → a ≡ true → (a || b) ≡ true
or_left true b e = refl
or_left false b e = cc

pub or_right : (a b : Bool) → b ≡ true → (a || b) ≡ true
or_right true b e = refl
or_right false b e = e

pub and_both : (a b : Bool) → a ≡ true → b ≡ true → (a && b) ≡ true
and_both true b e f = f
and_both false b e f = cc

pub and_left : (a b : Bool) → (a && b) ≡ true → a ≡ true
and_left true b e = refl
and_left false b e = cc

pub and_right : (a b : Bool) → (a && b) ≡ true → b ≡ true
and_right true b e = e
and_right false b e = cc

pub not_both : (a : Bool) → not a ≡ true → a ≡ true → ⊥
not_both true e f = cc
not_both false e f = cc

pub implied : (a b : Bool) → (not a || b) ≡ true → a ≡ true → b ≡ true
implied true b e f = e
implied false b e f = cc

module _ {K : Type 0} (kinds : List K) (all : AreAll kinds) (f g : K → Bool) where
  pub apart : are_apart kinds f g ≡ true → (k : K) → f k ≡ true → g k ≡ true → ⊥
  apart e k p q = not_both (f k && g k) (all (λ x. not (f x && g x)) e k) (and_both (f k) (g k) p q)

  pub inside : is_inside kinds f g ≡ true → (k : K) → f k ≡ true → g k ≡ true
  inside e k p = implied (f k) (g k) (all (λ x. not (f x) || g x) e k) p
