-- The standing values at each constructor as code writes it.
use Rattle.std.proofs.Common.{◌≡◌, ℕ, List, [], ◌∷◌, ◌++◌, refl, ap, flat_map}
use Rattle.std.proofs.lemmas.List.{append-nil, append_assoc, map-append}
use Rattle.u_terms.specs.declared.term.U.TheVariants as u
use Rattle.u_terms.specs.declared.term.Val.TheVariants as v
use Rattle.u_terms.specs.Syntax.{U, Val, row_of, constructors}
use Rattle.u_equal.specs.Standing.{standing, value_standing, row_standing}

pub row_standing-list : (vs : List Val) → row_standing (row_of vs) ≡ flat_map value_standing vs
unfolding standing constructors
row_standing-list [] = refl
row_standing-list (v ∷ vs) = ap (λ (rest : List Val). value_standing v ++ rest) (row_standing-list vs)

pub standing-Zero : standing u.Zero ≡ []
unfolding standing constructors
standing-Zero = refl

pub standing-One : standing u.One ≡ []
unfolding standing constructors
standing-One = refl

pub standing-Add : (a b : U) → standing (u.Add a b) ≡ standing a ++ standing b
unfolding standing constructors
standing-Add a b = refl

pub standing-Mul : (a b : U) → standing (u.Mul a b) ≡ standing a ++ standing b
unfolding standing constructors
standing-Mul a b = refl

pub standing-Squash : (a : U) → standing (u.Squash a) ≡ standing a
unfolding standing constructors
standing-Squash a = refl

pub standing-Not : (a : U) → standing (u.Not a) ≡ standing a
unfolding standing constructors
standing-Not a = refl

pub standing-Sum : (body : U) → standing (u.Sum body) ≡ []
unfolding standing constructors
standing-Sum body = refl

pub standing-Rel : (table : ℕ) (vs : List Val) → standing (u.Rel table vs) ≡ flat_map value_standing vs
unfolding standing constructors
standing-Rel table vs = row_standing-list vs

pub standing-Eq : (a b : Val) → standing (u.Eq a b) ≡ value_standing a ++ value_standing b
unfolding standing constructors
standing-Eq a b = refl

pub standing-Pred : (symbol : ℕ) (vs : List Val) → standing (u.Pred symbol vs) ≡ flat_map value_standing vs
unfolding standing constructors
standing-Pred symbol vs = row_standing-list vs

pub standing-Fun : (symbol : ℕ) (vs : List Val) → value_standing (v.Fun symbol vs) ≡ flat_map value_standing vs ++ v.Fun symbol vs ∷ []
unfolding standing constructors
standing-Fun symbol vs = ap (λ (rest : List Val). rest ++ v.Fun symbol vs ∷ []) (row_standing-list vs)

pub standing-Bound : (place : ℕ) → value_standing (v.Bound place) ≡ v.Bound place ∷ []
unfolding standing constructors
standing-Bound place = refl

pub standing-Free : (name : ℕ) → value_standing (v.Free name) ≡ v.Free name ∷ []
unfolding standing constructors
standing-Free name = refl

pub standing-Lit : (literal : ℕ) → value_standing (v.Lit literal) ≡ v.Lit literal ∷ []
unfolding standing constructors
standing-Lit literal = refl

pub standing-Agg : (aggregate : ℕ) (body : U) → value_standing (v.Agg aggregate body) ≡ v.Agg aggregate body ∷ []
unfolding standing constructors
standing-Agg aggregate body = refl

pub ruleset standing_at = (standing-Zero, standing-One, standing-Add, standing-Mul, standing-Squash, standing-Not, standing-Sum, standing-Rel, standing-Eq, standing-Pred, standing-Fun, standing-Bound, standing-Free, standing-Lit, standing-Agg)

pub ruleset gathering = (standing_at, append-nil, append_assoc, map-append)
