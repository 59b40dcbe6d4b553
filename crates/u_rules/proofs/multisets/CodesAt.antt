-- Codes at each constructor as code writes it, and of a list.
use Rattle.std.proofs.Common.{◌≡◌, ℕ, List, [], ◌∷◌, ◌++◌, refl, ap}
use Rattle.std.proofs.lemmas.List.{append-nil, append_assoc}
use Rattle.u_terms.specs.declared.term.U.TheVariants as u
use Rattle.u_terms.specs.declared.term.Val.TheVariants as v
use Rattle.u_terms.specs.Syntax.{U, Val, row_of, constructors}
use Rattle.u_rules.specs.Codes.{code, value_code, row_code, list_code}

pub row_code-list : (vs : List Val) → row_code (row_of vs) ≡ list_code vs
unfolding code constructors
row_code-list [] = refl
row_code-list (v ∷ vs) = ap (λ (rest : List ℕ). 1 ∷ (value_code v ++ rest)) (row_code-list vs)

pub code-Zero : code u.Zero ≡ 0 ∷ []
unfolding code constructors
code-Zero = refl

pub code-One : code u.One ≡ 1 ∷ []
unfolding code constructors
code-One = refl

pub code-Add : (a b : U) → code (u.Add a b) ≡ 2 ∷ (code a ++ code b)
unfolding code constructors
code-Add a b = refl

pub code-Mul : (a b : U) → code (u.Mul a b) ≡ 3 ∷ (code a ++ code b)
unfolding code constructors
code-Mul a b = refl

pub code-Squash : (a : U) → code (u.Squash a) ≡ 4 ∷ code a
unfolding code constructors
code-Squash a = refl

pub code-Not : (a : U) → code (u.Not a) ≡ 5 ∷ code a
unfolding code constructors
code-Not a = refl

pub code-Sum : (body : U) → code (u.Sum body) ≡ 6 ∷ code body
unfolding code constructors
code-Sum body = refl

pub code-Rel : (table : ℕ) (vs : List Val) → code (u.Rel table vs) ≡ 7 ∷ (table ∷ list_code vs)
unfolding code constructors
code-Rel table vs = ap (λ (row : List ℕ). 7 ∷ (table ∷ row)) (row_code-list vs)

pub code-Eq : (a b : Val) → code (u.Eq a b) ≡ 8 ∷ (value_code a ++ value_code b)
unfolding code constructors
code-Eq a b = refl

pub code-Pred : (symbol : ℕ) (vs : List Val) → code (u.Pred symbol vs) ≡ 9 ∷ (symbol ∷ list_code vs)
unfolding code constructors
code-Pred symbol vs = ap (λ (row : List ℕ). 9 ∷ (symbol ∷ row)) (row_code-list vs)

pub code-Bound : (place : ℕ) → value_code (v.Bound place) ≡ 0 ∷ (place ∷ [])
unfolding code constructors
code-Bound place = refl

pub code-Free : (name : ℕ) → value_code (v.Free name) ≡ 1 ∷ (name ∷ [])
unfolding code constructors
code-Free name = refl

pub code-Lit : (literal : ℕ) → value_code (v.Lit literal) ≡ 2 ∷ (literal ∷ [])
unfolding code constructors
code-Lit literal = refl

pub code-Fun : (symbol : ℕ) (vs : List Val) → value_code (v.Fun symbol vs) ≡ 3 ∷ (symbol ∷ list_code vs)
unfolding code constructors
code-Fun symbol vs = ap (λ (row : List ℕ). 3 ∷ (symbol ∷ row)) (row_code-list vs)

pub code-Agg : (aggregate : ℕ) (body : U) → value_code (v.Agg aggregate body) ≡ 4 ∷ (aggregate ∷ code body)
unfolding code constructors
code-Agg aggregate body = refl

pub ruleset codes_at = (
  code-Zero,
  code-One,
  code-Add,
  code-Mul,
  code-Squash,
  code-Not,
  code-Sum,
  code-Rel,
  code-Eq,
  code-Pred,
  code-Bound,
  code-Free,
  code-Lit,
  code-Fun,
  code-Agg,
)

-- for the code that appends codes
pub ruleset writing = (codes_at, append-nil, append_assoc)
