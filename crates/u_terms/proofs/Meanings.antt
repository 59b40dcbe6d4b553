-- `meaning` at each constructor as code writes it, and of a list.
use Rattle.std.proofs.Common.{◌≡◌, ℕ, ◌+◌, ◌*◌, List, [], ◌∷◌, map, get_or, refl, ap}
use Rattle.std.specs.Prelude.{nat_eq}
use Rattle.data_model.specs.Numbers.{one_if, squash, negate, sum_below, list_below}
use Rattle.data_model.specs.Rows.{Row, occurrences}
use Rattle.data_model.specs.Reading.{Reading, literal_value, function_value, predicate_holds, aggregate_value}
use Rattle.data_model.specs.Database.{Database, table_rows}
use Rattle.u_terms.specs.declared.term.U.TheVariants as u
use Rattle.u_terms.specs.declared.term.Val.TheVariants as v
use Rattle.u_terms.specs.Syntax.{U, Val, row_of, constructors}
use Rattle.u_terms.specs.Meaning.{meaning, value_meaning, row_meaning}

module _ (n : ℕ) (reading : Reading) (db : Database) (names places : List ℕ) where
  abbrev pub list_meaning : List Val → Row
  list_meaning vs = map (value_meaning n reading db names places) vs

  pub row_meaning-list : (vs : List Val) → row_meaning n reading db names places (row_of vs) ≡ list_meaning vs
  unfolding meaning constructors
  row_meaning-list [] = refl
  row_meaning-list (v ∷ vs) = ap (λ (r : Row). value_meaning n reading db names places v ∷ r) (row_meaning-list vs)

  pub meaning-Zero : meaning n reading db names places u.Zero ≡ 0
  unfolding meaning constructors
  meaning-Zero = refl

  pub meaning-One : meaning n reading db names places u.One ≡ 1
  unfolding meaning constructors
  meaning-One = refl

  pub meaning-Add : (a b : U) → meaning n reading db names places (u.Add a b) ≡ meaning n reading db names places a + meaning n reading db names places b
  unfolding meaning constructors
  meaning-Add a b = refl

  pub meaning-Mul : (a b : U) → meaning n reading db names places (u.Mul a b) ≡ meaning n reading db names places a * meaning n reading db names places b
  unfolding meaning constructors
  meaning-Mul a b = refl

  pub meaning-Squash : (a : U) → meaning n reading db names places (u.Squash a) ≡ squash (meaning n reading db names places a)
  unfolding meaning constructors
  meaning-Squash a = refl

  pub meaning-Not : (a : U) → meaning n reading db names places (u.Not a) ≡ negate (meaning n reading db names places a)
  unfolding meaning constructors
  meaning-Not a = refl

  pub meaning-Sum : (body : U) → meaning n reading db names places (u.Sum body) ≡ sum_below n (λ v. meaning n reading db names (v ∷ places) body)
  unfolding meaning constructors
  meaning-Sum body = refl

  pub meaning-Rel : (table : ℕ) (vs : List Val) → meaning n reading db names places (u.Rel table vs) ≡ occurrences (list_meaning vs) (table_rows db table)
  unfolding meaning constructors
  meaning-Rel table vs = ap (λ (r : Row). occurrences r (table_rows db table)) (row_meaning-list vs)

  pub meaning-Eq : (a b : Val) → meaning n reading db names places (u.Eq a b)
      ≡ one_if (nat_eq (value_meaning n reading db names places a) (value_meaning n reading db names places b))
  unfolding meaning constructors
  meaning-Eq a b = refl

  pub meaning-Pred : (symbol : ℕ) (vs : List Val) → meaning n reading db names places (u.Pred symbol vs) ≡ one_if (predicate_holds reading symbol (list_meaning vs))
  unfolding meaning constructors
  meaning-Pred symbol vs = ap (λ (r : Row). one_if (predicate_holds reading symbol r)) (row_meaning-list vs)

  pub meaning-Bound : (place : ℕ) → value_meaning n reading db names places (v.Bound place) ≡ get_or places place 0
  unfolding meaning constructors
  meaning-Bound place = refl

  pub meaning-Free : (name : ℕ) → value_meaning n reading db names places (v.Free name) ≡ get_or names name 0
  unfolding meaning constructors
  meaning-Free name = refl

  pub meaning-Lit : (literal : ℕ) → value_meaning n reading db names places (v.Lit literal) ≡ literal_value reading literal
  unfolding meaning constructors
  meaning-Lit literal = refl

  pub meaning-Fun : (symbol : ℕ) (vs : List Val) → value_meaning n reading db names places (v.Fun symbol vs) ≡ function_value reading symbol (list_meaning vs)
  unfolding meaning constructors
  meaning-Fun symbol vs = ap (λ (r : Row). function_value reading symbol r) (row_meaning-list vs)

  pub meaning-Agg : (aggregate : ℕ) (body : U) → value_meaning n reading db names places (v.Agg aggregate body)
      ≡ aggregate_value reading aggregate (list_below n (λ v. meaning n reading db names (v ∷ places) body))
  unfolding meaning constructors
  meaning-Agg aggregate body = refl

pub ruleset meaning_at = (
  meaning-Zero,
  meaning-One,
  meaning-Add,
  meaning-Mul,
  meaning-Squash,
  meaning-Not,
  meaning-Sum,
  meaning-Rel,
  meaning-Eq,
  meaning-Pred,
  meaning-Bound,
  meaning-Free,
  meaning-Lit,
  meaning-Fun,
  meaning-Agg,
)
