-- The free names of a term.
use Rattle.std.specs.Prelude.{ℕ, ◌+◌, ◌<◌, ◌≢◌, max, List, fold}
use Rattle.u_terms.specs.Syntax.{U, Zero, One, Add, Mul, Squash, Not, Sum, Rel, Eq, Pred, Val, Bound, Free, Lit, Fun, Agg, Vals, NoVals, ValThen}

-- P holds of each free name
module _ (P : ℕ → Type 0) where
  unfoldable mutual
    pub EachName : U → Type 0
    EachName Zero = Unit {0}
    EachName One = Unit {0}
    EachName (Add a b) = EachName a × EachName b
    EachName (Mul a b) = EachName a × EachName b
    EachName (Squash a) = EachName a
    EachName (Not a) = EachName a
    EachName (Sum body) = EachName body
    EachName (Rel table shape arguments) = EachNameRow arguments
    EachName (Eq a b) = EachNameValue a × EachNameValue b
    EachName (Pred symbol shape arguments) = EachNameRow arguments

    pub EachNameValue : Val → Type 0
    EachNameValue (Bound place) = Unit {0}
    EachNameValue (Free name) = P name
    EachNameValue (Lit literal) = Unit {0}
    EachNameValue (Fun symbol shape arguments) = EachNameRow arguments
    EachNameValue (Agg aggregate body) = EachName body

    pub EachNameRow : {n : _} → Vals n → Type 0
    EachNameRow NoVals = Unit {0}
    EachNameRow (ValThen value rest) = EachNameValue value × EachNameRow rest

abbrev pub IsFreeBelow : ℕ → U → Type 0
IsFreeBelow bound = EachName (λ name. name < bound)

abbrev pub IsFreeBelowValue : ℕ → Val → Type 0
IsFreeBelowValue bound = EachNameValue (λ name. name < bound)

abbrev pub IsUnused : ℕ → U → Type 0
IsUnused name = EachName (λ other. other ≢ name)

-- one more than the greatest free name, and 0 where there is none
unfoldable mutual
  pub fresh : U → ℕ
  fresh Zero = 0
  fresh One = 0
  fresh (Add a b) = max (fresh a) (fresh b)
  fresh (Mul a b) = max (fresh a) (fresh b)
  fresh (Squash a) = fresh a
  fresh (Not a) = fresh a
  fresh (Sum body) = fresh body
  fresh (Rel table shape arguments) = row_fresh arguments
  fresh (Eq a b) = max (value_fresh a) (value_fresh b)
  fresh (Pred symbol shape arguments) = row_fresh arguments

  pub value_fresh : Val → ℕ
  value_fresh (Bound place) = 0
  value_fresh (Free name) = name + 1
  value_fresh (Lit literal) = 0
  value_fresh (Fun symbol shape arguments) = row_fresh arguments
  value_fresh (Agg aggregate body) = fresh body

  pub row_fresh : {n : _} → Vals n → ℕ
  row_fresh NoVals = 0
  row_fresh (ValThen value rest) = max (value_fresh value) (row_fresh rest)

-- the same of a list of values, as code holds it
abbrev pub list_fresh : List Val → ℕ
list_fresh = fold (λ most value. max most (value_fresh value)) 0
