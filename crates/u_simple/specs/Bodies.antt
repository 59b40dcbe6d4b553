-- Aggregates that stand in values. Contracts of private functions alone cite this.
use Rattle.std.specs.Prelude.{◌≡◌, ℕ, List, [], ◌∷◌, ◌++◌, length}
use Rattle.u_terms.specs.declared.term.Val.TheVariants as v
use Rattle.u_terms.specs.Syntax.{U, Val}

-- From argument to argument, each counted from 0, the path leads to an aggregate with this body.
mutual
  pub data LeadsToBody (body : U) : List ℕ → Val → Type 0 where
    at_aggregate : {value : Val} (number : ℕ) → value ≡ v.Agg number body → LeadsToBody body [] value
    in_function : {path : List ℕ} {value : Val} (symbol : ℕ) (arguments : List Val) → value ≡ v.Fun symbol arguments → RowLeadsToBody body path arguments
        → LeadsToBody body path value

  pub data RowLeadsToBody (body : U) : List ℕ → List Val → Type 0 where
    at_argument : {index : ℕ} {path : List ℕ} {arguments : List Val} (before after : List Val) (value : Val) → index ≡ length before
        → arguments ≡ before ++ value ∷ after → LeadsToBody body path value → RowLeadsToBody body (index ∷ path) arguments
