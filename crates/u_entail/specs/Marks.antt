-- A mark among the factors, put behind them once more.
use Rattle.std.specs.Prelude.{◌≡◌, ℕ, ◌+◌, ◌*◌, ◌≤◌, List, [], ◌∷◌, ◌++◌, Some, length, slice_get, take, drop}
use Rattle.u_terms.specs.Syntax.{U, Val}
use Rattle.u_terms.specs.Size as size
use Rattle.u_terms.specs.Products.{product_of}
use Rattle.u_terms.specs.declared.facts.Facts.{Facts}
use Rattle.u_rules.specs.Terms.{◌⊗◌, P, neg}
use Rattle.u_moves.specs.Derivations.{Derivation}
use Rattle.u_entail.specs.Spines.{spine}
use Rattle.u_entail.specs.Gaining.{IsLean, LeadsBetween}

-- a predicate or a negation: each is its own square
pub data IsMark : U → Type 0 where
  holds : (symbol : ℕ) (points : List Val) → IsMark (P symbol points)
  fails : (x : U) → IsMark (neg x)

-- the factor at the place is the mark
pub record HasMark (factors : List U) (place : ℕ) : Type 0 where
  pub mark : U
  pub at : slice_get factors place ≡ Some mark
  pub is : IsMark mark

-- behind the factors stands the mark once more
pub record IsAgain (facts : Facts) (outs : ℕ) (factors : List U) (mark : U) (d : Derivation) : Type 0 where
  pub leads : LeadsBetween facts outs (product_of factors) (product_of (factors ++ mark ∷ [])) d
  pub steps : length d.steps ≡ 4
  pub nodes : d.nodes ≤ 2 * size.nodes (product_of factors) + 2
  pub depth : d.depth ≤ length factors + size.depth (product_of factors) + 1
  pub lean : IsLean (product_of (factors ++ mark ∷ [])) 1 d

pub record StandsAgain (facts : Facts) (outs : ℕ) (factors : List U) (place : ℕ) (d : Derivation) : Type 0 where
  pub each : (mark : U) → slice_get factors place ≡ Some mark → IsAgain facts outs factors mark d

-- ---- private functions alone cite this
abbrev pub without : ℕ → List U → List U
without place factors = take place factors ++ drop (place + 1) factors

-- the mark, and the factors but for it
pub record IsParted (factors others : List U) (place : ℕ) (mark : U) : Type 0 where
  pub at : slice_get factors place ≡ Some mark
  pub rest : others ≡ without place factors
  pub is : IsMark mark

-- the mark stands twice
pub record IsDoubled (facts : Facts) (outs : ℕ) (mark : U) (d : Derivation) : Type 0 where
  pub leads : LeadsBetween facts outs mark (mark ⊗ mark) d
  pub steps : length d.steps ≡ 2
  pub nodes : d.nodes ≤ 2 * size.nodes mark + 2
  pub depth : d.depth ≤ size.depth mark + 2

-- it does so behind the other factors
pub record IsDoubledBehind (facts : Facts) (outs : ℕ) (factors others : List U) (mark : U) (d : Derivation) : Type 0 where
  pub leads : LeadsBetween facts outs (product_of factors) (spine others (mark ⊗ mark)) d
  pub steps : length d.steps ≡ 3
  pub lean : IsLean (spine factors mark) 1 d
