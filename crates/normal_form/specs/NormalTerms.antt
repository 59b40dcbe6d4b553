-- The sum-product normal form (Chu, Murphy, Roesch, Cheung and Suciu, "Axiomatic Foundations and Algorithms for Deciding Semantic
-- Equivalences of SQL Queries", PVLDB 11(11), 2018, section 5): a sum of blocks, each a number of sums over a product of factors.
use Rattle.std.specs.Prelude.{◌≡◌, ℕ, ◌≤◌, false, List, [], ◌∷◌, ◌++◌, length}
use mathlib.Core.Former.{Count as Length}
use Rattle.u_terms.specs.declared.term.U.TheVariants as u
use Rattle.u_terms.specs.Syntax.{U, Squash as SquashOf, Not, Sum, Rel, Eq, Pred, Val, Bound, Free, Lit, Fun, Agg, Vals, NoVals, ValThen}
use Rattle.u_terms.specs.Products.{product_of}
use Rattle.normal_form.specs.declared.kind.Kind.{Kind}
use Rattle.normal_form.specs.declared.kind.Kind.TheVariants.{Mark, Atom, Squash, Negation}
use Rattle.normal_form.specs.Kinds.{is_truth}

-- the terms in order, to the right; of none it is 0
abbrev pub sum_of : List U → U
sum_of [] = u.Zero
sum_of (term ∷ []) = term
sum_of (term ∷ next ∷ rest) = u.Add term (sum_of (next ∷ rest))

mutual
  pub data IsNormal : U → Type 0 where
    sum_of_blocks : {u : U} (blocks : List U) → AreBlocks blocks → u ≡ sum_of blocks → IsNormal u

  pub data AreBlocks : List U → Type 0 where
    no_block : AreBlocks []
    block_then : {block : U} {rest : List U} → IsBlock block → AreBlocks rest → AreBlocks (block ∷ rest)

  -- sums over equalities and predicates, relations, at most one squash and at most one negation, in this order
  pub data IsBlock : U → Type 0 where
    sum_over : {body : U} → IsBlock body → IsBlock (Sum body)
    product_of_factors : {u : U} (marks atoms squashes negations : List U)
        → AreFactors Mark marks → AreFactors Atom atoms
        → AreFactors Squash squashes → length squashes ≤ 1
        → AreFactors Negation negations → length negations ≤ 1
        → u ≡ product_of (marks ++ (atoms ++ (squashes ++ negations)))
        → IsBlock u

  -- factors of one kind
  pub data AreFactors : Kind → List U → Type 0 where
    no_factor : {kind : Kind} → AreFactors kind []
    factor_then : {kind : Kind} {factor : U} {rest : List U} → IsFactor kind factor → AreFactors kind rest → AreFactors kind (factor ∷ rest)

  pub data IsFactor : Kind → U → Type 0 where
    equality : {a b : Val} → IsNormalValue a → IsNormalValue b → IsFactor Mark (Eq a b)
    predicate : {symbol : ℕ} {shape : _} {arguments : _} → AreNormalValues _ arguments → IsFactor Mark (Pred symbol shape arguments)
    no_equality : {a b : Val} → IsNormalValue a → IsNormalValue b → IsFactor Mark (Not (Eq a b))
    no_predicate : {symbol : ℕ} {shape : _} {arguments : _} → AreNormalValues _ arguments → IsFactor Mark (Not (Pred symbol shape arguments))
    relation : {table : ℕ} {shape : _} {arguments : _} → AreNormalValues _ arguments → IsFactor Atom (Rel table shape arguments)
    squash : {a : U} → IsNormal a → IsFactor Squash (SquashOf a)
    negation : {a : U} → IsNormal a → is_truth a ≡ false → IsFactor Negation (Not a)

  -- the bodies of aggregates are normal
  pub data IsNormalValue : Val → Type 0 where
    bound : {place : ℕ} → IsNormalValue (Bound place)
    free : {name : ℕ} → IsNormalValue (Free name)
    literal : {number : ℕ} → IsNormalValue (Lit number)
    call : {symbol : ℕ} {shape : _} {arguments : _} → AreNormalValues _ arguments → IsNormalValue (Fun symbol shape arguments)
    aggregate : {number : ℕ} {body : U} → IsNormal body → IsNormalValue (Agg number body)

  pub data AreNormalValues : (n : Length) → Vals n → Type 0 where
    no_value : AreNormalValues _ NoVals
    value_then : {n : Length} {value : Val} {rest : Vals n} → IsNormalValue value → AreNormalValues n rest → AreNormalValues _ (ValThen value rest)
