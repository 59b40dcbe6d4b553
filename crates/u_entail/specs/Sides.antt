-- Links that lead from value to value by equalities among factors.
use Rattle.std.specs.Prelude.{◌≡◌, ℕ, ◌<◌, ◌^◌, Bool, true, false, List, [], ◌∷◌, Some, slice_get, length}
use Rattle.data_model.specs.Lists.{Each}
use Rattle.u_terms.specs.Syntax.{U, Val}
use Rattle.u_terms.specs.declared.term.Val.TheVariants as v
use Rattle.u_rules.specs.Terms.{◌≐◌}
use Rattle.u_moves.specs.Derivations.{IsKnown}
use Rattle.u_equal.specs.declared.link.Link.{Link}
use Rattle.u_equal.specs.declared.link.Link.TheVariants as link
use Rattle.u_equal.specs.Standing.{IsIn, standing}

-- from the one side of this factor, an equality, to its other side: from left to right, or turned
abbrev pub IsSide : List U → ℕ → Bool → Val → Val → Type 0
IsSide factors factor false a b = slice_get factors factor ≡ Some (a ≐ b)
IsSide factors factor true a b = slice_get factors factor ≡ Some (b ≐ a)

-- the value stands in one of the factors, outside every binder
pub record IsAmong (factors : List U) (a : Val) : Type 0 where
  pub place : ℕ
  pub factor : U
  pub at : slice_get factors place ≡ Some factor
  pub stands : IsIn a (standing factor)

mutual
  -- the links lead from the one value to the other, with calls in calls at most so deep
  pub data LeadsBy (factors : List U) : ℕ → Val → List Link → Val → Type 0 where
    at_end : (n : ℕ) (a : Val) → LeadsBy factors n a [] a
    along : (n : ℕ) (a b c : Val) (first : Link) (rest : List Link) → LinkLeads factors n a first b → LeadsBy factors n b rest c → LeadsBy factors n a (first ∷ rest) c

  pub data LinkLeads (factors : List U) : ℕ → Val → Link → Val → Type 0 where
    by_given : (n factor : ℕ) (turned : Bool) (a b : Val) → IsSide factors factor turned a b → LinkLeads factors n a (link.Given factor turned) b
    by_call : (m n f : ℕ) (xs ys : List Val) (pairs : List (List Link)) → m < n → IsAmong factors (v.Fun f xs) → IsAmong factors (v.Fun f ys) → LeadsEachBy factors m xs pairs ys
        → LinkLeads factors n (v.Fun f xs) (link.Call pairs) (v.Fun f ys)

  pub data LeadsEachBy (factors : List U) : ℕ → List Val → List (List Link) → List Val → Type 0 where
    at_last : (n : ℕ) → LeadsEachBy factors n [] [] []
    and_then : (n : ℕ) (a b : Val) (links : List Link) (xs ys : List Val) (pairs : List (List Link)) → LeadsBy factors n a links b → LeadsEachBy factors n xs pairs ys
        → LeadsEachBy factors n (a ∷ xs) (links ∷ pairs) (b ∷ ys)

-- no link leads from call to call
abbrev pub IsGivenLink : Link → Type 0
IsGivenLink l = (factor : ℕ) × (turned : Bool) × (l ≡ link.Given factor turned)

abbrev pub AreGiven : List Link → Type 0
AreGiven = Each IsGivenLink

-- ---- the factors
pub record AreFactors (outs : ℕ) (factors : List U) : Type 0 where
  pub known : Each (IsKnown 0 outs) factors
  pub few : length factors < 2 ^ 32

-- this factor is an equality with the value at the side that is left
pub record HasSide (factors : List U) (factor : ℕ) (turned : Bool) (a : Val) : Type 0 where
  pub to : Val
  pub is : IsSide factors factor turned a to
