-- What links lead to, and how many they are.
use Rattle.std.specs.Prelude.{ℕ, ◌+◌, ◌-◌, ◌^◌, ◌<◌, min, Bool, true, false, List, [], ◌∷◌}
use Rattle.u_terms.specs.Syntax.{U, Val, Eq}
use Rattle.u_terms.specs.declared.term.Val.TheVariants as v
use Rattle.u_equal.specs.declared.link.Link.{Link}
use Rattle.u_equal.specs.declared.link.Link.TheVariants as link
use Rattle.u_equal.specs.Standing.{Stands, IsIn}
use Rattle.u_equal.specs.Entails.{IsGiven}

mutual
  -- the links lead from a to b, one after the other
  pub data Leads (product : U) : Val → List Link → Val → Type 0 where
    no_link : (a : Val) → Leads product a [] a
    forth : (factor : ℕ) (a b c : Val) (rest : List Link) → IsGiven product factor a b → Leads product b rest c
        → Leads product a (link.Given factor false ∷ rest) c
    back : (factor : ℕ) (a b c : Val) (rest : List Link) → IsGiven product factor b a → Leads product b rest c
        → Leads product a (link.Given factor true ∷ rest) c
    called : (f : ℕ) (xs ys : List Val) (c : Val) (pairs : List (List Link)) (rest : List Link)
        → Stands (v.Fun f xs) product → Stands (v.Fun f ys) product → LeadsEach product xs pairs ys → Leads product (v.Fun f ys) rest c
        → Leads product (v.Fun f xs) (link.Call pairs ∷ rest) c

  pub data LeadsEach (product : U) : List Val → List (List Link) → List Val → Type 0 where
    no_pair : LeadsEach product [] [] []
    pair : (a b : Val) (links : List Link) (xs ys : List Val) (pairs : List (List Link)) → Leads product a links b → LeadsEach product xs pairs ys
        → LeadsEach product (a ∷ xs) (links ∷ pairs) (b ∷ ys)

-- ---- how many
mutual
  -- there are n links, those of arguments of calls too
  pub data HasCount : List Link → ℕ → Type 0 where
    nothing : HasCount [] 0
    given_more : (factor : ℕ) (turned : Bool) (rest : List Link) (n : ℕ) → HasCount rest n → HasCount (link.Given factor turned ∷ rest) (1 + n)
    call_more : (pairs : List (List Link)) (rest : List Link) (m n : ℕ) → HasCountEach pairs m → HasCount rest n → HasCount (link.Call pairs ∷ rest) (1 + m + n)

  pub data HasCountEach : List (List Link) → ℕ → Type 0 where
    no_list : HasCountEach [] 0
    list_more : (links : List Link) (pairs : List (List Link)) (m n : ℕ) → HasCount links m → HasCountEach pairs n → HasCountEach (links ∷ pairs) (m + n)

-- a number as a u64 tells it: one that is larger than the last value is told as that value
abbrev pub told : ℕ → ℕ
told n = min n (2 ^ 64 - 1)

-- ---- how deep
mutual
  -- calls are in calls at most so deep
  pub data Nests : ℕ → List Link → Type 0 where
    no_depth : (n : ℕ) → Nests n []
    given_within : (n factor : ℕ) (turned : Bool) (rest : List Link) → Nests n rest → Nests n (link.Given factor turned ∷ rest)
    call_within : (m n : ℕ) (pairs : List (List Link)) (rest : List Link) → m < n → NestsEach m pairs → Nests n rest → Nests n (link.Call pairs ∷ rest)

  pub data NestsEach : ℕ → List (List Link) → Type 0 where
    no_lists : (n : ℕ) → NestsEach n []
    lists_within : (n : ℕ) (links : List Link) (pairs : List (List Link)) → Nests n links → NestsEach n pairs → NestsEach n (links ∷ pairs)

-- ---- what bounds them
abbrev pub is_equality : U → Bool
is_equality (Eq a b) = true
is_equality _ = false

abbrev pub HasNoCall : List Val → Type 0
HasNoCall values = (f : ℕ) (xs : List Val) → IsIn (v.Fun f xs) values → ⊥
