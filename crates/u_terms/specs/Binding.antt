-- Opening puts a value at the dangling place 0, and closing puts places for names (Charguéraud, "The Locally Nameless Representation",
-- Journal of Automated Reasoning 49, 2012). Other dangling places stay as they are: nothing is shifted.
use Rattle.std.specs.Prelude.{ℕ, zero, suc, ◌+◌, ◌-◌, nat_eq, nat_le, nat_lt, ◌&&◌, if◌then◌else◌, List, [], ◌∷◌, length}
use Rattle.u_terms.specs.declared.term.U.TheVariants as u
use Rattle.u_terms.specs.Syntax.{U, Zero, One, Add, Mul, Squash, Not, Sum, Rel, Eq, Pred, Val, Bound, Free, Lit, Fun, Agg, Vals, NoVals, ValThen}
use Rattle.u_terms.specs.Meaning.{put}

-- the term with other values at its places and names, each told how many binders stand around it, those outside the term included
module _ (at_place at_name : ℕ → ℕ → Val) where
  unfoldable mutual
    pub mapped : ℕ → U → U
    mapped k Zero = Zero
    mapped k One = One
    mapped k (Add a b) = Add (mapped k a) (mapped k b)
    mapped k (Mul a b) = Mul (mapped k a) (mapped k b)
    mapped k (Squash a) = Squash (mapped k a)
    mapped k (Not a) = Not (mapped k a)
    mapped k (Sum body) = Sum (mapped (k + 1) body)
    mapped k (Rel table shape arguments) = Rel table shape (mapped_row k arguments)
    mapped k (Eq a b) = Eq (mapped_value k a) (mapped_value k b)
    mapped k (Pred symbol shape arguments) = Pred symbol shape (mapped_row k arguments)

    pub mapped_value : ℕ → Val → Val
    mapped_value k (Bound place) = at_place k place
    mapped_value k (Free name) = at_name k name
    mapped_value k (Lit literal) = Lit literal
    mapped_value k (Fun symbol shape arguments) = Fun symbol shape (mapped_row k arguments)
    mapped_value k (Agg aggregate body) = Agg aggregate (mapped (k + 1) body)

    pub mapped_row : {n : _} → ℕ → Vals n → Vals n
    mapped_row k NoVals = NoVals
    mapped_row k (ValThen value rest) = ValThen (mapped_value k value) (mapped_row k rest)

-- ---- what is put at a place, and at a name
abbrev pub same_place : ℕ → ℕ → Val
same_place k place = Bound place

abbrev pub same_name : ℕ → ℕ → Val
same_name k name = Free name

-- a closed value, for the place that dangles as 0
abbrev pub value_for_place : Val → ℕ → ℕ → Val
value_for_place value k place = if nat_eq place k then value else Bound place

-- the place that dangles as 0, for name x
abbrev pub place_for_name : ℕ → ℕ → ℕ → Val
place_for_name x k name = if nat_eq name x then Bound k else Free name

-- the places that dangle as 0 to count - 1, for the names from first on: the last name is the innermost and has place 0
abbrev pub place_for_names : ℕ → ℕ → ℕ → ℕ → Val
place_for_names first count k name =
    if nat_le first name && nat_lt name (first + count) then Bound (k + (first + count - 1 - name)) else Free name

-- ---- opening and closing
abbrev pub opened_with : U → Val → U
opened_with u value = mapped (value_for_place value) same_name 0 u

abbrev pub opened : U → ℕ → U
opened u x = opened_with u (Free x)

-- the term after name x is closed
abbrev pub closed_at : U → ℕ → U
closed_at u x = mapped same_place (place_for_name x) 0 u

-- the term after the names from first on are closed, all at once
abbrev pub closed_path : U → ℕ → ℕ → U
closed_path u first count = mapped same_place (place_for_names first count) 0 u

-- ---- under binders
-- sums around a term
abbrev pub sums : ℕ → U → U
sums zero body = body
sums (suc count) body = u.Sum (sums count body)

-- the sum over all values of the names from first on, closed one by one: the last name is the innermost
abbrev pub sums_over_names : ℕ → ℕ → U → U
sums_over_names first zero body = body
sums_over_names first (suc count) body = u.Sum (closed_at (sums_over_names (first + 1) count body) first)

-- the values of the names, with the names from first on being the values of these places, the innermost first
abbrev pub put_path : List ℕ → ℕ → List ℕ → List ℕ
put_path names first [] = names
put_path names first (v ∷ outer) = put (put_path names first outer) (first + length outer) v
