-- Rules as data: what a side is for some arguments, and the row of a rule whose sides are data.
use Rattle.std.specs.Prelude.{ℕ, ◌≡◌, Bool, true, false, ◌&&◌, List, [], ◌∷◌, slice_get, Option, Some, None}
use Rattle.u_terms.specs.Syntax.{U, Val}
use Rattle.u_terms.specs.declared.term.Val.TheVariants as v
use Rattle.u_terms.specs.declared.facts.Facts.{Facts}
use Rattle.u_rules.specs.declared.rule.Arg.{Arg}
use Rattle.u_rules.specs.declared.rule.Arg.TheVariants.{Term, Body, Value, Values, Num}
use Rattle.u_rules.specs.declared.rule.Rule.{Rule}
use Rattle.u_rules.specs.declared.rule.Rule.TheVariants as rule
use Rattle.u_rules.specs.declared.forms.Side.{Side}
use Rattle.u_rules.specs.declared.forms.Side.TheVariants as side
use Rattle.u_rules.specs.declared.forms.Kind.{Kind}
use Rattle.u_rules.specs.declared.forms.Kind.TheVariants as kind
use Rattle.u_rules.specs.declared.forms.Template.{Template}
use Rattle.u_rules.specs.declared.table.Entry.{Entry}
use Rattle.u_rules.specs.declared.table.Entry.TheVariants as entry
use Rattle.u_rules.specs.Terms.{◌⊕◌, ◌⊗◌, ◌≐◌, O, I, sq, neg, S, P, put}
use Rattle.u_rules.specs.Rows.{Row, row, row_with, T, B, V, L, N}

-- ---- the arguments, each with a value that stands for one of another kind
abbrev pub term_of : Option Arg → U
term_of (Some (Term x)) = x
term_of (Some (Body x)) = x
term_of _ = O

abbrev pub value_of : Option Arg → Val
value_of (Some (Value a)) = a
value_of _ = v.Lit 0

abbrev pub values_of : Option Arg → List Val
values_of (Some (Values s)) = s
values_of _ = []

abbrev pub num_of : Option Arg → ℕ
num_of (Some (Num m)) = m
num_of _ = 0

-- ---- the term that a side is
abbrev pub denote : List Arg → Side → U
denote args side.Zero = O
denote args side.One = I
denote args (side.Add' p a q b) = denote args a ⊕ denote args b
denote args (side.Mul' p a q b) = denote args a ⊗ denote args b
denote args (side.Squash' p a) = sq (denote args a)
denote args (side.Not' p a) = neg (denote args a)
denote args (side.Sum' p a) = S (denote args a)
denote args (side.Hole i) = term_of (slice_get args i)
denote args (side.Put i j) = put (value_of (slice_get args j)) (term_of (slice_get args i))
denote args (side.Eq i j) = value_of (slice_get args i) ≐ value_of (slice_get args j)
denote args (side.PlaceEq j) = v.Bound 0 ≐ value_of (slice_get args j)
denote args (side.Pred i j) = P (num_of (slice_get args i)) (values_of (slice_get args j))

-- ---- the row of sides, for arguments of these kinds
abbrev pub by_kinds : List Kind → (List Arg → U) → (List Arg → U) → List Arg → Option Row
by_kinds [] l r = row_with None (l []) (r [])
by_kinds (kind.Term ∷ ks) l r = T (λ x. by_kinds ks (λ rest. l (Term x ∷ rest)) (λ rest. r (Term x ∷ rest)))
by_kinds (kind.Body ∷ ks) l r = B (λ x. by_kinds ks (λ rest. l (Body x ∷ rest)) (λ rest. r (Body x ∷ rest)))
by_kinds (kind.Value ∷ ks) l r = V (λ a. by_kinds ks (λ rest. l (Value a ∷ rest)) (λ rest. r (Value a ∷ rest)))
by_kinds (kind.Values ∷ ks) l r = L (λ s. by_kinds ks (λ rest. l (Values s ∷ rest)) (λ rest. r (Values s ∷ rest)))
by_kinds (kind.Num ∷ ks) l r = N (λ m. by_kinds ks (λ rest. l (Num m ∷ rest)) (λ rest. r (Num m ∷ rest)))

abbrev pub template_row : Template → List Arg → Option Row
template_row t = by_kinds t.kinds.now (λ args. denote args t.left) (λ args. denote args t.right)

-- what the table says of a rule
abbrev pub IsEntry : Rule → Entry → Type 0
IsEntry q (entry.Plain t) = (F : Facts) (args : List Arg) → row F q args ≡ template_row t.now args
IsEntry q entry.SumSwap = q ≡ rule.SumSwap
IsEntry q entry.Key = q ≡ rule.Key
IsEntry q entry.Fkey = q ≡ rule.Fkey

-- ---- whether the arguments are of these kinds: contracts of private functions alone cite this
abbrev pub is_of : Kind → Arg → Bool
is_of kind.Term (Term x) = true
is_of kind.Body (Body x) = true
is_of kind.Value (Value a) = true
is_of kind.Values (Values s) = true
is_of kind.Num (Num m) = true
is_of _ _ = false

abbrev pub fits : List Kind → List Arg → Bool
fits [] [] = true
fits [] (a ∷ args) = false
fits (k ∷ ks) [] = false
fits (k ∷ ks) (a ∷ args) = is_of k a && fits ks args
