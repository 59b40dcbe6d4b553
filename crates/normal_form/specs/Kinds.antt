-- The kinds of factors, and a product's factors put in the order of their kinds.
use Rattle.std.specs.Prelude.{Bool, true, false, if◌then◌else◌, filter, Option, Some, None, List, ◌++◌}
use Rattle.u_terms.specs.Syntax.{U, Squash as SquashOf, Not, Rel, Eq, Pred}
use Rattle.normal_form.specs.declared.kind.Kind.{Kind}
use Rattle.normal_form.specs.declared.kind.Kind.TheVariants.{Mark, Atom, Squash, Negation}

-- an equality or a predicate
unfoldable pub is_truth : U → Bool
is_truth (Eq a b) = true
is_truth (Pred symbol shape arguments) = true
is_truth _ = false

-- of no kind are 0, 1, sums, products and sums over values
unfoldable pub kind_of : U → Option Kind
kind_of (Eq a b) = Some Mark
kind_of (Pred symbol shape arguments) = Some Mark
kind_of (Rel table shape arguments) = Some Atom
kind_of (SquashOf a) = Some Squash
kind_of (Not a) = Some (if is_truth a then Mark else Negation)
kind_of _ = None

abbrev pub is_kind : Kind → Option Kind → Bool
is_kind Mark (Some Mark) = true
is_kind Atom (Some Atom) = true
is_kind Squash (Some Squash) = true
is_kind Negation (Some Negation) = true
is_kind _ _ = false

-- those of one kind, in their order
abbrev pub of_kind : Kind → List U → List U
of_kind kind = filter (λ u. is_kind kind (kind_of u))

-- all by their kinds; within a kind they keep their order
abbrev pub ordered : List U → List U
ordered factors = of_kind Mark factors ++ (of_kind Atom factors ++ (of_kind Squash factors ++ of_kind Negation factors))
