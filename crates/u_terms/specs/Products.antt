-- Products of lists of terms.
use Rattle.std.specs.Prelude.{List, [], ◌∷◌}
use Rattle.u_terms.specs.Syntax.{U}
use Rattle.u_terms.specs.declared.term.U.TheVariants as u

-- the factors in order, to the right; of none it is 1
abbrev pub product_of : List U → U
product_of [] = u.One
product_of (factor ∷ []) = factor
product_of (factor ∷ next ∷ rest) = u.Mul factor (product_of (next ∷ rest))
