-- The last two of a row, joined.
use Rattle.std.proofs.Common.{◌≡◌, List, [], ◌∷◌, ◌++◌, refl, ap}
use Rattle.u_terms.specs.Syntax.{U}
use Rattle.u_terms.specs.declared.term.U.TheVariants as u
use Rattle.u_terms.specs.Products.{product_of}
use Rattle.normal_form.specs.NormalTerms.{sum_of}

pub product-last : (xs : List U) (f whole : U) → product_of ((xs ++ f ∷ []) ++ whole ∷ []) ≡ product_of (xs ++ u.Mul f whole ∷ [])
product-last [] f whole = refl
product-last (x ∷ []) f whole = refl
product-last (x ∷ y ∷ xs) f whole = ap (u.Mul x) (product-last (y ∷ xs) f whole)

pub sum-last : (xs : List U) (f whole : U) → sum_of ((xs ++ f ∷ []) ++ whole ∷ []) ≡ sum_of (xs ++ u.Add f whole ∷ [])
sum-last [] f whole = refl
sum-last (x ∷ []) f whole = refl
sum-last (x ∷ y ∷ xs) f whole = ap (u.Add x) (sum-last (y ∷ xs) f whole)

pub ruleset rows = (product-last, sum-last)
