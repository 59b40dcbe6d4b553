-- The terms of trees as code builds them.
use Rattle.std.proofs.Common.{◌≡◌, ℕ, zero, suc, ◌+◌, ◌<◌, ◌≤◌, List, [], ◌∷◌, ◌++◌, length, drop, get_or, refl, ap, sym, ◌∙◌, arith}
use Rattle.std.proofs.lemmas.List.{append-nil, append_assoc}
use Rattle.u_terms.specs.Syntax.{U}
use Rattle.u_terms.specs.declared.term.U.TheVariants as u
use Rattle.u_terms.specs.declared.term.Val.TheVariants as v
use Rattle.scope_core.specs.declared.tree.REntry.{REntry}
use Rattle.scope_core.specs.Compute.{everything}
use Rattle.scope_core.proofs.basics.Lists.{at-head, at-end}
use Rattle.sql_to_u.specs.TermLists.{firsts_listed}
use Rattle.sql_to_u.specs.Factors.{sum_of, names_from}
use Rattle.u_terms.specs.Products.{product_of}

pub product-last : (xs : List U) (f whole : U) → product_of ((xs ++ f ∷ []) ++ whole ∷ []) ≡ product_of (xs ++ u.Mul f whole ∷ [])
product-last [] f whole = refl
product-last (x ∷ []) f whole = refl
product-last (x ∷ y ∷ xs) f whole = ap (u.Mul x) (product-last (y ∷ xs) f whole)

pub sum-last : (xs : List U) (f whole : U) → sum_of ((xs ++ f ∷ []) ++ whole ∷ []) ≡ sum_of (xs ++ u.Add f whole ∷ [])
sum-last [] f whole = refl
sum-last (x ∷ []) f whole = refl
sum-last (x ∷ y ∷ xs) f whole = ap (u.Add x) (sum-last (y ∷ xs) f whole)

pub ruleset products = (product-last, sum-last)

pub names-more : (first count : ℕ) → names_from first (count + 1) ≡ names_from first count ++ v.Free (first + count) ∷ []
names-more first count = let e : count + 1 ≡ suc count = omega arith in rw e (by first count)
  where
    by : (first count : ℕ) → names_from first (suc count) ≡ names_from first count ++ v.Free (first + count) ∷ []
    by first zero = let e : first + 0 ≡ first = omega arith in ap (λ n. v.Free n ∷ []) (sym e)
    by first (suc count) =
        let e : (first + 1) + count ≡ first + suc count = omega arith in
        ap (λ r. v.Free first ∷ r) (by (first + 1) count ∙ ap (λ n. names_from (first + 1) count ++ v.Free n ∷ []) e)

pub ruleset rows = (names-more)

-- ---- names of entries
firsts-cons : (e : REntry) (es : List REntry) (first : ℕ) → firsts_listed (e ∷ es) first ≡ first ∷ firsts_listed es (first + e.width)
unfolding everything firsts_listed
firsts-cons e es first = refl

firsts-nil : (first : ℕ) → firsts_listed [] first ≡ []
unfolding everything firsts_listed
firsts-nil first = refl

pub firsts-step : (es : List REntry) (i : ℕ) (e : REntry) (name : ℕ) (made made' whole : List ℕ) → i < length es → e ≡ get_or es i e → made' ≡ made ++ name ∷ []
    → made ++ firsts_listed (drop i es) name ≡ whole → made' ++ firsts_listed (drop (i + 1) es) (name + e.width) ≡ whole
firsts-step es i e name made made' whole h is step invariant =
    rw step (append_assoc made (name ∷ []) (firsts_listed (drop (i + 1) es) (name + e.width))
    ∙ ap (λ r. made ++ r) (sym (at-head (λ xs. firsts_listed xs name) es i e h is ∙ firsts-cons e (drop (i + 1) es) name)) ∙ invariant)

pub firsts-end : (es : List REntry) (i name : ℕ) (made whole : List ℕ) → length es ≤ i → made ++ firsts_listed (drop i es) name ≡ whole → made ≡ whole
firsts-end es i name made whole h invariant =
    sym (append-nil made) ∙ (ap (λ r. made ++ r) (sym (at-end (λ xs. firsts_listed xs name) es i h ∙ firsts-nil name)) ∙ invariant)

pub ruleset firsts = (firsts-step, firsts-end)
