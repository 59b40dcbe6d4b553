-- A rule has one instance at most for some arguments, and none where there is a reason against it.
use Rattle.std.proofs.Common.{◌≡◌, List, Option, Some, None, ap, sym, ◌∙◌, subst}
use Rattle.u_terms.specs.Syntax.{U}
use Rattle.u_terms.specs.declared.facts.Facts.{Facts}
use Rattle.u_rules.specs.declared.rule.Arg.{Arg}
use Rattle.u_rules.specs.declared.rule.Rule.{Rule}
use Rattle.u_rules.specs.declared.rule.Why.{Why}
use Rattle.u_rules.specs.declared.rule.Why.TheVariants as why
use Rattle.u_rules.specs.declared.faults.Misfit.{Misfit}
use Rattle.u_rules.specs.Answers.{fault_of}
use Rattle.u_rules.specs.Rows.{Row, row, LeavesAgree, Instance}
use Rattle.u_rules.specs.Sides.{HasRow, Refused}
use Rattle.u_rules.proofs.arguments.TemplatesAt.{row-sides}

pub one-instance : (F : Facts) (q : Rule) (args : List Arg) (l r x y : U) → Instance F q args l r → Instance F q args x y → (l ≡ x) × (r ≡ y)
one-instance F q args l r x y i j = row-sides (row F q args) l r x y i.row j.row

misfit-none : (F : Facts) (q : Rule) (args : List Arg) (w : Misfit) (l r x y : U) → HasRow F q args (Some w) l r → Instance F q args x y → ⊥
misfit-none F q args w l r x y has i = never (ap fault_of (sym has.row ∙ i.row))
  where
    never : Some w ≡ None → ⊥
    never e = cc

pub refused-none : (F : Facts) (q : Rule) (args : List Arg) (w : Why) (l r : U) → Refused F q args w → Instance F q args l r → ⊥
refused-none F q args why.ArgKinds l r h i = never (sym h ∙ i.row)
  where
    never : ◌≡◌ {A = Option Row} None (Some (record { fault = None; left = l; right = r })) → ⊥
    never e = cc
refused-none F q args why.NotClosed l r h i = h.2 i.closed
refused-none F q args why.LeavesDiffer l r h i =
    let e = row-sides (row F q args) l r h.0 h.1 i.row h.2.row in
    h.3 (subst (λ x. LeavesAgree q x h.1) e.0 (subst (λ y. LeavesAgree q l y) e.1 i.leaves))
refused-none F q args why.ZeroCount l r h i = misfit-none F q args h.0 h.2 h.3 l r h.4 i
refused-none F q args why.NoSuchTable l r h i = misfit-none F q args h.0 h.2 h.3 l r h.4 i
refused-none F q args why.NoSuchKey l r h i = misfit-none F q args h.0 h.2 h.3 l r h.4 i
refused-none F q args why.NoSuchFkey l r h i = misfit-none F q args h.0 h.2 h.3 l r h.4 i
refused-none F q args why.WidthDiffers l r h i = misfit-none F q args h.0 h.2 h.3 l r h.4 i

pub ruleset laws = (one-instance, refused-none)
