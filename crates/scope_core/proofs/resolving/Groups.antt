-- Columns of GROUP BY as code resolves them.
use Rattle.std.proofs.Common.{◌≡◌, ℕ, ◌+◌, ◌<◌, ◌≤◌, Bool, true, false, List, [], ◌∷◌, length, drop, get_or, Option, Some, None, refl, ap, sym, ◌∙◌, not}
use Rattle.std.specs.Prelude.{◌||◌, if◌then◌else◌, is_some}
use Rattle.std.specs.Option.{option_or}
use Rattle.sql_model.specs.Syntax as n
use Rattle.sql_model.specs.declared.tree.Expr.TheVariants as expr
use Rattle.sql_model.specs.Headings.{Heading}
use Rattle.scope_core.specs.declared.fault.ScopeFault.{ScopeFault}
use Rattle.scope_core.specs.declared.fault.ScopeFault.TheVariants as fault
use Rattle.scope_core.specs.declared.fault.ScopeCode.TheVariants as code
use Rattle.scope_core.specs.Answer.{IsCause}
use Rattle.scope_core.specs.Compute.{resolving}
use Rattle.scope_core.specs.Faults.{block_meant, is_here, lacks_column, names_two}
use Rattle.scope_core.specs.FirstFault.{refused}
use Rattle.scope_core.specs.Parts.{group_fault, columns_fault, places_listed}
use Rattle.scope_core.specs.Scope.{Levels, place_in, group_place}
use Rattle.scope_core.specs.Sites.{AGroupColumn}
use Rattle.scope_core.proofs.basics.Lists.{at-head, at-end}
use Rattle.scope_core.proofs.resolving.Columns.{causes, cause-is, alias_is_known}

module _ (levels : Levels) where
  group-Lit : (lit at : ℕ) → group_fault levels (expr.Lit lit at) ≡ Some (fault.Refused code.UnknownColumn at 0 0)
  unfolding resolving group_fault
  group-Lit lit at = refl

  pub cause-group-Lit : (f : ScopeFault) (lit at : ℕ) → f ≡ fault.Refused code.UnknownColumn at 0 0 → IsCause f (group_fault levels (expr.Lit lit at))
  cause-group-Lit f lit at e = cause-is f _ (group-Lit lit at ∙ ap (λ x. Some x) (sym e))

  group-Fun : (symbol : ℕ) (args : List n.Expr) (at : ℕ) → group_fault levels (expr.Fun symbol args at) ≡ Some (fault.Refused code.UnknownColumn at 0 0)
  unfolding resolving group_fault
  group-Fun symbol args at = refl

  pub cause-group-Fun : (f : ScopeFault) (symbol : ℕ) (args : List n.Expr) (at : ℕ) → f ≡ fault.Refused code.UnknownColumn at 0 0 → IsCause f (group_fault levels (expr.Fun symbol args at))
  cause-group-Fun f symbol args at e = cause-is f _ (group-Fun symbol args at ∙ ap (λ x. Some x) (sym e))

  group-Pred : (symbol : ℕ) (args : List n.Expr) (at : ℕ) → group_fault levels (expr.Pred symbol args at) ≡ Some (fault.Refused code.UnknownColumn at 0 0)
  unfolding resolving group_fault
  group-Pred symbol args at = refl

  pub cause-group-Pred : (f : ScopeFault) (symbol : ℕ) (args : List n.Expr) (at : ℕ) → f ≡ fault.Refused code.UnknownColumn at 0 0 → IsCause f (group_fault levels (expr.Pred symbol args at))
  cause-group-Pred f symbol args at e = cause-is f _ (group-Pred symbol args at ∙ ap (λ x. Some x) (sym e))

  group-Call : (symbol : ℕ) (args : List n.Expr) (at : ℕ) → group_fault levels (expr.Call symbol args at) ≡ Some (fault.Refused code.UnknownColumn at 0 0)
  unfolding resolving group_fault
  group-Call symbol args at = refl

  pub cause-group-Call : (f : ScopeFault) (symbol : ℕ) (args : List n.Expr) (at : ℕ) → f ≡ fault.Refused code.UnknownColumn at 0 0 → IsCause f (group_fault levels (expr.Call symbol args at))
  cause-group-Call f symbol args at e = cause-is f _ (group-Call symbol args at ∙ ap (λ x. Some x) (sym e))

  group-Agg : (fun : n.AggFun) (d : Bool) (argument : Option n.Expr) (at : ℕ) → group_fault levels (expr.Agg fun d argument at) ≡ Some (fault.Refused code.UnknownColumn at 0 0)
  unfolding resolving group_fault
  group-Agg fun d argument at = refl

  pub cause-group-Agg : (f : ScopeFault) (fun : n.AggFun) (d : Bool) (argument : Option n.Expr) (at : ℕ) → f ≡ fault.Refused code.UnknownColumn at 0 0 → IsCause f (group_fault levels (expr.Agg fun d argument at))
  cause-group-Agg f fun d argument at e = cause-is f _ (group-Agg fun d argument at ∙ ap (λ x. Some x) (sym e))

  group-Sub : (query : n.Query) (at : ℕ) → group_fault levels (expr.Sub query at) ≡ Some (fault.Refused code.UnknownColumn at 0 0)
  unfolding resolving group_fault
  group-Sub query at = refl

  pub cause-group-Sub : (f : ScopeFault) (query : n.Query) (at : ℕ) → f ≡ fault.Refused code.UnknownColumn at 0 0 → IsCause f (group_fault levels (expr.Sub query at))
  cause-group-Sub f query at e = cause-is f _ (group-Sub query at ∙ ap (λ x. Some x) (sym e))

  group-Eq : (left right : n.Expr) (at : ℕ) → group_fault levels (expr.Eq left right at) ≡ Some (fault.Refused code.UnknownColumn at 0 0)
  unfolding resolving group_fault
  group-Eq left right at = refl

  pub cause-group-Eq : (f : ScopeFault) (left right : n.Expr) (at : ℕ) → f ≡ fault.Refused code.UnknownColumn at 0 0 → IsCause f (group_fault levels (expr.Eq left right at))
  cause-group-Eq f left right at e = cause-is f _ (group-Eq left right at ∙ ap (λ x. Some x) (sym e))

  group-And : (parts : List n.Expr) (at : ℕ) → group_fault levels (expr.And parts at) ≡ Some (fault.Refused code.UnknownColumn at 0 0)
  unfolding resolving group_fault
  group-And parts at = refl

  pub cause-group-And : (f : ScopeFault) (parts : List n.Expr) (at : ℕ) → f ≡ fault.Refused code.UnknownColumn at 0 0 → IsCause f (group_fault levels (expr.And parts at))
  cause-group-And f parts at e = cause-is f _ (group-And parts at ∙ ap (λ x. Some x) (sym e))

  group-Or : (parts : List n.Expr) (at : ℕ) → group_fault levels (expr.Or parts at) ≡ Some (fault.Refused code.UnknownColumn at 0 0)
  unfolding resolving group_fault
  group-Or parts at = refl

  pub cause-group-Or : (f : ScopeFault) (parts : List n.Expr) (at : ℕ) → f ≡ fault.Refused code.UnknownColumn at 0 0 → IsCause f (group_fault levels (expr.Or parts at))
  cause-group-Or f parts at e = cause-is f _ (group-Or parts at ∙ ap (λ x. Some x) (sym e))

  group-Not : (part : n.Expr) (at : ℕ) → group_fault levels (expr.Not part at) ≡ Some (fault.Refused code.UnknownColumn at 0 0)
  unfolding resolving group_fault
  group-Not part at = refl

  pub cause-group-Not : (f : ScopeFault) (part : n.Expr) (at : ℕ) → f ≡ fault.Refused code.UnknownColumn at 0 0 → IsCause f (group_fault levels (expr.Not part at))
  cause-group-Not f part at e = cause-is f _ (group-Not part at ∙ ap (λ x. Some x) (sym e))

  group-Exists : (query : n.Query) (at : ℕ) → group_fault levels (expr.Exists query at) ≡ Some (fault.Refused code.UnknownColumn at 0 0)
  unfolding resolving group_fault
  group-Exists query at = refl

  pub cause-group-Exists : (f : ScopeFault) (query : n.Query) (at : ℕ) → f ≡ fault.Refused code.UnknownColumn at 0 0 → IsCause f (group_fault levels (expr.Exists query at))
  cause-group-Exists f query at e = cause-is f _ (group-Exists query at ∙ ap (λ x. Some x) (sym e))

  group-In : (left : n.Expr) (query : n.Query) (at in_at : ℕ) → group_fault levels (expr.In left query at in_at) ≡ Some (fault.Refused code.UnknownColumn at 0 0)
  unfolding resolving group_fault
  group-In left query at in_at = refl

  pub cause-group-In : (f : ScopeFault) (left : n.Expr) (query : n.Query) (at in_at : ℕ) → f ≡ fault.Refused code.UnknownColumn at 0 0 → IsCause f (group_fault levels (expr.In left query at in_at))
  cause-group-In f left query at in_at e = cause-is f _ (group-In left query at in_at ∙ ap (λ x. Some x) (sym e))

  pub columns-cons : (e : n.Expr) (es : List n.Expr) → columns_fault levels (e ∷ es) ≡ option_or (group_fault levels e) (columns_fault levels es)
  unfolding resolving columns_fault group_fault
  columns-cons e es = refl

  pub columns-nil : Unit {0} → columns_fault levels [] ≡ None
  unfolding resolving columns_fault
  columns-nil u = refl

  pub columns-drop : (es : List n.Expr) (i : ℕ) (e : n.Expr) → i < length es → e ≡ get_or es i e
      → columns_fault levels (drop i es) ≡ option_or (group_fault levels e) (columns_fault levels (drop (i + 1) es))
  columns-drop es i e h is = at-head (columns_fault levels) es i e h is ∙ columns-cons e (drop (i + 1) es)

  pub columns-past : (es : List n.Expr) (i : ℕ) → length es ≤ i → columns_fault levels (drop i es) ≡ None
  columns-past es i h = at-end (columns_fault levels) es i h ∙ columns-nil tt

pub places-cons : (from : List Heading) (e : n.Expr) (es : List n.Expr) → places_listed from (e ∷ es) ≡ group_place e from ∷ places_listed from es
unfolding resolving places_listed
places-cons from e es = refl

pub places-nil : (from : List Heading) → places_listed from [] ≡ []
unfolding resolving places_listed
places-nil from = refl

-- ---- a column of the block
pub own-nowhere_qualified : (alias : n.Name) (qual_at : ℕ) (name : n.Name) (levels : Levels) (at : ℕ) (f : ScopeFault)
    → block_meant (Some alias) name levels ≡ None → f ≡ fault.Refused code.UnknownAlias qual_at 0 0
    → IsCause f (group_fault levels (expr.Col (Some alias) qual_at name at))
unfolding group_fault
own-nowhere_qualified alias qual_at name levels at f e is = cause-is f _ (rw (e, is) refl)

pub own-nowhere_bare : (qual_at : ℕ) (name : n.Name) (levels : Levels) (at : ℕ) (f : ScopeFault)
    → block_meant None name levels ≡ None → f ≡ fault.Refused code.UnknownColumn at 0 0
    → IsCause f (group_fault levels (expr.Col None qual_at name at))
unfolding group_fault
own-nowhere_bare qual_at name levels at f e is = cause-is f _ (rw (e, is) refl)

own-found : (qual : Option n.Name) (qual_at : ℕ) (name : n.Name) (levels : Levels) (at : ℕ) (two lacks here : Bool)
    → is_some (block_meant qual name levels) ≡ true → names_two qual name levels ≡ two → lacks_column qual name levels ≡ lacks
    → is_here qual name levels ≡ here
    → group_fault levels (expr.Col qual qual_at name at)
    ≡ refused (AGroupColumn (expr.Col qual qual_at name at) levels)
    (if two then Some code.Ambiguous else if lacks || not here then Some code.UnknownColumn else None)
unfolding group_fault
own-found qual qual_at name levels at two lacks here m t l h = rw (alias_is_known qual name levels m, m, t, l, h) refl

pub own-two : (qual : Option n.Name) (qual_at : ℕ) (name : n.Name) (levels : Levels) (at : ℕ) (f : ScopeFault)
    → is_some (block_meant qual name levels) ≡ true → names_two qual name levels ≡ true → f ≡ fault.Refused code.Ambiguous at 0 0
    → IsCause f (group_fault levels (expr.Col qual qual_at name at))
own-two qual qual_at name levels at f m t is = cause-is f _ (own-found qual qual_at name levels at true _ _ m t refl refl ∙ ap (λ x. Some x) (sym is))

pub own-lacks : (qual : Option n.Name) (qual_at : ℕ) (name : n.Name) (levels : Levels) (at : ℕ) (f : ScopeFault) (lacks here : Bool)
    → is_some (block_meant qual name levels) ≡ true → names_two qual name levels ≡ false → lacks_column qual name levels ≡ lacks
    → is_here qual name levels ≡ here → (lacks || not here) ≡ true → f ≡ fault.Refused code.UnknownColumn at 0 0
    → IsCause f (group_fault levels (expr.Col qual qual_at name at))
own-lacks qual qual_at name levels at f lacks here m t l h e is =
    cause-is f _ (own-found qual qual_at name levels at false lacks here m t l h ∙ (rw (e, is) refl))

pub own-fine : (qual : Option n.Name) (qual_at : ℕ) (name : n.Name) (levels : Levels) (at : ℕ)
    → is_some (block_meant qual name levels) ≡ true → names_two qual name levels ≡ false → lacks_column qual name levels ≡ false
    → is_here qual name levels ≡ true → group_fault levels (expr.Col qual qual_at name at) ≡ None
own-fine qual qual_at name levels at m t l h = own-found qual qual_at name levels at false false true m t l h

pub own-place : (qual : Option n.Name) (qual_at : ℕ) (name : n.Name) (from : List Heading) (at : ℕ) (p : ℕ × ℕ) → place_in qual name 0 from ≡ Some p
    → group_place (expr.Col qual qual_at name at) from ≡ p
own-place qual qual_at name from at p e = rw e refl

pub ruleset laws = (causes, cause-group-Lit, cause-group-Fun, cause-group-Pred, cause-group-Call, cause-group-Agg, cause-group-Sub, cause-group-Eq, cause-group-And, cause-group-Or, cause-group-Not, cause-group-Exists, cause-group-In)

pub ruleset own = (causes, own-nowhere_qualified, own-nowhere_bare, own-two, own-lacks, own-fine, own-place)
