-- Two predicates in a row, as those that BETWEEN stands for: their faults and their conjuncts.
use Rattle.std.proofs.Common.{◌≡◌, ℕ, List, [], ◌∷◌, get_or, Option, Some, None, refl, ap, sym, ◌∙◌}
use Rattle.std.specs.Option.{option_or}
use Rattle.sql_model.specs.Syntax as n
use Rattle.sql_model.specs.declared.tree.Expr.TheVariants as expr
use Rattle.scope_core.specs.declared.fault.ScopeFault.{ScopeFault}
use Rattle.scope_core.specs.declared.tree.RCond.TheVariants as c
use Rattle.scope_core.specs.Answer.{IsCause}
use Rattle.scope_core.specs.Parts.{AreBounds, AreBoundsOfOne, conjuncts_listed, truths_fault, value_fault, values_fault, values_listed}
use Rattle.scope_core.specs.Resolving.{resolved_value}
use Rattle.scope_core.specs.Scope.{Known, Levels}
use Rattle.scope_core.specs.Syntax.{RVal}
use Rattle.scope_core.proofs.resolving.Conditions.{conjuncts-Pred, conjuncts-cons, conjuncts-nil, truth-Pred, truths-cons, truths-nil}
use Rattle.scope_core.proofs.resolving.Values.{trees-cons, trees-nil, values-cons, values-nil}
use Rattle.scope_core.proofs.resolving.Walks.{cause-first, cause-second, no-fault-both}

last : {X : Type 0} (a : Option X) → option_or a None ≡ a
last None = refl
last (Some x) = refl

-- of two faults none, so not the second
no-second : {X : Type 0} (a b : Option X) → option_or a b ≡ None → b ≡ None
no-second None b h = h
no-second (Some x) b h = cc

module _ (known : List Known) (levels : Levels) where
  module _ (above : ℕ) (low : List n.Expr) (below : ℕ) (high parts : List n.Expr) (are : AreBounds above low below high parts) where
    bounds-fault : truths_fault known levels parts ≡ option_or (values_fault known levels low) (values_fault known levels high)
    bounds-fault =
        rw (
          are.2,
          truths-cons known levels (expr.Pred above low are.0) (expr.Pred below high are.1 ∷ []),
          truths-cons known levels (expr.Pred below high are.1) [],
          truths-nil known levels tt,
          truth-Pred known levels above low are.0,
          truth-Pred known levels below high are.1,
        )
        (ap (λ o. option_or (values_fault known levels low) o) (last (values_fault known levels high)))

    pub fine-bounds : values_fault known levels low ≡ None → values_fault known levels high ≡ None → truths_fault known levels parts ≡ None
    fine-bounds l h = no-fault-both _ _ _ bounds-fault l h

    pub cause-low : (f : ScopeFault) → IsCause f (values_fault known levels low) → IsCause f (truths_fault known levels parts)
    cause-low f h = cause-first f _ _ _ bounds-fault h

    pub cause-high : (f : ScopeFault) → values_fault known levels low ≡ None → IsCause f (values_fault known levels high) → IsCause f (truths_fault known levels parts)
    cause-high f l h = cause-second f _ _ _ bounds-fault l h

    pub conjuncts-bounds : conjuncts_listed known levels parts ≡ c.Pred above (values_listed known levels low) ∷ c.Pred below (values_listed known levels high) ∷ []
    conjuncts-bounds =
        rw (
          are.2,
          conjuncts-cons known levels (expr.Pred above low are.0) (expr.Pred below high are.1 ∷ []),
          conjuncts-cons known levels (expr.Pred below high are.1) [],
          conjuncts-nil known levels tt,
          conjuncts-Pred known levels above low are.0,
          conjuncts-Pred known levels below high are.1,
        ) refl

  -- ---- two values
  two-faults : (first second : n.Expr) → values_fault known levels (first ∷ second ∷ []) ≡ option_or (value_fault known levels first) (value_fault known levels second)
  two-faults first second =
      rw (values-cons known levels first (second ∷ []), values-cons known levels second [], values-nil known levels tt)
      (ap (λ o. option_or (value_fault known levels first) o) (last (value_fault known levels second)))

  two-trees : (first second : n.Expr) → values_listed known levels (first ∷ second ∷ []) ≡ resolved_value first known levels ∷ resolved_value second known levels ∷ []
  two-trees first second = rw (trees-cons known levels first (second ∷ []), trees-cons known levels second [], trees-nil known levels tt) refl

  module _ (before args : List n.Expr) (high : n.Expr) (are : AreBoundsOfOne before args high) where
    value-fine : values_fault known levels before ≡ None → value_fault known levels are.1 ≡ None
    value-fine h = no-second _ _ (sym (ap (values_fault known levels) are.2 ∙ two-faults are.0 are.1) ∙ h)

    args-fault : values_fault known levels args ≡ option_or (value_fault known levels are.1) (value_fault known levels high)
    args-fault = ap (values_fault known levels) are.3 ∙ two-faults are.1 high

    pub fine-behind : values_fault known levels before ≡ None → value_fault known levels high ≡ None → values_fault known levels args ≡ None
    fine-behind b h = no-fault-both _ _ _ args-fault (value-fine b) h

    pub cause-behind : (f : ScopeFault) → values_fault known levels before ≡ None → IsCause f (value_fault known levels high) → IsCause f (values_fault known levels args)
    cause-behind f b h = cause-second f _ _ _ args-fault (value-fine b) h

    pub tree-behind : (resolved : List RVal) (x y : RVal) → resolved ≡ values_listed known levels before → x ≡ get_or resolved 1 x → y ≡ resolved_value high known levels → x ∷ y ∷ [] ≡ values_listed known levels args
    tree-behind resolved x y listed at h =
        let shown : resolved ≡ resolved_value are.0 known levels ∷ resolved_value are.1 known levels ∷ [] = listed ∙ ap (values_listed known levels) are.2 ∙ two-trees are.0 are.1 in
        let first : x ≡ resolved_value are.1 known levels = at ∙ ap (λ l. get_or l 1 x) shown in
        (λ i. first i ∷ h i ∷ []) ∙ sym (ap (values_listed known levels) are.3 ∙ two-trees are.1 high)
