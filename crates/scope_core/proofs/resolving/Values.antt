-- Values as code resolves them: their faults and their trees.
use Rattle.std.proofs.Common.{◌≡◌, ℕ, ◌+◌, ◌<◌, ◌≤◌, Bool, true, false, List, [], ◌∷◌, length, drop, get_or, Option, Some, None, refl, ap, sym, ◌∙◌, not}
use Rattle.std.specs.Prelude.{if◌then◌else◌}
use Rattle.std.specs.Option.{option_or}
use Rattle.sql_model.specs.Syntax as n
use Rattle.sql_model.specs.declared.tree.Expr.TheVariants as expr
use Rattle.sql_model.specs.declared.tree.Query.TheVariants as query
use Rattle.scope_core.specs.declared.fault.ScopeFault.{ScopeFault}
use Rattle.scope_core.specs.declared.fault.ScopeFault.TheVariants as fault
use Rattle.scope_core.specs.declared.fault.ScopeCode.TheVariants as code
use Rattle.scope_core.specs.declared.tree.RVal.{RVal}
use Rattle.scope_core.specs.declared.tree.RVal.TheVariants as v
use Rattle.scope_core.specs.Answer.{IsCause}
use Rattle.scope_core.specs.Compute.{resolving}
use Rattle.scope_core.specs.FirstFault.{fault_at, refused}
use Rattle.scope_core.specs.Lent.{row_of}
use Rattle.scope_core.specs.Parts.{is_scalar_block, value_fault, values_fault, truth_fault, truths_fault, fault_within, block_fault, source_fault, entries_fault, on_fault, item_fault, items_fault, values_listed, conjuncts_listed, conditions_listed, entries_listed, on_listed, items_listed, argument_fault, argument_listed}
use Rattle.scope_core.specs.Resolving.{only_block, resolved_block, resolved_value, resolved_column}
use Rattle.scope_core.specs.Scope.{Known, Levels, member_levels, sight_here}
use Rattle.scope_core.specs.Faults.{is_group, is_in_group, is_scalar}
use Rattle.scope_core.proofs.basics.Booleans.{and-false}
use Rattle.scope_core.specs.Sites.{AValue, AColumn, AnExpression, value_sites, values_sites}
use Rattle.scope_core.proofs.basics.Lists.{at-head, at-end}
use Rattle.scope_core.proofs.resolving.Columns.{causes, cause-is}
use Rattle.scope_core.proofs.resolving.Walks.{first_fault-append, first_fault-one, cause-first, cause-second, cause-same, no-fault-both}

module _ (known : List Known) (levels : Levels) where
  pub value-Col : (qual : Option n.Name) (qual_at : ℕ) (name : n.Name) (at : ℕ) → value_fault known levels (expr.Col qual qual_at name at) ≡ fault_at (AColumn qual qual_at name levels at)
  unfolding resolving value_fault values_fault truth_fault truths_fault fault_within block_fault source_fault entries_fault on_fault item_fault items_fault values_listed conjuncts_listed conditions_listed entries_listed on_listed items_listed
  value-Col qual qual_at name at = first_fault-one (AColumn qual qual_at name levels at)

  pub value-Lit : (lit at : ℕ) → value_fault known levels (expr.Lit lit at) ≡ None
  unfolding resolving value_fault values_fault truth_fault truths_fault fault_within block_fault source_fault entries_fault on_fault item_fault items_fault values_listed conjuncts_listed conditions_listed entries_listed on_listed items_listed
  value-Lit lit at = refl

  pub value-Fun : (symbol : ℕ) (args : List n.Expr) (at : ℕ) → value_fault known levels (expr.Fun symbol args at) ≡ values_fault known levels args
  unfolding resolving value_fault values_fault truth_fault truths_fault fault_within block_fault source_fault entries_fault on_fault item_fault items_fault values_listed conjuncts_listed conditions_listed entries_listed on_listed items_listed
  value-Fun symbol args at = refl

  pub value-Call : (symbol : ℕ) (args : List n.Expr) (at : ℕ) → value_fault known levels (expr.Call symbol args at) ≡ values_fault known levels args
  unfolding resolving value_fault values_fault truth_fault truths_fault fault_within block_fault source_fault entries_fault on_fault item_fault items_fault values_listed conjuncts_listed conditions_listed entries_listed on_listed items_listed
  value-Call symbol args at = refl

  pub value-Pred : (symbol : ℕ) (args : List n.Expr) (at : ℕ) → value_fault known levels (expr.Pred symbol args at) ≡ Some (fault.Refused code.NotValue at 0 0)
  unfolding resolving value_fault values_fault truth_fault truths_fault fault_within block_fault source_fault entries_fault on_fault item_fault items_fault values_listed conjuncts_listed conditions_listed entries_listed on_listed items_listed
  value-Pred symbol args at = refl

  pub value-Eq : (left right : n.Expr) (at : ℕ) → value_fault known levels (expr.Eq left right at) ≡ Some (fault.Refused code.NotValue at 0 0)
  unfolding resolving value_fault values_fault truth_fault truths_fault fault_within block_fault source_fault entries_fault on_fault item_fault items_fault values_listed conjuncts_listed conditions_listed entries_listed on_listed items_listed
  value-Eq left right at = refl

  pub value-And : (parts : List n.Expr) (at : ℕ) → value_fault known levels (expr.And parts at) ≡ Some (fault.Refused code.NotValue at 0 0)
  unfolding resolving value_fault values_fault truth_fault truths_fault fault_within block_fault source_fault entries_fault on_fault item_fault items_fault values_listed conjuncts_listed conditions_listed entries_listed on_listed items_listed
  value-And parts at = refl

  pub value-Or : (parts : List n.Expr) (at : ℕ) → value_fault known levels (expr.Or parts at) ≡ Some (fault.Refused code.NotValue at 0 0)
  unfolding resolving value_fault values_fault truth_fault truths_fault fault_within block_fault source_fault entries_fault on_fault item_fault items_fault values_listed conjuncts_listed conditions_listed entries_listed on_listed items_listed
  value-Or parts at = refl

  pub value-Not : (part : n.Expr) (at : ℕ) → value_fault known levels (expr.Not part at) ≡ Some (fault.Refused code.NotValue at 0 0)
  unfolding resolving value_fault values_fault truth_fault truths_fault fault_within block_fault source_fault entries_fault on_fault item_fault items_fault values_listed conjuncts_listed conditions_listed entries_listed on_listed items_listed
  value-Not part at = refl

  pub value-Exists : (query : n.Query) (at : ℕ) → value_fault known levels (expr.Exists query at) ≡ Some (fault.Refused code.NotValue at 0 0)
  unfolding resolving value_fault values_fault truth_fault truths_fault fault_within block_fault source_fault entries_fault on_fault item_fault items_fault values_listed conjuncts_listed conditions_listed entries_listed on_listed items_listed
  value-Exists query at = refl

  pub value-In : (left : n.Expr) (query : n.Query) (at in_at : ℕ) → value_fault known levels (expr.In left query at in_at) ≡ Some (fault.Refused code.NotValue at 0 0)
  unfolding resolving value_fault values_fault truth_fault truths_fault fault_within block_fault source_fault entries_fault on_fault item_fault items_fault values_listed conjuncts_listed conditions_listed entries_listed on_listed items_listed
  value-In left query at in_at = refl

  pub cause-Col : (f : ScopeFault) (qual : Option n.Name) (qual_at : ℕ) (name : n.Name) (at : ℕ) → IsCause f (fault_at (AColumn qual qual_at name levels at)) → IsCause f (value_fault known levels (expr.Col qual qual_at name at))
  cause-Col f qual qual_at name at h0 = cause-same f _ _ (value-Col qual qual_at name at) h0

  pub cause-Fun : (f : ScopeFault) (symbol : ℕ) (args : List n.Expr) (at : ℕ) → IsCause f (values_fault known levels args) → IsCause f (value_fault known levels (expr.Fun symbol args at))
  cause-Fun f symbol args at h0 = cause-same f _ _ (value-Fun symbol args at) h0

  pub cause-Call : (f : ScopeFault) (symbol : ℕ) (args : List n.Expr) (at : ℕ) → IsCause f (values_fault known levels args) → IsCause f (value_fault known levels (expr.Call symbol args at))
  cause-Call f symbol args at h0 = cause-same f _ _ (value-Call symbol args at) h0

  pub cause-Pred : (f : ScopeFault) (symbol : ℕ) (args : List n.Expr) (at : ℕ) → f ≡ fault.Refused code.NotValue at 0 0 → IsCause f (value_fault known levels (expr.Pred symbol args at))
  cause-Pred f symbol args at h0 = cause-is f _ (value-Pred symbol args at ∙ ap (λ x. Some x) (sym h0))

  pub cause-Eq : (f : ScopeFault) (left right : n.Expr) (at : ℕ) → f ≡ fault.Refused code.NotValue at 0 0 → IsCause f (value_fault known levels (expr.Eq left right at))
  cause-Eq f left right at h0 = cause-is f _ (value-Eq left right at ∙ ap (λ x. Some x) (sym h0))

  pub cause-And : (f : ScopeFault) (parts : List n.Expr) (at : ℕ) → f ≡ fault.Refused code.NotValue at 0 0 → IsCause f (value_fault known levels (expr.And parts at))
  cause-And f parts at h0 = cause-is f _ (value-And parts at ∙ ap (λ x. Some x) (sym h0))

  pub cause-Or : (f : ScopeFault) (parts : List n.Expr) (at : ℕ) → f ≡ fault.Refused code.NotValue at 0 0 → IsCause f (value_fault known levels (expr.Or parts at))
  cause-Or f parts at h0 = cause-is f _ (value-Or parts at ∙ ap (λ x. Some x) (sym h0))

  pub cause-Not : (f : ScopeFault) (part : n.Expr) (at : ℕ) → f ≡ fault.Refused code.NotValue at 0 0 → IsCause f (value_fault known levels (expr.Not part at))
  cause-Not f part at h0 = cause-is f _ (value-Not part at ∙ ap (λ x. Some x) (sym h0))

  pub cause-Exists : (f : ScopeFault) (query : n.Query) (at : ℕ) → f ≡ fault.Refused code.NotValue at 0 0 → IsCause f (value_fault known levels (expr.Exists query at))
  cause-Exists f query at h0 = cause-is f _ (value-Exists query at ∙ ap (λ x. Some x) (sym h0))

  pub cause-In : (f : ScopeFault) (left : n.Expr) (query : n.Query) (at in_at : ℕ) → f ≡ fault.Refused code.NotValue at 0 0 → IsCause f (value_fault known levels (expr.In left query at in_at))
  cause-In f left query at in_at h0 = cause-is f _ (value-In left query at in_at ∙ ap (λ x. Some x) (sym h0))

  pub tree-Col : (qual : Option n.Name) (qual_at : ℕ) (name : n.Name) (at : ℕ) → resolved_value (expr.Col qual qual_at name at) known levels ≡ resolved_column qual name levels
  unfolding resolving value_fault values_fault truth_fault truths_fault fault_within block_fault source_fault entries_fault on_fault item_fault items_fault values_listed conjuncts_listed conditions_listed entries_listed on_listed items_listed
  tree-Col qual qual_at name at = refl

  pub tree-Lit : (lit at : ℕ) → resolved_value (expr.Lit lit at) known levels ≡ v.Lit lit
  unfolding resolving value_fault values_fault truth_fault truths_fault fault_within block_fault source_fault entries_fault on_fault item_fault items_fault values_listed conjuncts_listed conditions_listed entries_listed on_listed items_listed
  tree-Lit lit at = refl

  pub tree-Fun : (symbol : ℕ) (args : List n.Expr) (at : ℕ) → resolved_value (expr.Fun symbol args at) known levels ≡ v.Fun symbol (values_listed known levels args)
  unfolding resolving value_fault values_fault truth_fault truths_fault fault_within block_fault source_fault entries_fault on_fault item_fault items_fault values_listed conjuncts_listed conditions_listed entries_listed on_listed items_listed
  tree-Fun symbol args at = refl

  pub tree-Call : (symbol : ℕ) (args : List n.Expr) (at : ℕ) → resolved_value (expr.Call symbol args at) known levels ≡ v.Fun symbol (values_listed known levels args)
  unfolding resolving value_fault values_fault truth_fault truths_fault fault_within block_fault source_fault entries_fault on_fault item_fault items_fault values_listed conjuncts_listed conditions_listed entries_listed on_listed items_listed
  tree-Call symbol args at = refl

  pub values-cons : (e : n.Expr) (es : List n.Expr) → values_fault known levels (e ∷ es) ≡ option_or (value_fault known levels e) (values_fault known levels es)
  unfolding resolving value_fault values_fault truth_fault truths_fault fault_within block_fault source_fault entries_fault on_fault item_fault items_fault values_listed conjuncts_listed conditions_listed entries_listed on_listed items_listed
  values-cons e es = first_fault-append (value_sites e known levels) (values_sites (row_of es) known levels)

  pub values-nil : Unit {0} → values_fault known levels [] ≡ None
  unfolding resolving value_fault values_fault truth_fault truths_fault fault_within block_fault source_fault entries_fault on_fault item_fault items_fault values_listed conjuncts_listed conditions_listed entries_listed on_listed items_listed
  values-nil u = refl

  pub values-drop : (es : List n.Expr) (i : ℕ) (e : n.Expr) → i < length es → e ≡ get_or es i e → values_fault known levels (drop i es) ≡ option_or (value_fault known levels e) (values_fault known levels (drop (i + 1) es))
  values-drop es i e h is = at-head (values_fault known levels) es i e h is ∙ values-cons e (drop (i + 1) es)

  pub values-past : (es : List n.Expr) (i : ℕ) → length es ≤ i → values_fault known levels (drop i es) ≡ None
  values-past es i h = at-end (values_fault known levels) es i h ∙ values-nil tt

  pub trees-cons : (e : n.Expr) (es : List n.Expr) → values_listed known levels (e ∷ es) ≡ resolved_value e known levels ∷ values_listed known levels es
  unfolding resolving value_fault values_fault truth_fault truths_fault fault_within block_fault source_fault entries_fault on_fault item_fault items_fault values_listed conjuncts_listed conditions_listed entries_listed on_listed items_listed
  trees-cons e es = refl

  pub trees-nil : Unit {0} → values_listed known levels [] ≡ []
  unfolding resolving value_fault values_fault truth_fault truths_fault fault_within block_fault source_fault entries_fault on_fault item_fault items_fault values_listed conjuncts_listed conditions_listed entries_listed on_listed items_listed
  trees-nil u = refl

  -- ---- an operator, whose arguments were lent
  pub operator-fine : {e : n.Expr} {symbol at : ℕ} {args lent : List n.Expr} → e ≡ expr.Fun symbol args at → lent ≡ args → values_fault known levels lent ≡ None → value_fault known levels e ≡ None
  operator-fine is same none = ap (value_fault known levels) is ∙ (value-Fun _ _ _ ∙ (ap (values_fault known levels) (sym same) ∙ none))

  pub operator-cause : {e : n.Expr} {symbol at : ℕ} {args lent : List n.Expr} → e ≡ expr.Fun symbol args at → lent ≡ args → (f : ScopeFault) → IsCause f (values_fault known levels lent) → IsCause f (value_fault known levels e)
  operator-cause is same f h = cause-same f _ _ (ap (value_fault known levels) is ∙ (value-Fun _ _ _ ∙ ap (values_fault known levels) (sym same))) h

  pub operator-tree : {e : n.Expr} {symbol at : ℕ} {args lent : List n.Expr} {values : List RVal} → e ≡ expr.Fun symbol args at → lent ≡ args → values ≡ values_listed known levels lent
      → v.Fun symbol values ≡ resolved_value e known levels
  operator-tree is same h = ap (v.Fun _) (h ∙ ap (values_listed known levels) same) ∙ (sym (tree-Fun _ _ _) ∙ sym (ap (λ e. resolved_value e known levels) is))

  pub value-Agg : (fun : n.AggFun) (d : Bool) (argument : Option n.Expr) (at : ℕ) → value_fault known levels (expr.Agg fun d argument at) ≡ option_or (fault_at (AnExpression AValue levels (expr.Agg fun d argument at))) (argument_fault known (member_levels levels) argument)
  unfolding resolving value_fault values_fault truth_fault truths_fault fault_within block_fault source_fault entries_fault on_fault item_fault items_fault values_listed conjuncts_listed conditions_listed entries_listed on_listed items_listed
  value-Agg fun d None at = refl
  value-Agg fun d (Some e) at = refl

  pub tree-Agg : (fun : n.AggFun) (d : Bool) (argument : Option n.Expr) (at : ℕ) → resolved_value (expr.Agg fun d argument at) known levels ≡ v.Agg fun d (argument_listed known (member_levels levels) argument)
  unfolding resolving value_fault values_fault truth_fault truths_fault fault_within block_fault source_fault entries_fault on_fault item_fault items_fault values_listed conjuncts_listed conditions_listed entries_listed on_listed items_listed
  tree-Agg fun d None at = refl
  tree-Agg fun d (Some e) at = refl

  pub value-Sub : (query : n.Query) (at : ℕ) → value_fault known levels (expr.Sub query at) ≡ option_or (fault_at (AnExpression AValue levels (expr.Sub query at))) (fault_within known levels query)
  unfolding resolving value_fault values_fault truth_fault truths_fault fault_within block_fault source_fault entries_fault on_fault item_fault items_fault values_listed conjuncts_listed conditions_listed entries_listed on_listed items_listed
  value-Sub query at = refl

  pub tree-Sub : (query : n.Query) (at : ℕ) → resolved_value (expr.Sub query at) known levels ≡ v.Sub (only_block query known levels)
  unfolding resolving value_fault values_fault truth_fault truths_fault fault_within block_fault source_fault entries_fault on_fault item_fault items_fault values_listed conjuncts_listed conditions_listed entries_listed on_listed items_listed
  tree-Sub query at = refl

  aggregate-fault : (fun : n.AggFun) (d : Bool) (argument : Option n.Expr) (at : ℕ) (grouped : Bool) → is_group (sight_here levels) ≡ grouped
      → fault_at (AnExpression AValue levels (expr.Agg fun d argument at)) ≡ (if grouped then None else Some (fault.Refused code.AggregateHere at 0 0))
  unfolding resolving value_fault values_fault truth_fault truths_fault fault_within block_fault source_fault entries_fault on_fault item_fault items_fault values_listed conjuncts_listed conditions_listed entries_listed on_listed items_listed
  aggregate-fault fun d argument at true e = rw (and-false (is_in_group (sight_here levels)), e) refl
  aggregate-fault fun d argument at false e = rw (and-false (is_in_group (sight_here levels)), e) refl

  pub cause-Agg : (f : ScopeFault) (fun : n.AggFun) (d : Bool) (argument : Option n.Expr) (at : ℕ) → is_group (sight_here levels) ≡ false → f ≡ fault.Refused code.AggregateHere at 0 0 → IsCause f (value_fault known levels (expr.Agg fun d argument at))
  cause-Agg f fun d argument at h0 h1 = cause-first f _ _ _ (value-Agg fun d argument at) (cause-is f _ (aggregate-fault fun d argument at false h0 ∙ ap (λ x. Some x) (sym h1)))

  pub cause-Agg-argument : (f : ScopeFault) (fun : n.AggFun) (d : Bool) (e : n.Expr) (at : ℕ) → is_group (sight_here levels) ≡ true → IsCause f (value_fault known (member_levels levels) e) → IsCause f (value_fault known levels (expr.Agg fun d (Some e) at))
  cause-Agg-argument f fun d e at h0 h1 = cause-second f _ _ _ (value-Agg fun d (Some e) at) (aggregate-fault fun d (Some e) at true h0) h1

  pub fine-Agg : (fun : n.AggFun) (d : Bool) (argument : Option n.Expr) (at : ℕ) → is_group (sight_here levels) ≡ true → argument_fault known (member_levels levels) argument ≡ None → value_fault known levels (expr.Agg fun d argument at) ≡ None
  fine-Agg fun d argument at g none = no-fault-both _ _ _ (value-Agg fun d argument at) (aggregate-fault fun d argument at true g) none

  subquery-fault : (query : n.Query) (at : ℕ) (grouped : Bool) → is_in_group (sight_here levels) ≡ grouped
      → fault_at (AnExpression AValue levels (expr.Sub query at))
      ≡ (if grouped then Some (fault.Refused code.SubqueryInGroup at 0 0) else if is_scalar query then None else Some (fault.Refused code.ScalarNotAggregate at 0 0))
  unfolding resolving value_fault values_fault truth_fault truths_fault fault_within block_fault source_fault entries_fault on_fault item_fault items_fault values_listed conjuncts_listed conditions_listed entries_listed on_listed items_listed
  subquery-fault query at true e = rw e refl
  subquery-fault query at false e = rw e (by (is_scalar query))
    where
      by : (scalar : Bool) → refused (AnExpression AValue levels (expr.Sub query at)) (if not scalar then Some code.ScalarNotAggregate else None)
          ≡ (if scalar then None else Some (fault.Refused code.ScalarNotAggregate at 0 0))
      by true = refl
      by false = refl

  pub cause-Sub-grouped : (f : ScopeFault) (query : n.Query) (at : ℕ) → is_in_group (sight_here levels) ≡ true → f ≡ fault.Refused code.SubqueryInGroup at 0 0 → IsCause f (value_fault known levels (expr.Sub query at))
  cause-Sub-grouped f query at h0 h1 = cause-first f _ _ _ (value-Sub query at) (cause-is f _ (subquery-fault query at true h0 ∙ ap (λ x. Some x) (sym h1)))

  pub cause-Sub-other : (f : ScopeFault) (query : n.Query) (at : ℕ) → is_in_group (sight_here levels) ≡ false → is_scalar query ≡ false → f ≡ fault.Refused code.ScalarNotAggregate at 0 0 → IsCause f (value_fault known levels (expr.Sub query at))
  cause-Sub-other f query at h0 h1 h2 = cause-first f _ _ _ (value-Sub query at) (cause-is f _ (subquery-fault query at false h0 ∙ (rw (h1, h2) refl)))

  pub scalar-Block : (b : n.Block) → is_scalar (query.Block b) ≡ is_scalar_block b
  unfolding is_scalar_block resolving value_fault values_fault truth_fault truths_fault fault_within block_fault source_fault entries_fault on_fault item_fault items_fault values_listed conjuncts_listed conditions_listed entries_listed on_listed items_listed
  scalar-Block b = refl

  pub scalar-Set : (op : n.SetOp) (left right : n.Query) (at : ℕ) → is_scalar (query.Set op left right at) ≡ false
  unfolding resolving value_fault values_fault truth_fault truths_fault fault_within block_fault source_fault entries_fault on_fault item_fault items_fault values_listed conjuncts_listed conditions_listed entries_listed on_listed items_listed
  scalar-Set op left right at = refl

  pub cause-Sub-Block : (f : ScopeFault) (b : n.Block) (at : ℕ) → is_in_group (sight_here levels) ≡ false → is_scalar_block b ≡ false → f ≡ fault.Refused code.ScalarNotAggregate at 0 0 → IsCause f (value_fault known levels (expr.Sub (query.Block b) at))
  cause-Sub-Block f b at h0 h1 h2 = cause-Sub-other f (query.Block b) at h0 (scalar-Block b ∙ h1) h2

  pub cause-Sub-Set : (f : ScopeFault) (op : n.SetOp) (left right : n.Query) (at at' : ℕ) → is_in_group (sight_here levels) ≡ false → f ≡ fault.Refused code.ScalarNotAggregate at' 0 0 → IsCause f (value_fault known levels (expr.Sub (query.Set op left right at) at'))
  cause-Sub-Set f op left right at at' h0 h1 = cause-Sub-other f (query.Set op left right at) at' h0 (scalar-Set op left right at) h1

  pub value-Sub-Block : (b : n.Block) (at : ℕ) → value_fault known levels (expr.Sub (query.Block b) at) ≡ option_or (fault_at (AnExpression AValue levels (expr.Sub (query.Block b) at))) (block_fault known levels b)
  unfolding resolving value_fault values_fault truth_fault truths_fault fault_within block_fault source_fault entries_fault on_fault item_fault items_fault values_listed conjuncts_listed conditions_listed entries_listed on_listed items_listed
  value-Sub-Block b at = refl

  pub cause-Sub-inside : (f : ScopeFault) (b : n.Block) (at : ℕ) → is_in_group (sight_here levels) ≡ false → is_scalar_block b ≡ true → IsCause f (block_fault known levels b) → IsCause f (value_fault known levels (expr.Sub (query.Block b) at))
  cause-Sub-inside f b at h0 h1 h2 = cause-second f _ _ _ (value-Sub-Block b at) (subquery-fault (query.Block b) at false h0 ∙ (rw (scalar-Block b ∙ h1) refl)) h2

  pub fine-Sub : (b : n.Block) (at : ℕ) → is_in_group (sight_here levels) ≡ false → is_scalar_block b ≡ true → block_fault known levels b ≡ None → value_fault known levels (expr.Sub (query.Block b) at) ≡ None
  fine-Sub b at g s none = no-fault-both _ _ _ (value-Sub-Block b at) (subquery-fault (query.Block b) at false g ∙ (rw (scalar-Block b ∙ s) refl)) none

  pub tree-Sub-Block : (b : n.Block) (at : ℕ) → resolved_value (expr.Sub (query.Block b) at) known levels ≡ v.Sub (resolved_block b known levels)
  unfolding resolving value_fault values_fault truth_fault truths_fault fault_within block_fault source_fault entries_fault on_fault item_fault items_fault values_listed conjuncts_listed conditions_listed entries_listed on_listed items_listed
  tree-Sub-Block b at = refl

pub ruleset laws = (causes, value-Col, value-Lit, value-Fun, value-Call, value-Pred, value-Eq, value-And, value-Or, value-Not, value-Exists, value-In, cause-Col, cause-Fun, cause-Call, cause-Pred, cause-Eq, cause-And, cause-Or, cause-Not, cause-Exists, cause-In, tree-Col, tree-Lit, tree-Fun, tree-Call, tree-Agg, tree-Sub, cause-Agg, cause-Agg-argument, fine-Agg, cause-Sub-grouped, cause-Sub-other, cause-Sub-Block, cause-Sub-Set, cause-Sub-inside, fine-Sub, tree-Sub-Block)
