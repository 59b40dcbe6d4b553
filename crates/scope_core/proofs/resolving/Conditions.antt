-- Conditions as code resolves them: their faults and their conjuncts.
use Rattle.std.proofs.Common.{◌≡◌, ℕ, ◌+◌, ◌<◌, ◌≤◌, Bool, true, false, List, [], ◌∷◌, ◌++◌, map, length, drop, get_or, Option, Some, None, refl, ap, sym, ◌∙◌}
use Rattle.std.specs.Prelude.{if◌then◌else◌}
use Rattle.std.specs.Option.{option_or}
use Rattle.sql_model.specs.Syntax as n
use Rattle.sql_model.specs.declared.tree.Expr.TheVariants as expr
use Rattle.sql_model.specs.Headings.{output_columns}
use Rattle.scope_core.specs.declared.fault.ScopeFault.{ScopeFault}
use Rattle.scope_core.specs.declared.fault.ScopeFault.TheVariants as fault
use Rattle.scope_core.specs.declared.fault.ScopeCode.TheVariants as code
use Rattle.scope_core.specs.declared.tree.RCond.TheVariants as c
use Rattle.scope_core.specs.Answer.{IsCause}
use Rattle.scope_core.specs.Compute.{resolving}
use Rattle.scope_core.specs.FirstFault.{fault_at}
use Rattle.scope_core.specs.Lent.{row_of}
use Rattle.scope_core.specs.Parts.{IsSingle, value_fault, values_fault, truth_fault, truths_fault, fault_within, block_fault, source_fault, entries_fault, on_fault, item_fault, items_fault, values_listed, conjuncts_listed, conditions_listed, entries_listed, on_listed, items_listed}
use Rattle.scope_core.specs.Resolving.{conjunction, conjuncts, resolved, resolved_value}
use Rattle.scope_core.specs.Scope.{Known, heading, Levels, sight_here}
use Rattle.scope_core.specs.Faults.{is_in_group}
use Rattle.scope_core.specs.Sites.{ATruth, AnExpression, TwoWidths, value_sites, truth_sites, truths_sites, sites}
use Rattle.scope_core.proofs.basics.Lists.{at-head, at-end}
use Rattle.scope_core.proofs.resolving.Columns.{causes, cause-is}
use Rattle.scope_core.proofs.resolving.Walks.{first_fault-append, first_fault-three, cause-first, cause-second, cause-same, no-fault-both}

module _ (known : List Known) (levels : Levels) where
  pub truth-Pred : (symbol : ℕ) (args : List n.Expr) (at : ℕ) → truth_fault known levels (expr.Pred symbol args at) ≡ values_fault known levels args
  unfolding resolving value_fault values_fault truth_fault truths_fault fault_within block_fault source_fault entries_fault on_fault item_fault items_fault values_listed conjuncts_listed conditions_listed entries_listed on_listed items_listed
  truth-Pred symbol args at = refl

  pub truth-Call : (symbol : ℕ) (args : List n.Expr) (at : ℕ) → truth_fault known levels (expr.Call symbol args at) ≡ values_fault known levels args
  unfolding resolving value_fault values_fault truth_fault truths_fault fault_within block_fault source_fault entries_fault on_fault item_fault items_fault values_listed conjuncts_listed conditions_listed entries_listed on_listed items_listed
  truth-Call symbol args at = refl

  pub truth-Eq : (left right : n.Expr) (at : ℕ) → truth_fault known levels (expr.Eq left right at) ≡ option_or (value_fault known levels left) (value_fault known levels right)
  unfolding resolving value_fault values_fault truth_fault truths_fault fault_within block_fault source_fault entries_fault on_fault item_fault items_fault values_listed conjuncts_listed conditions_listed entries_listed on_listed items_listed
  truth-Eq left right at = first_fault-append (value_sites left known levels) (value_sites right known levels)

  pub truth-And : (parts : List n.Expr) (at : ℕ) → truth_fault known levels (expr.And parts at) ≡ truths_fault known levels parts
  unfolding resolving value_fault values_fault truth_fault truths_fault fault_within block_fault source_fault entries_fault on_fault item_fault items_fault values_listed conjuncts_listed conditions_listed entries_listed on_listed items_listed
  truth-And parts at = refl

  pub truth-Or : (parts : List n.Expr) (at : ℕ) → truth_fault known levels (expr.Or parts at) ≡ truths_fault known levels parts
  unfolding resolving value_fault values_fault truth_fault truths_fault fault_within block_fault source_fault entries_fault on_fault item_fault items_fault values_listed conjuncts_listed conditions_listed entries_listed on_listed items_listed
  truth-Or parts at = refl

  pub truth-Not : (part : n.Expr) (at : ℕ) → truth_fault known levels (expr.Not part at) ≡ truth_fault known levels part
  unfolding resolving value_fault values_fault truth_fault truths_fault fault_within block_fault source_fault entries_fault on_fault item_fault items_fault values_listed conjuncts_listed conditions_listed entries_listed on_listed items_listed
  truth-Not part at = refl

  pub truth-Exists : (query : n.Query) (at : ℕ) → truth_fault known levels (expr.Exists query at) ≡ option_or (fault_at (AnExpression ATruth levels (expr.Exists query at))) (fault_within known levels query)
  unfolding resolving value_fault values_fault truth_fault truths_fault fault_within block_fault source_fault entries_fault on_fault item_fault items_fault values_listed conjuncts_listed conditions_listed entries_listed on_listed items_listed
  truth-Exists query at = refl

  pub truth-In : (left : n.Expr) (query : n.Query) (at in_at : ℕ) → truth_fault known levels (expr.In left query at in_at) ≡ option_or (fault_at (AnExpression ATruth levels (expr.In left query at in_at))) (option_or (value_fault known levels left) (option_or (fault_within known levels query) (fault_at (TwoWidths 1 (length (output_columns query (map heading known))) in_at))))
  unfolding resolving value_fault values_fault truth_fault truths_fault fault_within block_fault source_fault entries_fault on_fault item_fault items_fault values_listed conjuncts_listed conditions_listed entries_listed on_listed items_listed
  truth-In left query at in_at = ap (option_or (fault_at (AnExpression ATruth levels (expr.In left query at in_at)))) (first_fault-three (value_sites left known levels) (sites query known levels) (TwoWidths 1 (length (output_columns query (map heading known))) in_at))

  pub truth-Lit : (lit at : ℕ) → truth_fault known levels (expr.Lit lit at) ≡ Some (fault.Refused code.NotTruth at 0 0)
  unfolding resolving value_fault values_fault truth_fault truths_fault fault_within block_fault source_fault entries_fault on_fault item_fault items_fault values_listed conjuncts_listed conditions_listed entries_listed on_listed items_listed
  truth-Lit lit at = refl

  pub truth-Fun : (symbol : ℕ) (args : List n.Expr) (at : ℕ) → truth_fault known levels (expr.Fun symbol args at) ≡ Some (fault.Refused code.NotTruth at 0 0)
  unfolding resolving value_fault values_fault truth_fault truths_fault fault_within block_fault source_fault entries_fault on_fault item_fault items_fault values_listed conjuncts_listed conditions_listed entries_listed on_listed items_listed
  truth-Fun symbol args at = refl

  pub truth-Agg : (fun : n.AggFun) (d : Bool) (argument : Option n.Expr) (at : ℕ) → truth_fault known levels (expr.Agg fun d argument at) ≡ Some (fault.Refused code.NotTruth at 0 0)
  unfolding resolving value_fault values_fault truth_fault truths_fault fault_within block_fault source_fault entries_fault on_fault item_fault items_fault values_listed conjuncts_listed conditions_listed entries_listed on_listed items_listed
  truth-Agg fun d argument at = refl

  pub truth-Sub : (query : n.Query) (at : ℕ) → truth_fault known levels (expr.Sub query at) ≡ Some (fault.Refused code.NotTruth at 0 0)
  unfolding resolving value_fault values_fault truth_fault truths_fault fault_within block_fault source_fault entries_fault on_fault item_fault items_fault values_listed conjuncts_listed conditions_listed entries_listed on_listed items_listed
  truth-Sub query at = refl

  pub truth-Col : (qual : Option n.Name) (qual_at : ℕ) (name : n.Name) (at : ℕ) → truth_fault known levels (expr.Col qual qual_at name at) ≡ Some (fault.Refused code.NotTruth at 0 0)
  unfolding resolving value_fault values_fault truth_fault truths_fault fault_within block_fault source_fault entries_fault on_fault item_fault items_fault values_listed conjuncts_listed conditions_listed entries_listed on_listed items_listed
  truth-Col qual qual_at name at = refl

  pub cause-truth-Pred : (f : ScopeFault) (symbol : ℕ) (args : List n.Expr) (at : ℕ) → IsCause f (values_fault known levels args) → IsCause f (truth_fault known levels (expr.Pred symbol args at))
  cause-truth-Pred f symbol args at h0 = cause-same f _ _ (truth-Pred symbol args at) h0

  pub cause-truth-Call : (f : ScopeFault) (symbol : ℕ) (args : List n.Expr) (at : ℕ) → IsCause f (values_fault known levels args) → IsCause f (truth_fault known levels (expr.Call symbol args at))
  cause-truth-Call f symbol args at h0 = cause-same f _ _ (truth-Call symbol args at) h0

  pub cause-truth-Eq-left : (f : ScopeFault) (left right : n.Expr) (at : ℕ) → IsCause f (value_fault known levels left) → IsCause f (truth_fault known levels (expr.Eq left right at))
  cause-truth-Eq-left f left right at h0 = cause-first f _ _ _ (truth-Eq left right at) h0

  pub cause-truth-Eq-right : (f : ScopeFault) (left right : n.Expr) (at : ℕ) → value_fault known levels left ≡ None → IsCause f (value_fault known levels right) → IsCause f (truth_fault known levels (expr.Eq left right at))
  cause-truth-Eq-right f left right at h0 h1 = cause-second f _ _ _ (truth-Eq left right at) h0 h1

  pub cause-truth-And : (f : ScopeFault) (parts : List n.Expr) (at : ℕ) → IsCause f (truths_fault known levels parts) → IsCause f (truth_fault known levels (expr.And parts at))
  cause-truth-And f parts at h0 = cause-same f _ _ (truth-And parts at) h0

  pub cause-truth-Or : (f : ScopeFault) (parts : List n.Expr) (at : ℕ) → IsCause f (truths_fault known levels parts) → IsCause f (truth_fault known levels (expr.Or parts at))
  cause-truth-Or f parts at h0 = cause-same f _ _ (truth-Or parts at) h0

  pub cause-truth-Not : (f : ScopeFault) (part : n.Expr) (at : ℕ) → IsCause f (truth_fault known levels part) → IsCause f (truth_fault known levels (expr.Not part at))
  cause-truth-Not f part at h0 = cause-same f _ _ (truth-Not part at) h0

  pub cause-truth-Lit : (f : ScopeFault) (lit at : ℕ) → f ≡ fault.Refused code.NotTruth at 0 0 → IsCause f (truth_fault known levels (expr.Lit lit at))
  cause-truth-Lit f lit at h0 = cause-is f _ (truth-Lit lit at ∙ ap (λ x. Some x) (sym h0))

  pub cause-truth-Fun : (f : ScopeFault) (symbol : ℕ) (args : List n.Expr) (at : ℕ) → f ≡ fault.Refused code.NotTruth at 0 0 → IsCause f (truth_fault known levels (expr.Fun symbol args at))
  cause-truth-Fun f symbol args at h0 = cause-is f _ (truth-Fun symbol args at ∙ ap (λ x. Some x) (sym h0))

  pub cause-truth-Agg : (f : ScopeFault) (fun : n.AggFun) (d : Bool) (argument : Option n.Expr) (at : ℕ) → f ≡ fault.Refused code.NotTruth at 0 0 → IsCause f (truth_fault known levels (expr.Agg fun d argument at))
  cause-truth-Agg f fun d argument at h0 = cause-is f _ (truth-Agg fun d argument at ∙ ap (λ x. Some x) (sym h0))

  pub cause-truth-Sub : (f : ScopeFault) (query : n.Query) (at : ℕ) → f ≡ fault.Refused code.NotTruth at 0 0 → IsCause f (truth_fault known levels (expr.Sub query at))
  cause-truth-Sub f query at h0 = cause-is f _ (truth-Sub query at ∙ ap (λ x. Some x) (sym h0))

  pub cause-truth-Col : (f : ScopeFault) (qual : Option n.Name) (qual_at : ℕ) (name : n.Name) (at : ℕ) → f ≡ fault.Refused code.NotTruth at 0 0 → IsCause f (truth_fault known levels (expr.Col qual qual_at name at))
  cause-truth-Col f qual qual_at name at h0 = cause-is f _ (truth-Col qual qual_at name at ∙ ap (λ x. Some x) (sym h0))

  pub conjuncts-Pred : (symbol : ℕ) (args : List n.Expr) (at : ℕ) → conjuncts (expr.Pred symbol args at) known levels ≡ c.Pred symbol (values_listed known levels args) ∷ []
  unfolding resolving value_fault values_fault truth_fault truths_fault fault_within block_fault source_fault entries_fault on_fault item_fault items_fault values_listed conjuncts_listed conditions_listed entries_listed on_listed items_listed
  conjuncts-Pred symbol args at = refl

  pub conjuncts-Call : (symbol : ℕ) (args : List n.Expr) (at : ℕ) → conjuncts (expr.Call symbol args at) known levels ≡ c.Pred symbol (values_listed known levels args) ∷ []
  unfolding resolving value_fault values_fault truth_fault truths_fault fault_within block_fault source_fault entries_fault on_fault item_fault items_fault values_listed conjuncts_listed conditions_listed entries_listed on_listed items_listed
  conjuncts-Call symbol args at = refl

  pub conjuncts-Eq : (left right : n.Expr) (at : ℕ) → conjuncts (expr.Eq left right at) known levels ≡ c.Eq (resolved_value left known levels) (resolved_value right known levels) ∷ []
  unfolding resolving value_fault values_fault truth_fault truths_fault fault_within block_fault source_fault entries_fault on_fault item_fault items_fault values_listed conjuncts_listed conditions_listed entries_listed on_listed items_listed
  conjuncts-Eq left right at = refl

  pub conjuncts-And : (parts : List n.Expr) (at : ℕ) → conjuncts (expr.And parts at) known levels ≡ conjuncts_listed known levels parts
  unfolding resolving value_fault values_fault truth_fault truths_fault fault_within block_fault source_fault entries_fault on_fault item_fault items_fault values_listed conjuncts_listed conditions_listed entries_listed on_listed items_listed
  conjuncts-And parts at = refl

  pub conjuncts-Or : (parts : List n.Expr) (at : ℕ) → conjuncts (expr.Or parts at) known levels ≡ c.Or (conditions_listed known levels parts) ∷ []
  unfolding resolving value_fault values_fault truth_fault truths_fault fault_within block_fault source_fault entries_fault on_fault item_fault items_fault values_listed conjuncts_listed conditions_listed entries_listed on_listed items_listed
  conjuncts-Or parts at = refl

  pub conjuncts-Not : (part : n.Expr) (at : ℕ) → conjuncts (expr.Not part at) known levels ≡ c.Not (conjunction (conjuncts part known levels)) ∷ []
  unfolding resolving value_fault values_fault truth_fault truths_fault fault_within block_fault source_fault entries_fault on_fault item_fault items_fault values_listed conjuncts_listed conditions_listed entries_listed on_listed items_listed
  conjuncts-Not part at = refl

  pub conjuncts-Exists : (query : n.Query) (at : ℕ) → conjuncts (expr.Exists query at) known levels ≡ c.Exists (resolved query known levels) ∷ []
  unfolding resolving value_fault values_fault truth_fault truths_fault fault_within block_fault source_fault entries_fault on_fault item_fault items_fault values_listed conjuncts_listed conditions_listed entries_listed on_listed items_listed
  conjuncts-Exists query at = refl

  pub conjuncts-In : (left : n.Expr) (query : n.Query) (at in_at : ℕ) → conjuncts (expr.In left query at in_at) known levels ≡ c.In (resolved_value left known levels) (resolved query known levels) ∷ []
  unfolding resolving value_fault values_fault truth_fault truths_fault fault_within block_fault source_fault entries_fault on_fault item_fault items_fault values_listed conjuncts_listed conditions_listed entries_listed on_listed items_listed
  conjuncts-In left query at in_at = refl

  pub truths-cons : (e : n.Expr) (es : List n.Expr) → truths_fault known levels (e ∷ es) ≡ option_or (truth_fault known levels e) (truths_fault known levels es)
  unfolding resolving value_fault values_fault truth_fault truths_fault fault_within block_fault source_fault entries_fault on_fault item_fault items_fault values_listed conjuncts_listed conditions_listed entries_listed on_listed items_listed
  truths-cons e es = first_fault-append (truth_sites e known levels) (truths_sites (row_of es) known levels)

  pub truths-nil : Unit {0} → truths_fault known levels [] ≡ None
  unfolding resolving value_fault values_fault truth_fault truths_fault fault_within block_fault source_fault entries_fault on_fault item_fault items_fault values_listed conjuncts_listed conditions_listed entries_listed on_listed items_listed
  truths-nil u = refl

  pub truths-drop : (es : List n.Expr) (i : ℕ) (e : n.Expr) → i < length es → e ≡ get_or es i e → truths_fault known levels (drop i es) ≡ option_or (truth_fault known levels e) (truths_fault known levels (drop (i + 1) es))
  truths-drop es i e h is = at-head (truths_fault known levels) es i e h is ∙ truths-cons e (drop (i + 1) es)

  pub truths-past : (es : List n.Expr) (i : ℕ) → length es ≤ i → truths_fault known levels (drop i es) ≡ None
  truths-past es i h = at-end (truths_fault known levels) es i h ∙ truths-nil tt

  pub conjuncts-cons : (e : n.Expr) (es : List n.Expr) → conjuncts_listed known levels (e ∷ es) ≡ conjuncts e known levels ++ conjuncts_listed known levels es
  unfolding resolving value_fault values_fault truth_fault truths_fault fault_within block_fault source_fault entries_fault on_fault item_fault items_fault values_listed conjuncts_listed conditions_listed entries_listed on_listed items_listed
  conjuncts-cons e es = refl

  pub conjuncts-nil : Unit {0} → conjuncts_listed known levels [] ≡ []
  unfolding resolving value_fault values_fault truth_fault truths_fault fault_within block_fault source_fault entries_fault on_fault item_fault items_fault values_listed conjuncts_listed conditions_listed entries_listed on_listed items_listed
  conjuncts-nil u = refl

  pub conditions-cons : (e : n.Expr) (es : List n.Expr) → conditions_listed known levels (e ∷ es) ≡ conjunction (conjuncts e known levels) ∷ conditions_listed known levels es
  unfolding resolving value_fault values_fault truth_fault truths_fault fault_within block_fault source_fault entries_fault on_fault item_fault items_fault values_listed conjuncts_listed conditions_listed entries_listed on_listed items_listed
  conditions-cons e es = refl

  pub conditions-nil : Unit {0} → conditions_listed known levels [] ≡ []
  unfolding resolving value_fault values_fault truth_fault truths_fault fault_within block_fault source_fault entries_fault on_fault item_fault items_fault values_listed conjuncts_listed conditions_listed entries_listed on_listed items_listed
  conditions-nil u = refl

  exists-fault : (query : n.Query) (at : ℕ) (grouped : Bool) → is_in_group (sight_here levels) ≡ grouped
      → fault_at (AnExpression ATruth levels (expr.Exists query at)) ≡ (if grouped then Some (fault.Refused code.SubqueryInGroup at 0 0) else None)
  unfolding resolving value_fault values_fault truth_fault truths_fault fault_within block_fault source_fault entries_fault on_fault item_fault items_fault values_listed conjuncts_listed conditions_listed entries_listed on_listed items_listed
  exists-fault query at true e = rw e refl
  exists-fault query at false e = rw e refl

  pub cause-truth-Exists-grouped : (f : ScopeFault) (query : n.Query) (at : ℕ) → is_in_group (sight_here levels) ≡ true → f ≡ fault.Refused code.SubqueryInGroup at 0 0 → IsCause f (truth_fault known levels (expr.Exists query at))
  cause-truth-Exists-grouped f query at h0 h1 = cause-first f _ _ _ (truth-Exists query at) (cause-is f _ (exists-fault query at true h0 ∙ ap (λ x. Some x) (sym h1)))

  in-fault : (left : n.Expr) (query : n.Query) (at in_at : ℕ) (grouped : Bool) → is_in_group (sight_here levels) ≡ grouped
      → fault_at (AnExpression ATruth levels (expr.In left query at in_at)) ≡ (if grouped then Some (fault.Refused code.SubqueryInGroup at 0 0) else None)
  unfolding resolving value_fault values_fault truth_fault truths_fault fault_within block_fault source_fault entries_fault on_fault item_fault items_fault values_listed conjuncts_listed conditions_listed entries_listed on_listed items_listed
  in-fault left query at in_at true e = rw e refl
  in-fault left query at in_at false e = rw e refl

  pub cause-truth-In-grouped : (f : ScopeFault) (left : n.Expr) (query : n.Query) (at in_at : ℕ) → is_in_group (sight_here levels) ≡ true → f ≡ fault.Refused code.SubqueryInGroup at 0 0 → IsCause f (truth_fault known levels (expr.In left query at in_at))
  cause-truth-In-grouped f left query at in_at h0 h1 = cause-first f _ _ _ (truth-In left query at in_at) (cause-is f _ (in-fault left query at in_at true h0 ∙ ap (λ x. Some x) (sym h1)))

  pub cause-truth-Exists-query : (f : ScopeFault) (query : n.Query) (at : ℕ) → is_in_group (sight_here levels) ≡ false → IsCause f (fault_within known levels query) → IsCause f (truth_fault known levels (expr.Exists query at))
  cause-truth-Exists-query f query at h0 h1 = cause-second f _ _ _ (truth-Exists query at) (exists-fault query at false h0) h1

  pub fine-Exists : (query : n.Query) (at : ℕ) → is_in_group (sight_here levels) ≡ false → fault_within known levels query ≡ None → truth_fault known levels (expr.Exists query at) ≡ None
  fine-Exists query at g none = no-fault-both _ _ _ (truth-Exists query at) (exists-fault query at false g) none

  pub cause-truth-In-value : (f : ScopeFault) (left : n.Expr) (query : n.Query) (at in_at : ℕ) → is_in_group (sight_here levels) ≡ false → IsCause f (value_fault known levels left) → IsCause f (truth_fault known levels (expr.In left query at in_at))
  cause-truth-In-value f left query at in_at h0 h1 = cause-second f _ _ _ (truth-In left query at in_at) (in-fault left query at in_at false h0) (cause-first f _ _ _ refl h1)

  pub cause-truth-In-query : (f : ScopeFault) (left : n.Expr) (query : n.Query) (at in_at : ℕ) → is_in_group (sight_here levels) ≡ false → value_fault known levels left ≡ None → IsCause f (fault_within known levels query) → IsCause f (truth_fault known levels (expr.In left query at in_at))
  cause-truth-In-query f left query at in_at h0 h1 h2 = cause-second f _ _ _ (truth-In left query at in_at) (in-fault left query at in_at false h0) (cause-second f _ _ _ refl h1 (cause-first f _ _ _ refl h2))

  pub cause-truth-In-width : (f : ScopeFault) (left : n.Expr) (query : n.Query) (at in_at : ℕ) → is_in_group (sight_here levels) ≡ false → value_fault known levels left ≡ None → fault_within known levels query ≡ None → IsCause f (fault_at (TwoWidths 1 (length (output_columns query (map heading known))) in_at)) → IsCause f (truth_fault known levels (expr.In left query at in_at))
  cause-truth-In-width f left query at in_at h0 h1 h2 h3 = cause-second f _ _ _ (truth-In left query at in_at) (in-fault left query at in_at false h0) (cause-second f _ _ _ refl h1 (cause-second f _ _ _ refl h2 h3))

  pub fine-In : (left : n.Expr) (query : n.Query) (at in_at : ℕ) → is_in_group (sight_here levels) ≡ false → value_fault known levels left ≡ None → fault_within known levels query ≡ None → fault_at (TwoWidths 1 (length (output_columns query (map heading known))) in_at) ≡ None → truth_fault known levels (expr.In left query at in_at) ≡ None
  fine-In left query at in_at g a b d = no-fault-both _ _ _ (truth-In left query at in_at) (in-fault left query at in_at false g) (no-fault-both _ _ _ refl a (no-fault-both _ _ _ refl b d))

  pub conjuncts-single : (e : n.Expr) → IsSingle e → conjuncts e known levels ≡ conjunction (conjuncts e known levels) ∷ []
  unfolding IsSingle resolving value_fault values_fault truth_fault truths_fault fault_within block_fault source_fault entries_fault on_fault item_fault items_fault values_listed conjuncts_listed conditions_listed entries_listed on_listed items_listed
  conjuncts-single e h = h known levels

pub ruleset laws = (causes, truth-Pred, truth-Call, truth-Eq, truth-And, truth-Or, truth-Not, truth-Exists, truth-In, truth-Lit, truth-Fun, truth-Agg, truth-Sub, truth-Col, cause-truth-Pred, cause-truth-Call, cause-truth-Eq-left, cause-truth-Eq-right, cause-truth-And, cause-truth-Or, cause-truth-Not, cause-truth-Lit, cause-truth-Fun, cause-truth-Agg, cause-truth-Sub, cause-truth-Col, conjuncts-Pred, conjuncts-Call, conjuncts-Eq, conjuncts-And, conjuncts-Or, conjuncts-Not, conjuncts-Exists, conjuncts-In, cause-truth-Exists-grouped, cause-truth-In-grouped, cause-truth-Exists-query, cause-truth-In-value, cause-truth-In-query, cause-truth-In-width, fine-Exists, fine-In)
