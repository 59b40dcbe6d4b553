-- How much work the building of a tree's term has left: the weights of the views below, of the node, and of the entries and conditions of the
-- groups around, added up.
use Rattle.std.proofs.Common.{◌≡◌, ℕ, zero, suc, ◌+◌, ◌<◌, ◌≤◌, Bool, List, [], ◌∷◌, ◌++◌, length, take, get_or, Option, Some, None, refl, ap, sym, ◌∙◌, arith}
use Rattle.std.specs.Prelude.{slice_get}
use Rattle.std.proofs.lemmas.Option.{same_Some}
use Rattle.sql_model.specs.Syntax.{AggFun, SetOp}
use Rattle.scope_core.specs.Syntax.{Col, Key, Lit, Fun, Agg, Sub, Values, NoValues, ValueThen, MaybeArgument, NoArgument, AnArgument, Eq, Pred, And, Or, Not, Exists, In, Conditions, NoConditions, ConditionThen, MaybeCondition, NoCondition, ACondition, RSource, Table, View, Derived, Entries, NoEntries, EntryThen, Select, OfBlock, Set, RVal, RCond, RBlock, RQuery, Grouping}
use Rattle.scope_core.specs.declared.tree.RCond.TheBlock as t
use Rattle.scope_core.specs.declared.tree.RVal.TheVariants as v
use Rattle.scope_core.specs.declared.tree.RCond.TheVariants as c
use Rattle.scope_core.specs.declared.tree.RSource.TheVariants as s
use Rattle.scope_core.specs.declared.tree.RQuery.TheVariants as q
use Rattle.scope_core.specs.declared.tree.RBlock.{roll-RBlock, out-RBlock, roll-out-RBlock}
use Rattle.scope_core.specs.declared.tree.REntry.{REntry}
use Rattle.scope_core.specs.Compute.{everything}
use Rattle.scope_core.specs.Written.{written}
use Rattle.sql_to_u.specs.declared.scope.Scope.{Scope as LentScope}
use Rattle.sql_to_u.specs.declared.scope.Scope.TheVariants as around
use Rattle.sql_to_u.specs.Answer.{over_earlier}
use Rattle.sql_to_u.proofs.terms.OverEarlier.{at-place}

module _ (views : List ℕ) where
  unfoldable mutual
    pub query_weight : RQuery → ℕ
    query_weight (OfBlock block) = 1 + block_weight block
    query_weight (Set op left right) = 1 + (query_weight left + query_weight right)

    pub block_weight : RBlock → ℕ
    block_weight (Select is_distinct s entries s' conds grouping having s'' items) =
        8 + (entries_weight entries + (conditions_weight conds + (having_weight having + values_weight items)))

    pub entries_weight : {m : _} → Entries m → ℕ
    entries_weight NoEntries = 0
    entries_weight (EntryThen source wide rest) = 1 + (source_weight source + entries_weight rest)

    pub source_weight : RSource → ℕ
    source_weight (Table number) = 1
    source_weight (View place) = 2 + get_or views place 0
    source_weight (Derived query) = 1 + query_weight query

    pub having_weight : MaybeCondition → ℕ
    having_weight NoCondition = 0
    having_weight (ACondition condition) = 1 + condition_weight condition

    pub condition_weight : RCond → ℕ
    condition_weight (Eq left right) = 1 + (value_weight left + value_weight right)
    condition_weight (Pred sym s args) = 2 + values_weight args
    condition_weight (And s parts) = 2 + conditions_weight parts
    condition_weight (Or s parts) = 2 + conditions_weight parts
    condition_weight (Not part) = 1 + condition_weight part
    condition_weight (Exists query) = 2 + query_weight query
    condition_weight (In left query) = 1 + (value_weight left + query_weight query)

    pub conditions_weight : {m : _} → Conditions m → ℕ
    conditions_weight NoConditions = 0
    conditions_weight (ConditionThen condition rest) = 1 + (condition_weight condition + conditions_weight rest)

    pub value_weight : RVal → ℕ
    value_weight (Col up entry col) = 1
    value_weight (Key place) = 1
    value_weight (Lit lit) = 1
    value_weight (Fun sym s args) = 2 + values_weight args
    value_weight (Agg fun is_distinct argument) = 4 + argument_weight argument
    value_weight (Sub block) = 2 + block_weight block

    pub argument_weight : MaybeArgument → ℕ
    argument_weight NoArgument = 0
    argument_weight (AnArgument e) = value_weight e

    pub values_weight : {m : _} → Values m → ℕ
    values_weight NoValues = 0
    values_weight (ValueThen e rest) = 1 + (value_weight e + values_weight rest)

  -- ---- at lists as code has them
  unfoldable pub entries_left : List REntry → ℕ
  entries_left es = entries_weight (t.hidden-the_row-REntry-7 es)

  unfoldable pub conditions_left : List RCond → ℕ
  conditions_left cs = conditions_weight (t.hidden-the_row-RCond-2 cs)

  unfoldable pub values_left : List RVal → ℕ
  values_left es = values_weight (t.hidden-the_row-RVal-1 es)

  abbrev pub having_left : Option RCond → ℕ
  having_left None = 0
  having_left (Some condition) = 1 + condition_weight condition

  abbrev pub argument_left : Option RVal → ℕ
  argument_left None = 0
  argument_left (Some e) = value_weight e

  -- the entries and conditions of a block
  abbrev pub joined_left : RBlock → ℕ
  joined_left b = entries_left (out-RBlock b).entries + conditions_left (out-RBlock b).conds

  abbrev pub parts_left : RBlock → ℕ
  parts_left b =
      entries_left (out-RBlock b).entries + (conditions_left (out-RBlock b).conds + (having_left (out-RBlock b).having + values_left (out-RBlock b).items))

  -- the groups around
  abbrev pub groups_left : LentScope → ℕ
  groups_left around.Outside = 0
  groups_left (around.Rows' firsts p outer) = groups_left outer
  groups_left (around.Group' group p outer) = 4 + joined_left group.block.now + groups_left outer

  -- ---- at each constructor
  pub query-Block : (b : RBlock) → query_weight (q.Block b) ≡ 1 + block_weight b
  unfolding everything query_weight
  query-Block b = refl

  pub query-Set : (op : SetOp) (left right : RQuery) → query_weight (q.Set op left right) ≡ 1 + (query_weight left + query_weight right)
  unfolding everything query_weight
  query-Set op left right = refl

  pub source-View : (place : ℕ) → source_weight (s.View place) ≡ 2 + get_or views place 0
  unfolding everything query_weight
  source-View place = refl

  pub source-Query : (query : RQuery) → source_weight (s.Query query) ≡ 1 + query_weight query
  unfolding everything query_weight
  source-Query query = refl

  pub condition-Eq : (left right : RVal) → condition_weight (c.Eq left right) ≡ 1 + (value_weight left + value_weight right)
  unfolding everything query_weight
  condition-Eq left right = refl

  pub condition-Pred : (sym : ℕ) (args : List RVal) → condition_weight (c.Pred sym args) ≡ 2 + values_left args
  unfolding everything query_weight values_left
  condition-Pred sym args = refl

  pub condition-And : (parts : List RCond) → condition_weight (c.And parts) ≡ 2 + conditions_left parts
  unfolding everything query_weight conditions_left
  condition-And parts = refl

  pub condition-Or : (parts : List RCond) → condition_weight (c.Or parts) ≡ 2 + conditions_left parts
  unfolding everything query_weight conditions_left
  condition-Or parts = refl

  pub condition-Not : (part : RCond) → condition_weight (c.Not part) ≡ 1 + condition_weight part
  unfolding everything query_weight
  condition-Not part = refl

  pub condition-Exists : (query : RQuery) → condition_weight (c.Exists query) ≡ 2 + query_weight query
  unfolding everything query_weight
  condition-Exists query = refl

  pub condition-In : (left : RVal) (query : RQuery) → condition_weight (c.In left query) ≡ 1 + (value_weight left + query_weight query)
  unfolding everything query_weight
  condition-In left query = refl

  pub value-Fun : (sym : ℕ) (args : List RVal) → value_weight (v.Fun sym args) ≡ 2 + values_left args
  unfolding everything query_weight values_left
  value-Fun sym args = refl

  pub value-Agg : (fun : AggFun) (d : Bool) (argument : Option RVal) → value_weight (v.Agg fun d argument) ≡ 4 + argument_left argument
  unfolding everything query_weight
  value-Agg fun d None = refl
  value-Agg fun d (Some argument) = refl

  pub value-Sub : (b : RBlock) → value_weight (v.Sub b) ≡ 2 + block_weight b
  unfolding everything query_weight
  value-Sub b = refl

  block-rolled : (d : Bool) (es : List REntry) (cs : List RCond) (gr : Grouping) (h : Option RCond) (items : List RVal)
      → block_weight (roll-RBlock (record { distinct = d; entries = es; conds = cs; grouping = gr; having = h; items = items }))
      ≡ 8 + (entries_left es + (conditions_left cs + (having_left h + values_left items)))
  unfolding everything query_weight entries_left conditions_left values_left
  block-rolled d es cs gr None items = refl
  block-rolled d es cs gr (Some h) items = refl

  pub block-is : (b : RBlock) → block_weight b ≡ 8 + parts_left b
  block-is b =
      ap block_weight (sym (roll-out-RBlock b))
      ∙ block-rolled (out-RBlock b).distinct (out-RBlock b).entries (out-RBlock b).conds (out-RBlock b).grouping (out-RBlock b).having (out-RBlock b).items

  -- ---- of lists
  entries-more : (e : REntry) (es : List REntry) → entries_left (e ∷ es) ≡ 1 + (source_weight e.source + entries_left es)
  unfolding everything query_weight entries_left
  entries-more e es = refl

  conditions-more : (e : RCond) (es : List RCond) → conditions_left (e ∷ es) ≡ 1 + (condition_weight e + conditions_left es)
  unfolding everything query_weight conditions_left
  conditions-more e es = refl

  values-more : (e : RVal) (es : List RVal) → values_left (e ∷ es) ≡ 1 + (value_weight e + values_left es)
  unfolding everything query_weight values_left
  values-more e es = refl

  values-none : values_left [] ≡ 0
  unfolding everything query_weight values_left
  values-none = refl

  pub entry-in : (es : List REntry) (i : ℕ) (e : REntry) → i < length es → e ≡ get_or es i e → source_weight e.source < entries_left es
  entry-in [] i e h is = absurd (omega (arith, h))
  entry-in (x ∷ es) zero e h is = let m = entries-more x es in let w = ap (λ (y : REntry). source_weight y.source) is in omega (arith, m, w)
  entry-in (x ∷ es) (suc i) e h is = let m = entries-more x es in let r = entry-in es i e (omega (arith, h)) is in omega (arith, m, r)

  pub condition-in : (es : List RCond) (i : ℕ) (e : RCond) → i < length es → e ≡ get_or es i e → condition_weight e < conditions_left es
  condition-in [] i e h is = absurd (omega (arith, h))
  condition-in (x ∷ es) zero e h is = let m = conditions-more x es in let w = ap condition_weight is in omega (arith, m, w)
  condition-in (x ∷ es) (suc i) e h is = let m = conditions-more x es in let r = condition-in es i e (omega (arith, h)) is in omega (arith, m, r)

  pub value-in : (es : List RVal) (i : ℕ) (e : RVal) → i < length es → e ≡ get_or es i e → value_weight e < values_left es
  value-in [] i e h is = absurd (omega (arith, h))
  value-in (x ∷ es) zero e h is = let m = values-more x es in let w = ap value_weight is in omega (arith, m, w)
  value-in (x ∷ es) (suc i) e h is = let m = values-more x es in let r = value-in es i e (omega (arith, h)) is in omega (arith, m, r)

  values-both : (xs ys : List RVal) → values_left (xs ++ ys) ≡ values_left xs + values_left ys
  values-both [] ys = let n = values-none in omega (arith, n)
  values-both (x ∷ xs) ys = let m = values-more x xs in let w = values-more x (xs ++ ys) in let r = values-both xs ys in omega (arith, m, w, r)

  pub last-in : (parts : List (List RVal)) (last : List RVal) → values_left last ≤ values_left (written parts last)
  last-in [] last = omega arith
  last-in (part ∷ rest) last = let b = values-both part (written rest last) in let r = last-in rest last in omega (arith, b, r)

  pub part-in : (parts : List (List RVal)) (last : List RVal) (i : ℕ) (part : List RVal) → i < length parts → part ≡ get_or parts i part
      → values_left part ≤ values_left (written parts last)
  part-in [] last i part h is = absurd (omega (arith, h))
  part-in (x ∷ rest) last zero part h is = let b = values-both x (written rest last) in let w = ap values_left is in omega (arith, b, w)
  part-in (x ∷ rest) last (suc i) part h is =
      let b = values-both x (written rest last) in let r = part-in rest last i part (omega (arith, h)) is in omega (arith, b, r)

  pub first-in : (es : List RVal) (e : RVal) → slice_get es 0 ≡ Some e → value_weight e < values_left es
  first-in [] e some = cc
  first-in (x ∷ es) e some = let m = values-more x es in let w = ap value_weight (same_Some x e some) in omega (arith, m, w)

  -- ---- the weights at what code looks into
  pub ruleset queries = (query-Block, query-Set)

  pub ruleset blocks = (block-is)

  pub ruleset sources = (source-View, source-Query)

  pub ruleset conditions = (condition-Eq, condition-Pred, condition-And, condition-Or, condition-Not, condition-Exists, condition-In)

  pub ruleset having_at = (condition-And)

  pub ruleset values = (value-Fun, value-Agg, value-Sub)

-- ---- of views
unfoldable pub weights_of : List RQuery → List ℕ
weights_of trees = over_earlier {X = ℕ} query_weight [] trees

-- a view is as heavy as its tree over the views before it
pub view-weight : (trees : List RQuery) (place : ℕ) (tree : RQuery) → place < length trees → tree ≡ get_or trees place tree
    → query_weight (weights_of (take place trees)) tree ≡ get_or (weights_of trees) place 0
unfolding weights_of
view-weight trees place tree h is = sym (at-place ℕ query_weight trees place tree 0 h is)
