-- Whether each literal of a query, of a schema or of a tree is one of the first `count` literals.
use Rattle.std.specs.Prelude.{ℕ, ◌<◌}
use Rattle.data_model.specs.Lists.{Each}
use Rattle.sql_model.specs.Everywhere.{Anything, Everywhere}
use Rattle.sql_model.specs.Syntax as n
use Rattle.sql_model.specs.declared.schema.Schema.{Schema}
use Rattle.sql_model.specs.declared.schema.Relation.TheVariants as relation
use Rattle.sql_model.specs.Relations.{Relation}
use Rattle.scope_core.specs.Syntax.{RVal, Col, Key, Lit, Fun, Agg, Sub, Values, NoValues, ValueThen, MaybeArgument, NoArgument, AnArgument, RCond, Eq, Pred, And, Or, Not, Exists, In, Conditions, NoConditions, ConditionThen, MaybeCondition, NoCondition, ACondition, RSource, Table, View, Derived, Entries, NoEntries, EntryThen, RBlock, Select, RQuery, OfBlock, Set}

module _ (count : ℕ) where
  -- ---- of a query
  abbrev pub QueryFits : n.Query → Type 0
  QueryFits query = Everywhere (λ literal. literal < count) Anything query

  -- ---- of the views of a schema
  abbrev pub RelationFits : Relation → Type 0
  RelationFits (relation.Table table) = Unit {0}
  RelationFits (relation.View query at) = QueryFits query

  abbrev pub SchemaFits : Schema → Type 0
  SchemaFits schema = Each (λ r. RelationFits r.1) schema.relations.entries

  -- ---- of a tree
  unfoldable mutual
    pub TreeFits : RQuery → Type 0
    TreeFits (OfBlock block) = TreeBlockFits block
    TreeFits (Set op left right) = TreeFits left × TreeFits right

    pub TreeBlockFits : RBlock → Type 0
    TreeBlockFits (Select is_distinct s entries s' conds grouping having s'' items) =
        TreeEntriesFit entries × TreeConditionsFit conds × TreeHavingFits having × TreeValuesFit items

    pub TreeEntriesFit : {m : _} → Entries m → Type 0
    TreeEntriesFit NoEntries = Unit {0}
    TreeEntriesFit (EntryThen source width rest) = TreeSourceFits source × TreeEntriesFit rest

    pub TreeSourceFits : RSource → Type 0
    TreeSourceFits (Table number) = Unit {0}
    TreeSourceFits (View place) = Unit {0}
    TreeSourceFits (Derived query) = TreeFits query

    pub TreeHavingFits : MaybeCondition → Type 0
    TreeHavingFits NoCondition = Unit {0}
    TreeHavingFits (ACondition condition) = TreeConditionFits condition

    pub TreeConditionFits : RCond → Type 0
    TreeConditionFits (Eq left right) = TreeValueFits left × TreeValueFits right
    TreeConditionFits (Pred sym s args) = TreeValuesFit args
    TreeConditionFits (And s parts) = TreeConditionsFit parts
    TreeConditionFits (Or s parts) = TreeConditionsFit parts
    TreeConditionFits (Not part) = TreeConditionFits part
    TreeConditionFits (Exists query) = TreeFits query
    TreeConditionFits (In left query) = TreeValueFits left × TreeFits query

    pub TreeConditionsFit : {m : _} → Conditions m → Type 0
    TreeConditionsFit NoConditions = Unit {0}
    TreeConditionsFit (ConditionThen condition rest) = TreeConditionFits condition × TreeConditionsFit rest

    pub TreeValueFits : RVal → Type 0
    TreeValueFits (Col up entry col) = Unit {0}
    TreeValueFits (Key place) = Unit {0}
    TreeValueFits (Lit lit) = lit < count
    TreeValueFits (Fun sym s args) = TreeValuesFit args
    TreeValueFits (Agg fun is_distinct argument) = TreeArgumentFits argument
    TreeValueFits (Sub block) = TreeBlockFits block

    pub TreeArgumentFits : MaybeArgument → Type 0
    TreeArgumentFits NoArgument = Unit {0}
    TreeArgumentFits (AnArgument e) = TreeValueFits e

    pub TreeValuesFit : {m : _} → Values m → Type 0
    TreeValuesFit NoValues = Unit {0}
    TreeValuesFit (ValueThen e rest) = TreeValueFits e × TreeValuesFit rest
