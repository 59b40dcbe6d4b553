-- What is sound over a schema and views is sound where more tables and views are there.
use Rattle.std.proofs.Common.{◌≡◌, ℕ, zero, suc, ◌<◌, List, [], ◌∷◌, ◌++◌, length, Result, Ok, Err, refl, ap, arith, inl, inr}
use Rattle.std.specs.Prelude.{◌⊎◌, IfOk}
use Rattle.sql_model.specs.Syntax.{Name}
use Rattle.sql_model.specs.Relations.{Relation}
use Rattle.scope_core.specs.declared.fault.ScopeFault.{ScopeFault}
use Rattle.scope_core.specs.Syntax.{RVal, Col, Key, Lit, Fun, Agg, Sub, Values, NoValues, ValueThen, MaybeArgument, NoArgument, AnArgument, RCond, Eq, Pred, And, Or, Not, Exists, In, Conditions, NoConditions, ConditionThen, MaybeCondition, NoCondition, ACondition, RSource, Table, View, Derived, Entries, NoEntries, EntryThen, RBlock, Select, RQuery, OfBlock, Set, Plain, One, Keys}
use Rattle.scope_core.specs.Width.{width}
use Rattle.scope_core.specs.Sound.{SeenBlocks, IsSound, IsSoundBlock, IsSoundHaving, IsSoundScalar, IsSoundAggregate, AreSoundEntries, IsSoundSource, IsSoundCondition, AreSoundConditions, IsSoundValue, IsSoundArgument, AreSoundValues}
use Rattle.scope_core.specs.Fitting.{HasTable, HasView, IsSoundOver, AreSoundViews, FitsViews, DoViewsFit}

module _ (IsTable IsTable' IsView IsView' : ℕ → ℕ → Type 0) (table : (number wide : ℕ) → IsTable number wide → IsTable' number wide)
    (view : (place wide : ℕ) → IsView place wide → IsView' place wide) where
  mutual
    unfolding IsSound

    pub sound-too : (q : RQuery) (seen : SeenBlocks) → IsSound IsTable IsView seen q → IsSound IsTable' IsView' seen q
    sound-too (OfBlock block) seen h = block-too block seen h
    sound-too (Set op left right) seen h = (sound-too left seen h.0, sound-too right seen h.1, h.2)

    block-too : (b : RBlock) (seen : SeenBlocks) → IsSoundBlock IsTable IsView seen b → IsSoundBlock IsTable' IsView' seen b
    block-too (Select is_distinct s entries s' conds grouping having s'' items) seen h =
        (entries-too entries seen h.0, conditions-too conds _ h.1, having-too having _ h.2, values-too items _ h.3, h.4)

    having-too : (having : MaybeCondition) (seen : SeenBlocks) → IsSoundHaving IsTable IsView seen having → IsSoundHaving IsTable' IsView' seen having
    having-too NoCondition seen h = tt
    having-too (ACondition condition) seen h = (h.0, condition-too condition seen h.1)

    scalar-too : (b : RBlock) (seen : SeenBlocks) → IsSoundScalar IsTable IsView seen b → IsSoundScalar IsTable' IsView' seen b
    scalar-too (Select is_distinct s entries s' conds One NoCondition s'' items) seen h =
        (entries-too entries seen h.0, conditions-too conds _ h.1, aggregate-too items _ h.2)
    scalar-too (Select is_distinct s _ s' conds One (ACondition having) s'' items) seen h = absurd h
    scalar-too (Select is_distinct s _ s' conds Plain having s'' items) seen h = absurd h
    scalar-too (Select is_distinct s _ s' conds (Keys columns) having s'' items) seen h = absurd h

    aggregate-too : {m : _} (es : Values m) (seen : SeenBlocks) → IsSoundAggregate IsTable IsView seen es → IsSoundAggregate IsTable' IsView' seen es
    aggregate-too NoValues seen h = absurd h
    aggregate-too (ValueThen (Agg fun is_distinct argument) NoValues) seen h = argument-too argument _ h
    aggregate-too (ValueThen (Agg fun is_distinct argument) (ValueThen e rest)) seen h = absurd h
    aggregate-too (ValueThen (Col up entry col) rest) seen h = absurd h
    aggregate-too (ValueThen (Key place) rest) seen h = absurd h
    aggregate-too (ValueThen (Lit lit) rest) seen h = absurd h
    aggregate-too (ValueThen (Fun sym s args) rest) seen h = absurd h
    aggregate-too (ValueThen (Sub block) rest) seen h = absurd h

    entries-too : {m : _} (es : Entries m) (seen : SeenBlocks) → AreSoundEntries IsTable IsView seen es → AreSoundEntries IsTable' IsView' seen es
    entries-too NoEntries seen h = tt
    entries-too (EntryThen source wide rest) seen h = (source-too source wide seen h.0, entries-too rest seen h.1)

    source-too : (s : RSource) (wide : ℕ) (seen : SeenBlocks) → IsSoundSource IsTable IsView seen s wide → IsSoundSource IsTable' IsView' seen s wide
    source-too (Table number) wide seen h = table number wide h
    source-too (View place) wide seen h = view place wide h
    source-too (Derived query) wide seen h = (sound-too query seen h.0, h.1)

    condition-too : (c : RCond) (seen : SeenBlocks) → IsSoundCondition IsTable IsView seen c → IsSoundCondition IsTable' IsView' seen c
    condition-too (Eq left right) seen h = (value-too left seen h.0, value-too right seen h.1)
    condition-too (Pred sym s args) seen h = values-too args seen h
    condition-too (And s parts) seen h = conditions-too parts seen h
    condition-too (Or s parts) seen h = conditions-too parts seen h
    condition-too (Not part) seen h = condition-too part seen h
    condition-too (Exists query) seen h = (h.0, sound-too query seen h.1)
    condition-too (In left query) seen h = (h.0, value-too left seen h.1, sound-too query seen h.2, h.3)

    conditions-too : {m : _} (cs : Conditions m) (seen : SeenBlocks) → AreSoundConditions IsTable IsView seen cs → AreSoundConditions IsTable' IsView' seen cs
    conditions-too NoConditions seen h = tt
    conditions-too (ConditionThen condition rest) seen h = (condition-too condition seen h.0, conditions-too rest seen h.1)

    value-too : (e : RVal) (seen : SeenBlocks) → IsSoundValue IsTable IsView seen e → IsSoundValue IsTable' IsView' seen e
    value-too (Col up entry col) seen h = h
    value-too (Key place) seen h = h
    value-too (Lit lit) seen h = tt
    value-too (Fun sym s args) seen h = values-too args seen h
    value-too (Agg fun is_distinct argument) seen h = (h.0, argument-too argument _ h.1)
    value-too (Sub block) seen h = (h.0, scalar-too block seen h.1)

    argument-too : (argument : MaybeArgument) (seen : SeenBlocks) → IsSoundArgument IsTable IsView seen argument → IsSoundArgument IsTable' IsView' seen argument
    argument-too NoArgument seen h = tt
    argument-too (AnArgument e) seen h = value-too e seen h

    values-too : {m : _} (es : Values m) (seen : SeenBlocks) → AreSoundValues IsTable IsView seen es → AreSoundValues IsTable' IsView' seen es
    values-too NoValues seen h = tt
    values-too (ValueThen e rest) seen h = (value-too e seen h.0, values-too rest seen h.1)

-- ---- over views alone
module _ (relations : List (Name × Relation)) where
  pub fits-views : (views : List RQuery) (tree : RQuery) → IsSoundOver relations views tree → FitsViews views tree
  fits-views views tree h =
      sound-too (HasTable relations) (λ number wide. Unit {0}) (HasView views) (HasView views) (λ number wide t. tt) (λ place wide v. v) tree [] h

  pub views-fit : (earlier trees : List RQuery) → AreSoundViews relations earlier trees → DoViewsFit earlier trees
  views-fit earlier [] h = tt
  views-fit earlier (tree ∷ rest) h = (fits-views earlier tree h.0, views-fit (earlier ++ tree ∷ []) rest h.1)

  pub call-fits : (views : List RQuery) (r : Result RQuery ScopeFault) → IfOk r (λ tree. IsSoundOver relations views tree) → IfOk r (λ tree. FitsViews views tree)
  call-fits views (Ok tree) h = fits-views views tree h
  call-fits views (Err fault) h = tt

-- ---- views by their places
pub HasView-in : (trees : List RQuery) (place wide : ℕ) → HasView trees place wide → place < length trees
HasView-in [] place wide h = absurd h
HasView-in (t ∷ trees) zero wide h = omega arith
HasView-in (t ∷ trees) (suc place) wide h = let lt = HasView-in trees place wide h in omega (arith, lt)

-- one of the earlier views, or the last
pub HasView-cases : (trees : List RQuery) (tree : RQuery) (place wide : ℕ) → HasView (trees ++ tree ∷ []) place wide
    → HasView trees place wide ⊎ ((length trees ≡ place) × (width tree ≡ wide))
HasView-cases [] tree zero wide h = inr (refl, h)
HasView-cases [] tree (suc place) wide h = absurd h
HasView-cases (t ∷ trees) tree zero wide h = inl h
HasView-cases (t ∷ trees) tree (suc place) wide h = elim (HasView-cases trees tree place wide h) [
  | inl before ↦ inl before
  | inr last ↦ inr (ap suc last.0, last.1)
]
