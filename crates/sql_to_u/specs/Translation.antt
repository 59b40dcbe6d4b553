-- The U-expression of a resolved tree: how often a row occurs in its answer (Chu, Murphy, Roesch, Cheung and Suciu, "Axiomatic Foundations
-- and Algorithms for Deciding Semantic Equivalences of SQL Queries", PVLDB 11(11), 2018, section 3.2, "Translating SQL to U-expressions").
-- The columns around a place are spoken of by names; those from `next` on are not used. Inside out: a block puts sums around its factors, one for
-- each column of its entries.
use Rattle.std.specs.Prelude.{ℕ, ◌+◌, Bool, List, [], ◌∷◌, ◌++◌, length, get_or, if◌then◌else◌}
use Rattle.sql_model.specs.Aggregates.{counts_rows, number_of}
use Rattle.u_terms.specs.Syntax.{U, Val}
use Rattle.u_terms.specs.declared.term.U.TheVariants as u
use Rattle.u_terms.specs.declared.term.Val.TheVariants as v
use Rattle.u_terms.specs.Binding.{closed_at}
use Rattle.scope_core.specs.Syntax.{RVal, Col, Key, Lit, Fun, Agg, Sub, Values, NoValues, ValueThen, MaybeArgument, NoArgument, AnArgument, RCond, Eq, Pred, And, Or, Not, Exists, In, Conditions, NoConditions, ConditionThen, MaybeCondition, NoCondition, ACondition, RSource, Table, View, Derived, Entries, NoEntries, EntryThen, RBlock, Select, RQuery, OfBlock, Set, Plain, One, Keys}
use Rattle.scope_core.specs.Width.{width}
use Rattle.sql_to_u.specs.Factors.{sum_of, over_names, squash_if, combined_terms, names_from, key_equalities}
use Rattle.u_terms.specs.Products.{product_of}
use Rattle.sql_to_u.specs.Scopes.{Here, Scope, count_columns, firsts, rows_here, group_here, firsts_at, key_of, members_of, member_scope, counted, joined}

-- A term for each row of values and next name.
abbrev pub TermAt : Type 0
TermAt = List Val → ℕ → U

-- `views` has the term of each view, by its place.
module _ (views : List TermAt) where
  unfoldable mutual
    -- ---- how often the row of these values occurs in the answer
    pub query_term : RQuery → Scope → List Val → ℕ → U
    query_term (OfBlock block) scope row next = block_term block scope row next
    query_term (Set op left right) scope row next = combined_terms op (query_term left scope row next) (query_term right scope row next)

    pub block_term : RBlock → Scope → List Val → ℕ → U
    block_term (Select is_distinct s entries s' conds Plain having s'' items) scope row next =
        let inner = next + count_columns entries in
        let here : Here = rows_here (firsts entries next) in
        let factors = joined entries (λ first e. source_terms entries scope first e) (λ inside e. condition_terms conds inside e) scope next in
        squash_if is_distinct (over_names next (count_columns entries) (product_of (factors ++ item_factors items (here ∷ scope) row inner)))
    -- one group, which is there even where it has no members
    block_term (Select is_distinct s entries s' conds One having s'' items) scope row next =
        let factors : ℕ → List U = λ first. joined entries (λ first e. source_terms entries scope first e) (λ inside e. condition_terms conds inside e) scope first in
        let here : Here = group_here next (record { columns = count_columns entries; firsts = λ first. firsts entries first; factors = factors }) in
        squash_if is_distinct (product_of (having_factors having (here ∷ scope) next ++ item_factors items (here ∷ scope) row next))
    -- The columns of the key have the names from `next` on. A group is there where it has members.
    block_term (Select is_distinct s entries s' conds (Keys columns) having s'' items) scope row next =
        let inner = next + length columns in
        let factors : ℕ → List U = λ first.
        joined entries (λ first e. source_terms entries scope first e) (λ inside e. condition_terms conds inside e) scope first
        ++ key_equalities columns (firsts entries first) next in
        let here : Here = group_here next (record { columns = count_columns entries; firsts = λ first. firsts entries first; factors = factors }) in
        squash_if is_distinct (over_names next (length columns) (product_of (
        u.Squash (over_names inner (count_columns entries) (product_of (factors inner)))
        ∷ having_factors having (here ∷ scope) inner ++ item_factors items (here ∷ scope) row inner)))

    -- ---- sources: the columns of each entry have the names from `first` on
    pub source_terms : {m : _} → Entries m → Scope → ℕ → ℕ → List U
    source_terms NoEntries scope first next = []
    source_terms (EntryThen source wide rest) scope first next =
        source_term source scope (names_from first wide) next ∷ source_terms rest scope (first + wide) next

    pub source_term : RSource → Scope → List Val → ℕ → U
    source_term (Table number) scope row next = u.Rel number row
    source_term (View place) scope row next = get_or views place (λ row next. u.Zero) row next
    source_term (Derived query) scope row next = query_term query scope row next

    -- ---- the items, each equal to its value of the row
    pub item_factors : {m : _} → Values m → Scope → List Val → ℕ → List U
    item_factors NoValues scope row next = []
    item_factors (ValueThen e rest) scope [] next = []
    item_factors (ValueThen e rest) scope (value ∷ row) next = u.Eq (value_term e scope next) value ∷ item_factors rest scope row next

    -- ---- conditions
    pub condition_term : RCond → Scope → ℕ → U
    condition_term (Eq left right) scope next = u.Eq (value_term left scope next) (value_term right scope next)
    condition_term (Pred sym s args) scope next = u.Pred sym (value_terms args scope next)
    condition_term (And s parts) scope next = product_of (condition_terms parts scope next)
    condition_term (Or s parts) scope next = u.Squash (sum_of (condition_terms parts scope next))
    condition_term (Not part) scope next = u.Not (condition_term part scope next)
    condition_term (Exists query) scope next =
        u.Squash (over_names next (width query) (query_term query scope (names_from next (width query)) (next + width query)))
    condition_term (In left query) scope next = u.Squash (query_term query scope (value_term left scope next ∷ []) next)

    pub condition_terms : {m : _} → Conditions m → Scope → ℕ → List U
    condition_terms NoConditions scope next = []
    condition_terms (ConditionThen condition rest) scope next = condition_term condition scope next ∷ condition_terms rest scope next

    -- an AND gives a factor for each of its parts
    pub having_factors : MaybeCondition → Scope → ℕ → List U
    having_factors NoCondition scope next = []
    having_factors (ACondition (And s parts)) scope next = condition_terms parts scope next
    having_factors (ACondition condition) scope next = condition_term condition scope next ∷ []

    -- ---- values
    pub value_term : RVal → Scope → ℕ → Val
    value_term (Col up entry col) scope next = v.Free (get_or (firsts_at scope up) entry 0 + col)
    value_term (Key place) scope next = v.Free (key_of scope + place)
    value_term (Lit lit) scope next = v.Lit lit
    value_term (Fun sym s args) scope next = v.Fun sym (value_terms args scope next)
    -- The value that is counted has the name `next`, and the columns of a member the names after it.
    value_term (Agg fun is_distinct argument) scope next =
        let members = members_of scope in
        let value = argument_term argument (counts_rows fun is_distinct) (member_scope scope (next + 1)) (next + 1 + members.columns) in
        v.Agg (number_of fun) (closed_at (squash_if is_distinct (counted members value next)) next)
    value_term (Sub block) scope next = scalar_term block scope next

    pub value_terms : {m : _} → Values m → Scope → ℕ → List Val
    value_terms NoValues scope next = []
    value_terms (ValueThen e rest) scope next = value_term e scope next ∷ value_terms rest scope next

    -- An aggregate that counts rows is handed the literal numbered 0 in place of its argument.
    pub argument_term : MaybeArgument → Bool → Scope → ℕ → Val
    argument_term NoArgument counting scope next = v.Lit 0
    argument_term (AnArgument e) counting scope next = if counting then v.Lit 0 else value_term e scope next

    -- the one item of a block that is one group
    pub scalar_term : RBlock → Scope → ℕ → Val
    scalar_term (Select is_distinct s entries s' conds grouping having s'' items) scope next =
        let factors : ℕ → List U = λ first. joined entries (λ first e. source_terms entries scope first e) (λ inside e. condition_terms conds inside e) scope first in
        first_term items (group_here next (record { columns = count_columns entries; firsts = λ first. firsts entries first; factors = factors }) ∷ scope) next

    pub first_term : {m : _} → Values m → Scope → ℕ → Val
    first_term NoValues scope next = v.Lit 0
    first_term (ValueThen e rest) scope next = value_term e scope next
