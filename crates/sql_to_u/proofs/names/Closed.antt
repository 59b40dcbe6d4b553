-- Nothing dangles in the term of a tree.
use Rattle.std.proofs.Common.{ℕ, zero, suc, ◌+◌, Bool, true, false, List, [], ◌∷◌, ◌++◌, length, get_or, sym}
use Rattle.data_model.specs.Lists.{Each}
use Rattle.sql_model.specs.Syntax.{SetOp, UnionAll, Union, Except, Intersect}
use Rattle.sql_model.specs.Aggregates.{counts_rows, number_of}
use Rattle.u_terms.specs.Syntax.{U, Val, constructors}
use Rattle.u_terms.specs.declared.term.U.TheVariants as u
use Rattle.u_terms.specs.declared.term.Val.TheVariants as v
use Rattle.u_terms.specs.Places.{IsClosed, IsClosedValue}
use Rattle.u_terms.specs.Binding.{closed_at}
use Rattle.u_terms.proofs.ClosedTerms.{IsClosed-Rel, IsClosed-Pred, IsClosed-Fun}
use Rattle.u_terms.proofs.Closedness.{closed_at-closed}
use Rattle.scope_core.specs.Scope.{Place}
use Rattle.scope_core.specs.Syntax.{RVal, Col, Key, Lit, Fun, Agg, Sub, Values, NoValues, ValueThen, MaybeArgument, NoArgument, AnArgument, RCond, Eq, Pred, And, Or, Not, Exists, In, Conditions, NoConditions, ConditionThen, MaybeCondition, NoCondition, ACondition, RSource, Table, View, Derived, Entries, NoEntries, EntryThen, RBlock, Select, RQuery, OfBlock, Set, Plain, One, Keys}
use Rattle.scope_core.specs.Width.{width}
use Rattle.sql_to_u.specs.Factors.{sum_of, over_names, squash_if, combined_terms, names_from, key_equalities}
use Rattle.u_terms.specs.Products.{product_of}
use Rattle.sql_to_u.specs.Scopes.{Members, Here, Scope, count_columns, firsts, rows_here, group_here, members_of, outer_scope, member_scope, counted}
use Rattle.sql_to_u.specs.Translation.{TermAt, query_term, block_term, source_terms, source_term, item_factors, condition_term, condition_terms, having_factors, value_term, value_terms, argument_term, scalar_term, first_term}
use Rattle.sql_to_u.proofs.meaning.OverEntries.{over_names-closed}

abbrev pub AreClosed : List U → Type 0
AreClosed = Each (IsClosed 0)

abbrev pub AreClosedValues : List Val → Type 0
AreClosedValues = Each (IsClosedValue 0)

-- ---- at each constructor, as code writes it
pub closed-Zero : IsClosed 0 u.Zero
unfolding IsClosed constructors
closed-Zero = tt

pub closed-One : IsClosed 0 u.One
unfolding IsClosed constructors
closed-One = tt

pub closed-Add : (a b : U) → IsClosed 0 a → IsClosed 0 b → IsClosed 0 (u.Add a b)
unfolding IsClosed constructors
closed-Add a b h k = (h, k)

pub closed-Mul : (a b : U) → IsClosed 0 a → IsClosed 0 b → IsClosed 0 (u.Mul a b)
unfolding IsClosed constructors
closed-Mul a b h k = (h, k)

pub closed-Squash : (a : U) → IsClosed 0 a → IsClosed 0 (u.Squash a)
unfolding IsClosed constructors
closed-Squash a h = h

pub closed-Not : (a : U) → IsClosed 0 a → IsClosed 0 (u.Not a)
unfolding IsClosed constructors
closed-Not a h = h

pub closed-Eq : (a b : Val) → IsClosedValue 0 a → IsClosedValue 0 b → IsClosed 0 (u.Eq a b)
unfolding IsClosed constructors
closed-Eq a b h k = (h, k)

pub closed-Rel : (table : ℕ) (vs : List Val) → AreClosedValues vs → IsClosed 0 (u.Rel table vs)
closed-Rel table vs h = rw (IsClosed-Rel 0 table vs) h

pub closed-Pred : (symbol : ℕ) (vs : List Val) → AreClosedValues vs → IsClosed 0 (u.Pred symbol vs)
closed-Pred symbol vs h = rw (IsClosed-Pred 0 symbol vs) h

pub closed-Free : (name : ℕ) → IsClosedValue 0 (v.Free name)
unfolding IsClosed constructors
closed-Free name = tt

pub closed-Lit : (literal : ℕ) → IsClosedValue 0 (v.Lit literal)
unfolding IsClosed constructors
closed-Lit literal = tt

pub closed-Fun : (symbol : ℕ) (vs : List Val) → AreClosedValues vs → IsClosedValue 0 (v.Fun symbol vs)
closed-Fun symbol vs h = rw (IsClosed-Fun 0 symbol vs) h

pub closed-Agg : (aggregate name : ℕ) (a : U) → IsClosed 0 a → IsClosedValue 0 (v.Agg aggregate (closed_at a name))
unfolding IsClosed constructors
closed-Agg aggregate name a h = closed_at-closed a name h

-- ---- of what terms are built of
pub product-closed : (fs : List U) → AreClosed fs → IsClosed 0 (product_of fs)
product-closed [] h = closed-One
product-closed (f ∷ []) h = h.0
product-closed (f ∷ g ∷ rest) h = closed-Mul f (product_of (g ∷ rest)) h.0 (product-closed (g ∷ rest) h.1)

pub sum-closed : (fs : List U) → AreClosed fs → IsClosed 0 (sum_of fs)
sum-closed [] h = closed-Zero
sum-closed (f ∷ []) h = h.0
sum-closed (f ∷ g ∷ rest) h = closed-Add f (sum_of (g ∷ rest)) h.0 (sum-closed (g ∷ rest) h.1)

pub both-closed : (fs gs : List U) → AreClosed fs → AreClosed gs → AreClosed (fs ++ gs)
both-closed [] gs h k = k
both-closed (f ∷ fs) gs h k = (h.0, both-closed fs gs h.1 k)

pub names-closed : (first count : ℕ) → AreClosedValues (names_from first count)
names-closed first zero = tt
names-closed first (suc count) = (closed-Free first, names-closed (first + 1) count)

pub squash_if-closed : (b : Bool) (a : U) → IsClosed 0 a → IsClosed 0 (squash_if b a)
squash_if-closed true a h = closed-Squash a h
squash_if-closed false a h = h

combined-closed : (op : SetOp) (p q : U) → IsClosed 0 p → IsClosed 0 q → IsClosed 0 (combined_terms op p q)
combined-closed UnionAll p q h k = closed-Add p q h k
combined-closed Union p q h k = closed-Squash (u.Add p q) (closed-Add p q h k)
combined-closed Except p q h k = closed-Mul (u.Squash p) (u.Not q) (closed-Squash p h) (closed-Not q k)
combined-closed Intersect p q h k = closed-Squash (u.Mul p q) (closed-Mul p q h k)

pub keys-closed : (columns : List Place) (ss : List ℕ) (key : ℕ) → AreClosed (key_equalities columns ss key)
keys-closed [] ss key = tt
keys-closed (c ∷ columns) ss key = (closed-Eq (v.Free (get_or ss c.0 0 + c.1)) (v.Free key) (closed-Free _) (closed-Free key), keys-closed columns ss (key + 1))

-- members are spoken of by closed factors
abbrev pub HasClosedFactors : Members → Type 0
HasClosedFactors members = (first : ℕ) → AreClosed (members.factors first)

abbrev pub IsClosedScope : Scope → Type 0
IsClosedScope = Each (λ here. HasClosedFactors here.members)

pub members-closed : (scope : Scope) → IsClosedScope scope → HasClosedFactors (members_of scope)
members-closed [] h = λ first. tt
members-closed (here ∷ scope) h = h.0

pub outer-closed : (scope : Scope) → IsClosedScope scope → IsClosedScope (outer_scope scope)
outer-closed [] h = tt
outer-closed (here ∷ scope) h = h.1

pub counted-closed : (members : Members) (a : Val) (name : ℕ) → HasClosedFactors members → IsClosedValue 0 a → IsClosed 0 (counted members a name)
counted-closed members a name h c =
    let fs = members.factors (name + 1) ++ u.Eq a (v.Free name) ∷ [] in
    over_names-closed (name + 1) members.columns (product_of fs)
    (product-closed fs (both-closed (members.factors (name + 1)) (u.Eq a (v.Free name) ∷ []) (h (name + 1)) (closed-Eq a (v.Free name) c (closed-Free name), tt)))

-- ---- of the translation: of every tree, where it is so of the views
abbrev pub AreClosedViews : List TermAt → Type 0
AreClosedViews views = (place : ℕ) (row : List Val) (next : ℕ) → AreClosedValues row → IsClosed 0 (get_or views place (λ row next. u.Zero) row next)

module _ (views : List TermAt) (view : AreClosedViews views) where
  mutual
    unfolding query_term

    pub query-closed : (q : RQuery) (scope : Scope) (row : List Val) (next : ℕ) → IsClosedScope scope → AreClosedValues row → IsClosed 0 (query_term views q scope row next)
    query-closed (OfBlock block) scope row next o c = block-closed block scope row next o c
    query-closed (Set op left right) scope row next o c =
        combined-closed op (query_term views left scope row next) (query_term views right scope row next) (query-closed left scope row next o c) (query-closed right scope row next o c)

    pub block-closed : (b : RBlock) (scope : Scope) (row : List Val) (next : ℕ) → IsClosedScope scope → AreClosedValues row → IsClosed 0 (block_term views b scope row next)
    block-closed (Select is_distinct s entries s' conds Plain having s'' items) scope row next o c =
        let e = next + count_columns entries in
        let inside = rows_here (firsts entries next) ∷ scope in
        let o' : IsClosedScope inside = ((λ first. tt), o) in
        let fs = source_terms views entries scope next e ++ condition_terms views conds inside e in
        let gs = item_factors views items inside row e in
        squash_if-closed is_distinct (over_names next (count_columns entries) (product_of (fs ++ gs)))
        (over_names-closed next (count_columns entries) (product_of (fs ++ gs)) (product-closed (fs ++ gs)
        (both-closed fs gs
        (both-closed (source_terms views entries scope next e) (condition_terms views conds inside e) (sources-closed entries scope next e o) (conditions-closed conds inside e o'))
        (items-closed items inside row e o' c))))
    block-closed (Select is_distinct s entries s' conds One having s'' items) scope row next o c =
        let factors = λ (first : ℕ). source_terms views entries scope first (first + count_columns entries) ++ condition_terms views conds (rows_here (firsts entries first) ∷ scope) (first + count_columns entries) in
        let here : Here = group_here next (record { columns = count_columns entries; firsts = λ first. firsts entries first; factors = factors }) in
        let o' : IsClosedScope (here ∷ scope) = (
          (λ first. both-closed (source_terms views entries scope first (first + count_columns entries)) (condition_terms views conds (rows_here (firsts entries first) ∷ scope) (first + count_columns entries))
              (sources-closed entries scope first (first + count_columns entries) o) (conditions-closed conds (rows_here (firsts entries first) ∷ scope) (first + count_columns entries) ((λ first. tt), o))),
          o,
        ) in
        let fs = having_factors views having (here ∷ scope) next in
        let gs = item_factors views items (here ∷ scope) row next in
        squash_if-closed is_distinct (product_of (fs ++ gs))
        (product-closed (fs ++ gs) (both-closed fs gs (having-closed having (here ∷ scope) next o') (items-closed items (here ∷ scope) row next o' c)))
    block-closed (Select is_distinct s entries s' conds (Keys columns) having s'' items) scope row next o c =
        let e = next + length columns in
        let factors = λ (first : ℕ). (source_terms views entries scope first (first + count_columns entries) ++ condition_terms views conds (rows_here (firsts entries first) ∷ scope) (first + count_columns entries)) ++ key_equalities columns (firsts entries first) next in
        let all : HasClosedFactors (record { columns = count_columns entries; firsts = λ first. firsts entries first; factors = factors }) = λ first.
        both-closed (source_terms views entries scope first (first + count_columns entries) ++ condition_terms views conds (rows_here (firsts entries first) ∷ scope) (first + count_columns entries)) (key_equalities columns (firsts entries first) next)
        (both-closed (source_terms views entries scope first (first + count_columns entries)) (condition_terms views conds (rows_here (firsts entries first) ∷ scope) (first + count_columns entries))
        (sources-closed entries scope first (first + count_columns entries) o) (conditions-closed conds (rows_here (firsts entries first) ∷ scope) (first + count_columns entries) ((λ first. tt), o)))
        (keys-closed columns (firsts entries first) next) in
        let here : Here = group_here next (record { columns = count_columns entries; firsts = λ first. firsts entries first; factors = factors }) in
        let o' : IsClosedScope (here ∷ scope) = (all, o) in
        let some = u.Squash (over_names e (count_columns entries) (product_of (factors e))) in
        let fs = having_factors views having (here ∷ scope) e in
        let gs = item_factors views items (here ∷ scope) row e in
        squash_if-closed is_distinct (over_names next (length columns) (product_of (some ∷ fs ++ gs)))
        (over_names-closed next (length columns) (product_of (some ∷ fs ++ gs)) (product-closed (some ∷ fs ++ gs) (
          closed-Squash (over_names e (count_columns entries) (product_of (factors e))) (over_names-closed e (count_columns entries) (product_of (factors e)) (product-closed (factors e) (all e))),
          both-closed fs gs (having-closed having (here ∷ scope) e o') (items-closed items (here ∷ scope) row e o' c),
        )))

    pub having-closed : (having : MaybeCondition) (scope : Scope) (next : ℕ) → IsClosedScope scope → AreClosed (having_factors views having scope next)
    having-closed NoCondition scope next o = tt
    having-closed (ACondition (And s parts)) scope next o = conditions-closed parts scope next o
    having-closed (ACondition (Eq left right)) scope next o = (condition-closed (Eq left right) scope next o, tt)
    having-closed (ACondition (Pred sym s args)) scope next o = (condition-closed (Pred sym s args) scope next o, tt)
    having-closed (ACondition (Or s parts)) scope next o = (condition-closed (Or s parts) scope next o, tt)
    having-closed (ACondition (Not part)) scope next o = (condition-closed (Not part) scope next o, tt)
    having-closed (ACondition (Exists query)) scope next o = (condition-closed (Exists query) scope next o, tt)
    having-closed (ACondition (In left query)) scope next o = (condition-closed (In left query) scope next o, tt)

    pub sources-closed : {m : _} (es : Entries m) (scope : Scope) (first next : ℕ) → IsClosedScope scope → AreClosed (source_terms views es scope first next)
    sources-closed NoEntries scope first next o = tt
    sources-closed (EntryThen source wide rest) scope first next o =
        (source-closed source scope (names_from first wide) next o (names-closed first wide), sources-closed rest scope (first + wide) next o)

    pub source-closed : (s : RSource) (scope : Scope) (row : List Val) (next : ℕ) → IsClosedScope scope → AreClosedValues row → IsClosed 0 (source_term views s scope row next)
    source-closed (Table number) scope row next o c = closed-Rel number row c
    source-closed (View place) scope row next o c = view place row next c
    source-closed (Derived query) scope row next o c = query-closed query scope row next o c

    pub items-closed : {m : _} (items : Values m) (scope : Scope) (row : List Val) (next : ℕ) → IsClosedScope scope → AreClosedValues row → AreClosed (item_factors views items scope row next)
    items-closed NoValues scope row next o c = tt
    items-closed (ValueThen e rest) scope [] next o c = tt
    items-closed (ValueThen e rest) scope (value ∷ row) next o c =
        (closed-Eq (value_term views e scope next) value (value-closed e scope next o) c.0, items-closed rest scope row next o c.1)

    pub condition-closed : (c : RCond) (scope : Scope) (next : ℕ) → IsClosedScope scope → IsClosed 0 (condition_term views c scope next)
    condition-closed (Eq left right) scope next o =
        closed-Eq (value_term views left scope next) (value_term views right scope next) (value-closed left scope next o) (value-closed right scope next o)
    condition-closed (Pred sym s args) scope next o = closed-Pred sym (value_terms views args scope next) (values-closed args scope next o)
    condition-closed (And s parts) scope next o = product-closed (condition_terms views parts scope next) (conditions-closed parts scope next o)
    condition-closed (Or s parts) scope next o =
        closed-Squash (sum_of (condition_terms views parts scope next)) (sum-closed (condition_terms views parts scope next) (conditions-closed parts scope next o))
    condition-closed (Not part) scope next o = closed-Not (condition_term views part scope next) (condition-closed part scope next o)
    condition-closed (Exists query) scope next o =
        let k = width query in
        let a = query_term views query scope (names_from next k) (next + k) in
        closed-Squash (over_names next k a) (over_names-closed next k a (query-closed query scope (names_from next k) (next + k) o (names-closed next k)))
    condition-closed (In left query) scope next o =
        closed-Squash (query_term views query scope (value_term views left scope next ∷ []) next)
        (query-closed query scope (value_term views left scope next ∷ []) next o (value-closed left scope next o, tt))

    pub conditions-closed : {m : _} (cs : Conditions m) (scope : Scope) (next : ℕ) → IsClosedScope scope → AreClosed (condition_terms views cs scope next)
    conditions-closed NoConditions scope next o = tt
    conditions-closed (ConditionThen condition rest) scope next o = (condition-closed condition scope next o, conditions-closed rest scope next o)

    pub value-closed : (e : RVal) (scope : Scope) (next : ℕ) → IsClosedScope scope → IsClosedValue 0 (value_term views e scope next)
    value-closed (Col up entry col) scope next o = closed-Free _
    value-closed (Key place) scope next o = closed-Free _
    value-closed (Lit lit) scope next o = closed-Lit lit
    value-closed (Fun sym s args) scope next o = closed-Fun sym (value_terms views args scope next) (values-closed args scope next o)
    value-closed (Agg fun is_distinct argument) scope next o =
        let members = members_of scope in
        let inside = member_scope scope (next + 1) in
        let value = argument_term views argument (counts_rows fun is_distinct) inside (next + 1 + members.columns) in
        let a = counted members value next in
        closed-Agg (number_of fun) next (squash_if is_distinct a) (squash_if-closed is_distinct a (counted-closed members value next (members-closed scope o)
        (argument-closed argument (counts_rows fun is_distinct) inside (next + 1 + members.columns) ((λ first. tt), outer-closed scope o))))
    value-closed (Sub block) scope next o = scalar-closed block scope next o

    pub values-closed : {m : _} (es : Values m) (scope : Scope) (next : ℕ) → IsClosedScope scope → AreClosedValues (value_terms views es scope next)
    values-closed NoValues scope next o = tt
    values-closed (ValueThen e rest) scope next o = (value-closed e scope next o, values-closed rest scope next o)

    pub argument-closed : (argument : MaybeArgument) (counting : Bool) (scope : Scope) (next : ℕ) → IsClosedScope scope → IsClosedValue 0 (argument_term views argument counting scope next)
    argument-closed NoArgument counting scope next o = closed-Lit 0
    argument-closed (AnArgument e) true scope next o = closed-Lit 0
    argument-closed (AnArgument e) false scope next o = value-closed e scope next o

    pub scalar-closed : (b : RBlock) (scope : Scope) (next : ℕ) → IsClosedScope scope → IsClosedValue 0 (scalar_term views b scope next)
    scalar-closed (Select is_distinct s entries s' conds grouping having s'' items) scope next o =
        let factors = λ (first : ℕ). source_terms views entries scope first (first + count_columns entries) ++ condition_terms views conds (rows_here (firsts entries first) ∷ scope) (first + count_columns entries) in
        let here : Here = group_here next (record { columns = count_columns entries; firsts = λ first. firsts entries first; factors = factors }) in
        first-closed items (here ∷ scope) next (
          (λ first. both-closed (source_terms views entries scope first (first + count_columns entries)) (condition_terms views conds (rows_here (firsts entries first) ∷ scope) (first + count_columns entries))
              (sources-closed entries scope first (first + count_columns entries) o) (conditions-closed conds (rows_here (firsts entries first) ∷ scope) (first + count_columns entries) ((λ first. tt), o))),
          o,
        )

    pub first-closed : {m : _} (es : Values m) (scope : Scope) (next : ℕ) → IsClosedScope scope → IsClosedValue 0 (first_term views es scope next)
    first-closed NoValues scope next o = closed-Lit 0
    first-closed (ValueThen e rest) scope next o = value-closed e scope next o
