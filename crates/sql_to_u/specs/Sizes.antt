-- How large the term of a tree is, reckoned from the tree alone: as the translation goes, with sizes for terms and values, and for a product
-- with no more than is needed to go on. A number that is larger than the last value of u64 is that last value.
use Rattle.std.specs.Prelude.{ℕ, zero, suc, ◌+◌, ◌-◌, ◌^◌, min, max, Bool, true, false, List, [], ◌∷◌, length, get_or, if◌then◌else◌}
use Rattle.sql_model.specs.Syntax.{SetOp, UnionAll, Union, Except, Intersect}
use Rattle.sql_model.specs.Aggregates.{counts_rows}
use Rattle.u_terms.specs.Syntax.{U, Val}
use Rattle.u_terms.specs.Size.{nodes, value_nodes, depth, value_depth}
use Rattle.scope_core.specs.Scope.{Place}
use Rattle.scope_core.specs.Syntax.{RVal, Col, Key, Lit, Fun, Agg, Sub, Values, NoValues, ValueThen, MaybeArgument, NoArgument, AnArgument, RCond, Eq, Pred, And, Or, Not, Exists, In, Conditions, NoConditions, ConditionThen, MaybeCondition, NoCondition, ACondition, RSource, Table, View, Derived, Entries, NoEntries, EntryThen, RBlock, Select, RQuery, OfBlock, Set, Plain, One, Keys}
use Rattle.scope_core.specs.Width.{width}
use Rattle.sql_to_u.specs.declared.size.Size.{Size}
use Rattle.sql_to_u.specs.declared.product.GroupSize.{GroupSize}
use Rattle.sql_to_u.specs.declared.product.Product.{Product}
use Rattle.sql_to_u.specs.declared.product.Product.TheVariants as p
use Rattle.sql_to_u.specs.Answer.{over_earlier}
use Rattle.sql_to_u.specs.Scopes.{count_columns}

abbrev pub capped : ℕ → ℕ
capped number = min number (2 ^ 64 - 1)

abbrev pub term_size : U → Size
term_size term = record { nodes = capped (nodes term); depth = capped (depth term) }

abbrev pub value_term_size : Val → Size
value_term_size value = record { nodes = capped (value_nodes value); depth = capped (value_depth value) }

-- ---- what terms are built of
-- a name, a literal, and the terms 0 and 1
abbrev pub leaf : Size
leaf = record { nodes = 1; depth = 1 }

-- under one node
abbrev pub under : Size → Size
under s = record { nodes = capped (s.nodes + 1); depth = capped (s.depth + 1) }

-- beside each other, under no node
abbrev pub beside : Size → Size → Size
beside s t = record { nodes = capped (s.nodes + t.nodes); depth = max s.depth t.depth }

abbrev pub nothing : Size
nothing = record { nodes = 0; depth = 0 }

abbrev pub both : Size → Size → Size
both s t = under (beside s t)

-- under so many sums
abbrev pub over_size : ℕ → Size → Size
over_size count s = record { nodes = capped (s.nodes + count); depth = capped (s.depth + count) }

-- a row of names
abbrev pub names_size : ℕ → Size
names_size zero = nothing
names_size (suc count) = beside leaf (names_size count)

-- ---- a product, or a sum, factor by factor
-- the product with one more factor at its end, where it has `count` factors before the last with `nodes` nodes and `depth` in all
abbrev pub with_factor : Product → Size → Product
with_factor p.Empty s = p.One s
with_factor (p.One first) s = p.More 1 (capped (first.nodes + 1)) (capped (first.depth + 1)) s
with_factor (p.More count nodes depth last) s =
    p.More (capped (count + 1)) (capped (capped (nodes + last.nodes) + 1)) (max depth (capped (capped (last.depth + count) + 1))) s

abbrev pub with_factors : Product → List Size → Product
with_factors product [] = product
with_factors product (s ∷ rest) = with_factors (with_factor product s) rest

abbrev pub finished : Product → Size
finished p.Empty = leaf
finished (p.One only) = only
finished (p.More count nodes depth last) = record { nodes = capped (nodes + last.nodes); depth = max depth (capped (last.depth + count)) }

abbrev pub product_size : List Size → Size
product_size factors = finished (with_factors p.Empty factors)

abbrev pub squash_size_if : Bool → Size → Size
squash_size_if true s = under s
squash_size_if false s = s

abbrev pub combined_size : SetOp → Size → Size → Size
combined_size UnionAll s t = both s t
combined_size Union s t = under (both s t)
combined_size Except s t = both (under s) (under t)
combined_size Intersect s t = under (both s t)

abbrev pub leaves : ℕ → List Size
leaves zero = []
leaves (suc count) = leaf ∷ leaves count

abbrev pub key_sizes : List Place → List Size
key_sizes [] = []
key_sizes (column ∷ columns) = both leaf leaf ∷ key_sizes columns

-- the members of a group: how many columns they have, and their factors
abbrev pub no_members : GroupSize
no_members = record { columns = 0; factors = p.Empty }

-- `views` has the size of each view at a row of names, by its place. `members` are those of the innermost block.
module _ (views : List Size) where
  unfoldable mutual
    -- of the query at values of these sizes
    pub query_size : RQuery → List Size → Size
    query_size (OfBlock block) row = block_size block row
    query_size (Set op left right) row = combined_size op (query_size left row) (query_size right row)

    pub block_size : RBlock → List Size → Size
    block_size (Select is_distinct s entries s' conds Plain having s'' items) row =
        let joined : Product = with_factors (with_factors p.Empty (source_sizes entries)) (condition_sizes conds no_members) in
        squash_size_if is_distinct (over_size (capped (count_columns entries)) (finished (with_factors joined (item_sizes items no_members row))))
    block_size (Select is_distinct s entries s' conds One having s'' items) row =
        let joined : Product = with_factors (with_factors p.Empty (source_sizes entries)) (condition_sizes conds no_members) in
        let members : GroupSize = record { columns = capped (count_columns entries); factors = joined } in
        squash_size_if is_distinct (finished (with_factors (with_factors p.Empty (having_sizes having members)) (item_sizes items members row)))
    block_size (Select is_distinct s entries s' conds (Keys columns) having s'' items) row =
        let joined : Product = with_factors (with_factors p.Empty (source_sizes entries)) (condition_sizes conds no_members) in
        let members : GroupSize = record { columns = capped (count_columns entries); factors = with_factors joined (key_sizes columns) } in
        let some : Product = with_factor p.Empty (under (over_size members.columns (finished members.factors))) in
        squash_size_if is_distinct
        (over_size (length columns) (finished (with_factors (with_factors some (having_sizes having members)) (item_sizes items members row))))

    pub source_sizes : {m : _} → Entries m → List Size
    source_sizes NoEntries = []
    source_sizes (EntryThen source wide rest) = source_size source wide ∷ source_sizes rest

    pub source_size : RSource → ℕ → Size
    source_size (Table number) wide = under (names_size wide)
    source_size (View place) wide = get_or views place leaf
    source_size (Derived query) wide = query_size query (leaves wide)

    pub item_sizes : {m : _} → Values m → GroupSize → List Size → List Size
    item_sizes NoValues members row = []
    item_sizes (ValueThen e rest) members [] = []
    item_sizes (ValueThen e rest) members (s ∷ row) = both (value_size e members) s ∷ item_sizes rest members row

    pub condition_size : RCond → GroupSize → Size
    condition_size (Eq left right) members = both (value_size left members) (value_size right members)
    condition_size (Pred sym s args) members = under (values_size args members nothing)
    condition_size (And s parts) members = product_size (condition_sizes parts members)
    condition_size (Or s parts) members = under (product_size (condition_sizes parts members))
    condition_size (Not part) members = under (condition_size part members)
    condition_size (Exists query) members = under (over_size (width query) (query_size query (leaves (width query))))
    condition_size (In left query) members = under (query_size query (value_size left members ∷ []))

    pub condition_sizes : {m : _} → Conditions m → GroupSize → List Size
    condition_sizes NoConditions members = []
    condition_sizes (ConditionThen condition rest) members = condition_size condition members ∷ condition_sizes rest members

    pub having_sizes : MaybeCondition → GroupSize → List Size
    having_sizes NoCondition members = []
    having_sizes (ACondition (And s parts)) members = condition_sizes parts members
    having_sizes (ACondition condition) members = condition_size condition members ∷ []

    pub value_size : RVal → GroupSize → Size
    value_size (Col up entry col) members = leaf
    value_size (Key place) members = leaf
    value_size (Lit lit) members = leaf
    value_size (Fun sym s args) members = under (values_size args members nothing)
    value_size (Agg fun is_distinct argument) members =
        under (squash_size_if is_distinct
        (over_size members.columns (finished (with_factor members.factors (both (argument_size argument (counts_rows fun is_distinct)) leaf)))))
    value_size (Sub block) members = scalar_size block

    -- of values beside each other, after some
    pub values_size : {m : _} → Values m → GroupSize → Size → Size
    values_size NoValues members before = before
    values_size (ValueThen e rest) members before = values_size rest members (beside before (value_size e members))

    pub argument_size : MaybeArgument → Bool → Size
    argument_size NoArgument counting = leaf
    argument_size (AnArgument e) counting = if counting then leaf else value_size e no_members

    pub scalar_size : RBlock → Size
    scalar_size (Select is_distinct s entries s' conds grouping having s'' items) =
        first_size items (record {
          columns = capped (count_columns entries);
          factors = with_factors (with_factors p.Empty (source_sizes entries)) (condition_sizes conds no_members);
        })

    pub first_size : {m : _} → Values m → GroupSize → Size
    first_size NoValues members = leaf
    first_size (ValueThen e rest) members = value_size e members

abbrev pub view_size : List Size → RQuery → Size
view_size earlier tree = query_size earlier tree (leaves (width tree))

-- of these views, each at a row of names, after those that have theirs already
abbrev pub view_sizes : List Size → List RQuery → List Size
view_sizes earlier trees = over_earlier {X = Size} view_size earlier trees

-- of the term of a tree that stands by itself
abbrev pub translation_size : List RQuery → RQuery → Size
translation_size views tree = query_size (view_sizes [] views) tree (leaves (width tree))
