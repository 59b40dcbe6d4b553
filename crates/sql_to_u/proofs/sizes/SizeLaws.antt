-- The sizes of trees as code seeks them.
use Rattle.std.proofs.Common.{◌≡◌, ℕ, zero, suc, ◌+◌, ◌-◌, ◌<◌, ◌≤◌, min, Bool, List, [], ◌∷◌, ◌++◌, length, drop, get_or, Option, Some, None, refl, ap, sym, subst, ◌∙◌, arith}
use Rattle.sql_model.specs.Syntax.{AggFun, SetOp}
use Rattle.sql_model.specs.Aggregates.{counts_rows}
use Rattle.scope_core.specs.Scope.{Place}
use Rattle.scope_core.specs.declared.tree.RVal.TheVariants as v
use Rattle.scope_core.specs.declared.tree.RCond.TheVariants as c
use Rattle.scope_core.specs.declared.tree.RSource.TheVariants as s
use Rattle.scope_core.specs.declared.tree.RQuery.TheVariants as q
use Rattle.scope_core.specs.declared.tree.Grouping.TheVariants as g
use Rattle.scope_core.specs.declared.tree.RBlock.{roll-RBlock, out-RBlock, roll-out-RBlock}
use Rattle.scope_core.specs.declared.tree.REntry.{REntry}
use Rattle.scope_core.specs.Syntax.{RVal, RCond, RBlock, RQuery, Grouping}
use Rattle.scope_core.specs.Width.{width}
use Rattle.scope_core.specs.Written.{written}
use Rattle.scope_core.specs.Compute.{everything}
use Rattle.std.proofs.Math.Seq.{drop-cons}
use denote.Param.Weighed.{most, most-append}
use Rattle.std.specs.Prelude.{slice_get}
use Rattle.std.proofs.lemmas.Option.{same_Some}
use Rattle.std.proofs.lemmas.List.{drop_all}
use Rattle.std.proofs.lemmas.Option.{slice_get_within, get_or_from_slice_get}
use Rattle.sql_to_u.proofs.terms.Places.{none-past}
use Rattle.scope_core.proofs.basics.Lists.{at-head, at-end, drop-head}
use Rattle.sql_to_u.specs.declared.size.Size.{Size}
use Rattle.sql_to_u.specs.declared.product.GroupSize.{GroupSize}
use Rattle.sql_to_u.specs.declared.product.Product.{Product}
use Rattle.sql_to_u.specs.Sizes.{leaf, leaves, under, beside, nothing, both, over_size, names_size, product_size, with_factor, with_factors, finished, squash_size_if, combined_size, key_sizes, query_size, block_size, source_size, condition_size, value_size, scalar_size}
use Rattle.sql_to_u.specs.BlockSizes.{joined_parts, group_parts, plain_parts, one_parts, keys_parts, joined_size, group_size, plain_size, one_size, keys_size}
use Rattle.sql_to_u.specs.Listed.{columns_listed, source_sizes_listed, condition_sizes_listed, item_sizes_listed, values_size_listed, having_sizes_written, argument_size_written}

-- ---- rows of names
pub names_size-more : (count : ℕ) → names_size (count + 1) ≡ beside leaf (names_size count)
names_size-more count = let e : count + 1 ≡ suc count = omega arith in rw e refl

pub ruleset names = (names_size-more)

-- ---- lists
pub listed-more : (e : REntry) (es : List REntry) → columns_listed (e ∷ es) ≡ e.width + columns_listed es
unfolding everything columns_listed
listed-more e es = refl

pub listed-none : columns_listed [] ≡ 0
unfolding everything columns_listed
listed-none = refl

module _ (views : List Size) where
  pub sources-cons : (e : REntry) (es : List REntry) → source_sizes_listed views (e ∷ es) ≡ source_size views e.source e.width ∷ source_sizes_listed views es
  unfolding everything query_size source_sizes_listed
  sources-cons e es = refl

  pub sources-nil : source_sizes_listed views [] ≡ []
  unfolding everything query_size source_sizes_listed
  sources-nil = refl

  pub conditions-cons : (members : GroupSize) (e : RCond) (es : List RCond)
      → condition_sizes_listed views members (e ∷ es) ≡ condition_size views e members ∷ condition_sizes_listed views members es
  unfolding everything query_size condition_sizes_listed
  conditions-cons members e es = refl

  pub conditions-nil : (members : GroupSize) → condition_sizes_listed views members [] ≡ []
  unfolding everything query_size condition_sizes_listed
  conditions-nil members = refl

  pub items-cons : (members : GroupSize) (e : RVal) (es : List RVal) (s : Size) (row : List Size)
      → item_sizes_listed views members (e ∷ es) (s ∷ row) ≡ both (value_size views e members) s ∷ item_sizes_listed views members es row
  unfolding everything query_size item_sizes_listed
  items-cons members e es s row = refl

  pub items-none : (members : GroupSize) (es : List RVal) → item_sizes_listed views members es [] ≡ []
  unfolding everything query_size item_sizes_listed
  items-none members [] = refl
  items-none members (e ∷ es) = refl

  pub items-nil : (members : GroupSize) (row : List Size) → item_sizes_listed views members [] row ≡ []
  unfolding everything query_size item_sizes_listed
  items-nil members row = refl

  pub values-cons : (members : GroupSize) (e : RVal) (es : List RVal) (before : Size)
      → values_size_listed views members (e ∷ es) before ≡ values_size_listed views members es (beside before (value_size views e members))
  unfolding everything query_size values_size_listed
  values-cons members e es before = refl

  pub values-nil : (members : GroupSize) (before : Size) → values_size_listed views members [] before ≡ before
  unfolding everything query_size values_size_listed
  values-nil members before = refl

  -- ---- at each constructor
  pub query-Block : (b : RBlock) (row : List Size) → query_size views (q.Block b) row ≡ block_size views b row
  unfolding everything query_size
  query-Block b row = refl

  pub query-Set : (op : SetOp) (left right : RQuery) (row : List Size) → query_size views (q.Set op left right) row ≡ combined_size op (query_size views left row) (query_size views right row)
  unfolding everything query_size
  query-Set op left right row = refl

  pub source-Table : (number wide : ℕ) → source_size views (s.Table number) wide ≡ under (names_size wide)
  unfolding everything query_size
  source-Table number wide = refl

  pub source-View : (place wide : ℕ) → source_size views (s.View place) wide ≡ get_or views place leaf
  unfolding everything query_size
  source-View place wide = refl

  pub source-Query : (query : RQuery) (wide : ℕ) → source_size views (s.Query query) wide ≡ query_size views query (leaves wide)
  unfolding everything query_size
  source-Query query wide = refl

  module _ (members : GroupSize) where
    pub condition-Eq : (left right : RVal) → condition_size views (c.Eq left right) members ≡ both (value_size views left members) (value_size views right members)
    unfolding everything query_size
    condition-Eq left right = refl

    pub condition-Pred : (sym : ℕ) (args : List RVal) → condition_size views (c.Pred sym args) members ≡ under (values_size_listed views members args nothing)
    unfolding everything query_size values_size_listed
    condition-Pred sym args = refl

    pub condition-And : (parts : List RCond) → condition_size views (c.And parts) members ≡ product_size (condition_sizes_listed views members parts)
    unfolding everything query_size condition_sizes_listed
    condition-And parts = refl

    pub condition-Or : (parts : List RCond) → condition_size views (c.Or parts) members ≡ under (product_size (condition_sizes_listed views members parts))
    unfolding everything query_size condition_sizes_listed
    condition-Or parts = refl

    pub condition-Not : (part : RCond) → condition_size views (c.Not part) members ≡ under (condition_size views part members)
    unfolding everything query_size
    condition-Not part = refl

    pub condition-Exists : (query : RQuery) → condition_size views (c.Exists query) members ≡ under (over_size (width query) (query_size views query (leaves (width query))))
    unfolding everything query_size
    condition-Exists query = refl

    pub condition-In : (left : RVal) (query : RQuery) → condition_size views (c.In left query) members ≡ under (query_size views query (value_size views left members ∷ []))
    unfolding everything query_size
    condition-In left query = refl

    pub value-Col : (up entry col : ℕ) → value_size views (v.Col up entry col) members ≡ leaf
    unfolding everything query_size
    value-Col up entry col = refl

    pub value-Key : (place : ℕ) → value_size views (v.Key place) members ≡ leaf
    unfolding everything query_size
    value-Key place = refl

    pub value-Lit : (lit : ℕ) → value_size views (v.Lit lit) members ≡ leaf
    unfolding everything query_size
    value-Lit lit = refl

    pub value-Fun : (sym : ℕ) (args : List RVal) → value_size views (v.Fun sym args) members ≡ under (values_size_listed views members args nothing)
    unfolding everything query_size values_size_listed
    value-Fun sym args = refl

    pub value-Agg : (fun : AggFun) (d : Bool) (argument : Option RVal) → value_size views (v.Agg fun d argument) members
        ≡ under (squash_size_if d (over_size members.columns (finished (with_factor members.factors (both (argument_size_written views (counts_rows fun d) argument) leaf)))))
    unfolding everything query_size
    value-Agg fun d None = refl
    value-Agg fun d (Some argument) = refl

    pub value-Sub : (b : RBlock) → value_size views (v.Sub b) members ≡ scalar_size views b
    unfolding everything query_size
    value-Sub b = refl

    abbrev pub having_of : RCond → List Size
    having_of condition = having_sizes_written views members (Some condition)

    pub having-And : (parts : List RCond) → having_of (c.And parts) ≡ condition_sizes_listed views members parts
    unfolding everything query_size condition_sizes_listed
    having-And parts = refl

    pub having-Eq : (left right : RVal) → having_of (c.Eq left right) ≡ condition_size views (c.Eq left right) members ∷ []
    unfolding everything query_size
    having-Eq left right = refl

    pub having-Pred : (sym : ℕ) (args : List RVal) → having_of (c.Pred sym args) ≡ condition_size views (c.Pred sym args) members ∷ []
    unfolding everything query_size
    having-Pred sym args = refl

    pub having-Or : (parts : List RCond) → having_of (c.Or parts) ≡ condition_size views (c.Or parts) members ∷ []
    unfolding everything query_size
    having-Or parts = refl

    pub having-Not : (part : RCond) → having_of (c.Not part) ≡ condition_size views (c.Not part) members ∷ []
    unfolding everything query_size
    having-Not part = refl

    pub having-Exists : (query : RQuery) → having_of (c.Exists query) ≡ condition_size views (c.Exists query) members ∷ []
    unfolding everything query_size
    having-Exists query = refl

    pub having-In : (left : RVal) (query : RQuery) → having_of (c.In left query) ≡ condition_size views (c.In left query) members ∷ []
    unfolding everything query_size
    having-In left query = refl

  pub ruleset at_nodes = (
    query-Block,
    query-Set,
    source-Table,
    source-View,
    source-Query,
    condition-Eq,
    condition-Pred,
    condition-And,
    condition-Or,
    condition-Not,
    condition-Exists,
    condition-In,
    value-Col,
    value-Key,
    value-Lit,
    value-Fun,
    value-Agg,
    value-Sub,
  )

  -- ---- blocks
  plain-rolled : (d : Bool) (es : List REntry) (cs : List RCond) (h : Option RCond) (items : List RVal) (row : List Size)
      → block_size views (roll-RBlock (record { distinct = d; entries = es; conds = cs; grouping = g.Plain; having = h; items = items })) row ≡ plain_parts views d es cs items row
  unfolding everything query_size columns_listed source_sizes_listed condition_sizes_listed item_sizes_listed
  plain-rolled d es cs None items row = refl
  plain-rolled d es cs (Some h) items row = refl

  one-rolled : (d : Bool) (es : List REntry) (cs : List RCond) (h : Option RCond) (items : List RVal) (row : List Size)
      → block_size views (roll-RBlock (record { distinct = d; entries = es; conds = cs; grouping = g.One; having = h; items = items })) row ≡ one_parts views d es cs h items row
  unfolding everything query_size columns_listed source_sizes_listed condition_sizes_listed item_sizes_listed
  one-rolled d es cs None items row = refl
  one-rolled d es cs (Some h) items row = refl

  keys-rolled : (columns : List Place) (d : Bool) (es : List REntry) (cs : List RCond) (h : Option RCond) (items : List RVal) (row : List Size)
      → block_size views (roll-RBlock (record { distinct = d; entries = es; conds = cs; grouping = g.Keys columns; having = h; items = items })) row ≡ keys_parts views columns d es cs h items row
  unfolding everything query_size columns_listed source_sizes_listed condition_sizes_listed item_sizes_listed
  keys-rolled columns d es cs None items row = refl
  keys-rolled columns d es cs (Some h) items row = refl

  scalar-rolled : (gr : Grouping) (d : Bool) (es : List REntry) (cs : List RCond) (h : Option RCond) (e : RVal) (items : List RVal)
      → scalar_size views (roll-RBlock (record { distinct = d; entries = es; conds = cs; grouping = gr; having = h; items = e ∷ items }))
      ≡ value_size views e (group_parts views es (joined_parts views es cs))
  unfolding everything query_size columns_listed source_sizes_listed condition_sizes_listed
  scalar-rolled gr d es cs None e items = refl
  scalar-rolled gr d es cs (Some h) e items = refl

  scalar-empty-rolled : (gr : Grouping) (d : Bool) (es : List REntry) (cs : List RCond) (h : Option RCond)
      → scalar_size views (roll-RBlock (record { distinct = d; entries = es; conds = cs; grouping = gr; having = h; items = [] })) ≡ leaf
  unfolding everything query_size
  scalar-empty-rolled gr d es cs None = refl
  scalar-empty-rolled gr d es cs (Some h) = refl

  module _ (b : RBlock) where
    -- where the grouping is known
    rolled-as : (gr : Grouping) → (out-RBlock b).grouping ≡ gr
        → roll-RBlock (record { distinct = (out-RBlock b).distinct; entries = (out-RBlock b).entries; conds = (out-RBlock b).conds; grouping = gr; having = (out-RBlock b).having; items = (out-RBlock b).items }) ≡ b
    rolled-as gr e =
        ap (λ x. roll-RBlock (record { distinct = (out-RBlock b).distinct; entries = (out-RBlock b).entries; conds = (out-RBlock b).conds; grouping = x; having = (out-RBlock b).having; items = (out-RBlock b).items })) (sym e) ∙ roll-out-RBlock b

    items-as : (es : List RVal) → (out-RBlock b).items ≡ es
        → roll-RBlock (record { distinct = (out-RBlock b).distinct; entries = (out-RBlock b).entries; conds = (out-RBlock b).conds; grouping = (out-RBlock b).grouping; having = (out-RBlock b).having; items = es }) ≡ b
    items-as es e =
        ap (λ x. roll-RBlock (record { distinct = (out-RBlock b).distinct; entries = (out-RBlock b).entries; conds = (out-RBlock b).conds; grouping = (out-RBlock b).grouping; having = (out-RBlock b).having; items = x })) (sym e)
        ∙ roll-out-RBlock b

    pub plain-is : (row : List Size) → (out-RBlock b).grouping ≡ g.Plain → block_size views b row ≡ plain_size views b row
    plain-is row e = subst (λ x. block_size views x row ≡ plain_size views b row) (rolled-as g.Plain e)
        (plain-rolled (out-RBlock b).distinct (out-RBlock b).entries (out-RBlock b).conds (out-RBlock b).having (out-RBlock b).items row)

    pub one-is : (row : List Size) → (out-RBlock b).grouping ≡ g.One → block_size views b row ≡ one_size views b row
    one-is row e = subst (λ x. block_size views x row ≡ one_size views b row) (rolled-as g.One e)
        (one-rolled (out-RBlock b).distinct (out-RBlock b).entries (out-RBlock b).conds (out-RBlock b).having (out-RBlock b).items row)

    pub keys-is : (columns : List Place) (row : List Size) → (out-RBlock b).grouping ≡ g.Keys columns → block_size views b row ≡ keys_size views columns b row
    keys-is columns row e = subst (λ x. block_size views x row ≡ keys_size views columns b row) (rolled-as (g.Keys columns) e)
        (keys-rolled columns (out-RBlock b).distinct (out-RBlock b).entries (out-RBlock b).conds (out-RBlock b).having (out-RBlock b).items row)

    without_items : (xs : List RVal) → (out-RBlock b).items ≡ xs → slice_get xs 0 ≡ None → scalar_size views b ≡ leaf
    without_items [] is none = subst (λ x. scalar_size views x ≡ leaf) (items-as [] is)
        (scalar-empty-rolled (out-RBlock b).grouping (out-RBlock b).distinct (out-RBlock b).entries (out-RBlock b).conds (out-RBlock b).having)
    without_items (x ∷ xs) is none = cc

    with_items : (xs : List RVal) (e : RVal) → (out-RBlock b).items ≡ xs → slice_get xs 0 ≡ Some e
        → scalar_size views b ≡ value_size views e (group_size views b (joined_size views b))
    with_items [] e is some = cc
    with_items (x ∷ xs) e is some =
        subst (λ y. scalar_size views y ≡ value_size views x (group_size views b (joined_size views b))) (items-as (x ∷ xs) is)
        (scalar-rolled (out-RBlock b).grouping (out-RBlock b).distinct (out-RBlock b).entries (out-RBlock b).conds (out-RBlock b).having x xs)
        ∙ ap (λ y. value_size views y (group_size views b (joined_size views b))) (same_Some x e some)

    -- where code has looked for a first item
    pub scalar-none : slice_get (out-RBlock b).items 0 ≡ None → scalar_size views b ≡ leaf
    scalar-none none = without_items (out-RBlock b).items refl none

    pub scalar-some : (e : RVal) → slice_get (out-RBlock b).items 0 ≡ Some e → scalar_size views b ≡ value_size views e (group_size views b (joined_size views b))
    scalar-some e some = with_items (out-RBlock b).items e refl some

-- ---- loops
-- one more of a list whose members each give a factor
pub factors-step : {X : Type 0} (rest : List X → List Size) (xs : List X) (i : ℕ) (x : X) (s : Size) (made made' whole : Product)
    → i < length xs → x ≡ get_or xs i x → rest (x ∷ drop (i + 1) xs) ≡ s ∷ rest (drop (i + 1) xs) → made' ≡ with_factor made s
    → with_factors made (rest (drop i xs)) ≡ whole → with_factors made' (rest (drop (i + 1) xs)) ≡ whole
factors-step rest xs i x s made made' whole h is cons step invariant =
    rw step (ap (with_factors made) (sym (at-head rest xs i x h is ∙ cons)) ∙ invariant)

pub factors-end : {X : Type 0} (rest : List X → List Size) (xs : List X) (i : ℕ) (made whole : Product)
    → length xs ≤ i → rest [] ≡ [] → with_factors made (rest (drop i xs)) ≡ whole → made ≡ whole
factors-end rest xs i made whole h none invariant = sym (ap (with_factors made) (at-end rest xs i h ∙ none)) ∙ invariant

pub cap-step : (c a w r : ℕ) → min (min (a + w) c + r) c ≡ min (a + (w + r)) c
cap-step c a w r = omega arith

pub listed-drop : (es : List REntry) (i : ℕ) (e : REntry) → i < length es → e ≡ get_or es i e → columns_listed (drop i es) ≡ e.width + columns_listed (drop (i + 1) es)
listed-drop es i e h is = at-head columns_listed es i e h is ∙ listed-more e (drop (i + 1) es)

pub listed-past : (es : List REntry) (i : ℕ) → length es ≤ i → columns_listed (drop i es) ≡ 0
listed-past es i h = at-end columns_listed es i h ∙ listed-none

pub ruleset entries = (listed-drop, listed-past, cap-step)

key_sizes-drop : (ks : List Place) (i : ℕ) → i < length ks → key_sizes (drop i ks) ≡ both leaf leaf ∷ key_sizes (drop (i + 1) ks)
key_sizes-drop ks i h = let e : i + 1 ≡ suc i = omega arith in rw e (ap key_sizes (drop-cons ks i (0, 0) h))

pub keys-step : (ks : List Place) (i : ℕ) (made made' whole : Product) → i < length ks → made' ≡ with_factor made (both leaf leaf)
    → with_factors made (key_sizes (drop i ks)) ≡ whole → with_factors made' (key_sizes (drop (i + 1) ks)) ≡ whole
keys-step ks i made made' whole h step invariant = rw step (ap (with_factors made) (sym (key_sizes-drop ks i h)) ∙ invariant)

pub keys-end : (ks : List Place) (i : ℕ) (made whole : Product) → length ks ≤ i → with_factors made (key_sizes (drop i ks)) ≡ whole → made ≡ whole
keys-end ks i made whole h invariant = sym (ap (λ xs. with_factors made (key_sizes xs)) (drop_all i ks h)) ∙ invariant

pub factors-both : (made : Product) (xs ys : List Size) → with_factors made (xs ++ ys) ≡ with_factors (with_factors made xs) ys
factors-both made [] ys = refl
factors-both made (x ∷ xs) ys = factors-both (with_factor made x) xs ys

-- ---- items beside a row
pub leaf-there : (count i : ℕ) → i < count → Some leaf ≡ slice_get (leaves count) i
leaf-there zero i h = absurd (omega (arith, h))
leaf-there (suc count) zero h = refl
leaf-there (suc count) (suc i) h = leaf-there count i (omega (arith, h))

pub leaf-past : (count i : ℕ) → count ≤ i → None ≡ slice_get (leaves count) i
leaf-past zero i h = refl
leaf-past (suc count) zero h = absurd (omega (arith, h))
leaf-past (suc count) (suc i) h = leaf-past count i (omega (arith, h))

pub one-past : (s : Size) (i : ℕ) → 1 ≤ i → None ≡ slice_get (s ∷ []) i
one-past s zero h = absurd (omega (arith, h))
one-past s (suc i) h = refl

pub ruleset in_rows = (leaf-there, leaf-past, one-past)

pub leaves-after : (wide count : ℕ) → leaves (wide - count) ≡ drop count (leaves wide)
leaves-after wide zero = let e : wide - 0 ≡ wide = omega arith in rw e refl
leaves-after zero (suc count) = let e : 0 - suc count ≡ 0 = omega arith in rw e refl
leaves-after (suc wide) (suc count) = let e : suc wide - suc count ≡ wide - count = omega arith in rw e (leaves-after wide count)

pub one-after : (s : Size) (count : ℕ) → 1 ≤ count → leaves 0 ≡ drop count (s ∷ [])
one-after s zero h = absurd (omega (arith, h))
one-after s (suc count) h = sym (drop_all count [] (omega arith))

pub ruleset rests = (leaves-after, one-after)

module _ (views : List Size) (members : GroupSize) where
  abbrev pub items_from : List RVal → List Size → ℕ → List Size
  items_from items row i = item_sizes_listed views members (drop i items) (drop i row)

  pub item-step : (items : List RVal) (row : List Size) (i : ℕ) (item : RVal) (s : Size) (made made' whole : Product)
      → i < length items → item ≡ get_or items i item → Some s ≡ slice_get row i → made' ≡ with_factor made (both (value_size views item members) s)
      → with_factors made (items_from items row i) ≡ whole → with_factors made' (items_from items row (i + 1)) ≡ whole
  item-step items row i item s made made' whole h is there step invariant =
      let k : i < length row = slice_get_within row i s (sym there) in
      let e : suc i ≡ i + 1 = omega arith in
      let rows : drop i row ≡ s ∷ drop (i + 1) row =
      drop-cons row i s k ∙ (λ j. get_or_from_slice_get row i s s (sym there) j ∷ drop (e j) row) in
      rw step (ap (with_factors made) (sym (items-cons views members item (drop (i + 1) items) s (drop (i + 1) row))
      ∙ (λ j. item_sizes_listed views members (sym (drop-head items i item h is) j) (sym rows j)))
      ∙ invariant)

  pub item-skip : (items : List RVal) (row : List Size) (i : ℕ) (made whole : Product) → None ≡ slice_get row i → with_factors made (items_from items row i) ≡ whole
      → with_factors made (items_from items row (i + 1)) ≡ whole
  item-skip items row i made whole past invariant =
      let h : length row ≤ i = none-past row i past in
      let d : drop i row ≡ [] = drop_all i row h in
      let e : drop (i + 1) row ≡ [] = drop_all (i + 1) row (omega (arith, h)) in
      ap (with_factors made) (ap (item_sizes_listed views members (drop (i + 1) items)) e ∙ items-none views members (drop (i + 1) items)
      ∙ sym (ap (item_sizes_listed views members (drop i items)) d ∙ items-none views members (drop i items)))
      ∙ invariant

  pub item-end : (items : List RVal) (row : List Size) (i : ℕ) (made whole : Product) → length items ≤ i → with_factors made (items_from items row i) ≡ whole → made ≡ whole
  item-end items row i made whole h invariant =
      let d : drop i items ≡ [] = drop_all i items h in
      sym (ap (with_factors made) (ap (λ es. item_sizes_listed views members es (drop i row)) d ∙ items-nil views members (drop i row))) ∙ invariant

  -- ---- items in parts
  pub items-both : (xs ys : List RVal) (row : List Size)
      → item_sizes_listed views members (xs ++ ys) row ≡ item_sizes_listed views members xs row ++ item_sizes_listed views members ys (drop (length xs) row)
  items-both [] ys row = ap (λ before. before ++ item_sizes_listed views members ys row) (sym (items-nil views members row))
  items-both (x ∷ xs) ys [] =
      let d : drop (length (x ∷ xs)) [] ≡ [] = drop_all (length (x ∷ xs)) [] (omega arith) in
      items-none views members (x ∷ xs ++ ys)
      ∙ sym ((λ j. items-none views members (x ∷ xs) j ++ item_sizes_listed views members ys (d j)) ∙ items-none views members ys)
  items-both (x ∷ xs) ys (s ∷ row) =
      items-cons views members x (xs ++ ys) s row
      ∙ (ap (λ rest. both (value_size views x members) s ∷ rest) (items-both xs ys row)
      ∙ ap (λ before. before ++ item_sizes_listed views members ys (drop (length xs) row)) (sym (items-cons views members x xs s row)))

  pub part-step : (parts : List (List RVal)) (i : ℕ) (part last : List RVal) (row row' : List Size) (made made' whole : Product)
      → i < length parts → part ≡ get_or parts i part → made' ≡ with_factors made (item_sizes_listed views members part row) → row' ≡ drop (length part) row
      → with_factors made (item_sizes_listed views members (written (drop i parts) last) row) ≡ whole
      → with_factors made' (item_sizes_listed views members (written (drop (i + 1) parts) last) row') ≡ whole
  part-step parts i part last row row' made made' whole h is step rest invariant =
      let after = written (drop (i + 1) parts) last in
      rw (step, rest) (sym (factors-both made (item_sizes_listed views members part row) (item_sizes_listed views members after (drop (length part) row)))
      ∙ (ap (with_factors made) (sym (items-both part after row)
      ∙ ap (λ xs. item_sizes_listed views members (written xs last) row) (sym (drop-head parts i part h is)))
      ∙ invariant))

  pub part-end : (parts : List (List RVal)) (i : ℕ) (last : List RVal) (row : List Size) (made whole : Product)
      → length parts ≤ i → with_factors made (item_sizes_listed views members (written (drop i parts) last) row) ≡ whole
      → with_factors made (item_sizes_listed views members last row) ≡ whole
  part-end parts i last row made whole h invariant =
      let d : drop i parts ≡ [] = drop_all i parts h in
      ap (λ xs. with_factors made (item_sizes_listed views members (written xs last) row)) (sym d) ∙ invariant

-- ---- a part of a row is no deeper than the row
pub part-most : {X : Type 0} (depth : X → ℕ) (parts : List (List X)) (last : List X) (i : ℕ) (part : List X) → i < length parts → part ≡ get_or parts i part
    → most depth part ≤ most depth (written parts last)
part-most depth [] last i part h is = absurd (omega (arith, h))
part-most depth (x ∷ rest) last zero part h is = let b = most-append depth x (written rest last) in let w = ap (most depth) is in omega (arith, b, w)
part-most depth (x ∷ rest) last (suc i) part h is =
    let b = most-append depth x (written rest last) in let r = part-most depth rest last i part (omega (arith, h)) is in omega (arith, b, r)

pub last-most : {X : Type 0} (depth : X → ℕ) (parts : List (List X)) (last : List X) → most depth last ≤ most depth (written parts last)
last-most depth [] last = omega arith
last-most depth (part ∷ rest) last = let b = most-append depth part (written rest last) in let r = last-most depth rest last in omega (arith, b, r)

-- ---- values
module _ (views : List Size) (members : GroupSize) where
  pub values-step : (xs : List RVal) (i : ℕ) (x : RVal) (made made' whole : Size) → i < length xs → x ≡ get_or xs i x → made' ≡ beside made (value_size views x members)
      → values_size_listed views members (drop i xs) made ≡ whole → values_size_listed views members (drop (i + 1) xs) made' ≡ whole
  values-step xs i x made made' whole h is step invariant =
      rw step (sym (at-head (λ es. values_size_listed views members es made) xs i x h is ∙ values-cons views members x (drop (i + 1) xs) made) ∙ invariant)

  pub values-end : (xs : List RVal) (i : ℕ) (made whole : Size) → length xs ≤ i → values_size_listed views members (drop i xs) made ≡ whole → made ≡ whole
  values-end xs i made whole h invariant = sym (at-end (λ es. values_size_listed views members es made) xs i h ∙ values-nil views members made) ∙ invariant

pub ruleset blocks = (plain-is, one-is, keys-is)

pub ruleset having_at = (having-And, having-Eq, having-Pred, having-Or, having-Not, having-Exists, having-In)

pub ruleset scalars = (scalar-none, scalar-some)
