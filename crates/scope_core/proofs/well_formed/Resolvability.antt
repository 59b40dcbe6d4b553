-- A well-formed query is resolvable: what the fourteen predicates say at each site is what the proofs ask.
use Rattle.std.proofs.Common.{◌≡◌, ℕ, suc, ◌<◌, ◌≤◌, Bool, true, false, not, ◌&&◌, List, [], ◌∷◌, ◌++◌, map, length, Option, Some, None, option_map, unwrap_or, position, cond, refl, sym, subst, ◌∙◌, arith}
use Rattle.std.specs.Prelude.{◌+◌, nat_eq, nat_lt, is_some, is_none, if◌then◌else◌}
use Rattle.std.specs.Option.{option_or}
use Rattle.std.specs.List.{list_any, position_or_len}
use Rattle.std.proofs.lemmas.Bool.Decides.{nat_tests}
use Rattle.std.proofs.lemmas.List.Quantifiers.{position-Some}
use Rattle.data_model.specs.Lists.{Each}
use Rattle.data_model.proofs.Sums.{equal_self}
use Rattle.sql_model.specs.Syntax as n
use Rattle.sql_model.specs.Syntax.{Name}
use Rattle.sql_model.specs.Frames.{ColumnName}
use Rattle.sql_model.specs.Columns.{same_name, is_called}
use Rattle.sql_model.specs.Headings.{Heading, columns_of, output_columns, headings, source_columns}
use Rattle.sql_model.specs.Grouping.{is_one_group}
use Rattle.scope_core.specs.Scope.{Known, heading, Place, is_among_places, Sight, AsRows, AsMember, AsGroup, Level, Levels, bare_place, qualified_place, place_in, place_at, rows_level, output_level, member_levels, on_level, no_entry, sight_here, grouping_of}
use Rattle.scope_core.specs.Sites.{Site, AColumn, AGroupColumn, TwoWidths, group_sites, group_by_sites, sites, block_sites, entry_sites, source_sites, on_sites, items_sites, item_sites, written_sites, value_sites, values_sites, argument_sites, truth_sites, truths_sites}
use Rattle.scope_core.specs.Faults.{is_some_and, block_meant, lacks_alias, lacks_column, is_no_key, is_group, is_in_group, is_scalar}
use Rattle.scope_core.specs.WellFormed.{HasNoFault, IsWellFormed}
use Rattle.scope_core.proofs.basics.Booleans.{no, not-false, or-left, or-right, and-true}
use Rattle.scope_core.proofs.basics.Each.{Each-left, Each-right}
use Rattle.scope_core.proofs.well_formed.Resolvable.{width_in, IsFound, ResolvableColumn, IsGroupLevel, IsRowLevel, ResolvableKey, ResolvableKeys, ResolvableGroupBy, Resolvable, ResolvableBlock, ResolvableEntries, ResolvableSource, ResolvableWritten, ResolvableItems, ResolvableItem, ResolvableValue, ResolvableValues, ResolvableArgument, ResolvableScalar, ResolvableCondition, ResolvableConditions}

-- ---- places are within the block
abbrev Within : ℕ → List Heading → Option Place → Type 0
Within k hs None = Unit {0}
Within k hs (Some p) = (k ≤ p.0) × (p.1 < width_in p.0 k hs)

later : (e k : ℕ) → suc k ≤ e → nat_eq e k ≡ false
later e k h = grind (arith, nat_tests, h)

Within-later : (k : ℕ) (h : Heading) (hs : List Heading) (o : Option Place) → Within (suc k) hs o → Within k (h ∷ hs) o
Within-later k h hs None i = tt
Within-later k h hs (Some p) i = (omega (arith, i.0), rw (later p.0 k i.0) i.1)

Within-here : (k c : ℕ) (h : Heading) (hs : List Heading) → c < length h.columns → Within k (h ∷ hs) (Some (k, c))
Within-here k c h hs i = (omega arith, rw (equal_self k) i)

position-below : (name : Name) (columns : List ColumnName) (c : ℕ) → position (is_called name) columns ≡ Some c → c < length columns
position-below name columns c e = (position-Some (is_called name) columns c None e).0

bare-within : (name : Name) (k : ℕ) (hs : List Heading) → Within k hs (bare_place name k hs)
bare-within name k [] = tt
bare-within name k (h ∷ hs) = by (position (is_called name) h.columns) refl (bare-within name (suc k) hs)
  where
    by : (o : Option ℕ) → position (is_called name) h.columns ≡ o → Within (suc k) hs (bare_place name (suc k) hs)
        → Within k (h ∷ hs) (option_or (option_map (λ column. (k, column)) o) (bare_place name (suc k) hs))
    by None e rest = Within-later k h hs (bare_place name (suc k) hs) rest
    by (Some c) e rest = Within-here k c h hs (position-below name h.columns c e)

-- a column that has the name is found
first-below : {X : Type 0} (test : X → Bool) (xs : List X) → list_any test xs ≡ true → position_or_len test xs < length xs
first-below test [] e = absurd (let b : false ≡ true = e in grind (arith, b))
first-below test (x ∷ xs) e = by (test x) refl (first-below test xs)
  where
    by : (b : Bool) → test x ≡ b → (list_any test xs ≡ true → position_or_len test xs < length xs) → cond (not b) (1 + position_or_len test xs) 0 < suc (length xs)
    by true h rest = omega arith
    by false h rest = let i = rest (rw h at e) in omega (arith, i)

found-below : (name : Name) (columns : List ColumnName) → list_any (is_called name) columns ≡ true → unwrap_or (position (is_called name) columns) (length columns) < length columns
found-below name columns e =
    let below = first-below (is_called name) columns e in
    let is : nat_lt (position_or_len (is_called name) columns) (length columns) ≡ true = grind (arith, nat_tests, below) in
    rw is below

qualified-within : (alias name : Name) (k : ℕ) (hs : List Heading) → list_any (is_called name) (columns_of alias hs) ≡ true → Within k hs (qualified_place alias name k hs)
qualified-within alias name k [] e = tt
qualified-within alias name k (h ∷ hs) e = by (same_name alias h.alias) refl (qualified-within alias name (suc k) hs)
  where
    by : (b : Bool) → same_name alias h.alias ≡ b → (list_any (is_called name) (columns_of alias hs) ≡ true → Within (suc k) hs (qualified_place alias name (suc k) hs))
        → Within k (h ∷ hs) (if b then Some (k, unwrap_or (position (is_called name) h.columns) (length h.columns)) else qualified_place alias name (suc k) hs)
    by true i rest = Within-here k _ h hs (found-below name h.columns (rw i at e))
    by false i rest = Within-later k h hs (qualified_place alias name (suc k) hs) (rest (rw i at e))

-- ---- columns
-- the blocks around a subquery: none is seen as a group
abbrev AreRowLevels : Levels → Type 0
AreRowLevels [] = Unit {0}
AreRowLevels (level ∷ outer) = (level.sight ≡ AsRows) × AreRowLevels outer

-- what an expression sees: its own block, in any way, and those around
abbrev Fits : Levels → Type 0
Fits [] = ⊥
Fits (level ∷ outer) = AreRowLevels outer

-- what is known of a name that has no fault, at the block that it is found in
abbrev Has : Option Name → Name → Level → Type 0
Has None name level = Unit {0}
Has (Some alias) name level = list_any (is_called name) (columns_of alias level.headings) ≡ true

within : (qual : Option Name) (name : Name) (level : Level) → Has qual name level → Within level.first level.headings (place_at qual name level)
within None name level h = bare-within name level.first level.headings
within (Some alias) name level h = qualified-within alias name level.first level.headings h

-- a block offers the name, and the innermost that does has the column
abbrev IsMeant : Option Name → Name → Option Level → Type 0
IsMeant qual name None = ⊥
IsMeant qual name (Some level) = Has qual name level

meant : (qual : Option Name) (name : Name) (levels : Levels) → lacks_alias qual name levels ≡ false → lacks_column qual name levels ≡ false → IsMeant qual name (block_meant qual name levels)
meant None name levels e h = bare (block_meant None name levels) h
  where
    bare : (o : Option Level) → is_none o ≡ false → IsMeant None name o
    bare None h = absurd (let b : true ≡ false = h in grind (arith, b))
    bare (Some level) h = tt
meant (Some alias) name levels e h = qualified (block_meant (Some alias) name levels) e h
  where
    qualified : (o : Option Level) → is_none o ≡ false → is_some_and (λ level. not (list_any (is_called name) (columns_of alias level.headings))) o ≡ false → IsMeant (Some alias) name o
    qualified None e h = absurd (let b : true ≡ false = e in grind (arith, b))
    qualified (Some level) e h = not-false (list_any (is_called name) (columns_of alias level.headings)) h

-- at one block
at-level : (qual : Option Name) (name : Name) (level : Level) (other : Option Level) (sight : Sight) (o : Option Place) (further : Type 0) → place_at qual name level ≡ o → is_no_key sight o ≡ false
    → IsMeant qual name (cond (is_some o) (Some level) other) → (IsMeant qual name other → further) → IsFound sight level o further
at-level qual name level other AsRows None further e k m next = next m
at-level qual name level other AsMember None further e k m next = next m
at-level qual name level other (AsGroup columns) None further e k m next = next m
at-level qual name level other AsRows (Some p) further e k m next = (subst (Within level.first level.headings) e (within qual name level m)).1
at-level qual name level other AsMember (Some p) further e k m next = (subst (Within level.first level.headings) e (within qual name level m)).1
at-level qual name level other (AsGroup columns) (Some p) further e k m next = not-false (is_among_places p columns) k

found-outer : (qual : Option Name) (name : Name) (levels : Levels) → AreRowLevels levels → IsMeant qual name (block_meant qual name levels) → ResolvableColumn qual name levels
found-outer qual name [] f m = absurd m
found-outer qual name (level ∷ outer) f m =
    subst (λ sight. IsFound sight level (place_at qual name level) (ResolvableColumn qual name outer)) (sym f.0)
    (at-level qual name level (block_meant qual name outer) AsRows (place_at qual name level) (ResolvableColumn qual name outer) refl refl m (λ m. found-outer qual name outer f.1 m))

column-found : (qual : Option Name) (qual_at : ℕ) (name : Name) (levels : Levels) (at : ℕ) → Fits levels → HasNoFault (AColumn qual qual_at name levels at) → ResolvableColumn qual name levels
column-found qual qual_at name [] at f e = absurd f
column-found qual qual_at name (level ∷ outer) at f e =
    at-level qual name level (block_meant qual name outer) level.sight (place_at qual name level) (ResolvableColumn qual name outer) refl e.column_is_grouped
    (meant qual name (level ∷ outer) e.alias_is_known e.column_is_known) (λ m. found-outer qual name outer f m)

-- ---- GROUP BY
key-found : (qual : Option Name) (name : Name) (hs : List Heading) (other : Option Level) (o : Option Place) → place_in qual name 0 hs ≡ o
    → IsMeant qual name (cond (is_some o) (Some (rows_level hs)) other) → (is_some (cond (is_some o) (Some (rows_level hs)) other) && not (is_some o)) ≡ false
    → (p : Place) × (place_in qual name 0 hs ≡ Some p) × (p.1 < width_in p.0 0 hs)
key-found qual name hs None None e m here = absurd m
key-found qual name hs (Some level) None e m here = absurd (no here)
key-found qual name hs other (Some p) e m here = (p, e, (subst (Within 0 hs) e (within qual name (rows_level hs) m)).1)

key-ok : (expr : n.Expr) (hs : List Heading) (ls : Levels) → HasNoFault (AGroupColumn expr (rows_level hs ∷ ls)) → ResolvableKey expr hs
key-ok (n.Col qual qual_at name at) hs ls e =
    let levels = rows_level hs ∷ ls in
    key-found qual name hs (block_meant qual name ls) (place_in qual name 0 hs) refl
    (meant qual name levels e.alias_is_known (or-left (lacks_column qual name levels) _ e.column_is_known)) (or-right (lacks_column qual name levels) _ e.column_is_known)
key-ok (n.Lit lit at) hs ls e = absurd (no e.column_is_known)
key-ok (n.Fun symbol s args at) hs ls e = absurd (no e.column_is_known)
key-ok (n.Pred symbol s args at) hs ls e = absurd (no e.column_is_known)
key-ok (n.Call symbol s args at) hs ls e = absurd (no e.column_is_known)
key-ok (n.Agg fun is_distinct argument at) hs ls e = absurd (no e.column_is_known)
key-ok (n.Sub query at) hs ls e = absurd (no e.column_is_known)
key-ok (n.Eq left right at) hs ls e = absurd (no e.column_is_known)
key-ok (n.And s parts at) hs ls e = absurd (no e.column_is_known)
key-ok (n.Or s parts at) hs ls e = absurd (no e.column_is_known)
key-ok (n.Not part at) hs ls e = absurd (no e.column_is_known)
key-ok (n.Exists query at) hs ls e = absurd (no e.column_is_known)
key-ok (n.In left query at in_at) hs ls e = absurd (no e.column_is_known)

keys-ok : {k : _} (es : n.Exprs k) (hs : List Heading) (ls : Levels) → Each HasNoFault (group_sites es (rows_level hs ∷ ls)) → ResolvableKeys es hs
keys-ok n.NoExprs hs ls h = tt
keys-ok (n.ExprThen expr rest) hs ls h = (key-ok expr hs ls h.0, keys-ok rest hs ls h.1)

group_by-ok : (group_by : n.MaybeGroupBy) (hs : List Heading) (ls : Levels) → Each HasNoFault (group_by_sites group_by (rows_level hs ∷ ls)) → ResolvableGroupBy group_by hs
group_by-ok n.NoGroupBy hs ls h = tt
group_by-ok (n.GroupBy s columns) hs ls h = keys-ok columns hs ls h

-- ---- what an expression sees
widths-same : (a b at : ℕ) → HasNoFault (TwoWidths a b at) → a ≡ b
widths-same a b at e =
    let same = not-false (nat_eq a b) e.widths_agree in
    grind (arith, nat_tests, same)

row-levels : (ls : Levels) → Fits ls → is_in_group (sight_here ls) ≡ false → IsRowLevel ls × AreRowLevels ls
row-levels [] f e = absurd f
row-levels (level ∷ outer) f e = let is = as-rows level.sight e in (is, (is, f))
  where
    as-rows : (sight : Sight) → is_in_group sight ≡ false → sight ≡ AsRows
    as-rows AsRows e = refl
    as-rows AsMember e = absurd (no e)
    as-rows (AsGroup columns) e = absurd (no e)

group-levels : (ls : Levels) → Fits ls → is_group (sight_here ls) ≡ true → IsGroupLevel ls × Fits (member_levels ls)
group-levels [] f e = absurd f
group-levels (level ∷ outer) f e = (e, f)

-- ---- the walk
module _ (known : List Known) where
  abbrev hs : List Heading
  hs = map heading known

  abbrev Fine : List Site → Type 0
  Fine = Each HasNoFault

  left : (xs ys : List Site) → Fine (xs ++ ys) → Fine xs
  left xs ys h = Each-left HasNoFault xs ys h

  right : (xs ys : List Site) → Fine (xs ++ ys) → Fine ys
  right xs ys h = Each-right HasNoFault xs ys h

  mutual
    unfolding sites Resolvable output_columns

    pub query-ok : (q : n.Query) (ls : Levels) → AreRowLevels ls → Fine (sites q known ls) → Resolvable q hs ls
    query-ok (n.OfBlock block) ls f h = block-ok block ls f h
    query-ok (n.Set op p q at) ls f h =
        let both = sites p known ls ++ sites q known ls in
        let front = left both _ h in (
          query-ok p ls f (left (sites p known ls) _ front),
          query-ok q ls f (right (sites p known ls) _ front),
          widths-same (length (output_columns p hs)) (length (output_columns q hs)) at (right both _ h).0,
        )

    pub block-ok : (b : n.Block) (ls : Levels) → AreRowLevels ls → Fine (block_sites b known ls) → ResolvableBlock b hs ls
    block-ok (n.Select is_distinct s items s' from where_condition group_by having) ls f h =
        let H = headings from hs in
        let grouping = grouping_of group_by (is_one_group items having) H in
        let row_levels = rows_level H ∷ ls in
        let output_levels = output_level H grouping ∷ ls in
        let of_entries = entry_sites from [] known ls in
        let of_on = on_sites from 0 no_entry known ls in
        let of_where = written_sites where_condition known row_levels in
        let of_groups = group_by_sites group_by row_levels in
        let of_items = items_sites items 0 known output_levels in
        let to_items = left (of_entries ++ of_on ++ of_where ++ of_groups ++ of_items) _ h in
        let to_groups = left (of_entries ++ of_on ++ of_where ++ of_groups) _ to_items in
        let to_where = left (of_entries ++ of_on ++ of_where) _ to_groups in
        let to_on = left (of_entries ++ of_on) _ to_where in (
          entries-ok from [] 0 no_entry ls f (left of_entries _ to_on) (right of_entries _ to_on),
          written-ok where_condition row_levels f (right (of_entries ++ of_on) _ to_where),
          group_by-ok group_by H ls (right (of_entries ++ of_on ++ of_where) _ to_groups),
          written-ok having output_levels f (right (of_entries ++ of_on ++ of_where ++ of_groups ++ of_items) _ h),
          items-ok items 0 output_levels f (right (of_entries ++ of_on ++ of_where ++ of_groups) _ to_items),
        )

    pub entries-ok : {k : _} (es : n.Entries k) (names : List Name) (entry : ℕ) (before : Level) (ls : Levels) → AreRowLevels ls
        → Fine (entry_sites es names known ls) → Fine (on_sites es entry before known ls) → ResolvableEntries es entry before hs ls
    entries-ok n.NoEntries names entry before ls f h o = tt
    entries-ok (n.EntryThen source alias at joined on rest) names entry before ls f h o =
        let next = on_level joined before entry (record { alias = alias; columns = source_columns source hs }) in (
          source-ok source ls f (left (source_sites source known ls) _ h),
          written-ok on (next ∷ ls) f (left (written_sites on known (next ∷ ls)) _ o),
          entries-ok rest (names ++ alias ∷ []) (suc entry) next ls f (right (source_sites source known ls) _ h).1 (right (written_sites on known (next ∷ ls)) _ o),
        )

    pub source-ok : (source : n.Source) (ls : Levels) → AreRowLevels ls → Fine (source_sites source known ls) → ResolvableSource source hs ls
    source-ok (n.Named name at) ls f h = tt
    source-ok (n.Derived query) ls f h = query-ok query ls f h

    pub written-ok : (condition : n.MaybeCondition) (ls : Levels) → Fits ls → Fine (written_sites condition known ls) → ResolvableWritten condition hs ls
    written-ok n.NoCondition ls f h = tt
    written-ok (n.ACondition expr) ls f h = truth-ok expr ls f h

    pub items-ok : {k : _} (items : n.Items k) (count : ℕ) (ls : Levels) → Fits ls → Fine (items_sites items count known ls) → ResolvableItems items hs ls
    items-ok n.NoItems count ls f h = tt
    items-ok (n.ItemThen item rest) count ls f h =
        (item-ok item ls f (left (item_sites item known ls) _ h), items-ok rest _ ls f (right (item_sites item known ls) _ h).1)

    pub item-ok : (item : n.Item) (ls : Levels) → Fits ls → Fine (item_sites item known ls) → ResolvableItem item hs ls
    item-ok (n.Star at) ls f h = (row-levels ls f h.0.star_may_stand).0
    item-ok (n.AliasStar alias at) ls f h = (row-levels ls f h.0.star_may_stand).0
    item-ok (n.Value expr name) ls f h = value-ok expr ls f h

    pub value-ok : (e : n.Expr) (ls : Levels) → Fits ls → Fine (value_sites e known ls) → ResolvableValue e hs ls
    value-ok (n.Col qual qual_at name at) ls f h = column-found qual qual_at name ls at f h.0
    value-ok (n.Lit lit at) ls f h = tt
    value-ok (n.Fun symbol s args at) ls f h = values-ok args ls f h
    value-ok (n.Call symbol s args at) ls f h = values-ok args ls f h
    value-ok (n.Agg fun is_distinct argument at) ls f h =
        let fits = group-levels ls f (not-false (is_group (sight_here ls)) h.0.aggregate_may_stand) in
        (fits.0, argument-ok argument (member_levels ls) fits.1 h.1)
    value-ok (n.Sub query at) ls f h =
        let rows = row-levels ls f (sym (and-true (is_in_group (sight_here ls))) ∙ h.0.subquery_may_stand) in
        (rows.0, scalar-ok query ls rows.1 (not-false (is_scalar query) h.0.scalar_is_aggregate) h.1)
    value-ok (n.Pred symbol s args at) ls f h = absurd (no h.0.value_is_value)
    value-ok (n.Eq a b at) ls f h = absurd (no h.0.value_is_value)
    value-ok (n.And s parts at) ls f h = absurd (no h.0.value_is_value)
    value-ok (n.Or s parts at) ls f h = absurd (no h.0.value_is_value)
    value-ok (n.Not part at) ls f h = absurd (no h.0.value_is_value)
    value-ok (n.Exists query at) ls f h = absurd (no h.0.value_is_value)
    value-ok (n.In a query at in_at) ls f h = absurd (no h.0.value_is_value)

    pub values-ok : {k : _} (es : n.Exprs k) (ls : Levels) → Fits ls → Fine (values_sites es known ls) → ResolvableValues es hs ls
    values-ok n.NoExprs ls f h = tt
    values-ok (n.ExprThen expr rest) ls f h =
        (value-ok expr ls f (left (value_sites expr known ls) _ h), values-ok rest ls f (right (value_sites expr known ls) _ h))

    pub argument-ok : (argument : n.MaybeArgument) (ls : Levels) → Fits ls → Fine (argument_sites argument known ls) → ResolvableArgument argument hs ls
    argument-ok n.NoArgument ls f h = tt
    argument-ok (n.AnArgument expr) ls f h = value-ok expr ls f h

    pub scalar-ok : (query : n.Query) (ls : Levels) → AreRowLevels ls → is_scalar query ≡ true → Fine (sites query known ls) → ResolvableScalar query hs ls
    scalar-ok (n.OfBlock block) ls f e h = (block-ok block ls f h, e)
    scalar-ok (n.Set op p q at) ls f e h = absurd (no (sym e))

    pub truth-ok : (e : n.Expr) (ls : Levels) → Fits ls → Fine (truth_sites e known ls) → ResolvableCondition e hs ls
    truth-ok (n.Pred symbol s args at) ls f h = values-ok args ls f h
    truth-ok (n.Call symbol s args at) ls f h = values-ok args ls f h
    truth-ok (n.Eq a b at) ls f h =
        (value-ok a ls f (left (value_sites a known ls) _ h), value-ok b ls f (right (value_sites a known ls) _ h))
    truth-ok (n.And s parts at) ls f h = truths-ok parts ls f h
    truth-ok (n.Or s parts at) ls f h = truths-ok parts ls f h
    truth-ok (n.Not part at) ls f h = truth-ok part ls f h
    truth-ok (n.Exists query at) ls f h =
        let rows = row-levels ls f (sym (and-true (is_in_group (sight_here ls))) ∙ h.0.subquery_may_stand) in
        (rows.0, query-ok query ls rows.1 h.1)
    truth-ok (n.In a query at in_at) ls f h =
        let rows = row-levels ls f (sym (and-true (is_in_group (sight_here ls))) ∙ h.0.subquery_may_stand) in
        let parts = value_sites a known ls ++ sites query known ls in
        let widths = TwoWidths 1 (length (output_columns query hs)) in_at ∷ [] in
        let front = left parts widths h.1 in (
          rows.0,
          value-ok a ls f (left (value_sites a known ls) (sites query known ls) front),
          query-ok query ls rows.1 (right (value_sites a known ls) (sites query known ls) front),
          sym (widths-same 1 (length (output_columns query hs)) in_at (right parts widths h.1).0),
        )
    truth-ok (n.Col qual qual_at name at) ls f h = absurd (no h.0.truth_is_truth)
    truth-ok (n.Lit lit at) ls f h = absurd (no h.0.truth_is_truth)
    truth-ok (n.Fun symbol s args at) ls f h = absurd (no h.0.truth_is_truth)
    truth-ok (n.Agg fun is_distinct argument at) ls f h = absurd (no h.0.truth_is_truth)
    truth-ok (n.Sub query at) ls f h = absurd (no h.0.truth_is_truth)

    pub truths-ok : {k : _} (es : n.Exprs k) (ls : Levels) → Fits ls → Fine (truths_sites es known ls) → ResolvableConditions es hs ls
    truths-ok n.NoExprs ls f h = tt
    truths-ok (n.ExprThen expr rest) ls f h =
        (truth-ok expr ls f (left (truth_sites expr known ls) _ h), truths-ok rest ls f (right (truth_sites expr known ls) _ h))

-- a query that stands by itself
pub well_formed-resolvable : (q : n.Query) (known : List Known) → IsWellFormed q known [] → Resolvable q (map heading known) []
well_formed-resolvable q known h = query-ok known q [] tt h
