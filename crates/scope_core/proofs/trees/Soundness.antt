-- The resolved tree of a resolvable query is sound, and as wide as the query.
use Rattle.std.proofs.Common.{◌≡◌, ℕ, suc, ◌+◌, ◌<◌, Bool, true, false, List, [], ◌∷◌, ◌++◌, map, length, get_or, Option, Some, None, option_map, unwrap_or, cond, refl, ap, sym, subst, ◌∙◌, arith}
use Rattle.std.specs.Prelude.{find, if◌then◌else◌, is_some}
use Rattle.std.specs.List.{flat_map}
use Rattle.std.proofs.lemmas.List.{length-append}
use Rattle.data_model.specs.Lists.{Each}
use Rattle.sql_model.specs.Syntax as n
use Rattle.sql_model.specs.Frames.{ColumnName}
use Rattle.sql_model.specs.Columns.{same_name}
use Rattle.sql_model.specs.Headings.{Heading, columns_of, output_columns, headings, source_columns, item_columns, items_columns, block_columns}
use Rattle.sql_model.specs.Grouping.{is_one_group, has_aggregate}
use Rattle.scope_core.specs.declared.tree.RCond.TheBlock as t
use Rattle.scope_core.specs.declared.tree.RVal.TheVariants as v
use Rattle.scope_core.specs.declared.tree.RCond.TheVariants as c
use Rattle.scope_core.specs.declared.tree.RSource.TheVariants as s
use Rattle.scope_core.specs.declared.tree.RQuery.TheVariants as q
use Rattle.scope_core.specs.declared.tree.Grouping.TheVariants as g
use Rattle.scope_core.specs.declared.tree.RBlock.{roll-RBlock}
use Rattle.scope_core.specs.Syntax.{RVal, RCond, RSource, RBlock, RQuery, Grouping}
use Rattle.scope_core.specs.Scope.{Known, heading, Sight, AsRows, AsMember, AsGroup, Level, Levels, rows_level, output_sight, member_levels, on_level, no_entry, group_place, group_places, grouping_of}
use Rattle.scope_core.specs.Resolving.{source_named, entry_of, nothing, star, entry_columns, alias_star, conjunction, resolved_value, resolved_values, resolved_argument, only_block, conjuncts, conjuncts_of_each, resolved_conditions, conjuncts_written, resolved_having, resolved, resolved_block, resolved_entries, resolved_source, on_conjuncts, resolved_items, resolved_item}
use Rattle.scope_core.specs.Width.{width}
use Rattle.scope_core.specs.Faults.{is_group, is_scalar, is_one_aggregate}
use Rattle.scope_core.specs.Sound.{Seen, SeenRows, SeenGroup, SeenMember, SeenBlocks, output_seen, SeesGroup, SeesRows, member_seen, AreKeys, IsSound, IsSoundBlock, IsSoundScalar, IsSoundAggregate, IsSoundSource, AreSoundConditions}
use Rattle.scope_core.specs.Compute.{everything}
use Rattle.scope_core.proofs.basics.Each.{Each-append}
use Rattle.scope_core.proofs.basics.Booleans.{no}
use Rattle.scope_core.proofs.well_formed.Resolvable.{IsGroupLevel, ResolvableKey, ResolvableKeys, ResolvableGroupBy, Resolvable, ResolvableBlock, ResolvableEntries, ResolvableSource, ResolvableWritten, ResolvableItems, ResolvableItem, ResolvableValue, ResolvableValues, ResolvableArgument, ResolvableScalar, ResolvableCondition, ResolvableConditions}
use Rattle.scope_core.proofs.trees.SoundParts.{heading_widths, AtWidths, at_widths, within, ShapedLevel, ShapedOuter, Shaped, shaped-outer, sees-rows, OkVal, OkCond, sound-column, listed-values, listed-conditions, listed-entries, listed-widths, listed-count, OkHaving, block-sound}

-- ---- stars
entry_columns-long : (k col : ℕ) (cs : List ColumnName) → length (entry_columns k col cs) ≡ length cs
entry_columns-long k col [] = refl
entry_columns-long k col (c ∷ cs) = ap suc (entry_columns-long k (suc col) cs)

star-long : (k : ℕ) (hs : List Heading) → length (star k hs) ≡ length (flat_map (λ h. h.columns) hs)
star-long k [] = refl
star-long k (h ∷ hs) =
    length-append (entry_columns k 0 h.columns) (star (suc k) hs) ∙ (rw (entry_columns-long k 0 h.columns, star-long (suc k) hs) (sym (length-append h.columns (flat_map (λ h. h.columns) hs))))

alias-cond : (hit : Bool) (k : ℕ) (h : Heading) (ys : List RVal) (o : Option Heading) → length ys ≡ length (unwrap_or (option_map (λ h. h.columns) o) [])
    → length (if hit then entry_columns k 0 h.columns else ys) ≡ length (unwrap_or (option_map (λ h. h.columns) (cond hit (Some h) o)) [])
alias-cond true k h ys o e = entry_columns-long k 0 h.columns
alias-cond false k h ys o e = e

alias-long : (alias : n.Name) (k : ℕ) (hs : List Heading) → length (alias_star alias k hs) ≡ length (columns_of alias hs)
alias-long alias k [] = refl
alias-long alias k (h ∷ hs) = alias-cond (same_name alias h.alias) k h (alias_star alias (suc k) hs) (find (λ x. same_name alias x.alias) hs) (alias-long alias (suc k) hs)

module _ (IsTable IsView : ℕ → ℕ → Type 0) (known : List Known) where
  abbrev hs : List Heading
  hs = map heading known

  abbrev pub OkSources : Type 0
  OkSources = Each (λ k. (shape : SeenBlocks) → IsSoundSource IsTable IsView shape k.source (length k.columns)) known

  abbrev Ok : SeenBlocks → RVal → Type 0
  Ok = OkVal IsTable IsView

  abbrev OkC : SeenBlocks → RCond → Type 0
  OkC = OkCond IsTable IsView

  nothing-sound : (shape : SeenBlocks) → IsSoundSource IsTable IsView shape (s.Query (q.Block nothing)) 0
  unfolding everything
  nothing-sound shape = ((tt, (tt, tt), tt, tt, tt), refl)

  source-cond : (shape : SeenBlocks) (hit : Bool) (k : Known) (o : Option Known) (p : Option Heading) → IsSoundSource IsTable IsView shape k.source (length k.columns)
      → IsSoundSource IsTable IsView shape (unwrap_or (option_map (λ k. k.source) o) (s.Query (q.Block nothing))) (length (unwrap_or (option_map (λ h. h.columns) p) []))
      → IsSoundSource IsTable IsView shape (unwrap_or (option_map (λ k. k.source) (cond hit (Some k) o)) (s.Query (q.Block nothing))) (length (unwrap_or (option_map (λ h. h.columns) (cond hit (Some (heading k)) p)) []))
  source-cond shape true k o p e f = e
  source-cond shape false k o p e f = f

  named-sound : (shape : SeenBlocks) (name : n.Name) (ks : List Known) → Each (λ k. (shape : SeenBlocks) → IsSoundSource IsTable IsView shape k.source (length k.columns)) ks
      → IsSoundSource IsTable IsView shape (source_named name ks) (length (columns_of name (map heading ks)))
  named-sound shape name [] h = nothing-sound shape
  named-sound shape name (k ∷ ks) h =
      source-cond shape (same_name name k.name) k (find (λ k. same_name name k.name) ks) (find (λ x. same_name name x.alias) (map heading ks)) (h.0 shape) (named-sound shape name ks h.1)

  -- at what code builds
  sound-Lit : (shape : SeenBlocks) (lit : ℕ) → Ok shape (v.Lit lit)
  unfolding everything
  sound-Lit shape lit = tt

  sound-Fun : (shape : SeenBlocks) (sym : ℕ) (es : List RVal) → Each (Ok shape) es → Ok shape (v.Fun sym es)
  unfolding everything
  sound-Fun shape sym es h = listed-values IsTable IsView shape es h

  sound-Agg : (shape : SeenBlocks) (fun : _) (d : Bool) (e : Option RVal) → SeesGroup shape → ((x : RVal) → e ≡ Some x → Ok (member_seen shape) x) → Ok shape (v.Agg fun d e)
  unfolding everything
  sound-Agg shape fun d None a h = (a, tt)
  sound-Agg shape fun d (Some x) a h = (a, h x refl)

  sound-Sub : (shape : SeenBlocks) (b : RBlock) → SeesRows shape → IsSoundScalar IsTable IsView shape b → Ok shape (v.Sub b)
  unfolding everything
  sound-Sub shape b r h = (r, h)

  sound-Eq : (shape : SeenBlocks) (a b : RVal) → Ok shape a → Ok shape b → OkC shape (c.Eq a b)
  unfolding everything
  sound-Eq shape a b h k = (h, k)

  sound-Pred : (shape : SeenBlocks) (sym : ℕ) (es : List RVal) → Each (Ok shape) es → OkC shape (c.Pred sym es)
  unfolding everything
  sound-Pred shape sym es h = listed-values IsTable IsView shape es h

  sound-And : (shape : SeenBlocks) (cs : List RCond) → Each (OkC shape) cs → OkC shape (c.And cs)
  unfolding everything
  sound-And shape cs h = listed-conditions IsTable IsView shape cs h

  sound-Or : (shape : SeenBlocks) (cs : List RCond) → Each (OkC shape) cs → OkC shape (c.Or cs)
  unfolding everything
  sound-Or shape cs h = listed-conditions IsTable IsView shape cs h

  sound-Not : (shape : SeenBlocks) (a : RCond) → OkC shape a → OkC shape (c.Not a)
  unfolding everything
  sound-Not shape a h = h

  sound-Exists : (shape : SeenBlocks) (a : RQuery) → SeesRows shape → IsSound IsTable IsView shape a → OkC shape (c.Exists a)
  unfolding everything
  sound-Exists shape a r h = (r, h)

  sound-In : (shape : SeenBlocks) (e : RVal) (a : RQuery) → SeesRows shape → Ok shape e → IsSound IsTable IsView shape a → width a ≡ 1 → OkC shape (c.In e a)
  unfolding everything
  sound-In shape e a r h k l = (r, h, k, l)

  sound-conjunction : (shape : SeenBlocks) (cs : List RCond) → Each (OkC shape) cs → OkC shape (conjunction cs)
  sound-conjunction shape [] h = sound-And shape [] h
  sound-conjunction shape (a ∷ []) h = h.0
  sound-conjunction shape (a ∷ b ∷ cs) h = sound-And shape (a ∷ b ∷ cs) h

  sound-Query : (shape : SeenBlocks) (a : RQuery) (wide : ℕ) → IsSound IsTable IsView shape a → width a ≡ wide → IsSoundSource IsTable IsView shape (s.Query a) wide
  unfolding everything
  sound-Query shape a wide h k = (h, k)

  sound-Block : (shape : SeenBlocks) (b : RBlock) → IsSoundBlock IsTable IsView shape b → IsSound IsTable IsView shape (q.Block b)
  unfolding everything
  sound-Block shape b h = h

  sound-Set : (shape : SeenBlocks) (op : _) (a b : RQuery) → IsSound IsTable IsView shape a → IsSound IsTable IsView shape b → width a ≡ width b → IsSound IsTable IsView shape (q.Set op a b)
  unfolding everything
  sound-Set shape op a b h k e = (h, k, e)

  width-Block : (d : Bool) (es : _) (cs : List RCond) (gr : Grouping) (h : Option RCond) (items : List RVal)
      → width (q.Block (roll-RBlock (record { distinct = d; entries = es; conds = cs; grouping = gr; having = h; items = items }))) ≡ length items
  unfolding everything
  width-Block d es cs gr None items = listed-count IsTable IsView items
  width-Block d es cs gr (Some h) items = listed-count IsTable IsView items

  width-Set : (op : _) (a b : RQuery) → width (q.Set op a b) ≡ width a
  unfolding everything
  width-Set op a b = refl

  scalar-listed : (shape : SeenBlocks) (ks : List ℕ) (d : Bool) (es : List (RSource × ℕ)) (cs : List RCond) (items : List RVal) → map (λ e. e.1) es ≡ ks
      → Each (λ e. IsSoundSource IsTable IsView shape e.0 e.1) es → Each (OkC (SeenRows ks ∷ shape)) cs → IsSoundAggregate IsTable IsView (SeenGroup 0 ks ∷ shape) (t.hidden-the_row-RVal-1 items)
      → IsSoundScalar IsTable IsView shape (roll-RBlock (record { distinct = d; entries = map entry_of es; conds = cs; grouping = g.One; having = None; items = items }))
  unfolding everything
  scalar-listed shape ks d es cs items e a b k =
      let w = sym (listed-widths IsTable IsView es ∙ e) in (
        listed-entries IsTable IsView shape es a,
        subst (λ q. AreSoundConditions IsTable IsView (SeenRows q ∷ shape) (t.hidden-the_row-RCond-2 cs)) w (listed-conditions IsTable IsView (SeenRows ks ∷ shape) cs b),
        subst (λ q. IsSoundAggregate IsTable IsView (SeenGroup 0 q ∷ shape) (t.hidden-the_row-RVal-1 items)) w k,
      )

  aggregate-listed : (shape : SeenBlocks) (fun : _) (d : Bool) (e : Option RVal) → ((x : RVal) → e ≡ Some x → Ok (member_seen shape) x) → IsSoundAggregate IsTable IsView shape (t.hidden-the_row-RVal-1 (v.Agg fun d e ∷ []))
  unfolding everything
  aggregate-listed shape fun d None h = tt
  aggregate-listed shape fun d (Some x) h = h x refl

  -- ---- widths
  mutual
    unfolding resolved output_columns

    pub width-same : (query : n.Query) (ls : Levels) → width (resolved query known ls) ≡ length (output_columns query hs)
    width-same (n.OfBlock block) ls = block-width block ls
    width-same (n.Set op left right at) ls = width-Set op (resolved left known ls) (resolved right known ls) ∙ width-same left ls

    pub block-width : (b : n.Block) (ls : Levels) → width (q.Block (resolved_block b known ls)) ≡ length (block_columns b hs)
    block-width (n.Select is_distinct s items s' from where_condition group_by having) ls = width-Block is_distinct _ _ _ _ _ ∙ items-width items _ ls _ _

    pub items-width : {k : _} (items : n.Items k) (H : List Heading) (ls : Levels) (K : Sight) (first : ℕ)
        → length (resolved_items items known (record { first = first; headings = H; sight = K } ∷ ls)) ≡ length (items_columns items H)
    items-width n.NoItems H ls K first = refl
    items-width (n.ItemThen item rest) H ls K first =
        length-append (resolved_item item known (record { first = first; headings = H; sight = K } ∷ ls)) (resolved_items rest known (record { first = first; headings = H; sight = K } ∷ ls))
        ∙ (rw (item-width item H ls K first, items-width rest H ls K first) (sym (length-append (item_columns item H) (items_columns rest H))))

    pub item-width : (item : n.Item) (H : List Heading) (ls : Levels) (K : Sight) (first : ℕ)
        → length (resolved_item item known (record { first = first; headings = H; sight = K } ∷ ls)) ≡ length (item_columns item H)
    item-width (n.Star at) H ls K first = star-long 0 H
    item-width (n.AliasStar alias at) H ls K first = alias-long alias 0 H
    item-width (n.Value expr name) H ls K first = refl

  entries-widths : {k : _} (es : n.Entries k) (ls : Levels) → map (λ e. e.1) (resolved_entries es known ls) ≡ heading_widths (headings es hs)
  unfolding resolved output_columns
  entries-widths n.NoEntries ls = refl
  entries-widths (n.EntryThen source alias at joined on rest) ls = ap (λ l. length (source_columns source hs) ∷ l) (entries-widths rest ls)

  -- ---- levels
  abbrev out : List Heading → Sight → Level
  out H K = record { first = 0; headings = H; sight = K }

  out-shaped : (gr : Grouping) (H : List Heading) → ShapedLevel (output_sight gr) (out H (output_sight gr)) (output_seen gr (heading_widths H))
  out-shaped g.Plain H = at_widths [] H
  out-shaped g.One H = (refl, at_widths [] H)
  out-shaped (g.Keys columns) H = (refl, at_widths [] H)

  shaped-member : (ls : Levels) (shape : SeenBlocks) → IsGroupLevel ls → Shaped ls shape → SeesGroup shape × Shaped (member_levels ls) (member_seen shape)
  shaped-member [] shape i h = absurd i
  shaped-member (l ∷ ls) [] i h = absurd h
  shaped-member (l ∷ ls) (x ∷ shape) i h = go l.sight x i h.0
    where
      go : (sight : Sight) (y : Seen) → is_group sight ≡ true → ShapedLevel sight l y → SeesGroup (y ∷ shape) × Shaped (member_levels (l ∷ ls)) (member_seen (y ∷ shape))
      go AsRows y i a = absurd (no (sym i))
      go AsMember y i a = absurd (no (sym i))
      go (AsGroup columns) (SeenRows ks) i a = absurd a
      go (AsGroup columns) (SeenMember ks) i a = absurd a
      go (AsGroup columns) (SeenGroup m ks) i a = (tt, (a.1, h.1))

  at-end : (k : ℕ) (H : List Heading) (h : Heading) (ks : List ℕ) → AtWidths k H ks → get_or ks (k + length H) 0 ≡ length h.columns → AtWidths k (H ++ h ∷ []) ks
  at-end k [] h ks a e = let z : k + 0 ≡ k = omega arith in (subst (λ j. get_or ks j 0 ≡ length h.columns) z e, tt)
  at-end k (x ∷ H) h ks a e = let z : k + suc (length H) ≡ suc k + length H = omega arith in (a.0, at-end (suc k) H h ks a.1 (subst (λ j. get_or ks j 0 ≡ length h.columns) z e))

  pub record ItemLevel (l : Level) (k : ℕ) (ks : List ℕ) : Type 0 where
    pub sight : l.sight ≡ AsRows
    pub at : AtWidths l.first l.headings ks
    pub next : l.first + length l.headings ≡ k

  next-level : (joined : Bool) (l : Level) (k : ℕ) (h : Heading) (ks : List ℕ) → ItemLevel l k ks → get_or ks k 0 ≡ length h.columns → ItemLevel (on_level joined l k h) (suc k) ks
  next-level true l k h ks i e = record {
    sight = refl;
    at = at-end l.first l.headings h ks i.at (subst (λ j. get_or ks j 0 ≡ length h.columns) (sym i.next) e);
    next = (let z : length (l.headings ++ h ∷ []) ≡ length l.headings + 1 = length-append l.headings (h ∷ []) in omega (arith, z, i.next));
  }
  next-level false l k h ks i e = record { sight = refl; at = (e, tt); next = omega arith }

  -- ---- stars
  entry_columns-sound : (k col : ℕ) (cs : List ColumnName) (ks : List ℕ) (shape : SeenBlocks) → (col + length cs) ≡ get_or ks k 0 → Each (Ok (SeenRows ks ∷ shape)) (entry_columns k col cs)
  unfolding everything
  entry_columns-sound k col [] ks shape e = tt
  entry_columns-sound k col (c ∷ cs) ks shape e = (omega (arith, e), entry_columns-sound k (suc col) cs ks shape (omega (arith, e)))

  star-sound : (k : ℕ) (H : List Heading) (ks : List ℕ) (shape : SeenBlocks) → AtWidths k H ks → Each (Ok (SeenRows ks ∷ shape)) (star k H)
  star-sound k [] ks shape a = tt
  star-sound k (h ∷ H) ks shape a =
      Each-append (Ok (SeenRows ks ∷ shape)) (entry_columns k 0 h.columns) (star (suc k) H) (entry_columns-sound k 0 h.columns ks shape (omega (arith, a.0))) (star-sound (suc k) H ks shape a.1)

  alias-sound : (alias : n.Name) (k : ℕ) (H : List Heading) (ks : List ℕ) (shape : SeenBlocks) → AtWidths k H ks → Each (Ok (SeenRows ks ∷ shape)) (alias_star alias k H)
  alias-sound alias k [] ks shape a = tt
  alias-sound alias k (h ∷ H) ks shape a = go (same_name alias h.alias) (alias-sound alias (suc k) H ks shape a.1)
    where
      go : (b : Bool) → Each (Ok (SeenRows ks ∷ shape)) (alias_star alias (suc k) H) → Each (Ok (SeenRows ks ∷ shape)) (if b then entry_columns k 0 h.columns else alias_star alias (suc k) H)
      go true rest = entry_columns-sound k 0 h.columns ks shape (omega (arith, a.0))
      go false rest = rest

  plain-star : (P : List RVal) (H : List Heading) (K : Sight) (x : Seen) (shape : SeenBlocks) → K ≡ AsRows → ShapedLevel K (out H K) x → ((ks : List ℕ) → AtWidths 0 H ks → Each (Ok (SeenRows ks ∷ shape)) P) → Each (Ok (x ∷ shape)) P
  plain-star P H K x shape e a h = go x (subst (λ sight. ShapedLevel sight (out H sight) x) e a)
    where
      go : (x : Seen) → ShapedLevel AsRows (out H AsRows) x → Each (Ok (x ∷ shape)) P
      go (SeenRows ks) a = h ks a
      go (SeenMember ks) a = absurd a
      go (SeenGroup m ks) a = absurd a

  -- ---- groups
  keys-sound : {k : _} (es : n.Exprs k) (H : List Heading) → ResolvableKeys es H → Each (λ c. c.1 < get_or (heading_widths H) c.0 0) (group_places es H)
  keys-sound n.NoExprs H f = tt
  keys-sound (n.ExprThen expr rest) H f = (key-sound expr f.0, keys-sound rest H f.1)
    where
      key-sound : (e : n.Expr) → ResolvableKey e H → (group_place e H).1 < get_or (heading_widths H) (group_place e H).0 0
      key-sound (n.Col qual qual_at name at) f =
          let p = f.0 in
          let P : ℕ × ℕ → Type 0 = λ c. c.1 < get_or (heading_widths H) c.0 0 in
          subst (λ (o : Option (ℕ × ℕ)). P (unwrap_or o (length H, 0))) (sym f.1) (within p.0 0 p.1 H (heading_widths H) (at_widths [] H) f.2)
      key-sound _ f = absurd f

  columns-sound : (group_by : n.MaybeGroupBy) (one : Bool) (H : List Heading) → ResolvableGroupBy group_by H → AreKeys (grouping_of group_by one H) (heading_widths H)
  columns-sound n.NoGroupBy false H f = tt
  columns-sound n.NoGroupBy true H f = tt
  columns-sound (n.GroupBy s keys) one H f = keys-sound keys H f

  one-group : {k : _} (items : n.Items k) → is_one_aggregate items ≡ true → is_one_group items n.NoCondition ≡ true
  unfolding has_aggregate
  one-group (n.ItemThen (n.Value (n.Agg fun is_distinct argument at) name) n.NoItems) i = refl
  one-group _ i = absurd (no (sym i))

  module _ (ok : OkSources) where
    mutual
      unfolding resolved output_columns Resolvable

      pub value-sound : (e : n.Expr) (ls : Levels) (shape : SeenBlocks) → ResolvableValue e hs ls → Shaped ls shape → Ok shape (resolved_value e known ls)
      value-sound (n.Col qual qual_at name at) ls shape f h = sound-column IsTable IsView qual name ls shape h f
      value-sound (n.Lit lit at) ls shape f h = sound-Lit shape lit
      value-sound (n.Fun symbol s args at) ls shape f h = sound-Fun shape symbol (resolved_values args known ls) (values-sound args ls shape f h)
      value-sound (n.Call symbol s args at) ls shape f h = sound-Fun shape symbol (resolved_values args known ls) (values-sound args ls shape f h)
      value-sound (n.Agg fun is_distinct argument at) ls shape f h =
          let u = shaped-member ls shape f.0 h in
          sound-Agg shape fun is_distinct (resolved_argument argument known (member_levels ls)) u.0 (λ x e. argument-sound argument (member_levels ls) (member_seen shape) f.1 u.1 x e)
      value-sound (n.Sub query at) ls shape f h =
          let o = shaped-outer ls shape f.0 h in sound-Sub shape (only_block query known ls) (sees-rows ls shape o) (sub-sound query ls shape f.1 o)
      value-sound (n.Pred symbol s args at) ls shape f h = absurd f
      value-sound (n.Eq left right at) ls shape f h = absurd f
      value-sound (n.And s parts at) ls shape f h = absurd f
      value-sound (n.Or s parts at) ls shape f h = absurd f
      value-sound (n.Not part at) ls shape f h = absurd f
      value-sound (n.Exists query at) ls shape f h = absurd f
      value-sound (n.In left query at in_at) ls shape f h = absurd f

      pub values-sound : {k : _} (es : n.Exprs k) (ls : Levels) (shape : SeenBlocks) → ResolvableValues es hs ls → Shaped ls shape → Each (Ok shape) (resolved_values es known ls)
      values-sound n.NoExprs ls shape f h = tt
      values-sound (n.ExprThen expr rest) ls shape f h = (value-sound expr ls shape f.0 h, values-sound rest ls shape f.1 h)

      pub argument-sound : (argument : n.MaybeArgument) (ls : Levels) (shape : SeenBlocks) → ResolvableArgument argument hs ls → Shaped ls shape → (x : RVal) → resolved_argument argument known ls ≡ Some x → Ok shape x
      argument-sound n.NoArgument ls shape f h x e = absurd (no (ap is_some (sym e)))
      argument-sound (n.AnArgument expr) ls shape f h x e = subst (Ok shape) (ap (λ o. unwrap_or o (v.Lit 0)) e) (value-sound expr ls shape f h)

      pub sub-sound : (query : n.Query) (ls : Levels) (shape : SeenBlocks) → ResolvableScalar query hs ls → ShapedOuter ls shape → IsSoundScalar IsTable IsView shape (only_block query known ls)
      sub-sound (n.OfBlock block) ls shape f h = scalar-sound block ls shape f.0 f.1 h
      sub-sound (n.Set op left right at) ls shape f h = absurd f

      pub scalar-sound : (b : n.Block) (ls : Levels) (shape : SeenBlocks) → ResolvableBlock b hs ls → is_scalar (n.OfBlock b) ≡ true → ShapedOuter ls shape → IsSoundScalar IsTable IsView shape (resolved_block b known ls)
      scalar-sound (n.Select false s items s' from where_condition n.NoGroupBy n.NoCondition) ls shape f i h =
          let H = headings from hs in
          let ks = heading_widths H in
          let conds = on_conjuncts from 0 no_entry known ls ++ conjuncts_written where_condition known (rows_level H ∷ ls) in
          let one = one-group items i in
          subst (λ b. IsSoundScalar IsTable IsView shape (roll-RBlock (record {
            distinct = false;
            entries = map entry_of (resolved_entries from known ls);
            conds = conds;
            grouping = grouping_of n.NoGroupBy b H;
            having = None;
            items = resolved_items items known (out H (output_sight (grouping_of n.NoGroupBy b H)) ∷ ls);
          }))) (sym one)
          (scalar-listed shape ks false (resolved_entries from known ls) conds (resolved_items items known (out H (AsGroup []) ∷ ls)) (entries-widths from ls) (entries-sound from 0 no_entry ls shape f.0 h)
          (Each-append (OkC (SeenRows ks ∷ shape)) (on_conjuncts from 0 no_entry known ls) (conjuncts_written where_condition known (rows_level H ∷ ls))
          (on_conjuncts-sound from 0 no_entry ls shape ks f.0 (record { sight = refl; at = tt; next = refl }) (at_widths [] H) h)
          (written-sound where_condition (rows_level H ∷ ls) (SeenRows ks ∷ shape) f.1 (at_widths [] H, h)))
          (aggregate-sound items H ls ks shape (at_widths [] H) (subst (λ b. ResolvableItems items hs (out H (output_sight (grouping_of n.NoGroupBy b H)) ∷ ls)) one f.4) i h))
      scalar-sound _ ls shape f i h = absurd (no (sym i))

      pub aggregate-sound : {k : _} (items : n.Items k) (H : List Heading) (ls : Levels) (ks : List ℕ) (shape : SeenBlocks) → AtWidths 0 H ks → ResolvableItems items hs (out H (AsGroup []) ∷ ls) → is_one_aggregate items ≡ true → ShapedOuter ls shape
          → IsSoundAggregate IsTable IsView (SeenGroup 0 ks ∷ shape) (t.hidden-the_row-RVal-1 (resolved_items items known (out H (AsGroup []) ∷ ls)))
      aggregate-sound (n.ItemThen (n.Value (n.Agg fun is_distinct argument at) name) n.NoItems) H ls ks shape w f i h =
          aggregate-listed (SeenGroup 0 ks ∷ shape) fun is_distinct (resolved_argument argument known (member_levels (out H (AsGroup []) ∷ ls)))
          (λ x e. argument-sound argument (member_levels (out H (AsGroup []) ∷ ls)) (SeenMember ks ∷ shape) f.0.1 (w, h) x e)
      aggregate-sound _ H ls ks shape w f i h = absurd (no (sym i))

      pub conditions-sound : {k : _} (es : n.Exprs k) (ls : Levels) (shape : SeenBlocks) → ResolvableConditions es hs ls → Shaped ls shape → Each (OkC shape) (resolved_conditions es known ls)
      conditions-sound n.NoExprs ls shape f h = tt
      conditions-sound (n.ExprThen expr rest) ls shape f h = (sound-conjunction shape (conjuncts expr known ls) (conjuncts-sound expr ls shape f.0 h), conditions-sound rest ls shape f.1 h)

      pub conjuncts-sound : (e : n.Expr) (ls : Levels) (shape : SeenBlocks) → ResolvableCondition e hs ls → Shaped ls shape → Each (OkC shape) (conjuncts e known ls)
      conjuncts-sound (n.And s parts at) ls shape f h = conjuncts_of_each-sound parts ls shape f h
      conjuncts-sound (n.Pred symbol s args at) ls shape f h = (sound-Pred shape symbol (resolved_values args known ls) (values-sound args ls shape f h), tt)
      conjuncts-sound (n.Call symbol s args at) ls shape f h = (sound-Pred shape symbol (resolved_values args known ls) (values-sound args ls shape f h), tt)
      conjuncts-sound (n.Eq left right at) ls shape f h = (sound-Eq shape (resolved_value left known ls) (resolved_value right known ls) (value-sound left ls shape f.0 h) (value-sound right ls shape f.1 h), tt)
      conjuncts-sound (n.Or s parts at) ls shape f h = (sound-Or shape (resolved_conditions parts known ls) (conditions-sound parts ls shape f h), tt)
      conjuncts-sound (n.Not part at) ls shape f h = (sound-Not shape (conjunction (conjuncts part known ls)) (sound-conjunction shape (conjuncts part known ls) (conjuncts-sound part ls shape f h)), tt)
      conjuncts-sound (n.Exists query at) ls shape f h = (let o = shaped-outer ls shape f.0 h in sound-Exists shape (resolved query known ls) (sees-rows ls shape o) (query-sound query ls shape f.1 o), tt)
      conjuncts-sound (n.In left query at in_at) ls shape f h =
          let o = shaped-outer ls shape f.0 h in (
            sound-In shape (resolved_value left known ls) (resolved query known ls) (sees-rows ls shape o) (value-sound left ls shape f.1 h) (query-sound query ls shape f.2 o)
                (width-same query ls ∙ f.3),
            tt,
          )
      conjuncts-sound (n.Col qual qual_at name at) ls shape f h = absurd f
      conjuncts-sound (n.Lit lit at) ls shape f h = absurd f
      conjuncts-sound (n.Fun symbol s args at) ls shape f h = absurd f
      conjuncts-sound (n.Agg fun is_distinct argument at) ls shape f h = absurd f
      conjuncts-sound (n.Sub query at) ls shape f h = absurd f

      pub conjuncts_of_each-sound : {k : _} (es : n.Exprs k) (ls : Levels) (shape : SeenBlocks) → ResolvableConditions es hs ls → Shaped ls shape → Each (OkC shape) (conjuncts_of_each es known ls)
      conjuncts_of_each-sound n.NoExprs ls shape f h = tt
      conjuncts_of_each-sound (n.ExprThen expr rest) ls shape f h = Each-append (OkC shape) (conjuncts expr known ls) (conjuncts_of_each rest known ls) (conjuncts-sound expr ls shape f.0 h) (conjuncts_of_each-sound rest ls shape f.1 h)

      pub written-sound : (e : n.MaybeCondition) (ls : Levels) (shape : SeenBlocks) → ResolvableWritten e hs ls → Shaped ls shape → Each (OkC shape) (conjuncts_written e known ls)
      written-sound n.NoCondition ls shape f h = tt
      written-sound (n.ACondition expr) ls shape f h = conjuncts-sound expr ls shape f h

      pub having-sound : (having : n.MaybeCondition) {k : _} (items : n.Items k) (group_by : n.MaybeGroupBy) (H : List Heading) (ls : Levels) (ks : List ℕ) (shape : SeenBlocks)
          → ResolvableWritten having hs ls → Shaped ls (output_seen (grouping_of group_by (is_one_group items having) H) ks ∷ shape)
          → OkHaving IsTable IsView (output_seen (grouping_of group_by (is_one_group items having) H) ks ∷ shape) (resolved_having having known ls)
      having-sound n.NoCondition items group_by H ls ks shape f h = tt
      having-sound (n.ACondition expr) items n.NoGroupBy H ls ks shape f h = (tt, sound-conjunction (SeenGroup 0 ks ∷ shape) (conjuncts expr known ls) (conjuncts-sound expr ls (SeenGroup 0 ks ∷ shape) f h))
      having-sound (n.ACondition expr) items (n.GroupBy s keys) H ls ks shape f h =
          let seen = SeenGroup (length (group_places keys H)) ks ∷ shape in (tt, sound-conjunction seen (conjuncts expr known ls) (conjuncts-sound expr ls seen f h))

      pub query-sound : (query : n.Query) (ls : Levels) (shape : SeenBlocks) → Resolvable query hs ls → ShapedOuter ls shape → IsSound IsTable IsView shape (resolved query known ls)
      query-sound (n.OfBlock block) ls shape f h = sound-Block shape (resolved_block block known ls) (block_tree-sound block ls shape f h)
      query-sound (n.Set op left right at) ls shape f h =
          sound-Set shape op (resolved left known ls) (resolved right known ls) (query-sound left ls shape f.0 h) (query-sound right ls shape f.1 h) (width-same left ls ∙ f.2 ∙ sym (width-same right ls))

      pub block_tree-sound : (b : n.Block) (ls : Levels) (shape : SeenBlocks) → ResolvableBlock b hs ls → ShapedOuter ls shape → IsSoundBlock IsTable IsView shape (resolved_block b known ls)
      block_tree-sound (n.Select is_distinct s items s' from where_condition group_by having) ls shape f h =
          let H = headings from hs in
          let ks = heading_widths H in
          let gr = grouping_of group_by (is_one_group items having) H in
          let level = out-shaped gr H in
          block-sound IsTable IsView shape ks is_distinct (resolved_entries from known ls) (on_conjuncts from 0 no_entry known ls ++ conjuncts_written where_condition known (rows_level H ∷ ls)) gr
          (resolved_having having known (out H (output_sight gr) ∷ ls)) (resolved_items items known (out H (output_sight gr) ∷ ls)) (entries-widths from ls) (entries-sound from 0 no_entry ls shape f.0 h)
          (Each-append (OkC (SeenRows ks ∷ shape)) (on_conjuncts from 0 no_entry known ls) (conjuncts_written where_condition known (rows_level H ∷ ls))
          (on_conjuncts-sound from 0 no_entry ls shape ks f.0 (record { sight = refl; at = tt; next = refl }) (at_widths [] H) h)
          (written-sound where_condition (rows_level H ∷ ls) (SeenRows ks ∷ shape) f.1 (at_widths [] H, h)))
          (having-sound having items group_by H (out H (output_sight gr) ∷ ls) ks shape f.3 (level, h))
          (items-sound items H (output_sight gr) ls (output_seen gr ks) shape f.4 level h)
          (columns-sound group_by (is_one_group items having) H f.2)

      pub entries-sound : {k : _} (es : n.Entries k) (place : ℕ) (l : Level) (ls : Levels) (shape : SeenBlocks) → ResolvableEntries es place l hs ls → ShapedOuter ls shape
          → Each (λ e. IsSoundSource IsTable IsView shape e.0 e.1) (resolved_entries es known ls)
      entries-sound n.NoEntries place l ls shape f h = tt
      entries-sound (n.EntryThen source alias at joined on rest) place l ls shape f h =
          (source-sound source ls shape f.0 h, entries-sound rest (suc place) (on_level joined l place (record { alias = alias; columns = source_columns source hs })) ls shape f.2 h)

      pub source-sound : (so : n.Source) (ls : Levels) (shape : SeenBlocks) → ResolvableSource so hs ls → ShapedOuter ls shape → IsSoundSource IsTable IsView shape (resolved_source so known ls) (length (source_columns so hs))
      source-sound (n.Named name at) ls shape f h = named-sound shape name known ok
      source-sound (n.Derived query) ls shape f h = sound-Query shape (resolved query known ls) (length (output_columns query hs)) (query-sound query ls shape f h) (width-same query ls)

      pub on_conjuncts-sound : {k : _} (es : n.Entries k) (place : ℕ) (l : Level) (ls : Levels) (shape : SeenBlocks) (ks : List ℕ) → ResolvableEntries es place l hs ls → ItemLevel l place ks → AtWidths place (headings es hs) ks → ShapedOuter ls shape
          → Each (OkC (SeenRows ks ∷ shape)) (on_conjuncts es place l known ls)
      on_conjuncts-sound n.NoEntries place l ls shape ks f i a h = tt
      on_conjuncts-sound (n.EntryThen source alias at joined on rest) place l ls shape ks f i a h =
          let head : Heading = record { alias = alias; columns = source_columns source hs } in
          let next = on_level joined l place head in
          let j = next-level joined l place head ks i a.0 in
          Each-append (OkC (SeenRows ks ∷ shape)) (conjuncts_written on known (next ∷ ls)) (on_conjuncts rest (suc place) next known ls)
          (written-sound on (next ∷ ls) (SeenRows ks ∷ shape) f.1 (subst (λ K. ShapedLevel K next (SeenRows ks)) (sym j.sight) j.at, h)) (on_conjuncts-sound rest (suc place) next ls shape ks f.2 j a.1 h)

      pub items-sound : {k : _} (items : n.Items k) (H : List Heading) (K : Sight) (ls : Levels) (x : Seen) (shape : SeenBlocks)
          → ResolvableItems items hs (out H K ∷ ls) → ShapedLevel K (out H K) x → ShapedOuter ls shape → Each (Ok (x ∷ shape)) (resolved_items items known (out H K ∷ ls))
      items-sound n.NoItems H K ls x shape f a h = tt
      items-sound (n.ItemThen item rest) H K ls x shape f a h =
          Each-append (Ok (x ∷ shape)) (resolved_item item known (out H K ∷ ls)) (resolved_items rest known (out H K ∷ ls)) (item-sound item H K ls x shape f.0 a h) (items-sound rest H K ls x shape f.1 a h)

      pub item-sound : (item : n.Item) (H : List Heading) (K : Sight) (ls : Levels) (x : Seen) (shape : SeenBlocks)
          → ResolvableItem item hs (out H K ∷ ls) → ShapedLevel K (out H K) x → ShapedOuter ls shape → Each (Ok (x ∷ shape)) (resolved_item item known (out H K ∷ ls))
      item-sound (n.Star at) H K ls x shape f a h = plain-star (star 0 H) H K x shape f a (λ ks w. star-sound 0 H ks shape w)
      item-sound (n.AliasStar alias at) H K ls x shape f a h = plain-star (alias_star alias 0 H) H K x shape f a (λ ks w. alias-sound alias 0 H ks shape w)
      item-sound (n.Value expr name) H K ls x shape f a h = (value-sound expr (out H K ∷ ls) (x ∷ shape) f (a, h), tt)
