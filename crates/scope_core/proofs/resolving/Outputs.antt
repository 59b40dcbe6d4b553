-- The columns of a query, as code builds it.
use Rattle.std.proofs.Common.{◌≡◌, ℕ, zero, suc, ◌<◌, Bool, true, false, List, [], ◌∷◌, ◌++◌, cond, filter, find, length, get_or, option_map, unwrap_or, Option, Some, None, refl, ap, sym, subst, ◌∙◌, arith}
use Rattle.std.specs.List.{flat_map}
use Rattle.std.proofs.lemmas.List.{append-nil}
use Rattle.sql_model.specs.Syntax as n
use Rattle.sql_model.specs.Columns.{same_name}
use Rattle.sql_model.specs.declared.tree.Item.TheVariants as item
use Rattle.sql_model.specs.declared.tree.Query.TheVariants as q
use Rattle.sql_model.specs.declared.tree.Source.TheVariants as source
use Rattle.sql_model.specs.declared.tree.Entry.{Entry}
use Rattle.sql_model.specs.declared.tree.Block.{out-Block, roll-Block, roll-out-Block}
use Rattle.sql_model.specs.Compute.{everything}
use Rattle.sql_model.specs.Headings.{Heading, columns_of, block_columns, item_columns, output_columns, source_columns}
use Rattle.scope_core.specs.Directed.{is_shown, is_star_of}
use Rattle.scope_core.specs.Lent.{entries_headings, list_columns}
use Rattle.scope_core.proofs.basics.Booleans.{contraposed, or-of-left, or-of-right}

pub output-Block : (b : n.Block) (relations : List Heading) → output_columns (q.Block b) relations ≡ block_columns b relations
unfolding everything
output-Block b relations = refl

pub output-Set : (op : n.SetOp) (left right : n.Query) (at : _) (relations : List Heading)
    → output_columns (q.Set op left right at) relations ≡ output_columns left relations
unfolding everything
output-Set op left right at relations = refl

pub source-Query : (query : n.Query) (relations : List Heading) → source_columns (source.Query query) relations ≡ output_columns query relations
unfolding everything
source-Query query relations = refl

pub source-Named : (name : n.Name) (at : ℕ) (relations : List Heading) → source_columns (source.Named name at) relations ≡ columns_of name relations
unfolding everything
source-Named name at relations = refl

-- ---- items that are all columns of one source
pub all-Star : (at : ℕ) (h : Heading) → item_columns (item.Star at) (h ∷ []) ≡ h.columns
all-Star at h = append-nil h.columns

pub all-AliasStar : (alias : n.Name) (at : ℕ) (h : Heading) → same_name alias h.alias ≡ true → item_columns (item.AliasStar alias at) (h ∷ []) ≡ h.columns
all-AliasStar alias at h same = rw same refl

-- ---- blocks
block_columns-rolled : (d : Bool) (items : List n.Item) (entries : List Entry) (c : Option n.Expr) (g : Option (List n.Expr)) (h : Option n.Expr)
    (relations : List Heading)
    → block_columns (roll-Block (record { distinct = d; items = items; entries = entries; cond = c; groups = g; having = h })) relations
    ≡ list_columns items (entries_headings entries relations)
unfolding everything list_columns entries_headings
block_columns-rolled d items entries None None None relations = refl
block_columns-rolled d items entries None None (Some h) relations = refl
block_columns-rolled d items entries None (Some g) None relations = refl
block_columns-rolled d items entries None (Some g) (Some h) relations = refl
block_columns-rolled d items entries (Some c) None None relations = refl
block_columns-rolled d items entries (Some c) None (Some h) relations = refl
block_columns-rolled d items entries (Some c) (Some g) None relations = refl
block_columns-rolled d items entries (Some c) (Some g) (Some h) relations = refl

pub block_columns-fields : (b : n.Block) (relations : List Heading)
    → block_columns b relations ≡ list_columns (out-Block b).items (entries_headings (out-Block b).entries relations)
block_columns-fields b relations =
    let B = out-Block b in
    subst (λ x. block_columns x relations ≡ list_columns B.items (entries_headings B.entries relations)) (roll-out-Block b)
    (block_columns-rolled B.distinct B.items B.entries B.cond B.groups B.having relations)

pub list_columns-cons : (item : n.Item) (items : List n.Item) (from : List Heading)
    → list_columns (item ∷ items) from ≡ item_columns item from ++ list_columns items from
unfolding everything list_columns entries_headings
list_columns-cons item items from = refl

pub entries_headings-cons : (e : Entry) (es : List Entry) (relations : List Heading)
    → entries_headings (e ∷ es) relations ≡ record { alias = e.alias; columns = source_columns e.source relations } ∷ entries_headings es relations
unfolding everything list_columns entries_headings
entries_headings-cons e es relations = refl

pub entries_headings-nil : (relations : List Heading) → entries_headings [] relations ≡ []
unfolding everything list_columns entries_headings
entries_headings-nil relations = refl

pub length-entries_headings : (es : List Entry) (relations : List Heading) → length (entries_headings es relations) ≡ length es
length-entries_headings [] relations = ap (λ hs. length hs) (entries_headings-nil relations)
length-entries_headings (e ∷ es) relations =
    ap (λ hs. length hs) (entries_headings-cons e es relations) ∙ ap suc (length-entries_headings es relations)

-- the heading of an entry
pub heading-at : (es : List Entry) (relations : List Heading) (i : ℕ) (e : Entry) (d : Heading) → i < length es → e ≡ get_or es i e
    → get_or (entries_headings es relations) i d ≡ record { alias = e.alias; columns = source_columns e.source relations }
heading-at [] relations i e d h is = absurd (omega (arith, h))
heading-at (x ∷ es) relations zero e d h is =
    ap (λ hs. get_or hs 0 d) (entries_headings-cons x es relations) ∙ ap (λ y. record { alias = y.alias; columns = source_columns y.source relations }) (sym is)
heading-at (x ∷ es) relations (suc i) e d h is =
    ap (λ hs. get_or hs (suc i) d) (entries_headings-cons x es relations) ∙ heading-at es relations i e d (omega (arith, h)) is

pub list_columns-nil : (from : List Heading) → list_columns [] from ≡ []
unfolding everything list_columns entries_headings
list_columns-nil from = refl

-- where the one item is all columns of the one source
pub all-of-one : (items : List n.Item) (hs : List Heading) (item : n.Item) (h : Heading) → length items ≡ 1 → length hs ≡ 1
    → item ≡ get_or items 0 item → h ≡ get_or hs 0 h → item_columns item (h ∷ []) ≡ h.columns
    → list_columns items hs ≡ flat_map (λ h. h.columns) hs
all-of-one [] hs item h one single item-is h-is all = absurd (omega (arith, one))
all-of-one (x ∷ y ∷ items) hs item h one single item-is h-is all = absurd (omega (arith, one))
all-of-one (x ∷ []) [] item h one single item-is h-is all = absurd (omega (arith, single))
all-of-one (x ∷ []) (k ∷ l ∷ hs) item h one single item-is h-is all = absurd (omega (arith, single))
all-of-one (x ∷ []) (k ∷ []) item h one single item-is h-is all =
    let here : item_columns x (k ∷ []) ≡ k.columns =
    sym (λ j. item_columns (item-is j) (h-is j ∷ [])) ∙ (all ∙ ap (λ h. h.columns) h-is) in
    list_columns-cons x [] (k ∷ []) ∙ (ap (λ cs. item_columns x (k ∷ []) ++ cs) (list_columns-nil (k ∷ [])) ∙ ap (λ cs. cs ++ []) here)

-- ---- items over the entries that they show
abbrev pub where_alias : (n.Name → Bool) → List Heading → List Heading
where_alias test from = filter (λ h. test h.alias) from

module _ (test : n.Name → Bool) where
  all-pass : ((alias : n.Name) → test alias ≡ true) → (from : List Heading) → where_alias test from ≡ from
  all-pass pass [] = refl
  all-pass pass (x ∷ from) =
      ap (λ b. cond b (x ∷ where_alias test from) (where_alias test from)) (pass x.alias) ∙ ap (λ hs. x ∷ hs) (all-pass pass from)

  find-passing : (alias : n.Name) → ((other : n.Name) → same_name alias other ≡ true → test other ≡ true) → (from : List Heading)
      → find (λ h. same_name alias h.alias) (where_alias test from) ≡ find (λ h. same_name alias h.alias) from
  find-passing alias pass [] = refl
  find-passing alias pass (x ∷ from) = by (test x.alias) refl (find-passing alias pass from)
    where
      rest : List Heading
      rest = where_alias test from

      by : (b : Bool) → test x.alias ≡ b → find (λ h. same_name alias h.alias) rest ≡ find (λ h. same_name alias h.alias) from
          → find (λ h. same_name alias h.alias) (cond b (x ∷ rest) rest) ≡ find (λ h. same_name alias h.alias) (x ∷ from)
      by true e later = ap (λ o. cond (same_name alias x.alias) (Some x) o) later
      by false e later =
          let other : same_name alias x.alias ≡ false = contraposed (same_name alias x.alias) (test x.alias) (pass x.alias) e in
          later ∙ sym (ap (λ b. cond b (Some x) (find (λ h. same_name alias h.alias) from)) other)

  item-shown : (item : n.Item) (from : List Heading) → ((alias : n.Name) → is_star_of alias item ≡ true → test alias ≡ true)
      → item_columns item (where_alias test from) ≡ item_columns item from
  item-shown (n.Star at) from pass = ap (λ hs. flat_map (λ h. h.columns) hs) (all-pass (λ alias. pass alias refl) from)
  item-shown (n.AliasStar alias at) from pass = ap (λ o. unwrap_or (option_map (λ h. h.columns) o) []) (find-passing alias (λ other e. pass other e) from)
  item-shown (n.Value expr name) from pass = refl

  pub list-shown : (items : List n.Item) (from : List Heading) → ((alias : n.Name) → is_shown items alias ≡ true → test alias ≡ true)
      → list_columns items (where_alias test from) ≡ list_columns items from
  list-shown [] from pass = list_columns-nil (where_alias test from) ∙ sym (list_columns-nil from)
  list-shown (item ∷ items) from pass =
      list_columns-cons item items (where_alias test from)
      ∙ ((λ i. item-shown item from (λ alias e. pass alias (or-of-left (is_star_of alias item) (is_shown items alias) e)) i
      ++ list-shown items from (λ alias e. pass alias (or-of-right (is_star_of alias item) (is_shown items alias) e)) i)
      ∙ sym (list_columns-cons item items from))

  -- on the way through entries
  pub where-cons : (e : Entry) (es : List Entry) (relations : List Heading) (shown : Bool) → test e.alias ≡ shown
      → where_alias test (entries_headings (e ∷ es) relations)
      ≡ cond shown (record { alias = e.alias; columns = source_columns e.source relations } ∷ []) [] ++ where_alias test (entries_headings es relations)
  where-cons e es relations shown is =
      ap (λ hs. where_alias test hs) (entries_headings-cons e es relations)
      ∙ (ap (λ b. cond b (record { alias = e.alias; columns = source_columns e.source relations } ∷ rest) rest) is ∙ by shown)
    where
      rest : List Heading
      rest = where_alias test (entries_headings es relations)

      by : (b : Bool) → cond b (record { alias = e.alias; columns = source_columns e.source relations } ∷ rest) rest
          ≡ cond b (record { alias = e.alias; columns = source_columns e.source relations } ∷ []) [] ++ rest
      by true = refl
      by false = refl

pub ruleset items = (all-Star, all-AliasStar)

pub ruleset outputs =
    (output-Block, output-Set, source-Named, source-Query, block_columns-fields, list_columns-cons, list_columns-nil, entries_headings-cons, entries_headings-nil)
