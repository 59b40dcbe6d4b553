-- The rows of a query are as wide as its columns.
use Rattle.std.proofs.Common.{◌≡◌, ℕ, suc, Bool, true, false, ◌&&◌, List, [], ◌∷◌, map, filter, length, Option, Some, option_map, unwrap_or, cond, refl, ap, sym, subst, ◌∙◌}
use Rattle.std.specs.Prelude.{find}
use Rattle.std.specs.List.{flat_map}
use Rattle.std.proofs.lemmas.List.{length-append}
use Rattle.data_model.specs.Lists.{Each}
use Rattle.data_model.specs.Rows.{Row, same_row, distinct, product}
use Rattle.sql_model.specs.Syntax as n
use Rattle.sql_model.specs.Frames.{ColumnName, BoundEntry}
use Rattle.sql_model.specs.Frames as nf
use Rattle.sql_model.specs.Columns.{same_name, entry_with_alias}
use Rattle.sql_model.specs.Headings.{Heading, columns_of, block_columns, item_columns, items_columns, output_columns, headings, source_columns}
use Rattle.sql_model.specs.Grouping.{is_one_group, zero_entry}
use Rattle.sql_model.specs.Grouping as grouping
use Rattle.sql_model.specs.World.{ShownRelation, relation_headings}
use Rattle.sql_model.specs.World.{World as NamedWorld}
use Rattle.sql_model.specs.Meaning as m
use Rattle.scope_core.specs.Scope.{Known, heading, Level, Levels, on_level, no_entry}
use Rattle.scope_core.specs.Resolving.{source_named}
use Rattle.scope_core.specs.Environments.{World, Environment}
use Rattle.scope_core.specs.Evaluation.{source_rows}
use Rattle.scope_core.proofs.basics.Each.{Each-map, Each-filter, Each-flat_map, Each-distinct_if, Each-combined}
use Rattle.scope_core.proofs.well_formed.Resolvable.{Resolvable, ResolvableBlock, ResolvableEntries, ResolvableSource}
use Rattle.scope_core.proofs.rows.Places.{IsBound}
use Rattle.scope_core.proofs.rows.Built.{source-Query, rows-Block, no_rows}

-- entries under these headings
abbrev pub Heads : List Heading → List BoundEntry → Type 0
Heads [] [] = Unit {0}
Heads (h ∷ hs) (b ∷ bs) = IsBound h b b.row × Heads hs bs
Heads _ _ = ⊥

abbrev pub Choices : List Heading → List (List BoundEntry) → Type 0
Choices [] [] = Unit {0}
Choices (h ∷ hs) (bs ∷ bss) = Each (λ b. IsBound h b b.row) bs × Choices hs bss
Choices _ _ = ⊥

pub product-heads : (hs : List Heading) (bss : List (List BoundEntry)) → Choices hs bss → Each (Heads hs) (product bss)
product-heads [] [] h = (tt, tt)
product-heads [] (bs ∷ bss) h = absurd h
product-heads (k ∷ hs) [] h = absurd h
product-heads (k ∷ hs) (bs ∷ bss) h =
    Each-flat_map (λ b. IsBound k b b.row) (Heads (k ∷ hs)) (λ b. map (λ c. b ∷ c) (product bss))
    (λ b i. Each-map (Heads hs) (Heads (k ∷ hs)) (λ c. b ∷ c) (λ c j. (i, j)) (product bss) (product-heads hs bss h.1)) bs h.0

star-wide : (hs : List Heading) (bs : List BoundEntry) → Heads hs bs → length (flat_map (λ b. b.row) bs) ≡ length (flat_map (λ h. h.columns) hs)
star-wide [] [] h = refl
star-wide [] (b ∷ bs) h = absurd h
star-wide (k ∷ hs) [] h = absurd h
star-wide (k ∷ hs) (b ∷ bs) h =
    length-append b.row (flat_map (λ b. b.row) bs) ∙ (rw (h.0.long, star-wide hs bs h.1) (sym (length-append k.columns (flat_map (λ h. h.columns) hs))))

alias-cond : (hit : Bool) (h : Heading) (b : BoundEntry) (o : Option Heading) (p : Option BoundEntry) → length b.row ≡ length h.columns
    → length (m.row_of p) ≡ length (unwrap_or (option_map (λ h. h.columns) o) []) → length (m.row_of (cond hit (Some b) p)) ≡ length (unwrap_or (option_map (λ h. h.columns) (cond hit (Some h) o)) [])
alias-cond true h b o p e f = e
alias-cond false h b o p e f = f

alias-wide : (alias : n.Name) (hs : List Heading) (bs : List BoundEntry) → Heads hs bs → length (m.row_of (entry_with_alias alias bs)) ≡ length (columns_of alias hs)
alias-wide alias [] [] h = refl
alias-wide alias [] (b ∷ bs) h = absurd h
alias-wide alias (k ∷ hs) [] h = absurd h
alias-wide alias (k ∷ hs) (b ∷ bs) h =
    ap (λ al. length (m.row_of (cond (same_name alias al) (Some b) (entry_with_alias alias bs)))) h.0.alias
    ∙ alias-cond (same_name alias k.alias) k b (find (λ x. same_name alias x.alias) hs) (entry_with_alias alias bs) h.0.long (alias-wide alias hs bs h.1)

-- a relation, as names and as a resolved tree have it
pub record IsShown (rd : World) (r : ShownRelation) (k : Known) : Type 0 where
  pub name : r.name ≡ k.name
  pub columns : r.columns ≡ k.columns
  pub wide : Each (λ (row : Row). length row ≡ length k.columns) r.rows
  pub rows : (env : Environment) → source_rows k.source rd env ≡ r.rows

abbrev pub Shows : World → List ShownRelation → List Known → Type 0
Shows rd [] [] = Unit {0}
Shows rd (r ∷ rs) (k ∷ ks) = IsShown rd r k × Shows rd rs ks
Shows rd _ _ = ⊥

abbrev shown_heading : ShownRelation → Heading
shown_heading r = record { alias = r.name; columns = r.columns }

pub known-same : (rd : World) (rs : List ShownRelation) (ks : List Known) → Shows rd rs ks → map shown_heading rs ≡ map heading ks
known-same rd [] [] h = refl
known-same rd [] (k ∷ ks) h = absurd h
known-same rd (r ∷ rs) [] h = absurd h
known-same rd (r ∷ rs) (k ∷ ks) h = λ i. record { alias = h.0.name i; columns = h.0.columns i } ∷ known-same rd rs ks h.1 i

named-cond : (rd : World) (env : Environment) (hit : Bool) (r : ShownRelation) (k : Known) (o : Option ShownRelation) (p : Option Known) → source_rows k.source rd env ≡ r.rows
    → source_rows (unwrap_or (option_map (λ k. k.source) p) (source_named [] [])) rd env ≡ unwrap_or (option_map (λ r. r.rows) o) []
    → source_rows (unwrap_or (option_map (λ k. k.source) (cond hit (Some k) p)) (source_named [] [])) rd env ≡ unwrap_or (option_map (λ r. r.rows) (cond hit (Some r) o)) []
named-cond rd env true r k o p e f = e
named-cond rd env false r k o p e f = f

pub named-same : (rd : World) (env : Environment) (name : n.Name) (rs : List ShownRelation) (ks : List Known) → Shows rd rs ks
    → source_rows (source_named name ks) rd env ≡ unwrap_or (option_map (λ r. r.rows) (find (λ r. same_name name r.name) rs)) []
named-same rd env name [] [] h = source-Query rd env _ ∙ rows-Block rd env _ ∙ no_rows rd env
named-same rd env name [] (k ∷ ks) h = absurd h
named-same rd env name (r ∷ rs) [] h = absurd h
named-same rd env name (r ∷ rs) (k ∷ ks) h =
    named-cond rd env (same_name name k.name) r k (find (λ r. same_name name r.name) rs) (find (λ k. same_name name k.name) ks) (h.0.rows env) (named-same rd env name rs ks h.1)
    ∙ ap (λ nm. unwrap_or (option_map (λ r. r.rows) (cond (same_name name nm) (Some r) (find (λ r. same_name name r.name) rs))) []) (sym h.0.name)

abbrev WideRows : List ColumnName → List Row → Type 0
WideRows cs rows = Each (λ (row : Row). length row ≡ length cs) rows

wide-cond : (hit : Bool) (r : ShownRelation) (h : Heading) (o : Option ShownRelation) (p : Option Heading) → WideRows h.columns r.rows
    → WideRows (unwrap_or (option_map (λ h. h.columns) p) []) (unwrap_or (option_map (λ r. r.rows) o) [])
    → WideRows (unwrap_or (option_map (λ h. h.columns) (cond hit (Some h) p)) []) (unwrap_or (option_map (λ r. r.rows) (cond hit (Some r) o)) [])
wide-cond true r h o p e f = e
wide-cond false r h o p e f = f

pub named-wide : (rd : World) (name : n.Name) (rs : List ShownRelation) (ks : List Known) → Shows rd rs ks
    → WideRows (columns_of name (map heading ks)) (unwrap_or (option_map (λ r. r.rows) (find (λ r. same_name name r.name) rs)) [])
named-wide rd name [] [] h = tt
named-wide rd name [] (k ∷ ks) h = absurd h
named-wide rd name (r ∷ rs) [] h = absurd h
named-wide rd name (r ∷ rs) (k ∷ ks) h =
    subst (λ nm. WideRows (columns_of name (map heading (k ∷ ks))) (unwrap_or (option_map (λ r. r.rows) (cond (same_name name nm) (Some r) (find (λ r. same_name name r.name) rs))) [])) (sym h.0.name)
    (wide-cond (same_name name k.name) r (heading k) (find (λ r. same_name name r.name) rs) (find (λ x. same_name name x.alias) (map heading ks)) h.0.wide (named-wide rd name rs ks h.1))

module _ (w : NamedWorld) (rd : World) (ks : List Known) (shows : Shows rd w.relations ks) where
  abbrev hs : List Heading
  hs = map heading ks

  pub known-eq : relation_headings w ≡ hs
  known-eq = known-same rd w.relations ks shows

  abbrev Under : List Heading → nf.Frame → Type 0
  Under H f = Heads H f.entries

  zero_entry-heads : (H : List Heading) → Heads H (map zero_entry H)
  zero_entry-heads [] = tt
  zero_entry-heads (h ∷ H) = (record { alias = refl; columns = refl; long = zero_row h.columns; row = refl }, zero_entry-heads H)
    where
      zero_row : (cs : List ColumnName) → length {A = ℕ} (map (λ name. 0) cs) ≡ length cs
      zero_row [] = refl
      zero_row (c ∷ cs) = ap suc (zero_row cs)

  pub group-under : (H : List Heading) (group : List (List BoundEntry)) → Each (Heads H) group → Under H (grouping.group_frame H group)
  group-under H [] h = zero_entry-heads H
  group-under H (first ∷ others) h = h.0

  groups-under : (H : List Heading) (key : List BoundEntry → Row) (kept : List (List BoundEntry)) (keys : List Row) → Each (Heads H) kept
      → Each (Under H) (map (grouping.group_frame H) (map (λ k. filter (λ c. same_row (key c) k) kept) keys))
  groups-under H key kept [] h = tt
  groups-under H key kept (k ∷ keys) h = (group-under H (filter (λ c. same_row (key c) k) kept) (Each-filter (Heads H) (λ c. same_row (key c) k) kept h), groups-under H key kept keys h)

  frames-under : (group_by : n.MaybeGroupBy) (one : Bool) (H : List Heading) (kept : List (List BoundEntry)) (env : nf.Environment) → Each (Heads H) kept → Each (Under H) (m.frames group_by one H kept w env)
  unfolding m.rows
  frames-under n.NoGroupBy false H kept env h = Each-map (Heads H) (Under H) nf.frame_of (λ c k. k) kept h
  frames-under n.NoGroupBy true H kept env h = (group-under H kept h, tt)
  frames-under (n.GroupBy s keys) one H kept env h =
      groups-under H (λ c. m.values keys w (nf.frame_of c ∷ env)) kept (distinct (map (λ c. m.values keys w (nf.frame_of c ∷ env)) kept)) h

  mutual
    unfolding m.rows Resolvable output_columns

    pub rows-wide : (q : n.Query) (ls : Levels) (env : nf.Environment) → Resolvable q hs ls → WideRows (output_columns q hs) (m.rows q w env)
    rows-wide (n.OfBlock block) ls env f = block-wide block ls env f
    rows-wide (n.Set op left right at) ls env f =
        Each-combined (λ row. length row ≡ length (output_columns left hs)) op (m.rows left w env) (m.rows right w env) (rows-wide left ls env f.0)
        (subst (λ k. Each (λ (row : Row). length row ≡ k) (m.rows right w env)) (sym f.2) (rows-wide right ls env f.1))

    pub block-wide : (b : n.Block) (ls : Levels) (env : nf.Environment) → ResolvableBlock b hs ls → WideRows (block_columns b hs) (m.block_rows b w env)
    block-wide (n.Select is_distinct s items s' from where_condition group_by having) ls env f =
        let H = headings from hs in
        let one = is_one_group items having in
        let keep = λ (c : List BoundEntry). m.joins_hold from c [] w env && m.holds where_condition w (nf.frame_of c ∷ env) in
        let kept = filter keep (product (m.choices from w env)) in
        let hold = λ (f : nf.Frame). m.holds having w (f ∷ env) in
        let made = λ (f : nf.Frame). m.output_row items w (f ∷ env) in
        let fs = m.frames group_by one (headings from (relation_headings w)) kept w env in
        let under : Each (Under H) fs = subst (λ K. Each (Under H) (m.frames group_by one (headings from K) kept w env)) (sym known-eq)
        (frames-under group_by one H kept env (Each-filter (Heads H) keep (product (m.choices from w env)) (product-heads H (m.choices from w env) (choices-wide from 0 no_entry ls env f.0)))) in
        Each-distinct_if (λ row. length row ≡ length (items_columns items H)) is_distinct (map made (filter hold fs))
        (Each-map (Under H) (λ row. length row ≡ length (items_columns items H)) made (λ f k. row-wide items f env H k) (filter hold fs) (Each-filter (Under H) hold fs under))

    pub choices-wide : {k : _} (es : n.Entries k) (place : ℕ) (l : Level) (ls : Levels) (env : nf.Environment) → ResolvableEntries es place l hs ls → Choices (headings es hs) (m.choices es w env)
    choices-wide n.NoEntries place l ls env f = tt
    choices-wide (n.EntryThen source alias at joined on rest) place l ls env f = (
      Each-map (λ row. length row ≡ length (source_columns source hs)) (λ b. IsBound (record { alias = alias; columns = source_columns source hs }) b b.row)
          (λ r. record { alias = alias; columns = source_columns source (relation_headings w); row = r })
          (λ r long. record { alias = refl; columns = ap (source_columns source) known-eq; long = long; row = refl }) (m.source_rows source w env) (source-wide source ls env f.0),
      choices-wide rest (suc place) (on_level joined l place (record { alias = alias; columns = source_columns source hs })) ls env f.2,
    )

    pub source-wide : (s : n.Source) (ls : Levels) (env : nf.Environment) → ResolvableSource s hs ls → WideRows (source_columns s hs) (m.source_rows s w env)
    source-wide (n.Named name at) ls env f = named-wide rd name w.relations ks shows
    source-wide (n.Derived query) ls env f = rows-wide query ls env f

    pub row-wide : {k : _} (items : n.Items k) (c : nf.Frame) (env : nf.Environment) (H : List Heading) → Under H c → length (m.output_row items w (c ∷ env)) ≡ length (items_columns items H)
    row-wide n.NoItems c env H k = refl
    row-wide (n.ItemThen item rest) c env H k =
        length-append (m.item_values item w (c ∷ env)) (m.output_row rest w (c ∷ env))
        ∙ (rw (item-wide item c env H k, row-wide rest c env H k) (sym (length-append (item_columns item H) (items_columns rest H))))

    pub item-wide : (item : n.Item) (c : nf.Frame) (env : nf.Environment) (H : List Heading) → Under H c → length (m.item_values item w (c ∷ env)) ≡ length (item_columns item H)
    item-wide (n.Star at) c env H k = star-wide H c.entries k
    item-wide (n.AliasStar alias at) c env H k = alias-wide alias H c.entries k
    item-wide (n.Value expr name) c env H k = refl
