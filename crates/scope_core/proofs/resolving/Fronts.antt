-- FROM, the ON conditions and the items of a block, one after the other.
use Rattle.std.proofs.Common.{◌≡◌, ℕ, suc, ◌+◌, ◌<◌, ◌≤◌, Bool, true, false, cond, option_map, unwrap_or, List, [], ◌∷◌, ◌++◌, map, length, drop, take, get_or, Option, Some, None, refl, ap, sym, subst, ◌∙◌, arith}
use Rattle.std.specs.Prelude.{find, if◌then◌else◌}
use Rattle.std.specs.Option.{option_or}
use Rattle.std.specs.List.{flat_map}
use Rattle.std.proofs.lemmas.List.{length-append}
use Rattle.sql_model.specs.Frames.{ColumnName}
use Rattle.sql_model.specs.Columns.{same_name}
use Rattle.scope_core.specs.Syntax.{RVal}
use Rattle.sql_model.specs.Syntax as n
use Rattle.sql_model.specs.declared.tree.Entry.{Entry, out-Entry, roll-Entry, roll-out-Entry}
use Rattle.sql_model.specs.Headings.{Heading, columns_of, item_columns, source_columns}
use Rattle.scope_core.specs.Compute.{resolving}
use Rattle.scope_core.specs.FirstFault.{fault_at}
use Rattle.scope_core.specs.Lent.{entries_headings, entries_row, items_row, list_columns}
use Rattle.scope_core.specs.Parts.{entries_fault, entries_listed, item_fault, items_fault, items_listed, on_fault, on_listed, source_fault, truth_fault, written_fault, written_listed}
use Rattle.scope_core.specs.Resolving.{alias_star, entry_columns, star, entry_of, resolved_item, resolved_source}
use Rattle.scope_core.specs.Scope.{AsRows, Known, heading, Level, Levels, headings_here, on_level}
use Rattle.scope_core.specs.Sites.{AnAlias, Outputs, entry_sites, item_sites, items_sites, on_sites, source_sites, truth_sites}
use Rattle.scope_core.proofs.basics.Lists.{between-longer, between-one}
use Rattle.scope_core.proofs.resolving.Outputs.{heading-at, length-entries_headings, list_columns-cons, list_columns-nil}
use Rattle.scope_core.proofs.resolving.Walks.{first_fault-append}

module _ (known : List Known) (levels : Levels) where
  pub entries_fault-cons : (before : List n.Name) (e : Entry) (es : List Entry) → entries_fault known levels before (e ∷ es)
      ≡ option_or (source_fault known levels e.source)
      (option_or (fault_at (AnAlias e.alias before e.at)) (entries_fault known levels (before ++ e.alias ∷ []) es))
  unfolding resolving entries_fault source_fault
  entries_fault-cons before e es =
      first_fault-append (source_sites e.source known levels) (AnAlias e.alias before e.at ∷ entry_sites (entries_row es) (before ++ e.alias ∷ []) known levels)

  pub entries_fault-nil : (before : List n.Name) → entries_fault known levels before [] ≡ None
  unfolding resolving entries_fault
  entries_fault-nil before = refl

  pub entries_listed-cons : (e : Entry) (es : List Entry) → entries_listed known levels (e ∷ es)
      ≡ entry_of (resolved_source e.source known levels, length (source_columns e.source (map heading known))) ∷ entries_listed known levels es
  unfolding resolving entries_listed
  entries_listed-cons e es = refl

  pub entries_listed-nil : Unit {0} → entries_listed known levels [] ≡ []
  unfolding resolving entries_listed
  entries_listed-nil u = refl

  pub items_fault-cons : (count : ℕ) (item : n.Item) (items : List n.Item) → items_fault known levels count (item ∷ items)
      ≡ option_or (item_fault known levels item)
      (option_or (fault_at (Outputs (count + length (item_columns item (headings_here levels)))))
      (items_fault known levels (count + length (item_columns item (headings_here levels))) items))
  unfolding resolving items_fault item_fault
  items_fault-cons count item items =
      let with = count + length (item_columns item (headings_here levels)) in
      first_fault-append (item_sites item known levels) (Outputs with ∷ items_sites (items_row items) with known levels)

  pub items_fault-nil : (count : ℕ) → items_fault known levels count [] ≡ None
  unfolding resolving items_fault
  items_fault-nil count = refl

  pub items_listed-cons : (item : n.Item) (items : List n.Item)
      → items_listed known levels (item ∷ items) ≡ resolved_item item known levels ++ items_listed known levels items
  unfolding resolving items_listed
  items_listed-cons item items = refl

  pub items_listed-nil : Unit {0} → items_listed known levels [] ≡ []
  unfolding resolving items_listed
  items_listed-nil u = refl

-- what the ON of an entry sees, where `before` is what the ON of the entry before it sees
abbrev pub seen_by : List Known → ℕ → Level → Entry → Level
seen_by known entry before e = on_level e.joined before entry (record { alias = e.alias; columns = source_columns e.source (map heading known) })

module _ (known : List Known) (levels : Levels) where
  on_fault-rolled : (entry : ℕ) (before : Level) (s : n.Source) (alias : n.Name) (at : ℕ) (joined : Bool) (on : Option n.Expr) (es : List Entry)
      → on_fault known levels entry before (roll-Entry (record { source = s; alias = alias; at = at; joined = joined; on = on }) ∷ es)
      ≡ option_or (written_fault known (on_level joined before entry (record { alias = alias; columns = source_columns s (map heading known) }) ∷ levels) on)
      (on_fault known levels (suc entry) (on_level joined before entry (record { alias = alias; columns = source_columns s (map heading known) })) es)
  unfolding resolving on_fault truth_fault
  on_fault-rolled entry before s alias at joined None es = refl
  on_fault-rolled entry before s alias at joined (Some e) es =
      let seen = on_level joined before entry (record { alias = alias; columns = source_columns s (map heading known) }) in
      first_fault-append (truth_sites e known (seen ∷ levels)) (on_sites (entries_row es) (suc entry) seen known levels)

  on_listed-rolled : (entry : ℕ) (before : Level) (s : n.Source) (alias : n.Name) (at : ℕ) (joined : Bool) (on : Option n.Expr) (es : List Entry)
      → on_listed known levels entry before (roll-Entry (record { source = s; alias = alias; at = at; joined = joined; on = on }) ∷ es)
      ≡ written_listed known (on_level joined before entry (record { alias = alias; columns = source_columns s (map heading known) }) ∷ levels) on
      ++ on_listed known levels (suc entry) (on_level joined before entry (record { alias = alias; columns = source_columns s (map heading known) })) es
  unfolding resolving on_listed
  on_listed-rolled entry before s alias at joined None es = refl
  on_listed-rolled entry before s alias at joined (Some e) es = refl

  pub on_fault-cons : (entry : ℕ) (before : Level) (e : Entry) (es : List Entry) → on_fault known levels entry before (e ∷ es)
      ≡ option_or (written_fault known (seen_by known entry before e ∷ levels) e.on) (on_fault known levels (suc entry) (seen_by known entry before e) es)
  on_fault-cons entry before e es =
      let E = out-Entry e in
      subst (λ x. on_fault known levels entry before (x ∷ es) ≡ option_or (written_fault known (seen_by known entry before e ∷ levels) e.on) (on_fault known levels (suc entry) (seen_by known entry before e) es))
      (roll-out-Entry e) (on_fault-rolled entry before E.source E.alias E.at E.joined E.on es)

  pub on_listed-cons : (entry : ℕ) (before : Level) (e : Entry) (es : List Entry) → on_listed known levels entry before (e ∷ es)
      ≡ written_listed known (seen_by known entry before e ∷ levels) e.on ++ on_listed known levels (suc entry) (seen_by known entry before e) es
  on_listed-cons entry before e es =
      let E = out-Entry e in
      subst (λ x. on_listed known levels entry before (x ∷ es) ≡ written_listed known (seen_by known entry before e ∷ levels) e.on ++ on_listed known levels (suc entry) (seen_by known entry before e) es)
      (roll-out-Entry e) (on_listed-rolled entry before E.source E.alias E.at E.joined E.on es)

  pub on_fault-nil : (entry : ℕ) (before : Level) → on_fault known levels entry before [] ≡ None
  unfolding resolving on_fault
  on_fault-nil entry before = refl

  pub on_listed-nil : (entry : ℕ) (before : Level) → on_listed known levels entry before [] ≡ []
  unfolding resolving on_listed
  on_listed-nil entry before = refl

-- ---- what an ON sees, as a slice of the headings
module _ (known : List Known) (es : List Entry) (H : List Heading) (i first first' n : ℕ) (e : Entry) (heads : H ≡ entries_headings es (map heading known))
    (inside : i < length es) (is : e ≡ get_or es i e) (same : n ≡ first') where
  abbrev own : Heading
  own = record { alias = e.alias; columns = source_columns e.source (map heading known) }

  own-is : get_or H i own ≡ own
  own-is = ap (λ hs. get_or hs i own) heads ∙ heading-at es (map heading known) i e own inside is

  long : i < length H
  long = let l : length H ≡ length es = ap (λ hs. length hs) heads ∙ length-entries_headings es (map heading known) in omega (arith, l, inside)

  abbrev before : Level
  before = record { first = first; headings = drop first (take i H); sight = AsRows }

  abbrev seen : Level
  seen = record { first = n; headings = drop first' (take (i + 1) H); sight = AsRows }

  pub seen-joined : e.joined ≡ true → first' ≡ first → first ≤ i → seen_by known i before e ≡ seen
  seen-joined joined f low =
      let more : suc i ≡ i + 1 = omega arith in
      let longer = ap (λ h. drop first (take i H) ++ h ∷ []) (sym own-is) ∙ between-longer first i H own low long in
      ap (λ b. on_level b before i own) joined
      ∙ (ap (λ hs. record { first = first; headings = hs; sight = AsRows }) longer
      ∙ (λ j. record { first = (sym f ∙ sym same) j; headings = drop (sym f j) (take (more j) H); sight = AsRows }))

  pub seen-apart : e.joined ≡ false → first' ≡ i → seen_by known i before e ≡ seen
  seen-apart apart f =
      let more : suc i ≡ i + 1 = omega arith in
      let one = ap (λ h. h ∷ []) (sym own-is) ∙ between-one i H own long in
      ap (λ b. on_level b before i own) apart
      ∙ (ap (λ hs. record { first = i; headings = hs; sight = AsRows }) one
      ∙ (λ j. record { first = (sym f ∙ sym same) j; headings = drop (sym f j) (take (more j) H); sight = AsRows }))

-- ---- an item has a value for each of its columns
length-entry_columns : (entry column : ℕ) (cs : List ColumnName) → length (entry_columns entry column cs) ≡ length cs
length-entry_columns entry column [] = refl
length-entry_columns entry column (c ∷ cs) = ap suc (length-entry_columns entry (suc column) cs)

length-star : (entry : ℕ) (hs : List Heading) → length (star entry hs) ≡ length (flat_map (λ h. h.columns) hs)
length-star entry [] = refl
length-star entry (h ∷ hs) =
    length-append (entry_columns entry 0 h.columns) (star (suc entry) hs)
    ∙ (rw (length-entry_columns entry 0 h.columns, length-star (suc entry) hs) (sym (length-append h.columns (flat_map (λ h. h.columns) hs))))

length-chosen : (b : Bool) (entry : ℕ) (h : Heading) (rest : List RVal) (o : Option Heading)
    → length rest ≡ length (unwrap_or (option_map (λ h. h.columns) o) [])
    → length (if b then entry_columns entry 0 h.columns else rest) ≡ length (unwrap_or (option_map (λ h. h.columns) (cond b (Some h) o)) [])
length-chosen true entry h rest o e = length-entry_columns entry 0 h.columns
length-chosen false entry h rest o e = e

length-alias_star : (alias : n.Name) (entry : ℕ) (hs : List Heading) → length (alias_star alias entry hs) ≡ length (columns_of alias hs)
length-alias_star alias entry [] = refl
length-alias_star alias entry (h ∷ hs) =
    length-chosen (same_name alias h.alias) entry h (alias_star alias (suc entry) hs) (find (λ h. same_name alias h.alias) hs) (length-alias_star alias (suc entry) hs)

pub length-resolved_item : (item : n.Item) (known : List Known) (levels : Levels)
    → length (resolved_item item known levels) ≡ length (item_columns item (headings_here levels))
unfolding resolving
length-resolved_item (n.Star at) known levels = length-star 0 (headings_here levels)
length-resolved_item (n.AliasStar alias at) known levels = length-alias_star alias 0 (headings_here levels)
length-resolved_item (n.Value expr name) known levels = refl

-- as many values as columns
pub length-items_listed : (items : List n.Item) (known : List Known) (levels : Levels)
    → length (items_listed known levels items) ≡ length (list_columns items (headings_here levels))
length-items_listed [] known levels =
    ap (λ vs. length vs) (items_listed-nil known levels tt) ∙ sym (ap (λ cs. length cs) (list_columns-nil (headings_here levels)))
length-items_listed (item ∷ items) known levels =
    let H = headings_here levels in
    ap (λ vs. length vs) (items_listed-cons known levels item items)
    ∙ (length-append (resolved_item item known levels) (items_listed known levels items)
    ∙ (rw (length-resolved_item item known levels, length-items_listed items known levels)
    (sym (ap (λ cs. length cs) (list_columns-cons item items H) ∙ length-append (item_columns item H) (list_columns items H)))))
