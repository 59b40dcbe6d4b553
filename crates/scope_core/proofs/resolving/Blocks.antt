-- A block as code resolves it: its fault and its tree, by the fields of the block.
use Rattle.std.proofs.Common.{◌≡◌, Bool, List, [], ◌∷◌, ◌++◌, map, Option, Some, None, refl, ap, subst, sym, ◌∙◌}
use Rattle.std.specs.Prelude.{◌||◌, is_some}
use Rattle.std.specs.Option.{option_or}
use Rattle.sql_model.specs.Syntax as n
use Rattle.sql_model.specs.declared.tree.Entry.{Entry}
use Rattle.sql_model.specs.declared.tree.Block.{out-Block, roll-Block, roll-out-Block}
use Rattle.sql_model.specs.Headings.{Heading}
use Rattle.scope_core.specs.declared.fault.ScopeFault.{ScopeFault}
use Rattle.scope_core.specs.declared.tree.RBlock.{roll-RBlock}
use Rattle.scope_core.specs.Compute.{resolving}
use Rattle.scope_core.specs.Syntax.{RBlock, Grouping}
use Rattle.scope_core.specs.FirstFault.{first_fault}
use Rattle.scope_core.specs.Lent.{entries_row, items_row, row_of, entries_headings, items_have_aggregate_listed}
use Rattle.scope_core.specs.Parts.{block_fault, entries_fault, on_fault, items_fault, truth_fault, columns_fault, written_fault, group_by_fault, entries_listed, on_listed, items_listed, places_listed, written_listed, having_listed, grouping_listed, filter_fault, filter_listed, from_headings, grouping_over, output_fault, output_having, output_items}
use Rattle.scope_core.specs.Resolving.{resolved_block}
use Rattle.scope_core.specs.Scope.{Known, heading, Levels, Sight, no_entry, output_sight, rows_level, output_level}
use Rattle.scope_core.specs.Sites.{Site, truth_sites, group_sites, entry_sites, on_sites, items_sites}
use Rattle.scope_core.specs.Answer.{IsCause}
use Rattle.scope_core.proofs.resolving.Columns.{causes}
use Rattle.scope_core.proofs.resolving.Walks.{first_fault-append, or-assoc, cause-first, cause-second, no-fault-both}

first_fault-six : (a b c d e f : List Site) → first_fault (a ++ b ++ c ++ d ++ e ++ f)
    ≡ option_or (first_fault a) (option_or (first_fault b) (option_or (first_fault c) (option_or (first_fault d) (option_or (first_fault e) (first_fault f)))))
first_fault-six a b c d e f =
    first_fault-append (a ++ b ++ c ++ d ++ e) f
    ∙ (rw (first_fault-append (a ++ b ++ c ++ d) e, first_fault-append (a ++ b ++ c) d, first_fault-append (a ++ b) c, first_fault-append a b)
    (right (first_fault a) (first_fault b) (first_fault c) (first_fault d) (first_fault e) (first_fault f)))
  where
    right : (p q r s t u : Option ScopeFault) → option_or (option_or (option_or (option_or (option_or p q) r) s) t) u
        ≡ option_or p (option_or q (option_or r (option_or s (option_or t u))))
    right (Some x) q r s t u = refl
    right None (Some x) r s t u = refl
    right None None (Some x) s t u = refl
    right None None None s t u = or-assoc s t u

module _ (known : List Known) (levels : Levels) where
  -- of a block with these fields
  module _ (d : Bool) (items : List n.Item) (entries : List Entry) (c : Option n.Expr) (g : Option (List n.Expr)) (h : Option n.Expr) where
    abbrev from : List Heading
    from = entries_headings entries (map heading known)

    abbrev grouping : Grouping
    grouping = grouping_listed g (is_some h || items_have_aggregate_listed items) from

    abbrev rows : Levels
    rows = rows_level from ∷ levels

    abbrev output : Levels
    output = output_level from grouping ∷ levels

    abbrev pub parts_fault : Option ScopeFault
    parts_fault =
        option_or (entries_fault known levels [] entries)
        (option_or (on_fault known levels 0 no_entry entries)
        (option_or (written_fault known rows c)
        (option_or (group_by_fault rows g) (option_or (items_fault known output 0 items) (written_fault known output h)))))

    abbrev pub parts_tree : RBlock
    parts_tree = roll-RBlock (record {
      distinct = d;
      entries = entries_listed known levels entries;
      conds = on_listed known levels 0 no_entry entries ++ written_listed known rows c;
      grouping = grouping;
      having = having_listed known output h;
      items = items_listed known output items;
    })

  abbrev written : Option n.Expr → Levels → List Site
  written None ls = []
  written (Some expr) ls = truth_sites expr known ls

  abbrev grouped : Option (List n.Expr) → Levels → List Site
  grouped None ls = []
  grouped (Some columns) ls = group_sites (row_of columns) ls

  block_fault-rolled : (d : Bool) (items : List n.Item) (entries : List Entry) (c : Option n.Expr) (g : Option (List n.Expr)) (h : Option n.Expr)
      → block_fault known levels (roll-Block (record { distinct = d; items = items; entries = entries; cond = c; groups = g; having = h }))
      ≡ parts_fault d items entries c g h
  unfolding resolving block_fault entries_fault on_fault items_fault truth_fault columns_fault entries_headings items_have_aggregate_listed places_listed
  block_fault-rolled d items entries None None None =
      first_fault-six (entry_sites (entries_row entries) [] known levels) (on_sites (entries_row entries) 0 no_entry known levels)
      (written None (rows d items entries None None None)) (grouped None (rows d items entries None None None))
      (items_sites (items_row items) 0 known (output d items entries None None None)) (written None (output d items entries None None None))
  block_fault-rolled d items entries None None (Some h) =
      first_fault-six (entry_sites (entries_row entries) [] known levels) (on_sites (entries_row entries) 0 no_entry known levels)
      (written None (rows d items entries None None (Some h))) (grouped None (rows d items entries None None (Some h)))
      (items_sites (items_row items) 0 known (output d items entries None None (Some h))) (written (Some h) (output d items entries None None (Some h)))
  block_fault-rolled d items entries None (Some g) None =
      first_fault-six (entry_sites (entries_row entries) [] known levels) (on_sites (entries_row entries) 0 no_entry known levels)
      (written None (rows d items entries None (Some g) None)) (grouped (Some g) (rows d items entries None (Some g) None))
      (items_sites (items_row items) 0 known (output d items entries None (Some g) None)) (written None (output d items entries None (Some g) None))
  block_fault-rolled d items entries None (Some g) (Some h) =
      first_fault-six (entry_sites (entries_row entries) [] known levels) (on_sites (entries_row entries) 0 no_entry known levels)
      (written None (rows d items entries None (Some g) (Some h))) (grouped (Some g) (rows d items entries None (Some g) (Some h)))
      (items_sites (items_row items) 0 known (output d items entries None (Some g) (Some h))) (written (Some h) (output d items entries None (Some g) (Some h)))
  block_fault-rolled d items entries (Some c) None None =
      first_fault-six (entry_sites (entries_row entries) [] known levels) (on_sites (entries_row entries) 0 no_entry known levels)
      (written (Some c) (rows d items entries (Some c) None None)) (grouped None (rows d items entries (Some c) None None))
      (items_sites (items_row items) 0 known (output d items entries (Some c) None None)) (written None (output d items entries (Some c) None None))
  block_fault-rolled d items entries (Some c) None (Some h) =
      first_fault-six (entry_sites (entries_row entries) [] known levels) (on_sites (entries_row entries) 0 no_entry known levels)
      (written (Some c) (rows d items entries (Some c) None (Some h))) (grouped None (rows d items entries (Some c) None (Some h)))
      (items_sites (items_row items) 0 known (output d items entries (Some c) None (Some h))) (written (Some h) (output d items entries (Some c) None (Some h)))
  block_fault-rolled d items entries (Some c) (Some g) None =
      first_fault-six (entry_sites (entries_row entries) [] known levels) (on_sites (entries_row entries) 0 no_entry known levels)
      (written (Some c) (rows d items entries (Some c) (Some g) None)) (grouped (Some g) (rows d items entries (Some c) (Some g) None))
      (items_sites (items_row items) 0 known (output d items entries (Some c) (Some g) None)) (written None (output d items entries (Some c) (Some g) None))
  block_fault-rolled d items entries (Some c) (Some g) (Some h) =
      first_fault-six (entry_sites (entries_row entries) [] known levels) (on_sites (entries_row entries) 0 no_entry known levels)
      (written (Some c) (rows d items entries (Some c) (Some g) (Some h))) (grouped (Some g) (rows d items entries (Some c) (Some g) (Some h)))
      (items_sites (items_row items) 0 known (output d items entries (Some c) (Some g) (Some h))) (written (Some h) (output d items entries (Some c) (Some g) (Some h)))

  block_tree-rolled : (d : Bool) (items : List n.Item) (entries : List Entry) (c : Option n.Expr) (g : Option (List n.Expr)) (h : Option n.Expr)
      → resolved_block (roll-Block (record { distinct = d; items = items; entries = entries; cond = c; groups = g; having = h })) known levels
      ≡ parts_tree d items entries c g h
  unfolding resolving entries_listed on_listed items_listed entries_headings items_have_aggregate_listed places_listed
  block_tree-rolled d items entries None None None = refl
  block_tree-rolled d items entries None None (Some h) = refl
  block_tree-rolled d items entries None (Some g) None = refl
  block_tree-rolled d items entries None (Some g) (Some h) = refl
  block_tree-rolled d items entries (Some c) None None = refl
  block_tree-rolled d items entries (Some c) None (Some h) = refl
  block_tree-rolled d items entries (Some c) (Some g) None = refl
  block_tree-rolled d items entries (Some c) (Some g) (Some h) = refl

  pub block_fault-fields : (b : n.Block) → block_fault known levels b
      ≡ parts_fault (out-Block b).distinct (out-Block b).items (out-Block b).entries (out-Block b).cond (out-Block b).groups (out-Block b).having
  block_fault-fields b =
      let B = out-Block b in
      subst (λ x. block_fault known levels x ≡ parts_fault B.distinct B.items B.entries B.cond B.groups B.having) (roll-out-Block b)
      (block_fault-rolled B.distinct B.items B.entries B.cond B.groups B.having)

  pub block_tree-fields : (b : n.Block) → resolved_block b known levels
      ≡ parts_tree (out-Block b).distinct (out-Block b).items (out-Block b).entries (out-Block b).cond (out-Block b).groups (out-Block b).having
  block_tree-fields b =
      let B = out-Block b in
      subst (λ x. resolved_block x known levels ≡ parts_tree B.distinct B.items B.entries B.cond B.groups B.having) (roll-out-Block b)
      (block_tree-rolled B.distinct B.items B.entries B.cond B.groups B.having)

  -- ---- over the headings of the entries, as code finds them
  module _ (b : n.Block) (H : List Heading) (heads : H ≡ from_headings b (map heading known)) where
    block_fault-parts : block_fault known levels b
        ≡ option_or (entries_fault known levels [] (out-Block b).entries) (option_or (filter_fault known levels b H) (output_fault known levels b H))
    block_fault-parts =
        block_fault-fields b
        ∙ (rw heads (ap (λ o. option_or (entries_fault known levels [] (out-Block b).entries) o) (sym (or-assoc (on_fault known levels 0 no_entry (out-Block b).entries) _ _))))

    pub cause-filter : (f : ScopeFault) → entries_fault known levels [] (out-Block b).entries ≡ None → IsCause f (filter_fault known levels b H) → IsCause f (block_fault known levels b)
    cause-filter f e h = cause-second f _ _ _ block_fault-parts e (cause-first f _ _ _ refl h)

    pub cause-output : (f : ScopeFault) → entries_fault known levels [] (out-Block b).entries ≡ None → filter_fault known levels b H ≡ None → IsCause f (output_fault known levels b H) → IsCause f (block_fault known levels b)
    cause-output f e w h = cause-second f _ _ _ block_fault-parts e (cause-second f _ _ _ refl w h)

    pub fine-block : entries_fault known levels [] (out-Block b).entries ≡ None → filter_fault known levels b H ≡ None → output_fault known levels b H ≡ None → block_fault known levels b ≡ None
    fine-block e w o = no-fault-both _ _ _ block_fault-parts e (no-fault-both _ _ _ refl w o)

    pub tree-block : resolved_block b known levels ≡ roll-RBlock (record {
      distinct = (out-Block b).distinct;
      entries = entries_listed known levels (out-Block b).entries;
      conds = filter_listed known levels b H;
      grouping = grouping_over b H;
      having = output_having known levels b H;
      items = output_items known levels b H;
    })
    tree-block = rw heads (block_tree-fields b)

  pub cause-entries : (b : n.Block) (f : ScopeFault) → IsCause f (entries_fault known levels [] (out-Block b).entries) → IsCause f (block_fault known levels b)
  cause-entries b f h = cause-first f _ _ _ (block_fault-fields b) h

  -- ---- the conditions of a block
  module _ (b : n.Block) (H : List Heading) where
    pub cause-on : (f : ScopeFault) → IsCause f (on_fault known levels 0 no_entry (out-Block b).entries) → IsCause f (filter_fault known levels b H)
    cause-on f h = cause-first f _ _ _ refl h

    pub cause-where : (f : ScopeFault) → on_fault known levels 0 no_entry (out-Block b).entries ≡ None → IsCause f (written_fault known (rows_level H ∷ levels) (out-Block b).cond) → IsCause f (filter_fault known levels b H)
    cause-where f o h = cause-second f _ _ _ refl o h

    pub fine-filter : on_fault known levels 0 no_entry (out-Block b).entries ≡ None → written_fault known (rows_level H ∷ levels) (out-Block b).cond ≡ None → filter_fault known levels b H ≡ None
    fine-filter o w = no-fault-both _ _ _ refl o w

  -- ---- what a block puts out, where its items and HAVING see this group
  module _ (b : n.Block) (H : List Heading) (one : Bool) (G : Grouping) (S : Sight) (ones : one ≡ (is_some (out-Block b).having || items_have_aggregate_listed (out-Block b).items))
      (groups : G ≡ grouping_listed (out-Block b).groups one H) (sight : S ≡ output_sight G) where
    abbrev seen : Levels
    seen = record { first = 0; headings = H; sight = S } ∷ levels

    over : G ≡ grouping_over b H
    over = groups ∙ ap (λ x. grouping_listed (out-Block b).groups x H) ones

    output_fault-seen : output_fault known levels b H
        ≡ option_or (group_by_fault (rows_level H ∷ levels) (out-Block b).groups) (option_or (items_fault known seen 0 (out-Block b).items) (written_fault known seen (out-Block b).having))
    output_fault-seen = rw (sight, over) refl

    pub cause-items : (f : ScopeFault) → group_by_fault (rows_level H ∷ levels) (out-Block b).groups ≡ None → IsCause f (items_fault known seen 0 (out-Block b).items) → IsCause f (output_fault known levels b H)
    cause-items f g h = cause-second f _ _ _ output_fault-seen g (cause-first f _ _ _ refl h)

    pub cause-having : (f : ScopeFault) → group_by_fault (rows_level H ∷ levels) (out-Block b).groups ≡ None → items_fault known seen 0 (out-Block b).items ≡ None → IsCause f (written_fault known seen (out-Block b).having) → IsCause f (output_fault known levels b H)
    cause-having f g i h = cause-second f _ _ _ output_fault-seen g (cause-second f _ _ _ refl i h)

    pub fine-output : group_by_fault (rows_level H ∷ levels) (out-Block b).groups ≡ None → items_fault known seen 0 (out-Block b).items ≡ None → written_fault known seen (out-Block b).having ≡ None → output_fault known levels b H ≡ None
    fine-output g i h = no-fault-both _ _ _ output_fault-seen g (no-fault-both _ _ _ refl i h)

    pub grouping-output : G ≡ grouping_over b H
    grouping-output = over

    pub items-output : items_listed known seen (out-Block b).items ≡ output_items known levels b H
    items-output = rw (sight, over) refl

    pub having-output : having_listed known seen (out-Block b).having ≡ output_having known levels b H
    having-output = rw (sight, over) refl

  pub cause-groups : (b : n.Block) (H : List Heading) (f : ScopeFault) → IsCause f (group_by_fault (rows_level H ∷ levels) (out-Block b).groups) → IsCause f (output_fault known levels b H)
  cause-groups b H f h = cause-first f _ _ _ refl h

pub ruleset tree = (tree-block)

pub ruleset filter = (causes, cause-on, cause-where, fine-filter)

pub ruleset outputs = (causes, cause-groups, cause-items, cause-having, fine-output, grouping-output, items-output, having-output)

pub ruleset laws = (causes, cause-entries, cause-filter, cause-output, fine-block)
