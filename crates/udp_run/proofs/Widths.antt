-- A query within the limit on the outputs of a block has no more columns.
use Rattle.std.proofs.Common.{◌≡◌, ℕ, ◌+◌, ◌≤◌, false, List, [], ◌∷◌, ◌++◌, length, map, length-append, arith, sym, subst}
use Rattle.std.specs.Prelude.{nat_lt}
use Rattle.std.proofs.lemmas.Bool.Decides.{nat_tests}
use Rattle.data_model.specs.Lists.{Each}
use Rattle.sql_model.specs.declared.schema.Schema.{Schema}
use Rattle.sql_model.specs.Syntax as n
use Rattle.sql_model.specs.Grouping.{is_one_group}
use Rattle.sql_model.specs.Headings.{Heading, block_columns, headings, item_columns, items_columns, output_columns}
use Rattle.scope_core.specs.Faults.{is_too_wide, most_outputs}
use Rattle.scope_core.specs.Relations.{known_of}
use Rattle.scope_core.specs.Scope.{Known, Levels, grouping_of, heading, headings_here, no_entry, output_level, rows_level}
use Rattle.scope_core.specs.Sites.{Outputs, Site, TwoWidths, block_sites, entry_sites, group_by_sites, item_sites, items_sites, on_sites, sites, written_sites}
use Rattle.scope_core.proofs.basics.Each.{Each-left, Each-right}
use Rattle.scope_core.specs.WellFormed.{IsWithinWidth, WithinWidth}
use Rattle.case_core.specs.Answer.{width_of}

abbrev AreNarrow : List Site → Type 0
AreNarrow = Each (λ site. is_too_wide site ≡ false)

narrow : (count : ℕ) → nat_lt most_outputs count ≡ false → count ≤ most_outputs
narrow count e = grind (arith, nat_tests)

items-narrow : {m : _} (items : n.Items m) (count : ℕ) (known : List Known) (levels : Levels) → count ≤ most_outputs → AreNarrow (items_sites items count known levels)
    → count + length (items_columns items (headings_here levels)) ≤ most_outputs
unfolding items_sites
items-narrow n.NoItems count known levels low h = omega (arith, low)
items-narrow (n.ItemThen item rest) count known levels low h =
    let columns = item_columns item (headings_here levels) in
    let more = Each-right (λ site. is_too_wide site ≡ false) (item_sites item known levels) (Outputs (count + length columns) ∷ items_sites rest (count + length columns) known levels) h in
    let all = items-narrow rest (count + length columns) known levels (narrow (count + length columns) more.0) more.1 in
    omega (arith, all, length-append columns (items_columns rest (headings_here levels)))

-- the fifth part of six
fifth : (a b c d e f : List Site) → AreNarrow (a ++ b ++ c ++ d ++ e ++ f) → AreNarrow e
fifth a b c d e f h =
    let P : Site → Type 0 = λ site. is_too_wide site ≡ false in
    Each-right P (a ++ b ++ c ++ d) e (Each-left P (a ++ b ++ c ++ d ++ e) f h)

block-narrow : (block : n.Block) (known : List Known) (levels : Levels) → AreNarrow (block_sites block known levels) → length (block_columns block (map heading known)) ≤ most_outputs
unfolding block_sites output_columns
block-narrow (n.Select is_distinct s items s' from where_condition group_by having) known levels h =
    let from_headings = headings from (map heading known) in
    let grouping = grouping_of group_by (is_one_group items having) from_headings in
    let row_levels = rows_level from_headings ∷ levels in
    let output_levels = output_level from_headings grouping ∷ levels in
    let all = items-narrow items 0 known output_levels (omega arith)
    (fifth (entry_sites from [] known levels) (on_sites from 0 no_entry known levels) (written_sites where_condition known row_levels) (group_by_sites group_by row_levels)
    (items_sites items 0 known output_levels) (written_sites having known output_levels) h) in
    omega (arith, all)

query-narrow : (query : n.Query) (known : List Known) (levels : Levels) → IsWithinWidth query known levels → length (output_columns query (map heading known)) ≤ most_outputs
unfolding sites output_columns
query-narrow (n.OfBlock block) known levels h = block-narrow block known levels h
query-narrow (n.Set op left right at) known levels h =
    let P : Site → Type 0 = λ site. is_too_wide site ≡ false in
    query-narrow left known levels (Each-left P (sites left known levels) (sites right known levels)
    (Each-left P (sites left known levels ++ sites right known levels)
    (TwoWidths (length (output_columns left (map heading known))) (length (output_columns right (map heading known))) at ∷ []) h))

pub width_within : (schema : Schema) (query : n.Query) → WithinWidth schema query → width_of schema query ≤ 2048
width_within schema query h = query-narrow query (known_of schema) [] h
