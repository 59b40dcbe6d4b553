-- Trees that are written out, with their shapes. r(a, b) is base table 0 and s(a) is base table 1.
use Rattle.std.specs.Prelude.{◌≡◌, ℕ, zero, suc, ◌≤◌, true, false, List, [], ◌∷◌, length, Some, None, refl}
use Rattle.std.proofs.Common.{arith}
use Rattle.sql_model.specs.Syntax.{UnionAll, Union}
use Rattle.scope_core.specs.declared.tree.RVal.TheVariants as rv
use Rattle.scope_core.specs.declared.tree.RCond.TheVariants as rc
use Rattle.scope_core.specs.declared.tree.RSource.TheVariants as source
use Rattle.scope_core.specs.declared.tree.RQuery.TheVariants as query
use Rattle.scope_core.specs.declared.tree.Grouping.TheVariants as grouping
use Rattle.scope_core.specs.declared.tree.RBlock.{roll-RBlock}
use Rattle.scope_core.specs.Syntax.{RQuery}
use Rattle.scope_core.specs.Compute.{everything}
use Rattle.scope_core.specs.Resolving.{entry_of}
use Rattle.scope_core.specs.samples.Trees.{entry, plain}
use Rattle.shapes.specs.Shapes.{column, literal, holds, fails, differ, here, there, Entry, Mark, MarkIn, Point, Shape}
use Rattle.shapes.specs.Small.{AllSmall, SmallBlock, SmallQuery, most_entries}
use Rattle.block_shapes.specs.Blocks.{query_shape, union_shapes}

abbrev of : ℕ → ℕ → Entry
of table columns = record { table = table; columns = columns }

-- ---- SELECT x.a FROM r x, s y WHERE x.b = y.a AND x.a < 5 AND NOT x.a = x.b AND NOT y.a < 5; `<` is predicate 1, and 5 literal 2
abbrev joined : RQuery
joined = plain (entry 0 2 ∷ entry 1 1 ∷ [])
    (rc.Eq (rv.Col 0 0 1) (rv.Col 0 1 0) ∷ rc.Pred 1 (rv.Col 0 0 0 ∷ rv.Lit 2 ∷ []) ∷ rc.Not (rc.Eq (rv.Col 0 0 0) (rv.Col 0 0 1))
    ∷ rc.Not (rc.Pred 1 (rv.Col 0 1 0 ∷ rv.Lit 2 ∷ [])) ∷ []) (rv.Col 0 0 0 ∷ [])

abbrev of_joined : Shape
of_joined = record {
  entries = of 0 2 ∷ of 1 1 ∷ [];
  equalities = (column 0 1, column 1 0) ∷ [];
  marks = record { kind = holds 1; points = column 0 0 ∷ literal 2 ∷ [] } ∷ record { kind = differ; points = column 0 0 ∷ column 0 1 ∷ [] }
      ∷ record { kind = fails 1; points = column 1 0 ∷ literal 2 ∷ [] } ∷ [];
  outputs = column 0 0 ∷ [];
}

a_filtered_block_has_a_shape : query_shape false joined ≡ Some of_joined
unfolding query_shape everything
a_filtered_block_has_a_shape = refl

it_has_none_under_distinct : query_shape true joined ≡ None
unfolding query_shape everything
it_has_none_under_distinct = refl

-- SELECT a FROM s UNION ALL SELECT 3 FROM s, and the same by UNION
abbrev of_s : RQuery
of_s = plain (entry 1 1 ∷ []) [] (rv.Col 0 0 0 ∷ [])

abbrev of_three : RQuery
of_three = plain (entry 1 1 ∷ []) [] (rv.Lit 3 ∷ [])

blocks_of_a_union_stand_in_order : union_shapes (query.Set UnionAll of_s of_three)
    ≡ Some (
    record { entries = of 1 1 ∷ []; equalities = []; marks = []; outputs = column 0 0 ∷ [] }
    ∷ record { entries = of 1 1 ∷ []; equalities = []; marks = []; outputs = literal 3 ∷ [] } ∷ [])
unfolding union_shapes everything
blocks_of_a_union_stand_in_order = refl

a_union_that_drops_repeats_has_no_shapes : union_shapes (query.Set Union of_s of_three) ≡ None
unfolding union_shapes everything
a_union_that_drops_repeats_has_no_shapes = refl

-- ---- blocks without a shape
-- SELECT a FROM s WHERE a = 1 OR a = 2
a_disjunction_is_no_mark : query_shape false (plain (entry 1 1 ∷ []) (rc.Or (rc.Eq (rv.Col 0 0 0) (rv.Lit 1) ∷ rc.Eq (rv.Col 0 0 0) (rv.Lit 2) ∷ []) ∷ []) (rv.Col 0 0 0 ∷ [])) ≡ None
unfolding query_shape everything
a_disjunction_is_no_mark = refl

-- SELECT a + 1 FROM s
an_item_is_a_point : query_shape false (plain (entry 1 1 ∷ []) [] (rv.Fun 0 (rv.Col 0 0 0 ∷ rv.Lit 1 ∷ []) ∷ [])) ≡ None
unfolding query_shape everything
an_item_is_a_point = refl

-- SELECT t.a FROM (SELECT a FROM s) t
a_derived_table_is_no_entry : query_shape false (plain (entry_of (source.Query of_s, 1) ∷ []) [] (rv.Col 0 0 0 ∷ [])) ≡ None
unfolding query_shape everything
a_derived_table_is_no_entry = refl

-- SELECT COUNT(*) FROM s, but for its item
a_grouped_block_has_no_shape : query_shape false (query.Block (roll-RBlock (record {
  distinct = false;
  entries = entry 1 1 ∷ [];
  conds = [];
  grouping = grouping.One;
  having = None;
  items = rv.Lit 0 ∷ [];
}))) ≡ None
unfolding query_shape everything
a_grouped_block_has_no_shape = refl

-- ---- the bounds of what is small
-- the same so many times
abbrev times : {X : Type 0} → ℕ → X → List X
times zero x = []
times (suc n) x = x ∷ times n x

abbrev of_points : ℕ → Mark
of_points n = record { kind = holds 1; points = times n (column 0 0) }

-- 9 entries with 48 columns together, 16 equalities and marks, 4 points in each mark, 16 outputs
abbrev largest : Shape
largest = record {
  entries = of 0 8 ∷ times 8 (of 1 5);
  equalities = times 8 (column 0 0, column 1 0);
  marks = times 8 (of_points 4);
  outputs = times 16 (column 0 0);
}

of_four : (m : Mark) (n : ℕ) → MarkIn m (times n (of_points 4)) → length m.points ≤ 4
of_four m zero i = elim i [ ]
of_four m (suc n) here = omega arith
of_four m (suc n) (there i) = of_four m n i

the_largest_block_is_small : SmallBlock most_entries largest
the_largest_block_is_small = record { few_entries = omega arith; few_columns = omega arith; few_facts = omega arith; few_points = λ m i. of_four m 8 i; few_outputs = omega arith }

-- one more of each is not
ten_entries_are_not : SmallBlock most_entries (record { entries = times 10 (of 1 1); equalities = []; marks = []; outputs = [] }) → ⊥
ten_entries_are_not h = absurd (omega (arith, h.few_entries))

nor_49_columns : SmallBlock most_entries (record { entries = of 0 9 ∷ times 8 (of 1 5); equalities = []; marks = []; outputs = [] }) → ⊥
nor_49_columns h = absurd (omega (arith, h.few_columns))

nor_17_facts : SmallBlock most_entries (record { entries = of 1 1 ∷ []; equalities = times 9 (column 0 0, column 0 0); marks = times 8 (of_points 1); outputs = [] }) → ⊥
nor_17_facts h = absurd (omega (arith, h.few_facts))

nor_five_points_in_a_mark : SmallBlock most_entries (record { entries = of 1 1 ∷ []; equalities = []; marks = of_points 5 ∷ []; outputs = [] }) → ⊥
nor_five_points_in_a_mark h = absurd (omega (arith, h.few_points (of_points 5) here))

nor_17_outputs : SmallBlock most_entries (record { entries = of 1 1 ∷ []; equalities = []; marks = []; outputs = times 17 (column 0 0) }) → ⊥
nor_17_outputs h = absurd (omega (arith, h.few_outputs))

-- 64 blocks with 768 columns and 192 equalities together
abbrev one_of_many : Shape
one_of_many = record { entries = of 0 12 ∷ []; equalities = times 3 (column 0 0, column 0 1); marks = []; outputs = column 0 0 ∷ [] }

no_mark : (m : Mark) → MarkIn m [] → length m.points ≤ 4
no_mark m i = elim i [ ]

all_of_many : (n : ℕ) → AllSmall most_entries (times n one_of_many)
all_of_many zero = tt
all_of_many (suc n) = (
  record { few_entries = omega arith; few_columns = omega arith; few_facts = omega arith; few_points = no_mark; few_outputs = omega arith },
  all_of_many n,
)

the_largest_union_is_small : SmallQuery most_entries (times 64 one_of_many)
the_largest_union_is_small = record { few_blocks = omega arith; each = all_of_many 64; columns = omega arith; facts = omega arith }

one_block_more_is_not : SmallQuery most_entries (times 65 (record { entries = []; equalities = []; marks = []; outputs = [] })) → ⊥
one_block_more_is_not h = absurd (omega (arith, h.few_blocks))

nor_769_columns : SmallQuery most_entries (record { entries = of 1 1 ∷ []; equalities = []; marks = []; outputs = [] } ∷ times 16 largest) → ⊥
nor_769_columns h = absurd (omega (arith, h.columns))

nor_193_facts : SmallQuery most_entries (record { entries = of 1 1 ∷ []; equalities = (column 0 0, column 0 0) ∷ []; marks = []; outputs = [] } ∷ times 12 largest) → ⊥
nor_193_facts h = absurd (omega (arith, h.facts))
