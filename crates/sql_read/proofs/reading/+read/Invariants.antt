-- The reading functions end: the levels left fall, or with so many levels left the function does, by the order of the grammar. Loops end by the
-- room that is left; what is read behind the parts so far is what is read behind the first.
use Rattle.std.proofs.Common.{◌≡◌, ◌+◌, ◌-◌, ◌*◌, ◌≤◌, length}
use Rattle.sql_grammar.specs.QueryEntries.{most_entries}
use Rattle.sql_grammar.specs.QueryTrees as t
use Rattle.sql_model.specs.declared.tree.Expr.TheVariants as an_expr
use Rattle.sql_cursor.specs.Eating.{Extends}
use Rattle.sql_read.specs.Reading as r
use Rattle.sql_read.specs.Reading.{any_of, at, comma, one_more}
use Rattle.sql_cursor.specs.Readers.{◌>>=◌, done, repeated}
use Rattle.sql_read.proofs.reading.+read.Given as goal

abbrev pub decreases-deeper::deeper_query : goal.decreases-deeper::deeper_query
decreases-deeper::deeper_query l = 40 * l.levels

abbrev pub decreases-deeper::deeper_neg : goal.decreases-deeper::deeper_neg
decreases-deeper::deeper_neg l = 40 * l.levels

abbrev pub decreases-deeper::deeper_unary : goal.decreases-deeper::deeper_unary
decreases-deeper::deeper_unary l = 40 * l.levels

abbrev pub decreases-deeper::deeper_exprs : goal.decreases-deeper::deeper_exprs
decreases-deeper::deeper_exprs l = 40 * l.levels

abbrev pub decreases-deeper::deeper_argument : goal.decreases-deeper::deeper_argument
decreases-deeper::deeper_argument l = 40 * l.levels

abbrev pub decreases-deeper::deeper_inner : goal.decreases-deeper::deeper_inner
decreases-deeper::deeper_inner l = 40 * l.levels

abbrev pub decreases-deeper::deeper_in_inner : goal.decreases-deeper::deeper_in_inner
decreases-deeper::deeper_in_inner l = 40 * l.levels

abbrev pub decreases-entry::entry : goal.decreases-entry::entry
decreases-entry::entry l = 40 * l.levels + 1

abbrev pub decreases-expr::negative : goal.decreases-expr::negative
decreases-expr::negative l = 40 * l.levels + 1

abbrev pub decreases-inside::in_parentheses : goal.decreases-inside::in_parentheses
decreases-inside::in_parentheses l = 40 * l.levels + 1

abbrev pub decreases-primary::arguments : goal.decreases-primary::arguments
decreases-primary::arguments l = 40 * l.levels + 1

abbrev pub decreases-primary::count_arguments : goal.decreases-primary::count_arguments
decreases-primary::count_arguments l = 40 * l.levels + 1

abbrev pub decreases-primary::aggregate : goal.decreases-primary::aggregate
decreases-primary::aggregate l = 40 * l.levels + 1

abbrev pub decreases-inside::enclosed : goal.decreases-inside::enclosed
decreases-inside::enclosed l = 40 * l.levels + 2

abbrev pub decreases-primary::call_or_word : goal.decreases-primary::call_or_word
decreases-primary::call_or_word l = 40 * l.levels + 2

abbrev pub decreases-item::name_or_star : goal.decreases-item::name_or_star
decreases-item::name_or_star l = 40 * l.levels + 3

abbrev pub decreases-primary::named_first : goal.decreases-primary::named_first
decreases-primary::named_first l = 40 * l.levels + 3

abbrev pub decreases-primary::primary : goal.decreases-primary::primary
decreases-primary::primary l = 40 * l.levels + 4

abbrev pub decreases-expr::unary : goal.decreases-expr::unary
decreases-expr::unary l = 40 * l.levels + 5

abbrev pub decreases-expr::products : goal.decreases-expr::products
decreases-expr::products l = 40 * l.levels + 6

abbrev pub decreases-expr::term : goal.decreases-expr::term
decreases-expr::term l = 40 * l.levels + 7

abbrev pub decreases-expr::sums : goal.decreases-expr::sums
decreases-expr::sums l = 40 * l.levels + 8

abbrev pub decreases-expr::value : goal.decreases-expr::value
decreases-expr::value l = 40 * l.levels + 9

abbrev pub decreases-test::bounds : goal.decreases-test::bounds
decreases-test::bounds l = 40 * l.levels + 10

abbrev pub decreases-test::by_word : goal.decreases-test::by_word
decreases-test::by_word l = 40 * l.levels + 11

abbrev pub decreases-test::rest : goal.decreases-test::rest
decreases-test::rest l = 40 * l.levels + 12

abbrev pub decreases-test::tested : goal.decreases-test::tested
decreases-test::tested l = 40 * l.levels + 13

abbrev pub decreases-test::test : goal.decreases-test::test
decreases-test::test l = 40 * l.levels + 14

abbrev pub decreases-expr::neg : goal.decreases-expr::neg
decreases-expr::neg l = 40 * l.levels + 15

abbrev pub decreases-expr::ands : goal.decreases-expr::ands
decreases-expr::ands l = 40 * l.levels + 16

abbrev pub decreases-expr::conj : goal.decreases-expr::conj
decreases-expr::conj l = 40 * l.levels + 17

abbrev pub decreases-expr::ors : goal.decreases-expr::ors
decreases-expr::ors l = 40 * l.levels + 18

abbrev pub decreases-expr::expr : goal.decreases-expr::expr
decreases-expr::expr l = 40 * l.levels + 19

abbrev pub decreases-expr::expr_tail : goal.decreases-expr::expr_tail
decreases-expr::expr_tail l = 40 * l.levels + 19

abbrev pub decreases-block::condition : goal.decreases-block::condition
decreases-block::condition l = 40 * l.levels + 20

abbrev pub decreases-entry::joined_on : goal.decreases-entry::joined_on
decreases-entry::joined_on l = 40 * l.levels + 20

abbrev pub decreases-entry::joined_entry : goal.decreases-entry::joined_entry
decreases-entry::joined_entry l = 40 * l.levels + 21

abbrev pub decreases-primary::exprs : goal.decreases-primary::exprs
decreases-primary::exprs l = 40 * l.levels + 20

abbrev pub decreases-primary::argument : goal.decreases-primary::argument
decreases-primary::argument l = 40 * l.levels + 20

abbrev pub decreases-test::members : goal.decreases-test::members
decreases-test::members l = 40 * l.levels + 20

abbrev pub decreases-entry::from : goal.decreases-entry::from
decreases-entry::from l = 40 * l.levels + 22

abbrev pub decreases-entry::entries : goal.decreases-entry::entries
decreases-entry::entries l = 40 * l.levels + 23

abbrev pub decreases-item::named_item : goal.decreases-item::named_item
decreases-item::named_item l = 40 * l.levels + 21

abbrev pub decreases-item::item : goal.decreases-item::item
decreases-item::item l = 40 * l.levels + 22

abbrev pub decreases-block::items : goal.decreases-block::items
decreases-block::items l = 40 * l.levels + 23

abbrev pub decreases-block::clauses : goal.decreases-block::clauses
decreases-block::clauses l = 40 * l.levels + 21

abbrev pub decreases-block::block : goal.decreases-block::block
decreases-block::block l = 40 * l.levels + 24

abbrev pub decreases-query::operand : goal.decreases-query::operand
decreases-query::operand l = 40 * l.levels + 25

abbrev pub decreases-query::intersects : goal.decreases-query::intersects
decreases-query::intersects l = 40 * l.levels + 26

abbrev pub decreases-query::part : goal.decreases-query::part
decreases-query::part l = 40 * l.levels + 27

abbrev pub decreases-query::unions : goal.decreases-query::unions
decreases-query::unions l = 40 * l.levels + 28

abbrev pub decreases-query::query : goal.decreases-query::query
decreases-query::query l = 40 * l.levels + 29

abbrev pub decreases-query::set_tail : goal.decreases-query::set_tail
decreases-query::set_tail l = 40 * l.levels + 29

abbrev pub decreases-inside::after_query : goal.decreases-inside::after_query
decreases-inside::after_query l = 40 * l.levels + 30

abbrev pub decreases-inside::in_after_query : goal.decreases-inside::in_after_query
decreases-inside::in_after_query l = 40 * l.levels + 30

abbrev pub decreases-inside::after_group : goal.decreases-inside::after_group
decreases-inside::after_group l = 40 * l.levels + 31

abbrev pub decreases-inside::in_after_group : goal.decreases-inside::in_after_group
decreases-inside::in_after_group l = 40 * l.levels + 31

abbrev pub decreases-inside::inner : goal.decreases-inside::inner
decreases-inside::inner l = 40 * l.levels + 32

abbrev pub decreases-inside::in_inner : goal.decreases-inside::in_inner
decreases-inside::in_inner l = 40 * l.levels + 32

abbrev pub decreases-query::intersects-more : goal.decreases-query::intersects-more
decreases-query::intersects-more l = l.room

abbrev pub decreases-query::unions-more : goal.decreases-query::unions-more
decreases-query::unions-more l = l.room

abbrev pub decreases-expr::products-more : goal.decreases-expr::products-more
decreases-expr::products-more l = l.room

abbrev pub decreases-expr::sums-more : goal.decreases-expr::sums-more
decreases-expr::sums-more l = l.room

abbrev pub decreases-expr::ands-more : goal.decreases-expr::ands-more
decreases-expr::ands-more l = l.room

abbrev pub decreases-expr::ors-more : goal.decreases-expr::ors-more
decreases-expr::ors-more l = l.room

abbrev pub decreases-primary::exprs-more : goal.decreases-primary::exprs-more
decreases-primary::exprs-more l = l.room

abbrev pub decreases-test::members-more : goal.decreases-test::members-more
decreases-test::members-more l = l.room

abbrev pub decreases-block::items-more : goal.decreases-block::items-more
decreases-block::items-more l = l.room

abbrev pub decreases-entry::entries-items : goal.decreases-entry::entries-items
decreases-entry::entries-items l = l.room

abbrev pub decreases-entry::from-joins : goal.decreases-entry::from-joins
decreases-entry::from-joins l = most_entries - length l.entries

abbrev pub invariant-query::intersects-more : goal.invariant-query::intersects-more
invariant-query::intersects-more l = record {
  same : repeated r.intersect_word (r.intersected l.levels (at l.levels)) l.room l.left l.tokens ≡ r.intersects l.levels (at l.levels) l.fn.first l.fn.tokens;
  extends : Extends l.fn.tokens l.tokens;
}

abbrev pub invariant-query::unions-more : goal.invariant-query::unions-more
invariant-query::unions-more l = record {
  same : repeated r.set_word (r.united l.levels (at l.levels)) l.room l.left l.tokens ≡ r.unions l.levels (at l.levels) l.fn.first l.fn.tokens;
  extends : Extends l.fn.tokens l.tokens;
}

abbrev pub invariant-expr::products-more : goal.invariant-expr::products-more
invariant-expr::products-more l = record {
  same : repeated r.product_sign (r.operated (r.unary l.levels (at l.levels))) l.room l.left l.tokens ≡ r.products l.levels (at l.levels) l.fn.first l.fn.tokens;
  extends : Extends l.fn.tokens l.tokens;
}

abbrev pub invariant-expr::sums-more : goal.invariant-expr::sums-more
invariant-expr::sums-more l = record {
  same : repeated r.sum_sign (r.operated (r.term l.levels (at l.levels))) l.room l.left l.tokens ≡ r.sums l.levels (at l.levels) l.fn.first l.fn.tokens;
  extends : Extends l.fn.tokens l.tokens;
}

abbrev pub invariant-expr::ands-more : goal.invariant-expr::ands-more
invariant-expr::ands-more l = record {
  same : (repeated r.and_word (one_more (r.neg l.levels (at l.levels))) l.room l.parts l.tokens >>= λ parts. done (an_expr.And parts (t.place_of l.fn.first))) ≡ r.ands l.levels (at l.levels) l.fn.first l.fn.tokens;
  extends : Extends l.fn.tokens l.tokens;
}

abbrev pub invariant-expr::ors-more : goal.invariant-expr::ors-more
invariant-expr::ors-more l = record {
  same : (repeated r.or_word (one_more (r.conj l.levels (at l.levels))) l.room l.parts l.tokens >>= λ parts. done (an_expr.Or parts (t.place_of l.fn.first))) ≡ r.ors l.levels (at l.levels) l.fn.first l.fn.tokens;
  extends : Extends l.fn.tokens l.tokens;
}

abbrev pub invariant-primary::exprs-more : goal.invariant-primary::exprs-more
invariant-primary::exprs-more l = record {
  same : repeated comma (one_more (r.expr l.levels (at l.levels))) l.room l.exprs l.tokens ≡ r.listed (r.expr l.levels (at l.levels)) l.fn.tokens;
  extends : Extends l.fn.tokens l.tokens;
}

abbrev pub invariant-block::items-more : goal.invariant-block::items-more
invariant-block::items-more l = record {
  same : repeated comma (one_more (r.item l.levels (at l.levels))) l.room l.items l.tokens ≡ r.items l.levels (at l.levels) l.fn.tokens;
  extends : Extends l.fn.tokens l.tokens;
}

abbrev pub invariant-test::members-more : goal.invariant-test::members-more
invariant-test::members-more l = record {
  same : (repeated comma (r.next_member l.levels (at l.levels) l.sought) l.room (l.parts, l.last) l.tokens
      >>= λ found. done (any_of l.sought.value found.0 (an_expr.Eq l.sought.value found.1 (t.place_of l.sought.value))))
      ≡ r.members l.levels (at l.levels) l.sought l.fn.first l.fn.tokens;
  extends : Extends l.fn.tokens l.tokens;
}

abbrev pub invariant-entry::entries-items : goal.invariant-entry::entries-items
invariant-entry::entries-items l = record {
  same : repeated comma (r.next_from l.levels (at l.levels)) l.room l.entries l.tokens ≡ r.entries l.levels (at l.levels) l.fn.tokens;
  extends : Extends l.fn.tokens l.tokens;
}

abbrev pub invariant-entry::from-joins : goal.invariant-entry::from-joins
invariant-entry::from-joins l = record {
  same : r.joined l.levels (at l.levels) (most_entries - length l.entries) l.entries l.tokens ≡ r.from l.levels (at l.levels) l.fn.before l.fn.tokens;
  fits : length l.entries ≤ most_entries;
  extends : Extends l.fn.tokens l.tokens;
}
