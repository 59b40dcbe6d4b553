use Rattle.std.proofs.Common.{rules, ◌≡◌, ◌<◌, ◌∙◌, [], ◌∷◌, true, false, length, length-append, refl, subst, sym, arith}
use Rattle.sql_lex.specs.Lexemes.{lexeme_of}
use Rattle.sql_grammar.specs.QueryEntries.{most_entries}
use Rattle.sql_grammar.specs.QueryTrees.{place_of}
use Rattle.sql_grammar.specs.declared.kinds.Kind.TheVariants as k
use Rattle.sql_model.specs.declared.tree.Expr.TheVariants as an_expr
use Rattle.sql_read.specs.Reading as reading
use Rattle.sql_read.specs.Reading.{Deeper}
use Rattle.sql_cursor.specs.Readers.{Gives}
use Rattle.sql_cursor.proofs.code.Extending.{◌⨟◌, extends_itself, extends_passes, extends_within}
use Rattle.sql_read.proofs.steps.ReadLoops.{extends_unopened}
use Rattle.sql_read.proofs.steps.ReadPassing.{stays_alone}
use Rattle.sql_read.proofs.code.Loops.{several, stops_first, word_stops, no_word, part_stops, part_read, made_word_stops, made_no_word, made_part_stops, made_part_read, join_stops, no_join, join_read, eaten_some, one_fewer, table_fits, marked}
use Rattle.sql_read.proofs.reading.+read.Goals as goal

-- ---- levels opened

pub deeper::deeper_query-returns-clause-does : goal.deeper::deeper_query-returns-clause-does
deeper::deeper_query-returns-clause-does t c =
    subst (λ (d : Deeper). Gives c.query.result c.query.new.tokens (d.query c.args.tokens.now)) (one_fewer c.args.levels c.requires) c.query.ensures.does

pub deeper::deeper_neg-returns-clause-does : goal.deeper::deeper_neg-returns-clause-does
deeper::deeper_neg-returns-clause-does t c =
    subst (λ (d : Deeper). Gives c.neg.result c.neg.new.tokens (d.neg c.args.tokens.now)) (one_fewer c.args.levels c.requires) c.neg.ensures.does

pub deeper::deeper_unary-returns-clause-does : goal.deeper::deeper_unary-returns-clause-does
deeper::deeper_unary-returns-clause-does t c =
    subst (λ (d : Deeper). Gives c.unary.result c.unary.new.tokens (d.unary c.args.tokens.now)) (one_fewer c.args.levels c.requires) c.unary.ensures.does

pub deeper::deeper_exprs-returns-clause-does : goal.deeper::deeper_exprs-returns-clause-does
deeper::deeper_exprs-returns-clause-does t c =
    subst (λ (d : Deeper). Gives c.exprs.result c.exprs.new.tokens (d.exprs c.args.tokens.now)) (one_fewer c.args.levels c.requires) c.exprs.ensures.does

pub deeper::deeper_argument-returns-clause-does : goal.deeper::deeper_argument-returns-clause-does
deeper::deeper_argument-returns-clause-does t c =
    subst (λ (d : Deeper). Gives c.argument.result c.argument.new.tokens (d.argument (lexeme_of c.args.word.now) c.args.tokens.now)) (one_fewer c.args.levels c.requires.level) c.argument.ensures.does

pub deeper::deeper_inner-returns-clause-does : goal.deeper::deeper_inner-returns-clause-does
deeper::deeper_inner-returns-clause-does t c =
    subst (λ (d : Deeper). Gives c.inner.result c.inner.new.tokens (d.inner c.args.tokens.now)) (one_fewer c.args.levels c.requires) c.inner.ensures.does

pub deeper::deeper_in_inner-returns-clause-does : goal.deeper::deeper_in_inner-returns-clause-does
deeper::deeper_in_inner-returns-clause-does t c =
    subst (λ (d : Deeper). Gives c.in_inner.result c.in_inner.new.tokens (d.in_inner c.args.sought.now c.args.tokens.now)) (one_fewer c.args.levels c.requires) c.in_inner.ensures.does

-- ---- loops

pub query::intersects-returns-in_err-word-clause-does : goal.query::intersects-returns-in_err-word-clause-does
query::intersects-returns-in_err-word-clause-does t c =
    let e = word_stops _ _ _ _ _ _ c.more.invariant.same c.in_err-word.field-0.0 c.eat_within.new.self c.in_err-word.ensures.gives in search rules

pub query::intersects-returns-in_err-right-clause-does : goal.query::intersects-returns-in_err-right-clause-does
query::intersects-returns-in_err-right-clause-does t c =
    let q = rw c.in-Some.is at c.in_ok-word.ensures.eats in
    let s = stops_first c.in_err-right.field-0.0 c.operand.new.tokens _ _ c.in_err-right.ensures.does in
    let e = part_stops _ _ _ _ _ _ c.more.invariant.same _ _ (eaten_some q) q.room_left c.in_err-right.field-0.0 c.operand.new.tokens s in search rules

pub query::intersects-more-preserved : goal.query::intersects-more-preserved
query::intersects-more-preserved t c =
    let q = rw c.in-Some.is at c.in_ok-word.ensures.eats in
    record {
      same = rw (c.new-left-in-Some.ensures, c.in_ok-both.ensures, c.into_inner.ensures, c.place.ensures) (part_read _ _ _ _ _ _ c.more.invariant.same _ _ (eaten_some q) q.room_left _ _ (rw c.in_ok-right.ensures.does refl));
      extends = c.more.invariant.extends ⨟ extends_within q ⨟ c.in_ok-right.ensures.extends;
    }

pub query::intersects-returns-clause-does : goal.query::intersects-returns-clause-does
query::intersects-returns-clause-does t c =
    rw c.into_inner-2.ensures (no_word _ _ _ _ _ _ c.more.invariant.same _ (rw c.in_default.is at c.in_ok-word.ensures.gives))

pub query::unions-returns-in_err-op-clause-does : goal.query::unions-returns-in_err-op-clause-does
query::unions-returns-in_err-op-clause-does t c =
    let e = word_stops _ _ _ _ _ _ c.more.invariant.same c.in_err-op.field-0.0 c.union_or_except.new.tokens c.in_err-op.ensures.does in search rules

pub query::unions-returns-in_err-right-clause-does : goal.query::unions-returns-in_err-right-clause-does
query::unions-returns-in_err-right-clause-does t c =
    let w = rw c.in-Some.is at c.in_ok-op.ensures.does in
    let q = rw c.in-Some.is at c.in_ok-op.ensures.room in
    let s = stops_first c.in_err-right.field-0.0 c.part.new.tokens _ _ c.in_err-right.ensures.does in
    let e = part_stops _ _ _ _ _ _ c.more.invariant.same _ _ w q c.in_err-right.field-0.0 c.part.new.tokens s in search rules

pub query::unions-more-preserved : goal.query::unions-more-preserved
query::unions-more-preserved t c =
    let w = rw c.in-Some.is at c.in_ok-op.ensures.does in
    let q = rw c.in-Some.is at c.in_ok-op.ensures.room in
    record {
      same = rw (c.new-left-in-Some.ensures, c.in_ok-set_query.ensures, c.into_inner.ensures) (part_read _ _ _ _ _ _ c.more.invariant.same _ _ w q _ _ (rw c.in_ok-right.ensures.does refl));
      extends = c.more.invariant.extends ⨟ c.in_ok-op.ensures.extends ⨟ c.in_ok-right.ensures.extends;
    }

pub query::unions-returns-clause-does : goal.query::unions-returns-clause-does
query::unions-returns-clause-does t c =
    rw c.into_inner-2.ensures (no_word _ _ _ _ _ _ c.more.invariant.same _ (rw c.in_default.is at c.in_ok-op.ensures.does))

pub block::items-returns-in_err-eat_within-clause-does : goal.block::items-returns-in_err-eat_within-clause-does
block::items-returns-in_err-eat_within-clause-does t c =
    let e = word_stops _ _ _ _ _ _ c.more.invariant.same c.in_err-eat_within.field-0.0 c.eat_within.new.self c.in_err-eat_within.ensures.gives in search rules

pub block::items-returns-in_err-next-clause-does : goal.block::items-returns-in_err-next-clause-does
block::items-returns-in_err-next-clause-does t c =
    let q = rw c.in-Some.is at c.in_ok-eat_within.ensures.eats in
    let s = stops_first c.in_err-next.field-0.0 c.item-in-Some.new.tokens _ _ c.in_err-next.ensures.does in
    let e = part_stops _ _ _ _ _ _ c.more.invariant.same _ _ (eaten_some q) q.room_left c.in_err-next.field-0.0 c.item-in-Some.new.tokens s in search rules

pub block::items-more-preserved : goal.block::items-more-preserved
block::items-more-preserved t c =
    let q = rw c.in-Some.is at c.in_ok-eat_within.ensures.eats in
    record {
      same = rw c.in_ok-push-2.ensures.ok (part_read _ _ _ _ _ _ c.more.invariant.same _ _ (eaten_some q) q.room_left _ _ (rw c.in_ok-next.ensures.does refl));
      extends = c.more.invariant.extends ⨟ extends_within q ⨟ c.in_ok-next.ensures.extends;
    }

pub block::items-returns-clause-does : goal.block::items-returns-clause-does
block::items-returns-clause-does t c =
    rw c.fitted.ensures (no_word _ _ _ _ _ _ c.more.invariant.same _ (rw c.in_default.is at c.in_ok-eat_within.ensures.gives))

pub expr::ors-returns-in_err-eat_within-clause-does : goal.expr::ors-returns-in_err-eat_within-clause-does
expr::ors-returns-in_err-eat_within-clause-does t c =
    let e = made_word_stops _ _ _ _ _ _ _ c.more.invariant.same c.in_err-eat_within.field-0.0 c.eat_within.new.self c.in_err-eat_within.ensures.gives in search rules

pub expr::ors-returns-in_err-part-clause-does : goal.expr::ors-returns-in_err-part-clause-does
expr::ors-returns-in_err-part-clause-does t c =
    let q = rw c.in-Some.is at c.in_ok-eat_within.ensures.eats in
    let s = stops_first c.in_err-part.field-0.0 c.conj.new.tokens _ _ c.in_err-part.ensures.does in
    let e = made_part_stops _ _ _ _ _ _ _ c.more.invariant.same _ _ (eaten_some q) q.room_left c.in_err-part.field-0.0 c.conj.new.tokens s in search rules

pub expr::ors-more-preserved : goal.expr::ors-more-preserved
expr::ors-more-preserved t c =
    let q = rw c.in-Some.is at c.in_ok-eat_within.ensures.eats in
    record {
      same = rw c.in_ok-push-2.ensures.ok (made_part_read _ _ _ _ _ _ _ c.more.invariant.same _ _ (eaten_some q) q.room_left _ _ (rw c.in_ok-part.ensures.does refl));
      extends = c.more.invariant.extends ⨟ extends_within q ⨟ c.in_ok-part.ensures.extends;
    }

pub expr::ors-returns-clause-does : goal.expr::ors-returns-clause-does
expr::ors-returns-clause-does t c =
    rw (c.fitted.ensures, c.place_of-at.ensures) (made_no_word _ _ _ _ _ _ _ c.more.invariant.same _ (rw c.in_default.is at c.in_ok-eat_within.ensures.gives))

pub expr::ands-returns-in_err-eat_within-clause-does : goal.expr::ands-returns-in_err-eat_within-clause-does
expr::ands-returns-in_err-eat_within-clause-does t c =
    let e = made_word_stops _ _ _ _ _ _ _ c.more.invariant.same c.in_err-eat_within.field-0.0 c.eat_within.new.self c.in_err-eat_within.ensures.gives in search rules

pub expr::ands-returns-in_err-part-clause-does : goal.expr::ands-returns-in_err-part-clause-does
expr::ands-returns-in_err-part-clause-does t c =
    let q = rw c.in-Some.is at c.in_ok-eat_within.ensures.eats in
    let s = stops_first c.in_err-part.field-0.0 c.neg.new.tokens _ _ c.in_err-part.ensures.does in
    let e = made_part_stops _ _ _ _ _ _ _ c.more.invariant.same _ _ (eaten_some q) q.room_left c.in_err-part.field-0.0 c.neg.new.tokens s in search rules

pub expr::ands-more-preserved : goal.expr::ands-more-preserved
expr::ands-more-preserved t c =
    let q = rw c.in-Some.is at c.in_ok-eat_within.ensures.eats in
    record {
      same = rw c.in_ok-push-2.ensures.ok (made_part_read _ _ _ _ _ _ _ c.more.invariant.same _ _ (eaten_some q) q.room_left _ _ (rw c.in_ok-part.ensures.does refl));
      extends = c.more.invariant.extends ⨟ extends_within q ⨟ c.in_ok-part.ensures.extends;
    }

pub expr::ands-returns-clause-does : goal.expr::ands-returns-clause-does
expr::ands-returns-clause-does t c =
    rw (c.in_ok-parts.ensures, c.fitted.ensures, c.place_of-at.ensures) (made_no_word _ _ _ _ _ _ _ c.more.invariant.same _ (rw c.in_default.is at c.in_ok-eat_within.ensures.gives))

pub expr::products-returns-in_err-sign-clause-does : goal.expr::products-returns-in_err-sign-clause-does
expr::products-returns-in_err-sign-clause-does t c =
    let e = word_stops _ _ _ _ _ _ c.more.invariant.same c.in_err-sign.field-0.0 c.eat_within.new.self c.in_err-sign.ensures.gives in search rules

pub expr::products-returns-in_err-right-clause-does : goal.expr::products-returns-in_err-right-clause-does
expr::products-returns-in_err-right-clause-does t c =
    let q = rw c.in-Some.is at c.in_ok-sign.ensures.eats in
    let s = stops_first c.in_err-right.field-0.0 c.unary.new.tokens _ _ c.in_err-right.ensures.does in
    let e = part_stops _ _ _ _ _ _ c.more.invariant.same _ _ (eaten_some q) q.room_left c.in_err-right.field-0.0 c.unary.new.tokens s in search rules

pub expr::products-more-preserved : goal.expr::products-more-preserved
expr::products-more-preserved t c =
    let q = rw c.in-Some.is at c.in_ok-sign.ensures.eats in
    record {
      same = rw (c.new-left-in-Some.ensures, c.in_ok-operated.ensures, c.into_inner.ensures, c.kind_of.ensures) (part_read _ _ _ _ _ _ c.more.invariant.same _ _ (eaten_some q) q.room_left _ _ (rw c.in_ok-right.ensures.does refl));
      extends = c.more.invariant.extends ⨟ extends_within q ⨟ c.in_ok-right.ensures.extends;
    }

pub expr::products-returns-clause-does : goal.expr::products-returns-clause-does
expr::products-returns-clause-does t c =
    rw c.into_inner-2.ensures (no_word _ _ _ _ _ _ c.more.invariant.same _ (rw c.in_default.is at c.in_ok-sign.ensures.gives))

pub expr::sums-returns-in_err-sign-clause-does : goal.expr::sums-returns-in_err-sign-clause-does
expr::sums-returns-in_err-sign-clause-does t c =
    let e = word_stops _ _ _ _ _ _ c.more.invariant.same c.in_err-sign.field-0.0 c.eat_within.new.self c.in_err-sign.ensures.gives in search rules

pub expr::sums-returns-in_err-right-clause-does : goal.expr::sums-returns-in_err-right-clause-does
expr::sums-returns-in_err-right-clause-does t c =
    let q = rw c.in-Some.is at c.in_ok-sign.ensures.eats in
    let s = stops_first c.in_err-right.field-0.0 c.term.new.tokens _ _ c.in_err-right.ensures.does in
    let e = part_stops _ _ _ _ _ _ c.more.invariant.same _ _ (eaten_some q) q.room_left c.in_err-right.field-0.0 c.term.new.tokens s in search rules

pub expr::sums-more-preserved : goal.expr::sums-more-preserved
expr::sums-more-preserved t c =
    let q = rw c.in-Some.is at c.in_ok-sign.ensures.eats in
    record {
      same = rw (c.new-left-in-Some.ensures, c.in_ok-operated.ensures, c.into_inner.ensures, c.kind_of.ensures) (part_read _ _ _ _ _ _ c.more.invariant.same _ _ (eaten_some q) q.room_left _ _ (rw c.in_ok-right.ensures.does refl));
      extends = c.more.invariant.extends ⨟ extends_within q ⨟ c.in_ok-right.ensures.extends;
    }

pub expr::sums-returns-clause-does : goal.expr::sums-returns-clause-does
expr::sums-returns-clause-does t c =
    rw c.into_inner-2.ensures (no_word _ _ _ _ _ _ c.more.invariant.same _ (rw c.in_default.is at c.in_ok-sign.ensures.gives))

pub primary::exprs-returns-in_err-eat_within-clause-does : goal.primary::exprs-returns-in_err-eat_within-clause-does
unfolding reading.exprs
primary::exprs-returns-in_err-eat_within-clause-does t c =
    let e = word_stops _ _ _ _ _ _ c.more.invariant.same c.in_err-eat_within.field-0.0 c.eat_within.new.self c.in_err-eat_within.ensures.gives in search rules

pub primary::exprs-returns-in_err-next-clause-does : goal.primary::exprs-returns-in_err-next-clause-does
unfolding reading.exprs
primary::exprs-returns-in_err-next-clause-does t c =
    let q = rw c.in-Some.is at c.in_ok-eat_within.ensures.eats in
    let s = stops_first c.in_err-next.field-0.0 c.expr-in-Some.new.tokens _ _ c.in_err-next.ensures.does in
    let e = part_stops _ _ _ _ _ _ c.more.invariant.same _ _ (eaten_some q) q.room_left c.in_err-next.field-0.0 c.expr-in-Some.new.tokens s in search rules

pub primary::exprs-more-preserved : goal.primary::exprs-more-preserved
unfolding reading.exprs
primary::exprs-more-preserved t c =
    let q = rw c.in-Some.is at c.in_ok-eat_within.ensures.eats in
    record {
      same = rw c.in_ok-push-2.ensures.ok (part_read _ _ _ _ _ _ c.more.invariant.same _ _ (eaten_some q) q.room_left _ _ (rw c.in_ok-next.ensures.does refl));
      extends = c.more.invariant.extends ⨟ extends_within q ⨟ c.in_ok-next.ensures.extends;
    }

pub primary::exprs-returns-clause-does : goal.primary::exprs-returns-clause-does
unfolding reading.exprs
primary::exprs-returns-clause-does t c =
    rw (c.fitted.ensures, sym c.if-not-sees_any.ensures) (no_word _ _ _ _ _ _ c.more.invariant.same _ (rw c.in_default.is at c.in_ok-eat_within.ensures.gives))

pub test::members-returns-in_err-eat_within-clause-does : goal.test::members-returns-in_err-eat_within-clause-does
test::members-returns-in_err-eat_within-clause-does t c =
    let e = made_word_stops _ _ _ _ _ _ _ c.more.invariant.same c.in_err-eat_within.field-0.0 c.eat_within.new.self c.in_err-eat_within.ensures.gives in search rules

pub test::members-returns-in_err-compared_copy-clause-does : goal.test::members-returns-in_err-compared_copy-clause-does
test::members-returns-in_err-compared_copy-clause-does t c =
    let q = rw c.in-Some.is at c.in_ok-eat_within.ensures.eats in
    let s = stops_first c.in_err-compared_copy.field-0.0 c.compared_copy.new.tokens _ _ c.in_err-compared_copy.ensures.does in
    let e = made_part_stops _ _ _ _ _ _ _ c.more.invariant.same _ _ (eaten_some q) q.room_left c.in_err-compared_copy.field-0.0 c.compared_copy.new.tokens s in search rules

pub test::members-returns-in_err-expr-clause-does : goal.test::members-returns-in_err-expr-clause-does
test::members-returns-in_err-expr-clause-does t c =
    let q = rw c.in-Some.is at c.in_ok-eat_within.ensures.eats in
    let s = stops_first c.in_err-expr.field-0.0 c.expr.new.tokens _ _ c.in_err-expr.ensures.does in
    let e = made_part_stops _ _ _ _ _ _ _ c.more.invariant.same _ _ (eaten_some q) q.room_left c.in_err-expr.field-0.0 c.expr.new.tokens (rw c.in_ok-compared_copy.ensures.does s) in search rules

pub test::members-more-preserved : goal.test::members-more-preserved
test::members-more-preserved t c =
    let q = rw c.in-Some.is at c.in_ok-eat_within.ensures.eats in
    record {
      same = rw (c.new-last-in-Some.ensures, c.in_ok-push.ensures.ok) (made_part_read _ _ _ _ _ _ _ c.more.invariant.same _ _ (eaten_some q) q.room_left _ _ (rw c.in_ok-compared_copy.ensures.does (rw c.in_ok-expr.ensures.does refl)));
      extends = c.more.invariant.extends ⨟ extends_within q ⨟ c.in_ok-compared_copy.ensures.extends ⨟ c.in_ok-expr.ensures.extends;
    }

pub test::members-returns-then-is_empty-clause-does : goal.test::members-returns-then-is_empty-clause-does
test::members-returns-then-is_empty-clause-does t c =
    let e = made_no_word _ _ _ _ _ _ _ c.more.invariant.same _ (rw c.in_default.is at c.in_ok-eat_within.ensures.gives) in
    e ∙ rw (c.is_empty.ensures.0 c.if-is_empty.true, c.in_ok-last.ensures, c.into_inner.ensures) refl

pub test::members-returns-clause-does : goal.test::members-returns-clause-does
test::members-returns-clause-does t c =
    let e = made_no_word _ _ _ _ _ _ _ c.more.invariant.same _ (rw c.in_default.is at c.in_ok-eat_within.ensures.gives) in
    let s = several c.args.sought.now.value c.more.parts (an_expr.Eq c.args.sought.now.value c.more.last (place_of c.args.sought.now.value)) (λ none. let no : true ≡ false = sym (c.is_empty.ensures.1 none) ∙ c.if-is_empty.false in cc) in
    rw (c.fitted.ensures, c.in_ok-push-2.ensures.ok, c.in_ok-last.ensures, c.into_inner.ensures, c.place_of-at.ensures, c.get.ensures, ← s) e

pub entry::entries-returns-in_err-eat_within-clause-does : goal.entry::entries-returns-in_err-eat_within-clause-does
entry::entries-returns-in_err-eat_within-clause-does t c =
    let e = word_stops _ _ _ _ _ _ c.items.invariant.same c.in_err-eat_within.field-0.0 c.eat_within.new.self c.in_err-eat_within.ensures.gives in search rules

pub entry::entries-returns-in_err-more-clause-does : goal.entry::entries-returns-in_err-more-clause-does
entry::entries-returns-in_err-more-clause-does t c =
    let q = rw c.in-Some.is at c.in_ok-eat_within.ensures.eats in
    let e = part_stops _ _ _ _ _ _ c.items.invariant.same _ _ (eaten_some q) q.room_left c.in_err-more.field-0.0 c.from-in-Some.new.tokens c.in_err-more.ensures.does in search rules

pub entry::entries-items-preserved : goal.entry::entries-items-preserved
entry::entries-items-preserved t c =
    let q = rw c.in-Some.is at c.in_ok-eat_within.ensures.eats in
    record {
      same = part_read _ _ _ _ _ _ c.items.invariant.same _ _ (eaten_some q) q.room_left _ _ c.in_ok-more.ensures.does;
      extends = c.items.invariant.extends ⨟ extends_within q ⨟ c.in_ok-more.ensures.extends;
    }

pub entry::entries-returns-clause-does : goal.entry::entries-returns-clause-does
entry::entries-returns-clause-does t c =
    rw c.fitted.ensures (no_word _ _ _ _ _ _ c.items.invariant.same _ (rw c.in_default.is at c.in_ok-eat_within.ensures.gives))

pub entry::from-returns-in_err-next-clause-does : goal.entry::from-returns-in_err-next-clause-does
entry::from-returns-in_err-next-clause-does t c =
    let e = join_stops _ _ _ _ c.joins.invariant.same c.in_err-next.field-0.0 c.joined_entry.new.tokens (rw c.len-in-joins.ensures at c.in_err-next.ensures.does) in search rules

pub entry::from-joins-preserved : goal.entry::from-joins-preserved
entry::from-joins-preserved t c =
    let w = rw c.in-Some.is at c.in_ok-next.ensures.does in
    let few : length c.joins.entries < most_entries = rw (← c.len-in-joins.ensures) (rw c.in-Some.is at c.in_ok-next.ensures.fits) in
    record {
      same = rw c.in_ok-push-2.ensures.ok (join_read _ _ _ _ c.joins.invariant.same _ _ (rw c.len-in-joins.ensures at w) few);
      fits = rw c.in_ok-push-2.ensures.ok (omega (arith, few, length-append c.joins.entries (c.in-Some.next ∷ [])));
      extends = c.joins.invariant.extends ⨟ c.in_ok-next.ensures.extends;
    }

pub entry::from-returns-clause-does : goal.entry::from-returns-clause-does
entry::from-returns-clause-does t c =
    no_join _ _ _ _ c.joins.invariant.same _ (rw c.len-in-joins.ensures at (rw c.in_default.is at c.in_ok-next.ensures.does))

-- ---- chains that are too long for the search

pub entry::entry-returns-in_default-clause-fits : goal.entry::entry-returns-in_default-clause-fits
entry::entry-returns-in_default-clause-fits t c =
    table_fits c.args.levels c.args.count (stays_alone k.Open (rw c.in_default.is at c.in_ok-eat_within.ensures.eats)) c.in_ok-allow_entry.ensures c.table_entry.result c.table_entry.new.tokens c.table_entry.ensures.does

pub expr::ands-more-init : goal.expr::ands-more-init
unfolding reading.ands
expr::ands-more-init t c =
    record { same = rw (c.in_ok-push.ensures.ok, c.new-parts.ensures, (sym c.sees.ensures ∙ c.if-not-sees.false)) refl; extends = extends_itself }

pub expr::ors-more-init : goal.expr::ors-more-init
unfolding reading.ors
expr::ors-more-init t c =
    record { same = rw (c.in_ok-push.ensures.ok, c.new-parts.ensures, (sym c.sees.ensures ∙ c.if-not-sees.false)) refl; extends = extends_itself }

-- ---- parentheses that are not opened

pub expr::negative-returns-in_err-sign-clause-extends : goal.expr::negative-returns-in_err-sign-clause-extends
expr::negative-returns-in_err-sign-clause-extends t c =
    extends_unopened _ _ _ _ _ c.in_err-sign.ensures.eats

pub inside::in_parentheses-returns-in_err-open-clause-extends : goal.inside::in_parentheses-returns-in_err-open-clause-extends
inside::in_parentheses-returns-in_err-open-clause-extends t c =
    extends_unopened _ _ _ _ _ c.in_err-open.ensures.eats

pub primary::aggregate-returns-in_err-expect_within-clause-extends : goal.primary::aggregate-returns-in_err-expect_within-clause-extends
primary::aggregate-returns-in_err-expect_within-clause-extends t c =
    extends_unopened _ _ _ _ _ c.in_err-expect_within.ensures.eats

pub primary::arguments-returns-in_err-expect_within-clause-extends : goal.primary::arguments-returns-in_err-expect_within-clause-extends
primary::arguments-returns-in_err-expect_within-clause-extends t c =
    extends_unopened _ _ _ _ _ c.in_err-expect_within.ensures.eats

pub primary::count_arguments-returns-in_err-expect_within-clause-extends : goal.primary::count_arguments-returns-in_err-expect_within-clause-extends
primary::count_arguments-returns-in_err-expect_within-clause-extends t c =
    extends_unopened _ _ _ _ _ c.in_err-expect_within.ensures.eats

pub test::by_word-returns-in_err-expect_within-clause-extends : goal.test::by_word-returns-in_err-expect_within-clause-extends
test::by_word-returns-in_err-expect_within-clause-extends t c =
    extends_passes c.in-Some.ensures.eats ⨟ extends_unopened _ _ _ _ _ c.in_err-expect_within.ensures.eats

pub test::test-returns-in_err-expect_within-clause-extends : goal.test::test-returns-in_err-expect_within-clause-extends
test::test-returns-in_err-expect_within-clause-extends t c =
    extends_passes c.in-Some.ensures.eats ⨟ extends_unopened _ _ _ _ _ c.in_err-expect_within.ensures.eats

pub primary::arguments-returns-clause-extends : goal.primary::arguments-returns-clause-extends
primary::arguments-returns-clause-extends t c =
    extends_within c.in_ok-expect_within.ensures.eats ⨟ c.symbol_number.ensures.extends ⨟ c.in_ok-args.ensures.extends ⨟ extends_passes c.in_ok-expect.ensures.eats

-- ---- what stands in parentheses

pub inside::inner-returns-clause-does : goal.inside::inner-returns-clause-does
unfolding reading.inner
inside::inner-returns-clause-does t c =
    let m = marked c.mark-start.result c.args.tokens.now c.mark-start.ensures.passed c.mark-start.ensures.copies in
    rw ((sym c.sees.ensures ∙ c.if-sees.false), sym c.if-not-sees.ensures, c.in_ok-group.ensures.does) (rw m at c.after_group.ensures.does)

pub inside::in_inner-returns-clause-does : goal.inside::in_inner-returns-clause-does
unfolding reading.in_inner
inside::in_inner-returns-clause-does t c =
    let m = marked c.mark-start.result c.args.tokens.now c.mark-start.ensures.passed c.mark-start.ensures.copies in
    rw ((sym c.sees.ensures ∙ c.if-sees.false), sym c.if-not-sees.ensures, c.in_ok-group.ensures.does) (rw m at c.in_after_group.ensures.does)
