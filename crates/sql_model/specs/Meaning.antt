-- What expressions and queries mean (SQL, ISO/IEC 9075-2, clauses 6 to 8): the value and the truth of an expression, and the rows of a
-- query. All columns share one finite domain of values and hold no nulls: types have no effect, there is no third truth value, and NOT is
-- plain negation. Predicates such as `<`, operators such as `+` and called names are known by their numbers alone: what they stand for is
-- looked up in the reading, and no law about them is used.
-- The definitions are total: on a tree that is not well formed they give 0, false or no rows where SQL gives nothing.
use Rattle.std.specs.Prelude.{ℕ, nat_eq, Bool, true, false, not, ◌&&◌, ◌||◌, if◌then◌else◌, List, [], ◌∷◌, ◌++◌, map, filter, Option, option_map, unwrap_or}
use Rattle.std.specs.List.{flat_map}
use Rattle.data_model.specs.Rows.{Row, is_among, product}
use Rattle.data_model.specs.Reading.{literal_value, function_value, predicate_holds}
use Rattle.sql_model.specs.Syntax.{Expr, Col, Lit, Fun, Pred, Call, Agg, Sub, Eq, And, Or, Not, Exists, In, Exprs, NoExprs, ExprThen, MaybeArgument, NoArgument, AnArgument, Item, Star, AliasStar, Value, Items, NoItems, ItemThen, Source, Named, Derived, Query, OfBlock, Set, Block, Select, Entries, NoEntries, EntryThen, MaybeCondition, NoCondition, ACondition, MaybeGroupBy, NoGroupBy, GroupBy}
use Rattle.sql_model.specs.Frames.{BoundEntry, Combination, Frame, Environment, frame_of, entries_here, members_here, outer_frames}
use Rattle.sql_model.specs.Columns.{entry_with_alias, column_value}
use Rattle.sql_model.specs.Headings.{Heading, headings, source_columns}
use Rattle.sql_model.specs.Grouping.{is_one_group, groups_by, group_frame}
use Rattle.sql_model.specs.Aggregates.{counts_rows, aggregate}
use Rattle.sql_model.specs.Answers.{distinct_if, combined, is_empty, only_value}
use Rattle.sql_model.specs.World.{World, named_rows, relation_headings}

abbrev pub row_of : Option BoundEntry → Row
row_of entry = unwrap_or (option_map (λ e. e.row) entry) []

unfoldable mutual
  -- ---- values; a condition is no value, and is 0
  pub value : Expr → World → Environment → ℕ
  value (Col qual qual_at name at) w env = column_value qual name env
  value (Lit lit at) w env = literal_value w.reading lit
  value (Fun sym s args at) w env = function_value w.reading sym (values args w env)
  value (Call sym s args at) w env = function_value w.reading sym (values args w env)
  -- The argument is evaluated in each member of the group, with the member's frame in place of the group's.
  value (Agg fun is_distinct argument at) w env =
      aggregate w.size w.reading fun is_distinct
      (map (λ member. argument_value argument (counts_rows fun is_distinct) w (frame_of member ∷ outer_frames env)) (members_here env))
  value (Sub query at) w env = only_value (rows query w env)
  value _ w env = 0

  pub values : {m : _} → Exprs m → World → Environment → List ℕ
  values NoExprs w env = []
  values (ExprThen expr rest) w env = value expr w env ∷ values rest w env

  -- The literal numbered 0 is the number 1: an aggregate that counts rows is handed it in place of its argument.
  pub argument_value : MaybeArgument → Bool → World → Environment → ℕ
  argument_value NoArgument ones w env = literal_value w.reading 0
  argument_value (AnArgument expr) ones w env = if ones then literal_value w.reading 0 else value expr w env

  -- ---- conditions (8.2 comparison, 8.4 in, 8.10 exists); a value is no condition, and is false
  pub truth : Expr → World → Environment → Bool
  truth (Pred sym s args at) w env = predicate_holds w.reading sym (values args w env)
  truth (Call sym s args at) w env = predicate_holds w.reading sym (values args w env)
  truth (Eq left right at) w env = nat_eq (value left w env) (value right w env)
  truth (And s parts at) w env = all_hold parts w env
  truth (Or s parts at) w env = some_hold parts w env
  truth (Not part at) w env = not (truth part w env)
  truth (Exists query at) w env = not (is_empty (rows query w env))
  truth (In left query at in_at) w env = is_among (value left w env ∷ []) (rows query w env)
  truth _ w env = false

  pub all_hold : {m : _} → Exprs m → World → Environment → Bool
  all_hold NoExprs w env = true
  all_hold (ExprThen expr rest) w env = truth expr w env && all_hold rest w env

  pub some_hold : {m : _} → Exprs m → World → Environment → Bool
  some_hold NoExprs w env = false
  some_hold (ExprThen expr rest) w env = truth expr w env || some_hold rest w env

  -- a condition that is not written is true
  pub holds : MaybeCondition → World → Environment → Bool
  holds NoCondition w env = true
  holds (ACondition condition) w env = truth condition w env

  -- ---- rows (7.13 query expression)
  pub rows : Query → World → Environment → List Row
  rows (OfBlock block) w env = block_rows block w env
  rows (Set op left right at) w env = combined op (rows left w env) (rows right w env)

  -- FROM gives combinations, ON and WHERE keep some, GROUP BY makes frames of them, HAVING keeps some, and the items of each are a row
  -- (7.5 from clause, 7.8 where clause, 7.9, 7.10 and 7.12).
  pub block_rows : Block → World → Environment → List Row
  block_rows (Select is_distinct s items s' from where_condition group_by having) w env =
      let kept = filter (λ c. joins_hold from c [] w env && holds where_condition w (frame_of c ∷ env)) (product (choices from w env)) in
      let all_frames = frames group_by (is_one_group items having) (headings from (relation_headings w)) kept w env in
      distinct_if is_distinct (map (λ f. output_row items w (f ∷ env)) (filter (λ f. holds having w (f ∷ env)) all_frames))

  -- the rows of each entry, beside its alias and the names of its columns
  pub choices : {m : _} → Entries m → World → Environment → List (List BoundEntry)
  choices NoEntries w env = []
  choices (EntryThen source alias at joined on rest) w env =
      map (λ r. record { alias = alias; columns = source_columns source (relation_headings w); row = r }) (source_rows source w env)
      ∷ choices rest w env

  -- A derived table sees the blocks around its block, and not the entries beside it (7.6 table reference, without LATERAL).
  pub source_rows : Source → World → Environment → List Row
  source_rows (Named name at) w env = named_rows name w
  source_rows (Derived query) w env = rows query w env

  -- Whether each ON is true of a combination (7.7 joined table). It sees its own entry and those that were joined before it, from the last
  -- comma of FROM on, which are in `before`; and then the blocks around.
  pub joins_hold : {m : _} → Entries m → Combination → Combination → World → Environment → Bool
  joins_hold NoEntries combination before w env = true
  joins_hold (EntryThen source alias at joined on rest) [] before w env = true
  joins_hold (EntryThen source alias at joined on rest) (entry ∷ others) before w env =
      let seen = (if joined then before else []) ++ entry ∷ [] in
      holds on w (frame_of seen ∷ env) && joins_hold rest others seen w env

  -- one frame for each combination, or for each group of them
  pub frames : MaybeGroupBy → Bool → List Heading → List Combination → World → Environment → List Frame
  frames NoGroupBy false from kept w env = map frame_of kept
  frames NoGroupBy true from kept w env = group_frame from kept ∷ []
  frames (GroupBy s columns) one_group from kept w env =
      map (group_frame from) (groups_by (λ c. values columns w (frame_of c ∷ env)) kept)

  pub output_row : {m : _} → Items m → World → Environment → Row
  output_row NoItems w env = []
  output_row (ItemThen item rest) w env = item_values item w env ++ output_row rest w env

  pub item_values : Item → World → Environment → Row
  item_values (Star at) w env = flat_map (λ entry. entry.row) (entries_here env)
  item_values (AliasStar alias at) w env = row_of (entry_with_alias alias (entries_here env))
  item_values (Value expr name) w env = value expr w env ∷ []
