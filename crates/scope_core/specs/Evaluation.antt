-- What resolved trees mean: as the queries that they were made of, with places for names.
use Rattle.std.specs.Prelude.{ℕ, nat_eq, Bool, true, false, not, ◌&&◌, ◌||◌, if◌then◌else◌, List, [], ◌∷◌, ◌++◌, map, filter, get_or}
use Rattle.data_model.specs.Rows.{Row, same_row, is_among, distinct, product}
use Rattle.data_model.specs.Reading.{Reading, literal_value, function_value, predicate_holds}
use Rattle.data_model.specs.Database.{Database, table_rows}
use Rattle.sql_model.specs.Aggregates.{counts_rows, aggregate}
use Rattle.sql_model.specs.Answers.{distinct_if, combined, is_empty, only_value}
use Rattle.scope_core.specs.Syntax.{RVal, Col, Key, Lit, Fun, Agg, Sub, Values, NoValues, ValueThen, MaybeArgument, NoArgument, AnArgument, RCond, Eq, Pred, And, Or, Not, Exists, In, Conditions, NoConditions, ConditionThen, MaybeCondition, NoCondition, ACondition, RSource, Table, View, Derived, Entries, NoEntries, EntryThen, RBlock, Select, RQuery, OfBlock, Set, Grouping, Plain, One, Keys}
use Rattle.scope_core.specs.Scope.{Place}
use Rattle.scope_core.specs.Environments.{Combination, Frame, Environment, World, frame_of, row_of, column_value, key_here, members_here, outer_frames}

-- ---- groups
abbrev pub values_at : List Place → Combination → Row
values_at columns combination = map (λ p. get_or (row_of combination p.0) p.1 0) columns

-- A group is read by its key and its members alone, so it shows no rows.
abbrev pub group_frame : Row → List Combination → Frame
group_frame key members = record { rows = []; key = key; members = members }

abbrev pub group_of : List Place → List Combination → Row → Frame
group_of columns kept key = group_frame key (filter (λ c. same_row (values_at columns c) key) kept)

-- one frame for each combination, or for each group of them; the keys in the order of first occurrence
abbrev pub frames : Grouping → List Combination → List Frame
frames Plain kept = map frame_of kept
frames One kept = group_frame [] kept ∷ []
frames (Keys columns) kept = map (group_of columns kept) (distinct (map (values_at columns) kept))

unfoldable mutual
  -- ---- values
  pub value : RVal → World → Environment → ℕ
  value (Col up entry col) w env = column_value env up entry col
  value (Key place) w env = get_or (key_here env) place 0
  value (Lit lit) w env = literal_value w.reading lit
  value (Fun sym s args) w env = function_value w.reading sym (values args w env)
  -- The argument is evaluated in each member of the group, with the member's frame in place of the group's.
  value (Agg fun is_distinct argument) w env =
      aggregate w.size w.reading fun is_distinct
      (map (λ member. argument_value argument (counts_rows fun is_distinct) w (frame_of member ∷ outer_frames env)) (members_here env))
  value (Sub block) w env = only_value (block_rows block w env)

  pub values : {m : _} → Values m → World → Environment → Row
  values NoValues w env = []
  values (ValueThen e rest) w env = value e w env ∷ values rest w env

  -- The literal numbered 0 is the number 1: an aggregate that counts rows is handed it in place of its argument.
  pub argument_value : MaybeArgument → Bool → World → Environment → ℕ
  argument_value NoArgument counting w env = literal_value w.reading 0
  argument_value (AnArgument e) counting w env = if counting then literal_value w.reading 0 else value e w env

  -- ---- conditions
  pub truth : RCond → World → Environment → Bool
  truth (Eq left right) w env = nat_eq (value left w env) (value right w env)
  truth (Pred sym s args) w env = predicate_holds w.reading sym (values args w env)
  truth (And s parts) w env = all_hold parts w env
  truth (Or s parts) w env = some_hold parts w env
  truth (Not part) w env = not (truth part w env)
  truth (Exists query) w env = not (is_empty (rows query w env))
  truth (In left query) w env = is_among (value left w env ∷ []) (rows query w env)

  pub all_hold : {m : _} → Conditions m → World → Environment → Bool
  all_hold NoConditions w env = true
  all_hold (ConditionThen condition rest) w env = truth condition w env && all_hold rest w env

  pub some_hold : {m : _} → Conditions m → World → Environment → Bool
  some_hold NoConditions w env = false
  some_hold (ConditionThen condition rest) w env = truth condition w env || some_hold rest w env

  -- a condition that is not written is true
  pub holds : MaybeCondition → World → Environment → Bool
  holds NoCondition w env = true
  holds (ACondition condition) w env = truth condition w env

  -- ---- rows
  pub rows : RQuery → World → Environment → List Row
  rows (OfBlock block) w env = block_rows block w env
  rows (Set op left right) w env = combined op (rows left w env) (rows right w env)

  -- The entries give combinations, the conditions keep some, the grouping makes frames of them, HAVING keeps some, and the items of each are
  -- a row.
  pub block_rows : RBlock → World → Environment → List Row
  block_rows (Select is_distinct s entries s' conds grouping having s'' items) w env =
      let kept = filter (λ c. all_hold conds w (frame_of c ∷ env)) (product (choices entries w env)) in
      let kept_frames = filter (λ f. holds having w (f ∷ env)) (frames grouping kept) in
      distinct_if is_distinct (map (λ f. values items w (f ∷ env)) kept_frames)

  -- the rows of each entry
  pub choices : {m : _} → Entries m → World → Environment → List (List Row)
  choices NoEntries w env = []
  choices (EntryThen source width rest) w env = source_rows source w env ∷ choices rest w env

  pub source_rows : RSource → World → Environment → List Row
  source_rows (Table number) w env = table_rows w.db number
  source_rows (View place) w env = get_or w.views place []
  source_rows (Derived query) w env = rows query w env

-- ---- views, each evaluated by itself over those declared before it
abbrev pub world_of : ℕ → Reading → Database → List (List Row) → World
world_of n reading db views = record { size = n; reading = reading; db = db; views = views }

-- the rows of these views, after those that have theirs already
abbrev pub view_rows : ℕ → Reading → Database → List (List Row) → List RQuery → List (List Row)
view_rows n reading db earlier [] = earlier
view_rows n reading db earlier (tree ∷ rest) = view_rows n reading db (earlier ++ rows tree (world_of n reading db earlier) [] ∷ []) rest

-- the rows of a tree that stands by itself, over the trees of the views
abbrev pub answer : ℕ → Reading → Database → List RQuery → RQuery → List Row
answer n reading db views tree = rows tree (world_of n reading db (view_rows n reading db [] views)) []
