-- What the evaluator says of a tree that code builds.
use Rattle.std.proofs.Common.{◌≡◌, ℕ, Bool, true, false, List, [], ◌∷◌, map, filter, get_or, Option, Some, None, refl, ap, sym}
use Rattle.std.specs.Prelude.{◌&&◌, ◌||◌, not, if◌then◌else◌, nat_eq}
use Rattle.data_model.specs.Rows.{Row, is_among, product}
use Rattle.data_model.specs.Reading.{literal_value, function_value, predicate_holds}
use Rattle.sql_model.specs.Syntax.{AggFun, SetOp}
use Rattle.sql_model.specs.Aggregates.{counts_rows, aggregate}
use Rattle.sql_model.specs.Answers.{distinct_if, combined, is_empty, only_value}
use Rattle.scope_core.specs.declared.tree.RCond.TheBlock as t
use Rattle.scope_core.specs.declared.tree.RVal.TheVariants as v
use Rattle.scope_core.specs.declared.tree.RCond.TheVariants as c
use Rattle.scope_core.specs.declared.tree.RSource.TheVariants as s
use Rattle.scope_core.specs.declared.tree.RQuery.TheVariants as q
use Rattle.scope_core.specs.declared.tree.RBlock.{roll-RBlock}
use Rattle.scope_core.specs.Syntax.{RVal, RCond, RSource, RBlock, RQuery, Grouping}
use Rattle.scope_core.specs.Environments.{World, Environment, frame_of, outer_frames, members_here, key_here, column_value}
use Rattle.scope_core.specs.Evaluation.{frames, value, values, truth, all_hold, some_hold, rows, block_rows, choices, source_rows}
use Rattle.scope_core.specs.Resolving.{entry_of, nothing, conjunction}
use Rattle.scope_core.specs.Compute.{everything}
use Rattle.scope_core.proofs.basics.Booleans.{and-true}

-- of lists
abbrev pub values_of : List RVal → World → Environment → Row
values_of es w env = map (λ e. value e w env) es

abbrev pub every : List RCond → World → Environment → Bool
every [] w env = true
every (c ∷ cs) w env = truth c w env && every cs w env

abbrev pub some : List RCond → World → Environment → Bool
some [] w env = false
some (c ∷ cs) w env = truth c w env || some cs w env

abbrev pub held : Option RCond → World → Environment → Bool
held None w env = true
held (Some c) w env = truth c w env

abbrev pub argument_given : Option RVal → Bool → World → Environment → ℕ
argument_given None counting w env = literal_value w.reading 0
argument_given (Some e) counting w env = if counting then literal_value w.reading 0 else value e w env

module _ (w : World) (env : Environment) where
  listed-values : (es : List RVal) → values (t.hidden-the_row-RVal-1 es) w env ≡ values_of es w env
  unfolding everything
  listed-values [] = refl
  listed-values (e ∷ es) = ap (λ r. value e w env ∷ r) (listed-values es)

  listed-every : (cs : List RCond) → all_hold (t.hidden-the_row-RCond-2 cs) w env ≡ every cs w env
  unfolding everything
  listed-every [] = refl
  listed-every (c ∷ cs) = ap (λ r. truth c w env && r) (listed-every cs)

  listed-some : (cs : List RCond) → some_hold (t.hidden-the_row-RCond-2 cs) w env ≡ some cs w env
  unfolding everything
  listed-some [] = refl
  listed-some (c ∷ cs) = ap (λ r. truth c w env || r) (listed-some cs)

  pub value-Fun : (sym : ℕ) (es : List RVal) → value (v.Fun sym es) w env ≡ function_value w.reading sym (values_of es w env)
  unfolding everything
  value-Fun sym es = ap (function_value w.reading sym) (listed-values es)

  pub value-Col : (up entry col : ℕ) → value (v.Col up entry col) w env ≡ column_value env up entry col
  unfolding everything
  value-Col up entry col = refl

  pub value-Key : (place : ℕ) → value (v.Key place) w env ≡ get_or (key_here env) place 0
  unfolding everything
  value-Key place = refl

  pub value-Sub : (b : RBlock) → value (v.Sub b) w env ≡ only_value (block_rows b w env)
  unfolding everything
  value-Sub b = refl

  pub value-Agg : (fun : AggFun) (d : Bool) (e : Option RVal) → value (v.Agg fun d e) w env
      ≡ aggregate w.size w.reading fun d (map (λ member. argument_given e (counts_rows fun d) w (frame_of member ∷ outer_frames env)) (members_here env))
  unfolding everything
  value-Agg fun d None = refl
  value-Agg fun d (Some e) = refl

  pub truth-Eq : (a b : RVal) → truth (c.Eq a b) w env ≡ nat_eq (value a w env) (value b w env)
  unfolding everything
  truth-Eq a b = refl

  pub truth-Pred : (sym : ℕ) (es : List RVal) → truth (c.Pred sym es) w env ≡ predicate_holds w.reading sym (values_of es w env)
  unfolding everything
  truth-Pred sym es = ap (predicate_holds w.reading sym) (listed-values es)

  pub truth-And : (cs : List RCond) → truth (c.And cs) w env ≡ every cs w env
  unfolding everything
  truth-And cs = listed-every cs

  pub truth-Or : (cs : List RCond) → truth (c.Or cs) w env ≡ some cs w env
  unfolding everything
  truth-Or cs = listed-some cs

  -- one condition alone, or an AND
  pub truth-conjunction : (cs : List RCond) → truth (conjunction cs) w env ≡ every cs w env
  truth-conjunction [] = truth-And []
  truth-conjunction (a ∷ []) = sym (and-true (truth a w env))
  truth-conjunction (a ∷ b ∷ cs) = truth-And (a ∷ b ∷ cs)

  pub truth-Not : (a : RCond) → truth (c.Not a) w env ≡ not (truth a w env)
  unfolding everything
  truth-Not a = refl

  pub truth-Exists : (a : RQuery) → truth (c.Exists a) w env ≡ not (is_empty (rows a w env))
  unfolding everything
  truth-Exists a = refl

  pub truth-In : (e : RVal) (a : RQuery) → truth (c.In e a) w env ≡ is_among (value e w env ∷ []) (rows a w env)
  unfolding everything
  truth-In e a = refl

  pub source-Query : (a : RQuery) → source_rows (s.Query a) w env ≡ rows a w env
  unfolding everything
  source-Query a = refl

  pub rows-Block : (b : RBlock) → rows (q.Block b) w env ≡ block_rows b w env
  unfolding everything
  rows-Block b = refl

  pub rows-Set : (op : SetOp) (a b : RQuery) → rows (q.Set op a b) w env ≡ combined op (rows a w env) (rows b w env)
  unfolding everything
  rows-Set op a b = refl

module _ (w : World) (env : Environment) where
  -- what the sources of entries give
  abbrev pub rows_each : List (RSource × ℕ) → List (List Row)
  rows_each [] = []
  rows_each (e ∷ es) = source_rows e.0 w env ∷ rows_each es

  listed-choices : (es : List (RSource × ℕ)) → choices (t.hidden-the_row-REntry-7 (map entry_of es)) w env ≡ rows_each es
  unfolding everything
  listed-choices [] = refl
  listed-choices (e ∷ es) = ap (λ r. source_rows e.0 w env ∷ r) (listed-choices es)

  pub rows-of_block : (d : Bool) (es : List (RSource × ℕ)) (cs : List RCond) (g : Grouping) (h : Option RCond) (items : List RVal)
      → block_rows (roll-RBlock (record { distinct = d; entries = map entry_of es; conds = cs; grouping = g; having = h; items = items })) w env
      ≡ distinct_if d (map (λ f. values_of items w (f ∷ env)) (filter (λ f. held h w (f ∷ env)) (frames g (filter (λ c. every cs w (frame_of c ∷ env)) (product (rows_each es))))))
  unfolding everything
  rows-of_block d es cs g None items = λ i. distinct_if d (map (λ f. listed-values w (f ∷ env) items i) (filter (λ f. true) (frames g (filter (λ c. listed-every w (frame_of c ∷ env) cs i) (product (listed-choices es i))))))
  rows-of_block d es cs g (Some h) items = λ i. distinct_if d (map (λ f. listed-values w (f ∷ env) items i) (filter (λ f. truth h w (f ∷ env)) (frames g (filter (λ c. listed-every w (frame_of c ∷ env) cs i) (product (listed-choices es i))))))

  pub no_rows : block_rows nothing w env ≡ []
  unfolding everything
  no_rows = refl
