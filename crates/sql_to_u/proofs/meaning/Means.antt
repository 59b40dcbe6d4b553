-- The term of a sound tree, at the values of a row, means how often the row occurs in the tree's rows.
use Rattle.std.proofs.Common.{◌≡◌, ℕ, suc, ◌+◌, ◌*◌, ◌≤◌, Bool, true, false, List, [], ◌∷◌, ◌++◌, map, filter, length, get_or, drop, refl, ap, sym, ◌∙◌, arith}
use Rattle.std.specs.Prelude.{nat_eq}
use Rattle.data_model.specs.Numbers.{one_if, squash, negate}
use Rattle.data_model.specs.Rows.{Row, same_row, occurrences, distinct, product}
use Rattle.data_model.specs.Reading.{Reading, function_value, predicate_holds}
use Rattle.data_model.specs.Database.{Database, table_rows}
use Rattle.data_model.proofs.Sums.{AreRows, sum_rows-same, sum_rows-rows, weight, one_if-and}
use Rattle.data_model.proofs.Occurrences.{occurrences-distinct, occurrences-map, occurrences-framed, one_if-is_among, or_squash, negate-one_if}
use Rattle.sql_model.proofs.Existence.{some_row}
use Rattle.sql_model.specs.Aggregates.{counts_rows, number_of}
use Rattle.sql_model.specs.Answers.{distinct_if, only_value}
use Rattle.u_terms.specs.Syntax.{Val}
use Rattle.u_terms.specs.declared.term.U.TheVariants as u
use Rattle.u_terms.specs.Meaning.{meaning, value_meaning}
use Rattle.u_terms.proofs.Meanings.{meaning-Squash, meaning-Not, meaning-Eq, meaning-Rel, meaning-Pred, meaning-Free, meaning-Lit, meaning-Fun}
use Rattle.scope_core.specs.Syntax.{RVal, Col, Key, Lit, Fun, Agg, Sub, Values, NoValues, ValueThen, MaybeArgument, NoArgument, AnArgument, RCond, Eq, Pred, And, Or, Not, Exists, In, Conditions, NoConditions, ConditionThen, MaybeCondition, NoCondition, ACondition, RSource, Table, View, Derived, Entries, NoEntries, EntryThen, RBlock, Select, RQuery, OfBlock, Set, Plain, One, Keys}
use Rattle.scope_core.specs.Width.{width, block_width, count_values}
use Rattle.scope_core.specs.Environments.{World, Environment, Frame, frame_of, outer_frames}
use Rattle.scope_core.specs.Evaluation.{values_at, group_of, group_frame, value, values, argument_value, truth, all_hold, some_hold, holds, rows, block_rows, choices, source_rows, world_of}
use Rattle.scope_core.specs.Sound.{SeenRows, SeenGroup, SeenBlocks, widths, member_seen, IsSound, IsSoundBlock, IsSoundHaving, IsSoundScalar, IsSoundAggregate, AreSoundEntries, IsSoundSource, IsSoundCondition, AreSoundConditions, IsSoundValue, IsSoundArgument, AreSoundValues}
use Rattle.sql_to_u.specs.Factors.{sum_of, over_names, names_from, key_equalities}
use Rattle.u_terms.specs.Products.{product_of}
use Rattle.sql_to_u.specs.Scopes.{Here, Scope, count_columns, firsts, rows_here, group_here, firsts_at, key_of, members_of, member_scope}
use Rattle.sql_to_u.specs.Translation.{TermAt, query_term, block_term, source_terms, source_term, item_factors, condition_term, condition_terms, having_factors, value_term, value_terms, argument_term, scalar_term, first_term}
use Rattle.u_terms.proofs.OverNames.{AgreeBelow, AgreeBelow-refl, AgreeBelow-trans, put_row, put_row-agree, put_row-reads}
use Rattle.scope_core.proofs.rows.Frames.{all-frames, occurrences-one}
use Rattle.scope_core.proofs.rows.RowsFit.{Fits, IsWorld, rows-fit, choices-fit, keys-fit, product-fit}
use Rattle.sql_to_u.proofs.meaning.OverEntries.{over_names-closed, over_names-means}
use Rattle.sql_to_u.proofs.names.Seeing.{ReadsRow, ReadsRows, Reads, Reads-later, column-reads, key-reads}
use Rattle.sql_to_u.proofs.names.Closed.{AreClosedValues, AreClosedViews, IsClosedScope, both-closed, product-closed, names-closed, keys-closed, closed-Squash, members-closed, outer-closed, query-closed, sources-closed, conditions-closed, items-closed, having-closed, value-closed, argument-closed}
use Rattle.sql_to_u.proofs.meaning.Products.{total, mean, factors_mean, product-means, sum-means, both-mean, alone, Stand, names-stand, Stand-later, squash_if-means, combined-means, combinations-mean, knows, knows-keyed, keys-mean, group-means}
use Rattle.scope_core.proofs.basics.Each.{Each-filter}

only-one : (b : Bool) (r : Row) → get_or r 0 0 ≡ only_value (distinct_if b (r ∷ []))
only-one true r = refl
only-one false r = refl

module _ (n : ℕ) (reading : Reading) (db : Database) (shown : List (List Row)) (IsTable IsView : ℕ → ℕ → Type 0) (views : List TermAt) where
  abbrev w : World
  w = world_of n reading db shown

  -- the terms of the views are closed, and count the rows of the views
  pub record AreViews : Type 0 where
    pub closed : AreClosedViews views
    pub count : (place k : ℕ) → IsView place k → (names : List ℕ) (d : ℕ) (vs : List Val) (r : Row) → AreClosedValues vs → length r ≡ k → Stand n reading db names d vs r
        → mean n reading db names (get_or views place (λ row next. u.Zero) vs d) ≡ occurrences r (get_or shown place [])

  module _ (ok : IsWorld n w IsTable IsView) (are : AreViews) where
    mutual
      unfolding query_term rows IsSound width

      pub query-means : (q : RQuery) (shape : SeenBlocks) (env : Environment) (scope : Scope) (names : List ℕ) (d : ℕ) (vs : List Val) (r : Row)
          → IsSound IsTable IsView shape q → Fits n shape env → Reads n reading db names d shape scope env → IsClosedScope scope → AreClosedValues vs → length r ≡ width q → Stand n reading db names d vs r
          → mean n reading db names (query_term views q scope vs d) ≡ occurrences r (rows q w env)
      query-means (OfBlock block) shape env scope names d vs r s f e o c long st = block-means block shape env scope names d vs r s f e o c long st
      query-means (Set op left right) shape env scope names d vs r s f e o c long st =
          combined-means n reading db op names (query_term views left scope vs d) (query_term views right scope vs d) r (rows left w env) (rows right w env)
          (query-means left shape env scope names d vs r s.0 f e o c long st) (query-means right shape env scope names d vs r s.1 f e o c (long ∙ s.2) st)

      pub block-means : (b : RBlock) (shape : SeenBlocks) (env : Environment) (scope : Scope) (names : List ℕ) (d : ℕ) (vs : List Val) (r : Row)
          → IsSoundBlock IsTable IsView shape b → Fits n shape env → Reads n reading db names d shape scope env → IsClosedScope scope → AreClosedValues vs → length r ≡ block_width b → Stand n reading db names d vs r
          → mean n reading db names (block_term views b scope vs d) ≡ occurrences r (block_rows b w env)
      block-means (Select is_distinct s entries s' conds Plain NoCondition s'' items) shape env scope names d vs r h f e o c long st =
          let ks = widths entries in
          let here = rows_here (firsts entries d) ∷ scope in
          let z = d + count_columns entries in
          let p = λ (b : List Row). all_hold conds w (frame_of b ∷ env) in
          let g = λ (b : List Row). values items w (frame_of b ∷ env) in
          let oh : IsClosedScope here = ((λ e. tt), o) in
          let later = λ (names'' : List ℕ) (b : AgreeBelow d names names''). Reads-later n reading db names names'' d z shape scope env b (omega arith) e in
          squash_if-means n reading db is_distinct names
          (over_names d (count_columns entries) (product_of ((source_terms views entries scope d z ++ condition_terms views conds here z) ++ item_factors views items here vs z))) r _
          (combinations-mean n reading db entries names d (source_terms views entries scope d z) (condition_terms views conds here z) (item_factors views items here vs z)
          (choices entries w env) p (λ b. one_if (same_row (g b) r))
          (sources-closed views are.closed entries scope d z o) (conditions-closed views are.closed conds here z oh)
          (items-closed views are.closed items here vs z oh c) (choices-fit n w IsTable IsView ok entries shape env h.0 f)
          (λ names'' b below k own. sources-mean entries shape env scope names'' b d z h.0 f (later names'' below) o k own)
          (λ names'' b below k own. conditions-mean conds (SeenRows ks ∷ shape) (frame_of b ∷ env) here names'' z h.1 (k, f) (own, later names'' below) oh)
          (λ names'' b below k own. items-mean items (SeenRows ks ∷ shape) (frame_of b ∷ env) here names'' z vs r h.3 (k, f) (own, later names'' below) oh long
          (Stand-later n reading db names names'' d z vs r below (omega arith) st))
          ∙ sym (occurrences-map r g (filter p (product (choices entries w env))))
          ∙ ap (occurrences r) (sym (all-frames (λ (x : Frame). values items w (x ∷ env)) frame_of (filter p (product (choices entries w env))))))
      block-means (Select is_distinct s entries s' conds Plain (ACondition having) s'' items) shape env scope names d vs r h f e o c long st = absurd h.2.0
      block-means (Select is_distinct s entries s' conds One having s'' items) shape env scope names d vs r h f e o c long st =
          let ks = widths entries in
          let fronts = λ (y : ℕ). source_terms views entries scope y (y + count_columns entries) in
          let backs = λ (y : ℕ). condition_terms views conds (rows_here (firsts entries y) ∷ scope) (y + count_columns entries) in
          let p = λ (b : List Row). all_hold conds w (frame_of b ∷ env) in
          let group : Frame = group_frame [] (filter p (product (choices entries w env))) in
          let here : Here = group_here d (record { columns = count_columns entries; firsts = λ y. firsts entries y; factors = λ y. fronts y ++ backs y }) in
          let cf = λ (y : ℕ). sources-closed views are.closed entries scope y (y + count_columns entries) o in
          let cb = λ (y : ℕ). conditions-closed views are.closed conds (rows_here (firsts entries y) ∷ scope) (y + count_columns entries) ((λ e. tt), o) in
          let oh : IsClosedScope (here ∷ scope) = ((λ y. both-closed (fronts y) (backs y) (cf y) (cb y)), o) in
          let know = knows n reading db entries names d fronts backs (choices entries w env) p cf cb (choices-fit n w IsTable IsView ok entries shape env h.0 f)
          (λ names' y below le names'' b below'' k own. sources-mean entries shape env scope names'' b y (y + count_columns entries) h.0 f
          (Reads-later n reading db names names'' d (y + count_columns entries) shape scope env (AgreeBelow-trans d y names names' names'' below below'' le) (omega arith) e) o k own)
          (λ names' y below le names'' b below'' k own. conditions-mean conds (SeenRows ks ∷ shape) (frame_of b ∷ env) (rows_here (firsts entries y) ∷ scope) names'' (y + count_columns entries) h.1 (k, f)
          (own, Reads-later n reading db names names'' d (y + count_columns entries) shape scope env (AgreeBelow-trans d y names names' names'' below below'' le) (omega arith) e) ((λ e. tt), o)) in
          let e' : Reads n reading db names d (SeenGroup 0 ks ∷ shape) (here ∷ scope) (group ∷ env) = (((λ i lt. absurd (omega (arith, lt))), know), e) in
          let f' : Fits n (SeenGroup 0 ks ∷ shape) (group ∷ env) = (record { long = refl; small = tt }, f) in
          let H = having_factors views having (here ∷ scope) d in
          let Q = item_factors views items (here ∷ scope) vs d in
          squash_if-means n reading db is_distinct names (product_of (H ++ Q)) r _
          (product-means n reading db names (H ++ Q) ∙ both-mean n reading db names H Q
          ∙ (rw (having-mean having (SeenGroup 0 ks ∷ shape) (group ∷ env) (here ∷ scope) names d h.2 f' e' oh, items-mean items (SeenGroup 0 ks ∷ shape) (group ∷ env) (here ∷ scope) names d vs r h.3 f' e' oh long st)
          (sym (occurrences-one r (λ (x : Frame). values items w (x ∷ env)) (λ (x : Frame). holds having w (x ∷ env)) group))))
      block-means (Select is_distinct s entries s' conds (Keys columns) having s'' items) shape env scope names d vs r h f e o c long st =
          let ks = widths entries in
          let m = length columns in
          let z = d + m in
          let key = λ (b : List Row). values_at columns b in
          let fronts = λ (y : ℕ). source_terms views entries scope y (y + count_columns entries) in
          let backs = λ (y : ℕ). condition_terms views conds (rows_here (firsts entries y) ∷ scope) (y + count_columns entries) in
          let equals = λ (y : ℕ). key_equalities columns (firsts entries y) d in
          let p = λ (b : List Row). all_hold conds w (frame_of b ∷ env) in
          let kept = filter p (product (choices entries w env)) in
          let here : Here = group_here d (record { columns = count_columns entries; firsts = λ y. firsts entries y; factors = λ y. (fronts y ++ backs y) ++ equals y }) in
          let cf = λ (y : ℕ). sources-closed views are.closed entries scope y (y + count_columns entries) o in
          let cb = λ (y : ℕ). conditions-closed views are.closed conds (rows_here (firsts entries y) ∷ scope) (y + count_columns entries) ((λ e. tt), o) in
          let ck = λ (y : ℕ). keys-closed columns (firsts entries y) d in
          let ca = λ (y : ℕ). both-closed (fronts y ++ backs y) (equals y) (both-closed (fronts y) (backs y) (cf y) (cb y)) (ck y) in
          let oh : IsClosedScope (here ∷ scope) = (ca, o) in
          let tables = choices-fit n w IsTable IsView ok entries shape env h.0 f in
          let H = having_factors views having (here ∷ scope) z in
          let Q = item_factors views items (here ∷ scope) vs z in
          let K = over_names z (count_columns entries) (product_of ((fronts z ++ backs z) ++ equals z)) in
          let fs = u.Squash K ∷ H ++ Q in
          let hold = λ (x : Frame). holds having w (x ∷ env) in
          let made = λ (x : Frame). values items w (x ∷ env) in
          let G = λ (k : Row). one_if (hold (group_of columns kept k)) * one_if (same_row (made (group_of columns kept k)) r) in
          squash_if-means n reading db is_distinct names (over_names d m (product_of fs)) r _
          (over_names-means n reading db d m names (product_of fs) (product-closed fs (
            closed-Squash K (over_names-closed z (count_columns entries) (product_of ((fronts z ++ backs z) ++ equals z)) (product-closed ((fronts z ++ backs z) ++ equals z) (ca z))),
            both-closed H Q (having-closed views are.closed having (here ∷ scope) z oh) (items-closed views are.closed items (here ∷ scope) vs z oh c),
          ))
          ∙ sum_rows-same n m _ (λ k. occurrences k (distinct (map key kept)) * G k) (λ k i.
          let group = group_of columns kept k in
          let names' = put_row names d k in
          let below : AgreeBelow d names names' = put_row-agree d d k names (omega arith) in
          let later = Reads-later n reading db names names' d z shape scope env below (omega arith) e in
          let hf = λ (names1 : List ℕ) (y : ℕ) (below1 : AgreeBelow z names' names1) (le : z ≤ y) (names'' : List ℕ) (b : List Row) (below'' : AgreeBelow y names1 names'') (is : AreRows n ks b) (own : ReadsRows names'' (y + count_columns entries) (firsts entries y) b).
          sources-mean entries shape env scope names'' b y (y + count_columns entries) h.0 f (Reads-later n reading db names' names'' z (y + count_columns entries) shape scope env (AgreeBelow-trans z y names' names1 names'' below1 below'' le) (omega arith) later) o is own in
          let hb = λ (names1 : List ℕ) (y : ℕ) (below1 : AgreeBelow z names' names1) (le : z ≤ y) (names'' : List ℕ) (b : List Row) (below'' : AgreeBelow y names1 names'') (is : AreRows n ks b) (own : ReadsRows names'' (y + count_columns entries) (firsts entries y) b).
          conditions-mean conds (SeenRows ks ∷ shape) (frame_of b ∷ env) (rows_here (firsts entries y) ∷ scope) names'' (y + count_columns entries) h.1 (is, f)
          (own, Reads-later n reading db names' names'' z (y + count_columns entries) shape scope env (AgreeBelow-trans z y names' names1 names'' below1 below'' le) (omega arith) later) ((λ e. tt), o) in
          let hk = λ (names1 : List ℕ) (y : ℕ) (below1 : AgreeBelow z names' names1) (le : z ≤ y) (names'' : List ℕ) (b : List Row) (below'' : AgreeBelow y names1 names'') (is : AreRows n ks b) (own : ReadsRows names'' (y + count_columns entries) (firsts entries y) b).
          keys-mean n reading db columns names'' (y + count_columns entries) ks (firsts entries y) b d k h.4 is own i.long
          (λ j lt. AgreeBelow-trans z y names' names1 names'' below1 below'' le (d + j) (omega (arith, lt, i.long)) ∙ put_row-reads d j k names lt) in
          let know = knows-keyed n reading db entries names' z fronts backs equals (choices entries w env) p key k cf cb ck tables hf hb hk in
          let seen : ReadsRow names' z d k = λ j lt. (omega (arith, lt, i.long), put_row-reads d j k names lt) in
          let e' : Reads n reading db names' z (SeenGroup m ks ∷ shape) (here ∷ scope) (group ∷ env) = ((seen, know), later) in
          let f' : Fits n (SeenGroup m ks ∷ shape) (group ∷ env) = (i, f) in
          let some : mean n reading db names' (u.Squash K) ≡ occurrences k (distinct (map key kept)) =
          meaning-Squash n reading db names' [] K
          ∙ ap squash (combinations-mean n reading db entries names' z (fronts z) (backs z) (equals z) (choices entries w env) p (λ b. one_if (same_row (key b) k)) (cf z) (cb z) (ck z) tables
          (hf names' z (AgreeBelow-refl z names') (omega arith)) (hb names' z (AgreeBelow-refl z names') (omega arith)) (hk names' z (AgreeBelow-refl z names') (omega arith))
          ∙ sym (occurrences-map k key kept))
          ∙ sym (occurrences-distinct k (map key kept)) in
          product-means n reading db names' fs
          ∙ ap (λ q. mean n reading db names' (u.Squash K) * q) (both-mean n reading db names' H Q)
          ∙ (rw (
            some,
            having-mean having (SeenGroup m ks ∷ shape) (group ∷ env) (here ∷ scope) names' z h.2 f' e' oh,
            items-mean items (SeenGroup m ks ∷ shape) (group ∷ env) (here ∷ scope) names' z vs r h.3 f' e' oh long (Stand-later n reading db names names' d z vs r below (omega arith) st),
          ) refl))
          ∙ sum_rows-rows n m (distinct (map key kept)) G
          (keys-fit n ks columns kept h.4 (Each-filter (AreRows n ks) p (product (choices entries w env)) (product-fit n ks (choices entries w env) tables)))
          ∙ sym (occurrences-framed r made hold (group_of columns kept) (distinct (map key kept))))

      pub having-mean : (having : MaybeCondition) (shape : SeenBlocks) (env : Environment) (scope : Scope) (names : List ℕ) (d : ℕ)
          → IsSoundHaving IsTable IsView shape having → Fits n shape env → Reads n reading db names d shape scope env → IsClosedScope scope
          → factors_mean n reading db names (having_factors views having scope d) ≡ one_if (holds having w env)
      having-mean NoCondition shape env scope names d h f e o = refl
      having-mean (ACondition (And s parts)) shape env scope names d h f e o = conditions-mean parts shape env scope names d h.1 f e o
      having-mean (ACondition (Eq left right)) shape env scope names d h f e o = alone n reading db names _ _ (condition-means (Eq left right) shape env scope names d h.1 f e o)
      having-mean (ACondition (Pred sym s args)) shape env scope names d h f e o = alone n reading db names _ _ (condition-means (Pred sym s args) shape env scope names d h.1 f e o)
      having-mean (ACondition (Or s parts)) shape env scope names d h f e o = alone n reading db names _ _ (condition-means (Or s parts) shape env scope names d h.1 f e o)
      having-mean (ACondition (Not part)) shape env scope names d h f e o = alone n reading db names _ _ (condition-means (Not part) shape env scope names d h.1 f e o)
      having-mean (ACondition (Exists query)) shape env scope names d h f e o = alone n reading db names _ _ (condition-means (Exists query) shape env scope names d h.1 f e o)
      having-mean (ACondition (In left query)) shape env scope names d h f e o = alone n reading db names _ _ (condition-means (In left query) shape env scope names d h.1 f e o)

      pub sources-mean : {m : _} (es : Entries m) (shape : SeenBlocks) (env : Environment) (scope : Scope) (names : List ℕ) (b : List Row) (d z : ℕ)
          → AreSoundEntries IsTable IsView shape es → Fits n shape env → Reads n reading db names z shape scope env → IsClosedScope scope → AreRows n (widths es) b → ReadsRows names z (firsts es d) b
          → factors_mean n reading db names (source_terms views es scope d z) ≡ weight (choices es w env) b
      sources-mean NoEntries shape env scope names b d z h f e o k own = refl
      sources-mean (EntryThen source wide rest) shape env scope names [] d z h f e o k own = absurd k
      sources-mean (EntryThen source wide rest) shape env scope names (r ∷ b) d z h f e o k own =
          rw (
            source-means source wide shape env scope names z (names_from d wide) r h.0 f e o (names-closed d wide) k.0.long (names-stand n reading db names d z wide r k.0.long own.0),
            sources-mean rest shape env scope names b (d + wide) z h.1 f e o k.1 own.1,
          ) refl

      pub source-means : (s : RSource) (wide : ℕ) (shape : SeenBlocks) (env : Environment) (scope : Scope) (names : List ℕ) (z : ℕ) (vs : List Val) (r : Row)
          → IsSoundSource IsTable IsView shape s wide → Fits n shape env → Reads n reading db names z shape scope env → IsClosedScope scope → AreClosedValues vs → length r ≡ wide → Stand n reading db names z vs r
          → mean n reading db names (source_term views s scope vs z) ≡ occurrences r (source_rows s w env)
      source-means (Table number) wide shape env scope names z vs r h f e o c long st =
          meaning-Rel n reading db names [] number vs ∙ ap (λ q. occurrences q (table_rows db number)) (st names (AgreeBelow-refl z names))
      source-means (View place) wide shape env scope names z vs r h f e o c long st = are.count place wide h names z vs r c long st
      source-means (Derived query) wide shape env scope names z vs r h f e o c long st = query-means query shape env scope names z vs r h.0 f e o c (long ∙ sym h.1) st

      pub items-mean : {m : _} (items : Values m) (shape : SeenBlocks) (env : Environment) (scope : Scope) (names : List ℕ) (d : ℕ) (vs : List Val) (r : Row)
          → AreSoundValues IsTable IsView shape items → Fits n shape env → Reads n reading db names d shape scope env → IsClosedScope scope → length r ≡ count_values items → Stand n reading db names d vs r
          → factors_mean n reading db names (item_factors views items scope vs d) ≡ one_if (same_row (values items w env) r)
      items-mean NoValues shape env scope names d vs [] h f e o long st = refl
      items-mean NoValues shape env scope names d vs (x ∷ r) h f e o long st = absurd (omega (arith, long))
      items-mean (ValueThen item rest) shape env scope names d vs [] h f e o long st = absurd (omega (arith, long))
      items-mean (ValueThen item rest) shape env scope names d [] (x ∷ r) h f e o long st =
          absurd (let k : 0 ≡ suc (length r) = ap (λ (q : Row). length q) (st names (AgreeBelow-refl d names)) in omega (arith, k))
      items-mean (ValueThen item rest) shape env scope names d (v ∷ vs) (x ∷ r) h f e o long st =
          let first : value_meaning n reading db names [] v ≡ x = ap (λ q. get_or q 0 0) (st names (AgreeBelow-refl d names)) in
          rw (
            meaning-Eq n reading db names [] (value_term views item scope d) v,
            value-means item shape env scope names d h.0 f e o,
            first,
            items-mean rest shape env scope names d vs r h.1 f e o (omega (arith, long)) (λ names' b. ap (λ q. drop 1 q) (st names' b)),
          )
          (sym (one_if-and (nat_eq (value item w env) x) (same_row (values rest w env) r)))

      pub condition-means : (c : RCond) (shape : SeenBlocks) (env : Environment) (scope : Scope) (names : List ℕ) (d : ℕ)
          → IsSoundCondition IsTable IsView shape c → Fits n shape env → Reads n reading db names d shape scope env → IsClosedScope scope
          → mean n reading db names (condition_term views c scope d) ≡ one_if (truth c w env)
      condition-means (Eq left right) shape env scope names d h f e o =
          meaning-Eq n reading db names [] (value_term views left scope d) (value_term views right scope d)
          ∙ (rw (value-means left shape env scope names d h.0 f e o, value-means right shape env scope names d h.1 f e o) refl)
      condition-means (Pred sym s args) shape env scope names d h f e o =
          meaning-Pred n reading db names [] sym (value_terms views args scope d)
          ∙ ap (λ q. one_if (predicate_holds reading sym q)) (values-mean args shape env scope names d h f e o)
      condition-means (And s parts) shape env scope names d h f e o =
          product-means n reading db names (condition_terms views parts scope d) ∙ conditions-mean parts shape env scope names d h f e o
      condition-means (Or s parts) shape env scope names d h f e o =
          meaning-Squash n reading db names [] (sum_of (condition_terms views parts scope d)) ∙ ap squash (sum-means n reading db names (condition_terms views parts scope d))
          ∙ sym (some-mean parts shape env scope names d h f e o)
      condition-means (Not part) shape env scope names d h f e o =
          meaning-Not n reading db names [] (condition_term views part scope d) ∙ ap negate (condition-means part shape env scope names d h f e o) ∙ negate-one_if (truth part w env)
      condition-means (Exists query) shape env scope names d h f e o =
          let k = width query in
          let a = query_term views query scope (names_from d k) (d + k) in
          meaning-Squash n reading db names [] (over_names d k a)
          ∙ ap squash (
          over_names-means n reading db d k names a (query-closed views are.closed query scope (names_from d k) (d + k) o (names-closed d k))
          ∙ sum_rows-same n k _ (λ r. occurrences r (rows query w env)) (λ r i.
          let names' = put_row names d r in
          let below = put_row-agree d d r names (omega arith) in
          query-means query shape env scope names' (d + k) (names_from d k) r h.1 f (Reads-later n reading db names names' d (d + k) shape scope env below (omega arith) e) o (names-closed d k) i.long
          (names-stand n reading db names' d (d + k) k r i.long (λ j lt. (omega (arith, lt, i.long), put_row-reads d j r names lt)))))
          ∙ sym (some_row n k (rows query w env) (rows-fit n w IsTable IsView ok query shape env h.1 f))
      condition-means (In left query) shape env scope names d h f e o =
          meaning-Squash n reading db names [] (query_term views query scope (value_term views left scope d ∷ []) d)
          ∙ ap squash (query-means query shape env scope names d (value_term views left scope d ∷ []) (value left w env ∷ []) h.2 f e o (value-closed views are.closed left scope d o, tt) (sym h.3)
          (λ names' b. ap (λ x. x ∷ []) (value-means left shape env scope names' d h.1 f (Reads-later n reading db names names' d d shape scope env b (omega arith) e) o)))
          ∙ sym (one_if-is_among (value left w env ∷ []) (rows query w env))

      pub conditions-mean : {m : _} (cs : Conditions m) (shape : SeenBlocks) (env : Environment) (scope : Scope) (names : List ℕ) (d : ℕ)
          → AreSoundConditions IsTable IsView shape cs → Fits n shape env → Reads n reading db names d shape scope env → IsClosedScope scope
          → factors_mean n reading db names (condition_terms views cs scope d) ≡ one_if (all_hold cs w env)
      conditions-mean NoConditions shape env scope names d h f e o = refl
      conditions-mean (ConditionThen condition rest) shape env scope names d h f e o =
          rw (condition-means condition shape env scope names d h.0 f e o, conditions-mean rest shape env scope names d h.1 f e o) (sym (one_if-and (truth condition w env) (all_hold rest w env)))

      pub some-mean : {m : _} (cs : Conditions m) (shape : SeenBlocks) (env : Environment) (scope : Scope) (names : List ℕ) (d : ℕ)
          → AreSoundConditions IsTable IsView shape cs → Fits n shape env → Reads n reading db names d shape scope env → IsClosedScope scope
          → one_if (some_hold cs w env) ≡ squash (total (map (meaning n reading db names []) (condition_terms views cs scope d)))
      some-mean NoConditions shape env scope names d h f e o = refl
      some-mean (ConditionThen condition rest) shape env scope names d h f e o =
          rw (condition-means condition shape env scope names d h.0 f e o) (or_squash (truth condition w env) (some_hold rest w env) _ (some-mean rest shape env scope names d h.1 f e o))

      pub value-means : (a : RVal) (shape : SeenBlocks) (env : Environment) (scope : Scope) (names : List ℕ) (d : ℕ)
          → IsSoundValue IsTable IsView shape a → Fits n shape env → Reads n reading db names d shape scope env → IsClosedScope scope
          → value_meaning n reading db names [] (value_term views a scope d) ≡ value a w env
      value-means (Col up entry col) shape env scope names d h f e o =
          meaning-Free n reading db names [] (get_or (firsts_at scope up) entry 0 + col) ∙ column-reads n reading db names d shape scope env up entry col f e h
      value-means (Key place) shape env scope names d h f e o = meaning-Free n reading db names [] (key_of scope + place) ∙ key-reads n reading db names d shape scope env place f e h
      value-means (Lit lit) shape env scope names d h f e o = meaning-Lit n reading db names [] lit
      value-means (Fun sym s args) shape env scope names d h f e o =
          meaning-Fun n reading db names [] sym (value_terms views args scope d) ∙ ap (function_value reading sym) (values-mean args shape env scope names d h f e o)
      value-means (Agg fun is_distinct argument) shape env scope names d h f e o =
          let members = members_of scope in
          let counting = counts_rows fun is_distinct in
          let inside = member_scope scope (d + 1) in
          let oh : IsClosedScope inside = ((λ e. tt), outer-closed scope o) in
          group-means n reading db (number_of fun) is_distinct shape env scope names d (argument_term views argument counting inside (d + 1 + members.columns)) (λ b. argument_value argument counting w (frame_of b ∷ outer_frames env))
          h.0 f e (members-closed scope o) (argument-closed views are.closed argument counting inside (d + 1 + members.columns) oh)
          (λ names'' b f'' e''. argument-means argument counting (member_seen shape) (frame_of b ∷ outer_frames env) inside names'' (d + 1 + members.columns) h.1 f'' e'' oh)
      value-means (Sub block) shape env scope names d h f e o = scalar-means block shape env scope names d h.1 f e o

      pub argument-means : (argument : MaybeArgument) (counting : Bool) (shape : SeenBlocks) (env : Environment) (scope : Scope) (names : List ℕ) (d : ℕ)
          → IsSoundArgument IsTable IsView shape argument → Fits n shape env → Reads n reading db names d shape scope env → IsClosedScope scope
          → value_meaning n reading db names [] (argument_term views argument counting scope d) ≡ argument_value argument counting w env
      argument-means NoArgument counting shape env scope names d h f e o = meaning-Lit n reading db names [] 0
      argument-means (AnArgument a) true shape env scope names d h f e o = meaning-Lit n reading db names [] 0
      argument-means (AnArgument a) false shape env scope names d h f e o = value-means a shape env scope names d h f e o

      pub scalar-means : (b : RBlock) (shape : SeenBlocks) (env : Environment) (scope : Scope) (names : List ℕ) (d : ℕ)
          → IsSoundScalar IsTable IsView shape b → Fits n shape env → Reads n reading db names d shape scope env → IsClosedScope scope
          → value_meaning n reading db names [] (scalar_term views b scope d) ≡ only_value (block_rows b w env)
      scalar-means (Select is_distinct s entries s' conds One NoCondition s'' items) shape env scope names d h f e o =
          let ks = widths entries in
          let fronts = λ (y : ℕ). source_terms views entries scope y (y + count_columns entries) in
          let backs = λ (y : ℕ). condition_terms views conds (rows_here (firsts entries y) ∷ scope) (y + count_columns entries) in
          let p = λ (b : List Row). all_hold conds w (frame_of b ∷ env) in
          let group : Frame = group_frame [] (filter p (product (choices entries w env))) in
          let here : Here = group_here d (record { columns = count_columns entries; firsts = λ y. firsts entries y; factors = λ y. fronts y ++ backs y }) in
          let cf = λ (y : ℕ). sources-closed views are.closed entries scope y (y + count_columns entries) o in
          let cb = λ (y : ℕ). conditions-closed views are.closed conds (rows_here (firsts entries y) ∷ scope) (y + count_columns entries) ((λ e. tt), o) in
          let oh : IsClosedScope (here ∷ scope) = ((λ y. both-closed (fronts y) (backs y) (cf y) (cb y)), o) in
          let know = knows n reading db entries names d fronts backs (choices entries w env) p cf cb (choices-fit n w IsTable IsView ok entries shape env h.0 f)
          (λ names' y below le names'' b below'' k own. sources-mean entries shape env scope names'' b y (y + count_columns entries) h.0 f
          (Reads-later n reading db names names'' d (y + count_columns entries) shape scope env (AgreeBelow-trans d y names names' names'' below below'' le) (omega arith) e) o k own)
          (λ names' y below le names'' b below'' k own. conditions-mean conds (SeenRows ks ∷ shape) (frame_of b ∷ env) (rows_here (firsts entries y) ∷ scope) names'' (y + count_columns entries) h.1 (k, f)
          (own, Reads-later n reading db names names'' d (y + count_columns entries) shape scope env (AgreeBelow-trans d y names names' names'' below below'' le) (omega arith) e) ((λ e. tt), o)) in
          let e' : Reads n reading db names d (SeenGroup 0 ks ∷ shape) (here ∷ scope) (group ∷ env) = (((λ i lt. absurd (omega (arith, lt))), know), e) in
          let f' : Fits n (SeenGroup 0 ks ∷ shape) (group ∷ env) = (record { long = refl; small = tt }, f) in
          first-means items 0 ks shape (group ∷ env) (here ∷ scope) names d h.2 f' e' oh ∙ only-one is_distinct (values items w (group ∷ env))
      scalar-means (Select is_distinct s entries s' conds One (ACondition having) s'' items) shape env scope names d h f e o = absurd h
      scalar-means (Select is_distinct s entries s' conds Plain having s'' items) shape env scope names d h f e o = absurd h
      scalar-means (Select is_distinct s entries s' conds (Keys columns) having s'' items) shape env scope names d h f e o = absurd h

      pub first-means : {m : _} (es : Values m) (count : ℕ) (ks : List ℕ) (shape : SeenBlocks) (env : Environment) (scope : Scope) (names : List ℕ) (d : ℕ)
          → IsSoundAggregate IsTable IsView (SeenGroup count ks ∷ shape) es → Fits n (SeenGroup count ks ∷ shape) env → Reads n reading db names d (SeenGroup count ks ∷ shape) scope env → IsClosedScope scope
          → value_meaning n reading db names [] (first_term views es scope d) ≡ get_or (values es w env) 0 0
      first-means NoValues count ks shape env scope names d h f e o = absurd h
      first-means (ValueThen (Agg fun is_distinct argument) NoValues) count ks shape env scope names d h f e o = value-means (Agg fun is_distinct argument) (SeenGroup count ks ∷ shape) env scope names d (tt, h) f e o
      first-means (ValueThen (Agg fun is_distinct argument) (ValueThen a rest)) count ks shape env scope names d h f e o = absurd h
      first-means (ValueThen (Col up entry col) rest) count ks shape env scope names d h f e o = absurd h
      first-means (ValueThen (Key place) rest) count ks shape env scope names d h f e o = absurd h
      first-means (ValueThen (Lit lit) rest) count ks shape env scope names d h f e o = absurd h
      first-means (ValueThen (Fun sym s args) rest) count ks shape env scope names d h f e o = absurd h
      first-means (ValueThen (Sub block) rest) count ks shape env scope names d h f e o = absurd h

      pub values-mean : {m : _} (es : Values m) (shape : SeenBlocks) (env : Environment) (scope : Scope) (names : List ℕ) (d : ℕ)
          → AreSoundValues IsTable IsView shape es → Fits n shape env → Reads n reading db names d shape scope env → IsClosedScope scope
          → map (value_meaning n reading db names []) (value_terms views es scope d) ≡ values es w env
      values-mean NoValues shape env scope names d h f e o = refl
      values-mean (ValueThen a rest) shape env scope names d h f e o =
          rw (value-means a shape env scope names d h.0 f e o, values-mean rest shape env scope names d h.1 f e o) refl
