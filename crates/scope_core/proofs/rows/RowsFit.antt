-- The rows of a sound tree are as wide as the tree, and have values of the domain.
use Rattle.std.proofs.Common.{ℕ, zero, suc, ◌<◌, Bool, true, false, List, [], ◌∷◌, map, filter, length, get_or, refl, ap, sym, subst, arith}
use Rattle.data_model.specs.Lists.{Each}
use Rattle.data_model.specs.Rows.{Row, IsRow, AllBelow, distinct, product}
use Rattle.data_model.specs.Reading.{literal_value, function_value, aggregate_value}
use Rattle.data_model.specs.Database.{table_rows}
use Rattle.data_model.proofs.Sums.{AreRows, AreTables}
use Rattle.sql_model.specs.Answers.{distinct_if, only_value}
use Rattle.scope_core.specs.Scope.{Place}
use Rattle.scope_core.specs.Environments.{World, Environment, Frame, Combination, frame_of, column_value, row_of, key_here}
use Rattle.scope_core.specs.Evaluation.{values_at, group_of, frames, value, values, all_hold, holds, rows, block_rows, choices, source_rows}
use Rattle.scope_core.specs.Width.{width, block_width, count_values}
use Rattle.scope_core.specs.Sound.{Seen, SeenRows, SeenGroup, SeenMember, SeenBlocks, widths, widths_at, output_seen, AreKeys, IsKeyOf, IsSound, IsSoundBlock, IsSoundScalar, IsSoundAggregate, AreSoundEntries, IsSoundSource, IsSoundValue, AreSoundValues}
use Rattle.scope_core.specs.Syntax.{RVal, Col, Key, Lit, Fun, Agg, Sub, Values, NoValues, ValueThen, NoCondition, ACondition, RSource, Table, View, Derived, Entries, NoEntries, EntryThen, RBlock, Select, RQuery, OfBlock, Set, Grouping, Plain, One, Keys}
use Rattle.scope_core.proofs.basics.Each.{Each-map, Each-filter, Each-distinct, Each-distinct_if, Each-flat_map, Each-combined}

-- ---- environments of rows as wide as the entries
abbrev pub FitsBlock : ℕ → Seen → Frame → Type 0
FitsBlock n (SeenRows ks) f = AreRows n ks f.rows
FitsBlock n (SeenMember ks) f = AreRows n ks f.rows
FitsBlock n (SeenGroup m ks) f = IsRow n m f.key

abbrev pub Fits : ℕ → SeenBlocks → Environment → Type 0
Fits n [] [] = Unit {0}
Fits n (l ∷ shape) (f ∷ env) = FitsBlock n l f × Fits n shape env
Fits n _ _ = ⊥

-- a world of n values, with tables and views as wide as they are said to be
pub record IsWorld (n : ℕ) (w : World) (IsTable IsView : ℕ → ℕ → Type 0) : Type 0 where
  pub lit : (k : ℕ) → literal_value w.reading k < n
  pub fun : (k : ℕ) (vs : List ℕ) → function_value w.reading k vs < n
  pub agg : (k : ℕ) (vs : List ℕ) → aggregate_value w.reading k vs < n
  pub table : (number k : ℕ) → IsTable number k → Each (IsRow n k) (table_rows w.db number)
  pub view : (place k : ℕ) → IsView place k → Each (IsRow n k) (get_or w.views place [])

Each-get : (n : ℕ) (row : Row) (i : ℕ) → AllBelow n row → i < length row → get_or row i 0 < n
Each-get n [] i h lt = absurd (omega arith)
Each-get n (v ∷ row) zero h lt = h.0
Each-get n (v ∷ row) (suc i) h lt = Each-get n row i h.1 (omega arith)

entry-small : (n : ℕ) (ks : List ℕ) (rs : List Row) (entry col : ℕ) → AreRows n ks rs → col < get_or ks entry 0 → get_or (row_of rs entry) col 0 < n
entry-small n [] rs entry col h lt = absurd (omega arith)
entry-small n (k ∷ ks) [] entry col h lt = absurd h
entry-small n (k ∷ ks) (r ∷ rs) zero col h lt = Each-get n r col h.0.small (omega (arith, lt, h.0.long))
entry-small n (k ∷ ks) (r ∷ rs) (suc entry) col h lt = entry-small n ks rs entry col h.1 lt

column-small : (n : ℕ) (shape : SeenBlocks) (env : Environment) (up entry col : ℕ) → Fits n shape env → col < get_or (widths_at shape up) entry 0 → column_value env up entry col < n
column-small n [] env up entry col h lt = absurd (omega arith)
column-small n (l ∷ shape) [] up entry col h lt = absurd h
column-small n (SeenRows ks ∷ shape) (f ∷ env) zero entry col h lt = entry-small n ks f.rows entry col h.0 lt
column-small n (SeenMember ks ∷ shape) (f ∷ env) zero entry col h lt = entry-small n ks f.rows entry col h.0 lt
column-small n (SeenGroup m ks ∷ shape) (f ∷ env) zero entry col h lt = absurd (omega arith)
column-small n (l ∷ shape) (f ∷ env) (suc up) entry col h lt = column-small n shape env up entry col h.1 lt

key-small : (n : ℕ) (shape : SeenBlocks) (env : Environment) (place : ℕ) → Fits n shape env → IsKeyOf shape place → get_or (key_here env) place 0 < n
key-small n [] env place h k = absurd k
key-small n (SeenRows ks ∷ shape) env place h k = absurd k
key-small n (SeenMember ks ∷ shape) env place h k = absurd k
key-small n (SeenGroup m ks ∷ shape) [] place h k = absurd h
key-small n (SeenGroup m ks ∷ shape) (f ∷ env) place h k = Each-get n f.key place h.0.small (omega (arith, k, h.0.long))

-- the columns of a group, in a combination
pub columns-fit : (n : ℕ) (ks : List ℕ) (columns : List Place) (c : List Row) → Each (λ k. k.1 < get_or ks k.0 0) columns → AreRows n ks c → IsRow n (length columns) (values_at columns c)
columns-fit n ks [] c h k = record { long = refl; small = tt }
columns-fit n ks (col ∷ columns) c h k =
    let r = columns-fit n ks columns c h.1 k in
    record { long = ap suc r.long; small = (entry-small n ks c col.0 col.1 k h.0, r.small) }

pub product-fit : (n : ℕ) (ks : List ℕ) (Rs : List (List Row)) → AreTables n ks Rs → Each (AreRows n ks) (product Rs)
product-fit n [] [] h = (tt, tt)
product-fit n [] (R ∷ Rs) h = absurd h
product-fit n (k ∷ ks) [] h = absurd h
product-fit n (k ∷ ks) (R ∷ Rs) h =
    Each-flat_map (IsRow n k) (AreRows n (k ∷ ks)) (λ b. map (λ bs. b ∷ bs) (product Rs))
    (λ b i. Each-map (AreRows n ks) (AreRows n (k ∷ ks)) (λ bs. b ∷ bs) (λ bs m. (i, m)) (product Rs) (product-fit n ks Rs h.1)) R h.0

pub keys-fit : (n : ℕ) (ks : List ℕ) (columns : List Place) (kept : List (List Row)) → Each (λ k. k.1 < get_or ks k.0 0) columns → Each (AreRows n ks) kept
    → Each (IsRow n (length columns)) (distinct (map (values_at columns) kept))
keys-fit n ks columns kept h each =
    Each-distinct (IsRow n (length columns)) (map (values_at columns) kept)
    (Each-map (AreRows n ks) (IsRow n (length columns)) (values_at columns) (λ c k. columns-fit n ks columns c h k) kept each)

frames-fit : (n : ℕ) (grouping : Grouping) (ks : List ℕ) (kept : List Combination) → AreKeys grouping ks → Each (AreRows n ks) kept
    → Each (FitsBlock n (output_seen grouping ks)) (frames grouping kept)
frames-fit n Plain ks kept h each = Each-map (AreRows n ks) (FitsBlock n (SeenRows ks)) frame_of (λ c k. k) kept each
frames-fit n One ks kept h each = (record { long = refl; small = tt }, tt)
frames-fit n (Keys columns) ks kept h each =
    Each-map (IsRow n (length columns)) (FitsBlock n (SeenGroup (length columns) ks)) (group_of columns kept) (λ k i. i)
    (distinct (map (values_at columns) kept)) (keys-fit n ks columns kept h each)

module _ (n : ℕ) (w : World) (IsTable IsView : ℕ → ℕ → Type 0) (ok : IsWorld n w IsTable IsView) where
  made-fit : (b : Bool) (k : ℕ) (keep : Frame → Bool) (made : Frame → Row) (l : Seen) (fs : List Frame)
      → ((g : Frame) → FitsBlock n l g → IsRow n k (made g)) → Each (FitsBlock n l) fs → Each (IsRow n k) (distinct_if b (map made (filter keep fs)))
  made-fit b k keep made l fs h each =
      Each-distinct_if (IsRow n k) b (map made (filter keep fs)) (Each-map (FitsBlock n l) (IsRow n k) made h (filter keep fs) (Each-filter (FitsBlock n l) keep fs each))

  mutual
    unfolding rows IsSound width

    pub rows-fit : (q : RQuery) (shape : SeenBlocks) (env : Environment) → IsSound IsTable IsView shape q → Fits n shape env → Each (IsRow n (width q)) (rows q w env)
    rows-fit (OfBlock block) shape env s f = block-fit block shape env s f
    rows-fit (Set op left right) shape env s f =
        Each-combined (IsRow n (width left)) op (rows left w env) (rows right w env) (rows-fit left shape env s.0 f)
        (subst (λ k. Each (IsRow n k) (rows right w env)) (sym s.2) (rows-fit right shape env s.1 f))

    pub block-fit : (b : RBlock) (shape : SeenBlocks) (env : Environment) → IsSoundBlock IsTable IsView shape b → Fits n shape env → Each (IsRow n (block_width b)) (block_rows b w env)
    block-fit (Select is_distinct s entries s' conds grouping having s'' items) shape env h f =
        let ks = widths entries in
        let all = product (choices entries w env) in
        let keep = λ (c : List Row). all_hold conds w (frame_of c ∷ env) in
        let each = Each-filter (AreRows n ks) keep all (product-fit n ks (choices entries w env) (choices-fit entries shape env h.0 f)) in
        made-fit is_distinct (count_values items) (λ g. holds having w (g ∷ env)) (λ g. values items w (g ∷ env)) (output_seen grouping ks) (frames grouping (filter keep all))
        (λ g i. values-fit items (output_seen grouping ks ∷ shape) (g ∷ env) h.3 (i, f)) (frames-fit n grouping ks (filter keep all) h.4 each)

    pub choices-fit : {m : _} (es : Entries m) (shape : SeenBlocks) (env : Environment) → AreSoundEntries IsTable IsView shape es → Fits n shape env → AreTables n (widths es) (choices es w env)
    choices-fit NoEntries shape env h f = tt
    choices-fit (EntryThen source wide rest) shape env h f = (source-fit source wide shape env h.0 f, choices-fit rest shape env h.1 f)

    pub source-fit : (s : RSource) (wide : ℕ) (shape : SeenBlocks) (env : Environment) → IsSoundSource IsTable IsView shape s wide → Fits n shape env → Each (IsRow n wide) (source_rows s w env)
    source-fit (Table number) wide shape env h f = ok.table number wide h
    source-fit (View place) wide shape env h f = ok.view place wide h
    source-fit (Derived query) wide shape env h f = subst (λ k. Each (IsRow n k) (rows query w env)) h.1 (rows-fit query shape env h.0 f)

    pub value-fit : (e : RVal) (shape : SeenBlocks) (env : Environment) → IsSoundValue IsTable IsView shape e → Fits n shape env → value e w env < n
    value-fit (Col up entry col) shape env h f = column-small n shape env up entry col f h
    value-fit (Lit lit) shape env h f = ok.lit lit
    value-fit (Fun sym s args) shape env h f = ok.fun sym (values args w env)
    value-fit (Key place) shape env h f = key-small n shape env place f h
    value-fit (Agg fun is_distinct argument) shape env h f = ok.agg _ _
    value-fit (Sub block) shape env h f = scalar-fit block shape env h.1

    pub scalar-fit : (b : RBlock) (shape : SeenBlocks) (env : Environment) → IsSoundScalar IsTable IsView shape b → only_value (block_rows b w env) < n
    scalar-fit (Select true s entries s' conds One NoCondition s'' items) shape env h = first-fit items (SeenGroup 0 (widths entries) ∷ shape) _ h.2
    scalar-fit (Select false s entries s' conds One NoCondition s'' items) shape env h = first-fit items (SeenGroup 0 (widths entries) ∷ shape) _ h.2
    scalar-fit (Select is_distinct s _ s' conds One (ACondition having) s'' items) shape env h = absurd h
    scalar-fit (Select is_distinct s _ s' conds Plain having s'' items) shape env h = absurd h
    scalar-fit (Select is_distinct s _ s' conds (Keys columns) having s'' items) shape env h = absurd h

    pub first-fit : {m : _} (es : Values m) (shape : SeenBlocks) (env : Environment) → IsSoundAggregate IsTable IsView shape es → get_or (values es w env) 0 0 < n
    first-fit NoValues shape env h = absurd h
    first-fit (ValueThen (Agg fun is_distinct argument) NoValues) shape env h = ok.agg _ _
    first-fit (ValueThen (Agg fun is_distinct argument) (ValueThen e rest)) shape env h = absurd h
    first-fit (ValueThen (Col up entry col) rest) shape env h = absurd h
    first-fit (ValueThen (Key place) rest) shape env h = absurd h
    first-fit (ValueThen (Lit lit) rest) shape env h = absurd h
    first-fit (ValueThen (Fun sym s args) rest) shape env h = absurd h
    first-fit (ValueThen (Sub block) rest) shape env h = absurd h

    pub values-fit : {m : _} (es : Values m) (shape : SeenBlocks) (env : Environment) → AreSoundValues IsTable IsView shape es → Fits n shape env → IsRow n (count_values es) (values es w env)
    values-fit NoValues shape env h f = record { long = refl; small = tt }
    values-fit (ValueThen e rest) shape env h f =
        let r = values-fit rest shape env h.1 f in
        record { long = ap suc r.long; small = (value-fit e shape env h.0 f, r.small) }
