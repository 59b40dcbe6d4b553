-- What the proofs about resolved trees ask of a query: every column is found, and what is no value or no condition stands where none is wanted.
-- A well-formed query has it.
use Rattle.std.specs.Prelude.{ℕ, suc, ◌<◌, nat_eq, if◌then◌else◌, true, List, [], ◌∷◌, length, ◌≡◌, Option, Some, None}
use Rattle.sql_model.specs.Syntax as n
use Rattle.sql_model.specs.Syntax.{Name}
use Rattle.sql_model.specs.Headings.{Heading, output_columns, headings, source_columns}
use Rattle.sql_model.specs.Grouping.{is_one_group}
use Rattle.scope_core.specs.Scope.{Place, is_among_places, Sight, AsRows, AsMember, AsGroup, Level, Levels, place_in, place_at, rows_level, output_level, on_level, no_entry, member_levels, grouping_of}
use Rattle.scope_core.specs.Faults.{is_group, is_scalar}

-- how many columns entry e has, where the headings begin at entry k
abbrev pub width_in : ℕ → ℕ → List Heading → ℕ
width_in e k [] = 0
width_in e k (h ∷ hs) = if nat_eq e k then length h.columns else width_in e (suc k) hs

-- A column is found. Where the block is seen as a group, it is one of the group's; else its entry has it.
abbrev pub IsFound : Sight → Level → Option Place → Type 0 → Type 0
IsFound sight l None further = further
IsFound AsRows l (Some p) further = p.1 < width_in p.0 l.first l.headings
IsFound AsMember l (Some p) further = p.1 < width_in p.0 l.first l.headings
IsFound (AsGroup columns) l (Some p) further = is_among_places p columns ≡ true

abbrev pub ResolvableColumn : Option Name → Name → Levels → Type 0
ResolvableColumn qual name [] = ⊥
ResolvableColumn qual name (l ∷ ls) = IsFound l.sight l (place_at qual name l) (ResolvableColumn qual name ls)

abbrev pub IsGroupLevel : Levels → Type 0
IsGroupLevel [] = ⊥
IsGroupLevel (l ∷ ls) = is_group l.sight ≡ true

-- outside the items and HAVING of grouped blocks
abbrev pub IsRowLevel : Levels → Type 0
IsRowLevel [] = Unit {0}
IsRowLevel (l ∷ ls) = l.sight ≡ AsRows

-- a column of this block
abbrev pub ResolvableKey : n.Expr → List Heading → Type 0
ResolvableKey (n.Col qual qual_at name at) hs = (p : Place) × (place_in qual name 0 hs ≡ Some p) × (p.1 < width_in p.0 0 hs)
ResolvableKey _ hs = ⊥

abbrev pub ResolvableKeys : {m : _} → n.Exprs m → List Heading → Type 0
ResolvableKeys n.NoExprs hs = Unit {0}
ResolvableKeys (n.ExprThen expr rest) hs = ResolvableKey expr hs × ResolvableKeys rest hs

abbrev pub ResolvableGroupBy : n.MaybeGroupBy → List Heading → Type 0
ResolvableGroupBy n.NoGroupBy hs = Unit {0}
ResolvableGroupBy (n.GroupBy s keys) hs = ResolvableKeys keys hs

unfoldable mutual
  -- the headings are those of the relations
  pub Resolvable : n.Query → List Heading → Levels → Type 0
  Resolvable (n.OfBlock block) hs ls = ResolvableBlock block hs ls
  Resolvable (n.Set op left right at) hs ls = Resolvable left hs ls × Resolvable right hs ls × (length (output_columns left hs) ≡ length (output_columns right hs))

  pub ResolvableBlock : n.Block → List Heading → Levels → Type 0
  ResolvableBlock (n.Select is_distinct s items s' from where_condition group_by having) hs ls =
      let H = headings from hs in
      let out = output_level H (grouping_of group_by (is_one_group items having) H) in
      ResolvableEntries from 0 no_entry hs ls × ResolvableWritten where_condition hs (rows_level H ∷ ls) × ResolvableGroupBy group_by H
      × ResolvableWritten having hs (out ∷ ls) × ResolvableItems items hs (out ∷ ls)

  pub ResolvableEntries : {m : _} → n.Entries m → ℕ → Level → List Heading → Levels → Type 0
  ResolvableEntries n.NoEntries place l hs ls = Unit {0}
  ResolvableEntries (n.EntryThen source alias at joined on rest) place l hs ls =
      let next = on_level joined l place (record { alias = alias; columns = source_columns source hs }) in
      ResolvableSource source hs ls × ResolvableWritten on hs (next ∷ ls) × ResolvableEntries rest (suc place) next hs ls

  pub ResolvableSource : n.Source → List Heading → Levels → Type 0
  ResolvableSource (n.Named name at) hs ls = Unit {0}
  ResolvableSource (n.Derived query) hs ls = Resolvable query hs ls

  pub ResolvableWritten : n.MaybeCondition → List Heading → Levels → Type 0
  ResolvableWritten n.NoCondition hs ls = Unit {0}
  ResolvableWritten (n.ACondition expr) hs ls = ResolvableCondition expr hs ls

  pub ResolvableItems : {m : _} → n.Items m → List Heading → Levels → Type 0
  ResolvableItems n.NoItems hs ls = Unit {0}
  ResolvableItems (n.ItemThen item rest) hs ls = ResolvableItem item hs ls × ResolvableItems rest hs ls

  pub ResolvableItem : n.Item → List Heading → Levels → Type 0
  ResolvableItem (n.Value expr name) hs ls = ResolvableValue expr hs ls
  ResolvableItem _ hs ls = IsRowLevel ls

  pub ResolvableValue : n.Expr → List Heading → Levels → Type 0
  ResolvableValue (n.Col qual qual_at name at) hs ls = ResolvableColumn qual name ls
  ResolvableValue (n.Lit lit at) hs ls = Unit {0}
  ResolvableValue (n.Fun sym s args at) hs ls = ResolvableValues args hs ls
  ResolvableValue (n.Call sym s args at) hs ls = ResolvableValues args hs ls
  ResolvableValue (n.Agg fun is_distinct argument at) hs ls = IsGroupLevel ls × ResolvableArgument argument hs (member_levels ls)
  ResolvableValue (n.Sub query at) hs ls = IsRowLevel ls × ResolvableScalar query hs ls
  ResolvableValue _ hs ls = ⊥

  pub ResolvableValues : {m : _} → n.Exprs m → List Heading → Levels → Type 0
  ResolvableValues n.NoExprs hs ls = Unit {0}
  ResolvableValues (n.ExprThen expr rest) hs ls = ResolvableValue expr hs ls × ResolvableValues rest hs ls

  pub ResolvableArgument : n.MaybeArgument → List Heading → Levels → Type 0
  ResolvableArgument n.NoArgument hs ls = Unit {0}
  ResolvableArgument (n.AnArgument expr) hs ls = ResolvableValue expr hs ls

  -- one group with one item, an aggregate, and nothing that leaves its row out
  pub ResolvableScalar : n.Query → List Heading → Levels → Type 0
  ResolvableScalar (n.OfBlock block) hs ls = ResolvableBlock block hs ls × (is_scalar (n.OfBlock block) ≡ true)
  ResolvableScalar (n.Set op left right at) hs ls = ⊥

  pub ResolvableCondition : n.Expr → List Heading → Levels → Type 0
  ResolvableCondition (n.Pred sym s args at) hs ls = ResolvableValues args hs ls
  ResolvableCondition (n.Call sym s args at) hs ls = ResolvableValues args hs ls
  ResolvableCondition (n.Eq left right at) hs ls = ResolvableValue left hs ls × ResolvableValue right hs ls
  ResolvableCondition (n.And s parts at) hs ls = ResolvableConditions parts hs ls
  ResolvableCondition (n.Or s parts at) hs ls = ResolvableConditions parts hs ls
  ResolvableCondition (n.Not part at) hs ls = ResolvableCondition part hs ls
  ResolvableCondition (n.Exists query at) hs ls = IsRowLevel ls × Resolvable query hs ls
  ResolvableCondition (n.In left query at in_at) hs ls = IsRowLevel ls × ResolvableValue left hs ls × Resolvable query hs ls × (length (output_columns query hs) ≡ 1)
  ResolvableCondition _ hs ls = ⊥

  pub ResolvableConditions : {m : _} → n.Exprs m → List Heading → Levels → Type 0
  ResolvableConditions n.NoExprs hs ls = Unit {0}
  ResolvableConditions (n.ExprThen expr rest) hs ls = ResolvableCondition expr hs ls × ResolvableConditions rest hs ls
