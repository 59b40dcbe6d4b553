-- The shapes of the blocks of resolved trees. A block has a shape where it has no grouping and no HAVING, its sources are base tables, its
-- items are columns and literals, and its conditions are equalities and predicates of columns and literals, each bare or directly under NOT.
use Rattle.std.specs.Prelude.{ℕ, zero, Bool, true, false, List, [], ◌∷◌, ◌++◌, Option, Some, None, option_map, option_and_then}
use Rattle.sql_model.specs.Syntax.{UnionAll}
use Rattle.scope_core.specs.Syntax.{RVal, Col, Lit, Values, NoValues, ValueThen, RCond, Eq, Pred, Not, Conditions, NoConditions, ConditionThen, NoCondition, Table, Entries, NoEntries, EntryThen, RBlock, Select, RQuery, OfBlock, Set, Plain}
use Rattle.shapes.specs.Options.{both_of}
use Rattle.shapes.specs.Shapes.{Point, column, literal, holds, fails, differ, Mark, Entry, Shape}

-- ---- points: columns of the block's own entries, and literals
abbrev pub value_point : RVal → Option Point
value_point (Col zero entry c) = Some (column entry c)
value_point (Lit number) = Some (literal number)
value_point _ = None

abbrev pub value_points : {m : _} → Values m → Option (List Point)
value_points NoValues = Some []
value_points (ValueThen value rest) = both_of (λ p ps. p ∷ ps) (value_point value) (value_points rest)

-- ---- conditions: each is an equality or a mark
pub data Said : Type 0 where
  equality : Point → Point → Said
  mark : Mark → Said

abbrev pub condition_said : RCond → Option Said
condition_said (Eq left right) = both_of equality (value_point left) (value_point right)
condition_said (Pred symbol s args) = option_map (λ ps. mark (record { kind = holds symbol; points = ps })) (value_points args)
condition_said (Not (Eq left right)) = both_of (λ p q. mark (record { kind = differ; points = p ∷ q ∷ [] })) (value_point left) (value_point right)
condition_said (Not (Pred symbol s args)) = option_map (λ ps. mark (record { kind = fails symbol; points = ps })) (value_points args)
condition_said _ = None

abbrev pub conditions_said : {m : _} → Conditions m → Option (List Said)
conditions_said NoConditions = Some []
conditions_said (ConditionThen condition rest) = both_of (λ c cs. c ∷ cs) (condition_said condition) (conditions_said rest)

abbrev pub equalities_of : List Said → List (Point × Point)
equalities_of [] = []
equalities_of (equality p q ∷ said) = (p, q) ∷ equalities_of said
equalities_of (mark m ∷ said) = equalities_of said

abbrev pub marks_of : List Said → List Mark
marks_of [] = []
marks_of (equality p q ∷ said) = marks_of said
marks_of (mark m ∷ said) = m ∷ marks_of said

-- ---- entries: base tables
abbrev pub table_entry : ℕ → ℕ → Entry
table_entry number wide = record { table = number; columns = wide }

abbrev pub table_entries : {m : _} → Entries m → Option (List Entry)
table_entries NoEntries = Some []
table_entries (EntryThen (Table number) wide rest) = option_map (λ es. table_entry number wide ∷ es) (table_entries rest)
table_entries _ = None

-- ---- blocks
abbrev pub shape_with : List Entry → List Said → List Point → Shape
shape_with entries said outputs = record { entries = entries; equalities = equalities_of said; marks = marks_of said; outputs = outputs }

abbrev pub parts_shape : {m m' m'' : _} → Entries m → Conditions m' → Values m'' → Option Shape
parts_shape entries conds items = option_and_then (λ es. both_of (shape_with es) (conditions_said conds) (value_points items)) (table_entries entries)

-- of a block with DISTINCT, or of one without
abbrev pub block_shape : Bool → RBlock → Option Shape
block_shape true (Select true s entries s' conds Plain NoCondition s'' items) = parts_shape entries conds items
block_shape false (Select false s entries s' conds Plain NoCondition s'' items) = parts_shape entries conds items
block_shape _ _ = None

-- ---- queries
-- of one block
unfoldable pub query_shape : Bool → RQuery → Option Shape
query_shape is_distinct (OfBlock block) = block_shape is_distinct block
query_shape is_distinct (Set op left right) = None

-- of the blocks of a UNION ALL, in order
unfoldable pub union_shapes : RQuery → Option (List Shape)
union_shapes (OfBlock block) = option_map (λ s. s ∷ []) (block_shape false block)
union_shapes (Set UnionAll left right) = both_of (λ ss ts. ss ++ ts) (union_shapes left) (union_shapes right)
union_shapes _ = None
