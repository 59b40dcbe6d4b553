-- The points of a sound block are columns that its entries have, and literals.
use Rattle.std.proofs.Common.{◌≡◌, ℕ, zero, suc, ◌<◌, Bool, true, false, List, [], ◌∷◌, length, get_or, Some, ap, ◌∙◌, subst, arith}
use Rattle.scope_core.specs.Sound.{SeenRows, SeenBlocks, widths, IsSound, IsSoundValue, AreSoundValues, IsSoundCondition, AreSoundConditions, IsSoundAlone}
use Rattle.scope_core.specs.Syntax as r
use Rattle.scope_core.specs.Syntax.{RVal, RCond, Values, NoValues, ValueThen, Conditions, NoConditions, ConditionThen, Entries, NoEntries, EntryThen, Select, RQuery, OfBlock, Set}
use Rattle.shapes.specs.Options.{both_of}
use Rattle.shapes.specs.Shapes.{Point, column, literal, Mark, Entry, Shape, holds, fails, differ, entry_of, sides, In, first, later, MarkIn, here, there, AllIn, IsPoint, IsWhole}
use Rattle.block_shapes.specs.Blocks.{value_point, value_points, Said, equality, mark, condition_said, conditions_said, equalities_of, marks_of, table_entry, table_entries, shape_with, parts_shape, query_shape}
use Rattle.block_shapes.specs.Drawn.{ArePoints, IsDrawn}
use Rattle.block_shapes.proofs.ClassLaws.{some-same, none-some, both-some, map-some, then-some}

-- ---- entries
widths-are : {m : _} (entries : Entries m) (es : List Entry) (i : ℕ) → table_entries entries ≡ Some es → get_or (widths entries) i 0 ≡ (entry_of es i).columns
widths-are NoEntries es i e = ap (λ (l : List Entry). (entry_of l i).columns) (some-same [] es e)
widths-are (EntryThen (r.Table number) wide rest) es zero e =
    let k = map-some (λ l. table_entry number wide ∷ l) (table_entries rest) es e in ap (λ (l : List Entry). (entry_of l 0).columns) k.is
widths-are (EntryThen (r.Table number) wide rest) es (suc i) e =
    let k = map-some (λ l. table_entry number wide ∷ l) (table_entries rest) es e in
    widths-are rest k.x i k.from ∙ ap (λ (l : List Entry). (entry_of l (suc i)).columns) k.is
widths-are (EntryThen (r.View place) wide rest) es i e = absurd (none-some es e)
widths-are (EntryThen (r.Derived query) wide rest) es i e = absurd (none-some es e)

entry-in : (es : List Entry) (i c : ℕ) → c < (entry_of es i).columns → i < length es
entry-in [] i c h = absurd (omega (arith, h))
entry-in (e ∷ es) zero c h = omega arith
entry-in (e ∷ es) (suc i) c h = let k = entry-in es i c h in omega (arith, k)

-- ---- what is said of points that are there
abbrev IsSaidOf : List Entry → Said → Type 0
IsSaidOf es (equality p q) = IsPoint es p × IsPoint es q
IsSaidOf es (mark m) = ArePoints es m.points

abbrev AreSaidOf : List Entry → List Said → Type 0
AreSaidOf es [] = Unit {0}
AreSaidOf es (x ∷ xs) = IsSaidOf es x × AreSaidOf es xs

sides-are : (es : List Entry) (xs : List Said) → AreSaidOf es xs → (p : Point) → In p (sides (equalities_of xs)) → IsPoint es p
sides-are es [] h p i = elim i [ ]
sides-are es (equality a b ∷ xs) h p first = h.0.0
sides-are es (equality a b ∷ xs) h p (later first) = h.0.1
sides-are es (equality a b ∷ xs) h p (later (later i)) = sides-are es xs h.1 p i
sides-are es (mark m ∷ xs) h p i = sides-are es xs h.1 p i

marks-are : (es : List Entry) (xs : List Said) → AreSaidOf es xs → (m : Mark) → MarkIn m (marks_of xs) → ArePoints es m.points
marks-are es [] h m i = elim i [ ]
marks-are es (equality a b ∷ xs) h m i = marks-are es xs h.1 m i
marks-are es (mark n ∷ xs) h m here = h.0
marks-are es (mark n ∷ xs) h m (there i) = marks-are es xs h.1 m i

module _ (IsTable IsView : ℕ → ℕ → Type 0) {m : _} (entries : Entries m) (es : List Entry) (are : table_entries entries ≡ Some es) where
  abbrev seen : SeenBlocks
  seen = SeenRows (widths entries) ∷ []

  point-drawn : (value : RVal) (p : Point) → value_point value ≡ Some p → IsSoundValue IsTable IsView seen value → IsPoint es p
  unfolding IsSound
  point-drawn (r.Col zero entry c) p e h =
      let within : c < (entry_of es entry).columns = subst (λ n. c < n) (widths-are entries es entry are) h in
      subst (IsPoint es) (some-same (column entry c) p e) (entry-in es entry c within, within)
  point-drawn (r.Col (suc up) entry c) p e h = absurd (none-some p e)
  point-drawn (r.Lit a) p e h = subst (IsPoint es) (some-same (literal a) p e) tt
  point-drawn (r.Key place) p e h = absurd (none-some p e)
  point-drawn (r.Fun sym_ s args) p e h = absurd (none-some p e)
  point-drawn (r.Agg fun is_distinct argument) p e h = absurd (none-some p e)
  point-drawn (r.Sub b) p e h = absurd (none-some p e)

  points-drawn : {n : _} (values : Values n) (ps : List Point) → value_points values ≡ Some ps → AreSoundValues IsTable IsView seen values → ArePoints es ps
  unfolding IsSound
  points-drawn NoValues ps e h = subst (ArePoints es) (some-same [] ps e) tt
  points-drawn (ValueThen value rest) ps e h =
      let k = both-some (λ p qs. p ∷ qs) (value_point value) (value_points rest) ps e in
      subst (ArePoints es) k.is (point-drawn value k.x k.left h.0, points-drawn rest k.y k.right h.1)

  condition-drawn : (condition : RCond) (x : Said) → condition_said condition ≡ Some x → IsSoundCondition IsTable IsView seen condition → IsSaidOf es x
  unfolding IsSound
  condition-drawn (r.Eq left right) x e h =
      let k = both-some equality (value_point left) (value_point right) x e in
      subst (IsSaidOf es) k.is (point-drawn left k.x k.left h.0, point-drawn right k.y k.right h.1)
  condition-drawn (r.Pred symbol s args) x e h =
      let k = map-some (λ ps. mark (record { kind = holds symbol; points = ps })) (value_points args) x e in
      subst (IsSaidOf es) k.is (points-drawn args k.x k.from h)
  condition-drawn (r.Not (r.Eq left right)) x e h =
      let k = both-some (λ p q. mark (record { kind = differ; points = p ∷ q ∷ [] })) (value_point left) (value_point right) x e in
      subst (IsSaidOf es) k.is (point-drawn left k.x k.left h.0, (point-drawn right k.y k.right h.1, tt))
  condition-drawn (r.Not (r.Pred symbol s args)) x e h =
      let k = map-some (λ ps. mark (record { kind = fails symbol; points = ps })) (value_points args) x e in
      subst (IsSaidOf es) k.is (points-drawn args k.x k.from h)
  condition-drawn (r.And s parts) x e h = absurd (none-some x e)
  condition-drawn (r.Or s parts) x e h = absurd (none-some x e)
  condition-drawn (r.Exists query) x e h = absurd (none-some x e)
  condition-drawn (r.In left query) x e h = absurd (none-some x e)
  condition-drawn (r.Not (r.And s parts)) x e h = absurd (none-some x e)
  condition-drawn (r.Not (r.Or s parts)) x e h = absurd (none-some x e)
  condition-drawn (r.Not (r.Not part)) x e h = absurd (none-some x e)
  condition-drawn (r.Not (r.Exists query)) x e h = absurd (none-some x e)
  condition-drawn (r.Not (r.In left query)) x e h = absurd (none-some x e)

  conditions-drawn : {n : _} (conds : Conditions n) (xs : List Said) → conditions_said conds ≡ Some xs → AreSoundConditions IsTable IsView seen conds → AreSaidOf es xs
  unfolding IsSound
  conditions-drawn NoConditions xs e h = subst (AreSaidOf es) (some-same [] xs e) tt
  conditions-drawn (ConditionThen condition rest) xs e h =
      let k = both-some (λ y ys. y ∷ ys) (condition_said condition) (conditions_said rest) xs e in
      subst (AreSaidOf es) k.is (condition-drawn condition k.x k.left h.0, conditions-drawn rest k.y k.right h.1)

parts-drawn : (IsTable IsView : ℕ → ℕ → Type 0) {m m' m'' : _} (entries : Entries m) (conds : Conditions m') (items : Values m'') (s : Shape) → parts_shape entries conds items ≡ Some s
    → AreSoundConditions IsTable IsView (SeenRows (widths entries) ∷ []) conds → AreSoundValues IsTable IsView (SeenRows (widths entries) ∷ []) items → IsDrawn s
parts-drawn IsTable IsView entries conds items s e sound_conds sound_items =
    let k = then-some (λ es. both_of (shape_with es) (conditions_said conds) (value_points items)) (table_entries entries) s e in
    let b = both-some (shape_with k.x) (conditions_said conds) (value_points items) s k.is in
    let said = conditions-drawn IsTable IsView entries k.x k.from conds b.x b.left sound_conds in
    let outputs = points-drawn IsTable IsView entries k.x k.from items b.y b.right sound_items in
    subst IsDrawn b.is (record { sides_are = sides-are k.x b.x said; marks_are = marks-are k.x b.x said; outputs_are = outputs })

shape-drawn : (IsTable IsView : ℕ → ℕ → Type 0) (is_distinct : Bool) (tree : RQuery) (s : Shape) → query_shape is_distinct tree ≡ Some s → IsSound IsTable IsView [] tree → IsDrawn s
unfolding query_shape IsSound
shape-drawn T V false (OfBlock (Select false t es t' conds r.Plain r.NoCondition t'' items)) s e h = parts-drawn T V es conds items s e h.1 h.3
shape-drawn T V true (OfBlock (Select true t es t' conds r.Plain r.NoCondition t'' items)) s e h = parts-drawn T V es conds items s e h.1 h.3
shape-drawn T V false (OfBlock (Select false t es t' conds r.Plain (r.ACondition c) t'' items)) s e h = absurd (none-some s e)
shape-drawn T V false (OfBlock (Select false t es t' conds r.One having t'' items)) s e h = absurd (none-some s e)
shape-drawn T V false (OfBlock (Select false t es t' conds (r.Keys columns) having t'' items)) s e h = absurd (none-some s e)
shape-drawn T V false (OfBlock (Select true t es t' conds grouping having t'' items)) s e h = absurd (none-some s e)
shape-drawn T V true (OfBlock (Select true t es t' conds r.Plain (r.ACondition c) t'' items)) s e h = absurd (none-some s e)
shape-drawn T V true (OfBlock (Select true t es t' conds r.One having t'' items)) s e h = absurd (none-some s e)
shape-drawn T V true (OfBlock (Select true t es t' conds (r.Keys columns) having t'' items)) s e h = absurd (none-some s e)
shape-drawn T V true (OfBlock (Select false t es t' conds grouping having t'' items)) s e h = absurd (none-some s e)
shape-drawn T V false (Set op left right) s e h = absurd (none-some s e)
shape-drawn T V true (Set op left right) s e h = absurd (none-some s e)

-- ---- so it is whole
all-in : (es : List Entry) (ps : List Point) → ArePoints es ps → AllIn (length es) ps
all-in es [] h = tt
all-in es (column e c ∷ ps) h = (h.0.0, all-in es ps h.1)
all-in es (literal a ∷ ps) h = (tt, all-in es ps h.1)

pub drawn-whole : (s : Shape) → IsDrawn s → IsWhole s
drawn-whole s h = record {
  shape = record { outputs_in = all-in s.entries s.outputs h.outputs_are; marks_in = λ m i. all-in s.entries m.points (h.marks_are m i) };
  sides_in = h.sides_are;
}

pub alone-drawn : (is_distinct : Bool) (tree : RQuery) (s : Shape) → query_shape is_distinct tree ≡ Some s → IsSoundAlone tree → IsDrawn s
alone-drawn is_distinct tree s e sound = shape-drawn (λ number wide. Unit {0}) (λ place wide. Unit {0}) is_distinct tree s e sound

pub ruleset laws = (alone-drawn)
