-- Which classes lie in which.
use Rattle.std.proofs.Common.{◌≡◌, Bool, true, false, List, [], ◌∷◌, Option, Some, None, refl, ap, sym, ◌∙◌, subst}
use Rattle.std.specs.Prelude.{◌&&◌, option_map, option_and_then, unwrap_or}
use Rattle.scope_core.specs.Plain.{is_tree_point, are_tree_points, is_tree_equality, are_tree_equalities, are_tree_tables, is_plain_tree}
use Rattle.scope_core.specs.Syntax as r
use Rattle.scope_core.specs.Syntax.{RVal, RCond, Values, NoValues, ValueThen, Conditions, NoConditions, ConditionThen, Entries, NoEntries, EntryThen, RBlock, Select, RQuery, OfBlock, Set}
use Rattle.shapes.specs.Options.{both_of}
use Rattle.shapes.specs.Shapes.{Point, Mark, Entry, Shape, holds, fails, differ}
use Rattle.block_shapes.specs.Blocks.{value_point, value_points, Said, equality, mark, condition_said, conditions_said, marks_of, table_entry, table_entries, shape_with, parts_shape, query_shape, union_shapes}
use Rattle.block_shapes.specs.Classes.{BlockOf, FilteredUnion, PlainOf}

-- ---- values that are there
pub some-same : {X : Type 0} (x y : X) → (let o : Option X = Some x in o) ≡ Some y → x ≡ y
some-same x y e = ap (λ o. unwrap_or o y) e

abbrev IsSome : {X : Type 0} → Option X → Type 0
IsSome None = ⊥
IsSome (Some x) = Unit {0}

pub none-some : {X : Type 0} (x : X) → (let o : Option X = None in o) ≡ Some x → ⊥
none-some x e = subst IsSome (sym e) tt

pub record Both {X Y Z : Type 0} (f : X → Y → Z) (a : Option X) (b : Option Y) (z : Z) : Type 0 where
  pub x : X
  pub y : Y
  pub left : a ≡ Some x
  pub right : b ≡ Some y
  pub is : f x y ≡ z

pub both-some : {X Y Z : Type 0} (f : X → Y → Z) (a : Option X) (b : Option Y) (z : Z) → both_of f a b ≡ Some z → Both f a b z
both-some f (Some x) (Some y) z e = record { x = x; y = y; left = refl; right = refl; is = some-same (f x y) z e }
both-some f None b z e = absurd (none-some z e)
both-some f (Some x) None z e = absurd (none-some z e)

pub record Mapped {X Z : Type 0} (f : X → Z) (a : Option X) (z : Z) : Type 0 where
  pub x : X
  pub from : a ≡ Some x
  pub is : f x ≡ z

pub map-some : {X Z : Type 0} (f : X → Z) (a : Option X) (z : Z) → option_map f a ≡ Some z → Mapped f a z
map-some f (Some x) z e = record { x = x; from = refl; is = some-same (f x) z e }
map-some f None z e = absurd (none-some z e)

pub then-some : {X Z : Type 0} (f : X → Option Z) (a : Option X) (z : Z) → option_and_then f a ≡ Some z → Mapped f a (Some z)
then-some f (Some x) z e = record { x = x; from = refl; is = e }
then-some f None z e = absurd (none-some z e)

-- ---- a filtered block is a union of one
pub filtered-union : (tree : RQuery) → BlockOf false tree → FilteredUnion tree
unfolding query_shape union_shapes
filtered-union (OfBlock block) h = record { shapes = h.shape ∷ []; are = ap (option_map (λ s. s ∷ [])) h.is }
filtered-union (Set op left right) h = absurd (none-some h.shape h.is)

-- ---- a block without marks is plain
both-true : (a b : Bool) → a ≡ true → b ≡ true → (a && b) ≡ true
both-true a b e d = ap (λ x. x && b) e ∙ d

point-plain : (value : RVal) (p : Point) → value_point value ≡ Some p → is_tree_point value ≡ true
point-plain (r.Col up entry c) p e = refl
point-plain (r.Lit a) p e = refl
point-plain (r.Key place) p e = absurd (none-some p e)
point-plain (r.Fun sym_ s args) p e = absurd (none-some p e)
point-plain (r.Agg fun is_distinct argument) p e = absurd (none-some p e)
point-plain (r.Sub b) p e = absurd (none-some p e)

points-plain : {m : _} (values : Values m) (ps : List Point) → value_points values ≡ Some ps → are_tree_points values ≡ true
points-plain NoValues ps e = refl
points-plain (ValueThen value rest) ps e =
    let k = both-some (λ p ps. p ∷ ps) (value_point value) (value_points rest) ps e in
    both-true (is_tree_point value) (are_tree_points rest) (point-plain value k.x k.left) (points-plain rest k.y k.right)

abbrev IsEquality : Said → Type 0
IsEquality (equality p q) = Unit {0}
IsEquality (mark m) = ⊥

condition-plain : (condition : RCond) (x : Said) → condition_said condition ≡ Some x → IsEquality x → is_tree_equality condition ≡ true
condition-plain (r.Eq left right) x e h =
    let k = both-some equality (value_point left) (value_point right) x e in
    both-true (is_tree_point left) (is_tree_point right) (point-plain left k.x k.left) (point-plain right k.y k.right)
condition-plain (r.Pred symbol s args) x e h =
    let k = map-some (λ ps. mark (record { kind = holds symbol; points = ps })) (value_points args) x e in absurd (subst IsEquality (sym k.is) h)
condition-plain (r.Not (r.Eq left right)) x e h =
    let k = both-some (λ p q. mark (record { kind = differ; points = p ∷ q ∷ [] })) (value_point left) (value_point right) x e in absurd (subst IsEquality (sym k.is) h)
condition-plain (r.Not (r.Pred symbol s args)) x e h =
    let k = map-some (λ ps. mark (record { kind = fails symbol; points = ps })) (value_points args) x e in absurd (subst IsEquality (sym k.is) h)
condition-plain (r.And s parts) x e h = absurd (none-some x e)
condition-plain (r.Or s parts) x e h = absurd (none-some x e)
condition-plain (r.Exists query) x e h = absurd (none-some x e)
condition-plain (r.In left query) x e h = absurd (none-some x e)
condition-plain (r.Not (r.And s parts)) x e h = absurd (none-some x e)
condition-plain (r.Not (r.Or s parts)) x e h = absurd (none-some x e)
condition-plain (r.Not (r.Not part)) x e h = absurd (none-some x e)
condition-plain (r.Not (r.Exists query)) x e h = absurd (none-some x e)
condition-plain (r.Not (r.In left query)) x e h = absurd (none-some x e)

abbrev IsNone : List Mark → Type 0
IsNone [] = Unit {0}
IsNone (m ∷ ms) = ⊥

first-equality : (x : Said) (xs : List Said) → IsNone (marks_of (x ∷ xs)) → IsEquality x × IsNone (marks_of xs)
first-equality (equality p q) xs h = (tt, h)
first-equality (mark m) xs h = absurd h

conditions-plain : {m : _} (conds : Conditions m) (xs : List Said) → conditions_said conds ≡ Some xs → IsNone (marks_of xs) → are_tree_equalities conds ≡ true
conditions-plain NoConditions xs e h = refl
conditions-plain (ConditionThen condition rest) xs e h =
    let k = both-some (λ c cs. c ∷ cs) (condition_said condition) (conditions_said rest) xs e in
    let both = first-equality k.x k.y (subst (λ (l : List Said). IsNone (marks_of l)) (sym k.is) h) in
    both-true (is_tree_equality condition) (are_tree_equalities rest) (condition-plain condition k.x k.left both.0) (conditions-plain rest k.y k.right both.1)

entries-plain : {m : _} (entries : Entries m) (es : List Entry) → table_entries entries ≡ Some es → are_tree_tables entries ≡ true
entries-plain NoEntries es e = refl
entries-plain (EntryThen (r.Table number) wide rest) es e = let k = map-some (λ l. table_entry number wide ∷ l) (table_entries rest) es e in entries-plain rest k.x k.from
entries-plain (EntryThen (r.View place) wide rest) es e = absurd (none-some es e)
entries-plain (EntryThen (r.Derived query) wide rest) es e = absurd (none-some es e)

parts-plain : {m m' m'' : _} (entries : Entries m) (conds : Conditions m') (items : Values m'') (s : Shape) → parts_shape entries conds items ≡ Some s → IsNone s.marks
    → (are_tree_tables entries && are_tree_equalities conds && are_tree_points items) ≡ true
parts-plain entries conds items s e h =
    let k = then-some (λ es. both_of (shape_with es) (conditions_said conds) (value_points items)) (table_entries entries) s e in
    let b = both-some (shape_with k.x) (conditions_said conds) (value_points items) s k.is in
    let unmarked : IsNone (marks_of b.x) = subst (λ (t : Shape). IsNone t.marks) (sym b.is) h in
    both-true (are_tree_tables entries && are_tree_equalities conds) (are_tree_points items)
    (both-true (are_tree_tables entries) (are_tree_equalities conds) (entries-plain entries k.x k.from) (conditions-plain conds b.x b.left unmarked))
    (points-plain items b.y b.right)

pub unmarked-plain : (tree : RQuery) → PlainOf false tree → is_plain_tree tree ≡ true
unfolding query_shape
unmarked-plain (OfBlock (Select false s es s' conds r.Plain r.NoCondition s'' items)) h =
    parts-plain es conds items h.block.shape h.block.is (subst IsNone (sym h.unmarked) tt)
unmarked-plain (OfBlock (Select false s es s' conds r.Plain (r.ACondition c) s'' items)) h = absurd (none-some h.block.shape h.block.is)
unmarked-plain (OfBlock (Select false s es s' conds r.One having s'' items)) h = absurd (none-some h.block.shape h.block.is)
unmarked-plain (OfBlock (Select false s es s' conds (r.Keys columns) having s'' items)) h = absurd (none-some h.block.shape h.block.is)
unmarked-plain (OfBlock (Select true s es s' conds grouping having s'' items)) h = absurd (none-some h.block.shape h.block.is)
unmarked-plain (Set op left right) h = absurd (none-some h.block.shape h.block.is)

pub ruleset laws = (filtered-union, unmarked-plain)
