-- A sound plain tree is a block without marks.
use Rattle.std.proofs.Common.{◌≡◌, ℕ, zero, suc, ◌+◌, ◌<◌, Bool, true, false, List, [], ◌∷◌, get_or, Option, Some, refl, ap, sym, ◌∙◌, subst, arith}
use Rattle.std.specs.Prelude.{◌&&◌, option_map, option_and_then}
use Rattle.scope_core.specs.Plain.{is_tree_point, are_tree_points, is_tree_equality, are_tree_equalities, are_tree_tables, is_plain_tree}
use Rattle.scope_core.specs.Sound.{SeenRows, SeenBlocks, widths, IsSound, IsSoundValue, AreSoundValues, IsSoundCondition, AreSoundConditions, IsSoundAlone}
use Rattle.scope_core.specs.Syntax as r
use Rattle.scope_core.specs.Syntax.{RVal, RCond, Values, NoValues, ValueThen, Conditions, NoConditions, ConditionThen, Entries, NoEntries, EntryThen, Select, RQuery, OfBlock, Set}
use Rattle.shapes.specs.Options.{both_of}
use Rattle.shapes.specs.Shapes.{Point, column, literal, Entry, Shape}
use Rattle.block_shapes.specs.Blocks.{value_point, value_points, Said, equality, condition_said, conditions_said, marks_of, table_entry, table_entries, shape_with, parts_shape, query_shape}
use Rattle.block_shapes.specs.Classes.{BlockOf, PlainOf}

false-true : {A : Type 0} → false ≡ true → A
false-true e = absurd (grind arith)

both-are : (a b : Bool) → (a && b) ≡ true → (a ≡ true) × (b ≡ true)
both-are true b h = (refl, h)
both-are false b h = false-true h

-- what is there
record Is {X : Type 0} (o : Option X) : Type 0 where
  value : X
  is : o ≡ Some value

both-is : {X Y Z : Type 0} (f : X → Y → Z) (a : Option X) (b : Option Y) (x : X) (y : Y) → a ≡ Some x → b ≡ Some y → both_of f a b ≡ Some (f x y)
both-is f a b x y e d = ap (λ o. both_of f o b) e ∙ ap (λ o. both_of f (Some x) o) d

entries-are : {m : _} (entries : Entries m) → are_tree_tables entries ≡ true → Is (table_entries entries)
entries-are NoEntries h = record { value = []; is = refl }
entries-are (EntryThen (r.Table number) wide rest) h =
    let k = entries-are rest h in record { value = table_entry number wide ∷ k.value; is = ap (option_map (λ l. table_entry number wide ∷ l)) k.is }
entries-are (EntryThen (r.View place) wide rest) h = false-true h
entries-are (EntryThen (r.Derived query) wide rest) h = false-true h

-- a block that stands by itself sees its own entries alone
module _ (T V : ℕ → ℕ → Type 0) (ks : List ℕ) where
  point-is : (value : RVal) → is_tree_point value ≡ true → IsSoundValue T V (SeenRows ks ∷ []) value → Is (value_point value)
  unfolding IsSound
  point-is (r.Col zero entry c) h sound = record { value = column entry c; is = refl }
  point-is (r.Col (suc up) entry c) h sound = absurd (omega (arith, sound))
  point-is (r.Lit a) h sound = record { value = literal a; is = refl }
  point-is (r.Key place) h sound = false-true h
  point-is (r.Fun sym_ s args) h sound = false-true h
  point-is (r.Agg fun is_distinct argument) h sound = false-true h
  point-is (r.Sub b) h sound = false-true h

  points-are : {m : _} (values : Values m) → are_tree_points values ≡ true → AreSoundValues T V (SeenRows ks ∷ []) values → Is (value_points values)
  unfolding IsSound
  points-are NoValues h sound = record { value = []; is = refl }
  points-are (ValueThen value rest) h sound =
      let parts = both-are (is_tree_point value) (are_tree_points rest) h in
      let one = point-is value parts.0 sound.0 in
      let more = points-are rest parts.1 sound.1 in
      record { value = one.value ∷ more.value; is = both-is (λ p ps. p ∷ ps) (value_point value) (value_points rest) one.value more.value one.is more.is }

  -- conditions that are equalities, and no marks
  record AreEqualities {m : _} (conds : Conditions m) : Type 0 where
    said : List Said
    is : conditions_said conds ≡ Some said
    unmarked : marks_of said ≡ []

  condition-is : (condition : RCond) → is_tree_equality condition ≡ true → IsSoundCondition T V (SeenRows ks ∷ []) condition
      → (p : Point) × ((q : Point) × (condition_said condition ≡ Some (equality p q)))
  unfolding IsSound
  condition-is (r.Eq left right) h sound =
      let parts = both-are (is_tree_point left) (is_tree_point right) h in
      let one = point-is left parts.0 sound.0 in
      let other = point-is right parts.1 sound.1 in
      (one.value, (other.value, both-is equality (value_point left) (value_point right) one.value other.value one.is other.is))
  condition-is (r.Pred symbol s args) h sound = false-true h
  condition-is (r.And s parts) h sound = false-true h
  condition-is (r.Or s parts) h sound = false-true h
  condition-is (r.Not part) h sound = false-true h
  condition-is (r.Exists query) h sound = false-true h
  condition-is (r.In left query) h sound = false-true h

  conditions-are : {m : _} (conds : Conditions m) → are_tree_equalities conds ≡ true → AreSoundConditions T V (SeenRows ks ∷ []) conds → AreEqualities conds
  unfolding IsSound
  conditions-are NoConditions h sound = record { said = []; is = refl; unmarked = refl }
  conditions-are (ConditionThen condition rest) h sound =
      let parts = both-are (is_tree_equality condition) (are_tree_equalities rest) h in
      let one = condition-is condition parts.0 sound.0 in
      let more = conditions-are rest parts.1 sound.1 in
      record {
        said = equality one.0 one.1.0 ∷ more.said;
        is = both-is (λ c cs. c ∷ cs) (condition_said condition) (conditions_said rest) (equality one.0 one.1.0) more.said one.1.1 more.is;
        unmarked = more.unmarked;
      }

parts-are : (T V : ℕ → ℕ → Type 0) {m m' m'' : _} (entries : Entries m) (conds : Conditions m') (items : Values m'')
    → (are_tree_tables entries && are_tree_equalities conds && are_tree_points items) ≡ true
    → AreSoundConditions T V (SeenRows (widths entries) ∷ []) conds → AreSoundValues T V (SeenRows (widths entries) ∷ []) items
    → (s : Shape) × ((parts_shape entries conds items ≡ Some s) × (s.marks ≡ []))
parts-are T V entries conds items h sound_conds sound_items =
    let two = both-are (are_tree_tables entries && are_tree_equalities conds) (are_tree_points items) h in
    let one = both-are (are_tree_tables entries) (are_tree_equalities conds) two.0 in
    let es = entries-are entries one.0 in
    let xs = conditions-are T V (widths entries) conds one.1 sound_conds in
    let ps = points-are T V (widths entries) items two.1 sound_items in (
      shape_with es.value xs.said ps.value,
      (
        ap (option_and_then (λ l. both_of (shape_with l) (conditions_said conds) (value_points items))) es.is
            ∙ both-is (shape_with es.value) (conditions_said conds) (value_points items) xs.said ps.value xs.is ps.is,
        xs.unmarked,
      ),
    )

pub plain-unmarked : (tree : RQuery) → is_plain_tree tree ≡ true → IsSoundAlone tree → PlainOf false tree
unfolding query_shape IsSound
plain-unmarked (OfBlock (Select false t es t' conds r.Plain r.NoCondition t'' items)) h sound =
    let k = parts-are (λ number wide. Unit {0}) (λ place wide. Unit {0}) es conds items h sound.1 sound.3 in
    record { block = record { shape = k.0; is = k.1.0 }; unmarked = k.1.1 }
plain-unmarked (OfBlock (Select false t es t' conds r.Plain (r.ACondition c) t'' items)) h sound = false-true h
plain-unmarked (OfBlock (Select false t es t' conds r.One having t'' items)) h sound = false-true h
plain-unmarked (OfBlock (Select false t es t' conds (r.Keys columns) having t'' items)) h sound = false-true h
plain-unmarked (OfBlock (Select true t es t' conds grouping having t'' items)) h sound = false-true h
plain-unmarked (Set op left right) h sound = false-true h
