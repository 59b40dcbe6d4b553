-- In the term of a filtered union each block has few factors 1: its factors are atoms, equalities, predicates and their negations.
use Rattle.std.proofs.Common.{◌≡◌, ◌≤◌, ◌+◌, ℕ, true, false, List, [], ◌∷◌, ◌++◌, Some}
use Rattle.data_model.specs.Lists.{Each}
use Rattle.u_terms.specs.Syntax.{U, Val}
use Rattle.u_terms.specs.Binding.{mapped, same_place, place_for_names}
use Rattle.u_terms.specs.Products.{product_of}
use Rattle.u_terms.specs.Size.{nodes}
use Rattle.scope_core.specs.Sound.{IsSoundAlone}
use Rattle.scope_core.specs.Width.{width}
use Rattle.block_costs.specs.Costs.{union_nodes}
use Rattle.scope_core.specs.Syntax as r
use Rattle.scope_core.specs.Syntax.{RCond, Values, NoValues, ValueThen, Conditions, NoConditions, ConditionThen, Entries, NoEntries, EntryThen, Select, RQuery, OfBlock, Set}
use Rattle.sql_model.specs.Syntax.{UnionAll, Union, Except, Intersect}
use Rattle.sql_to_u.specs.Factors.{names_from, over_names}
use Rattle.sql_to_u.specs.Scopes.{Scope, rows_here, count_columns, firsts}
use Rattle.sql_to_u.specs.Translation.{TermAt, query_term, source_terms, condition_term, condition_terms, item_factors, value_term, value_terms}
use Rattle.shapes.specs.Shapes.{Entry, Shape}
use Rattle.block_shapes.specs.Blocks as tree
use Rattle.block_shapes.specs.Blocks.{table_entry, table_entries, conditions_said, value_points, shape_with, parts_shape, block_shape, union_shapes}
use Rattle.shapes.specs.Options.{both_of}
use Rattle.block_shapes.proofs.ClassLaws.{none-some, both-some, map-some, then-some}
use Rattle.term_shapes.specs.FewOnes.{HasFewOnes}
use Rattle.term_shapes.proofs.Sizes.{sum-nodes}
use Rattle.block_terms.proofs.Queries.{union-shape}
use Rattle.term_shapes.proofs.FewOnes.{IsBare, bare-Rel, bare-Eq, bare-Pred, bare-Not, few-both, few-mapped, few-product, few-sums}

both-bare : (xs ys : List U) → Each IsBare xs → Each IsBare ys → Each IsBare (xs ++ ys)
both-bare [] ys h k = k
both-bare (x ∷ xs) ys h k = (h.0, both-bare xs ys h.1 k)

module _ (views : List TermAt) (scope : Scope) where
  sources-bare : {m : _} (entries : Entries m) (es : List Entry) (first next : ℕ) → table_entries entries ≡ Some es → Each IsBare (source_terms views entries scope first next)
  unfolding query_term
  sources-bare NoEntries es first next e = tt
  sources-bare (EntryThen (r.Table number) wide rest) es first next e =
      let k = map-some (λ l. table_entry number wide ∷ l) (table_entries rest) es e in (bare-Rel number (names_from first wide), sources-bare rest k.x (first + wide) next k.from)
  sources-bare (EntryThen (r.View place) wide rest) es first next e = absurd (none-some es e)
  sources-bare (EntryThen (r.Derived query) wide rest) es first next e = absurd (none-some es e)

  condition-bare : (c : RCond) (x : tree.Said) (next : ℕ) → tree.condition_said c ≡ Some x → IsBare (condition_term views c scope next)
  unfolding query_term
  condition-bare (r.Eq a b) x next e = bare-Eq (value_term views a scope next) (value_term views b scope next)
  condition-bare (r.Pred symbol s args) x next e = bare-Pred symbol (value_terms views args scope next)
  condition-bare (r.Not c) x next e = bare-Not (condition_term views c scope next)
  condition-bare (r.And s ps) x next e = absurd (none-some x e)
  condition-bare (r.Or s ps) x next e = absurd (none-some x e)
  condition-bare (r.Exists q) x next e = absurd (none-some x e)
  condition-bare (r.In a q) x next e = absurd (none-some x e)

  conditions-bare : {m : _} (cs : Conditions m) (xs : List tree.Said) (next : ℕ) → conditions_said cs ≡ Some xs → Each IsBare (condition_terms views cs scope next)
  unfolding query_term
  conditions-bare NoConditions xs next e = tt
  conditions-bare (ConditionThen c cs) xs next e =
      let k = both-some (λ y ys. y ∷ ys) (tree.condition_said c) (conditions_said cs) xs e in (condition-bare c k.x next k.left, conditions-bare cs k.y next k.right)

  items-bare : {m : _} (vs : Values m) (row : List Val) (next : ℕ) → Each IsBare (item_factors views vs scope row next)
  unfolding query_term
  items-bare NoValues row next = tt
  items-bare (ValueThen value rest) [] next = tt
  items-bare (ValueThen value rest) (x ∷ row) next = (bare-Eq (value_term views value scope next) x, items-bare rest row next)

-- ---- a block
closed-few : (next size : ℕ) (ws : List U) → Each IsBare ws → HasFewOnes (over_names next size (product_of ws))
closed-few next size ws h = few-sums size (mapped same_place (place_for_names next size) 0 (product_of ws)) (few-mapped same_place (place_for_names next size) 0 (product_of ws) (few-product ws h))

parts-few : (views : List TermAt) {m m' m'' : _} (entries : Entries m) (conds : Conditions m') (items : Values m'') (s : Shape) (row : List Val) (next : ℕ) → parts_shape entries conds items ≡ Some s
    → HasFewOnes (over_names next (count_columns entries) (product_of (
    (source_terms views entries [] next (next + count_columns entries) ++ condition_terms views conds (rows_here (firsts entries next) ∷ []) (next + count_columns entries))
    ++ item_factors views items (rows_here (firsts entries next) ∷ []) row (next + count_columns entries))))
parts-few views entries conds items s row next e =
    let k = then-some (λ es. both_of (shape_with es) (conditions_said conds) (value_points items)) (table_entries entries) s e in
    let b = both-some (shape_with k.x) (conditions_said conds) (value_points items) s k.is in
    let inner : ℕ = next + count_columns entries in
    let scope : Scope = rows_here (firsts entries next) ∷ [] in
    let sources : List U = source_terms views entries [] next inner in
    let conditions : List U = condition_terms views conds scope inner in
    let equals : List U = item_factors views items scope row inner in
    closed-few next (count_columns entries) ((sources ++ conditions) ++ equals)
    (both-bare (sources ++ conditions) equals
    (both-bare sources conditions (sources-bare views [] entries k.x next inner k.from) (conditions-bare views scope conds b.x inner b.left)) (items-bare views scope items row inner))

block-few : (views : List TermAt) (block : r.RBlock) (s : Shape) (row : List Val) (next : ℕ) → block_shape false block ≡ Some s → HasFewOnes (query_term views (OfBlock block) [] row next)
unfolding query_term
block-few views (Select false t es t' conds r.Plain r.NoCondition t'' items) s row next e = parts-few views es conds items s row next e
block-few views (Select false t es t' conds r.Plain (r.ACondition c) t'' items) s row next e = absurd (none-some s e)
block-few views (Select false t es t' conds r.One having t'' items) s row next e = absurd (none-some s e)
block-few views (Select false t es t' conds (r.Keys columns) having t'' items) s row next e = absurd (none-some s e)
block-few views (Select true t es t' conds grouping having t'' items) s row next e = absurd (none-some s e)

-- ---- a union
added-few : (views : List TermAt) (left right : RQuery) (row : List Val) (next : ℕ) → HasFewOnes (query_term views left [] row next) → HasFewOnes (query_term views right [] row next)
    → HasFewOnes (query_term views (Set UnionAll left right) [] row next)
unfolding query_term
added-few views left right row next h k = few-both (query_term views left [] row next) (query_term views right [] row next) h k

pub union-few : (views : List TermAt) (tree : RQuery) (ss : List Shape) (row : List Val) (next : ℕ) → union_shapes tree ≡ Some ss → HasFewOnes (query_term views tree [] row next)
unfolding union_shapes
union-few views (OfBlock block) ss row next e = let k = map-some (λ s. s ∷ []) (block_shape false block) ss e in block-few views block k.x row next k.from
union-few views (Set UnionAll left right) ss row next e =
    let k = both-some (λ ss ts. ss ++ ts) (union_shapes left) (union_shapes right) ss e in
    added-few views left right row next (union-few views left k.x row next k.left) (union-few views right k.y row next k.right)
union-few views (Set Union left right) ss row next e = absurd (none-some ss e)
union-few views (Set Except left right) ss row next e = absurd (none-some ss e)
union-few views (Set Intersect left right) ss row next e = absurd (none-some ss e)

-- ---- the whole term of a sound tree
pub tree-few : (views : List TermAt) (tree : RQuery) (ss : List Shape) → union_shapes tree ≡ Some ss → HasFewOnes (query_term views tree [] (names_from 0 (width tree)) (width tree))
tree-few views tree ss e = union-few views tree ss (names_from 0 (width tree)) (width tree) e

pub tree-nodes : (views : List TermAt) (tree : RQuery) (ss : List Shape) → union_shapes tree ≡ Some ss → IsSoundAlone tree
    → nodes (query_term views tree [] (names_from 0 (width tree)) (width tree)) ≤ union_nodes ss
tree-nodes views tree ss e sound = sum-nodes (width tree) (query_term views tree [] (names_from 0 (width tree)) (width tree)) ss (union-shape views tree ss e sound) (tree-few views tree ss e)
