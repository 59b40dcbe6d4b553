-- Which blocks stand for a value.
use Rattle.std.proofs.Common.{◌≡◌, Bool, true, false, List, [], ◌∷◌, suc, length, get_or, Option, Some, None, refl, subst, not, arith}
use Rattle.std.specs.Prelude.{◌&&◌, ◌||◌, is_some}
use Rattle.sql_model.specs.Syntax as n
use Rattle.sql_model.specs.declared.tree.Entry.{Entry}
use Rattle.sql_model.specs.declared.tree.Block.{out-Block, roll-Block, roll-out-Block}
use Rattle.scope_core.specs.Compute.{resolving}
use Rattle.scope_core.specs.Parts.{is_aggregate_item, is_one_aggregate_listed, is_scalar_block}

scalar-rolled : (d : Bool) (items : List n.Item) (entries : List Entry) (c : Option n.Expr) (g : Option (List n.Expr)) (h : Option n.Expr)
    → is_scalar_block (roll-Block (record { distinct = d; items = items; entries = entries; cond = c; groups = g; having = h }))
    ≡ (not (d || is_some g || is_some h) && is_one_aggregate_listed items)
unfolding resolving is_scalar_block is_one_aggregate_listed
scalar-rolled true items entries c g h = refl
scalar-rolled false items entries c None None = refl
scalar-rolled false items entries c None (Some h) = refl
scalar-rolled false items entries c (Some g) h = refl

pub scalar-fields : (b : n.Block)
    → is_scalar_block b ≡ (not ((out-Block b).distinct || is_some (out-Block b).groups || is_some (out-Block b).having) && is_one_aggregate_listed (out-Block b).items)
scalar-fields b =
    let B = out-Block b in
    subst (λ x. is_scalar_block x ≡ (not (B.distinct || is_some B.groups || is_some B.having) && is_one_aggregate_listed B.items)) (roll-out-Block b)
    (scalar-rolled B.distinct B.items B.entries B.cond B.groups B.having)

-- ---- one item
pub one-nil : is_one_aggregate_listed [] ≡ false
unfolding resolving is_one_aggregate_listed
one-nil = refl

pub one-item : (i : n.Item) → is_one_aggregate_listed (i ∷ []) ≡ is_aggregate_item i
unfolding resolving is_one_aggregate_listed
one-item (n.Star at) = refl
one-item (n.AliasStar alias at) = refl
one-item (n.Value (n.Agg fun d argument at) name) = refl
one-item (n.Value expr name) = refl

pub one-more : (i j : n.Item) (is : List n.Item) → is_one_aggregate_listed (i ∷ j ∷ is) ≡ false
unfolding resolving is_one_aggregate_listed
one-more (n.Star at) j is = refl
one-more (n.AliasStar alias at) j is = refl
one-more (n.Value (n.Agg fun d argument at) name) j is = refl
one-more (n.Value expr name) j is = refl

-- a list that has one item, and any other
pub one-first : (items : List n.Item) (i : n.Item) → length items ≡ 1 → i ≡ get_or items 0 i → is_one_aggregate_listed items ≡ is_aggregate_item i
one-first [] i e is = absurd (omega (arith, e))
one-first (j ∷ []) i e is = rw is (one-item j)
one-first (j ∷ k ∷ rest) i e is = absurd (let e' : suc (suc (length rest)) ≡ 1 = e in omega (arith, e'))

pub one-other : (items : List n.Item) → (length items ≡ 1 → ⊥) → is_one_aggregate_listed items ≡ false
one-other [] h = one-nil
one-other (j ∷ []) h = absurd (h refl)
one-other (j ∷ k ∷ rest) h = one-more j k rest

pub ruleset laws = (scalar-fields, one-first, one-other)
