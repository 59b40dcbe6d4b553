-- The width of a resolved tree, and whether it is plain, as code seeks them.
use Rattle.std.proofs.Common.{◌≡◌, ℕ, suc, Bool, true, false, not, ◌&&◌, ◌||◌, List, [], ◌∷◌, length, Option, Some, None, refl, ap, sym, subst}
use Rattle.std.specs.List.{list_all}
use Rattle.std.specs.Prelude.{is_some}
use Rattle.scope_core.specs.declared.tree.RCond.TheBlock as t
use Rattle.scope_core.specs.declared.tree.RVal.TheVariants as v
use Rattle.scope_core.specs.declared.tree.RCond.TheVariants as c
use Rattle.scope_core.specs.declared.tree.RSource.TheVariants as s
use Rattle.scope_core.specs.declared.tree.RQuery.TheVariants as q
use Rattle.scope_core.specs.declared.tree.Grouping.TheVariants as g
use Rattle.scope_core.specs.declared.tree.RBlock.{roll-RBlock, out-RBlock, roll-out-RBlock}
use Rattle.scope_core.specs.declared.tree.REntry.{REntry}
use Rattle.scope_core.specs.Syntax.{RVal, RCond, RBlock, RQuery, Grouping}
use Rattle.sql_model.specs.Syntax.{AggFun, SetOp}
use Rattle.scope_core.specs.Plain.{are_tree_equalities, are_tree_points, are_tree_tables, is_grouping, is_plain_tree, is_table, is_tree_equality, is_tree_point}
use Rattle.scope_core.specs.Width.{count_values, width}
use Rattle.scope_core.specs.Compute.{everything}

-- ---- widths
counted : (es : List RVal) → count_values (t.hidden-the_row-RVal-1 es) ≡ length es
unfolding everything
counted [] = refl
counted (e ∷ es) = ap (λ n. suc n) (counted es)

block-width : (d : Bool) (es : List REntry) (cs : List RCond) (gr : Grouping) (h : Option RCond) (items : List RVal)
    → width (q.Block (roll-RBlock (record { distinct = d; entries = es; conds = cs; grouping = gr; having = h; items = items }))) ≡ length items
unfolding everything
block-width d es cs gr None items = counted items
block-width d es cs gr (Some h) items = counted items

pub width-Block : (b : RBlock) → width (q.Block b) ≡ length (out-RBlock b).items
width-Block b =
    let B = out-RBlock b in
    subst (λ x. width (q.Block x) ≡ length B.items) (roll-out-RBlock b) (block-width B.distinct B.entries B.conds B.grouping B.having B.items)

pub width-Set : (op : SetOp) (left right : RQuery) → width (q.Set op left right) ≡ width left
unfolding everything
width-Set op left right = refl

pub ruleset widths = (width-Block, width-Set)

-- ---- kinds of nodes
pub table-Table : (number : ℕ) → is_table (s.Table number) ≡ true
table-Table number = refl

pub table-View : (place : ℕ) → is_table (s.View place) ≡ false
table-View place = refl

pub table-Query : (query : RQuery) → is_table (s.Query query) ≡ false
unfolding everything
table-Query query = refl

pub point-Col : (up entry col : ℕ) → is_tree_point (v.Col up entry col) ≡ true
point-Col up entry col = refl

pub point-Lit : (lit : ℕ) → is_tree_point (v.Lit lit) ≡ true
point-Lit lit = refl

pub point-Key : (place : ℕ) → is_tree_point (v.Key place) ≡ false
point-Key place = refl

pub point-Fun : (sym : ℕ) (args : List RVal) → is_tree_point (v.Fun sym args) ≡ false
unfolding everything
point-Fun sym args = refl

pub point-Agg : (fun : AggFun) (d : Bool) (argument : Option RVal) → is_tree_point (v.Agg fun d argument) ≡ false
unfolding everything
point-Agg fun d None = refl
point-Agg fun d (Some argument) = refl

pub point-Sub : (b : RBlock) → is_tree_point (v.Sub b) ≡ false
unfolding everything
point-Sub b = refl

pub equality-Eq : (left right : RVal) → is_tree_equality (c.Eq left right) ≡ (is_tree_point left && is_tree_point right)
unfolding everything
equality-Eq left right = refl

pub equality-Pred : (sym : ℕ) (args : List RVal) → is_tree_equality (c.Pred sym args) ≡ false
unfolding everything
equality-Pred sym args = refl

pub equality-And : (parts : List RCond) → is_tree_equality (c.And parts) ≡ false
unfolding everything
equality-And parts = refl

pub equality-Or : (parts : List RCond) → is_tree_equality (c.Or parts) ≡ false
unfolding everything
equality-Or parts = refl

pub equality-Not : (part : RCond) → is_tree_equality (c.Not part) ≡ false
unfolding everything
equality-Not part = refl

pub equality-Exists : (query : RQuery) → is_tree_equality (c.Exists query) ≡ false
unfolding everything
equality-Exists query = refl

pub equality-In : (left : RVal) (query : RQuery) → is_tree_equality (c.In left query) ≡ false
unfolding everything
equality-In left query = refl

pub ruleset kinds = (
  table-Table,
  table-View,
  table-Query,
  point-Col,
  point-Lit,
  point-Key,
  point-Fun,
  point-Agg,
  point-Sub,
  equality-Eq,
  equality-Pred,
  equality-And,
  equality-Or,
  equality-Not,
  equality-Exists,
  equality-In,
)

-- ---- plain blocks
all-points : (es : List RVal) → are_tree_points (t.hidden-the_row-RVal-1 es) ≡ list_all (λ e. is_tree_point e) es
unfolding everything
all-points [] = refl
all-points (e ∷ es) = ap (λ b. is_tree_point e && b) (all-points es)

all-equalities : (cs : List RCond) → are_tree_equalities (t.hidden-the_row-RCond-2 cs) ≡ list_all (λ c. is_tree_equality c) cs
unfolding everything
all-equalities [] = refl
all-equalities (c ∷ cs) = ap (λ b. is_tree_equality c && b) (all-equalities cs)

all-tables : (es : List REntry) → are_tree_tables (t.hidden-the_row-REntry-7 es) ≡ list_all (λ e. is_table e.source) es
unfolding everything
all-tables [] = refl
all-tables (e ∷ es) = ap (λ b. is_table e.source && b) (all-tables es)

plain-rolled : (d : Bool) (es : List REntry) (cs : List RCond) (gr : Grouping) (h : Option RCond) (items : List RVal)
    → is_plain_tree (q.Block (roll-RBlock (record { distinct = d; entries = es; conds = cs; grouping = gr; having = h; items = items })))
    ≡ (not (d || is_some h || is_grouping gr)
    && (list_all (λ e. is_table e.source) es && list_all (λ c. is_tree_equality c) cs && list_all (λ e. is_tree_point e) items))
unfolding everything
plain-rolled false es cs g.Plain None items = λ i. all-tables es i && all-equalities cs i && all-points items i
plain-rolled false es cs g.Plain (Some h) items = refl
plain-rolled false es cs g.One None items = refl
plain-rolled false es cs g.One (Some h) items = refl
plain-rolled false es cs (g.Keys columns) None items = refl
plain-rolled false es cs (g.Keys columns) (Some h) items = refl
plain-rolled true es cs gr None items = refl
plain-rolled true es cs gr (Some h) items = refl

pub plain-Block : (b : RBlock) → is_plain_tree (q.Block b)
    ≡ (not ((out-RBlock b).distinct || is_some (out-RBlock b).having || is_grouping (out-RBlock b).grouping)
    && (list_all (λ e. is_table e.source) (out-RBlock b).entries && list_all (λ c. is_tree_equality c) (out-RBlock b).conds
    && list_all (λ e. is_tree_point e) (out-RBlock b).items))
plain-Block b =
    let B = out-RBlock b in
    subst (λ x. is_plain_tree (q.Block x)
    ≡ (not (B.distinct || is_some B.having || is_grouping B.grouping)
    && (list_all (λ e. is_table e.source) B.entries && list_all (λ c. is_tree_equality c) B.conds && list_all (λ e. is_tree_point e) B.items)))
    (roll-out-RBlock b) (plain-rolled B.distinct B.entries B.conds B.grouping B.having B.items)

pub plain-Set : (op : SetOp) (left right : RQuery) → is_plain_tree (q.Set op left right) ≡ false
unfolding everything
plain-Set op left right = refl

pub ruleset plain = (plain-Block, plain-Set)
