-- Where an aggregate stands, as code seeks it.
use Rattle.std.proofs.Common.{◌≡◌, ℕ, ◌+◌, ◌<◌, ◌≤◌, Bool, true, false, List, [], ◌∷◌, length, drop, get_or, Option, refl, ◌∙◌}
use Rattle.std.specs.Prelude.{◌||◌}
use Rattle.sql_model.specs.Syntax as n
use Rattle.sql_model.specs.declared.tree.Expr.TheVariants as expr
use Rattle.sql_model.specs.Compute.{everything}
use Rattle.sql_model.specs.Grouping.{has_aggregate, item_has_aggregate}
use Rattle.scope_core.proofs.basics.Lists.{at-head, at-end}
use Rattle.scope_core.specs.Lent.{list_has_aggregate, items_have_aggregate_listed}

pub has-Col : (qual : Option n.Name) (qual_at : ℕ) (name : n.Name) (at : ℕ) → has_aggregate (expr.Col qual qual_at name at) ≡ false
unfolding everything
has-Col qual qual_at name at = refl

pub has-Lit : (lit at : ℕ) → has_aggregate (expr.Lit lit at) ≡ false
unfolding everything
has-Lit lit at = refl

pub has-Fun : (sym : ℕ) (args : List n.Expr) (at : ℕ) → has_aggregate (expr.Fun sym args at) ≡ list_has_aggregate args
unfolding everything list_has_aggregate
has-Fun sym args at = refl

pub has-Pred : (sym : ℕ) (args : List n.Expr) (at : ℕ) → has_aggregate (expr.Pred sym args at) ≡ list_has_aggregate args
unfolding everything list_has_aggregate
has-Pred sym args at = refl

pub has-Call : (sym : ℕ) (args : List n.Expr) (at : ℕ) → has_aggregate (expr.Call sym args at) ≡ list_has_aggregate args
unfolding everything list_has_aggregate
has-Call sym args at = refl

pub has-Agg : (fun : n.AggFun) (d : Bool) (argument : Option n.Expr) (at : ℕ) → has_aggregate (expr.Agg fun d argument at) ≡ true
unfolding everything
has-Agg fun d argument at = refl

pub has-Sub : (query : n.Query) (at : ℕ) → has_aggregate (expr.Sub query at) ≡ false
unfolding everything
has-Sub query at = refl

pub has-Eq : (left right : n.Expr) (at : ℕ) → has_aggregate (expr.Eq left right at) ≡ (has_aggregate left || has_aggregate right)
unfolding everything
has-Eq left right at = refl

pub has-And : (parts : List n.Expr) (at : ℕ) → has_aggregate (expr.And parts at) ≡ list_has_aggregate parts
unfolding everything list_has_aggregate
has-And parts at = refl

pub has-Or : (parts : List n.Expr) (at : ℕ) → has_aggregate (expr.Or parts at) ≡ list_has_aggregate parts
unfolding everything list_has_aggregate
has-Or parts at = refl

pub has-Not : (part : n.Expr) (at : ℕ) → has_aggregate (expr.Not part at) ≡ has_aggregate part
unfolding everything
has-Not part at = refl

pub has-Exists : (query : n.Query) (at : ℕ) → has_aggregate (expr.Exists query at) ≡ false
unfolding everything
has-Exists query at = refl

pub has-In : (left : n.Expr) (query : n.Query) (at in_at : ℕ) → has_aggregate (expr.In left query at in_at) ≡ has_aggregate left
unfolding everything
has-In left query at in_at = refl

pub list_has-cons : (e : n.Expr) (es : List n.Expr) → list_has_aggregate (e ∷ es) ≡ (has_aggregate e || list_has_aggregate es)
unfolding everything list_has_aggregate
list_has-cons e es = refl

pub list_has-nil : list_has_aggregate [] ≡ false
unfolding everything list_has_aggregate
list_has-nil = refl

pub list_has-drop : (es : List n.Expr) (i : ℕ) (e : n.Expr) → i < length es → e ≡ get_or es i e
    → list_has_aggregate (drop i es) ≡ (has_aggregate e || list_has_aggregate (drop (i + 1) es))
list_has-drop es i e h is = at-head list_has_aggregate es i e h is ∙ list_has-cons e (drop (i + 1) es)

pub list_has-past : (es : List n.Expr) (i : ℕ) → length es ≤ i → list_has_aggregate (drop i es) ≡ false
list_has-past es i h = at-end list_has_aggregate es i h ∙ list_has-nil

pub ruleset laws =
    (has-Col, has-Lit, has-Fun, has-Pred, has-Call, has-Agg, has-Sub, has-Eq, has-And, has-Or, has-Not, has-Exists, has-In, list_has-drop, list_has-past)

-- ---- items
pub items_have-cons : (i : n.Item) (is : List n.Item) → items_have_aggregate_listed (i ∷ is) ≡ (item_has_aggregate i || items_have_aggregate_listed is)
unfolding everything items_have_aggregate_listed
items_have-cons i is = refl

pub items_have-nil : items_have_aggregate_listed [] ≡ false
unfolding everything items_have_aggregate_listed
items_have-nil = refl

pub items_have-drop : (is : List n.Item) (k : ℕ) (i : n.Item) → k < length is → i ≡ get_or is k i
    → items_have_aggregate_listed (drop k is) ≡ (item_has_aggregate i || items_have_aggregate_listed (drop (k + 1) is))
items_have-drop is k i h e = at-head items_have_aggregate_listed is k i h e ∙ items_have-cons i (drop (k + 1) is)

pub items_have-past : (is : List n.Item) (k : ℕ) → length is ≤ k → items_have_aggregate_listed (drop k is) ≡ false
items_have-past is k h = at-end items_have_aggregate_listed is k h ∙ items_have-nil

pub ruleset items = (items_have-drop, items_have-past)
