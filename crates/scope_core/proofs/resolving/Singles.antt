-- Expressions that are their own conjuncts.
use Rattle.std.proofs.Common.{ℕ, Bool, List, Option, refl}
use Rattle.sql_model.specs.Syntax as n
use Rattle.sql_model.specs.declared.tree.Expr.TheVariants as expr
use Rattle.scope_core.specs.Compute.{resolving}
use Rattle.scope_core.specs.Parts.{IsSingle}

pub single-Col : (qual : Option n.Name) (qual_at : ℕ) (name : n.Name) (at : ℕ) → IsSingle (expr.Col qual qual_at name at)
unfolding resolving IsSingle
single-Col qual qual_at name at = λ known levels. refl

pub single-Lit : (lit at : ℕ) → IsSingle (expr.Lit lit at)
unfolding resolving IsSingle
single-Lit lit at = λ known levels. refl

pub single-Fun : (sym : ℕ) (args : List n.Expr) (at : ℕ) → IsSingle (expr.Fun sym args at)
unfolding resolving IsSingle
single-Fun sym args at = λ known levels. refl

pub single-Pred : (sym : ℕ) (args : List n.Expr) (at : ℕ) → IsSingle (expr.Pred sym args at)
unfolding resolving IsSingle
single-Pred sym args at = λ known levels. refl

pub single-Call : (sym : ℕ) (args : List n.Expr) (at : ℕ) → IsSingle (expr.Call sym args at)
unfolding resolving IsSingle
single-Call sym args at = λ known levels. refl

pub single-Agg : (fun : n.AggFun) (d : Bool) (argument : Option n.Expr) (at : ℕ) → IsSingle (expr.Agg fun d argument at)
unfolding resolving IsSingle
single-Agg fun d argument at = λ known levels. refl

pub single-Sub : (query : n.Query) (at : ℕ) → IsSingle (expr.Sub query at)
unfolding resolving IsSingle
single-Sub query at = λ known levels. refl

pub single-Eq : (left right : n.Expr) (at : ℕ) → IsSingle (expr.Eq left right at)
unfolding resolving IsSingle
single-Eq left right at = λ known levels. refl

pub single-Or : (parts : List n.Expr) (at : ℕ) → IsSingle (expr.Or parts at)
unfolding resolving IsSingle
single-Or parts at = λ known levels. refl

pub single-Not : (part : n.Expr) (at : ℕ) → IsSingle (expr.Not part at)
unfolding resolving IsSingle
single-Not part at = λ known levels. refl

pub single-Exists : (query : n.Query) (at : ℕ) → IsSingle (expr.Exists query at)
unfolding resolving IsSingle
single-Exists query at = λ known levels. refl

pub single-In : (left : n.Expr) (query : n.Query) (at in_at : ℕ) → IsSingle (expr.In left query at in_at)
unfolding resolving IsSingle
single-In left query at in_at = λ known levels. refl

pub ruleset singles = (single-Col, single-Lit, single-Fun, single-Pred, single-Call, single-Agg, single-Sub, single-Eq, single-Or, single-Not, single-Exists, single-In)
