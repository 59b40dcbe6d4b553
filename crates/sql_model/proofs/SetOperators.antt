-- The rows of two queries under a set operator, and how often a row is among them.
use Rattle.std.proofs.Common.{◌≡◌, ℕ, ◌+◌, ◌*◌, ◌++◌, List, filter, refl, ap, ◌∙◌}
use Rattle.std.specs.Prelude.{not}
use Rattle.data_model.specs.Numbers.{squash, negate}
use Rattle.data_model.specs.Rows.{Row, occurrences, is_among}
use Rattle.data_model.proofs.Occurrences.{occurrences-append, occurrences-distinct, occurrences-filter, one_if-is_among, squash-mul, squash-not}
use Rattle.sql_model.specs.declared.tree.Query.TheVariants as query
use Rattle.sql_model.specs.Syntax.{Query, SetOp, UnionAll, Union, Except, Intersect}
use Rattle.sql_model.specs.Frames.{Environment}
use Rattle.sql_model.specs.Answers.{combined}
use Rattle.sql_model.specs.World.{World}
use Rattle.sql_model.specs.Meaning.{rows}
use Rattle.sql_model.specs.Compute.{everything}

pub rows-set : (op : SetOp) (p q : Query) (at : ℕ) (w : World) (env : Environment)
    → rows (query.Set op p q at) w env ≡ combined op (rows p w env) (rows q w env)
unfolding everything
rows-set op p q at w env = refl

pub rows-union_all : (p q : Query) (at : ℕ) (w : World) (env : Environment)
    → rows (query.Set UnionAll p q at) w env ≡ rows p w env ++ rows q w env
rows-union_all p q at w env = rows-set UnionAll p q at w env

-- ---- multiplicities
pub occurrences-union_all : (r : Row) (left right : List Row) → occurrences r (combined UnionAll left right) ≡ occurrences r left + occurrences r right
occurrences-union_all r left right = occurrences-append r left right

pub occurrences-union : (r : Row) (left right : List Row) → occurrences r (combined Union left right) ≡ squash (occurrences r left + occurrences r right)
occurrences-union r left right = occurrences-distinct r (left ++ right) ∙ ap squash (occurrences-append r left right)

pub occurrences-except : (r : Row) (left right : List Row) → occurrences r (combined Except left right) ≡ squash (occurrences r left) * negate (occurrences r right)
occurrences-except r left right =
    occurrences-distinct r (filter (λ s. not (is_among s right)) left)
    ∙ ap squash (occurrences-filter r (λ s. not (is_among s right)) left)
    ∙ squash-not (is_among r right) (occurrences r left) (occurrences r right) (one_if-is_among r right)

pub occurrences-intersect : (r : Row) (left right : List Row) → occurrences r (combined Intersect left right) ≡ squash (occurrences r left * occurrences r right)
occurrences-intersect r left right =
    occurrences-distinct r (filter (λ s. is_among s right) left)
    ∙ ap squash (occurrences-filter r (λ s. is_among s right) left)
    ∙ squash-mul (is_among r right) (occurrences r left) (occurrences r right) (one_if-is_among r right)

pub ruleset laws = (rows-union_all)
