-- The U-expression of a tree that stands by itself, over the trees of the views.
use Rattle.std.specs.Prelude.{List, [], ◌∷◌, ◌++◌}
use Rattle.u_terms.specs.Syntax.{U}
use Rattle.scope_core.specs.Syntax.{RQuery}
use Rattle.scope_core.specs.Width.{width}
use Rattle.sql_to_u.specs.Factors.{names_from}
use Rattle.sql_to_u.specs.Translation.{TermAt, query_term}

-- what each of these trees in order gives, over what the trees before it give
abbrev pub over_earlier : {X : Type 0} → (List X → RQuery → X) → List X → List RQuery → List X
over_earlier step earlier [] = earlier
over_earlier step earlier (tree ∷ rest) = over_earlier step (earlier ++ step earlier tree ∷ []) rest

abbrev pub view_term : List TermAt → RQuery → TermAt
view_term earlier tree = λ row next. query_term earlier tree [] row next

-- the terms of these views, after those that have theirs already; a view sees the views before it
abbrev pub view_terms : List TermAt → List RQuery → List TermAt
view_terms earlier trees = over_earlier {X = TermAt} view_term earlier trees

-- of the row whose columns are the names 0, 1, ..
abbrev pub translation : List RQuery → RQuery → U
translation views tree = query_term (view_terms [] views) tree [] (names_from 0 (width tree)) (width tree)
