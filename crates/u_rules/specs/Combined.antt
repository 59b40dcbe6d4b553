-- How measures of parts are put together, as code does it: contracts of private functions alone cite this.
use Rattle.std.specs.Prelude.{ℕ, ◌+◌, min, max, List, [], ◌∷◌}
use Rattle.u_terms.specs.Syntax.{Val}
use Rattle.u_rules.specs.declared.measure.Measure.{Measure}
use Rattle.u_rules.specs.declared.side_sizes.Sizes.{Sizes}
use Rattle.u_rules.specs.Measures.{capped, flat, value_measure, list_measure}
use Rattle.u_rules.specs.Terms.{column}

abbrev pub with : Measure → Measure → Measure
with a b = record { nodes = capped (capped (a.nodes + b.nodes) + 1); depth = capped (max a.depth b.depth + 1) }

abbrev pub below : Measure → Measure
below a = record { nodes = capped (a.nodes + 1); depth = capped (a.depth + 1) }

abbrev pub and : Measure → Measure → Measure
and a b = record { nodes = capped (a.nodes + b.nodes); depth = max a.depth b.depth }

-- under that many sums
abbrev pub summed : ℕ → Measure → Measure
summed count body = record { nodes = capped (body.nodes + count); depth = capped (body.depth + count) }

abbrev pub columns_measure : Measure → List Val → List ℕ → List Val → List ℕ → Measure
columns_measure head s [] t ds = head
columns_measure head s (c ∷ cs) t [] = head
columns_measure head s (c ∷ cs) t (d ∷ ds) = with head (columns_measure (with (value_measure (column s c)) (value_measure (column t d))) s cs t ds)

abbrev pub rows_measure : Measure → List Val → List Val → Measure
rows_measure head [] t = head
rows_measure head (a ∷ s) [] = head
rows_measure head (a ∷ s) (b ∷ t) = with head (rows_measure (with (value_measure a) (value_measure b)) s t)

abbrev pub place_columns : Measure → List ℕ → List Val → List ℕ → Measure
place_columns head [] t ds = head
place_columns head (c ∷ cs) t [] = head
place_columns head (c ∷ cs) t (d ∷ ds) = with head (place_columns (with (record { nodes = 1; depth = 1 }) (value_measure (column t d))) cs t ds)

abbrev pub key_sizes : List ℕ → List Val → List Val → Sizes
key_sizes key s r =
    flat (with (below (list_measure s)) (columns_measure (below (list_measure r)) s key r key)) (rows_measure (below (list_measure s)) s r)

abbrev pub fkey_sizes : ℕ → List ℕ → List Val → List ℕ → Sizes
fkey_sizes count key s cols =
    flat (below (list_measure s))
    (with (below (list_measure s)) (summed count (place_columns (below (record { nodes = count; depth = min count 1 })) key s cols)))
