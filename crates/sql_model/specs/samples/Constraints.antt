-- Databases that meet a schema and ones that do not, and two queries that differ where no key forbids repeats.
use Rattle.std.specs.Prelude.{ℕ, ◌<◌, refl, nat_eq, true, List, [], ◌∷◌, None}
use Rattle.std.proofs.Common.{ap, true≢false, lit<, lit≤, inl, inr, BuildHasherDefault, FoldHasher}
use Rattle.indexmap.specs.Layout.{hash_map}
use Rattle.data_model.specs.Rows.{Row}
use Rattle.data_model.specs.Reading.{Reading, IsOn}
use Rattle.data_model.specs.Database.{Database}
use Rattle.sql_model.specs.declared.schema.Schema.{Schema}
use Rattle.sql_model.specs.declared.schema.Fkey.{Fkey}
use Rattle.sql_model.specs.declared.schema.Relation.TheVariants as relation
use Rattle.sql_model.specs.Meets.{Meets}
use Rattle.sql_model.specs.Equivalent.{Equivalent}
use Rattle.sql_model.specs.Compute.{everything}
use Rattle.sql_model.specs.samples.Forms.{block, all_of, star, from, r, s, a}

-- a map has a hasher, which no definition reads
abbrev Hasher : Type 0
Hasher = BuildHasherDefault FoldHasher

-- r(a) with these keys, and s(a), with these foreign keys
abbrev schema : Hasher → List (List ℕ) → List Fkey → Schema
schema h keys fkeys = record {
  relations = hash_map (
      (r, relation.Table (record { number = 0; columns = a ∷ []; keys = keys; primary = None }))
      ∷ (s, relation.Table (record { number = 1; columns = a ∷ []; keys = []; primary = None })) ∷ []) h 0;
  fkeys = fkeys;
}

abbrev key : List ℕ
key = 0 ∷ []

-- FOREIGN KEY (a) REFERENCES r of s
abbrev to_r : Fkey
to_r = record { from = 1; cols = 0 ∷ []; to = 0; key = key }

abbrev zero_below : 0 < 2
zero_below = lit< tt

abbrev one_below : 1 < 2
one_below = lit< tt

abbrev first : Row → ℕ
first [] = 0
first (v ∷ row) = v

-- ---- Meets
-- r with 0 and 0
abbrev repeats : Database
repeats = record { table = 0; rows = (0 ∷ []) ∷ (0 ∷ []) ∷ [] } ∷ []

repeats_meet_no_key : (h : Hasher) → Meets (schema h [] []) 2 repeats
repeats_meet_no_key h = record {
  widths = ((refl, (refl, tt)), (tt, tt));
  values = (((zero_below, tt), ((zero_below, tt), tt)), (tt, tt));
  keys = (tt, (tt, tt));
  foreign_keys = tt;
}

repeats_break_a_key : (h : Hasher) → Meets (schema h (key ∷ []) []) 2 repeats → ⊥
repeats_break_a_key h meets = meets.keys.0.0.0.0 refl

-- r with 1, and s with the value v twice
abbrev refers_to : ℕ → Database
refers_to v = record { table = 0; rows = (1 ∷ []) ∷ [] } ∷ record { table = 1; rows = (v ∷ []) ∷ (v ∷ []) ∷ [] } ∷ []

a_foreign_key_finds_a_row : (h : Hasher) → Meets (schema h (key ∷ []) (to_r ∷ [])) 2 (refers_to 1)
a_foreign_key_finds_a_row h = record {
  widths = ((refl, tt), ((refl, (refl, tt)), tt));
  values = (((one_below, tt), tt), (((one_below, tt), ((one_below, tt), tt)), tt));
  keys = (((tt, tt), tt), (tt, tt));
  foreign_keys = ((inl refl, (inl refl, tt)), tt);
}

a_foreign_key_wants_a_row : (h : Hasher) → Meets (schema h (key ∷ []) (to_r ∷ [])) 2 (refers_to 0) → ⊥
a_foreign_key_wants_a_row h meets =
    elim meets.foreign_keys.0.0 [ inl here ↦ true≢false (ap (λ row. nat_eq 1 (first row)) here) | inr absent ↦ absent ]

-- ---- Equivalent
abbrev nothing_named : Reading
nothing_named = record { literals = []; functions = []; predicates = []; aggregates = [] }

nothing_on : IsOn 2 nothing_named
nothing_on = record { literals = tt; functions = tt; predicates = tt; aggregates = tt }

-- SELECT * FROM r and SELECT DISTINCT * FROM r: on the table with 0 and 0 the one gives that row twice and the other once.
distinct_matters_without_a_key : (h : Hasher) → Equivalent (schema h [] []) (all_of r) (block true star (from r r ∷ []) None None None) → ⊥
unfolding everything
distinct_matters_without_a_key h same =
    true≢false (ap (nat_eq 2) (same 2 (lit≤ tt) nothing_named nothing_on repeats (repeats_meet_no_key h) (0 ∷ [])))
