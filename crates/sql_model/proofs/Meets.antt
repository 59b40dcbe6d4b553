-- A database without rows meets every schema.
use Rattle.std.proofs.Common.{ℕ, List, [], ◌∷◌, map}
use Rattle.data_model.specs.Lists.{Each}
use Rattle.sql_model.specs.declared.schema.Schema.{Schema}
use Rattle.sql_model.specs.Meets.{Meets, base_tables, table_constraints, referential_constraint}

Each-all : {X : Type 0} (P : X → Type 0) → ((x : X) → P x) → (xs : List X) → Each P xs
Each-all P h [] = tt
Each-all P h (x ∷ xs) = (h x, Each-all P h xs)

pub Meets-empty : (schema : Schema) (n : ℕ) → Meets schema n []
Meets-empty schema n =
    let tables = map table_constraints (base_tables schema) in
    record {
      widths = Each-all _ (λ t. tt) tables;
      values = Each-all _ (λ t. tt) tables;
      keys = Each-all _ (λ t. Each-all _ (λ key. tt) t.keys) tables;
      foreign_keys = Each-all _ (λ c. tt) (map referential_constraint schema.fkeys);
    }

pub ruleset laws = (Meets-empty)
