-- The facts of a schema that is built fit together, and a database that meets them meets the schema.
use Rattle.std.proofs.Common.{◌≡◌, ℕ, zero, suc, ◌+◌, ◌<◌, inl, inr, nat_eq, true, List, [], ◌∷◌, ◌++◌, map, length, refl, sym, ap, subst, ◌∙◌, ◌↔◌, arith}
use Rattle.std.specs.Prelude.{get_or}
use Rattle.std.specs.List.{list_any}
use Rattle.std.proofs.lemmas.Bool.{and_parts, false≢true, or_cases}
use Rattle.std.proofs.lemmas.List.{length-map}
use Rattle.std.proofs.lemmas.Map.Views.{exact_unsigned_eq}
use Rattle.data_model.specs.Database.{Database, MeetsConstraints}
use Rattle.data_model.specs.Lists.{Each, Has}
use Rattle.data_model.specs.Numbers.{list_below}
use Rattle.sql_model.specs.declared.schema.Fkey.{Fkey}
use Rattle.sql_model.specs.declared.schema.Schema.{Schema}
use Rattle.sql_model.specs.declared.schema.Table.{Table}
use Rattle.sql_model.specs.declared.statement.Statement.{Statement}
use Rattle.sql_model.specs.Meets as sql
use Rattle.sql_model.specs.Meets.{Meets, base_tables, table_constraints}
use Rattle.u_terms.specs.declared.facts.Facts.{Facts}
use Rattle.u_terms.specs.Facts as facts
use Rattle.u_terms.specs.Facts.{FactsOk, MeetsFacts, AreSameColumns, IsAmong, numbered_from}
use Rattle.schema_read.specs.Builds.{Builds}
use Rattle.schema_read.specs.Declarations.{count_tables}
use Rattle.schema_read.specs.Fits.{KeysFit, FkeyFits}
use Rattle.schema_read.specs.Keys.{is_part, same_set, has_key}
use Rattle.schema_read.specs.SchemaFacts.{AreFactsOf, by_numbers}
use Rattle.schema_read.proofs.built.FkeysFit.{keys_fit, fkeys_fit}
use Rattle.schema_read.proofs.built.TableNumbers.{numbered}

-- ---- tables that are numbered in order

abbrev widths_of : List Table → List ℕ
widths_of tables = map (λ t. length t.columns) tables

abbrev keys_of : List Table → List (List (List ℕ))
keys_of tables = map (λ t. t.keys) tables

abbrev NumberedFrom : ℕ → List Table → Type 0
NumberedFrom i [] = Unit {0}
NumberedFrom i (t ∷ tables) = (t.number ≡ i) × NumberedFrom (suc i) tables

abbrev up : ℕ → ℕ → List ℕ
up i zero = []
up i (suc m) = i ∷ up (suc i) m

up_last : (i m : ℕ) → up i (suc m) ≡ up i m ++ (i + m) ∷ []
up_last i zero = ap (λ k. k ∷ []) (omega arith)
up_last i (suc m) = ap (λ ks. i ∷ ks) (up_last (suc i) m ∙ ap (λ k. up (suc i) m ++ k ∷ []) (omega arith))

below_up : (m : ℕ) → list_below m (λ k. k) ≡ up 0 m
below_up zero = refl
below_up (suc m) = ap (λ ks. ks ++ m ∷ []) (below_up m) ∙ sym (up_last 0 m ∙ ap (λ k. up 0 m ++ k ∷ []) (omega arith))

numbered_up : (i m : ℕ) (tables : List Table) → map (λ t. t.number) tables ≡ up i m → NumberedFrom i tables
numbered_up i m [] e = tt
numbered_up i zero (t ∷ tables) e = absurd (false≢true (cc))
numbered_up i (suc m) (t ∷ tables) e = (cc, numbered_up (suc i) m tables (cc))

constraints_of : (i : ℕ) (tables : List Table) → NumberedFrom i tables → map table_constraints tables ≡ numbered_from i (widths_of tables) (keys_of tables)
constraints_of i [] n = refl
constraints_of i (t ∷ tables) n =
    ap (λ k. record { number = k; width = length t.columns; keys = t.keys } ∷ map table_constraints tables) n.0
    ∙ ap (λ cs. record { number = i; width = length t.columns; keys = t.keys } ∷ cs) (constraints_of (suc i) tables n.1)

references_of : (fkeys : List Fkey) → map sql.referential_constraint fkeys ≡ map facts.referential_constraint (map by_numbers fkeys)
references_of [] = refl
references_of (fkey ∷ fkeys) = ap (λ rs. sql.referential_constraint fkey ∷ rs) (references_of fkeys)

-- what stands at the number of a table of which P holds
record Found (P : Table → Type 0) (i : ℕ) (tables : List Table) (number : ℕ) : Type 0 where
  pub place : ℕ
  pub counts : number ≡ i + place
  pub below : place < length tables
  pub table : Table
  pub holds : P table
  pub width : get_or (widths_of tables) place 0 ≡ length table.columns
  pub keys : get_or (keys_of tables) place [] ≡ table.keys

found : (P : Table → Type 0) (i : ℕ) (tables : List Table) (number : ℕ) → NumberedFrom i tables → Has (λ t. (t.number ≡ number) × P t) tables → Found P i tables number
found P i [] number n has = absurd has
found P i (t ∷ tables) number n (inl (e, p)) =
    record { place = 0; counts = sym e ∙ (n.0 ∙ omega arith); below = omega arith; table = t; holds = p; width = refl; keys = refl }
found P i (t ∷ tables) number n (inr later) =
    let f = found P (suc i) tables number n.1 later in
    record { place = suc f.place; counts = f.counts ∙ omega arith; below = omega (arith, f.below); table = f.table; holds = f.holds; width = f.width; keys = f.keys }

-- ---- keys as sets

among : (xs : List ℕ) (x : ℕ) → list_any (λ y. nat_eq y x) xs ≡ true → IsAmong xs x
among [] x e = absurd (false≢true e)
among (y ∷ xs) x e = elim (or_cases (nat_eq y x) (list_any (λ y. nat_eq y x) xs) e) [ inl is ↦ inl (exact_unsigned_eq y x is) | inr later ↦ inr (among xs x later) ]

part : (xs ys : List ℕ) → is_part xs ys ≡ true → Each (IsAmong ys) xs
part [] ys e = tt
part (x ∷ xs) ys e = let p = and_parts (list_any (λ y. nat_eq y x) ys) (is_part xs ys) e in (among ys x p.0, part xs ys p.1)

same_columns : (xs ys : List ℕ) → same_set xs ys ≡ true → AreSameColumns xs ys
same_columns xs ys e = let p = and_parts (is_part xs ys) (is_part ys xs) e in record { there = part xs ys p.0; back = part ys xs p.1 }

has_same : (keys : List (List ℕ)) (key : List ℕ) → has_key keys key ≡ true → Has (AreSameColumns key) keys
has_same [] key e = absurd (false≢true e)
has_same (k ∷ keys) key e = elim (or_cases (same_set key k) (has_key keys key) e) [ inl is ↦ inl (same_columns key k is) | inr later ↦ inr (has_same keys key later) ]

-- ---- the laws

each_key : (tables : List Table) → Each KeysFit tables → facts.KeysFit (widths_of tables) (keys_of tables)
each_key [] each = tt
each_key (t ∷ tables) each = (each.0, each_key tables each.1)

abbrev facts_over : List Table → List Fkey → Facts
facts_over tables fkeys = record { widths = widths_of tables; keys = keys_of tables; fkeys = map by_numbers fkeys }

module _ (tables : List Table) (fkeys : List Fkey) (n : NumberedFrom 0 tables) where
  fits : (fkey : Fkey) → FkeyFits tables fkey → facts.FkeyFits (facts_over tables fkeys) (by_numbers fkey)
  fits fkey fit =
      let f = found (λ t. Each (λ c. c < length t.columns) fkey.cols) 0 tables fkey.from n fit.columns in
      let g = found (λ t. Each (λ c. c < length t.columns) fkey.key × (has_key t.keys fkey.key ≡ true)) 0 tables fkey.to n fit.key in
      let from : fkey.from ≡ f.place = f.counts ∙ omega arith in
      let to : fkey.to ≡ g.place = g.counts ∙ omega arith in
      let long : length (widths_of tables) ≡ length tables = length-map tables (λ t. length t.columns) in
      record {
        from = omega (arith, from, long, f.below);
        columns = subst (λ w. Each (λ c. c < w) fkey.cols) (sym (ap (λ k. get_or (widths_of tables) k 0) from ∙ f.width)) f.holds;
        to = omega (arith, to, long, g.below);
        key = subst (λ ks. Has (AreSameColumns fkey.key) ks) (sym (ap (λ k. get_or (keys_of tables) k []) to ∙ g.keys)) (has_same g.table.keys fkey.key g.holds.1);
        counts = fit.counts;
      }

  each_fits : (others : List Fkey) → Each (FkeyFits tables) others → Each (facts.FkeyFits (facts_over tables fkeys)) (map by_numbers others)
  each_fits [] each = tt
  each_fits (fkey ∷ others) each = (fits fkey each.0, each_fits others each.1)

module _ (statements : List Statement) (schema : Schema) (builds : Builds statements schema) (the : Facts) (are : AreFactsOf schema the) where
  in_order : NumberedFrom 0 (base_tables schema)
  in_order = numbered_up 0 (count_tables statements) (base_tables schema) (numbered statements schema builds ∙ below_up (count_tables statements))

  they_are : the ≡ facts_over (base_tables schema) schema.fkeys
  they_are = λ i. record { widths = are.widths i; keys = are.keys i; fkeys = are.fkeys i }

  pub facts_ok : FactsOk the
  facts_ok = subst FactsOk (sym they_are) (record {
    keys = each_key (base_tables schema) (keys_fit statements schema builds);
    fkeys = each_fits (base_tables schema) schema.fkeys in_order schema.fkeys (fkeys_fit statements schema builds);
  })

  same_tables : map table_constraints (base_tables schema) ≡ numbered_from 0 the.widths the.keys
  same_tables = constraints_of 0 (base_tables schema) in_order ∙ ap (λ f. numbered_from 0 f.widths f.keys) (sym they_are)

  same_references : map sql.referential_constraint schema.fkeys ≡ map facts.referential_constraint the.fkeys
  same_references = references_of schema.fkeys ∙ ap (map facts.referential_constraint) (sym are.fkeys)

  pub same_databases : (m : ℕ) (db : Database) → Meets schema m db ↔ MeetsFacts the m db
  same_databases m db = (
    λ meets. subst (λ rs. MeetsConstraints m db (numbered_from 0 the.widths the.keys) rs) same_references
        (subst (λ ts. MeetsConstraints m db ts (map sql.referential_constraint schema.fkeys)) same_tables meets),
    λ meets. subst (λ rs. MeetsConstraints m db (map table_constraints (base_tables schema)) rs) (sym same_references)
        (subst (λ ts. MeetsConstraints m db ts (map facts.referential_constraint the.fkeys)) (sym same_tables) meets),
  )
