-- Two well-formed queries of one width are equivalent where their terms mean the same of every row.
use Rattle.std.proofs.Common.{◌≡◌, ℕ, ◌<◌, ◌≤◌, false, List, [], ◌∷◌, length, refl, ap, sym, subst, ◌∙◌, arith, inl, inr}
use Rattle.std.specs.Prelude.{◌⊎◌, nat_eq, nat_lt}
use Rattle.std.proofs.lemmas.Bool.{cases_Bool}
use Rattle.std.proofs.lemmas.Bool.Decides.{nat_tests}
use Rattle.data_model.specs.Lists.{Each}
use Rattle.data_model.specs.Numbers.{one_if}
use Rattle.data_model.specs.Rows.{AllBelow, Row, IsRow, occurrences, same_row}
use Rattle.data_model.proofs.Occurrences.{same_row-is}
use Rattle.data_model.specs.Reading.{Reading, IsOn}
use Rattle.data_model.specs.Database.{Database}
use Rattle.sql_model.specs.declared.schema.Schema.{Schema}
use Rattle.sql_model.specs.Syntax.{Query}
use Rattle.sql_model.specs.Relations.{answer}
use Rattle.sql_model.specs.Meets.{Meets}
use Rattle.sql_model.specs.Equivalent.{Equivalent}
use Rattle.u_terms.specs.Meaning.{meaning}
use Rattle.scope_core.specs.ViewTrees.{tree_of, views_of}
use Rattle.scope_core.specs.WellFormed.{SchemaWellFormed, WellFormed}
use Rattle.scope_core.specs.Width.{width}
use Rattle.scope_core.proofs.schema.AnswersFit.{rows-are-wide}
use Rattle.scope_core.proofs.schema.Relations.{answer-resolved}
use Rattle.scope_core.proofs.schema.SoundTrees.{tree-sound, tree-width, views-sound}
use Rattle.sql_to_u.proofs.queries.Whole.{query-counts}
use Rattle.case_core.specs.declared.text.CaseText.{CaseText}
use Rattle.udp_run.specs.Cases.{AreComparable, term_of}

-- ---- rows that are none of this width over this domain
differ : (a b : ℕ) → nat_eq a b ≡ false → a ≡ b → ⊥
differ a b n e = absurd (grind (arith, nat_tests))

not_below : (a b : ℕ) → nat_lt a b ≡ false → a < b → ⊥
not_below a b n e = absurd (grind (arith, nat_tests))

are_below : (n : ℕ) (r : Row) → AllBelow n r ⊎ (AllBelow n r → ⊥)
are_below n [] = inl tt
are_below n (v ∷ r) = elim (cases_Bool (nat_lt v n)) [
  | inl low ↦ with_rest (grind (arith, nat_tests)) (are_below n r)
  | inr high ↦ inr (λ h. not_below v n high h.0)
]
  where
    with_rest : v < n → AllBelow n r ⊎ (AllBelow n r → ⊥) → AllBelow n (v ∷ r) ⊎ (AllBelow n (v ∷ r) → ⊥)
    with_rest low (inl rest) = inl (low, rest)
    with_rest low (inr none) = inr (λ h. none h.1)

is_row : (n wide : ℕ) (r : Row) → IsRow n wide r ⊎ (IsRow n wide r → ⊥)
is_row n wide r = elim (cases_Bool (nat_eq (length r) wide)) [
  | inl long ↦ with_values (grind (arith, nat_tests)) (are_below n r)
  | inr other ↦ inr (λ h. differ (length r) wide other h.long)
]
  where
    with_values : length r ≡ wide → AllBelow n r ⊎ (AllBelow n r → ⊥) → IsRow n wide r ⊎ (IsRow n wide r → ⊥)
    with_values long (inl small) = inl (record { long = long; small = small })
    with_values long (inr none) = inr (λ h. none h.small)

-- they occur in no list of rows of the width
absent : (r : Row) (n wide : ℕ) (rows : List Row) → Each (IsRow n wide) rows → (IsRow n wide r → ⊥) → occurrences r rows ≡ 0
absent r n wide [] h d = refl
absent r n wide (s ∷ rows) h d = elim (cases_Bool (same_row s r)) [
  | inl here ↦ absurd (d (subst (IsRow n wide) (same_row-is s r here) h.0))
  | inr other ↦ let e : one_if (same_row s r) ≡ 0 = ap one_if other in omega (arith, e, absent r n wide rows h.1 d)
]

module _ (schema : Schema) (fine : SchemaWellFormed schema) (n : ℕ) (some : 1 ≤ n) (reading : Reading) (on : IsOn n reading) (db : Database) (meets : Meets schema n db) (r : Row) where
  none : (query : Query) → WellFormed schema query → (IsRow n (width (tree_of schema query)) r → ⊥) → occurrences r (answer schema n reading db query) ≡ 0
  none query f d =
      ap (occurrences r) (sym (answer-resolved n reading db schema query fine f meets))
      ∙ absent r n (width (tree_of schema query)) _
      (rows-are-wide schema (views_of schema) (tree_of schema query) n reading db (views-sound schema fine) (tree-sound schema query fine f) some on meets) d

  same-count : (p q : Query) → WellFormed schema p → WellFormed schema q → width (tree_of schema p) ≡ width (tree_of schema q)
      → (AllBelow n r → meaning n reading db r [] (term_of schema p) ≡ meaning n reading db r [] (term_of schema q))
      → occurrences r (answer schema n reading db p) ≡ occurrences r (answer schema n reading db q)
  same-count p q f h one same = by (is_row n (width (tree_of schema p)) r)
    where
      by : IsRow n (width (tree_of schema p)) r ⊎ (IsRow n (width (tree_of schema p)) r → ⊥)
          → occurrences r (answer schema n reading db p) ≡ occurrences r (answer schema n reading db q)
      by (inl row) =
          sym (query-counts schema p n reading db r fine f some on meets row.long)
          ∙ (same row.small ∙ query-counts schema q n reading db r fine h some on meets (row.long ∙ one))
      by (inr other) = none p f other ∙ sym (none q h (λ row. other (subst (λ w. IsRow n w r) (sym one) row)))

pub equivalent : (schema : Schema) (written : CaseText) → AreComparable schema written
    → ((n : ℕ) (reading : Reading) (db : Database) (r : Row) → 0 < n → IsOn n reading → AllBelow n r → Meets schema n db
    → meaning n reading db r [] (term_of schema written.left) ≡ meaning n reading db r [] (term_of schema written.right))
    → Equivalent schema written.left written.right
equivalent schema written c same = λ n some reading on db meets r.
    let f = c.well_formed in
    same-count schema f.views n some reading on db meets r written.left written.right f.left f.right
    (tree-width schema written.left ∙ (c.one_width ∙ sym (tree-width schema written.right))) (λ below. same n reading db r some on below meets)
