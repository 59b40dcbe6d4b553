-- The statements whose tables have few columns are those that are spelled so.
use Rattle.std.proofs.Common.{◌≡◌, ℕ, zero, suc, ◌+◌, ◌≤◌, List, [], ◌∷◌, ◌++◌, length, length-append, inl, inr, refl, sym, ◌∙◌, ap, subst, append_assoc, None, arith}
use Rattle.grammar.specs.Language.{Language}
use Rattle.grammar.specs.Form.{seq}
use Rattle.grammar.specs.Productions.{skip_then}
use Rattle.data_model.specs.Lists.{Each}
use Rattle.sql_lex.specs.Lexemes.{Lexeme}
use Rattle.sql_model.specs.declared.statement.Statement.{Statement}
use Rattle.sql_grammar.specs.declared.kinds.Kind.TheVariants as k
use Rattle.sql_grammar.specs.Numbering.{Numbers}
use Rattle.sql_grammar.specs.QueryGrammar.{The, a}
use Rattle.schema_read.specs.StatementTrees.{Elements, all_elements}
use Rattle.schema_read.specs.StatementGrammar as g
use Rattle.schema_read.specs.Statements.{SpellsIn, Spells}
use Rattle.sql_grammar.specs.Queries.{of_form, of_production}
use Rattle.schema_read.specs.StatementLimits.{constraints, few_columns, narrow_statements, column_count}
use Rattle.schema_read.proofs.spelled.StatementParts.{Always, in_each, list_again, list_holds}

abbrev gl : {A : Type 0} → The A → Language Lexeme A
gl f = of_form None f

abbrev columns_in : List Elements → ℕ
columns_in es = length (all_elements es).columns

-- ---- elements

columns_of_both : (es others : List Elements) → columns_in (es ++ others) ≡ columns_in es + columns_in others
columns_of_both [] others = omega arith
columns_of_both (e ∷ es) others =
    omega (arith, columns_of_both es others, length-append e.columns (all_elements (es ++ others)).columns, length-append e.columns (all_elements es).columns)

columns_of_one : (e : Elements) (es : List Elements) → columns_in (e ∷ es) ≡ length e.columns + columns_in es
columns_of_one e es = length-append e.columns (all_elements es).columns

pub in_rule : (ts : List Lexeme) (e : Elements) → (gl g.constraint).spells ts e → length e.columns ≡ 0
in_rule ts e (r, s, j) = ap (λ z. length z.columns) j

in_constraint : (ts : List Lexeme) (e : Elements) → (gl (skip_then (a k.Comma) g.constraint)).spells ts e → length e.columns ≡ 0
in_constraint ts e (p, (x, y, i, c, s), l) = ap (λ z. length z.columns) l ∙ in_rule y p.1 s

pub in_column : (ts : List Lexeme) (e : Elements) → (gl g.column).spells ts e → length e.columns ≡ 1
in_column ts e (p, s, i) = ap (λ z. length z.columns) i

in_next_column : (ts : List Lexeme) (e : Elements) → (gl (skip_then (a k.Comma) g.column)).spells ts e → length e.columns ≡ 1
in_next_column ts e (p, (x, y, i, c, s), l) = ap (λ z. length z.columns) l ∙ in_column y p.1 s

in_constraints : (ts : List Lexeme) (es : List Elements) → (gl constraints).spells ts es → columns_in es ≡ 0
in_constraints ts [] s = refl
in_constraints ts (e ∷ es) (x, y, i, s, r) = omega (arith, columns_of_one e es, in_constraint x e s, in_constraints y es r)

in_few : (m : ℕ) (ts : List Lexeme) (es : List Elements) → (gl (few_columns m)).spells ts es → columns_in es ≤ m
in_few zero ts es s = omega (arith, in_constraints ts es s)
in_few (suc m) ts es (p, (x, y, i, s, inl (u, e, j)), l) =
    omega (arith, ap columns_in l, columns_of_both p.0 p.1, in_constraints x p.0 s, ap columns_in j)
in_few (suc m) ts es (p, (x, y, i, s, inr (u, (x1, y1, i1, c, f), j)), l) =
    omega (arith, ap columns_in l, columns_of_both p.0 p.1, in_constraints x p.0 s, ap columns_in j, columns_of_one u.0 u.1, in_next_column x1 u.0 c, in_few m y1 u.1 f)

-- ---- few columns, from any elements

no_constraints : (gl constraints).spells [] []
no_constraints = refl

one_more_constraint : (m : ℕ) (ts x y : List Lexeme) (e : Elements) (es : List Elements) → ts ≡ x ++ y → (gl (skip_then (a k.Comma) g.constraint)).spells x e → (gl (few_columns m)).spells y es → (gl (few_columns m)).spells ts (e ∷ es)
one_more_constraint zero ts x y e es i c s = (x, y, i, c, s)
one_more_constraint (suc m) ts x y e es i c (p, (x1, y1, i1, s, r), l) =
    ((e ∷ p.0, p.1), (x ++ x1, y1, i ∙ (ap (λ z. x ++ z) i1 ∙ sym (append_assoc x x1 y1)), (x, x1, refl, c, s), r), ap (λ z. e ∷ z) l)

one_more_column : (m : ℕ) (ts x y : List Lexeme) (e : Elements) (es : List Elements) → ts ≡ x ++ y → (gl (skip_then (a k.Comma) g.column)).spells x e → (gl (few_columns m)).spells y es → (gl (few_columns (suc m))).spells ts (e ∷ es)
one_more_column m ts x y e es i c s = (([], e ∷ es), ([], ts, refl, no_constraints, inr ((e, es), (x, y, i, c, s), refl)), refl)

none_more : (m : ℕ) (ts : List Lexeme) → ts ≡ [] → (gl (few_columns m)).spells ts []
none_more zero ts e = e
none_more (suc m) ts e = (([], []), ([], ts, refl, no_constraints, inl (tt, e, refl)), refl)

fewer : (m count others : ℕ) → count ≡ 1 + others → count ≤ m → (n : ℕ) × (m ≡ suc n) × (others ≤ n)
fewer zero count others e l = absurd (omega (arith, e, l))
fewer (suc n) count others e l = (n, refl, omega (arith, e, l))

few_again : (es : List Elements) (m : ℕ) (ts : List Lexeme) → (gl g.elements).spells ts es → columns_in es ≤ m → (gl (few_columns m)).spells ts es
few_again [] m ts s n = none_more m ts s
few_again (e ∷ es) m ts (x, y, i, (p, (x1, y1, i1, c, inl d), l), r) n =
    let next : (gl (skip_then (a k.Comma) g.column)).spells x e = (p, (x1, y1, i1, c, d), l) in
    let f = fewer m (columns_in (e ∷ es)) (columns_in es) (columns_of_one e es ∙ ap (λ z. z + columns_in es) (in_next_column x e next)) n in
    subst (λ z. (gl (few_columns z)).spells ts (e ∷ es)) (sym f.1) (one_more_column f.0 ts x y e es i next (few_again es f.0 y r f.2))
few_again (e ∷ es) m ts (x, y, i, (p, (x1, y1, i1, c, inr d), l), r) n =
    let next : (gl (skip_then (a k.Comma) g.constraint)).spells x e = (p, (x1, y1, i1, c, d), l) in
    one_more_constraint m ts x y e es i next (few_again es m y r (omega (arith, columns_of_one e es, in_constraint x e next, n)))

-- ---- statements

abbrev body : The (List Elements) → The (Elements × List Elements)
body others = seq g.column others

module _ (m : ℕ) where
  abbrev Few : Statement → Type 0
  Few s = column_count s ≤ suc m

  in_body : (ts : List Lexeme) (v : Elements × List Elements) → (gl (body (few_columns m))).spells ts v → columns_in (v.0 ∷ v.1) ≤ suc m
  in_body ts v (x, y, e, s, r) = omega (arith, columns_of_one v.0 v.1, in_column x v.0 s, in_few m y v.1 r)

  pub narrow : (before after : Numbers) (ts : List Lexeme) (list : List Statement) → SpellsIn (narrow_statements m) before ts list after → Each Few list
  narrow before after ts list (read, (bs, s, i), e) = list_holds Few before after bs read list i e (in_each of_production (few_columns m) (λ ts. Unit {0}) (λ ts x y e n. (tt, tt)) (Always Few)
      (λ name ts v n s numbers. in_body ts v s) (λ name ts q s numbers. omega arith) (λ unique name on columns numbers. omega arith) bs ts tt s)

  -- ---- and back

  again_body : (ts : List Lexeme) (v : Elements × List Elements) → (gl (body g.elements)).spells ts v → columns_in (v.0 ∷ v.1) ≤ suc m → (gl (body (few_columns m))).spells ts v
  again_body ts v (x, y, e, s, r) n = (x, y, e, s, few_again v.1 m y r (omega (arith, columns_of_one v.0 v.1, in_column x v.0 s, n)))

  pub narrow_again : (before after : Numbers) (ts : List Lexeme) (list : List Statement) → Spells before ts list after → Each Few list → SpellsIn (narrow_statements m) before ts list after
  narrow_again = list_again of_production of_production g.elements (few_columns m) Few (λ name ts v s n. again_body ts v s n) (λ name ts q s o. s)
