-- What holds of the parts of statements holds of statements, and what is spelled anew in their parts is spelled anew in them.
use Rattle.std.proofs.Common.{◌≡◌, List, [], ◌∷◌, ◌++◌, Option, None, inl, inr, sym, ◌∙◌, ap, subst}
use Rattle.grammar.specs.Form.{Room, form_language, seq}
use Rattle.grammar.specs.Language.{Concatenates, Language}
use Rattle.data_model.specs.Lists.{Each}
use Rattle.sql_lex.specs.Lexemes.{Lexeme}
use Rattle.sql_model.specs.declared.statement.NameAt.{NameAt}
use Rattle.sql_model.specs.declared.statement.Statement.{Statement}
use Rattle.sql_model.specs.declared.statement.Statement.TheVariants as statement
use Rattle.sql_model.specs.declared.tree.Query.{Query}
use Rattle.sql_grammar.specs.Kinds.{kind_of}
use Rattle.sql_grammar.specs.Numbering.{Built, Numbers, each}
use Rattle.sql_grammar.specs.QueryGrammar.{Production, Read, The, query}
use Rattle.sql_grammar.proofs.entries.Fits.{Once, once_each, once_mapped, spelled_anew}
use Rattle.schema_read.specs.StatementGrammar as g
use Rattle.schema_read.specs.StatementTrees as t
use Rattle.schema_read.specs.StatementTrees.{Elements}
use Rattle.schema_read.specs.Statements.{SpellsIn}

-- the languages of the names of queries
abbrev pub Names : Type 1
Names = Room → (p : Production) → Language Lexeme (Read p)

abbrev pub el : {A : Type 0} → Names → The A → Language Lexeme A
el E f = form_language kind_of E None f

-- ---- H holds of each statement, where it holds of what is made of its parts

-- N holds of a text, and so of what stands in it
module _ (E : Names) (others : The (List Elements)) (N : List Lexeme → Type 0) (parts : (ts x y : List Lexeme) → ts ≡ x ++ y → N ts → N x × N y) (H : Built Statement → Type 0)
    (table : (name : Lexeme) (ts : List Lexeme) (v : Elements × List Elements) → N ts → (el E (seq g.column others)).spells ts v → H (t.table name v.0 v.1))
    (view : (name : Lexeme) (ts : List Lexeme) (q : Built Query) → (E None query).spells ts q → H (t.view name q))
    (index : (unique : Option Lexeme) (name on : Lexeme) (columns : List NameAt) → H (t.index unique name on columns)) where
  in_table : (ts : List Lexeme) (b : Built Statement) → N ts → (el E (g.table_with others)).spells ts b → H b
  in_table ts b n (u, (p, (x, y, e, word, (x1, y1, e1, name, (q, (x2, y2, e2, open_, (r, (x3, y3, e3, s, close_), h)), l))), k), j) =
      let inside = (parts y2 x3 y3 e3 (parts y1 x2 y2 e2 (parts y x1 y1 e1 (parts ts x y e n).1).1).1).0 in
      subst H (sym (j ∙ ap (λ z. t.table z.0 z.1.0 z.1.1) (k ∙ ap (λ z. (p.1.0, z)) (l ∙ h)))) (table p.1.0 x3 r.0 inside s)

  in_statement : (ts : List Lexeme) (b : Built Statement) → N ts → (el E (g.statement_with others)).spells ts b → H b
  in_statement ts b n (p, (x, y, e, word, inl s), i) = subst H (sym i) (in_table y p.1 (parts ts x y e n).1 s)
  in_statement ts b n (p, (x, y, e, word, inr (inl (u, (o, (x1, y1, e1, c, (x2, y2, e2, d, (q, (x3, y3, e3, a, s), h))), k), j))), i) =
      subst H (sym (i ∙ (j ∙ ap (λ z. t.view z.0 z.1) (k ∙ ap (λ z. (o.1.0, z)) h)))) (view o.1.0 y3 q.1 s)
  in_statement ts b n (p, (x, y, e, word, inr (inr (u, s, j))), i) = subst H (sym (i ∙ j)) (index u.0 u.1.0 u.1.1.0 u.1.1.1)

  in_ended : (ts : List Lexeme) (b : Built Statement) → N ts → (el E (g.ended_with others)).spells ts b → H b
  in_ended ts b n (p, (x, y, e, s, end), i) = subst H (sym i) (in_statement x p.0 (parts ts x y e n).0 s)

  pub in_each : (bs : List (Built Statement)) (ts : List Lexeme) → N ts → Concatenates (el E (g.ended_with others)).spells ts bs → Each H bs
  in_each [] ts n s = tt
  in_each (b ∷ bs) ts n (x, y, e, s, r) = (in_ended x b (parts ts x y e n).0 s, in_each bs y (parts ts x y e n).1 r)

-- ---- whatever numbers stand before them

abbrev pub Always : (Statement → Type 0) → Built Statement → Type 0
Always P b = (numbers : Numbers) → P (b.build numbers).0

each_built : (P : Statement → Type 0) (bs : List (Built Statement)) → Each (Always P) bs → (numbers : Numbers) → Each P ((each bs).build numbers).0
each_built P [] all numbers = tt
each_built P (b ∷ bs) all numbers = (all.0 numbers, each_built P bs all.1 (b.build numbers).1)

pub list_holds : (P : Statement → Type 0) (before after : Numbers) (bs : List (Built Statement)) (read : Built (List Statement)) (list : List Statement) → read ≡ each bs → read.build before ≡ (list, after)
    → Each (Always P) bs → Each P list
list_holds P before after bs read list i e all = subst (Each P) (ap (λ z. (z.build before).0) (sym i) ∙ ap (λ z. z.0) e) (each_built P bs all before)

-- ---- and back, of statements of which P holds

module _ (E E' : Names) (others others' : The (List Elements)) (P : Statement → Type 0)
    (table : (name : NameAt) (ts : List Lexeme) (v : Elements × List Elements) → (el E (seq g.column others)).spells ts v → P (t.table_of name (t.with_elements v.0 (t.all_elements v.1)))
    → (el E' (seq g.column others')).spells ts v)
    (view : (name : NameAt) (ts : List Lexeme) (q : Built Query) → (E None query).spells ts q → Once (λ z. P (statement.View name z)) q → (E' None query).spells ts q) where
  statement_again : (ts : List Lexeme) (b : Built Statement) → (el E (g.statement_with others)).spells ts b → Once P b → (el E' (g.statement_with others')).spells ts b
  statement_again ts b (p, (x, y, e, w, inl (u, (o, (x1, y1, e1, c, (x2, y2, e2, d, (q, (x3, y3, e3, open_, (r, (x4, y4, e4, s, close_), h)), l))), k), j)), i) f =
      let body = table (t.named o.1.0) x4 r.0 s (subst (Once P) (i ∙ (j ∙ ap (λ z. t.table z.0 z.1.0 z.1.1) (k ∙ ap (λ z. (o.1.0, z)) (l ∙ h)))) f).holds in
      (p, (x, y, e, w, inl (u, (o, (x1, y1, e1, c, (x2, y2, e2, d, (q, (x3, y3, e3, open_, (r, (x4, y4, e4, body, close_), h)), l))), k), j)), i)
  statement_again ts b (p, (x, y, e, w, inr (inl (u, (o, (x1, y1, e1, c, (x2, y2, e2, d, (q, (x3, y3, e3, a, s), h))), k), j))), i) f =
      let one : Once (λ z. P (statement.View (t.named o.1.0) z)) q.1 =
      once_mapped (λ z. statement.View (t.named o.1.0) z) (λ z g. g) (subst (Once P) (i ∙ (j ∙ ap (λ z. t.view z.0 z.1) (k ∙ ap (λ z. (o.1.0, z)) h))) f) in
      (p, (x, y, e, w, inr (inl (u, (o, (x1, y1, e1, c, (x2, y2, e2, d, (q, (x3, y3, e3, a, view (t.named o.1.0) y3 q.1 s one), h))), k), j))), i)
  statement_again ts b (p, (x, y, e, w, inr (inr s)), i) f = (p, (x, y, e, w, inr (inr s)), i)

  ended_again : (ts : List Lexeme) (b : Built Statement) → (el E (g.ended_with others)).spells ts b → Once P b → (el E' (g.ended_with others')).spells ts b
  ended_again ts b (p, (x, y, e, s, end), i) f = (p, (x, y, e, statement_again x p.0 s (subst (Once P) i f), end), i)

  pub list_again : (before after : Numbers) (ts : List Lexeme) (list : List Statement) → SpellsIn (el E (g.statements_with others)) before ts list after → Each P list
      → SpellsIn (el E' (g.statements_with others')) before ts list after
  list_again before after ts list (read, (bs, s, i), e) f =
      let built : Once (Each P) (each bs) = record { numbers = before; holds = subst (Each P) (sym (ap (λ z. (z.build before).0) (sym i) ∙ ap (λ z. z.0) e)) f } in
      (read, (bs, spelled_anew ended_again bs ts s (once_each bs built), i), e)
