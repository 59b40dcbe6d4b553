-- How many statements, and rules of a table, a list of tokens spells.
use Rattle.std.proofs.Common.{◌≡◌, ℕ, ◌+◌, ◌≤◌, List, [], ◌∷◌, ◌++◌, length, length-append, inl, inr, refl, sym, ◌∙◌, ap, subst, Option, Some, None, arith}
use Rattle.grammar.specs.Form.{seq, star}
use Rattle.grammar.proofs.languages.Short.{short}
use Rattle.data_model.specs.Lists.{Each}
use Rattle.sql_lex.specs.Lexemes.{Lexeme}
use Rattle.sql_model.specs.declared.statement.NameAt.{NameAt}
use Rattle.sql_model.specs.declared.statement.TableRule.{TableRule}
use Rattle.sql_model.specs.declared.statement.Statement.{Statement}
use Rattle.sql_grammar.specs.Kinds.{kind_of}
use Rattle.sql_grammar.specs.Numbering.{Numbers, Built, each}
use Rattle.sql_grammar.specs.Queries.{of_production}
use Rattle.sql_grammar.specs.QueryEntries.{few_rules}
use Rattle.sql_grammar.proofs.entries.EntryTexts.{few_spell}
use Rattle.grammar.specs.Form.{language}
use Rattle.schema_read.specs.StatementTrees as t
use Rattle.schema_read.specs.StatementTrees.{Elements, all_elements}
use Rattle.schema_read.specs.StatementGrammar as g
use Rattle.schema_read.specs.Statements.{SpellsIn, Spells}
use Rattle.schema_read.specs.StatementLimits.{few_statements, few_entry_statements, rule_count}
use Rattle.schema_read.proofs.spelled.StatementParts.{Always, in_each, list_holds}
use Rattle.schema_read.proofs.spelled.Unlimited.{gl}

-- ---- statements

each_length : (bs : List (Built Statement)) (numbers : Numbers) → length ((each bs).build numbers).0 ≡ length bs
each_length [] numbers = refl
each_length (b ∷ bs) numbers = omega (arith, each_length bs (b.build numbers).1)

module _ (most : ℕ) (before after : Numbers) (ts : List Lexeme) (list : List Statement) where
  list_length : (read : Built (List Statement)) (bs : List (Built Statement)) → read ≡ each bs → read.build before ≡ (list, after) → length list ≡ length bs
  list_length read bs i e = ap (λ z. length z.0) (sym e) ∙ (ap (λ z. length (z.build before).0) i ∙ each_length bs before)

  pub few : SpellsIn (few_statements most) before ts list after → length list ≤ most
  few (read, (bs, (s, n), i), e) = omega (arith, n, list_length read bs i e)

  pub few_again : Spells before ts list after → length list ≤ most → SpellsIn (few_statements most) before ts list after
  few_again (read, (bs, s, i), e) n = (read, (bs, (s, omega (arith, n, list_length read bs i e)), i), e)

-- ---- rules

rules_in : List Elements → ℕ
rules_in es = length (all_elements es).rules

rules_of_one : (e : Elements) (es : List Elements) → rules_in (e ∷ es) ≡ length e.rules + rules_in es
unfolding rules_in
rules_of_one e es = length-append e.rules (all_elements es).rules

-- of texts one after the other
both : (ts x y : List Lexeme) (m n c : ℕ) → ts ≡ x ++ y → c ≡ m + n → m ≤ length x → n ≤ length y → c ≤ length ts
both ts x y m n c i e p q = omega (arith, ap length i, length-append x y, e, p, q)

second : (ts x y : List Lexeme) (n : ℕ) → ts ≡ x ++ y → n ≤ length y → n ≤ length ts
second ts x y n i p = omega (arith, ap length i, length-append x y, p)

first : (ts x y : List Lexeme) (n : ℕ) → ts ≡ x ++ y → n ≤ length x → n ≤ length ts
first ts x y n i p = omega (arith, ap length i, length-append x y, p)

one : (ts : List Lexeme) (t : Lexeme) → ts ≡ t ∷ [] → 1 ≤ length ts
one ts t i = omega (arith, ap length i)

counted : Option TableRule → ℕ
counted None = 0
counted (Some r) = 1

counted_rules : (r : Option TableRule) (rules : List TableRule) → length (t.before_rules r rules) ≡ counted r + length rules
unfolding counted
counted_rules None rules = omega arith
counted_rules (Some r) rules = omega arith

in_rule : (column : NameAt) (ts : List Lexeme) (f : NameAt → Option TableRule) → (gl g.column_rule).spells ts f → counted (f column) ≤ length ts
unfolding counted
in_rule column ts f (inl (u, s, i)) = subst (λ z. counted (z column) ≤ length ts) (sym i) (omega arith)
in_rule column ts f (inr (inl (u, (p, (x, y, e, w, r), j), i))) = subst (λ z. counted (z column) ≤ length ts) (sym i) (first ts x y 1 e (one x p.0 w.0))
in_rule column ts f (inr (inr (inl (u, s, i)))) = subst (λ z. counted (z column) ≤ length ts) (sym i) (one ts u s.0)
in_rule column ts f (inr (inr (inr (u, (p, (x, y, e, w, r), j), i)))) = subst (λ z. counted (z column) ≤ length ts) (sym i) (first ts x y 1 e (one x p.0 w.0))

in_rules : (column : NameAt) (ts : List Lexeme) (fs : List (NameAt → Option TableRule)) → (gl (star None g.column_rule)).spells ts fs → length (t.rules_of column fs) ≤ length ts
in_rules column ts [] s = omega arith
in_rules column ts (f ∷ fs) (x, y, e, s, r) =
    both ts x y (counted (f column)) (length (t.rules_of column fs)) (length (t.rules_of column (f ∷ fs))) e (counted_rules (f column) (t.rules_of column fs)) (in_rule column x f s) (in_rules column y fs r)

in_column : (ts : List Lexeme) (e : Elements) → (gl g.column).spells ts e → length e.rules ≤ length ts
in_column ts e (u, (x, y, i, name, (p, (x1, y1, i1, type, r), j)), l) =
    subst (λ z. length z.rules ≤ length ts) (sym l)
    (subst (λ z. length (t.rules_of (t.named u.0) z) ≤ length ts) (sym j) (second ts x y (length (t.rules_of (t.named u.0) p.1)) i (second y x1 y1 (length (t.rules_of (t.named u.0) p.1)) i1 (in_rules (t.named u.0) y1 p.1 r))))

in_table_rule : (ts : List Lexeme) (r : TableRule) → (gl g.table_rule).spells ts r → 1 ≤ length ts
in_table_rule ts r (inl (u, (x, y, e, (p, (x1, y1, e1, w, s), j), q), i)) = first ts x y 1 e (first x x1 y1 1 e1 (one x1 p.0 w.0))
in_table_rule ts r (inr (inl (u, (x, y, e, w, q), i))) = first ts x y 1 e (one x u.0 w.0)
in_table_rule ts r (inr (inr (u, (p, (x, y, e, (x1, y1, e1, w, s), q), j), i))) = first ts x y 1 e (first x x1 y1 1 e1 (one x1 p.0.0 w.0))

in_constraint : (ts : List Lexeme) (e : Elements) → (gl g.constraint).spells ts e → length e.rules ≤ length ts
in_constraint ts e (u, (p, (x, y, i, c, r), j), l) = subst (λ z. length z.rules ≤ length ts) (sym l) (second ts x y 1 i (in_table_rule y p.1 r))

in_element : (ts : List Lexeme) (e : Elements) → (gl g.element).spells ts e → length e.rules ≤ length ts
in_element ts e (inl s) = in_column ts e s
in_element ts e (inr s) = in_constraint ts e s

in_elements : (ts : List Lexeme) (es : List Elements) → (gl g.elements).spells ts es → rules_in es ≤ length ts
unfolding rules_in
in_elements ts [] s = omega arith
in_elements ts (e ∷ es) (x, y, i, (p, (x1, y1, i1, comma, r), j), s) =
    both ts x y (length e.rules) (rules_in es) (rules_in (e ∷ es)) i (rules_of_one e es)
    (subst (λ z. length z.rules ≤ length x) (sym j) (second x x1 y1 (length p.1.rules) i1 (in_element y1 p.1 r))) (in_elements y es s)

in_body : (ts : List Lexeme) (v : Elements × List Elements) → (gl (seq g.column g.elements)).spells ts v → length (t.with_elements v.0 (all_elements v.1)).rules ≤ length ts
unfolding rules_in
in_body ts v (x, y, i, s, r) = both ts x y (length v.0.rules) (rules_in v.1) _ i (length-append v.0.rules (all_elements v.1).rules) (in_column x v.0 s) (in_elements y v.1 r)

pub few_rules_spelled : (before after : Numbers) (ts : List Lexeme) (list : List Statement) → Spells before ts list after → Each (λ s. rule_count s ≤ length ts) list
few_rules_spelled before after ts list (read, (bs, s, i), e) = list_holds (λ s. rule_count s ≤ length ts) before after bs read list i e
    (in_each of_production g.elements (λ z. length z ≤ length ts) (λ z x y e n. (omega (arith, n, ap length e, length-append x y), omega (arith, n, ap length e, length-append x y))) (Always (λ s. rule_count s ≤ length ts))
    (λ name z v n s numbers. omega (arith, n, in_body z v s)) (λ name z q s numbers. omega arith) (λ unique name on columns numbers. omega arith) bs ts (omega arith) s)

-- ---- entries

pub few_entries_spelled : (most : ℕ) (before after : Numbers) (ts : List Lexeme) (list : List Statement) → length ts ≤ most → Spells before ts list after → SpellsIn (few_entry_statements most) before ts list after
few_entries_spelled most before after ts list n (read, s, e) =
    (read, short kind_of most of_production (language kind_of (few_rules most)) (few_spell most) g.statements ts read n s, e)
