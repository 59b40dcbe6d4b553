-- Further rules, and further statements, read one by one.
use Rattle.std.proofs.Common.{◌≡◌, ◌≢◌, ℕ, zero, suc, ◌-◌, ◌≤◌, ◌<◌, true, false, List, [], ◌∷◌, ◌++◌, length, length-append, Option, Ok, Err, refl, sym, ◌∙◌, ap, subst, arith}
use Rattle.sql_lex.specs.Lexemes.{Lexeme}
use Rattle.sql_model.specs.declared.statement.NameAt.{NameAt}
use Rattle.sql_model.specs.declared.statement.Statement.{Statement}
use Rattle.sql_model.specs.declared.statement.TableRule.{TableRule}
use Rattle.sql_cursor.specs.declared.fault.LimitKind.TheVariants as limit
use Rattle.sql_cursor.specs.declared.fault.ReadFault.{ReadFault}
use Rattle.sql_cursor.specs.declared.fault.ReadFault.TheVariants.{Limit, NoMemory}
use Rattle.sql_cursor.specs.Cursor.{Cursor}
use Rattle.sql_cursor.specs.Eating.{is_next}
use Rattle.sql_cursor.specs.Readers.{Gives, Reading, Stops, ◌>>=◌, refused}
use Rattle.sql_cursor.specs.Refusals.{refusal}
use Rattle.sql_grammar.specs.declared.kinds.Kind.TheVariants as k
use Rattle.sql_grammar.specs.Kinds.{among, same}
use Rattle.sql_read.proofs.code.Loops.{stops_first}
use Rattle.sql_read.proofs.steps.ReadUnlimited.{takes_tokens}
use Rattle.schema_read.specs.StatementLimits.{most_relations}
use Rattle.schema_read.specs.StatementReaders.{column_rule, ended_statement, further_rules, further_statements, rule_kinds}
use Rattle.schema_read.specs.StatementTrees as t
use Rattle.schema_read.proofs.agree.PlainSteps.{Spells}
use Rattle.schema_read.proofs.agree.StatementRules.{column_rule_agrees}
use Rattle.schema_read.specs.StatementGrammar as g

-- what stands next is refused
pub refused_given : (A : Type 0) (fault : ReadFault) (c : Cursor) → (fault ≢ NoMemory → fault ≡ refusal c) → Gives {A = A} (Err fault) c (refused c)
refused_given A NoMemory c n = tt
refused_given A other c n = ap (λ z. (Err z, c)) (sym (n (λ z. cc)))

-- ---- the rules behind a column

-- a rule takes tokens
pub rule_shorter : (column : NameAt) (rule : Option TableRule) (c d : Cursor) → column_rule column c ≡ (Ok rule, d) → length d.tokens < length c.tokens
rule_shorter column rule c d e =
    let t = subst (Spells g.column_rule 1 (λ rule_of. rule_of column) c) e (column_rule_agrees 1 (omega arith) column c) in takes_tokens refl refl t.reads.answers.takes

-- so many more rules may follow these
pub record Ruling (column : NameAt) (rules : List TableRule) (c : Cursor) (start : Reading (List TableRule)) : Type 0 where
  most : ℕ
  enough : length c.tokens ≤ most
  same_rules : further_rules column most rules c ≡ start

pub ruling : {column : NameAt} {rules : List TableRule} {c : Cursor} {start : Reading (List TableRule)} → further_rules column (length c.tokens) rules c ≡ start → Ruling column rules c start
ruling e = record { most = _; enough = omega arith; same_rules = e }

module _ {column : NameAt} {rules : List TableRule} {c : Cursor} {start : Reading (List TableRule)} (l : Ruling column rules c start) where
  pub no_rule : is_next (among rule_kinds) c.tokens ≡ false → start ≡ (Ok rules, c)
  unfolding further_rules
  no_rule n = sym l.same_rules ∙ go l.most
    where
      go : (most : ℕ) → further_rules column most rules c ≡ (Ok rules, c)
      go zero = refl
      go (suc most) = rw n refl

  module _ (n : is_next (among rule_kinds) c.tokens ≡ true) where
    begun : (most : ℕ) → length c.tokens ≤ most → further_rules column most rules c ≡ (column_rule column c >>= λ rule. further_rules column (most - 1) (rules ++ t.before_rules rule []))
    unfolding further_rules
    begun zero i = absurd (none c.tokens i n)
      where
        none : (ts : List Lexeme) → length ts ≤ 0 → is_next (among rule_kinds) ts ≡ true → ⊥
        none [] i n = cc
        none (x ∷ ts) i n = omega (arith, i)
    begun (suc most) i = let fewer : suc most - 1 ≡ most = omega arith in rw (n, fewer) refl

    pub rule_stops : (fault : ReadFault) (d : Cursor) → Stops fault d (column_rule column c) → Stops fault d start
    rule_stops fault d s = subst (Stops fault d) (sym (begun l.most l.enough) ∙ l.same_rules) (stops_first fault d (column_rule column c) _ s)

    pub rule_read : (rule : Option TableRule) (d : Cursor) → column_rule column c ≡ (Ok rule, d) → Ruling column (rules ++ t.before_rules rule []) d start
    rule_read rule d e = let shorter = rule_shorter column rule c d e in record {
      most = l.most - 1;
      enough = omega (arith, shorter, l.enough);
      same_rules = sym (begun l.most l.enough ∙ rw e refl) ∙ l.same_rules;
    }

-- ---- statements

module _ (list : List Statement) (c : Cursor) (start : Reading (List Statement)) (l : further_statements (most_relations - length list) list c ≡ start) where
  pub none_begins : is_next (same k.Create) c.tokens ≡ false → start ≡ (Ok list, c)
  unfolding further_statements
  none_begins n = sym l ∙ go (most_relations - length list)
    where
      go : (room : ℕ) → further_statements room list c ≡ (Ok list, c)
      go zero = rw n refl
      go (suc room) = rw n refl

  module _ (n : is_next (same k.Create) c.tokens ≡ true) where
    pub too_many : length list ≡ most_relations → start ≡ (Err (Limit limit.Relations), c)
    unfolding further_statements
    too_many full = sym l ∙ go (most_relations - length list) (omega (arith, full))
      where
        go : (room : ℕ) → room ≡ 0 → further_statements room list c ≡ (Err (Limit limit.Relations), c)
        go room e = rw (e, n) refl

    module _ (fits : length list < most_relations) where
      begins_one : further_statements (most_relations - length list) list c ≡ (ended_statement c >>= λ next. further_statements (most_relations - length list - 1) (list ++ next ∷ []))
      unfolding further_statements
      begins_one = go (most_relations - length list) (omega (arith, fits))
        where
          go : (room : ℕ) → 0 < room → further_statements room list c ≡ (ended_statement c >>= λ next. further_statements (room - 1) (list ++ next ∷ []))
          go zero i = absurd (omega (arith, i))
          go (suc room) i = let fewer : suc room - 1 ≡ room = omega arith in rw (n, fewer) refl

      pub statement_stops : (fault : ReadFault) (d : Cursor) → Stops fault d (ended_statement c) → Stops fault d start
      statement_stops fault d s = subst (Stops fault d) (sym begins_one ∙ l) (stops_first fault d (ended_statement c) _ s)

      pub statement_read : (next : Statement) (d : Cursor) → ended_statement c ≡ (Ok next, d) → further_statements (most_relations - length (list ++ next ∷ [])) (list ++ next ∷ []) d ≡ start
      statement_read next d e =
          let room : most_relations - length (list ++ next ∷ []) ≡ most_relations - length list - 1 = omega (arith, length-append list (next ∷ [])) in
          ap (λ room. further_statements room (list ++ next ∷ []) d) room ∙ (sym (begins_one ∙ rw e refl) ∙ l)
