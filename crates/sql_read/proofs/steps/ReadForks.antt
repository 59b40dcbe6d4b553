-- How a reader goes on by what it has read: a query or an expression in parentheses, and `name.*` or a first part.
use Rattle.std.proofs.Common.{◌≡◌, true, ℕ, List, ◌⊎◌, inl, inr, None, ap}
use Rattle.grammar.specs.Form.{map, fork}
use Rattle.grammar.specs.Language.{Language}
use Rattle.grammar.proofs.readers.Predictions.{ok}
use Rattle.grammar.proofs.readers.Residuals as r
use Rattle.grammar.proofs.readers.Steps.{map_took}
use Rattle.sql_lex.specs.Lexemes.{Lexeme}
use Rattle.sql_model.specs.declared.tree.Expr.{Expr}
use Rattle.sql_model.specs.declared.tree.Item.{Item}
use Rattle.sql_read.specs.declared.reading.item.Starred.TheVariants as read_starred
use Rattle.sql_cursor.specs.Cursor.{Cursor}
use Rattle.sql_grammar.specs.Numbering.{Built, mapped}
use Rattle.sql_read.specs.Parts.{built_starred}
use Rattle.sql_grammar.specs.QueryGrammar.{The}
use Rattle.sql_grammar.specs.FactoredQueries.{Starred, in_factored}
use Rattle.sql_grammar.specs.QueryTrees as t
use Rattle.sql_read.specs.Reads.{Told, few_form, Builds, Takes, TakesWithin}
use Rattle.sql_grammar.proofs.queries.QueryTable.{left_factored}
use Rattle.sql_read.proofs.steps.ReadSteps.{BlocksOf, LeftOf, deep_within, entries_within}

-- ---- what goes by the first's value

module _ {A : Type 0} {told : Told} {N : The A} {NB : Language Lexeme A} {m : ℕ} {start : List Lexeme} {C D E : Type 0} {f : The (C ⊎ D)} {e : The (C → E)} {i : The (D → E)} {d : ℕ} {here : List Lexeme} {h : E → A} where
  pub forks : LeftOf told (fork f e i) d here N NB m start h → ok left_factored (fork f e i) ≡ true → BlocksOf told f (few_form f) d here N NB m start
  unfolding few_form
  forks l o = record {
    halts = record {
      failed = r.left_fork_failed left_factored _ _ start f e i _ _ _ (deep_within d f) (deep_within d e) (deep_within d i) o here h l.residual;
      exceeded = r.left_fork_exceeded left_factored _ _ start f e i _ _ _ (deep_within d f) (deep_within d e) (deep_within d i) o here h l.residual;
      began = r.left_fork_began left_factored _ _ start f e i _ _ _ (deep_within d f) (deep_within d e) (deep_within d i) o here h l.residual;
    };
    few = λ n. record {
      failed = r.left_fork_failed left_factored _ _ start f e i (few_form f) (few_form e) (few_form i) (entries_within f) (entries_within e) (entries_within i) o here h (l.few n);
      exceeded = r.left_fork_exceeded left_factored _ _ start f e i (few_form f) (few_form e) (few_form i) (entries_within f) (entries_within e) (entries_within i) o here h (l.few n);
      began = r.left_fork_began left_factored _ _ start f e i (few_form f) (few_form e) (few_form i) (entries_within f) (entries_within e) (entries_within i) o here h (l.few n);
    };
  }

  pub of_first : {v : C} {mid : List Lexeme} → LeftOf told (fork f e i) d here N NB m start h → ok left_factored (fork f e i) ≡ true → TakesWithin told f (few_form f) d here (inl v) mid
      → LeftOf told e d mid N NB m start (λ k. h (k v))
  unfolding few_form
  of_first {v = v} {mid = mid} l o s = record {
    residual = r.left_of_first left_factored _ _ start f e i _ _ _ (deep_within d f) (deep_within d e) (deep_within d i) o here h l.residual v mid s.took;
    few = λ n. r.left_of_first left_factored _ _ start f e i (few_form f) (few_form e) (few_form i) (entries_within f) (entries_within e) (entries_within i) o here h (l.few n) v mid (s.few n);
  }

  pub of_other : {v : D} {mid : List Lexeme} → LeftOf told (fork f e i) d here N NB m start h → ok left_factored (fork f e i) ≡ true → TakesWithin told f (few_form f) d here (inr v) mid
      → LeftOf told i d mid N NB m start (λ k. h (k v))
  unfolding few_form
  of_other {v = v} {mid = mid} l o s = record {
    residual = r.left_of_other left_factored _ _ start f e i _ _ _ (deep_within d f) (deep_within d e) (deep_within d i) o here h l.residual v mid s.took;
    few = λ n. r.left_of_other left_factored _ _ start f e i (few_form f) (few_form e) (few_form i) (entries_within f) (entries_within e) (entries_within i) o here h (l.few n) v mid (s.few n);
  }

pub takes_mapped : {C D : Type 0} {told : Told} {f : The C} {d : ℕ} {here rest : List Lexeme} {v : C} (k : C → D) → TakesWithin told f (few_form f) d here v rest
    → TakesWithin told (map k f) (few_form (map k f)) d here (k v) rest
unfolding few_form
takes_mapped {f = f} {here = here} {rest = rest} {v = v} k s = record { took = map_took _ _ k here v rest s.took; few = λ n. map_took (in_factored None f) (few_form f) k here v rest (s.few n) }

-- ---- what was built, from what stands around it

pair : {X Y : Type 0} {x : X} {y : Y} (p : X × Y) → p.0 ≡ x → p.1 ≡ y → p ≡ (x, y)
pair (a, b) e i = cc

-- a value under a node is built as the node is
pub unmapped : {X Y : Type 0} {built : Built X} {x : X} {a b : Cursor} (f : X → Y) → ((x y : X) → f x ≡ f y → x ≡ y) → Builds (mapped f built) a (f x) b → Builds built a x b
unmapped {built = built} {a = a} f one u =
    record { numbers = pair (built.build a.numbers) (one _ _ (ap (λ p. p.0) u.numbers)) (ap (λ p. p.1) u.numbers); copies = u.copies }

-- no value is under two nodes
pub not_both : {X Y Z : Type 0} {built : Built X} {z : Z} {a b : Cursor} (f : X → Y) (g : Z → Y) → ((x : X) (z : Z) → f x ≡ g z → ⊥) → Builds (mapped f built) a (g z) b → ⊥
not_both f g apart u = apart _ _ (ap (λ p. p.0) u.numbers)

-- ---- names, or `name.*`

-- the name behind which the star stands
pub record IsStar (f : The Starred) (d : ℕ) (start before : Cursor) (item : Item) (after : Cursor) : Type 0 where
  pub qual : Lexeme
  pub takes : Takes f d before.tokens (inl qual) after.tokens
  pub builds : Builds (t.alias_star_item qual) start item after

-- the first part of an expression
pub record IsFirst (f : The Starred) (d : ℕ) (start before : Cursor) (first : Expr) (after : Cursor) : Type 0 where
  pub built : Built Expr
  pub takes : Takes f d before.tokens (inr built) after.tokens
  pub builds : Builds built start first after

module _ {f : The Starred} {d : ℕ} {start before after : Cursor} where
  pub star_of : {item : Item} (read : Starred) → Takes f d before.tokens read after.tokens → Builds (built_starred read) start (read_starred.All item) after
      → IsStar f d start before item after
  star_of (inl qual) s u = record { qual = qual; takes = s; builds = unmapped {built = t.alias_star_item qual} (λ y. read_starred.All y) (λ x y e. cc) u }
  star_of {item = item} (inr x) s u = absurd (not_both {built = x} (λ y. read_starred.First y) (λ y. read_starred.All y) (λ x y e. cc) u)

  pub first_of : {first : Expr} (read : Starred) → Takes f d before.tokens read after.tokens → Builds (built_starred read) start (read_starred.First first) after
      → IsFirst f d start before first after
  first_of (inl qual) s u = absurd (not_both {built = t.alias_star_item qual} (λ y. read_starred.All y) (λ y. read_starred.First y) (λ x y e. cc) u)
  first_of (inr x) s u = record { built = x; takes = s; builds = unmapped {built = x} (λ y. read_starred.First y) (λ x y e. cc) u }
