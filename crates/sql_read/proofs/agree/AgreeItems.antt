-- The readers of items and of the names behind them agree with the left-factored grammar.
use Rattle.std.proofs.Common.{◌≡◌, ℕ, Bool, ◌||◌, ◌∷◌, codes, Option, Some, None, refl, arith, inl, inr, []}
use Rattle.grammar.specs.Form.{seq}
use Rattle.grammar.specs.Productions.{optional}
use Rattle.sql_lex.specs.Lexemes.{Lexeme}
use Rattle.sql_read.specs.declared.reading.item.Starred.{Starred}
use Rattle.sql_read.specs.declared.reading.item.Starred.TheVariants as starred
use Rattle.sql_cursor.specs.Cursor.{Cursor}
use Rattle.sql_cursor.specs.Eating.{Passes}
use Rattle.sql_read.specs.Parts.{built_starred}
use Rattle.sql_read.specs.Reads.{Builds}
use Rattle.sql_read.specs.Reading.{Deeper, alias, column_or_star, item_name, name_or_star, optional_alias, table_entry, table_named}
use Rattle.sql_cursor.specs.Readers.{Reading}
use Rattle.sql_grammar.specs.declared.kinds.Kind.TheVariants as kind
use Rattle.sql_grammar.specs.declared.kinds.Kind.{Kind}
use Rattle.sql_grammar.specs.Kinds.{among, name_kinds, same}
use Rattle.sql_grammar.specs.Numbering.{plain}
use Rattle.sql_grammar.specs.QueryGrammar as grammar
use Rattle.sql_grammar.specs.QueryGrammar.{The, name}
use Rattle.sql_grammar.specs.FactoredQueries as factored
use Rattle.sql_grammar.specs.FactoredQueries.{dot_star_or_name, star_or_column}
use Rattle.sql_grammar.specs.QueryTrees as t
use Rattle.sql_grammar.proofs.copies.QueryFillings.{fill_absent, fill_seq, fill_token_of, fill_second, Filled, word}
use Rattle.sql_read.proofs.steps.AgreeSteps.{ends_alike, none_here, token_agrees}
use Rattle.sql_read.proofs.steps.Agreeing.{Agrees, behind, behind_taken, built, by_eaten, by_eaten_last, by_token, makes, mapped, needs, needs_last, other_unless, Residual, whole}
use Rattle.sql_cursor.proofs.code.Extending.{extends_itself, extends_passes}
use Rattle.sql_read.proofs.steps.ReadLoops.{takes}
use Rattle.sql_read.proofs.steps.ReadPassing.{◌then◌, alike_passes, built_from, neither_next}
use Rattle.sql_read.proofs.steps.ReadSteps as steps
use Rattle.sql_read.proofs.steps.ReadSteps.{before, built_map, built_plain, none_taken, plain_here, some_left, starts, took_token}
use Rattle.sql_read.proofs.steps.AgreeDeeper.{DeeperAgrees}
use Rattle.sql_read.proofs.agree.AgreePrimaries.{words_agree}

abbrev names : Kind → Bool
names = among name_kinds

fill_name : Filled name (word (codes "a"))
fill_name = fill_token_of name_kinds (word (codes "a")) refl refl

pub fill_alias : Filled grammar.alias (word (codes "a"))
fill_alias = fill_second (fill_absent (grammar.a kind.As)) fill_name

-- ---- aliases

module _ (levels : ℕ) where
  -- the name behind AS
  name_behind : {N : Type 0} {M : The N} {c mid : Cursor} {word : Lexeme} {h : Lexeme → N} → Residual grammar.alias levels c M levels c h → Passes (same kind.As) c word mid → Residual name levels mid M levels c h
  name_behind l q = behind_taken (mapped l) refl (takes (some_left steps.whole refl q (starts q)) (took_token levels q)) (extends_passes q)

  pub alias_agrees : (c : Cursor) → Agrees grammar.alias levels plain plain c c (alias c)
  unfolding alias
  alias_agrees c = by_eaten (Agrees grammar.alias levels plain plain c c) (same kind.As) c _
      (λ word mid q. ends_alike _ (name_behind whole q) (alike_passes q) (token_agrees fill_name mid))
      (λ n. ends_alike _ (behind_taken (mapped whole) refl (none_taken levels refl refl (none_here (same kind.As) c n)) extends_itself) (record { numbers = refl; copies = refl }) (token_agrees fill_name c))

  abbrev Aliased : Cursor → Reading (Option Lexeme) → Type 0
  Aliased c r = Agrees (optional grammar.alias) levels plain plain c c r

  pub optional_alias_agrees : (c : Cursor) → Agrees (optional grammar.alias) levels plain plain c c (optional_alias c)
  unfolding optional_alias
  optional_alias_agrees c = by_eaten (Aliased c) (same kind.As) c _
      (λ word mid q. makes _ (λ name. Some name) (name_behind (mapped (by_token whole refl q (inl (inl (starts q))))) q) (λ v. omega (arith, (alike_passes q).copies))
      (λ v y end b. built_map (λ name. Some name) (built_from (alike_passes q) b)) (token_agrees fill_name mid))
      (λ n. let no_as = none_here (same kind.As) c n in
      by_eaten_last (Aliased c) names c
      (λ found mid q. built (behind_taken (mapped (mapped (by_token whole refl q (inr ([], found ∷ [], None, refl, inr (tt, refl, refl), starts q))))) refl (none_taken levels refl refl no_as) extends_itself)
      found (took_token levels q) (extends_passes q) (before plain_here q))
      (λ m. built whole None (none_taken levels refl refl (none_here (λ x. same kind.As x || names x) c (neither_next (same kind.As) names c.tokens n m))) extends_itself plain_here))

  pub item_name_agrees : (c : Cursor) → Agrees (optional grammar.alias) levels (λ alias. plain (t.name_of_alias alias)) (λ alias. plain (t.name_of_alias alias)) c c (item_name c)
  unfolding item_name
  item_name_agrees c = makes (optional_alias c) t.name_of_alias whole (λ v. refl) (λ v y end b. built_map t.name_of_alias b) (optional_alias_agrees c)

  -- ---- tables

  named_built : (table : Lexeme) (v : Option Lexeme) {start end : Cursor} {y : Option Lexeme} → Builds (plain v) start y end → Builds (t.table_entry table v) start (table_named table y) end
  named_built table None b = built_map (table_named table) b
  named_built table (Some word) b = built_map (table_named table) b

  named_cost : (table : Lexeme) (v : Option Lexeme) → (t.table_entry table v).copies ≡ 0
  named_cost table None = refl
  named_cost table (Some word) = refl

  pub table_entry_agrees : (c : Cursor) → Agrees (seq name (optional grammar.alias)) levels (λ read. t.table_entry read.0 read.1) (λ read. t.table_entry read.0 read.1) c c (table_entry c)
  unfolding table_entry
  table_entry_agrees c = needs whole refl (fill_seq fill_name (fill_absent grammar.alias)) (omega arith)
      (λ table mid q. makes (optional_alias mid) (table_named table) (behind whole refl q) (λ v. omega (arith, named_cost table v, (alike_passes q).copies))
      (λ v y end b. built_from (alike_passes q) (named_built table v b)) (optional_alias_agrees mid))

  -- ---- names and stars

  abbrev Dotted : Lexeme → Cursor → Reading Starred → Type 0
  Dotted word c r = Agrees dot_star_or_name levels (λ dot. built_starred (star_or_column word dot)) (λ dot. built_starred (star_or_column word dot)) c c r

  pub column_or_star_agrees : (word : Lexeme) (c : Cursor) → Agrees dot_star_or_name levels (λ dot. built_starred (star_or_column word dot)) (λ dot. built_starred (star_or_column word dot)) c c (column_or_star word c)
  unfolding column_or_star
  column_or_star_agrees word c = by_eaten (Dotted word c) (same kind.Dot) c _
      (λ dot mid q. let l = behind (mapped (mapped (by_token whole refl q (inl (starts q))))) refl q in
      by_eaten (Dotted word c) (same kind.Star) mid _
      (λ star end p. let alike = alike_passes q then alike_passes p in
      built (mapped (by_token l refl p (starts p))) star (took_token levels p) (extends_passes p) (built_plain _ alike.numbers alike.copies))
      (λ n. needs_last (mapped (other_unless (same kind.Star) l refl refl n)) fill_name (omega (arith, (alike_passes q).copies))
      (λ name end p. let alike = alike_passes q then alike_passes p in
      built (mapped (other_unless (same kind.Star) l refl refl n)) name (took_token levels p) (extends_passes p) (built_plain _ alike.numbers alike.copies))))
      (λ n. built whole None (none_taken levels refl refl (none_here (same kind.Dot) c n)) extends_itself (built_plain _ refl refl))

-- ---- items by their first parts

module _ (levels : ℕ) (deeper : Deeper) (d : DeeperAgrees levels deeper) where
  pub name_or_star_agrees : (c : Cursor) → Agrees factored.starred levels built_starred built_starred c c (name_or_star levels deeper c)
  unfolding name_or_star
  name_or_star_agrees c = words_agree levels deeper d dot_star_or_name star_or_column (λ x. inr x) built_starred column_or_star (λ x. starred.First x) c (column_or_star_agrees levels)
      (λ args r word mid alike l t. makes r (λ x. starred.First x) l (λ v. omega (arith, alike.copies)) (λ v y end b. built_map (λ x. starred.First x) (built_from alike b)) t) (fill_absent _)
      refl refl refl refl refl refl refl refl refl refl refl
