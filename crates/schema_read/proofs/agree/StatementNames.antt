-- The readers of names, of lists of them, and of types agree with the grammar.
use Rattle.std.proofs.Common.{◌≡◌, ℕ, ◌-◌, ◌<◌, List, [], ◌∷◌, ◌++◌, Some, refl, ap, inl, inr}
use Rattle.grammar.specs.Productions.{optional, then_skip}
use Rattle.sql_lex.specs.Lexemes.{Lexeme}
use Rattle.sql_model.specs.declared.statement.NameAt.{NameAt}
use Rattle.sql_cursor.specs.Cursor.{Cursor}
use Rattle.sql_cursor.specs.Eating.{PassesWithin}
use Rattle.sql_read.specs.Reading.{comma}
use Rattle.sql_cursor.specs.Readers.{Reading, expected}
use Rattle.sql_grammar.specs.declared.kinds.Kind.TheVariants as k
use Rattle.sql_grammar.specs.Kinds.{among, name_kinds, same}
use Rattle.sql_grammar.specs.Numbering.{plain}
use Rattle.sql_grammar.specs.QueryGrammar as query
use Rattle.sql_grammar.specs.QueryGrammar.{a, most_separators}
use Rattle.sql_read.proofs.steps.AgreeLoops.{parts_repeat, skipped_word}
use Rattle.sql_read.proofs.steps.AgreeSteps.{by_eaten_alone}
use Rattle.sql_read.proofs.steps.Agreeing as steps
use Rattle.sql_read.proofs.steps.ReadLoops.{begins_skip}
use Rattle.schema_read.specs.StatementGrammar as g
use Rattle.schema_read.specs.StatementReaders.{listed_names, more_words, name, names, names_behind, names_if_any, sizes, sizes_inside, type_name}
use Rattle.schema_read.specs.StatementTrees as t
use Rattle.schema_read.proofs.agree.PlainSteps.{Spells, all_made, all_read, behind, either, first_then, mapped, nested, no_more, one_token, plainly, token_read, token_then, whole}

pub name_agrees : (levels : ℕ) (c : Cursor) → Spells query.name levels t.named c (name c)
unfolding name
name_agrees levels c = all_made (expected (among name_kinds) c) (one_token (among name_kinds) refl levels c) t.named whole (λ v. refl)

-- ---- lists of names

named_more : (xs : List Lexeme) (x : Lexeme) → t.all_named (xs ++ x ∷ []) ≡ t.all_named xs ++ t.named x ∷ []
named_more [] x = refl
named_more (y ∷ xs) x = ap (λ z. t.named y ∷ z) (named_more xs x)

abbrev Listed : ℕ → Cursor → Reading (List NameAt) → Type 0
Listed levels c r = Spells (query.listed query.name) levels t.names c r

pub listed_names_agrees : (levels : ℕ) (c : Cursor) → Listed levels c (listed_names c)
unfolding listed_names
listed_names_agrees levels c = first_then (name c) (name_agrees levels c) _ whole refl refl (λ v mid l.
    parts_repeat mid query.name (λ comma x. x) (same k.Comma) (λ others. (v, others)) (Listed levels c) comma (λ room now word mid. PassesWithin (same k.Comma) room now word mid) (λ room now word mid i. skipped_word refl i)
    (λ room now go. by_eaten_alone (Listed levels c) k.Comma now room go) refl (begins_skip (same k.Comma) query.name) refl name (name_agrees levels) (λ names comma x. names ++ x ∷ []) (λ done. plain (t.names (v, done)))
    (λ done comma x. record { numbers = λ n. ap (λ z. (t.named v ∷ z, n)) (named_more done x); copies = refl }) (λ done. refl) (λ fault end stopped. stopped)
    (λ done names now made first none takes on. steps.built steps.whole (v, done) takes on made) most_separators (t.named v ∷ []) (plainly refl l.alike) l.residual)

pub names_behind_agrees : (levels : ℕ) (c : Cursor) → Spells (then_skip (query.listed query.name) (a k.Close)) levels t.names c (names_behind c)
unfolding names_behind
names_behind_agrees levels c = first_then (listed_names c) (listed_names_agrees levels c) _ (mapped whole) refl refl
    (λ v mid l. all_made (expected (same k.Close) mid) (one_token (same k.Close) refl levels mid) (λ close. t.names v) l (λ u. refl))

module _ (levels : ℕ) (some : 0 < levels) where
  pub names_agrees : (c : Cursor) → Spells g.names levels (λ v. v) c (names c)
  unfolding names
  names_agrees c = token_then (nested (mapped (mapped whole)) some) refl refl (λ open_ mid l. all_read (names_behind mid) (names_behind_agrees (levels - 1) mid) l (λ v. refl))

  pub names_if_any_agrees : (c : Cursor) → Spells (optional g.names) levels (λ v. v) c (names_if_any c)
  unfolding names_if_any
  names_if_any_agrees c = either (same k.Open) _ whole refl refl refl (λ t i. inl (inr (t, refl, i)))
      (λ open_ mid i l. all_made (names_behind mid) (names_behind_agrees (levels - 1) mid) (λ names. Some names) (behind (nested (mapped (mapped (mapped l))) some) refl i) (λ v. refl)) (λ l. no_more (mapped l) refl)

-- ---- types

module _ (levels : ℕ) where
  more_words_agrees : (c : Cursor) → Spells g.more_words levels (λ v. tt {0}) c (more_words c)
  unfolding more_words
  more_words_agrees c = either (among g.word_kinds) _ whole refl refl refl (λ t i. inl (inr (t, refl, i)))
      (λ word mid i l. either (among g.word_kinds) _ (behind (mapped l) refl i) refl refl refl (λ t j. inr (t, refl, j)) (λ more after j m. token_read (mapped m) j refl) (λ m. no_more (mapped m) refl))
      (λ l. no_more (mapped l) refl)

  sizes_inside_agrees : (c : Cursor) → Spells g.sizes_inside levels (λ v. tt {0}) c (sizes_inside c)
  unfolding sizes_inside
  sizes_inside_agrees c = token_then whole refl refl (λ size mid l. either (same k.Comma) _ l refl refl refl (λ t i. inl (inr (t, refl, i)))
      (λ word after i m. all_made (expected (same k.Number) after) (one_token (same k.Number) refl levels after) (λ v. tt {0}) (behind (mapped (mapped m)) refl i) (λ v. refl)) (λ m. no_more (mapped m) refl))

module _ (levels : ℕ) (some : 0 < levels) where
  sizes_agrees : (c : Cursor) → Spells g.sizes levels (λ v. tt {0}) c (sizes c)
  unfolding sizes
  sizes_agrees c = either (same k.Open) _ whole refl refl refl (λ t i. inl (inr (t, refl, i)))
      (λ open_ mid i l. first_then (sizes_inside mid) (sizes_inside_agrees (levels - 1) mid) _ (mapped (behind (nested (mapped (mapped l)) some) refl i)) refl refl
      (λ v after m. all_made (expected (same k.Close) after) (one_token (same k.Close) refl (levels - 1) after) (λ v. tt {0}) m (λ v. refl)))
      (λ l. no_more (mapped l) refl)

  pub type_agrees : (c : Cursor) → Spells g.type levels (λ v. v) c (type_name c)
  unfolding type_name
  type_agrees c = token_then (mapped whole) refl refl (λ word mid l. first_then (more_words mid) (more_words_agrees levels mid) _ l refl refl (λ v after m. all_read (sizes after) (sizes_agrees after) m (λ v. refl)))
