-- The limit on the entries of a block, and the token that is one too many. The grammar once more, with the entries of a block in one list
-- that ends at the limit; without limits it spells the queries whose blocks have no more.
use Rattle.std.specs.Prelude.{ℕ, ◌-◌, zero, suc, false, List, [], ◌∷◌, ◌⊎◌, None}
use Rattle.std.proofs.Common.{inl, inr}
use Rattle.grammar.specs.Form.{Rules, empty, seq, alt, map, only, ref, form_language, language}
use Rattle.grammar.specs.Language.{Language}
use Rattle.grammar.specs.Limits.{IsFirstBeyond}
use Rattle.grammar.specs.Productions.{skip_then, optional}
use Rattle.sql_model.specs.declared.tree.Entry.{Entry}
use Rattle.sql_model.specs.declared.tree.Query.{Query}
use Rattle.sql_lex.specs.Lexemes.{Lexeme}
use Rattle.sql_grammar.specs.Kinds as k
use Rattle.sql_grammar.specs.Kinds.{Kind, kind_of}
use Rattle.sql_grammar.specs.Numbering.{Built}
use Rattle.sql_grammar.specs.QueryTrees as t
use Rattle.sql_grammar.specs.QueryTrees.{Listed}
use Rattle.sql_grammar.specs.QueryGrammar.{Production, Read, The, Froms, a, join_on, cross_join, rules_with, query, entry}
use Rattle.sql_grammar.specs.QueryTails.{tail_rules}
use Rattle.sql_grammar.specs.Queries.{queries}

-- an entry after a comma, or one that is joined
abbrev pub Further : Type 0
Further = Built Listed ⊎ Built Entry

-- , entry | [INNER] JOIN entry ON expr | CROSS JOIN entry
abbrev pub next_entry : The Further
next_entry = alt (map (λ listed. inl listed) (skip_then (a k.Comma) (ref entry))) (map (λ joined. inr joined) (alt join_on cross_join))

-- , | [INNER] JOIN | CROSS JOIN
abbrev pub before_entry : The Lexeme
before_entry = alt (a k.Comma) (alt (skip_then (optional (a k.Inner)) (a k.Join)) (skip_then (a k.Cross) (a k.Join)))

-- At most so many further entries. What stands before one more may come, but then nothing goes on.
abbrev pub further_entries : ℕ → The (List Further)
further_entries zero = alt (map (λ none. []) empty) (map (λ none. []) (only (λ word. false) before_entry))
further_entries (suc most) = alt (map (λ none. []) empty) (map (λ p. p.0 ∷ p.1) (seq next_entry (further_entries most)))

-- those that are joined to the entry before them, and the items of FROM after it
abbrev pub parted : List Further → List (Built Entry) × List (Built (List Entry))
parted [] = ([], [])
parted (inl listed ∷ others) = let p = parted others in ([], t.entries listed p.0 ∷ p.1)
parted (inr joined ∷ others) = let p = parted others in (joined ∷ p.0, p.1)

-- the items of FROM, from the first entry and all others
abbrev pub items_of : Built Listed × List Further → Froms
items_of p = let q = parted p.1 in (t.entries p.0 q.0, q.1)

-- the items of FROM, in one list with at most so many further entries
abbrev pub few_froms : ℕ → The Froms
few_froms most = map items_of (seq (ref entry) (further_entries most))

abbrev pub few_rules : ℕ → Rules Lexeme Kind Production Read
few_rules most = rules_with tail_rules (few_froms most)

-- the language of a form in which no block has more
abbrev pub few_of_form : {A : Type 0} → ℕ → The A → Language Lexeme A
few_of_form most f = form_language kind_of (language kind_of (few_rules most)) None f

-- entries of a block
abbrev pub most_entries : ℕ
most_entries = 32

-- those besides the first
abbrev pub most_further : ℕ
most_further = most_entries - 1

-- the queries with no block of more entries
abbrev pub few_queries : Language Lexeme (Built Query)
few_queries = language kind_of (few_rules most_further) None query

-- the token begins an entry that is one too many for its block
abbrev pub IsEntryTooMany : List Lexeme → Lexeme → Type 0
IsEntryTooMany = IsFirstBeyond queries few_queries
