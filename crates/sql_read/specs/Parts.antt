-- What the reader's own types stand for, and where one more entry is too many.
use Rattle.std.specs.Prelude.{ℕ, ◌&&◌, ◌||◌, ◌==◌, ◌⊎◌, nat_lt, if◌then◌else◌, List, Result, Ok, Err}
use Rattle.std.proofs.Common.{inl, inr}
use Rattle.sql_model.specs.declared.tree.Expr.{Expr}
use Rattle.sql_model.specs.declared.tree.Item.TheVariants as item
use Rattle.sql_lex.specs.declared.token.Token.{Token}
use Rattle.sql_lex.specs.Lexemes.{Lexeme, lexeme_of}
use Rattle.sql_cursor.specs.declared.fault.LimitKind.TheVariants as limit
use Rattle.sql_cursor.specs.declared.fault.ReadFault.{ReadFault}
use Rattle.sql_cursor.specs.declared.fault.ReadFault.TheVariants.{Limit}
use Rattle.sql_cursor.specs.Eating.{is_next}
use Rattle.sql_read.specs.declared.reading.item.Starred.{Starred as ReadStarred}
use Rattle.sql_read.specs.declared.reading.item.Starred.TheVariants as starred
use Rattle.sql_read.specs.declared.reading.inside.Inside.{Inside as ReadInside}
use Rattle.sql_read.specs.declared.reading.inside.Inside.TheVariants as inside
use Rattle.sql_read.specs.declared.reading.inside.Grouped.{Grouped}
use Rattle.sql_read.specs.declared.reading.inside.Grouped.TheVariants as grouped
use Rattle.sql_read.specs.declared.reading.primary.Named.{Named}
use Rattle.sql_read.specs.declared.reading.primary.Named.TheVariants as named
use Rattle.sql_grammar.specs.declared.kinds.Kind.TheVariants as k
use Rattle.sql_grammar.specs.Kinds.{among, name_kinds, same}
use Rattle.sql_grammar.specs.Numbering.{Built, plain, mapped}
use Rattle.sql_grammar.specs.FactoredQueries.{Starred}
use Rattle.sql_grammar.specs.QueryEntries.{most_entries}
use Rattle.sql_grammar.specs.QueryTailTrees.{Inside}
use Rattle.sql_grammar.specs.TokenValues.{name_of}

abbrev pub built_starred : Starred → Built ReadStarred
built_starred (inl qual) = plain (starred.All (item.AliasStar (name_of qual) qual.start))
built_starred (inr first) = mapped (λ x. starred.First x) first

abbrev pub built_inside : Inside (Unit {0}) → Built ReadInside
built_inside (inl q) = mapped (λ x. inside.Query x) q
built_inside (inr (inl p)) = mapped (λ x. inside.Enclosed x p.0.0.start) p.0.1
built_inside (inr (inr p)) = mapped (λ x. inside.Expr x) p.0

-- what stands in the parentheses that open at this place, with them
abbrev pub grouped_of : ReadInside → ℕ → Grouped
grouped_of (inside.Query q) at = grouped.Query q at
grouped_of (inside.Enclosed q enclosed_at) at = grouped.Query q at
grouped_of (inside.Expr x) at = grouped.Expr x

abbrev pub built_grouped : Lexeme × Inside (Unit {0}) → Built Grouped
built_grouped r = mapped (λ i. grouped_of i r.0.start) (built_inside r.1)

-- what begins with a name, as contracts see its word
abbrev pub named_of : Result Named ReadFault → Result (Lexeme ⊎ Expr) ReadFault
named_of (Ok (named.Word word)) = Ok (inl (lexeme_of word))
named_of (Ok (named.Call call)) = Ok (inr call)
named_of (Err fault) = Err fault

abbrev pub IfWord : Named → (Token → Type 0) → Type 0
IfWord (named.Word word) P = P word
IfWord (named.Call call) P = Unit {0}

-- An entry behind so many others is one too many at the first token of its own, but for a parenthesis that is too deep.
abbrev pub allowed_entry : ℕ → ℕ → List Lexeme → Result (Unit {0}) ReadFault
allowed_entry levels count tokens =
    if nat_lt count most_entries || (levels == 0 && is_next (same k.Open) tokens) then Ok tt
    else (if is_next (same k.Open) tokens || is_next (among name_kinds) tokens then Err (Limit limit.Entries) else Ok tt)
