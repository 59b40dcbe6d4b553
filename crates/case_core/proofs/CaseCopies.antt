-- What a case copies is what its statements and its two queries copy, and where it passes the limit.
use Rattle.std.proofs.Common.{◌≡◌, ◌≤◌, ◌+◌, ℕ, List, ◌++◌, refl, ap, arith}
use Rattle.grammar.specs.Form.{ref}
use Rattle.grammar.specs.Reading.{Stops}
use Rattle.grammar.proofs.languages.Limits.{CostsByCompletion, IsPrefixClosed, whole_within_cost, within_cost_closed}
use Rattle.sql_lex.specs.Lexemes.{Lexeme}
use Rattle.sql_model.specs.declared.statement.Statement.{Statement}
use Rattle.sql_model.specs.declared.tree.Query.{Query}
use Rattle.sql_cursor.specs.declared.fault.ReadFault.{ReadFault}
use Rattle.sql_cursor.specs.declared.fault.LimitKind.{LimitKind}
use Rattle.sql_cursor.specs.declared.fault.LimitKind.TheVariants as limit
use Rattle.sql_cursor.specs.Cursor.{Cursor}
use Rattle.sql_read.specs.ReadingTexts.{TextLimit, count_limit, depth_limit, keeping}
use Rattle.sql_read.specs.Reads.{Gives}
use Rattle.sql_read.proofs.steps.ReadCopiedSteps.{on_still}
use Rattle.sql_read.proofs.steps.ReadCopies.{Going, at_start, on_first, on_mapped, on_taken}
use Rattle.sql_grammar.specs.declared.kinds.Kind.TheVariants as k
use Rattle.sql_grammar.specs.Numbering.{Built}
use Rattle.sql_grammar.specs.Queries.{most_levels}
use Rattle.sql_grammar.specs.QueryCopies.{copies_nothing, most_copies, within_copies}
use Rattle.sql_grammar.specs.QueryGrammar.{a, query}
use Rattle.sql_grammar.proofs.copies.CopyOnce.{form_costs}
use Rattle.sql_grammar.proofs.copies.FactoredCosts.{EvenIn, evenly}
use Rattle.sql_grammar.proofs.copies.QueryCompletions.{filled}
use Rattle.grammar.proofs.completed.Costs.{costed_then_skip}
use Rattle.sql_read.specs.Copied.{CopiesSoFar}
use Rattle.schema_read.specs.CopiedStatements.{CopiedToFault}
use Rattle.schema_read.specs.StatementGrammar.{statements}
use Rattle.schema_read.proofs.counts.CopiedParts.{copied_to, counted_before}
use Rattle.schema_read.proofs.counts.StatementCopies.{free, statements_even}
use Rattle.case_core.specs.declared.text.CaseText.{CaseText}
use Rattle.case_core.specs.CaseGrammar as g
use Rattle.case_core.specs.Cases.{cases, shallow_cases, texts, within}
use Rattle.case_core.specs.Refusals.{KeepsLimits}
use Rattle.case_core.proofs.CaseCounts.{ReadsQuery, StatementsRead, within_prefixes}
use Rattle.case_core.proofs.CasePrefixes.{kept_to, shallow_prefixes}

-- ---- cases as forms

ended_even : EvenIn g.ended_query (λ read. read.copies)
ended_even = costed_then_skip evenly (evenly.of_ref query) (free _)

pub case_even : EvenIn g.case (λ read. read.copies)
case_even = evenly.of_map g.case_of (λ read. read.copies) (evenly.of_seq statements_even (evenly.of_seq ended_even ended_even)) (λ v. refl)

-- ---- the limit

pub case_costs : CostsByCompletion copies_nothing cases (λ read. read.copies)
case_costs = form_costs g.case refl (λ read. read.copies) case_even refl

-- a whole case
pub whole_few : (copied : ℕ) (ts : List Lexeme) (read : Built CaseText) → cases.spells ts read → copied + read.copies ≤ most_copies → (within_copies copied cases).prefix ts
whole_few copied ts read s l = whole_within_cost case_costs most_copies copied ts read (s, l)

-- what a refusal says of copies
abbrev pub CopiedAll : Cursor → ReadFault → Cursor → Type 0
CopiedAll before fault after = CopiedToFault g.case (λ read. read) before before fault after

abbrev pub Counted : Cursor → Cursor → Type 0
Counted before after = CopiesSoFar g.case (λ read. read) before before after

-- ---- all limits

pub closed : (copied : ℕ) (which : TextLimit) → IsPrefixClosed (keeping texts copied which)
closed copied depth_limit = shallow_prefixes.shorter
closed copied (count_limit limit.Copies) = within_cost_closed case_costs most_copies copied
closed copied (count_limit other) = (within_prefixes other).shorter

-- what is spelled within a limit is a prefix within it
pub spelled_prefix : (copied : ℕ) (which : TextLimit) (ts : List Lexeme) (read : Built CaseText) → (keeping texts copied which).spells ts read → (keeping texts copied which).prefix ts
spelled_prefix copied depth_limit ts read s = shallow_prefixes.spelled ts read s
spelled_prefix copied (count_limit limit.Copies) ts read s = whole_within_cost case_costs most_copies copied ts read s
spelled_prefix copied (count_limit other) ts read s = (within_prefixes other).spelled ts read s

-- what was taken keeps them, and goes on with nothing
pub keeps_limits : (copied : ℕ) {ts : List Lexeme} (taken rest : List Lexeme) → ts ≡ taken ++ rest → shallow_cases.prefix taken → ((what : LimitKind) → (within what).prefix taken) → (within_copies copied cases).prefix taken
    → Stops cases taken rest → KeepsLimits copied ts
keeps_limits copied {ts} taken rest e shallow few copies s which = kept_to (keeping texts copied which) (closed copied which) ts taken rest e (prefix which) s
  where
    prefix : (which : TextLimit) → (keeping texts copied which).prefix taken
    prefix depth_limit = shallow
    prefix (count_limit limit.Copies) = copies
    prefix (count_limit other) = few other

-- ---- one query

pub to_query : (start : Cursor) → Going (ref query) start.tokens g.ended_query start.tokens (λ v. v)
to_query start = on_first (on_mapped at_start) (filled (a k.Semicolon) refl).filled

-- its semicolon is missed
pub at_semicolon : {start here after : Cursor} {value : Query} → Gives (ref query) most_levels (λ read. read) start start value here → after ≡ here → CopiesSoFar g.ended_query (λ read. read) start start after
at_semicolon r s = counted_before (on_still (on_taken most_levels (on_mapped at_start) r.takes.took) s) refl (omega (arith, r.builds.copies, ap (λ z. z.copies) s))

-- ---- statements

pub statements_copied : {a b : Cursor} (fault : ReadFault) → CopiedToFault statements (λ read. read) a a fault b → CopiedAll a fault b
statements_copied fault s = copied_to fault (on_first (on_mapped at_start) (filled g.two_queries refl).filled) (λ v. omega arith) s

module _ {a b : Cursor} {list : List Statement} (s : StatementsRead a list b) where
  to_queries : Going g.two_queries b.tokens g.case a.tokens (λ queries. g.case_of (s.reads.read, queries))
  to_queries = on_taken most_levels (on_mapped at_start) s.reads.takes.took

  -- no query was read
  pub behind_statements : Counted a b
  behind_statements = counted_before to_queries refl (omega (arith, s.reads.builds.copies))

  pub first_copied : {c : Cursor} (fault : ReadFault) → CopiedToFault g.ended_query (λ read. read) b b fault c → CopiedAll a fault c
  first_copied fault m = copied_to fault (on_first to_queries (filled g.ended_query refl).filled) (λ v. omega (arith, s.reads.builds.copies)) m

  module _ {c : Cursor} {left : Query} (p : ReadsQuery b left c) where
    to_second : Going g.ended_query c.tokens g.case a.tokens (λ right. g.case_of (s.reads.read, (p.read, right)))
    to_second = on_taken most_levels to_queries p.takes.took

    -- no second query was read
    pub behind_first : Counted a c
    behind_first = counted_before to_second refl (omega (arith, s.reads.builds.copies, p.builds.copies))

    pub second_copied : {d : Cursor} (fault : ReadFault) → CopiedToFault g.ended_query (λ read. read) c c fault d → CopiedAll a fault d
    second_copied fault m = copied_to fault to_second (λ v. omega (arith, s.reads.builds.copies, p.builds.copies)) m
