-- A text that spells a case within the limits, well formed and of one width, is refused with want of memory alone.
use Rattle.std.proofs.Common.{◌≡◌, ℕ, true, false, List, [], ◌∷◌, ◌++◌, length, Option, Some, None, refl, sym, ap, ◌∙◌, subst, inl, inr, append_assoc, arith}
use Rattle.std.specs.Prelude.{map as map_list}
use Rattle.std.specs.Option.{option_or}
use Rattle.grammar.proofs.languages.Known.{Known}
use Rattle.grammar.proofs.languages.Limits.{kept}
use Rattle.grammar.specs.Limits.{KeepsWithin}
use Rattle.grammar.specs.Lookahead.{lookahead}
use Rattle.sql_lex.specs.Lexemes.{Lexeme}
use Rattle.sql_lex.proofs.WholeTexts.{same_tokens}
use Rattle.sql_model.specs.Syntax.{Name, Query}
use Rattle.sql_model.specs.Headings.{output_columns}
use Rattle.sql_model.specs.Relations.{Relation}
use Rattle.sql_model.specs.declared.schema.Schema.{Schema as TheSchema}
use Rattle.sql_grammar.specs.Kinds.{kind_of}
use Rattle.sql_grammar.specs.Numbering.{Built, Numbers}
use Rattle.sql_grammar.specs.QueryLookahead.{table}
use Rattle.sql_read.specs.ReadingTexts.{Passes, TextLimit, count_limit, depth_limit, keeping}
use Rattle.sql_cursor.specs.declared.fault.LimitKind.TheVariants as limit
use Rattle.sql_cursor.specs.declared.fault.ReadFault.TheVariants as read_refusal
use Rattle.schema_read.specs.declared.fault.SchemaFault.{SchemaFault}
use Rattle.schema_read.specs.declared.fault.SchemaFault.TheVariants as schema_refusal
use Rattle.schema_read.specs.Builds.{Builds, schema_fault}
use Rattle.schema_read.proofs.spelled.StatementKnown.{known}
use Rattle.schema_read.proofs.spelled.Unlimited.{gl}
use Rattle.scope_core.specs.declared.fault.ScopeFault.{ScopeFault}
use Rattle.scope_core.specs.FirstFault.{first_fault, query_fault, relations_fault}
use Rattle.scope_core.specs.Relations.{known_relations}
use Rattle.scope_core.specs.Scope.{heading}
use Rattle.scope_core.specs.Sites.{sites}
use Rattle.scope_core.proofs.well_formed.NoFault.{query_fault-none, schema_fault-none}
use Rattle.case_core.specs.declared.fault.CaseFault.{CaseFault}
use Rattle.case_core.specs.declared.fault.CaseFault.TheVariants.{Read, Schema, Scope, QueriesDiffer, NotTwoQueries, NoMemory}
use Rattle.case_core.specs.declared.text.CaseText.{CaseText}
use Rattle.case_core.specs.Answer.{BreaksRule, HasSchema, HasTwoWidths, IsOutOfScope, IsRefused, IsSchemaFault, IsWellFormed, width_of}
use Rattle.case_core.specs.CaseGrammar as g
use Rattle.case_core.specs.Cases.{IsRead, cases, texts}
use Rattle.case_core.specs.Refusals.{HasNotTwoQueries, IsNoCase, Says}
use Rattle.case_core.proofs.CaseCopies.{closed, spelled_prefix}
use Rattle.case_core.proofs.CasePrefixes.{ends_there, prefixes, nothing_follows, one_case}
use Rattle.udp_run.specs.Cases.{AreComparable}

-- ---- a query with its semicolon has tokens
ended_known : Known kind_of (gl g.ended_query) (lookahead table g.ended_query)
ended_known = known g.ended_query refl None

pub has_tokens : (ts : List Lexeme) (query : Built Query) → (gl g.ended_query).spells ts query → ts ≡ [] → ⊥
has_tokens [] query s e = let n : false ≡ true = ended_known.ahead.nullable query s in cc
has_tokens (t ∷ ts) query s e = cc

-- ---- of what was read
module _ (text : List ℕ) (written : CaseText) (numbers : Numbers) (read : IsRead text written numbers) where
  abbrev tokens : List Lexeme
  tokens = read.spells.tokens

  -- the tokens of the two queries
  record Parts : Type 0 where
    first : List Lexeme
    second : List Lexeme
    left : Built Query
    right : Built Query
    left_there : (gl g.ended_query).spells first left
    right_there : (gl g.ended_query).spells second right

  parts : Parts
  parts = of read.spells.spelled
    where
      of : cases.spells tokens read.spells.read → Parts
      of (u, (before, both, e, s, (first, second, i, l, r)), same) = record { first = first; second = second; left = u.1.0; right = u.1.1; left_there = l; right_there = r }

  -- no limit is passed
  kept_within : (which : TextLimit) → (keeping texts 0 which).spells tokens read.spells.read → KeepsWithin cases (keeping texts 0 which) tokens
  kept_within which s = kept cases (keeping texts 0 which) (closed 0 which) tokens (spelled_prefix 0 which tokens read.spells.read s)

  kept_limit : (which : TextLimit) → KeepsWithin cases (keeping texts 0 which) tokens
  kept_limit depth_limit = read.shallow
  kept_limit (count_limit limit.Columns) = kept_within (count_limit limit.Columns) (read.few limit.Columns)
  kept_limit (count_limit limit.Entries) = kept_within (count_limit limit.Entries) (read.few limit.Entries)
  kept_limit (count_limit limit.Relations) = kept_within (count_limit limit.Relations) (read.few limit.Relations)
  kept_limit (count_limit limit.Copies) = kept_within (count_limit limit.Copies) (read.spells.spelled, omega (arith, read.few_copies))

  not_limited : (which : TextLimit) → Passes texts 0 tokens which → ⊥
  not_limited which u = kept_limit which u.taken u.rest u.token u.parts u.beyond

  -- there are two queries
  two_there : (count at : ℕ) → HasNotTwoQueries tokens None (length text) count at → ⊥
  two_there count at (inl (e, none)) =
      let p : Parts = parts in
      let both = p.first ++ p.second in
      let read_too = g.case_of (none.value, (p.left, p.right)) in
      let spelled : cases.spells (tokens ++ both) read_too =
      ((none.value, (p.left, p.right)), (tokens, both, refl, none.whole, (p.first, p.second, refl, p.left_there, p.right_there)), refl) in
      at_first p.first p.second p.left_there (ends_there tokens both read.spells.read read.spells.spelled (prefixes.spelled (tokens ++ both) read_too spelled))
    where
      at_first : (first second : List Lexeme) {query : Built Query} → (gl g.ended_query).spells first query → first ++ second ≡ [] → ⊥
      at_first [] second s e = has_tokens [] _ s refl
      at_first (t ∷ first) second s e = cc
  two_there count at (inr (inl (e, one))) = of one.whole
    where
      of : (gl g.one_query).spells tokens one.value → ⊥
      of (before, first, e, s, l) =
          let p : Parts = parts in
          let read_too = g.case_of (one.value.0, (one.value.1, p.right)) in
          let spelled : cases.spells (tokens ++ p.second) read_too = (
            (one.value.0, (one.value.1, p.right)),
            (before, first ++ p.second, ap (λ z. z ++ p.second) e ∙ append_assoc before first p.second, s, (first, p.second, refl, l, p.right_there)),
            refl,
          ) in
          has_tokens p.second p.right p.right_there (ends_there tokens p.second read.spells.read read.spells.spelled (prefixes.spelled (tokens ++ p.second) read_too spelled))
  two_there count at (inr (inr (e, third))) =
      nothing_follows third.before third.value third.third third.after third.whole
      (subst cases.prefix third.parts (prefixes.spelled tokens read.spells.read read.spells.spelled))

  says_memory : (fault : CaseFault) → Says 0 tokens None (length text) fault → fault ≡ NoMemory
  says_memory (Read (read_refusal.Lex lexical)) u = absurd (u.unspelled refl read.spells.read read.spells.spelled)
  says_memory (Read (read_refusal.Unexpected at)) u = absurd (u.unspelled refl read.spells.read read.spells.spelled)
  says_memory (Read (read_refusal.LeftOut word at)) u = absurd (u.unspelled refl read.spells.read read.spells.spelled)
  says_memory (Read (read_refusal.TooDeep at)) u = absurd (not_limited depth_limit u.passes)
  says_memory (Read (read_refusal.Limit what)) u = absurd (not_limited (count_limit what) u)
  says_memory (Read read_refusal.NoMemory) u = absurd u
  says_memory (Schema refused) u = absurd u
  says_memory (Scope refused) u = absurd u
  says_memory (QueriesDiffer left right) u = absurd u
  says_memory (NotTwoQueries count at) u = absurd (two_there count at u.counted)
  says_memory NoMemory u = refl

  pub no_case_memory : (fault : CaseFault) → IsNoCase text fault → fault ≡ NoMemory
  no_case_memory fault u =
      let same = same_tokens 0 text u.tokens tokens u.fault None u.lexed read.spells.lexed in
      says_memory fault (subst (λ z. Says 0 z None (length text) fault) same.0 (subst (λ z. Says 0 u.tokens z (length text) fault) same.1 u.says))

-- ---- what depends on the relations of the schema alone
abbrev pub Relations : Type 0
Relations = List (Name × Relation)

abbrev pub scope_fault_over : Relations → CaseText → Option ScopeFault
scope_fault_over relations w =
    option_or (relations_fault [] 0 relations)
    (option_or (first_fault (sites w.left (known_relations [] 0 relations) [])) (first_fault (sites w.right (known_relations [] 0 relations) [])))

abbrev pub width_over : Relations → Query → ℕ
width_over relations query = length (output_columns query (map_list heading (known_relations [] 0 relations)))

none-some : {A : Type 0} (x : A) → None ≡ Some x → ⊥
none-some x e = cc

-- one text spells one thing, and its statements build one schema
pub record Same (schema other : TheSchema) (written also : CaseText) : Type 0 where
  pub relations : schema.relations.entries ≡ other.relations.entries
  pub fkeys : schema.fkeys ≡ other.fkeys
  pub text : written ≡ also

pub same_case : {text : List ℕ} {written also : CaseText} {numbers numbers_too : Numbers} {schema other : TheSchema}
    → HasSchema text written numbers schema → HasSchema text also numbers_too other → Same schema other written also
same_case {text = text} {written = written} {also = also} {numbers = numbers} {numbers_too = numbers_too} {schema = schema} {other = other} a b =
    let e : written ≡ also = (one_case text written also numbers numbers_too a.read.spells b.read.spells).0 in
    let built : Builds also.statements schema = subst (λ (w : CaseText). Builds w.statements schema) e a.built in
    record { relations = built.relations ∙ sym b.built.relations; fkeys = built.fkeys ∙ sym b.built.fkeys; text = e }

module _ (text : List ℕ) (schema : TheSchema) (written : CaseText) (numbers : Numbers) (h : HasSchema text written numbers schema) where
  pub no_rule_broken : (fault : SchemaFault) → BreaksRule text fault → ⊥
  no_rule_broken fault u = of fault u.written (one_case text written u.written numbers u.numbers h.read.spells u.read.spells).0 u.first
    where
      of : (fault : SchemaFault) (also : CaseText) → written ≡ also → IsSchemaFault also fault → ⊥
      of (schema_refusal.Refused code at) also e i = none-some _ (sym h.built.faultless ∙ (ap (λ (w : CaseText). schema_fault w.statements) e ∙ i))
      of schema_refusal.NoMemory also e i = i

  no_scope_fault : IsWellFormed schema written → scope_fault_over schema.relations.entries written ≡ None
  no_scope_fault f =
      ap (λ z. option_or z (option_or (query_fault schema written.left) (query_fault schema written.right)))
      ((schema_fault-none schema).1 (f.views, f.views_within_width))
      ∙ (ap (λ z. option_or z (query_fault schema written.right)) ((query_fault-none schema written.left).1 (f.left, f.left_within_width))
      ∙ (query_fault-none schema written.right).1 (f.right, f.right_within_width))

  pub in_scope : IsWellFormed schema written → (fault : ScopeFault) → IsOutOfScope text fault → ⊥
  in_scope f fault u =
      let s = same_case h u.has_schema in
      none-some fault (sym (no_scope_fault f) ∙ ((λ i. scope_fault_over (s.relations i) (s.text i)) ∙ u.first))

  module _ (c : AreComparable schema written) where
    one_width : (left right : ℕ) → HasTwoWidths text left right → ⊥
    one_width left right u =
        let s = same_case h u.has_schema in
        let l : width_of schema written.left ≡ width_of u.schema u.written.left = λ i. width_over (s.relations i) (s.text i).left in
        let r : width_of schema written.right ≡ width_of u.schema u.written.right = λ i. width_over (s.relations i) (s.text i).right in
        u.differ (u.left_width ∙ (sym l ∙ (c.one_width ∙ (r ∙ sym u.right_width))))

    pub memory_alone : (fault : CaseFault) → IsRefused text fault → fault ≡ NoMemory
    memory_alone (Read fault) u = no_case_memory text written numbers h.read (Read fault) u
    memory_alone (Schema fault) u = absurd (no_rule_broken fault u)
    memory_alone (Scope fault) u = absurd (in_scope c.well_formed fault u)
    memory_alone (QueriesDiffer left right) u = absurd (one_width left right u)
    memory_alone (NotTwoQueries count at) u = no_case_memory text written numbers h.read (NotTwoQueries count at) u
    memory_alone NoMemory u = refl
