-- A text is refused for one fault alone, want of memory left aside.
use Rattle.std.proofs.Common.{◌≡◌, ◌≢◌, ℕ, List, [], ◌∷◌, ◌++◌, length, Option, refl, sym, ap, ◌∙◌, subst, inl, inr, arith, append_assoc}
use Rattle.std.proofs.lemmas.List.{append-nil, length-append}
use Rattle.std.proofs.lemmas.Option.{same_Some}
use Rattle.grammar.specs.Reading.{IsLongestPrefix}
use Rattle.grammar.proofs.languages.Cut.{Cut, cut, longer, same, shorter}
use Rattle.sql_lex.specs.declared.token.LexFault.{LexFault}
use Rattle.sql_lex.specs.Lexemes.{Lexeme}
use Rattle.sql_lex.proofs.WholeTexts.{same_tokens}
use Rattle.sql_model.specs.declared.statement.Statement.{Statement}
use Rattle.sql_model.specs.Syntax.{Query}
use Rattle.sql_read.specs.ReadingTexts.{Passes, TextLimit, count_limit, depth_limit}
use Rattle.sql_cursor.specs.declared.fault.ReadFault.{ReadFault}
use Rattle.sql_cursor.specs.declared.fault.ReadFault.TheVariants as read_refusal
use Rattle.sql_cursor.specs.Cursor.{next}
use Rattle.sql_cursor.specs.Refusals.{refusal_of}
use Rattle.sql_grammar.specs.Numbering.{Built}
use Rattle.schema_read.specs.declared.fault.SchemaFault.{SchemaFault}
use Rattle.schema_read.specs.declared.fault.SchemaFault.TheVariants as schema_refusal
use Rattle.schema_read.specs.Builds.{schema_fault}
use Rattle.schema_read.specs.StatementGrammar.{statements}
use Rattle.schema_read.proofs.spelled.Unlimited.{gl}
use Rattle.scope_core.specs.declared.fault.ScopeFault.{ScopeFault}
use Rattle.case_core.specs.declared.fault.CaseFault.{CaseFault}
use Rattle.case_core.specs.declared.fault.CaseFault.TheVariants.{Read, Schema, Scope, QueriesDiffer, NotTwoQueries, NoMemory}
use Rattle.case_core.specs.declared.text.CaseText.{CaseText}
use Rattle.case_core.specs.Answer.{BreaksRule, HasTwoWidths, IsOutOfScope, IsRefused}
use Rattle.case_core.specs.CaseGrammar as g
use Rattle.case_core.specs.Cases.{cases, texts}
use Rattle.case_core.specs.Refusals.{EndsBehind, GoesOnBehind, HasNotTwoQueries, IsNoCase, IsNotTwo, IsUnfinished, KeepsLimits, Says}
use Rattle.case_core.proofs.CasePrefixes.{ends_there, prefixes, nothing_follows, one_case}
use Rattle.case_core.proofs.LimitsOnce.{Order, before, behind, once, one, order}
use Rattle.case_core.proofs.OneCount.{one_limit}
use Rattle.udp_run.proofs.Unrefused.{has_tokens, in_scope, no_case_memory, no_rule_broken, same_case, scope_fault_over, width_over}

-- the longest prefix reaches behind each prefix
reaches : (ts taken x y : List Lexeme) → IsLongestPrefix cases ts taken → ts ≡ x ++ y → cases.prefix x → (k : List Lexeme) × (taken ≡ x ++ k)
reaches ts taken x y l e f = by (cut x y taken l.leading.0 (sym e ∙ l.leading.1))
  where
    by : Cut x y taken l.leading.0 → (k : List Lexeme) × (taken ≡ x ++ k)
    by (longer t k p q) = (t ∷ k, p)
    by (same p q) = ([], p ∙ sym (append-nil x))
    by (shorter t k p q) = absurd (omega (arith, ap length p ∙ length-append taken (t ∷ k), l.longest x y e f))

-- ---- why a text is no case
module _ (ts : List Lexeme) (fault : Option LexFault) (end : ℕ) where
  -- ---- it stops
  unfinished-one : (r s : ReadFault) → IsUnfinished 0 ts fault end r → IsUnfinished 0 ts fault end s → r ≡ s
  unfinished-one r s a b = a.refusal ∙ (ap (λ z. refusal_of end (next z fault)) (by (cut a.taken a.rest b.taken b.rest (sym a.parts ∙ b.parts))) ∙ sym b.refusal)
    where
      by : Cut a.taken a.rest b.taken b.rest → a.rest ≡ b.rest
      by (longer t k p q) = absurd (omega (arith, ap length p ∙ length-append a.taken (t ∷ k), a.leading.longest b.taken b.rest b.parts b.leading.begins))
      by (same p q) = sym q
      by (shorter t k p q) = absurd (omega (arith, ap length p ∙ length-append b.taken (t ∷ k), b.leading.longest a.taken a.rest a.parts a.leading.begins))

  limit_kept : KeepsLimits 0 ts → (which : TextLimit) → Passes texts 0 ts which → ⊥
  limit_kept k which p = k which p.taken p.rest p.token p.parts p.beyond

  -- ---- it has not two queries
  -- statements alone, and with one query, may go on as a case
  statements-go_on : (v : Built (List Statement)) (first second : List Lexeme) (left right : Built Query) → (gl statements).spells ts v
      → (gl g.ended_query).spells first left → (gl g.ended_query).spells second right → cases.spells (ts ++ (first ++ second)) (g.case_of (v, (left, right)))
  statements-go_on v first second left right s l r = ((v, (left, right)), (ts, first ++ second, refl, s, (first, second, refl, l, r)), refl)

  query-goes_on : (v : Built (List Statement) × Built Query) (second : List Lexeme) (right : Built Query) → (gl g.one_query).spells ts v
      → (gl g.ended_query).spells second right → cases.spells (ts ++ second) (g.case_of (v.0, (v.1, right)))
  query-goes_on v second right (head, first, e, s, l) r = (
    (v.0, (v.1, right)),
    (head, first ++ second, ap (λ z. z ++ second) e ∙ append_assoc head first second, s, (first, second, refl, l, r)),
    refl,
  )

  none-one : (at other : ℕ) → EndsBehind (gl statements) ts fault end at → EndsBehind (gl g.one_query) ts fault end other → ⊥
  none-one at other a b = of b.whole
    where
      of : (gl g.one_query).spells ts b.value → ⊥
      of (head, first, e, s, l) =
          let query : Built Query = b.value.1 in
          let short = query-goes_on b.value first query b.whole l in
          let long = statements-go_on a.value first first query query a.whole l l in
          let begun = prefixes.spelled (ts ++ (first ++ first)) (g.case_of (a.value, (query, query))) long in
          has_tokens first query l
          (ends_there (ts ++ first) first (g.case_of (b.value.0, (query, query))) short (subst cases.prefix (sym (append_assoc ts first first)) begun))

  -- what a whole case stands before does not go on
  three-alone : (at : ℕ) → GoesOnBehind ts at → (y : List Lexeme) → cases.prefix (ts ++ y) → ⊥
  three-alone at c y f = nothing_follows c.before c.value c.third c.after c.whole (subst cases.prefix c.parts (prefixes.shorter ts y f))

  none-three : (at other : ℕ) → EndsBehind (gl statements) ts fault end at → GoesOnBehind ts other → ⊥
  none-three at other a c = of c.whole
    where
      of : cases.spells c.before c.value → ⊥
      of (u, (head, both, e, s, (first, second, i, l, r)), is) =
          three-alone other c (first ++ second)
          (prefixes.spelled (ts ++ (first ++ second)) (g.case_of (a.value, (u.1.0, u.1.1))) (statements-go_on a.value first second u.1.0 u.1.1 a.whole l r))

  one-three : (at other : ℕ) → EndsBehind (gl g.one_query) ts fault end at → GoesOnBehind ts other → ⊥
  one-three at other b c = of c.whole
    where
      of : cases.spells c.before c.value → ⊥
      of (u, (head, both, e, s, (first, second, i, l, r)), is) =
          three-alone other c second (prefixes.spelled (ts ++ second) (g.case_of (b.value.0, (b.value.1, u.1.1))) (query-goes_on b.value second u.1.1 b.whole r))

  three-one : (at other : ℕ) → GoesOnBehind ts at → GoesOnBehind ts other → at ≡ other
  three-one at other a b = by (order ts a.before b.before a.after b.after a.third b.third a.parts b.parts)
    where
      by : Order a.before b.before a.third b.third → at ≡ other
      by (before k e) = absurd (nothing_follows a.before a.value a.third k a.whole (subst cases.prefix e (prefixes.spelled b.before b.value b.whole)))
      by (one e f) = a.place ∙ (ap (λ t. t.start) f ∙ sym b.place)
      by (behind k e) = absurd (nothing_follows b.before b.value b.third k b.whole (subst cases.prefix e (prefixes.spelled a.before a.value a.whole)))

  not_two-one : (count other at place : ℕ) → HasNotTwoQueries ts fault end count at → HasNotTwoQueries ts fault end other place → NotTwoQueries count at ≡ NotTwoQueries other place
  not_two-one count other at place (inl (m, a)) (inl (n, b)) = λ i. NotTwoQueries ((m ∙ sym n) i) ((a.place ∙ sym b.place) i)
  not_two-one count other at place (inl (m, a)) (inr (inl (n, b))) = absurd (none-one at place a b)
  not_two-one count other at place (inl (m, a)) (inr (inr (n, b))) = absurd (none-three at place a b)
  not_two-one count other at place (inr (inl (m, a))) (inl (n, b)) = absurd (none-one place at b a)
  not_two-one count other at place (inr (inl (m, a))) (inr (inl (n, b))) = λ i. NotTwoQueries ((m ∙ sym n) i) ((a.place ∙ sym b.place) i)
  not_two-one count other at place (inr (inl (m, a))) (inr (inr (n, b))) = absurd (one-three at place a b)
  not_two-one count other at place (inr (inr (m, a))) (inl (n, b)) = absurd (none-three place at b a)
  not_two-one count other at place (inr (inr (m, a))) (inr (inl (n, b))) = absurd (one-three place at b a)
  not_two-one count other at place (inr (inr (m, a))) (inr (inr (n, b))) = λ i. NotTwoQueries ((m ∙ sym n) i) (three-one at place a b i)

  -- ---- it passes a limit
  abbrev told : (which : TextLimit) → Passes texts 0 ts which → CaseFault
  told depth_limit p = Read (read_refusal.TooDeep p.token.start)
  told (count_limit what) p = Read (read_refusal.Limit what)

  one_told : (which other : TextLimit) (p : Passes texts 0 ts which) (q : Passes texts 0 ts other) → told which p ≡ told other q
  one_told depth_limit depth_limit p q = ap (λ t. Read (read_refusal.TooDeep t.start)) (once 0 ts depth_limit p q).1
  one_told depth_limit (count_limit what) p q = let e = one_limit 0 ts depth_limit (count_limit what) p q in cc
  one_told (count_limit what) depth_limit p q = let e = one_limit 0 ts (count_limit what) depth_limit p q in cc
  one_told (count_limit what) (count_limit other) p q = let e = one_limit 0 ts (count_limit what) (count_limit other) p q in cc

  -- ---- all of these
  data Class (refused : CaseFault) : Type 0 where
    unfinished : (r : ReadFault) → refused ≡ Read r → IsUnfinished 0 ts fault end r → Class refused
    passed : (which : TextLimit) (p : Passes texts 0 ts which) → refused ≡ told which p → Class refused
    not_two : (count at : ℕ) → refused ≡ NotTwoQueries count at → IsNotTwo 0 ts fault end count at → Class refused

  class_of : (refused : CaseFault) → refused ≢ NoMemory → Says 0 ts fault end refused → Class refused
  class_of (Read (read_refusal.Lex lexical)) m u = unfinished (read_refusal.Lex lexical) refl u
  class_of (Read (read_refusal.Unexpected at)) m u = unfinished (read_refusal.Unexpected at) refl u
  class_of (Read (read_refusal.LeftOut word at)) m u = unfinished (read_refusal.LeftOut word at) refl u
  class_of (Read (read_refusal.TooDeep at)) m u = passed depth_limit u.passes (ap (λ z. Read (read_refusal.TooDeep z)) (sym u.place))
  class_of (Read (read_refusal.Limit what)) m u = passed (count_limit what) u refl
  class_of (Read read_refusal.NoMemory) m u = absurd u
  class_of (Schema refused) m u = absurd u
  class_of (Scope refused) m u = absurd u
  class_of (QueriesDiffer left right) m u = absurd u
  class_of (NotTwoQueries count at) m u = not_two count at refl u
  class_of NoMemory m u = absurd (m refl)

  one_class : (f g : CaseFault) → Class f → Class g → f ≡ g
  one_class f g (unfinished r e a) (unfinished s i b) = e ∙ (ap Read (unfinished-one r s a b) ∙ sym i)
  one_class f g (unfinished r e a) (passed which p i) = absurd (limit_kept a.kept which p)
  one_class f g (unfinished r e a) (not_two count at i b) = absurd (a.not_counted count at b.counted)
  one_class f g (passed which p e) (unfinished r i b) = absurd (limit_kept b.kept which p)
  one_class f g (passed which p e) (passed other q i) = e ∙ (one_told which other p q ∙ sym i)
  one_class f g (passed which p e) (not_two count at i b) = absurd (limit_kept b.kept which p)
  one_class f g (not_two count at e a) (unfinished r i b) = absurd (b.not_counted count at a.counted)
  one_class f g (not_two count at e a) (passed which p i) = absurd (limit_kept a.kept which p)
  one_class f g (not_two count at e a) (not_two other place i b) = e ∙ (not_two-one count other at place a.counted b.counted ∙ sym i)

-- ---- of whole texts
module _ (text : List ℕ) (f g : CaseFault) (f_memory : f ≢ NoMemory) (g_memory : g ≢ NoMemory) where
  no_case-one : IsNoCase text f → IsNoCase text g → f ≡ g
  no_case-one a b =
      let lexed = same_tokens 0 text b.tokens a.tokens b.fault a.fault b.lexed a.lexed in
      let says : Says 0 a.tokens a.fault (length text) g =
      subst (λ z. Says 0 z a.fault (length text) g) lexed.0 (subst (λ z. Says 0 b.tokens z (length text) g) lexed.1 b.says) in
      one_class a.tokens a.fault (length text) f g (class_of a.tokens a.fault (length text) f f_memory a.says) (class_of a.tokens a.fault (length text) g g_memory says)

-- why a text is refused
data Reason (text : List ℕ) (refused : CaseFault) : Type 0 where
  no_case : IsNoCase text refused → Reason text refused
  breaks : (r : SchemaFault) → refused ≡ Schema r → BreaksRule text r → Reason text refused
  out_of_scope : (r : ScopeFault) → refused ≡ Scope r → IsOutOfScope text r → Reason text refused
  two_widths : (left right : ℕ) → refused ≡ QueriesDiffer left right → HasTwoWidths text left right → Reason text refused

reason : (text : List ℕ) (refused : CaseFault) → refused ≢ NoMemory → IsRefused text refused → Reason text refused
reason text (Read r) m u = no_case u
reason text (Schema r) m u = breaks r refl u
reason text (Scope r) m u = out_of_scope r refl u
reason text (QueriesDiffer left right) m u = two_widths left right refl u
reason text (NotTwoQueries count at) m u = no_case u
reason text NoMemory m u = absurd (m refl)

breaks-one : (text : List ℕ) (r s : SchemaFault) → BreaksRule text r → BreaksRule text s → r ≡ s
breaks-one text (schema_refusal.Refused code at) (schema_refusal.Refused other place) a b =
    let e : a.written ≡ b.written = (one_case text a.written b.written a.numbers b.numbers a.read.spells b.read.spells).0 in
    let f = same_Some _ _ (sym a.first ∙ (ap (λ (w : CaseText). schema_fault w.statements) e ∙ b.first)) in
    λ i. schema_refusal.Refused (f i).code (f i).at
breaks-one text schema_refusal.NoMemory s a b = absurd a.first
breaks-one text (schema_refusal.Refused code at) schema_refusal.NoMemory a b = absurd b.first

scope-one : (text : List ℕ) (r s : ScopeFault) → IsOutOfScope text r → IsOutOfScope text s → r ≡ s
scope-one text r s a b =
    let c = same_case a.has_schema b.has_schema in
    same_Some r s (sym a.first ∙ ((λ i. scope_fault_over (c.relations i) (c.text i)) ∙ b.first))

widths-one : (text : List ℕ) (left right other also : ℕ) → HasTwoWidths text left right → HasTwoWidths text other also → QueriesDiffer left right ≡ QueriesDiffer other also
widths-one text left right other also a b =
    let c = same_case a.has_schema b.has_schema in
    let l : left ≡ other = a.left_width ∙ ((λ i. width_over (c.relations i) (c.text i).left) ∙ sym b.left_width) in
    let r : right ≡ also = a.right_width ∙ ((λ i. width_over (c.relations i) (c.text i).right) ∙ sym b.right_width) in
    λ i. QueriesDiffer (l i) (r i)

-- a text is refused for one fault, want of memory left aside
pub one_refusal : (text : List ℕ) (f g : CaseFault) → f ≢ NoMemory → g ≢ NoMemory → IsRefused text f → IsRefused text g → f ≡ g
one_refusal text f g m n u v = by (reason text f m u) (reason text g n v)
  where
    by : Reason text f → Reason text g → f ≡ g
    by (no_case a) (no_case b) = no_case-one text f g m n a b
    by (no_case a) (breaks r i b) = absurd (m (no_case_memory text b.written b.numbers b.read f a))
    by (no_case a) (out_of_scope r i b) = absurd (m (no_case_memory text b.written b.numbers b.has_schema.read f a))
    by (no_case a) (two_widths left right i b) = absurd (m (no_case_memory text b.written b.numbers b.has_schema.read f a))
    by (breaks r e a) (no_case b) = absurd (n (no_case_memory text a.written a.numbers a.read g b))
    by (breaks r e a) (breaks s i b) = e ∙ (ap Schema (breaks-one text r s a b) ∙ sym i)
    by (breaks r e a) (out_of_scope s i b) = absurd (no_rule_broken text b.schema b.written b.numbers b.has_schema r a)
    by (breaks r e a) (two_widths left right i b) = absurd (no_rule_broken text b.schema b.written b.numbers b.has_schema r a)
    by (out_of_scope r e a) (no_case b) = absurd (n (no_case_memory text a.written a.numbers a.has_schema.read g b))
    by (out_of_scope r e a) (breaks s i b) = absurd (no_rule_broken text a.schema a.written a.numbers a.has_schema s b)
    by (out_of_scope r e a) (out_of_scope s i b) = e ∙ (ap Scope (scope-one text r s a b) ∙ sym i)
    by (out_of_scope r e a) (two_widths left right i b) = absurd (in_scope text b.schema b.written b.numbers b.has_schema b.well_formed r a)
    by (two_widths left right e a) (no_case b) = absurd (n (no_case_memory text a.written a.numbers a.has_schema.read g b))
    by (two_widths left right e a) (breaks s i b) = absurd (no_rule_broken text a.schema a.written a.numbers a.has_schema s b)
    by (two_widths left right e a) (out_of_scope s i b) = absurd (in_scope text a.schema a.written a.numbers a.has_schema a.well_formed s b)
    by (two_widths left right e a) (two_widths other also i b) = e ∙ (widths-one text left right other also a b ∙ sym i)
