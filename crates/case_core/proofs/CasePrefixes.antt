-- What begins a case: nothing goes on behind a whole one, and what is within the limits up to where a text stops is so throughout.
use Rattle.std.proofs.Common.{◌≡◌, ℕ, List, [], ◌∷◌, ◌++◌, Some, None, refl, sym, ◌∙◌, ap, subst, append_assoc}
use Rattle.std.proofs.lemmas.Bool.{false≢true}
use Rattle.grammar.specs.Form.{Room, language}
use Rattle.grammar.specs.Language.{HasPrefixes, Includes, Language}
use Rattle.grammar.specs.Lookahead.{lookahead}
use Rattle.grammar.specs.Reading.{Stops, Failed}
use Rattle.grammar.proofs.languages.Cut.{Cut, longer, same, shorter, cut}
use Rattle.grammar.proofs.languages.Forms.{form_prefixes}
use Rattle.grammar.proofs.languages.Heights.{name_prefixes}
use Rattle.grammar.proofs.languages.Known.{Known}
use Rattle.grammar.proofs.languages.Limits.{IsPrefixClosed}
use Rattle.grammar.proofs.readers.Longest.{no_longer}
use Rattle.sql_lex.specs.Lexemes.{Lexeme}
use Rattle.sql_grammar.specs.Kinds.{kind_of}
use Rattle.sql_lex.proofs.WholeTexts.{same_tokens}
use Rattle.sql_grammar.specs.Numbering.{Built, Numbers, first_numbers}
use Rattle.sql_grammar.specs.Queries.{most_levels, of_form}
use Rattle.sql_grammar.specs.QueryEntries.{few_rules, most_further}
use Rattle.sql_grammar.specs.QueryGrammar.{The}
use Rattle.sql_grammar.specs.QueryLookahead.{table}
use Rattle.sql_grammar.proofs.queries.QueryForms.{form_has_prefixes, roomier}
use Rattle.schema_read.proofs.spelled.StatementKnown.{known}
use Rattle.schema_read.proofs.agree.WholeStatements.{few_grammar}
use Rattle.case_core.specs.declared.text.CaseText.{CaseText}
use Rattle.case_core.specs.CaseGrammar as g
use Rattle.case_core.specs.Cases.{SpellsCase, cases, shallow_cases}
use Rattle.grammar.specs.Limits.{KeepsWithin}
use Rattle.case_core.specs.Refusals.{GoesOnBehind}

pub case_known : (room : Room) → Known kind_of (of_form room g.case) (lookahead table g.case)
case_known = known g.case refl

pub prefixes : HasPrefixes cases
prefixes = form_has_prefixes None g.case

pub shallow_included : Includes cases shallow_cases
shallow_included = roomier (Some most_levels) None tt g.case

-- nothing goes on behind a whole case
pub nothing_follows : (x : List Lexeme) (read : Built CaseText) (t : Lexeme) (y : List Lexeme) → cases.spells x read → cases.prefix (x ++ t ∷ y) → ⊥
nothing_follows x read t y s f = false≢true ((case_known None).ahead.last x read t y s f)

-- what is a prefix within limits, and goes on with nothing, passes them nowhere
pub kept_to : (L : Language Lexeme (Built CaseText)) → IsPrefixClosed L → (ts taken rest : List Lexeme) → ts ≡ taken ++ rest → L.prefix taken → Stops cases taken rest → KeepsWithin cases L ts
kept_to L l ts taken rest e f s x after token i d = at_cut (cut (x ++ token ∷ []) after taken rest (append_assoc x (token ∷ []) after ∙ (sym i ∙ e)))
  where
    at_cut : Cut (x ++ token ∷ []) after taken rest → ⊥
    at_cut (longer t k p q) = d.beyond (l (x ++ token ∷ []) (t ∷ k) (subst L.prefix p f))
    at_cut (same p q) = d.beyond (subst L.prefix p f)
    at_cut (shorter t k p q) = no_longer cases prefixes taken rest t (k ++ after) s q k (subst cases.prefix p d.goes_on)

pub shallow_prefixes : HasPrefixes shallow_cases
shallow_prefixes = form_has_prefixes (Some most_levels) g.case

pub few_prefixes : {A : Type 0} (f : The A) → HasPrefixes (few_grammar f)
few_prefixes f = form_prefixes kind_of (language kind_of (few_rules most_further)) (name_prefixes kind_of (few_rules most_further)) f None

-- where no whole case was read, none has a third query behind it
pub no_third : {ts rest : List Lexeme} {at : ℕ} → Failed cases shallow_cases ts rest → GoesOnBehind ts at → ⊥
no_third {ts = ts} {rest = rest} r third = at_cut (cut third.before (third.third ∷ third.after) r.taken rest (sym third.parts ∙ r.whole))
  where
    at_cut : Cut third.before (third.third ∷ third.after) r.taken rest → ⊥
    at_cut (longer t k p q) = nothing_follows third.before third.value t k third.whole (subst cases.prefix p (shallow_included.prefix r.taken r.begun))
    at_cut (same p q) = r.unspelled third.value (subst (λ z. cases.spells z third.value) (sym p) third.whole)
    at_cut (shorter t k p q) =
        no_longer cases prefixes r.taken rest t (k ++ third.third ∷ third.after) r.stops q k (subst cases.prefix p (prefixes.spelled third.before third.value third.whole))

-- behind a whole case stands what stands behind it
pub third_there : {ts taken rest : List Lexeme} {at : ℕ} (read : Built CaseText) → ts ≡ taken ++ rest → cases.spells taken read → (third : GoesOnBehind ts at) → rest ≡ third.third ∷ third.after
third_there {ts = ts} {taken = taken} {rest = rest} read e s third = at_cut (cut third.before (third.third ∷ third.after) taken rest (sym third.parts ∙ e))
  where
    at_cut : Cut third.before (third.third ∷ third.after) taken rest → rest ≡ third.third ∷ third.after
    at_cut (longer t k p q) = absurd (nothing_follows third.before third.value t k third.whole (subst cases.prefix p (prefixes.spelled taken read s)))
    at_cut (same p q) = q
    at_cut (shorter t k p q) = absurd (nothing_follows taken read t k s (subst cases.prefix p (prefixes.spelled third.before third.value third.whole)))

-- ---- one case

pub one_case : (text : List ℕ) (one other : CaseText) (numbers numbers_too : Numbers) → SpellsCase text one numbers → SpellsCase text other numbers_too → (one ≡ other) × (numbers ≡ numbers_too)
one_case text one other numbers numbers_too s r =
    let e : s.tokens ≡ r.tokens = (same_tokens 0 text s.tokens r.tokens None None s.lexed r.lexed).0 in
    let same_read : s.read ≡ r.read = (case_known None).unique r.tokens s.read r.read (subst (λ z. cases.spells z s.read) e s.spelled) r.spelled in
    let both : (one, numbers) ≡ (other, numbers_too) = sym s.built ∙ (ap (λ read. read.build first_numbers) same_read ∙ r.built) in
    (ap (λ u. u.0) both, ap (λ u. u.1) both)

pub ends_there : (x y : List Lexeme) (read : Built CaseText) → cases.spells x read → cases.prefix (x ++ y) → y ≡ []
ends_there x [] read s f = refl
ends_there x (t ∷ y) read s f = absurd (nothing_follows x read t y s f)
