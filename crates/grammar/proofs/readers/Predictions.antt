-- The languages of the forms of a predictive grammar, with no limits and with so many levels left.
use Rattle.std.proofs.Common.{◌≡◌, ℕ, Bool, true, List, Some, None}
use Rattle.grammar.specs.Language.{Language, Includes, HasPrefixes}
use Rattle.grammar.specs.Form.{Form, Room, IsRoomier, form_language, language}
use Rattle.grammar.specs.Lookahead.{Lookahead, PredictiveGrammar, is_predictive, limited, lookahead, unlimited}
use Rattle.grammar.specs.Reading.{Took, Failed, Exceeded}
use Rattle.grammar.proofs.languages.Forms.{form_prefixes, form_grows, includes_itself, includes_through}
use Rattle.grammar.proofs.languages.Heights.{name_prefixes, name_grows, to_rule, from_rule}
use Rattle.grammar.proofs.languages.Known.{Known}
use Rattle.grammar.proofs.readers.Outcomes.{took_once, failed_once, exceeded_once, took_not_failed, took_not_exceeded, failed_not_exceeded}
use Rattle.grammar.proofs.languages.Tables.{grammar_known, name_known}
use Rattle.grammar.proofs.readers.Steps.{IsWithin, Same}

module _ {T K N : Type 0} {V : N → Type 0} (g : PredictiveGrammar T K N V) where
  abbrev pub free : {A : Type 0} → Form T K N V A → Language T A
  free f = form_language g.kind (language g.kind g.rules) None f

  abbrev pub bounded : {A : Type 0} → ℕ → Form T K N V A → Language T A
  bounded levels f = form_language g.kind (language g.kind g.rules) (Some levels) f

  abbrev pub ok : {A : Type 0} → Form T K N V A → Bool
  ok f = is_predictive g.kinds g.table f

  abbrev pub ahead : {A : Type 0} → Form T K N V A → Lookahead K
  ahead f = lookahead g.table f

  pub known : {A : Type 0} (f : Form T K N V A) → ok f ≡ true → Known g.kind (free f) (ahead f)
  known f o = grammar_known g.kind g.kinds g.every g.table g.rules g.right f None o

  -- names with languages of their own, each within that of the grammar
  pub record AreWithin (E : Room → (n : N) → Language T (V n)) : Type 0 where
    pub included : (room : Room) (n : N) → Includes (language g.kind g.rules room n) (E room n)
    pub prefixes : (room : Room) (n : N) → HasPrefixes (E room n)

  -- the grammar's own
  pub limits_within : AreWithin (language g.kind g.rules)
  limits_within = record { included = λ room n. includes_itself (language g.kind g.rules room n); prefixes = name_prefixes g.kind g.rules }

  module _ (E : Room → (n : N) → Language T (V n)) (e : AreWithin E) where
    grows : (small large : Room) → IsRoomier small large → (n : N) → Includes (language g.kind g.rules large n) (E small n)
    grows small large i n =
        includes_through (E small n) (language g.kind g.rules small n) (language g.kind g.rules large n) (e.included small n) (name_grows g.kind g.rules small large i n)

    pub within : {A : Type 0} (room : Room) (f : Form T K N V A) → IsWithin (free f) (form_language g.kind E room f)
    within room f = record {
      includes = form_grows g.kind E (language g.kind g.rules) (name_prefixes g.kind g.rules) grows f room None tt;
      prefixes = form_prefixes g.kind E e.prefixes f room;
    }

  pub bounded_within : {A : Type 0} (levels : ℕ) (f : Form T K N V A) → IsWithin (free f) (bounded levels f)
  bounded_within levels f = within (language g.kind g.rules) limits_within (Some levels) f

  -- a name is its production
  pub produced : (room : Room) (n : N) → Same (form_language g.kind (language g.kind g.rules) room (g.rules n)) (language g.kind g.rules room n)
  produced room n = record { there = from_rule g.kind g.rules room n; back = to_rule g.kind g.rules room n }

  pub named : (room : Room) (n : N) → Known g.kind (language g.kind g.rules room n) (g.table n)
  named = name_known g.kind g.kinds g.every g.table g.rules g.right

  -- ---- outcomes

  module _ (n : N) (levels : ℕ) where
    fewer : Includes (unlimited g n) (limited g levels n)
    fewer = name_grows g.kind g.rules (Some levels) None tt n

    all_prefixes : HasPrefixes (unlimited g n)
    all_prefixes = name_prefixes g.kind g.rules None n

    few_prefixes : HasPrefixes (limited g levels n)
    few_prefixes = name_prefixes g.kind g.rules (Some levels) n

    pub read_once : (ts : List T) (v w : V n) (rest other : List T) → Took (unlimited g n) (limited g levels n) ts v rest → Took (unlimited g n) (limited g levels n) ts w other → (v ≡ w) × (rest ≡ other)
    read_once = took_once (unlimited g n) (limited g levels n) all_prefixes few_prefixes fewer (named None n).unique

    pub refused_once : (ts rest other : List T) → Failed (unlimited g n) (limited g levels n) ts rest → Failed (unlimited g n) (limited g levels n) ts other → rest ≡ other
    refused_once = failed_once (unlimited g n) (limited g levels n) all_prefixes few_prefixes fewer

    pub passed_once : (ts rest other : List T) → Exceeded (unlimited g n) (limited g levels n) ts rest → Exceeded (unlimited g n) (limited g levels n) ts other → rest ≡ other
    passed_once = exceeded_once (unlimited g n) (limited g levels n) all_prefixes few_prefixes fewer

    pub read_or_refused : (ts : List T) (v : V n) (rest other : List T) → Took (unlimited g n) (limited g levels n) ts v rest → Failed (unlimited g n) (limited g levels n) ts other → ⊥
    read_or_refused = took_not_failed (unlimited g n) (limited g levels n) all_prefixes few_prefixes fewer

    pub read_or_passed : (ts : List T) (v : V n) (rest other : List T) → Took (unlimited g n) (limited g levels n) ts v rest → Exceeded (unlimited g n) (limited g levels n) ts other → ⊥
    read_or_passed = took_not_exceeded (unlimited g n) (limited g levels n) all_prefixes few_prefixes fewer

    pub refused_or_passed : (ts rest other : List T) → Failed (unlimited g n) (limited g levels n) ts rest → Exceeded (unlimited g n) (limited g levels n) ts other → ⊥
    refused_or_passed = failed_not_exceeded (unlimited g n) (limited g levels n) all_prefixes few_prefixes fewer
