-- What the text of a proof shows, read line by line. A line counts once its line feed is read, or the text has ended, and no more is read than the
-- most bytes and one.
use Rattle.std.specs.Prelude.{◌≡◌, ℕ, ◌+◌, ◌<◌, ◌≤◌, List, ◌++◌, length, take, map, Result, Ok, Err, Option, IfSome}
use Rattle.data_model.specs.Lists.{Each}
use Rattle.sql_model.specs.declared.schema.Schema.{Schema}
use Rattle.sql_model.specs.Meets.{base_tables}
use Rattle.u_terms.specs.declared.term.U.{U}
use Rattle.u_terms.specs.declared.facts.Facts.{Facts}
use Rattle.schema_read.specs.SchemaFacts.{by_numbers}
use Rattle.proof_text.specs.LinesOfText.{AreEnded}
use Rattle.proof_check.specs.declared.answers.ProofFault.{ProofFault}
use Rattle.proof_check.specs.declared.answers.Stop.{Stop}
use Rattle.proof_check.specs.declared.answers.Verdict.{Verdict}
use Rattle.proof_check.specs.Accepted as proof
use Rattle.proof_check.specs.Checking.{Stands, Finishes, Shows, State, on, stopped}
use Rattle.proof_check.specs.Judging.{Progress}
use Rattle.case_core.specs.Answer.{width_of}
use Rattle.case_core.specs.declared.text.CaseText.{CaseText}
use Rattle.udp_run.specs.Cases.{term_of}
use Rattle.udp_run.specs.Limits.{most_proof_bytes}

-- what a proof is to show: that the terms of two queries of this width mean the same wherever the facts are met
pub record Claim : Type 0 where
  pub facts : Facts
  pub outs : ℕ
  pub left : U
  pub right : U

-- the widths and keys of the base tables, and the foreign keys
abbrev pub facts_of : Schema → Facts
facts_of schema = record {
  widths = map (λ table. length table.columns) (base_tables schema);
  keys = map (λ table. table.keys) (base_tables schema);
  fkeys = map by_numbers schema.fkeys;
}

abbrev pub claim_of : Schema → CaseText → Claim
claim_of schema written = record {
  facts = facts_of schema;
  outs = width_of schema written.left;
  left = term_of schema written.left;
  right = term_of schema written.right;
}

abbrev pub Accepted : Claim → List ℕ → Type 0
Accepted claim text = proof.Accepted claim.facts claim.outs claim.left claim.right text

-- ---- the first bytes of a text
-- a line that ends in these bytes stops all that follow
pub record IsDecidedIn (claim : Claim) (bytes : List ℕ) (stop : Stop) : Type 0 where
  pub lines : List (List ℕ)
  pub rest : List ℕ
  pub ended : AreEnded bytes lines rest
  pub stands : Stands claim.facts claim.outs claim.left lines (stopped stop)

-- none does
pub record IsUndecidedIn (claim : Claim) (bytes : List ℕ) : Type 0 where
  pub lines : List (List ℕ)
  pub rest : List ℕ
  pub ended : AreEnded bytes lines rest
  pub unbroken : Each (λ byte. byte ≡ 10 → ⊥) rest
  pub taken : ℕ
  pub progress : Progress
  pub stands : Stands claim.facts claim.outs claim.left lines (on taken progress)

-- ---- whole texts
-- A text within its length shows what all its lines come to, and a longer one what the line comes to that stops the others.
pub data IsAnswered (claim : Claim) (text : List ℕ) (answer : Result Verdict ProofFault) : Type 0 where
  whole : length text ≤ most_proof_bytes → Shows claim.facts claim.outs claim.left claim.right text answer → IsAnswered claim text answer
  early : most_proof_bytes < length text → (stop : Stop) → IsDecidedIn claim (take (most_proof_bytes + 1) text) stop → Finishes claim.right (stopped stop) answer
      → IsAnswered claim text answer

-- the text is longer than a proof may be, and no line decides before that is seen
abbrev pub IsTooLong : Claim → List ℕ → Type 0
IsTooLong claim text = (most_proof_bytes < length text) × IsUndecidedIn claim (take (most_proof_bytes + 1) text)

-- the text, of which so much is left, was read as far as no line decides
abbrev pub IsUndecidedBefore : Claim → List ℕ → List ℕ → Type 0
IsUndecidedBefore claim text left = (prefix : List ℕ) × (text ≡ prefix ++ left) × IsUndecidedIn claim prefix
