-- What the layers answer, as the answer of the whole.
use Rattle.std.proofs.Common.{◌≡◌, ◌≢◌, ℕ, List, Option, None, ◌∙◌, ap}
use Rattle.std.specs.Option.{option_or}
use Rattle.sql_model.specs.declared.schema.Schema.{Schema as TheSchema}
use Rattle.sql_grammar.specs.Numbering.{Numbers}
use Rattle.schema_read.specs.declared.fault.SchemaFault.{SchemaFault}
use Rattle.schema_read.specs.declared.fault.SchemaFault.TheVariants as schema_refusal
use Rattle.schema_read.specs.Builds.{Builds, schema_fault}
use Rattle.schema_read.specs.Order.{Refuses}
use Rattle.scope_core.specs.declared.fault.ScopeFault.{ScopeFault}
use Rattle.scope_core.specs.declared.fault.ScopeFault.TheVariants as scope_refusal
use Rattle.scope_core.specs.Answer.{IsCause}
use Rattle.scope_core.specs.FirstFault.{query_fault, schema_fault as views_fault}
use Rattle.scope_core.specs.WellFormed.{SchemaWellFormed, SchemaWithinWidth, WellFormed, WithinWidth}
use Rattle.scope_core.proofs.well_formed.NoFault.{query_fault-none, schema_fault-none}
use Rattle.case_core.specs.declared.fault.CaseFault.{CaseFault}
use Rattle.case_core.specs.declared.fault.CaseFault.TheVariants.{Read, QueriesDiffer, NotTwoQueries, NoMemory}
use Rattle.case_core.specs.declared.text.CaseText.{CaseText}
use Rattle.case_core.specs.Answer.{HasSchema, IsRefused, IsWellFormed, scope_fault, width_of}
use Rattle.case_core.specs.Cases.{IsRead}
use Rattle.case_core.specs.Refusals.{IsNoText}
use Rattle.case_core.specs.Wrapping.{of_schema, of_scope}

pub text_refused : (text : List ℕ) (fault : CaseFault) → IsNoText text fault → IsRefused text fault
text_refused text (Read fault) n = n
text_refused text (NotTwoQueries count at) n = n
text_refused text NoMemory n = tt
text_refused text other n = absurd n

pub schema_refused : {text : List ℕ} {written : CaseText} {numbers : Numbers} → IsRead text written numbers → (fault : SchemaFault) → Refuses fault (schema_fault written.statements)
    → IsRefused text (of_schema fault)
schema_refused r (schema_refusal.Refused code at) e = record { written = _; numbers = _; read = r; first = e }
schema_refused r schema_refusal.NoMemory e = tt

-- ---- scope: an earlier fault comes first

cause_first : (fault : ScopeFault) (first others : Option ScopeFault) → IsCause fault first → IsCause fault (option_or first others)
unfolding IsCause
cause_first fault first others c = λ n. ap (λ z. option_or z others) (c n)

cause_behind : (fault : ScopeFault) (first others : Option ScopeFault) → first ≡ None → IsCause fault others → IsCause fault (option_or first others)
unfolding IsCause
cause_behind fault first others e c = λ n. ap (λ z. option_or z others) e ∙ c n

module _ {text : List ℕ} {written : CaseText} {numbers : Numbers} {schema : TheSchema} (r : IsRead text written numbers) (b : Builds written.statements schema) where
  pub has_schema : HasSchema text written numbers schema
  has_schema = record { read = r; built = b }

  scope_refused : (fault : ScopeFault) → IsCause fault (scope_fault schema written) → IsRefused text (of_scope fault)
  unfolding IsCause
  scope_refused scope_refusal.NoMemory c = tt
  scope_refused other c = record { written = written; numbers = numbers; schema = schema; has_schema = has_schema; first = c (λ e. cc); no_memory = λ e. cc }

  abbrev of_left : Option ScopeFault
  of_left = query_fault schema written.left

  abbrev of_right : Option ScopeFault
  of_right = query_fault schema written.right

  pub views_refused : (fault : ScopeFault) → IsCause fault (views_fault schema) → IsRefused text (of_scope fault)
  views_refused fault c = scope_refused fault (cause_first fault (views_fault schema) (option_or of_left of_right) c)

  module _ (views : SchemaWellFormed schema × SchemaWithinWidth schema) where
    no_view : views_fault schema ≡ None
    no_view = (schema_fault-none schema).1 views

    pub left_refused : (fault : ScopeFault) → IsCause fault (query_fault schema written.left) → IsRefused text (of_scope fault)
    left_refused fault c = scope_refused fault (cause_behind fault (views_fault schema) _ no_view (cause_first fault of_left of_right c))

    module _ (left : WellFormed schema written.left × WithinWidth schema written.left) where
      pub right_refused : (fault : ScopeFault) → IsCause fault (query_fault schema written.right) → IsRefused text (of_scope fault)
      right_refused fault c =
          scope_refused fault (cause_behind fault (views_fault schema) _ no_view (cause_behind fault of_left of_right ((query_fault-none schema written.left).1 left) c))

      module _ (right : WellFormed schema written.right × WithinWidth schema written.right) where
        pub well_formed : IsWellFormed schema written
        well_formed = record {
          views = views.0;
          views_within_width = views.1;
          left = left.0;
          left_within_width = left.1;
          right = right.0;
          right_within_width = right.1;
        }

        pub widths_refused : {one other : ℕ} → one ≡ width_of schema written.left → other ≡ width_of schema written.right → one ≢ other → IsRefused text (QueriesDiffer one other)
        widths_refused e i n = record {
          written = written;
          numbers = numbers;
          schema = schema;
          has_schema = has_schema;
          well_formed = well_formed;
          left_width = e;
          right_width = i;
          differ = n;
        }
