use Rattle.std.proofs.Common.{ℕ, List, subst, sym, ◌∙◌}
use Rattle.sql_grammar.specs.Numbering.{Numbers}
use Rattle.case_core.specs.declared.fault.CaseFault.{CaseFault}
use Rattle.case_core.specs.declared.text.CaseText.{CaseText}
use Rattle.case_core.specs.Answer.{IsCase, IsRefused}
use Rattle.case_core.specs.Cases.{IsRead}
use Rattle.case_core.proofs.FitCases.{text_fits, trees_fit}
use Rattle.case_core.proofs.Texts.{refused_at}
use Rattle.case_core.proofs.WholeCases.{has_schema, left_refused, right_refused, schema_refused, views_refused, well_formed, widths_refused}
use Rattle.case_core.proofs.read.resolve_text.Goals as goal

-- what is refused wherever this is what a text spells
abbrev Refused : CaseText → CaseFault → Type 0
Refused text fault = (bytes : List ℕ) (numbers : Numbers) → IsRead bytes text numbers → IsRefused bytes fault

pub returns-in_err-read_schema-clause-refused : goal.returns-in_err-read_schema-clause-refused
returns-in_err-read_schema-clause-refused c =
    refused_at c.from_residual.result (Refused c.args.text.now) c.from_residual.ensures.1 (λ bytes numbers r. schema_refused r _ c.in_err-read_schema.ensures.refused)

pub returns-in_err-resolve_views-clause-refused : goal.returns-in_err-resolve_views-clause-refused
returns-in_err-resolve_views-clause-refused c =
    let fault = rw (c.get.ensures, c.new-schema.ensures) at c.in_err-resolve_views.ensures.err in
    refused_at c.from_residual-in_err-resolve_views.result (Refused c.args.text.now) c.from_residual-in_err-resolve_views.ensures.1
    (λ bytes numbers r. views_refused r c.in_ok-read_schema.ensures.built _ fault)

pub returns-in_err-resolve-clause-refused : goal.returns-in_err-resolve-clause-refused
returns-in_err-resolve-clause-refused c =
    let views = rw (c.get.ensures, c.new-schema.ensures) at c.in_ok-resolve_views.ensures.well_formed in
    let fault = rw (c.get-2.ensures, c.new-schema.ensures) at c.in_err-resolve.ensures.err in
    refused_at c.from_residual-in_err-resolve.result (Refused c.args.text.now) c.from_residual-in_err-resolve.ensures.1
    (λ bytes numbers r. left_refused r c.in_ok-read_schema.ensures.built views _ fault)

pub returns-in_err-resolve-2-clause-refused : goal.returns-in_err-resolve-2-clause-refused
returns-in_err-resolve-2-clause-refused c =
    let views = rw (c.get.ensures, c.new-schema.ensures) at c.in_ok-resolve_views.ensures.well_formed in
    let left = rw (c.get-2.ensures, c.new-schema.ensures) at c.in_ok-resolve.ensures.well_formed in
    let fault = rw (c.get-4.ensures, c.new-schema.ensures) at c.in_err-resolve-2.ensures.err in
    refused_at c.from_residual-in_err-resolve-2.result (Refused c.args.text.now) c.from_residual-in_err-resolve-2.ensures.1
    (λ bytes numbers r. right_refused r c.in_ok-read_schema.ensures.built views left _ fault)

pub returns-in_err-expect_one_width-clause-refused : goal.returns-in_err-expect_one_width-clause-refused
returns-in_err-expect_one_width-clause-refused c =
    let views = rw (c.get.ensures, c.new-schema.ensures) at c.in_ok-resolve_views.ensures.well_formed in
    let left = rw (c.get-2.ensures, c.new-schema.ensures) at c.in_ok-resolve.ensures in
    let right = rw (c.get-4.ensures, c.new-schema.ensures) at c.in_ok-resolve-2.ensures in
    let differ = rw (c.get-6.ensures, c.new-left.ensures, c.get-7.ensures, c.new-right.ensures) at c.in_err-expect_one_width.ensures.differ in
    refused_at c.from_residual-in_err-expect_one_width.result (Refused c.args.text.now) c.from_residual-in_err-expect_one_width.ensures.1
    (λ bytes numbers r. subst (IsRefused bytes) (sym differ.0)
    (widths_refused r c.in_ok-read_schema.ensures.built views left.well_formed right.well_formed left.wide right.wide differ.1))

pub returns-in_err-facts-clause-refused : goal.returns-in_err-facts-clause-refused
returns-in_err-facts-clause-refused c = refused_at c.from_residual-in_err-facts.result (Refused c.args.text.now) c.from_residual-in_err-facts.ensures.1 (λ bytes numbers r. tt)

pub returns-clause-read : goal.returns-clause-read
returns-clause-read c symbols bytes r =
    let built = c.in_ok-read_schema.ensures.built in
    let views = rw (c.get.ensures, c.new-schema.ensures) at c.in_ok-resolve_views.ensures in
    let left = rw (c.get-2.ensures, c.new-schema.ensures) at c.in_ok-resolve.ensures in
    let right = rw (c.get-4.ensures, c.new-schema.ensures) at c.in_ok-resolve-2.ensures in
    let same = rw (c.get-6.ensures, c.new-left.ensures, c.get-7.ensures, c.new-right.ensures) at c.in_ok-expect_one_width.ensures.same in
    rw (c.into_inner.ensures, c.into_inner-2.ensures, c.into_inner-3.ensures, c.into_inner-4.ensures, c.new-schema.ensures, c.new-views.ensures, c.new-left.ensures, c.new-right.ensures)
    record {
      written = c.args.text.now;
      has_schema = has_schema r built;
      well_formed = well_formed r built views.well_formed left.well_formed right.well_formed;
      views = views.value;
      left = left.value;
      right = right.value;
      one_width = sym left.wide ∙ (same ∙ right.wide);
      facts = rw (c.get-8.ensures, c.new-schema.ensures) at c.in_ok-facts.ensures;
      fit_symbols = trees_fit (text_fits bytes _ _ r.spells) built views.symbols left.symbols right.symbols;
    }
