use Rattle.std.proofs.Common.{◌≡◌, ◌++◌, rules}
use Rattle.std.specs.Prelude.{Some, None}
use Rattle.std.proofs.lemmas.Slice.Eq.{strip_prefix_is}
use Rattle.std.proofs.lemmas.Bool.Decides.{Decides-eqb}
use Rattle.proof_text.specs.LinesOfText.{fed}
use Rattle.proof_text.specs.Heading.{IsNumbered}
use Rattle.proof_text.proofs.texts.HeadingsRead.{numbered_behind, not_behind}
use Rattle.proof_text.proofs.heading.numbered.Goals as goal

pub returns-in_err-strip_prefix : goal.returns-in_err-strip_prefix
returns-in_err-strip_prefix c =
    let h : IsNumbered c.args.prefix.now (fed c.args.line.now c.args.ended) None =
    not_behind c.args.prefix.now c.args.line.now c.args.ended (strip_prefix_is Decides-eqb c.args.line.now c.args.prefix.now None c.in_err-strip_prefix.ensures.cases) in
    search rules

pub returns : goal.returns
returns c =
    let digits = c.in_ok-strip_prefix.field-0 in
    let e : c.args.line.now ≡ c.args.prefix.now ++ digits.now = strip_prefix_is Decides-eqb c.args.line.now c.args.prefix.now (Some digits) c.in_ok-strip_prefix.ensures.cases in
    numbered_behind c.args.prefix.now c.args.line.now digits.now c.args.ended c.only_number.result e c.only_number.ensures
