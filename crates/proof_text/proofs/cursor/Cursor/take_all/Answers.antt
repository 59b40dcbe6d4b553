use Rattle.std.proofs.Common.{◌≡◌, ◌++◌, subst}
use Rattle.std.specs.Prelude.{Ok, Some}
use Rattle.std.proofs.lemmas.Slice.Eq.{strip_prefix_is}
use Rattle.std.proofs.lemmas.Bool.Decides.{Decides-eqb}
use Rattle.proof_text.specs.LinesOfText.{fed}
use Rattle.proof_text.specs.Reading.{Rest, word_at}
use Rattle.proof_text.proofs.texts.WordsPassed.{all_passed}
use Rattle.proof_text.proofs.cursor.Cursor.take_all.Goals as goal

pub returns-in-Some : goal.returns-in-Some
returns-in-Some c =
    let line = c.self.inside in
    let e : line.bytes.now ≡ c.args.wanted.now ++ c.in-Some.rest.now = strip_prefix_is Decides-eqb line.bytes.now c.args.wanted.now (Some c.in-Some.rest) c.in-Some.ensures.cases in
    subst (λ (r : Rest). word_at c.args.wanted.now r ≡ (Ok tt, record { nodes = line.nodes; text = fed c.in-Some.rest.now line.ended })) c.self.view_is
    (all_passed c.args.wanted.now line.bytes.now c.in-Some.rest.now line.ended line.nodes e)
