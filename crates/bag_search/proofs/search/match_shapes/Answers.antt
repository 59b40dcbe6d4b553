use Rattle.std.proofs.Common.{◌∙◌, sym}
use Rattle.std.proofs.lemmas.Result.{IfOk-weaker}
use Rattle.shapes.specs.Tried.{search_alike}
use Rattle.bag_search.specs.Answers.{Matches, Says}
use Rattle.bag_search.specs.declared.search.Match.TheVariants as m
use Rattle.bag_search.proofs.Saying.{answers-say}
use Rattle.bag_search.proofs.Whole.{unequal}
use Rattle.bag_search.proofs.search.match_shapes.Goals as goal

pub returns-then-len-clause-matched : goal.returns-then-len-clause-matched
returns-then-len-clause-matched c = unequal c.args.s.now c.args.t.now c.args.budget (λ e. c.if-len.true (c.len.ensures ∙ e ∙ sym c.len-2.ensures))

pub returns-then-len-clause-whole : goal.returns-then-len-clause-whole
returns-then-len-clause-whole c whole_s whole_t =
    answers-say c.args.s.now c.args.t.now c.args.budget m.Nothing whole_s whole_t (returns-then-len-clause-matched c)

pub returns-clause-whole : goal.returns-clause-whole
returns-clause-whole c whole_s whole_t =
    let s = c.args.s.now in
    let t = c.args.t.now in
    IfOk-weaker c.search_all.result (Matches (search_alike s t) c.args.budget) (Says s t c.args.budget) (λ found h. answers-say s t c.args.budget found whole_s whole_t h) c.search_all.ensures
