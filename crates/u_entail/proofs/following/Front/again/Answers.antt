use Rattle.std.proofs.Common.{◌≡◌, Some, get_or, ap, sym, ◌∙◌, subst}
use Rattle.std.proofs.lemmas.Result.{IfOk-weaker}
use Rattle.u_rules.specs.Terms.{terms}
use Rattle.u_entail.specs.Marks.{IsMark}
use Rattle.u_entail.proofs.copies.Doubled.{again-at, term-at}
use Rattle.u_entail.proofs.following.Front.again.Goals as goal

pub again_behind-requires-clause-parted : goal.again_behind-requires-clause-parted
again_behind-requires-clause-parted c =
    let refs = c.args.self.now.factors.now in
    let h = c.requires.mark in
    let here : (get_or refs c.args.place c.index-self-place.result).now ≡ h.mark = term-at refs c.args.place c.index-self-place.result h.mark h.at in
    record { at = h.at ∙ ap Some (sym here); rest = ap terms c.as_slice.ensures.value ∙ c.in_ok-others.ensures {u = tt}; is = subst IsMark (sym here) h.is }

pub returns : goal.returns
returns c =
    let m = c.args.self.now.moves in
    let refs = c.args.self.now.factors.now in
    let h = c.requires.mark in
    let here : (get_or refs c.args.place c.index-self-place.result).now ≡ h.mark = term-at refs c.args.place c.index-self-place.result h.mark h.at in
    IfOk-weaker c.again_behind.result _ _
    (λ d again. again-at m.facts.now m.outs (terms refs) c.args.place (get_or refs c.args.place c.index-self-place.result).now d (h.at ∙ ap Some (sym here)) again)
    c.again_behind.ensures
