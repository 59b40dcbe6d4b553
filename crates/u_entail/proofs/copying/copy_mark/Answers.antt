use Rattle.std.proofs.Common.{◌≡◌, Some, ap, sym, ◌∙◌, subst}
use denote.Ref.{Bor}
use Rattle.u_terms.specs.Syntax.{U}
use Rattle.u_rules.specs.Terms.{terms}
use Rattle.u_entail.specs.Copies.{IsCopy}
use Rattle.u_entail.specs.Marks.{IsMark}
use Rattle.u_entail.proofs.copies.Carried.{own-pairs, pairs-found}
use Rattle.u_entail.proofs.copies.Copied.{copy-at}
use Rattle.u_entail.proofs.copies.Doubled.{term-at}
use Rattle.u_entail.proofs.copying.copy_mark.Goals as goal

pub copy_mark_between-requires-clause-at : goal.copy_mark_between-requires-clause-at
copy_mark_between-requires-clause-at c =
    let h = c.requires.mark in
    let mark = c.index-factors-place.result.now in
    let here : mark ≡ h.mark = ap (λ (r : Bor U). r.now) c.index-factors-place.is ∙ term-at c.args.factors.now c.args.place c.index-factors-place.result h.mark h.at in
    let found = pairs-found c.args.classes.now mark c.args.wanted.now c.in_ok-of.field-0 (c.in_ok-of.ensures {u = tt}) c.in-Some.pairs c.in-Some.is in
    h.at ∙ ap Some (sym here ∙ sym found.mark_is)

pub copy_mark_between-requires-clause-is : goal.copy_mark_between-requires-clause-is
copy_mark_between-requires-clause-is c =
    let h = c.requires.mark in
    let mark = c.index-factors-place.result.now in
    let here : mark ≡ h.mark = ap (λ (r : Bor U). r.now) c.index-factors-place.is ∙ term-at c.args.factors.now c.args.place c.index-factors-place.result h.mark h.at in
    let found = pairs-found c.args.classes.now mark c.args.wanted.now c.in_ok-of.field-0 (c.in_ok-of.ensures {u = tt}) c.in-Some.pairs c.in-Some.is in
    subst (λ (m : U). IsMark m) (sym here ∙ sym found.mark_is) h.is

pub copy_mark_between-requires-clause-pairs : goal.copy_mark_between-requires-clause-pairs
copy_mark_between-requires-clause-pairs c =
    let mark = c.index-factors-place.result.now in
    own-pairs c.args.classes.now mark c.args.wanted.now c.in-Some.pairs (pairs-found c.args.classes.now mark c.args.wanted.now c.in_ok-of.field-0 (c.in_ok-of.ensures {u = tt}) c.in-Some.pairs c.in-Some.is)

pub returns-in_ok-deriv-in-Some : goal.returns-in_ok-deriv-in-Some
returns-in_ok-deriv-in-Some c =
    let m = c.args.moves in
    let product = c.args.classes.now in
    let factors = terms c.args.factors.now in
    let wanted = c.args.wanted.now in
    let h = c.requires.mark in
    let mark = c.index-factors-place.result.now in
    let here : mark ≡ h.mark = ap (λ (r : Bor U). r.now) c.index-factors-place.is ∙ term-at c.args.factors.now c.args.place c.index-factors-place.result h.mark h.at in
    let found = pairs-found product mark wanted c.in_ok-of.field-0 (c.in_ok-of.ensures {u = tt}) c.in-Some.pairs c.in-Some.is in
    copy-at m.facts.now m.outs product factors c.args.place mark wanted (h.at ∙ ap Some (sym here)) c.in_ok-deriv-in-Some.deriv
    (subst (λ (x : U). IsCopy m.facts.now m.outs product factors x wanted c.in_ok-deriv-in-Some.deriv) found.mark_is (c.in_ok-deriv-in-Some.ensures {u = tt}))
