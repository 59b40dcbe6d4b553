use Rattle.std.proofs.Common.{◌≡◌, ap, sym, subst, ◌∙◌}
use Rattle.u_terms.specs.Syntax.{U}
use Rattle.u_rules.specs.Terms.{◌⊗◌}
use Rattle.u_moves.specs.Derivations.{IsKnown}
use Rattle.u_moves.proofs.derivations.Whole.{if-ok}
use Rattle.u_congruence.specs.Congruence.{IsFromTo}
use Rattle.u_normal.specs.Leading.{Leads}
use Rattle.u_normal.specs.Merging.{IsFewer, both}
use Rattle.u_normal.proofs.terms.KnownParts.{rest-known, part-known}
use Rattle.u_normal.proofs.derivations.Led.{leads-to}
use Rattle.u_normal.proofs.products.Merges.{fewer}
use Rattle.u_normal.proofs.merging.pair_merged.Goals as goal

pub factors_merged-requires-clause-known_first : goal.factors_merged-requires-clause-known_first
factors_merged-requires-clause-known_first c =
    subst (λ (u : U). IsKnown 0 c.args.moves.outs u) (sym c.get.ensures)
    (part-known c.args.moves.outs c.requires.pair.first_takes c.requires.known)

pub factors_merged-requires-clause-known_second : goal.factors_merged-requires-clause-known_second
factors_merged-requires-clause-known_second c =
    subst (λ (u : U). IsKnown 0 c.args.moves.outs u) (sym c.get-2.ensures) (part-known c.args.moves.outs c.requires.pair.second_takes (rest-known c.args.moves.outs c.requires.pair.first_takes c.requires.known))

pub still-requires : goal.still-requires
still-requires c =
    subst (λ (u : U). IsKnown 0 c.args.moves.outs u) (sym (c.in_ok-copied.ensures {u = tt} ∙ c.get-3.ensures))
    (rest-known c.args.moves.outs c.requires.pair.second_takes (rest-known c.args.moves.outs c.requires.pair.first_takes c.requires.known))

pub returns : goal.returns
returns c =
    let turn = c.in_ok-turn.ensures {u = tt} in
    let one = c.in_ok-one.ensures {u = tt} in
    let merged = one.reached in
    let rest : c.in_ok-rest.rest.to ≡ c.args.pair.now.rest = (c.in_ok-rest.ensures.ends).to ∙ c.in_ok-copied.ensures {u = tt} ∙ c.get-3.ensures in
    let end : c.in_ok-all.all.to ≡ both c.args.wrap merged.p merged.q ⊗ c.args.pair.now.rest =
    (c.in_ok-all.ensures.ends).to ∙ ap (λ (u : U). c.in_ok-one.one.to ⊗ u) rest ∙ ap (λ (u : U). u ⊗ c.args.pair.now.rest) merged.is in
    if-ok (IsFromTo c.in_ok-turn.turn.facts c.in_ok-turn.turn.outs c.in_ok-turn.turn.from c.in_ok-all.all.to)
    (Leads (IsFewer c.args.wrap c.args.u.now) c.args.moves.facts.now c.args.moves.outs c.args.u.now)
    (leads-to (IsFewer c.args.wrap c.args.u.now) c.args.moves.facts.now c.in_ok-turn.turn.facts c.args.moves.outs c.in_ok-turn.turn.outs c.args.u.now c.in_ok-turn.turn.from c.in_ok-all.all.to
    turn.facts turn.outs turn.from
    (subst (λ (u : U). IsFewer c.args.wrap c.args.u.now u) (sym end)
    (fewer c.args.wrap c.args.u.now c.args.pair.now c.requires.pair merged.p merged.q (sym c.get.ensures ∙ merged.first_is) (sym c.get-2.ensures ∙ merged.second_is))))
    c.joined.result c.joined.ensures.ends
