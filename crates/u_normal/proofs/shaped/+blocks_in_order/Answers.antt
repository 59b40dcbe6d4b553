use Rattle.std.proofs.Common.{◌≡◌, ◌≤◌, ◌+◌, length, ap, sym, subst, ◌∙◌, arith}
use Rattle.u_terms.specs.Syntax.{U}
use Rattle.u_terms.specs.Size.{nodes}
use Rattle.u_terms.proofs.Sizes.{nodes-Add}
use Rattle.u_rules.specs.Terms.{◌⊕◌}
use Rattle.u_moves.specs.Derivations.{Derivation, IsKnown}
use Rattle.u_moves.proofs.derivations.Whole.{if-ok}
use Rattle.u_normal.specs.Shaped.{AreShaped, IsBrief, IsBriefBeside, IsBriefSum, IsLevel, tidied, all_tidied, block_count}
use Rattle.u_normal.proofs.terms.KnownParts.{known-left, known-right}
use Rattle.u_normal.proofs.shapes.TidiedBlocks.{shape-loose}
use Rattle.u_normal.proofs.shapes.ShapedSums.{all_tidied-Add, all_tidied-block, block_count-Add, block_count-one, one-shape, shaped-left, shaped-right}
use Rattle.u_normal.proofs.costs.Levels.{level-alone, level-both}
use Rattle.u_normal.proofs.costs.ShapedEnds.{brief-to}
use Rattle.u_normal.proofs.shaped.+blocks_in_order.Goals as goal

pub blocks_in_order-requires : goal.blocks_in_order-requires
blocks_in_order-requires t c = (
  omega (arith, c.decreases, ap nodes c.in-Add.is, nodes-Add c.in-Add.a c.in-Add.b, ap nodes c.get.ensures),
  (
    subst (λ (u : U). IsKnown 0 c.args.moves.outs u) (sym c.get.ensures)
        (known-left c.args.moves.outs 0 c.in-Add.a c.in-Add.b (subst (λ (u : U). IsKnown 0 c.args.moves.outs u) c.in-Add.is c.requires.known)),
    subst (λ (u : U). AreShaped c.args.moves.outs u) (sym c.get.ensures) (shaped-left c.args.moves.outs c.args.u.now c.in-Add.a c.in-Add.b c.in-Add.is c.requires.shaped),
  ),
)

pub blocks_in_order-requires-in-Add : goal.blocks_in_order-requires-in-Add
blocks_in_order-requires-in-Add t c = (
  omega (arith, c.decreases, ap nodes c.in-Add.is, nodes-Add c.in-Add.a c.in-Add.b, ap nodes c.get-in-Add.ensures),
  (
    subst (λ (u : U). IsKnown 0 c.args.moves.outs u) (sym c.get-in-Add.ensures)
        (known-right c.args.moves.outs 0 c.in-Add.a c.in-Add.b (subst (λ (u : U). IsKnown 0 c.args.moves.outs u) c.in-Add.is c.requires.known)),
    subst (λ (u : U). AreShaped c.args.moves.outs u) (sym c.get-in-Add.ensures) (shaped-right c.args.moves.outs c.args.u.now c.in-Add.a c.in-Add.b c.in-Add.is c.requires.shaped),
  ),
)

pub block_in_order-requires : goal.block_in_order-requires
block_in_order-requires t c =
    let block = one-shape c.args.moves.outs c.args.u.now c.requires.shaped c.in_default.not-Add in
    record { known = c.requires.known; block = shape-loose c.args.moves.outs c.args.u.now block.shape block.has }

pub returns-in_ok-right-in-Add : goal.returns-in_ok-right-in-Add
returns-in_ok-right-in-Add t c =
    let left = c.in_ok-left-in-Add.ensures {u = tt} in
    let right = c.in_ok-right-in-Add.ensures {u = tt} in
    let l : Derivation = c.in_ok-left-in-Add.left in
    let r : Derivation = c.in_ok-right-in-Add.right in
    let e : l.to ⊕ r.to ≡ all_tidied c.args.u.now =
    ap (λ (a : U). a ⊕ r.to) (left.brief.ends.to ∙ ap all_tidied c.get.ensures) ∙ ap (λ (b : U). all_tidied c.in-Add.a ⊕ b) (right.brief.ends.to ∙ ap all_tidied c.get-in-Add.ensures)
    ∙ sym (ap all_tidied c.in-Add.is ∙ all_tidied-Add c.in-Add.a c.in-Add.b) in
    let n : length l.steps + length r.steps ≤ block_count c.args.u.now =
    omega (arith, left.brief.short.few, right.brief.short.few, ap block_count c.get.ensures, ap block_count c.get-in-Add.ensures, ap block_count c.in-Add.is, block_count-Add c.in-Add.a c.in-Add.b) in
    if-ok (IsBriefBeside c.args.moves.facts.now c.args.moves.outs c.args.u.now l r) (IsBriefSum c.args.moves.facts.now c.args.moves.outs c.args.u.now)
    (λ d beside. record {
      brief = brief-to c.args.moves.facts.now c.args.moves.outs c.args.u.now (l.to ⊕ r.to) (all_tidied c.args.u.now) (length l.steps + length r.steps) (block_count c.args.u.now) d e n beside.brief;
      level = level-both c.args.u.now c.in-Add.a c.in-Add.b l r d c.in-Add.is (subst (λ (a : U). IsLevel a l) c.get.ensures left.level) (subst (λ (b : U). IsLevel b r) c.get-in-Add.ensures right.level) beside.shallow;
    })
    c.made_beside.result c.made_beside.ensures

pub returns-in_default : goal.returns-in_default
returns-in_default t c =
    if-ok (IsBrief c.args.moves.facts.now c.args.moves.outs c.args.u.now (tidied c.args.u.now) 1) (IsBriefSum c.args.moves.facts.now c.args.moves.outs c.args.u.now)
    (λ d brief. record {
      brief = brief-to c.args.moves.facts.now c.args.moves.outs c.args.u.now (tidied c.args.u.now) (all_tidied c.args.u.now) 1 (block_count c.args.u.now) d
          (sym (all_tidied-block c.args.u.now c.in_default.not-Add)) (omega (arith, block_count-one c.args.u.now c.in_default.not-Add)) brief;
      level = level-alone c.args.moves.facts.now c.args.moves.outs c.args.u.now (tidied c.args.u.now) 1 d c.in_default.not-Add brief;
    })
    c.block_in_order.result c.block_in_order.ensures
