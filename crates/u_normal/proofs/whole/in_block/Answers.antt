use Rattle.std.proofs.Common.{refl}
use Rattle.u_terms.specs.Products.{product_of}
use Rattle.u_rules.specs.Terms.{mul_leaves}
use Rattle.u_moves.proofs.derivations.Whole.{if-ok}
use Rattle.normal_form.specs.Kinds.{ordered}
use Rattle.u_congruence.specs.Congruence.{IsFromTo}
use Rattle.u_normal.specs.Leading.{Leads}
use Rattle.u_normal.specs.Rooms.{InRoom}
use Rattle.u_normal.specs.Summing.{IsBlockSum}
use Rattle.u_normal.specs.Finishing.{IsFinished}
use Rattle.u_normal.proofs.derivations.Led.{leads-to}
use Rattle.u_normal.proofs.derivations.InRooms.{within, leads-over, not-over}
use Rattle.u_normal.proofs.products.Blocks.{finished-kinds, ordered-blocks}
use Rattle.u_normal.proofs.whole.in_block.Goals as goal

pub then_in_order-requires-clause-kinds : goal.then_in_order-requires-clause-kinds
then_in_order-requires-clause-kinds c =
    finished-kinds c.args.u.now c.args.row.to (c.requires.row.reached.fits (not-over c.args.room c.args.row.to (c.if-is_over.ensures {u = tt}).1))

pub returns-then-is_over : goal.returns-then-is_over
returns-then-is_over c =
    leads-over c.args.room (InRoom c.args.room (IsFinished c.args.u.now)) IsBlockSum c.args.moves.facts.now c.args.moves.outs c.args.u.now c.args.row
    (c.is_over.ensures.0 c.if-is_over.true) c.requires.row

pub returns : goal.returns
returns c =
    if-ok (IsFromTo c.args.moves.facts.now c.args.moves.outs c.args.row.from (product_of (ordered (mul_leaves c.args.row.to))))
    (Leads (InRoom c.args.room IsBlockSum) c.args.moves.facts.now c.args.moves.outs c.args.u.now)
    (leads-to (InRoom c.args.room IsBlockSum) c.args.moves.facts.now c.args.moves.facts.now c.args.moves.outs c.args.moves.outs c.args.u.now c.args.row.from (product_of (ordered (mul_leaves c.args.row.to)))
    refl refl c.requires.row.from
    (within c.args.room IsBlockSum (product_of (ordered (mul_leaves c.args.row.to)))
    (ordered-blocks c.args.u.now c.args.row.to c.requires.tidy (c.requires.row.reached.fits (not-over c.args.room c.args.row.to (c.if-is_over.ensures {u = tt}).1)))))
    c.then_in_order.result c.then_in_order.ensures
