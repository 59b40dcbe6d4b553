use Rattle.std.proofs.Common.{refl}
use Rattle.u_rules.specs.Terms.{add_leaves}
use Rattle.u_moves.proofs.derivations.Whole.{if-ok}
use Rattle.normal_form.specs.NormalTerms.{sum_of, IsNormal}
use Rattle.u_congruence.specs.Congruence.{IsFromTo}
use Rattle.u_normal.specs.Leading.{Leads}
use Rattle.u_normal.specs.Rooms.{InRoom}
use Rattle.u_normal.proofs.derivations.Led.{leads-to}
use Rattle.u_normal.proofs.derivations.InRooms.{within, within-over, not-over}
use Rattle.u_normal.proofs.products.Blocks.{row-normal}
use Rattle.u_normal.proofs.whole.gathered.Goals as goal

pub returns-then-is_over : goal.returns-then-is_over
returns-then-is_over c =
    record { facts = c.requires.by.facts; outs = c.requires.by.outs; from = refl; reached = within-over c.args.room IsNormal c.args.sum.to (c.is_over.ensures.0 c.if-is_over.true) }

pub returns : goal.returns
returns c =
    if-ok (IsFromTo c.args.moves.facts.now c.args.moves.outs c.args.sum.from (sum_of (add_leaves c.args.sum.to)))
    (Leads (InRoom c.args.room IsNormal) c.args.moves.facts.now c.args.moves.outs c.args.sum.from)
    (leads-to (InRoom c.args.room IsNormal) c.args.moves.facts.now c.args.moves.facts.now c.args.moves.outs c.args.moves.outs c.args.sum.from c.args.sum.from (sum_of (add_leaves c.args.sum.to))
    refl refl refl
    (within c.args.room IsNormal (sum_of (add_leaves c.args.sum.to))
    (row-normal c.args.sum.to (c.requires.sum.fits (not-over c.args.room c.args.sum.to (c.if-is_over.ensures {u = tt}).1)))))
    c.then_in_row.result c.then_in_row.ensures.ends
