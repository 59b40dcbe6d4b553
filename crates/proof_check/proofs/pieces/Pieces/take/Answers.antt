use Rattle.std.proofs.Common.{◌≡◌, ◌∙◌, rules, ap, sym, subst, Err}
use Rattle.proof_text.specs.LinesOfText.{Unread}
use Rattle.proof_check.specs.Check.{stop_of}
use Rattle.proof_check.specs.Pieces.{Partial, Takes}
use Rattle.proof_check.proofs.texts.PiecesTaken.{keep-stops, next-kept, next-stops, next-taken, nothing-taken, still-stopped}
use Rattle.proof_check.proofs.pieces.Pieces.take.Goals as goal

pub returns-in-Some-clause-taken : goal.returns-in-Some-clause-taken
returns-in-Some-clause-taken c =
    still-stopped c.args.self.now c.args.piece.now c.in-Some.stop (ap (λ (p : Partial). stop_of p.check.state) (sym c.self.view_is) ∙ (sym c.stop.ensures ∙ c.in-Some.is))

pub loop-line-init : goal.loop-line-init
loop-line-init c = nothing-taken c.args.self.now c.args.piece.now _ (ap (λ (u : Unread). u.text) c.new-lines.ensures)

pub loop-line-preserved-in-Continue-1 : goal.loop-line-preserved-in-Continue-1
loop-line-preserved-in-Continue-1 c =
    next-taken _ _ _ _ _ _ _ c.in-Some-next.ensures _ c.loop-line.invariant c.if-line.true _ c.end_line.ensures.unbroken c.in_ok-end_line.ensures.fed

pub loop-line-preserved : goal.loop-line-preserved
loop-line-preserved c = next-kept _ _ _ _ _ _ _ c.in-Some-next.ensures _ c.loop-line.invariant c.if-line.false _ c.in_ok-keep.ensures

pub returns-in_err-end_line-clause-taken : goal.returns-in_err-end_line-clause-taken
returns-in_err-end_line-clause-taken c =
    let e : c.from_residual.result ≡ Err c.in_err-end_line.field-0.0 = search rules in
    subst (Takes c.args.self.now c.args.piece.now c.end_line.new.self) (sym e)
    (next-stops _ _ _ _ _ _ _ c.in-Some-next.ensures _ c.loop-line.invariant c.if-line.true c.end_line.new.self _ c.end_line.ensures.unbroken c.in_err-end_line.ensures.fed)

pub returns-in_err-keep-clause-taken : goal.returns-in_err-keep-clause-taken
returns-in_err-keep-clause-taken c =
    let e : c.from_residual-in_err-keep.result ≡ Err c.in_err-keep.field-0.0 = search rules in
    subst (Takes c.args.self.now c.args.piece.now c.keep.new.self) (sym e) (keep-stops _ _ _ _ c.loop-line.invariant c.keep.new.self _ c.in_err-keep.ensures)
