use Rattle.std.proofs.Common.{◌≡◌, rules, sym, subst, Err}
use Rattle.proof_check.specs.Pieces.{EndsLine}
use Rattle.proof_check.proofs.texts.PiecesTaken.{keep-ends}
use Rattle.proof_check.proofs.pieces.Pieces.end_line.Goals as goal

pub returns-in_err-keep-clause-fed : goal.returns-in_err-keep-clause-fed
returns-in_err-keep-clause-fed c =
    let e : c.from_residual.result ≡ Err c.in_err-keep.field-0.0 = search rules in
    subst (EndsLine c.args.self.now c.args.bytes.now c.keep.new.self) (sym e) (keep-ends c.args.self.now c.args.bytes.now c.keep.new.self _ c.in_err-keep.ensures)
