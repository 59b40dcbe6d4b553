use Rattle.proof_text.proofs.writing.TextsAt.{fits_form}
use Rattle.call_rows.proofs.write.step_with.Goals as goal

pub returns : goal.returns
returns c = fits_form _ (record { kinds = rw c.from_vec.ensures (rw c.in_ok-args.ensures.items (tt, tt)); none = λ e. c.new-2.ensures; inner = rw c.new-2.ensures tt })
