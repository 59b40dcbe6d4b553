use Rattle.std.proofs.Common.{◌<◌, sym, ◌∙◌, arith}
use Rattle.u_rules.proofs.terms.TableMeasures.{measure-key, measure-fkey}
use Rattle.u_rules.proofs.measuring.measure.Goals as goal

pub returns-in-Key : goal.returns-in-Key
returns-in-Key c = rw c.in-Key.is (c.key_sizes.ensures ∙ sym (measure-key _ c.in-Key.key.now c.in-Key.one.now c.in-Key.other.now))

pub returns-in-Fkey : goal.returns-in-Fkey
returns-in-Fkey c =
    let small : c.in-Fkey.width < 4294967296 = omega arith in
    rw c.in-Fkey.is (c.fkey_sizes.ensures ∙ sym (measure-fkey c.in-Fkey.width c.in-Fkey.fkey.now c.in-Fkey.row.now small))
