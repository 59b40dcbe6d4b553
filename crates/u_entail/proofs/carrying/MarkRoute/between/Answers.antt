use Rattle.std.proofs.Common.{List, sym, subst}
use Rattle.u_entail.specs.declared.carrying.Pair.{Pair}
use Rattle.u_entail.specs.Carrying.{PairsEither}
use Rattle.u_entail.proofs.copies.Carried.{no-pairs-found, pairs-found}
use Rattle.u_entail.proofs.carrying.MarkRoute.between.Goals as goal

pub returns-in-None : goal.returns-in-None
returns-in-None c = no-pairs-found c.args.classes.now c.args.mark.now c.args.wanted.now c.in_ok-of.field-0 (c.in_ok-of.ensures {u = tt}) c.in-None.is

pub along-requires : goal.along-requires
along-requires c =
    let product = c.args.classes.now in
    let pairs = c.in-Some.pairs in
    let h = pairs-found product c.args.mark.now c.args.wanted.now c.in_ok-of.field-0 (c.in_ok-of.ensures {u = tt}) pairs c.in-Some.is in
    subst (λ (ps : List Pair). PairsEither product c.args.mark.now c.args.wanted.now pairs.exchanged ps) (sym c.as_slice-points.ensures.value) h.paired
