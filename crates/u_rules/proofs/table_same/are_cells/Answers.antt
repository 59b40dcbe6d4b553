use Rattle.u_terms.specs.Binding.{place_for_names}
use Rattle.u_rules.proofs.terms.UnderSums.{mapped-places}
use Rattle.u_rules.proofs.table_same.are_cells.Goals as goal

pub returns-in-Places : goal.returns-in-Places
returns-in-Places c = rw (c.in-Places.is, mapped-places (place_for_names c.args.first c.args.count) c.args.binders c.in-Places.width) c.are_places.ensures
