use Rattle.std.proofs.Common.{◌≡◌, [], drop}
use Rattle.sql_to_u.specs.Sizes.{view_sizes}
use Rattle.sql_to_u.proofs.term.view_sizes.Given as goal

abbrev pub invariant-loop-view : goal.invariant-loop-view
invariant-loop-view l = view_sizes l.sizes.items (drop l.view-index l.views) ≡ view_sizes [] l.views
