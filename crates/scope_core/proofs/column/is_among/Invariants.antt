use Rattle.std.proofs.Common.{◌≡◌, drop}
use Rattle.scope_core.specs.Scope.{is_among_places}
use Rattle.scope_core.proofs.column.is_among.Given as goal

abbrev pub invariant-loop-place : goal.invariant-loop-place
invariant-loop-place l = is_among_places (l.entry, l.column) l.places ≡ is_among_places (l.entry, l.column) (drop l.place-index l.places)
