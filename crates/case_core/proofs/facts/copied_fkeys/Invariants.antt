use Rattle.std.proofs.Common.{◌≡◌, take, map}
use Rattle.schema_read.specs.SchemaFacts.{by_numbers}
use Rattle.case_core.proofs.facts.copied_fkeys.Given as goal

abbrev pub invariant-loop-fkey : goal.invariant-loop-fkey
invariant-loop-fkey l = l.list ≡ map by_numbers (take l.fkey-index l.fkeys)
