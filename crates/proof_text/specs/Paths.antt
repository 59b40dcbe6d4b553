-- The last run of a path: contracts of private functions alone cite this.
use Rattle.std.specs.Prelude.{◌-◌, List, length, slice_get, Option, Some, None}
use Rattle.u_deriv.specs.declared.run.Run.{Run}
use Rattle.u_deriv.specs.declared.run.Run.TheVariants.{Left, Right, Inside}
use Rattle.proof_text.specs.declared.path.Last.{Last}
use Rattle.proof_text.specs.declared.path.Last.TheVariants as last
use Rattle.proof_text.specs.Reading.{last_of}

abbrev pub kind_of : Option Run → Last
kind_of None = last.Other
kind_of (Some run) = last_of run

abbrev pub kind_of_last : List Run → Last
kind_of_last runs = kind_of (slice_get runs (length runs - 1))

-- a run of this kind may follow
abbrev pub IsApart : Last → Run → Type 0
IsApart last.Left (Left n) = ⊥
IsApart last.Right (Right n) = ⊥
IsApart last.Inside (Inside n) = ⊥
IsApart _ _ = Unit {0}
