-- Turns as a walk takes them: contracts of private functions alone cite this.
use Rattle.std.specs.Prelude.{List}
use Rattle.u_deriv.specs.declared.run.Run.{Run}
use Rattle.u_deriv.specs.declared.run.Turn.{Turn}
use Rattle.u_deriv.specs.Turns.{turn_of}

-- the first turn of a run, and the turns behind it
abbrev pub first_turn : Run × List Turn → Turn × List Turn
first_turn p = (turn_of p.0, p.1)
