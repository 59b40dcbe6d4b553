-- Why a reader did not go on, as it is told: contracts of private functions alone cite this.
use Rattle.std.specs.Prelude.{ℕ, ◌+◌}
use Rattle.proof_text.specs.declared.cursor.Stop.{Stop}
use Rattle.proof_text.specs.declared.cursor.Stop.TheVariants.{Unexpected, TooMany, TooDeep, NoMemory}
use Rattle.proof_text.specs.declared.limits.LimitKind.TheVariants.{Nodes, Depth}
use Rattle.proof_text.specs.declared.line.LineFault.{LineFault}
use Rattle.proof_text.specs.declared.line.LineFault.TheVariants as fault
use Rattle.proof_text.specs.Limits.{most_nodes, most_depth}

abbrev pub fault_of : Stop → ℕ → LineFault
fault_of Unexpected passed = fault.Bad (passed + 1)
fault_of TooMany passed = fault.Limit Nodes (most_nodes + 1)
fault_of TooDeep passed = fault.Limit Depth (most_depth + 1)
fault_of NoMemory passed = fault.NoMemory
