use Rattle.std.proofs.Common.{refl}
use Rattle.udp_start.specs.Proving.{searched_without_memory}
use Rattle.udp_start.proofs.Searched.{begun-searched, unknown-searched, written-searched}
use Rattle.udp_start.proofs.proving.search.Goals as goal

pub returns-in-Proved : goal.returns-in-Proved
returns-in-Proved g c = written-searched _ _ _ _ _ _ c.in-Proved.ensures.0 c.in-Proved.ensures.1 c.in-Proved.ensures.2

pub returns-in-Unknown : goal.returns-in-Unknown
returns-in-Unknown g c = unknown-searched _ _ _ _ _ _ c.in-Unknown.spent c.in-Unknown.ensures.2 _ _ c.write_unknown.result c.in-Unknown.ensures.0 c.in-Unknown.ensures.1 c.write_unknown.ensures

pub returns-in-WriteFault : goal.returns-in-WriteFault
returns-in-WriteFault g c = begun-searched _ _ _ _ _ _ c.in-WriteFault.ensures.0 c.in-WriteFault.ensures.1 c.in-WriteFault.ensures.2 c.in-WriteFault.ensures.3

pub returns-in-NoMemory : goal.returns-in-NoMemory
returns-in-NoMemory g c = searched_without_memory refl c.in-NoMemory.ensures.0
