-- A prefix where nothing was taken.
use Rattle.std.proofs.Common.{List, [], refl}
use Rattle.grammar.specs.Language.{Language, HasPrefixes}
use Rattle.grammar.specs.Reading.{Began}

pub nothing_began : {T A : Type 0} (B : Language T A) → HasPrefixes B → (ts : List T) → Began B ts ts
nothing_began B b ts = record { taken = []; whole = refl; begun = b.empty }
