-- What code that feeds codes to a hasher needs.
use Rattle.std.proofs.lemmas.List.{append-nil, append_assoc}
use Rattle.std.proofs.lemmas.List.Concat.{flat_map-append}
use Rattle.std.proofs.lemmas.List.Sums.{fold-append}
use Rattle.u_rules.proofs.multisets.CodesAt.{codes_at}

pub ruleset feeding = (codes_at, append-nil, append_assoc, flat_map-append, fold-append)
