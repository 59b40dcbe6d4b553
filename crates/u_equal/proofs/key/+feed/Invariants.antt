use Rattle.std.proofs.Common.{◌≡◌, drop}
use Rattle.std.specs.Prelude.{fold}
use Rattle.u_rules.specs.Codes.{list_code}
use Rattle.u_equal.specs.Keys.{written}
use Rattle.u_equal.proofs.key.+feed.Given as goal

abbrev pub invariant-feed_list-loop-value : goal.invariant-feed_list-loop-value
invariant-feed_list-loop-value g l = fold g.H.Hasher.write l.state (written (list_code (drop l.value-index l.values))) ≡ fold g.H.Hasher.write l.initial.state (written (list_code l.values))
