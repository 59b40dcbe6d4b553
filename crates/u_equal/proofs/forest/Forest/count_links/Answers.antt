use Rattle.std.proofs.Common.{length, ap, sym, ◌∙◌}
use Rattle.u_equal.specs.Joined.{seen}
use Rattle.u_equal.specs.Links.{told}
use Rattle.u_equal.proofs.links.LinkNumbers.{links-same, told-zero}
use Rattle.u_equal.proofs.forest.Forest.count_links.Goals as goal

pub returns-then-same_value : goal.returns-then-same_value
returns-then-same_value c =
    sym (ap told (links-same (seen c.args.self.now) (length c.args.self.now.edges.items) c.args.a.now c.args.b.now (c.same_value.ensures.0 c.if-same_value.true)) ∙ told-zero)
