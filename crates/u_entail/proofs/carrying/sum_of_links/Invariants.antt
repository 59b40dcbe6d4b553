use Rattle.std.proofs.Common.{◌≡◌, take}
use Rattle.u_equal.specs.Links.{told}
use Rattle.u_entail.specs.Carrying.{AreShortCourses, links_of}
use Rattle.u_entail.proofs.carrying.sum_of_links.Given as goal

abbrev pub invariant-loop-route : goal.invariant-loop-route
invariant-loop-route l = record {
  is : l.total ≡ told (links_of (take l.route-index l.routes));
  short : AreShortCourses (take l.route-index l.routes);
}
