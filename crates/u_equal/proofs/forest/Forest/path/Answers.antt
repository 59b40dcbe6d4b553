use Rattle.std.proofs.Common.{◌≡◌, List, [], ◌∷◌, ◌++◌, ap, ◌∙◌}
use Rattle.u_equal.specs.declared.chains.Part.{Part}
use Rattle.u_equal.specs.declared.chains.Part.TheVariants.{Open}
use Rattle.u_equal.specs.Joined.{reach, seen}
use Rattle.u_equal.specs.LinkCounts.{links_between}
use Rattle.u_equal.proofs.links.Ways.{way-opened, part-sound, walked-way, walked-short, walked-counted}
use Rattle.u_equal.proofs.forest.Forest.path.Goals as goal

pub loop-part-init : goal.loop-part-init
loop-part-init c =
    let is : c.push.new.self.items ≡ Open c.args.upto c.args.from c.args.to ∷ [] =
    c.in_ok-push.ensures.items ∙ ap (λ (ps : List Part). ps ++ Open c.args.upto c.args.from c.args.to ∷ []) c.new-parts.ensures.items in
    let h = way-opened (seen c.args.self.now) c.args.upto c.args.from c.args.to c.requires.part c.new-hops.result.items c.push.new.self.items c.new-hops.ensures.items is in
    record { way = h.0; short = h.1; counted = h.2 }

pub walk-requires-clause-sound : goal.walk-requires-clause-sound
walk-requires-clause-sound c =
    part-sound (seen c.args.self.now) c.args.upto c.args.from c.args.to c.in-Some.part c.loop-part.hops.items c.loop-part.hops.items c.pop.new.self.items c.loop-part.parts.items c.pop.new.self.items
    c.in-Some.ensures.items c.loop-part.invariant.way

pub loop-part-preserved : goal.loop-part-preserved
loop-part-preserved c =
    let s = seen c.args.self.now in
    record {
      way = walked-way s c.args.upto c.args.from c.args.to c.in-Some.part c.loop-part.hops.items c.walk.new.hops.items c.pop.new.self.items c.loop-part.parts.items c.walk.new.parts.items
          c.in-Some.ensures.items c.loop-part.invariant.way c.in_ok-walk.ensures;
      short = walked-short s c.args.upto c.args.from c.args.to c.in-Some.part c.loop-part.hops.items c.walk.new.hops.items c.pop.new.self.items c.loop-part.parts.items c.walk.new.parts.items
          c.in-Some.ensures.items c.loop-part.invariant.way c.in_ok-walk.ensures (reach s.edges c.args.upto c.args.from) c.loop-part.invariant.short;
      counted = walked-counted s c.args.upto c.args.from c.args.to c.in-Some.part c.loop-part.hops.items c.walk.new.hops.items c.pop.new.self.items c.loop-part.parts.items c.walk.new.parts.items
          c.in-Some.ensures.items c.loop-part.invariant.way c.in_ok-walk.ensures (links_between s c.args.upto c.args.from c.args.to) c.loop-part.invariant.counted;
    }
