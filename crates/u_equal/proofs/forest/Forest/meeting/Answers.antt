use Rattle.std.proofs.Common.{◌≡◌, ◌+◌, ◌<◌, inl, inr, arith, ap, sym, ◌∙◌, subst, eq-eqb, length}
use Rattle.std.proofs.lemmas.Bool.{cases_eq, ne_eqb}
use Rattle.u_equal.specs.declared.forest.Edge.{Edge}
use Rattle.u_equal.specs.Joined.{edge_at, label_at, seen}
use Rattle.u_equal.proofs.links.Ways.{apart-start, some-edge, edge-read, meets-forth, meets-back}
use Rattle.u_equal.proofs.forest.Forest.meeting.Goals as goal

pub loop-joined-init : goal.loop-joined-init
loop-joined-init c =
    let s = seen c.args.self.now in
    record {
      less = some-edge s.edges c.args.upto c.args.from c.args.to c.requires.differ c.requires.part.joined;
      within = omega arith;
      differ = apart-start s.edges c.args.from c.args.to c.requires.differ;
      same = c.requires.part.joined;
    }

pub returns : goal.returns
returns c =
    let s = seen c.args.self.now in
    let i = c.loop-joined.invariant in
    let time = c.loop-joined.apart in
    let past : c.loop-joined.joined ≡ time + 1 = omega (arith, i.less, c.loop-joined-test.false) in
    let less : time < c.args.upto = omega (arith, i.less, i.within) in
    let within : time < length s.edges = omega (arith, less, c.requires.part.within) in
    let same = subst (λ m. label_at s.edges m c.args.from ≡ label_at s.edges m c.args.to) past i.same in
    let left : c.class_at-3.result ≡ label_at s.edges time (edge_at s.edges time).left =
    c.class_at-3.ensures.is ∙ ap (λ (e : Edge). label_at s.edges time e.left) (sym (edge-read s.edges time c.index.result.now within c.index.ensures)) in
    elim (cases_eq c.class_at-2.result c.class_at-3.result) [
      | inl is ↦
          rw (eq-eqb c.class_at-2.result c.class_at-3.result is)
          (meets-forth s c.requires.state time c.args.from c.args.to within i.differ same c.args.upto less (sym c.class_at-2.ensures.is ∙ is ∙ left))
      | inr other ↦
          rw (ne_eqb c.class_at-2.result c.class_at-3.result other)
          (meets-back s c.requires.state time c.args.from c.args.to within i.differ same c.args.upto less (λ h. other (c.class_at-2.ensures.is ∙ h ∙ sym left)))
    ]
