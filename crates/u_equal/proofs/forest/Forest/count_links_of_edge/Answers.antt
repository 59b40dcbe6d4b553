use Rattle.std.proofs.Common.{◌≡◌, ◌+◌, ℕ, length, ap, sym, refl, ◌∙◌, subst, arith}
use Rattle.std.specs.Prelude.{Some, slice_get}
use Rattle.u_equal.specs.declared.forest.Edge.{Edge}
use Rattle.u_equal.specs.Joined.{seen}
use Rattle.u_equal.specs.Links.{told}
use Rattle.u_equal.specs.LinkCounts.{arguments, links_of_edge, links_of_values, sum_of_pairs}
use Rattle.u_equal.proofs.links.Ways.{edge-read}
use Rattle.u_equal.proofs.links.LinkNumbers.{edge-called, told-sum}
use Rattle.u_equal.proofs.forest.Forest.count_links_of_edge.Goals as goal

pub returns-in_ok-inside-in-Called : goal.returns-in_ok-inside-in-Called
returns-in_ok-inside-in-Called c =
    let s = seen c.args.self.now in
    let k = length c.args.numbers.now in
    let is = edge-read s.edges k c.index-edge.result.now c.requires.within c.index-edge.ensures in
    let inside : ℕ = sum_of_pairs (links_of_values s k) (arguments c.value_at-left.result.now) (arguments c.value_at-right.result.now) in
    let edge : links_of_edge s k ≡ 1 + inside =
    edge-called s k c.value_at-left.result.now c.value_at-right.result.now (ap (λ (e : Edge). e.reason) is ∙ c.in-Called.is)
    (subst (λ (e : Edge). slice_get s.values e.left ≡ Some c.value_at-left.result.now) (sym is) c.value_at-left.ensures)
    (subst (λ (e : Edge). slice_get s.values e.right ≡ Some c.value_at-right.result.now) (sym is) c.value_at-right.ensures) in
    c.saturating_add.ensures ∙ told-sum inside 1 c.in_ok-inside-in-Called.inside 1 c.in_ok-inside-in-Called.ensures refl ∙ ap told (omega (arith, edge))
