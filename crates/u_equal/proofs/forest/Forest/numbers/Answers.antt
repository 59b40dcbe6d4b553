use Rattle.std.proofs.Common.{length, ap, sym, subst, arith}
use Rattle.std.specs.Prelude.{ℕ, List}
use Rattle.u_equal.specs.Joined.{seen}
use Rattle.u_equal.specs.LinkCounts.{AreNumbers}
use Rattle.u_equal.proofs.links.LinkNumbers.{numbers-long}
use Rattle.u_equal.proofs.forest.Forest.numbers.Goals as goal

pub count_links_of_edge-requires-clause-numbers : goal.count_links_of_edge-requires-clause-numbers
count_links_of_edge-requires-clause-numbers c =
    let s = seen c.args.self.now in
    subst (λ (ns : List ℕ). AreNumbers s (length ns) ns) (sym c.as_slice.ensures.value) (numbers-long s c.loop-time.«_time» c.loop-time.numbers.items c.loop-time.invariant)

pub count_links_of_edge-requires-clause-within : goal.count_links_of_edge-requires-clause-within
count_links_of_edge-requires-clause-within c =
    let a = ap (λ (ns : List ℕ). length ns) c.as_slice.ensures.value in
    omega (arith, a, c.loop-time.invariant.long)

pub returns : goal.returns
returns c = subst (λ (n : ℕ). AreNumbers (seen c.args.self.now) n c.loop-time.numbers.items) (let w = c.loop-time.invariant.within in omega (arith, w)) c.loop-time.invariant
