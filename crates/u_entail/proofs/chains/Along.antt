-- An equality behind the factors, along a chain that was counted.
use Rattle.std.proofs.Common.{◌≡◌, ℕ, ◌+◌, ◌-◌, ◌^◌, ◌<◌, ◌≤◌, List, Some, length, refl, subst, arith}
use Rattle.u_terms.specs.Syntax.{U, Val}
use Rattle.u_terms.specs.declared.facts.Facts.{Facts}
use Rattle.u_rules.specs.Terms.{◌≐◌}
use Rattle.u_moves.specs.Derivations.{Derivation}
use Rattle.u_moves.specs.Moving.{IsKnownValue}
use Rattle.u_equal.specs.declared.link.Link.{Link}
use Rattle.u_equal.specs.Routes.{Course, AreCounted, IsChain}
use Rattle.u_equal.specs.Standing.{standing}
use Rattle.u_entail.specs.Sides.{LeadsBy}
use Rattle.u_entail.specs.Hops.{AreHops, Lead}
use Rattle.u_entail.specs.Gaining.{right_side, Appends, Begins}
use Rattle.u_entail.specs.Appending.{AppendsAlong, IsAppendedBy}
use Rattle.u_entail.specs.declared.hops.Hop.{Hop}
use Rattle.u_entail.proofs.chains.Chained.{appends}
use Rattle.u_entail.proofs.chains.Gained.{hops-small, small-lead}
use Rattle.u_entail.proofs.chains.Leading.{leads-by}

pub chain-by : (product : U) (factors : List U) → Begins product factors → (a b : Val) (links : List Link) → IsChain product a b (Some links) → LeadsBy factors (length (standing product)) a links b
chain-by product factors begins a b links chain = leads-by product factors begins.rest begins.is (length (standing product)) a b links chain.0 chain.2

pub lead-of : (factors : List U) (a : Val) (links : List Link) → ((n : ℕ) × (b : Val) × LeadsBy factors n a links b) → (hops : List Hop) → AreHops right_side links hops → Lead factors (a ≐ a) hops
lead-of factors a links leads hops are = record { to = a ≐ leads.1; by = small-lead factors leads.0 a leads.1 hops (hops-small factors leads.0 a leads.1 links leads.2 hops are) }

module _ (facts : Facts) (outs : ℕ) (product : U) (factors : List U) (begins : Begins product factors) (a b : Val) (known : IsKnownValue outs a) (links : List Link) (chain : IsChain product a b (Some links))
    (d : Derivation) (h : IsAppendedBy facts outs factors a links d) where
  pub appends-by : Appends facts outs product factors a b d
  appends-by = appends product product refl a b (Some links) chain links refl h.hops h.are facts outs factors begins known h.first d h.widened h.gained

  pub counted-steps : (number : ℕ) → AreCounted links number → number < 2 ^ 64 - 1 → length d.steps ≤ number + 2
  counted-steps number c less =
      let are = h.are in
      let g = h.gained in
      let w = h.widened in
      omega (arith, are.few c.count c.counted, g.steps, w.steps, c.is, less)

pub along : (facts : Facts) (outs : ℕ) (course : Course) (factors : List U) → Begins course.product factors → (a b : Val) → IsKnownValue outs a → course.from ≡ a → course.to ≡ b → (links : List Link)
    → IsChain course.product course.from course.to (Some links) → AreCounted links course.links → (d : Derivation) → IsAppendedBy facts outs factors a links d → AppendsAlong facts outs course factors a b d
along facts outs course factors begins a b known from to links chain counted d h =
    let there = subst (λ (x : Val). IsChain course.product x b (Some links)) from (subst (λ (y : Val). IsChain course.product course.from y (Some links)) to chain) in
    record {
      appends = appends-by facts outs course.product factors begins a b known links there d h;
      counted = counted-steps facts outs course.product factors begins a b known links there d h course.links counted;
    }

pub course-by : (course : Course) (factors : List U) → Begins course.product factors → (a b : Val) → course.from ≡ a → course.to ≡ b → (links : List Link) → IsChain course.product course.from course.to (Some links)
    → LeadsBy factors (length (standing course.product)) a links b
course-by course factors begins a b from to links chain =
    chain-by course.product factors begins a b links (subst (λ (x : Val). IsChain course.product x b (Some links)) from (subst (λ (y : Val). IsChain course.product course.from y (Some links)) to chain))
