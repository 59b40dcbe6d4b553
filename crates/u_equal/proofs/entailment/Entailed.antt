-- What links lead to is entailed.
use Rattle.std.proofs.Common.{ℕ, List, length, arith}
use Rattle.u_terms.specs.Syntax.{U, Val}
use Rattle.u_terms.specs.declared.term.Val.TheVariants as v
use Rattle.u_equal.specs.declared.link.Link.{Link}
use Rattle.u_equal.specs.Entails.{Entails, EntailsEach, itself, given, turned, through, calls, none, more}
use Rattle.u_equal.specs.Links.{Leads, LeadsEach, no_link, forth, back, called, no_pair, pair}
use Rattle.u_equal.specs.Joined.{label_now}
use Rattle.u_equal.specs.Routes.{IsDistance}
use Rattle.u_equal.proofs.entailment.Sound.{same-entailed, sound}

mutual
  pub leads-entail : (product : U) (a b : Val) (links : List Link) → Leads product a links b → Entails product a b
  leads-entail product a b links (no_link c) = itself c
  leads-entail product a b links (forth factor c d e rest is h) = through c d e (given factor c d is) (leads-entail product d e rest h)
  leads-entail product a b links (back factor c d e rest is h) = through c d e (turned d c (given factor d c is)) (leads-entail product d e rest h)
  leads-entail product a b links (called f xs ys e pairs rest sx sy each h) =
      through (v.Fun f xs) (v.Fun f ys) e (calls f xs ys sx sy (each-entail product xs ys pairs each)) (leads-entail product (v.Fun f ys) e rest h)

  pub each-entail : (product : U) (xs ys : List Val) (pairs : List (List Link)) → LeadsEach product xs pairs ys → EntailsEach product xs ys
  each-entail product xs ys pairs no_pair = none
  each-entail product xs ys pairs (pair a b links as' bs ps h hs) = more a b as' bs (leads-entail product a b links h) (each-entail product as' bs ps hs)

pub distance-entails : (product : U) (a b : Val) (number : ℕ) → IsDistance product a b number → Entails product a b
distance-entails product a b number h =
    let s = h.joined in
    same-entailed product s.values (label_now s) (sound product s.values s.edges h.edges_hold (length s.edges) (omega arith)) a b h.same
