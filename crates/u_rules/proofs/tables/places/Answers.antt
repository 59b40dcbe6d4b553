use Rattle.std.proofs.Common.{◌≡◌, ℕ, suc, ◌+◌, ◌-◌, ◌<◌, List, [], ◌∷◌, ◌++◌, ◌∙◌, arith}
use Rattle.std.proofs.lemmas.List.{append_assoc}
use Rattle.u_terms.specs.Syntax.{Val}
use Rattle.u_terms.specs.declared.term.Val.TheVariants as v
use Rattle.u_rules.specs.Terms.{places}
use Rattle.u_rules.proofs.tables.places.Goals as goal

places_more : (all : List Val) (n i : ℕ) → i < n → (all ++ v.Bound (n - 1 - i) ∷ []) ++ places (n - (i + 1)) ≡ all ++ places (n - i)
places_more all n i h =
    let e : n - i ≡ suc (n - (i + 1)) = omega arith in
    let b : n - 1 - i ≡ n - (i + 1) = omega arith in
    rw (e, b) (append_assoc all (v.Bound (n - (i + 1)) ∷ []) (places (n - (i + 1))))

pub loop-i-preserved : goal.loop-i-preserved
loop-i-preserved c = rw c.in_ok-push.ensures.ok (places_more c.loop-i.all c.args.count c.loop-i.i (omega arith) ∙ c.loop-i.invariant)
