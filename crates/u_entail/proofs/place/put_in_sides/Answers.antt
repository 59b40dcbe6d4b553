use Rattle.std.proofs.Common.{◌≡◌, ◌∷◌, ◌-◌, List, ℕ, length, take, drop, ap, ◌∙◌, sym, subst, arith}
use Rattle.std.specs.Prelude.{slice_index_or}
use Rattle.u_terms.specs.declared.term.U.TheVariants as u
use Rattle.u_entail.specs.Spots.{HasSpot, IsPut}
use Rattle.u_entail.proofs.substitution.Placed.{sides-some, left-spot, right-spot, left-put, right-put, first-and-rest}
use Rattle.u_entail.proofs.place.put_in_sides.Goals as goal

pub bounds-place-0 : goal.bounds-place-0
bounds-place-0 c = sides-some c.args.a.now c.args.b.now c.args.place.now c.requires

pub slice_bounds-put_in_value-count : goal.slice_bounds-put_in_value-count
slice_bounds-put_in_value-count c = let some = sides-some c.args.a.now c.args.b.now c.args.place.now c.requires in omega (arith, some)

pub put_in_value-requires : goal.put_in_value-requires
put_in_value-requires c =
    let place = c.args.place.now in
    let is : place ≡ 0 ∷ take (length place - 1) (drop 1 place) =
    first-and-rest place (sides-some c.args.a.now c.args.b.now place c.requires) ∙ ap (λ (i : ℕ). i ∷ take (length place - 1) (drop 1 place)) c.if-place-eq0.true in
    left-spot c.args.a.now c.args.b.now (take (length place - 1) (drop 1 place)) (subst (λ (p : List ℕ). HasSpot (u.Eq c.args.a.now c.args.b.now) p) is c.requires)

pub put_in_value-requires-else-place-eq0 : goal.put_in_value-requires-else-place-eq0
put_in_value-requires-else-place-eq0 c =
    let place = c.args.place.now in
    let is : place ≡ slice_index_or place 0 0 ∷ take (length place - 1) (drop 1 place) = first-and-rest place (sides-some c.args.a.now c.args.b.now place c.requires) in
    right-spot c.args.a.now c.args.b.now (slice_index_or place 0 0) (take (length place - 1) (drop 1 place)) c.if-place-eq0.false
    (subst (λ (p : List ℕ). HasSpot (u.Eq c.args.a.now c.args.b.now) p) is c.requires)

pub returns-in_ok-copy : goal.returns-in_ok-copy
returns-in_ok-copy c =
    let place = c.args.place.now in
    let is : place ≡ 0 ∷ take (length place - 1) (drop 1 place) =
    first-and-rest place (sides-some c.args.a.now c.args.b.now place c.requires) ∙ ap (λ (i : ℕ). i ∷ take (length place - 1) (drop 1 place)) c.if-place-eq0.true in
    subst (λ (p : List ℕ). IsPut (u.Eq c.args.a.now c.args.b.now) p c.args.value.now (u.Eq c.in_ok-left.left c.in_ok-copy.field-0)) (sym is)
    (left-put c.args.a.now c.args.b.now (take (length place - 1) (drop 1 place)) c.args.value.now c.in_ok-left.left c.in_ok-copy.field-0 (c.in_ok-copy.ensures {u = tt}) (c.in_ok-left.ensures {u = tt}))

pub returns-in_ok-copy-2 : goal.returns-in_ok-copy-2
returns-in_ok-copy-2 c =
    let place = c.args.place.now in
    let is : place ≡ slice_index_or place 0 0 ∷ take (length place - 1) (drop 1 place) = first-and-rest place (sides-some c.args.a.now c.args.b.now place c.requires) in
    subst (λ (p : List ℕ). IsPut (u.Eq c.args.a.now c.args.b.now) p c.args.value.now (u.Eq c.in_ok-copy-2.field-0 c.in_ok-right.right)) (sym is)
    (right-put c.args.a.now c.args.b.now (slice_index_or place 0 0) (take (length place - 1) (drop 1 place)) c.if-place-eq0.false c.args.value.now c.in_ok-right.right c.in_ok-copy-2.field-0
    (c.in_ok-copy-2.ensures {u = tt}) (c.in_ok-right.ensures {u = tt}))

pub slice_bounds-put_in_value-start : goal.slice_bounds-put_in_value-start
slice_bounds-put_in_value-start c = let some = sides-some c.args.a.now c.args.b.now c.args.place.now c.requires in omega (arith, some)
