use Rattle.std.proofs.Common.{◌≡◌, ◌+◌, List, ℕ, [], ◌∷◌, ◌++◌, take, sym, ap, subst, ◌∙◌, arith}
use Rattle.std.proofs.lemmas.List.{take_more, take_all}
use Rattle.u_terms.specs.Syntax.{Val}
use Rattle.u_equal.specs.Tables.{ArePlaces}
use Rattle.u_equal.proofs.products.Listed.{places-more}
use Rattle.u_equal.proofs.calls.places_of.Goals as goal

pub loop-value-preserved : goal.loop-value-preserved
loop-value-preserved c =
    let xs = c.args.values.now in
    let i = c.loop-value.value-index in
    let x = c.value-item.result in
    let more : take (i + 1) xs ≡ take i xs ++ x ∷ [] = take_more xs i x (omega arith) ∙ ap (λ (a : Val). take i xs ++ a ∷ []) (sym c.value-item.is) in
    subst (λ (vs : List Val). ArePlaces c.args.forest.now.values.keys vs c.push.new.self.items) (sym more)
    (places-more c.args.forest.now.values.keys (take i xs) x c.loop-value.places.items c.push.new.self.items c.place_of.result c.loop-value.invariant c.place_of.ensures.first c.in_ok-push.ensures.items)

pub returns : goal.returns
returns c =
    subst (λ (vs : List Val). ArePlaces c.args.forest.now.values.keys vs c.from_vec.result) (take_all c.loop-value.value-index c.args.values.now (omega arith))
    (subst (λ (ps : List ℕ). ArePlaces c.args.forest.now.values.keys (take c.loop-value.value-index c.args.values.now) ps) (sym c.from_vec.ensures) c.loop-value.invariant)
