-- Terms of paired shapes, turn by turn, up to the products that say the same.
use Rattle.std.proofs.Common.{◌≡◌, ℕ, List, [], ◌∷◌, length, sym, ◌∙◌, subst}
use Rattle.std.specs.Prelude.{reverse}
use Rattle.u_terms.specs.Syntax.{U}
use Rattle.u_terms.specs.declared.term.Val.TheVariants as v
use Rattle.u_terms.specs.Binding.{sums, opened, value_for_place}
use Rattle.u_rules.specs.Terms.{S}
use Rattle.u_binder.specs.Changes.{exchanged, moved_at}
use Rattle.shapes.specs.Shapes.{Shape}
use Rattle.shapes.specs.Alike.{Pairing}
use Rattle.term_shapes.specs.Factors.{sum_count, under_sums}
use Rattle.term_shapes.specs.TermShape.{HasShape}
use Rattle.term_shapes.proofs.Reading.{under-Sum}
use Rattle.shape_entails.specs.ProductOf.{IsProductOf}
use Rattle.shape_entails.specs.Matched.{SayTheSame}
use Rattle.shape_entails.specs.Turning.{AreFound, AreAllPlaces, AreSources, AreTurning}
use Rattle.shape_entails.proofs.Shaped.{product-of, places-are}
use Rattle.shape_entails.proofs.Putting.{put-under, around-under, without-sums}
use Rattle.shape_entails.proofs.Matching.{say-the-same}
use Rattle.shape_entails.proofs.Turned.{turned-once, turned-still, turned-all}
use Rattle.shape_entails.proofs.Positions.{turning-found}

product-opened : (s : Shape) (f : U) (name : ℕ) → IsProductOf s (under_sums (S f)) → IsProductOf s (under_sums (opened f name))
product-opened s f name h = put-under (value_for_place (v.Free name)) 0 s f (subst (IsProductOf s) (under-Sum f) h)

product-turned : (s : Shape) (turn : ℕ) (body : U) (name : ℕ) → IsProductOf s (under_sums (S (sums turn body))) → IsProductOf s (under_sums (opened (sums turn (exchanged turn 1 body)) name))
product-turned s turn body name h =
    put-under (value_for_place (v.Free name)) 0 s (sums turn (exchanged turn 1 body))
    (subst (IsProductOf s) (sym (around-under turn (exchanged turn 1 body)))
    (put-under (moved_at turn 1) 0 s body (subst (IsProductOf s) (under-Sum (sums turn body) ∙ around-under turn body) h)))

pub begin : (outs : ℕ) (left right : U) (s t : Shape) (forth back : ℕ → ℕ) → HasShape outs left s → HasShape outs right t → Pairing s t forth back → (sources : List ℕ)
    → AreSources s forth sources left right → (waiting turns : List ℕ) → AreAllPlaces (sum_count left) waiting → length turns ≡ sum_count left → AreFound waiting (reverse sources) turns
    → AreTurning s t forth back turns left right
begin outs left right s t forth back of_s of_t h sources are waiting turns all many found = record {
  paired = h;
  left_product = product-of outs left s of_s;
  right_product = product-of outs right t of_t;
  turned = turning-found s t forth back h left right (places-are outs left s of_s) (places-are outs right t of_t) sources are waiting turns all many found;
}

pub go-still : (s t : Shape) (forth back : ℕ → ℕ) (turns : List ℕ) (f g : U) (name : ℕ) → AreTurning s t forth back (0 ∷ turns) (S f) (S g)
    → AreTurning s t forth back turns (opened f name) (opened g name)
go-still s t forth back turns f g name h = record {
  paired = h.paired;
  left_product = product-opened s f name h.left_product;
  right_product = product-opened t g name h.right_product;
  turned = turned-still s forth turns f g name h.turned;
}

pub go-turned : (s t : Shape) (forth back : ℕ → ℕ) (turn : ℕ) (turns : List ℕ) (body g : U) (name : ℕ) → AreTurning s t forth back (turn ∷ turns) (S (sums turn body)) (S g)
    → AreTurning s t forth back turns (opened (sums turn (exchanged turn 1 body)) name) (opened g name)
go-turned s t forth back turn turns body g name h = record {
  paired = h.paired;
  left_product = product-turned s turn body name h.left_product;
  right_product = product-opened t g name h.right_product;
  turned = turned-once s forth turn turns body g name h.turned;
}

pub end : (s t : Shape) (forth back : ℕ → ℕ) (left right : U) → AreTurning s t forth back [] left right → SayTheSame left right
end s t forth back left right h =
    subst (λ (w : U). SayTheSame w right) (without-sums left h.turned.many_left)
    (subst (SayTheSame (under_sums left)) (without-sums right h.turned.many_right)
    (say-the-same s t forth back h.paired (under_sums left) (under_sums right) h.left_product h.right_product (turned-all s forth left right h.turned)))
