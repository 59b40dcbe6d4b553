-- `mapped` at each constructor as code writes it, and by one level at a time for code that writes in place.
use Rattle.std.proofs.Common.{◌≡◌, ℕ, ◌+◌, List, [], ◌∷◌, map, refl, ap, sym, ◌∙◌}
use Rattle.u_terms.specs.declared.term.U.TheOpen.{U-F, Val-F}
use Rattle.u_terms.specs.declared.term.U.TheViews.{out-U, out-Val, roll-U, roll-Val, roll-out-U, roll-out-Val, rolls-Zero, rolls-One, rolls-Add, rolls-Mul, rolls-Squash, rolls-Not, rolls-Sum, rolls-Rel, rolls-Eq, rolls-Pred, rolls-Bound, rolls-Free, rolls-Lit, rolls-Fun, rolls-Agg}
use Rattle.u_terms.specs.declared.term.U.TheVariants as u
use Rattle.u_terms.specs.declared.term.Val.TheVariants as v
use Rattle.u_terms.specs.Syntax.{U, Rel, Pred, Val, Fun, Vals, ValThen, Shape, long, shape_of, row_of, constructors}
use Rattle.u_terms.specs.Binding.{mapped, mapped_value, mapped_row}

module _ (f g : ℕ → ℕ → Val) (k : ℕ) where
  abbrev pub mapped_list : List Val → List Val
  mapped_list vs = map (mapped_value f g k) vs

  -- whatever is made of a shape and a row
  mapped_row-list : {X : Type 0} (call : (shape : Shape) → Vals (long shape) → X) (vs : List Val)
      → call (shape_of vs) (mapped_row f g k (row_of vs)) ≡ call (shape_of (mapped_list vs)) (row_of (mapped_list vs))
  unfolding mapped constructors
  mapped_row-list call [] = refl
  mapped_row-list call (v ∷ vs) = mapped_row-list (λ shape row. call (tt ∷ shape) (ValThen (mapped_value f g k v) row)) vs

  pub mapped-Zero : mapped f g k u.Zero ≡ u.Zero
  unfolding mapped constructors
  mapped-Zero = refl

  pub mapped-One : mapped f g k u.One ≡ u.One
  unfolding mapped constructors
  mapped-One = refl

  pub mapped-Add : (a b : U) → mapped f g k (u.Add a b) ≡ u.Add (mapped f g k a) (mapped f g k b)
  unfolding mapped constructors
  mapped-Add a b = refl

  pub mapped-Mul : (a b : U) → mapped f g k (u.Mul a b) ≡ u.Mul (mapped f g k a) (mapped f g k b)
  unfolding mapped constructors
  mapped-Mul a b = refl

  pub mapped-Squash : (a : U) → mapped f g k (u.Squash a) ≡ u.Squash (mapped f g k a)
  unfolding mapped constructors
  mapped-Squash a = refl

  pub mapped-Not : (a : U) → mapped f g k (u.Not a) ≡ u.Not (mapped f g k a)
  unfolding mapped constructors
  mapped-Not a = refl

  pub mapped-Sum : (body : U) → mapped f g k (u.Sum body) ≡ u.Sum (mapped f g (k + 1) body)
  unfolding mapped constructors
  mapped-Sum body = refl

  pub mapped-Rel : (table : ℕ) (vs : List Val) → mapped f g k (u.Rel table vs) ≡ u.Rel table (mapped_list vs)
  unfolding mapped constructors
  mapped-Rel table vs = mapped_row-list (λ shape row. Rel table shape row) vs

  pub mapped-Eq : (a b : Val) → mapped f g k (u.Eq a b) ≡ u.Eq (mapped_value f g k a) (mapped_value f g k b)
  unfolding mapped constructors
  mapped-Eq a b = refl

  pub mapped-Pred : (symbol : ℕ) (vs : List Val) → mapped f g k (u.Pred symbol vs) ≡ u.Pred symbol (mapped_list vs)
  unfolding mapped constructors
  mapped-Pred symbol vs = mapped_row-list (λ shape row. Pred symbol shape row) vs

  pub mapped-Bound : (place : ℕ) → mapped_value f g k (v.Bound place) ≡ f k place
  unfolding mapped constructors
  mapped-Bound place = refl

  pub mapped-Free : (name : ℕ) → mapped_value f g k (v.Free name) ≡ g k name
  unfolding mapped constructors
  mapped-Free name = refl

  pub mapped-Lit : (literal : ℕ) → mapped_value f g k (v.Lit literal) ≡ v.Lit literal
  unfolding mapped constructors
  mapped-Lit literal = refl

  pub mapped-Fun : (symbol : ℕ) (vs : List Val) → mapped_value f g k (v.Fun symbol vs) ≡ v.Fun symbol (mapped_list vs)
  unfolding mapped constructors
  mapped-Fun symbol vs = mapped_row-list (λ shape row. Fun symbol shape row) vs

  pub mapped-Agg : (aggregate : ℕ) (body : U) → mapped_value f g k (v.Agg aggregate body) ≡ v.Agg aggregate (mapped f g (k + 1) body)
  unfolding mapped constructors
  mapped-Agg aggregate body = refl

pub ruleset mapped_at = (
  mapped-Zero,
  mapped-One,
  mapped-Add,
  mapped-Mul,
  mapped-Squash,
  mapped-Not,
  mapped-Sum,
  mapped-Rel,
  mapped-Eq,
  mapped-Pred,
  mapped-Bound,
  mapped-Free,
  mapped-Lit,
  mapped-Fun,
  mapped-Agg,
)

-- ---- one level at a time
module _ (f g : ℕ → ℕ → Val) (k : ℕ) where
  abbrev pub layer : U-F U Val → U
  layer U-F.Zero = u.Zero
  layer U-F.One = u.One
  layer (U-F.Add a b) = u.Add (mapped f g k a) (mapped f g k b)
  layer (U-F.Mul a b) = u.Mul (mapped f g k a) (mapped f g k b)
  layer (U-F.Squash a) = u.Squash (mapped f g k a)
  layer (U-F.Not a) = u.Not (mapped f g k a)
  layer (U-F.Sum body) = u.Sum (mapped f g (k + 1) body)
  layer (U-F.Rel table vs) = u.Rel table (mapped_list f g k vs)
  layer (U-F.Eq a b) = u.Eq (mapped_value f g k a) (mapped_value f g k b)
  layer (U-F.Pred symbol vs) = u.Pred symbol (mapped_list f g k vs)

  abbrev pub value_layer : Val-F U Val → Val
  value_layer (Val-F.Bound place) = f k place
  value_layer (Val-F.Free name) = g k name
  value_layer (Val-F.Lit literal) = v.Lit literal
  value_layer (Val-F.Fun symbol vs) = v.Fun symbol (mapped_list f g k vs)
  value_layer (Val-F.Agg aggregate body) = v.Agg aggregate (mapped f g (k + 1) body)

  mapped-roll : (d : U-F U Val) → mapped f g k (roll-U d) ≡ layer d
  mapped-roll U-F.Zero = ap (mapped f g k) rolls-Zero ∙ mapped-Zero f g k
  mapped-roll U-F.One = ap (mapped f g k) rolls-One ∙ mapped-One f g k
  mapped-roll (U-F.Add a b) = ap (mapped f g k) (rolls-Add a b) ∙ mapped-Add f g k a b
  mapped-roll (U-F.Mul a b) = ap (mapped f g k) (rolls-Mul a b) ∙ mapped-Mul f g k a b
  mapped-roll (U-F.Squash a) = ap (mapped f g k) (rolls-Squash a) ∙ mapped-Squash f g k a
  mapped-roll (U-F.Not a) = ap (mapped f g k) (rolls-Not a) ∙ mapped-Not f g k a
  mapped-roll (U-F.Sum body) = ap (mapped f g k) (rolls-Sum body) ∙ mapped-Sum f g k body
  mapped-roll (U-F.Rel table vs) = ap (mapped f g k) (rolls-Rel table vs) ∙ mapped-Rel f g k table vs
  mapped-roll (U-F.Eq a b) = ap (mapped f g k) (rolls-Eq a b) ∙ mapped-Eq f g k a b
  mapped-roll (U-F.Pred symbol vs) = ap (mapped f g k) (rolls-Pred symbol vs) ∙ mapped-Pred f g k symbol vs

  mapped_value-roll : (d : Val-F U Val) → mapped_value f g k (roll-Val d) ≡ value_layer d
  mapped_value-roll (Val-F.Bound place) = ap (mapped_value f g k) (rolls-Bound place) ∙ mapped-Bound f g k place
  mapped_value-roll (Val-F.Free name) = ap (mapped_value f g k) (rolls-Free name) ∙ mapped-Free f g k name
  mapped_value-roll (Val-F.Lit literal) = ap (mapped_value f g k) (rolls-Lit literal) ∙ mapped-Lit f g k literal
  mapped_value-roll (Val-F.Fun symbol vs) = ap (mapped_value f g k) (rolls-Fun symbol vs) ∙ mapped-Fun f g k symbol vs
  mapped_value-roll (Val-F.Agg aggregate body) = ap (mapped_value f g k) (rolls-Agg aggregate body) ∙ mapped-Agg f g k aggregate body

  pub mapped-out : (u : U) → mapped f g k u ≡ layer (out-U u)
  mapped-out u = ap (mapped f g k) (sym (roll-out-U u)) ∙ mapped-roll (out-U u)

  pub mapped_value-out : (value : Val) → mapped_value f g k value ≡ value_layer (out-Val value)
  mapped_value-out value = ap (mapped_value f g k) (sym (roll-out-Val value)) ∙ mapped_value-roll (out-Val value)

pub ruleset mapped_layers = (mapped-out, mapped_value-out)
