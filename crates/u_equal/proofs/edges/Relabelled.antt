-- Labels that agree on the places of the table: what is the same by the one is the same by the other.
use Rattle.std.proofs.Common.{◌≡◌, ℕ, ◌<◌, List, length, inl, inr, sym, ◌∙◌}
use Rattle.std.proofs.lemmas.Option.{slice_get_within}
use Rattle.u_terms.specs.Syntax.{U, Val}
use Rattle.u_equal.specs.declared.forest.Edge.{Edge}
use Rattle.u_equal.specs.declared.forest.Reason.{Reason}
use Rattle.u_equal.specs.declared.forest.Reason.TheVariants.{Given, Called}
use Rattle.u_equal.specs.Joined.{Joined, Same, SameEach, AreCalls, HasReason, IsEdge, IsApart}

abbrev pub Agree : ℕ → (ℕ → ℕ) → (ℕ → ℕ) → Type 0
Agree count f g = (i : ℕ) → i < count → f i ≡ g i

pub agree-back : (count : ℕ) (f g : ℕ → ℕ) → Agree count f g → Agree count g f
agree-back count f g agree i within = sym (agree i within)

-- places with one label by f have one label by g
abbrev pub Coarsens : ℕ → (ℕ → ℕ) → (ℕ → ℕ) → Type 0
Coarsens count f g = (i j : ℕ) → i < count → j < count → f i ≡ f j → g i ≡ g j

pub agree-coarsens : (count : ℕ) (f g : ℕ → ℕ) → Agree count f g → Coarsens count f g
agree-coarsens count f g agree i j i_in j_in same = sym (agree i i_in) ∙ same ∙ agree j j_in

module _ (values : List Val) (f g : ℕ → ℕ) (coarsens : Coarsens (length values) f g) where
  joined-coarser : (a b : Val) → Joined values f a b → Joined values g a b
  joined-coarser a b j = record {
    left = j.left;
    right = j.right;
    is_left = j.is_left;
    is_right = j.is_right;
    joined = coarsens j.left j.right (slice_get_within values j.left a j.is_left.here) (slice_get_within values j.right b j.is_right.here) j.joined;
  }

  pub same-coarser : (a b : Val) → Same values f a b → Same values g a b
  same-coarser a b (inl is) = inl is
  same-coarser a b (inr j) = inr (joined-coarser a b j)

  pub each-coarser : (xs ys : List Val) → SameEach values f xs ys → SameEach values g xs ys
  each-coarser xs ys h = record { long = h.long; each = λ k a b at_a at_b. same-coarser a b (h.each k a b at_a at_b) }

  pub calls-coarser : (a b : Val) → AreCalls values f a b → AreCalls values g a b
  calls-coarser a b h = record { symbol = h.symbol; from = h.from; to = h.to; is_from = h.is_from; is_to = h.is_to; each = each-coarser h.from h.to h.each }

  reason-coarser : (factors : List U) (calls : List Val) (a b : Val) (reason : Reason) → HasReason factors calls values f a b reason → HasReason factors calls values g a b reason
  reason-coarser factors calls a b (Given factor turned) h = h
  reason-coarser factors calls a b Called h = (h.0, h.1, calls-coarser a b h.2)

  pub edge-coarser : (factors : List U) (calls : List Val) (e : Edge) → IsEdge factors calls values f e → IsEdge factors calls values g e
  edge-coarser factors calls e h = record { from = h.from; to = h.to; is_from = h.is_from; is_to = h.is_to; reason = reason-coarser factors calls h.from h.to e.reason h.reason }

pub apart-agree : (values : List Val) (f g : ℕ → ℕ) → Agree (length values) f g → (e : Edge) → IsApart values f e → IsApart values g e
apart-agree values f g agree e h = record {
  left_within = h.left_within;
  right_within = h.right_within;
  apart = λ same. h.apart (agree e.left h.left_within ∙ same ∙ sym (agree e.right h.right_within));
  calls = λ none a b at_a at_b. calls-coarser values f g (agree-coarsens (length values) f g agree) a b (h.calls none a b at_a at_b);
}
