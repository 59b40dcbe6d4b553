-- Where values stand in a term, and what becomes of them there.
use Rattle.std.proofs.Common.{◌≡◌, ℕ, ◌+◌, ◌≤◌, List, [], ◌∷◌, ◌++◌, length, drop, refl, ap, sym, subst, ◌∙◌, append_assoc, arith}
use Rattle.std.proofs.lemmas.List.{length-append}
use Rattle.data_model.specs.Lists.{Each}
use Rattle.u_terms.specs.declared.term.U.TheVariants as u
use Rattle.u_terms.specs.declared.term.Val.TheVariants as v
use Rattle.u_terms.specs.Syntax.{U, Val, row_of, constructors}
use Rattle.u_terms.specs.Places.{IsClosed}
use Rattle.u_terms.specs.Binding.{closed_at, closed_path}
use Rattle.u_terms.specs.Size.{nodes}
use Rattle.u_terms.proofs.Binding.{closed_path-one}
use Rattle.u_terms.proofs.MappedSizes.{closed_path-nodes}
use Rattle.u_terms.proofs.Sizes.{nodes-One}
use Rattle.u_deriv.specs.declared.run.Run.{Run}
use Rattle.u_deriv.specs.declared.run.Turn.{Turn}
use Rattle.u_deriv.specs.declared.run.Turn.TheVariants as turn
use Rattle.u_deriv.specs.Contexts.{Context, hole, in_relation, in_predicate, in_function, in_aggregate, eq_left, eq_right, filled, way, value_way, binders}
use Rattle.u_deriv.specs.Opening.{opened_path}
use Rattle.u_deriv.specs.Steps.{Replaced}
use Rattle.u_deriv.specs.Turns.{turns}
use Rattle.u_deriv.proofs.contexts.Opening.{opened_path-closed}
use Rattle.u_deriv.proofs.contexts.Extents.{nodes-filled}
use Rattle.u_deriv.proofs.steps.Arguments.{nodes-positive}
use Rattle.u_moves.specs.Lifting.{IsPart}
use Rattle.u_congruence.proofs.Turned.{made-here}
use Rattle.normal_form.specs.NormalTerms.{IsNormal, IsNormalValue, AreNormalValues, bound, free, literal, call, aggregate, no_value, value_then}
use Rattle.normal_form.proofs.Lists.{each-append}
use Rattle.normal_form.proofs.Renamed.{normal-closed}
use Rattle.u_normal.specs.Values.{arguments, IsPlace, IsRowPlace, Stands, AreStanding, StandsWithBody, HasOtherBody, IsNormalAt, AreNormalAt, AreNormalUpTo}

-- ---- places
further : (path : List ℕ) (index : ℕ) (rest : List Turn) → arguments path ++ turn.Argument index ∷ rest ≡ arguments (path ++ index ∷ []) ++ rest
further [] index rest = refl
further (first ∷ path) index rest = ap (λ (ts : List Turn). turn.Argument first ∷ ts) (further path index rest)

pub relation-place : (table : ℕ) → IsRowPlace [] (λ vs. u.Rel table vs)
unfolding filled way binders
relation-place table = record {
  each = λ before after. record {
    context = λ c. in_relation table before c after;
    filled_is = λ c s. refl;
    way_is = λ c. refl;
    binders_is = λ c. refl;
  };
}

pub predicate-place : (symbol : ℕ) → IsRowPlace [] (λ vs. u.Pred symbol vs)
unfolding filled way binders
predicate-place symbol = record {
  each = λ before after. record {
    context = λ c. in_predicate symbol before c after;
    filled_is = λ c s. refl;
    way_is = λ c. refl;
    binders_is = λ c. refl;
  };
}

pub left-place : (b : Val) → IsPlace (0 ∷ []) (λ a. u.Eq a b)
unfolding filled way binders
left-place b = record {
  context = λ c. eq_left c b;
  filled_is = λ c s. refl;
  way_is = λ c. refl;
  binders_is = λ c. refl;
}

pub right-place : (a : Val) → IsPlace (1 ∷ []) (λ b. u.Eq a b)
unfolding filled way binders
right-place a = record {
  context = λ c. eq_right a c;
  filled_is = λ c s. refl;
  way_is = λ c. refl;
  binders_is = λ c. refl;
}

pub function-place : (path : List ℕ) (K : Val → U) (symbol : ℕ) → IsPlace path K → IsRowPlace path (λ vs. K (v.Fun symbol vs))
unfolding filled way binders
function-place path K symbol h = record {
  each = λ before after. record {
    context = λ c. h.context (in_function symbol before c after);
    filled_is = λ c s. h.filled_is (in_function symbol before c after) s;
    way_is = λ c. h.way_is (in_function symbol before c after) ∙ further path (length before) (value_way c);
    binders_is = λ c. h.binders_is (in_function symbol before c after);
  };
}

-- a part has at most the nodes of the whole
part-few : (c : Context) (s : U) → nodes s ≤ nodes (filled c s)
part-few c s = omega (arith, nodes-filled c s u.One, nodes-One, nodes-positive (filled c u.One))

-- ---- the body of an aggregate
module _ (path : List ℕ) (runs : List Run) (at_path : turns runs ≡ arguments path ++ turn.Inside ∷ []) (outs : ℕ) where
  opened-once : (a : U) → IsClosed 0 a → a ≡ opened_path (closed_at a outs) outs 1
  opened-once a closed = sym (ap (λ (t : U). opened_path t outs 1) (sym (closed_path-one a outs)) ∙ opened_path-closed outs 1 a closed)

  module _ (K : Val → U) (h : IsPlace path K) (number : ℕ) where
    abbrev around : Context
    around = h.context (in_aggregate number hole)

    around-filled : (s : U) → filled around s ≡ K (v.Agg number s)
    unfolding filled
    around-filled s = h.filled_is (in_aggregate number hole) s

    around-binds : binders around ≡ 1
    unfolding binders
    around-binds = h.binders_is (in_aggregate number hole)

    around-way : way around ≡ turns runs
    unfolding way
    around-way = h.way_is (in_aggregate number hole) ∙ sym at_path

    around-closed : (a : U) → filled around (closed_path a outs (binders around)) ≡ K (v.Agg number (closed_at a outs))
    around-closed a =
        ap (λ (n : ℕ). filled around (closed_path a outs n)) around-binds ∙ ap (λ (t : U). filled around t) (closed_path-one a outs)
        ∙ around-filled (closed_at a outs)

    part-in_aggregate : (whole a : U) → whole ≡ K (v.Agg number (closed_at a outs)) → IsClosed 0 a → IsPart outs runs whole (outs + 1) a
    part-in_aggregate whole a is closed = record {
      context = around;
      inside = closed_at a outs;
      at_path = around-way;
      is = is ∙ sym (around-filled (closed_at a outs));
      names = ap (λ (n : ℕ). outs + n) (sym around-binds);
      opened = opened-once a closed ∙ ap (λ (n : ℕ). opened_path (closed_at a outs) outs n) (sym around-binds);
    }

    made-in_aggregate : (before from to after : U) → before ≡ K (v.Agg number (closed_at from outs)) → Replaced outs runs before from to after → after ≡ K (v.Agg number (closed_at to outs))
    made-in_aggregate before from to after is r =
        made-here around runs around-way outs before from to after (is ∙ sym (around-closed from)) r ∙ around-closed to

  pub body-part : (whole a : U) → StandsWithBody path (closed_at a outs) whole → IsClosed 0 a → IsPart outs runs whole (outs + 1) a
  body-part whole a h closed = part-in_aggregate h.stands.around h.stands.place h.number whole a h.stands.is closed

  pub other-body : (before from to after : U) → Replaced outs runs before from to after → HasOtherBody path outs from to before after
  other-body before from to after r = record {
    few = omega (arith, ap nodes r.is_to, closed_path-nodes to outs (binders r.context), part-few r.context (closed_path to outs (binders r.context)));
    put = λ number K h is. made-in_aggregate K h number before from to after is r;
  }

-- ---- parts of values
pub stands-function : (path : List ℕ) (symbol : ℕ) (vs : List Val) (t : U) → Stands path (v.Fun symbol vs) t → AreStanding path vs t
stands-function path symbol vs t h = record {
  around = λ values. h.around (v.Fun symbol values);
  place = function-place path h.around symbol h.place;
  is = h.is;
}

pub stands-aggregate : (path : List ℕ) (number : ℕ) (body a t : U) → a ≡ body → Stands path (v.Agg number body) t → StandsWithBody path a t
stands-aggregate path number body a t e h = record { number = number; stands = subst (λ (x : U). Stands path (v.Agg number x) t) (sym e) h }

-- ---- what values become
pub normal-row : (vs : List Val) → Each IsNormalValue vs → AreNormalValues _ (row_of vs)
unfolding constructors
normal-row [] h = no_value
normal-row (x ∷ vs) h = value_then h.0 (normal-row vs h.1)

still-normal : (path : List ℕ) (value : Val) (t : U) → IsNormalValue value → IsNormalAt path value t t
still-normal path value t h = record { became = value; normal = h; put = λ K place is. is }

pub bound-normal : (path : List ℕ) (number : ℕ) (value : Val) (t : U) → value ≡ v.Bound number → IsNormalAt path value t t
bound-normal path number value t e = still-normal path value t (subst IsNormalValue (sym e) bound)

pub free-normal : (path : List ℕ) (number : ℕ) (value : Val) (t : U) → value ≡ v.Free number → IsNormalAt path value t t
free-normal path number value t e = still-normal path value t (subst IsNormalValue (sym e) free)

pub literal-normal : (path : List ℕ) (number : ℕ) (value : Val) (t : U) → value ≡ v.Lit number → IsNormalAt path value t t
literal-normal path number value t e = still-normal path value t (subst IsNormalValue (sym e) literal)

pub function-normal : (path : List ℕ) (symbol : ℕ) (vs : List Val) (before after : U) → AreNormalAt path vs before after → IsNormalAt path (v.Fun symbol vs) before after
unfolding constructors
function-normal path symbol vs before after h = record {
  became = v.Fun symbol h.became;
  normal = call (normal-row h.became h.normal);
  put = λ K place is. h.put (λ values. K (v.Fun symbol values)) (function-place path K symbol place) is;
}

pub aggregate-normal : (path : List ℕ) (number outs : ℕ) (body from to before after : U) → closed_at from outs ≡ body → IsNormal to → HasOtherBody path outs from to before after → IsNormalAt path (v.Agg number body) before after
unfolding constructors
aggregate-normal path number outs body from to before after e h made = record {
  became = v.Agg number (closed_at to outs);
  normal = aggregate (normal-closed outs to h);
  put = λ K place is. made.put number K place (is ∙ ap (λ (t : U). K (v.Agg number t)) (sym e));
}

-- ---- one value after the other
module _ (count : ℕ) (path : List ℕ) (vs : List Val) (before now : U) (value : Val) (ahead : drop count vs ≡ value ∷ drop (count + 1) vs) (h : AreNormalUpTo count path vs before now) where
  next-place : (K : List Val → U) → IsRowPlace path K → IsPlace (path ++ count ∷ []) (λ x. K (h.became ++ x ∷ drop (count + 1) vs))
  next-place K place = subst (λ (n : ℕ). IsPlace (path ++ n ∷ []) (λ x. K (h.became ++ x ∷ drop (count + 1) vs))) h.long (place.each h.became (drop (count + 1) vs))

  next-is : (K : List Val → U) → IsRowPlace path K → before ≡ K vs → now ≡ K (h.became ++ value ∷ drop (count + 1) vs)
  next-is K place is = h.put K place is ∙ ap (λ (rest : List Val). K (h.became ++ rest)) ahead

  pub next-stands : AreStanding path vs before → Stands (path ++ count ∷ []) value now
  next-stands s = record {
    around = λ x. s.around (h.became ++ x ∷ drop (count + 1) vs);
    place = next-place s.around s.place;
    is = next-is s.around s.place s.is;
  }

  pub one-more : (after : U) → IsNormalAt (path ++ count ∷ []) value now after → AreNormalUpTo (count + 1) path vs before after
  one-more after w = record {
    became = h.became ++ w.became ∷ [];
    long = length-append h.became (w.became ∷ []) ∙ ap (λ (n : ℕ). n + 1) h.long;
    normal = each-append IsNormalValue h.became (w.became ∷ []) h.normal (w.normal, tt);
    put = λ K place is. w.put (λ x. K (h.became ++ x ∷ drop (count + 1) vs)) (next-place K place) (next-is K place is)
        ∙ ap K (sym (append_assoc h.became (w.became ∷ []) (drop (count + 1) vs)));
  }
