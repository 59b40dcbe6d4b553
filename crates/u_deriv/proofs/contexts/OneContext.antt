-- A term has one context at a path.
use Rattle.std.proofs.Common.{◌≡◌, ℕ, zero, suc, ◌+◌, List, [], ◌∷◌, ◌++◌, length, take, drop, Option, Some, None, refl, ap, sym, ◌∙◌, arith}
use Rattle.std.specs.Prelude.{slice_get}
use Rattle.u_terms.specs.Syntax.{U, Val}
use Rattle.u_terms.specs.declared.term.U.TheOpen.{U-F, Val-F}
use Rattle.u_terms.specs.declared.term.U.TheViews.{out-U, out-Val}
use Rattle.u_deriv.specs.declared.run.Turn.{Turn}
use Rattle.u_deriv.specs.declared.run.Turn.TheVariants as turn
use Rattle.u_deriv.specs.Contexts.{Context, ValueContext, hole, add_left, add_right, mul_left, mul_right, in_squash, in_not, in_sum, in_relation, eq_left, eq_right, in_predicate, in_function, in_aggregate, filled, filled_value, way, value_way}
use Rattle.u_deriv.specs.Walk.{end_of}
use Rattle.u_deriv.proofs.contexts.Ends.{out-Add, out-Mul, out-Squash, out-Not, out-Sum, out-Rel, out-Eq, out-Pred, out-Fun, out-Agg, slice_get-between, end_of-filled}

-- ---- the context at the turns, and any where they leave the term
abbrev nowhere : ValueContext
nowhere = in_aggregate 0 hole

abbrev if_there : {C : Type 0} → C → (Val → C) → Option Val → C
if_there default around None = default
if_there default around (Some value) = around value

abbrev left_context : (U → Context) → U-F U Val → Context
left_context f (U-F.Add a b) = add_left (f a) b
left_context f (U-F.Mul a b) = mul_left (f a) b
left_context f _ = hole

abbrev right_context : (U → Context) → U-F U Val → Context
right_context f (U-F.Add a b) = add_right a (f b)
right_context f (U-F.Mul a b) = mul_right a (f b)
right_context f _ = hole

abbrev inner_context : (U → Context) → U-F U Val → Context
inner_context f (U-F.Squash a) = in_squash (f a)
inner_context f (U-F.Not a) = in_not (f a)
inner_context f (U-F.Sum body) = in_sum (f body)
inner_context f _ = hole

abbrev side_context : (Val → ValueContext) → ℕ → Val → Val → Context
side_context f zero a b = eq_left (f a) b
side_context f _ a b = eq_right a (f b)

abbrev argument_context : (Val → ValueContext) → ℕ → U-F U Val → Context
argument_context f index (U-F.Rel table vs) = if_there hole (λ value. in_relation table (take index vs) (f value) (drop (index + 1) vs)) (slice_get vs index)
argument_context f index (U-F.Pred symbol vs) = if_there hole (λ value. in_predicate symbol (take index vs) (f value) (drop (index + 1) vs)) (slice_get vs index)
argument_context f index (U-F.Eq a b) = side_context f index a b
argument_context f index _ = hole

abbrev body_context : (U → Context) → Val-F U Val → ValueContext
body_context f (Val-F.Agg aggregate body) = in_aggregate aggregate (f body)
body_context f _ = nowhere

abbrev value_argument_context : (Val → ValueContext) → ℕ → Val-F U Val → ValueContext
value_argument_context f index (Val-F.Fun symbol vs) =
    if_there nowhere (λ value. in_function symbol (take index vs) (f value) (drop (index + 1) vs)) (slice_get vs index)
value_argument_context f index _ = nowhere

abbrev mutual
  context_at : List Turn → U → Context
  context_at [] u = hole
  context_at (turn.Left ∷ turns) u = left_context (context_at turns) (out-U u)
  context_at (turn.Right ∷ turns) u = right_context (context_at turns) (out-U u)
  context_at (turn.Inside ∷ turns) u = inner_context (context_at turns) (out-U u)
  context_at (turn.Argument index ∷ turns) u = argument_context (value_context_at turns) index (out-U u)

  value_context_at : List Turn → Val → ValueContext
  value_context_at [] value = nowhere
  value_context_at (turn.Left ∷ turns) value = nowhere
  value_context_at (turn.Right ∷ turns) value = nowhere
  value_context_at (turn.Inside ∷ turns) value = body_context (context_at turns) (out-Val value)
  value_context_at (turn.Argument index ∷ turns) value = value_argument_context (value_context_at turns) index (out-Val value)

take-between : (before after : List Val) (value : Val) → take (length before) (before ++ value ∷ after) ≡ before
take-between [] after value = refl
take-between (first ∷ before) after value = ap (λ (vs : List Val). first ∷ vs) (take-between before after value)

drop-between : (before after : List Val) (value : Val) → drop (length before + 1) (before ++ value ∷ after) ≡ after
drop-between [] after value = refl
drop-between (first ∷ before) after value = let next : suc (length before) + 1 ≡ suc (length before + 1) = omega arith in rw next (drop-between before after value)

if_there-between : {C : Type 0} (default : C) (around : List Val → Val → List Val → C) (before after : List Val) (value : Val)
    → if_there default (λ x. around (take (length before) (before ++ value ∷ after)) x (drop (length before + 1) (before ++ value ∷ after)))
    (slice_get (before ++ value ∷ after) (length before))
    ≡ around before value after
if_there-between default around before after value =
    rw (slice_get-between before after value, take-between before after value, drop-between before after value) refl

mutual
  unfolding filled way

  context_at-filled : (c : Context) (s : U) → context_at (way c) (filled c s) ≡ c
  context_at-filled hole s = refl
  context_at-filled (add_left c b) s = rw (out-Add (filled c s) b) (ap (λ (d : Context). add_left d b) (context_at-filled c s))
  context_at-filled (add_right a c) s = rw (out-Add a (filled c s)) (ap (λ (d : Context). add_right a d) (context_at-filled c s))
  context_at-filled (mul_left c b) s = rw (out-Mul (filled c s) b) (ap (λ (d : Context). mul_left d b) (context_at-filled c s))
  context_at-filled (mul_right a c) s = rw (out-Mul a (filled c s)) (ap (λ (d : Context). mul_right a d) (context_at-filled c s))
  context_at-filled (in_squash c) s = rw (out-Squash (filled c s)) (ap (λ (d : Context). in_squash d) (context_at-filled c s))
  context_at-filled (in_not c) s = rw (out-Not (filled c s)) (ap (λ (d : Context). in_not d) (context_at-filled c s))
  context_at-filled (in_sum c) s = rw (out-Sum (filled c s)) (ap (λ (d : Context). in_sum d) (context_at-filled c s))
  context_at-filled (in_relation table before c after) s =
      rw (out-Rel table (before ++ filled_value c s ∷ after))
      (if_there-between hole (λ vs x ws. in_relation table vs (value_context_at (value_way c) x) ws) before after (filled_value c s)
      ∙ ap (λ (d : ValueContext). in_relation table before d after) (value_context_at-filled c s))
  context_at-filled (eq_left c b) s = rw (out-Eq (filled_value c s) b) (ap (λ (d : ValueContext). eq_left d b) (value_context_at-filled c s))
  context_at-filled (eq_right a c) s = rw (out-Eq a (filled_value c s)) (ap (λ (d : ValueContext). eq_right a d) (value_context_at-filled c s))
  context_at-filled (in_predicate symbol before c after) s =
      rw (out-Pred symbol (before ++ filled_value c s ∷ after))
      (if_there-between hole (λ vs x ws. in_predicate symbol vs (value_context_at (value_way c) x) ws) before after (filled_value c s)
      ∙ ap (λ (d : ValueContext). in_predicate symbol before d after) (value_context_at-filled c s))

  value_context_at-filled : (c : ValueContext) (s : U) → value_context_at (value_way c) (filled_value c s) ≡ c
  value_context_at-filled (in_function symbol before c after) s =
      rw (out-Fun symbol (before ++ filled_value c s ∷ after))
      (if_there-between nowhere (λ vs x ws. in_function symbol vs (value_context_at (value_way c) x) ws) before after (filled_value c s)
      ∙ ap (λ (d : ValueContext). in_function symbol before d after) (value_context_at-filled c s))
  value_context_at-filled (in_aggregate aggregate c) s =
      rw (out-Agg aggregate (filled c s)) (ap (λ (d : Context). in_aggregate aggregate d) (context_at-filled c s))

pub same_context : (c d : Context) (s t : U) → way c ≡ way d → filled c s ≡ filled d t → c ≡ d
same_context c d s t ways terms =
    sym (context_at-filled c s) ∙ ap (λ (turns : List Turn). context_at turns (filled c s)) ways ∙ ap (λ (u : U). context_at (way d) u) terms ∙ context_at-filled d t

pub same_filling : (c d : Context) (s t : U) → way c ≡ way d → filled c s ≡ filled d t → s ≡ t
same_filling c d s t ways terms =
    let e : Some s ≡ Some t =
    sym (end_of-filled c s) ∙ ap (λ (turns : List Turn). end_of turns (filled c s)) ways ∙ ap (λ (u : U). end_of (way d) u) terms ∙ end_of-filled d t in
    cc

pub ruleset laws = (same_context, same_filling)
