-- What the classes of a product are when they are made.
use Rattle.std.proofs.Common.{◌≡◌, ℕ, ◌≤◌, List, take, length, ap, sym, ◌∙◌, subst, arith}
use Rattle.std.specs.Prelude.{count_by}
use Rattle.std.proofs.lemmas.List.{take_all}
use Rattle.std.proofs.lemmas.Option.{slice_get_within}
use Rattle.u_terms.specs.Syntax.{U, Val}
use Rattle.u_terms.specs.declared.term.Val.TheVariants as v
use Rattle.u_rules.specs.Terms.{◌≐◌, mul_leaves}
use Rattle.u_equal.specs.declared.forest.Reason.{Reason}
use Rattle.u_equal.specs.declared.forest.Reason.TheVariants.{Given, Called}
use Rattle.u_equal.specs.declared.forest.Forest.{Forest}
use Rattle.u_equal.specs.Standing.{standing, EachOnce, IsIn}
use Rattle.u_equal.specs.Joined.{label_now, Same, seen, State, IsState, IsTree, HasReason, AreEdges, AreClasses, IsFresh, JoinsFactors, IsProgress, HoldsCalls, HoldsGiven}
use Rattle.u_equal.specs.Links.{HasNoCall, is_equality}
use Rattle.u_equal.specs.Tables.{AreValuesOf, HasArguments, HasSides}
use Rattle.u_equal.proofs.edges.Reaches.{fewer-edges}
use Rattle.u_equal.proofs.edges.Relabelled.{same-coarser}
use Rattle.u_equal.proofs.products.Arguments.{standing-has, sides-stand}

pub fresh-state : (values : List Val) (s : State) → IsFresh values s → IsState s
fresh-state values s h k less = let e : length s.edges ≡ 0 = ap length h.edges_are in absurd (omega (arith, less, e))

-- ---- what the table has
pub sides-in : (product : U) (values : List Val) → AreValuesOf (standing product) values → HasSides (mul_leaves product) values
sides-in product values table factor a b at = let h = sides-stand product a b (record { place = factor; here = at }) in (table.all a h.0, table.all b h.1)

pub arguments-in : (product : U) (values : List Val) → AreValuesOf (standing product) values → HasArguments values
arguments-in product values table f xs has x x_in = table.all x (standing-has product f xs (table.only (v.Fun f xs) has) x x_in)

-- ---- calls that are in the table stand in the product
reason-only : (factors : List U) (calls values table : List Val) (label : ℕ → ℕ) (a b : Val) (reason : Reason) → ((x : Val) → IsIn x values → IsIn x calls)
    → HasReason factors values table label a b reason → HasReason factors calls table label a b reason
reason-only factors calls values table label a b (Given factor turned) only h = h
reason-only factors calls values table label a b Called only h = (only a h.0, only b h.1, h.2)

edges-only : (factors : List U) (calls values : List Val) (s : State) → ((x : Val) → IsIn x values → IsIn x calls) → AreEdges factors values s → AreEdges factors calls s
edges-only factors calls values s only hold k less =
    let h = hold k less in
    record { from = h.from; to = h.to; is_from = h.is_from; is_to = h.is_to; reason = reason-only factors calls values s.values _ h.from h.to _ only h.reason }

-- ---- all steps together
module _ (product : U) (values : List Val) (s t w : Forest) (table : AreValuesOf (standing product) values) (fresh : IsFresh values (seen s))
    (joined : JoinsFactors (mul_leaves product) (length (mul_leaves product)) (seen s) (seen t)) (progress : IsProgress t.values.keys (seen t) (seen w))
    (closed : HoldsCalls w.values.keys w.values.keys (label_now (seen w))) (tree : IsTree w) where
  t-values : t.values.keys ≡ values
  t-values = joined.values ∙ fresh.values_are

  w-values : w.values.keys ≡ values
  w-values = progress.values ∙ t-values

  in-t : (a : Val) → IsIn a t.values.keys → IsIn a (standing product)
  in-t a h = table.only a (subst (λ (vs : List Val). IsIn a vs) t-values h)

  in-w : (a : Val) → IsIn a (standing product) → IsIn a w.values.keys
  in-w a h = subst (λ (vs : List Val). IsIn a vs) (sym w-values) (table.all a h)

  none : length s.edges.items ≡ 0
  none = ap length fresh.edges_are

  no-edges : (factors : List U) (calls : List Val) → AreEdges factors calls (seen s)
  no-edges factors calls k less = absurd (omega (arith, less, none))

  given-now : HoldsGiven (mul_leaves product) w.values.keys (label_now (seen w))
  given-now factor a b at =
      subst (λ (vs : List Val). Same vs (label_now (seen w)) a b) (sym progress.values)
      (same-coarser t.values.keys (label_now (seen t)) (label_now (seen w)) (λ i j i_in j_in same. progress.joins i j same) a b
      (joined.joins factor a b (slice_get_within (mul_leaves product) factor (a ≐ b) at) at))

  few-now : HasNoCall (standing product) → length w.edges.items ≤ count_by is_equality (mul_leaves product)
  few-now no_call =
      let quiet = progress.quiet (λ f xs has. no_call f xs (in-t (v.Fun f xs) has)) in
      let e : count_by is_equality (take (length (mul_leaves product)) (mul_leaves product)) ≡ count_by is_equality (mul_leaves product) =
      ap (count_by is_equality) (take_all (length (mul_leaves product)) (mul_leaves product) (omega arith)) in
      omega (arith, quiet, joined.few, none, e)

  pub classes-made : AreClasses product w
  classes-made = record {
    once = subst (λ (vs : List Val). EachOnce vs) (sym w-values) table.once;
    tree = tree;
    state = progress.state;
    edges_hold = edges-only (mul_leaves product) (standing product) t.values.keys (seen w) in-t (progress.edges_hold (mul_leaves product) (joined.edges_hold t.values.keys (no-edges (mul_leaves product) t.values.keys)));
    given = given-now;
    calls = λ a b a_in b_in are. closed a b (in-w a a_in) (in-w b b_in) are;
    few = few-now;
    narrow = omega (arith, fewer-edges (seen w) progress.state, ap length w-values, table.few);
  }
