-- Derivations that lead on to terms with normal values.
use Rattle.std.proofs.Common.{◌≡◌, ℕ, zero, suc, ◌+◌, ◌*◌, ◌≤◌, ◌<◌, List, [], ◌∷◌, ◌++◌, drop, drop-cons, length, get_or, refl, ap, sym, subst, ◌∙◌, arith}
use Rattle.std.proofs.lemmas.List.Sums.{sum_by-cons}
use Rattle.data_model.specs.Lists.{Each}
use Rattle.u_terms.specs.declared.facts.Facts.{Facts}
use Rattle.u_terms.specs.declared.term.U.TheVariants as u
use Rattle.u_terms.specs.declared.term.Val.TheVariants as v
use Rattle.u_terms.specs.Syntax.{U, Val}
use Rattle.u_terms.specs.Size.{value_nodes, list_nodes}
use Rattle.u_terms.specs.Binding.{closed_at}
use Rattle.u_terms.specs.Places.{IsClosed, IsClosedValue}
use Rattle.u_terms.specs.Names.{EachName, IsFreeBelowValue}
use Rattle.u_terms.proofs.ClosedTerms.{IsClosed-Rel, IsClosed-Pred, IsClosed-Fun}
use Rattle.u_terms.proofs.MappedNames.{EachNameRow-list}
use Rattle.u_terms.specs.Syntax.{constructors}
use Rattle.u_terms.proofs.Sizes.{nodes-Rel, nodes-Eq, nodes-Pred, nodes-Fun, nodes-Agg}
use Rattle.u_rules.proofs.multisets.LeavesAt.{mul_leaves-Rel, mul_leaves-Eq, mul_leaves-Pred}
use Rattle.u_moves.specs.Derivations.{Derivation, IsKnown}
use Rattle.u_moves.specs.Moving.{IsKnownValue, AreKnownValues}
use Rattle.normal_form.specs.NormalTerms.{IsNormal}
use Rattle.u_congruence.specs.Congruence.{IsBy, IsFromTo}
use Rattle.u_normal.specs.Leading.{Leads}
use Rattle.u_normal.specs.Rooms.{InRoom, BecomesInRoom}
use Rattle.u_normal.specs.Taking.{load}
use Rattle.u_normal.specs.Finishing.{IsFinishedPlain}
use Rattle.u_normal.specs.Values.{Stands, AreStanding, HasOtherBody, IsNormalAt, AreNormalAt, AreNormalUpTo, LeadsOn}
use Rattle.u_normal.proofs.products.Loads.{load-leaf, load-small}
use Rattle.u_normal.proofs.derivations.InRooms.{led-fits}
use Rattle.u_normal.proofs.products.Finishes.{plain-relation, plain-predicate, plain-equality}
use Rattle.u_normal.proofs.derivations.Standing.{relation-place, predicate-place, left-place, right-place, function-normal, aggregate-normal, next-stands, one-more}

-- ---- what is known of values
module _ (outs : ℕ) where
  pub known-relation : (table : ℕ) (vs : List Val) (t : U) → t ≡ u.Rel table vs → IsKnown 0 outs t → AreKnownValues outs vs
  unfolding IsClosed EachName constructors
  known-relation table vs t e h =
      let k : IsKnown 0 outs (u.Rel table vs) = subst (λ (x : U). IsKnown 0 outs x) e h in
      record { closed = subst (λ (T : Type 0). T) (IsClosed-Rel 0 table vs) k.closed; named = subst (λ (T : Type 0). T) (EachNameRow-list (λ x. x < outs) vs) k.named }

  pub known-predicate : (symbol : ℕ) (vs : List Val) (t : U) → t ≡ u.Pred symbol vs → IsKnown 0 outs t → AreKnownValues outs vs
  unfolding IsClosed EachName constructors
  known-predicate symbol vs t e h =
      let k : IsKnown 0 outs (u.Pred symbol vs) = subst (λ (x : U). IsKnown 0 outs x) e h in
      record { closed = subst (λ (T : Type 0). T) (IsClosed-Pred 0 symbol vs) k.closed; named = subst (λ (T : Type 0). T) (EachNameRow-list (λ x. x < outs) vs) k.named }

  pub known-equal_left : (a b : Val) (t : U) → t ≡ u.Eq a b → IsKnown 0 outs t → IsKnownValue outs a
  unfolding IsClosed EachName constructors
  known-equal_left a b t e h = let k : IsKnown 0 outs (u.Eq a b) = subst (λ (x : U). IsKnown 0 outs x) e h in record { closed = k.closed.0; named = k.named.0 }

  pub known-equal_right : (a b : Val) (t : U) → t ≡ u.Eq a b → IsKnown 0 outs t → IsKnownValue outs b
  unfolding IsClosed EachName constructors
  known-equal_right a b t e h = let k : IsKnown 0 outs (u.Eq a b) = subst (λ (x : U). IsKnown 0 outs x) e h in record { closed = k.closed.1; named = k.named.1 }

  pub known-function : (symbol : ℕ) (vs : List Val) (value : Val) → value ≡ v.Fun symbol vs → IsKnownValue outs value → AreKnownValues outs vs
  unfolding IsClosed EachName constructors
  known-function symbol vs value e h =
      let k : IsKnownValue outs (v.Fun symbol vs) = subst (λ (x : Val). IsKnownValue outs x) e h in
      record { closed = subst (λ (T : Type 0). T) (IsClosed-Fun 0 symbol vs) k.closed; named = subst (λ (T : Type 0). T) (EachNameRow-list (λ x. x < outs) vs) k.named }

  pub known-aggregate : (number : ℕ) (body : U) (value : Val) → value ≡ v.Agg number body → IsKnownValue outs value → IsKnown 1 outs body
  unfolding IsClosed EachName constructors
  known-aggregate number body value e h = let k : IsKnownValue outs (v.Agg number body) = subst (λ (x : Val). IsKnownValue outs x) e h in record { closed = k.closed; named = k.named }

  each-dropped : (P : Val → Type 0) (count : ℕ) (vs : List Val) → Each P vs → Each P (drop count vs)
  each-dropped P zero vs h = h
  each-dropped P (suc count) [] h = tt
  each-dropped P (suc count) (x ∷ vs) h = each-dropped P count vs h.1

  each-at : (P : Val → Type 0) (vs : List Val) (count : ℕ) (value : Val) → drop count vs ≡ value ∷ drop (count + 1) vs → Each P vs → P value
  each-at P vs count value e h = (subst (λ (ws : List Val). Each P ws) e (each-dropped P count vs h)).0

  pub known-at : (vs : List Val) (count : ℕ) (value : Val) → drop count vs ≡ value ∷ drop (count + 1) vs → AreKnownValues outs vs → IsKnownValue outs value
  known-at vs count value e h = record { closed = each-at (IsClosedValue 0) vs count value e h.closed; named = each-at (IsFreeBelowValue outs) vs count value e h.named }

nodes-dropped : (i : ℕ) (vs : List Val) → list_nodes (drop i vs) ≤ list_nodes vs
nodes-dropped zero vs = omega arith
nodes-dropped (suc i) [] = omega arith
nodes-dropped (suc i) (x ∷ vs) = let e : list_nodes (x ∷ vs) ≡ value_nodes x + list_nodes vs = sum_by-cons value_nodes x vs in omega (arith, e, nodes-dropped i vs)

-- ---- lists that are the same
pub same-relation : (t : U) (table : ℕ) (vs ws : List Val) → t ≡ u.Rel table vs → ws ≡ vs → t ≡ u.Rel table ws
same-relation t table vs ws e f = e ∙ ap (λ (xs : List Val). u.Rel table xs) (sym f)

pub same-predicate : (t : U) (symbol : ℕ) (vs ws : List Val) → t ≡ u.Pred symbol vs → ws ≡ vs → t ≡ u.Pred symbol ws
same-predicate t symbol vs ws e f = e ∙ ap (λ (xs : List Val). u.Pred symbol xs) (sym f)

pub same-function : (value : Val) (symbol : ℕ) (vs ws : List Val) → value ≡ v.Fun symbol vs → ws ≡ vs → value ≡ v.Fun symbol ws
same-function value symbol vs ws e f = e ∙ ap (λ (xs : List Val). v.Fun symbol xs) (sym f)

pub same-aggregate : (value : Val) (number : ℕ) (a b : U) → value ≡ v.Agg number a → b ≡ a → value ≡ v.Agg number b
same-aggregate value number a b e f = e ∙ ap (λ (x : U). v.Agg number x) (sym f)

pub ahead-at : (vs : List Val) (i : ℕ) (value : Val) → i < length vs → value ≡ get_or vs i value → drop i vs ≡ value ∷ drop (i + 1) vs
ahead-at vs i value less is =
    let n : suc i ≡ i + 1 = omega arith in
    drop-cons vs i value less ∙ ap (λ (x : Val). x ∷ drop (suc i) vs) (sym is) ∙ ap (λ (k : ℕ). value ∷ drop k vs) n

pub item-lighter : (vs : List Val) (i : ℕ) (value : Val) → drop i vs ≡ value ∷ drop (i + 1) vs → 8 * value_nodes value + 10 < 8 * list_nodes vs + 11
item-lighter vs i value ahead =
    let e : list_nodes (drop i vs) ≡ value_nodes value + list_nodes (drop (i + 1) vs) = ap list_nodes ahead ∙ sum_by-cons value_nodes value (drop (i + 1) vs) in
    omega (arith, e, nodes-dropped i vs)

-- ---- how much there is to do in values
pub relation-lighter : (t : U) (table : ℕ) (vs : List Val) → t ≡ u.Rel table vs → 8 * list_nodes vs + 11 < 8 * load t + 2
relation-lighter t table vs e = omega (arith, ap load e, load-leaf (u.Rel table vs) (mul_leaves-Rel table vs), nodes-Rel table vs)

pub predicate-lighter : (t : U) (symbol : ℕ) (vs : List Val) → t ≡ u.Pred symbol vs → 8 * list_nodes vs + 11 < 8 * load t + 2
predicate-lighter t symbol vs e = omega (arith, ap load e, load-leaf (u.Pred symbol vs) (mul_leaves-Pred symbol vs), nodes-Pred symbol vs)

pub left-lighter : (t : U) (a b : Val) → t ≡ u.Eq a b → 8 * value_nodes a + 10 < 8 * load t + 2
left-lighter t a b e = omega (arith, ap load e, load-leaf (u.Eq a b) (mul_leaves-Eq a b), nodes-Eq a b)

pub right-lighter : (t : U) (a b : Val) → t ≡ u.Eq a b → 8 * value_nodes b + 10 < 8 * load t + 2
right-lighter t a b e = omega (arith, ap load e, load-leaf (u.Eq a b) (mul_leaves-Eq a b), nodes-Eq a b)

pub function-lighter : (value : Val) (symbol : ℕ) (vs : List Val) → value ≡ v.Fun symbol vs → 8 * list_nodes vs + 11 < 8 * value_nodes value + 10
function-lighter value symbol vs e = omega (arith, ap value_nodes e, nodes-Fun symbol vs)

pub aggregate-lighter : (value : Val) (number : ℕ) (body : U) → value ≡ v.Agg number body → 8 * load body + 9 < 8 * value_nodes value + 10
aggregate-lighter value number body e = omega (arith, ap value_nodes e, nodes-Agg number body, load-small body)

-- ---- derivations that lead on
pub by-on : (P : U → U → Type 0) (F : Facts) (outs : ℕ) (whole d : Derivation) → IsBy F outs whole → LeadsOn P whole d → IsBy F outs d
by-on P F outs whole d by h = record { facts = h.facts ∙ by.facts; outs = h.outs ∙ by.outs }

pub led-still : (room : ℕ) (path : List ℕ) (value : Val) (whole : Derivation) → IsNormalAt path value whole.to whole.to → LeadsOn (BecomesInRoom room (IsNormalAt path value)) whole whole
led-still room path value whole h = record { facts = refl; outs = refl; from = refl; reached = record { fits = λ small. h } }

module _ (room count : ℕ) (path : List ℕ) (vs : List Val) (whole d : Derivation) (value : Val) (ahead : drop count vs ≡ value ∷ drop (count + 1) vs) (h : LeadsOn (AreNormalUpTo count path vs) whole d) where
  pub led-stands : AreStanding path vs whole.to → Stands (path ++ count ∷ []) value d.to
  led-stands s = next-stands count path vs whole.to d.to value ahead h.reached s

  pub led-next : (e : Derivation) → LeadsOn (BecomesInRoom room (IsNormalAt (path ++ count ∷ []) value)) d e → LeadsOn (BecomesInRoom room (AreNormalUpTo (count + 1) path vs)) whole e
  led-next e k = record {
    facts = k.facts ∙ h.facts;
    outs = k.outs ∙ h.outs;
    from = k.from ∙ h.from;
    reached = record { fits = λ small. one-more count path vs whole.to d.to value ahead h.reached e.to (k.reached.fits small) };
  }

pub led-function : (room : ℕ) (path : List ℕ) (symbol : ℕ) (vs : List Val) (value : Val) (whole : Derivation) → value ≡ v.Fun symbol vs → (d : Derivation) → LeadsOn (BecomesInRoom room (AreNormalAt path vs)) whole d → LeadsOn (BecomesInRoom room (IsNormalAt path value)) whole d
led-function room path symbol vs value whole e =
    led-fits room (BecomesInRoom room (AreNormalAt path vs)) (IsNormalAt path value) whole
    (λ a b small h. subst (λ (x : Val). IsNormalAt path x a b) (sym e) (function-normal path symbol vs a b (h.fits small)))

pub led-aggregate : (room : ℕ) (path : List ℕ) (number outs : ℕ) (body from to : U) (value : Val) (whole : Derivation) → value ≡ v.Agg number body → closed_at from outs ≡ body → InRoom room IsNormal to → (d : Derivation) → LeadsOn (HasOtherBody path outs from to) whole d → LeadsOn (BecomesInRoom room (IsNormalAt path value)) whole d
led-aggregate room path number outs body from to value whole e f h =
    led-fits room (HasOtherBody path outs from to) (IsNormalAt path value) whole
    (λ a b small made. subst (λ (x : Val). IsNormalAt path x a b) (sym e) (aggregate-normal path number outs body from to a b f (h.fits (omega (arith, small, made.few))) made))

-- ---- from a term as it is
module _ (room : ℕ) (F : Facts) (outs : ℕ) (t s : U) (copied : s ≡ t) (whole : Derivation) (still : IsFromTo F outs s s whole) where
  pub by-still : IsBy F outs whole
  by-still = record { facts = still.facts; outs = still.outs }

  pub leads-still : IsFinishedPlain t s → Leads (InRoom room (IsFinishedPlain t)) F outs t whole
  leads-still h = record {
    facts = still.facts;
    outs = still.outs;
    from = still.from ∙ copied;
    reached = record { fits = λ small. subst (λ (x : U). IsFinishedPlain t x) (sym still.to) h };
  }

  leads-on : (P : U → U → Type 0) → ((b : U) → P t b → IsFinishedPlain t b) → (d : Derivation) → LeadsOn (BecomesInRoom room P) whole d → Leads (InRoom room (IsFinishedPlain t)) F outs t d
  leads-on P keeps d h = record {
    facts = h.facts ∙ still.facts;
    outs = h.outs ∙ still.outs;
    from = h.from ∙ still.from ∙ copied;
    reached = record { fits = λ small. keeps d.to (subst (λ (x : U). P x d.to) (still.to ∙ copied) (h.reached.fits small)) };
  }

  pub leads-relation : (table : ℕ) (vs : List Val) → t ≡ u.Rel table vs → (d : Derivation) → LeadsOn (BecomesInRoom room (AreNormalAt [] vs)) whole d → Leads (InRoom room (IsFinishedPlain t)) F outs t d
  leads-relation table vs e = leads-on (AreNormalAt [] vs) (λ b h. plain-relation t b table vs h.became e (h.put (λ ws. u.Rel table ws) (relation-place table) e) h.normal)

  pub leads-predicate : (symbol : ℕ) (vs : List Val) → t ≡ u.Pred symbol vs → (d : Derivation) → LeadsOn (BecomesInRoom room (AreNormalAt [] vs)) whole d → Leads (InRoom room (IsFinishedPlain t)) F outs t d
  leads-predicate symbol vs e = leads-on (AreNormalAt [] vs) (λ b h. plain-predicate t b symbol vs h.became e (h.put (λ ws. u.Pred symbol ws) (predicate-place symbol) e) h.normal)

  pub stands-relation : (table : ℕ) (vs : List Val) → t ≡ u.Rel table vs → AreStanding [] vs whole.to
  stands-relation table vs e = record { around = λ ws. u.Rel table ws; place = relation-place table; is = still.to ∙ copied ∙ e }

  pub stands-predicate : (symbol : ℕ) (vs : List Val) → t ≡ u.Pred symbol vs → AreStanding [] vs whole.to
  stands-predicate symbol vs e = record { around = λ ws. u.Pred symbol ws; place = predicate-place symbol; is = still.to ∙ copied ∙ e }

  module _ (a b : Val) (e : t ≡ u.Eq a b) where
    pub stands-left : Stands (0 ∷ []) a whole.to
    stands-left = record { around = λ x. u.Eq x b; place = left-place b; is = still.to ∙ copied ∙ e }

    module _ (half : Derivation) (first : LeadsOn (IsNormalAt (0 ∷ []) a) whole half) where
      half-is : half.to ≡ u.Eq first.reached.became b
      half-is = first.reached.put (λ x. u.Eq x b) (left-place b) (still.to ∙ copied ∙ e)

      pub stands-right : Stands (1 ∷ []) b half.to
      stands-right = record { around = λ y. u.Eq first.reached.became y; place = right-place first.reached.became; is = half-is }

      pub leads-equality : (d : Derivation) → LeadsOn (BecomesInRoom room (IsNormalAt (1 ∷ []) b)) half d → Leads (InRoom room (IsFinishedPlain t)) F outs t d
      leads-equality d h = record {
        facts = h.facts ∙ first.facts ∙ still.facts;
        outs = h.outs ∙ first.outs ∙ still.outs;
        from = h.from ∙ first.from ∙ still.from ∙ copied;
        reached = record {
          fits = λ small.
              let second = h.reached.fits small in
              plain-equality t d.to a b first.reached.became second.became e
              (second.put (λ y. u.Eq first.reached.became y) (right-place first.reached.became) half-is) first.reached.normal second.normal;
        };
      }
