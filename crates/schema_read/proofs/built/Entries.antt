-- Members of lists, and entries that are found and replaced by a test of their names.
use Rattle.std.proofs.Common.{◌≡◌, inl, inr, Bool, List, [], ◌∷◌, ◌++◌, Some, refl, sym, ap, subst}
use Rattle.std.specs.Map.{lookup, set_value}
use Rattle.std.proofs.lemmas.Bool.{cases_Bool, cond_both}
use Rattle.std.proofs.lemmas.Option.{none-some, same_Some}
use Rattle.data_model.specs.Lists.{Each, Has}
use Rattle.sql_model.specs.Syntax.{Name}

-- ---- members

module _ {X : Type 0} (P : X → Type 0) where
  pub each_append : (xs ys : List X) → Each P xs → Each P ys → Each P (xs ++ ys)
  each_append [] ys each others = others
  each_append (x ∷ xs) ys each others = (each.0, each_append xs ys each.1 others)

  pub each_push : (xs : List X) (x : X) → Each P xs → P x → Each P (xs ++ x ∷ [])
  each_push xs x each last = each_append xs (x ∷ []) each (last, tt)

  pub each_map : (Q : X → Type 0) → ((x : X) → P x → Q x) → (xs : List X) → Each P xs → Each Q xs
  each_map Q f [] each = tt
  each_map Q f (x ∷ xs) each = (f x each.0, each_map Q f xs each.1)

  pub has_first : (xs ys : List X) → Has P xs → Has P (xs ++ ys)
  has_first [] ys has = absurd has
  has_first (x ∷ xs) ys (inl p) = inl p
  has_first (x ∷ xs) ys (inr later) = inr (has_first xs ys later)

  pub has_last : (xs : List X) (x : X) → P x → Has P (xs ++ x ∷ [])
  has_last [] x p = inl p
  has_last (y ∷ xs) x p = inr (has_last xs x p)

-- ---- entries

module _ {X : Type 0} (test : Name → Bool) where
  -- what holds of each holds of the one that is found
  pub found_each : (P : X → Type 0) (es : List (Name × X)) (x : X) → lookup test es ≡ Some x → Each (λ e. P e.1) es → P x
  found_each P [] x h each = absurd (none-some x h)
  found_each P (e ∷ es) x h each = elim (cases_Bool (test e.0)) [
    | inl is ↦ subst P (same_Some e.1 x (rw is at h)) each.0
    | inr isnt ↦ found_each P es x (rw isnt at h) each.1
  ]

  -- what holds of the one that is found holds of some
  pub found_has : (P : X → Type 0) (es : List (Name × X)) (x : X) → lookup test es ≡ Some x → P x → Has (λ e. P e.1) es
  found_has P [] x h p = absurd (none-some x h)
  found_has P (e ∷ es) x h p = elim (cases_Bool (test e.0)) [
    | inl is ↦ inl (subst P (sym (same_Some e.1 x (rw is at h))) p)
    | inr isnt ↦ inr (found_has P es x (rw isnt at h) p)
  ]

  -- another value in place of the one that is found
  pub set_each : (P : X → Type 0) (es : List (Name × X)) (new : X) → Each (λ e. P e.1) es → P new → Each (λ e. P e.1) (set_value test es new)
  set_each P [] new each p = tt
  set_each P (e ∷ es) new each p =
      cond_both (test e.0) ((e.0, new) ∷ es) (e ∷ set_value test es new) (λ z. Each (λ e. P e.1) z) (λ is. (p, each.1)) (λ isnt. (each.0, set_each P es new each.1 p))

  pub set_has : (P : X → Type 0) (es : List (Name × X)) (x new : X) → lookup test es ≡ Some x → (P x → P new) → Has (λ e. P e.1) es → Has (λ e. P e.1) (set_value test es new)
  set_has P [] x new h keep has = absurd has
  set_has P (e ∷ es) x new h keep (inl p) =
      cond_both (test e.0) ((e.0, new) ∷ es) (e ∷ set_value test es new) (λ z. Has (λ e. P e.1) z) (λ is. inl (keep (subst P (same_Some e.1 x (rw is at h)) p))) (λ isnt. inl p)
  set_has P (e ∷ es) x new h keep (inr later) =
      cond_both (test e.0) ((e.0, new) ∷ es) (e ∷ set_value test es new) (λ z. Has (λ e. P e.1) z) (λ is. inr later) (λ isnt. inr (set_has P es x new (rw isnt at h) keep later))

  -- more entries behind them
  pub lookup_first : (es others : List (Name × X)) (x : X) → lookup test es ≡ Some x → lookup test (es ++ others) ≡ Some x
  lookup_first [] others x h = absurd (none-some x h)
  lookup_first (e ∷ es) others x h = elim (cases_Bool (test e.0)) [ inl is ↦ rw is (rw is at h) | inr isnt ↦ rw isnt (lookup_first es others x (rw isnt at h)) ]

  pub set_first : (es others : List (Name × X)) (x new : X) → lookup test es ≡ Some x → set_value test (es ++ others) new ≡ set_value test es new ++ others
  set_first [] others x new h = absurd (none-some x h)
  set_first (e ∷ es) others x new h = elim (cases_Bool (test e.0)) [ inl is ↦ rw is refl | inr isnt ↦ rw isnt (ap (λ z. e ∷ z) (set_first es others x new (rw isnt at h))) ]
