-- Calls that wait, and that wait again where an edge joins the class of an argument.
use Rattle.std.proofs.Common.{◌≡◌, ◌⊎◌, ℕ, suc, ◌+◌, ◌<◌, ◌≤◌, List, [], ◌∷◌, ◌++◌, map, length, get_or, inl, inr, refl, ap, sym, ◌∙◌, subst, arith}
use Rattle.std.specs.Prelude.{Bool, true, false, Option, Some, None, slice_get}
use Rattle.std.proofs.lemmas.Bool.{cases_eq, true≢false}
use Rattle.std.proofs.lemmas.List.{get_or-set_other, get_or-set_same, length_push}
use Rattle.std.proofs.Math.ListN.{set}
use Rattle.std.proofs.lemmas.Option.{get_or_from_slice_get, none-some, same_Some, slice_get-get_or, slice_get_within}
use Rattle.u_equal.specs.declared.agenda.Agenda.{Agenda}
use Rattle.u_equal.specs.declared.calls.Call.{Call}
use Rattle.u_equal.specs.declared.calls.Signature.{Signature}
use Rattle.u_equal.specs.declared.forest.Edge.{Edge}
use Rattle.u_equal.specs.Standing.{IsIn}
use Rattle.u_equal.specs.Joined.{label_at, label_now, State, IsProgress, IsState, pushed}
use Rattle.u_equal.specs.Tables.{Finds, IsKnown, IsStep, Leads, signature}
use Rattle.u_equal.specs.Agendas.{AreAlmostSettled, AreSettled, EachUses, IsForgotten, IsLooked, IsNext, IsWoken, StillUse, Uses, above, hung, last_time, users_at}
use Rattle.u_equal.specs.Numbered.{IsAdded}
use Rattle.u_equal.proofs.products.Members.{in-cons}
use Rattle.u_equal.proofs.edges.Labels.{label_at-push, after-hit, after-other}
use Rattle.u_equal.proofs.products.Listed.{at-left, at-last}
use Rattle.u_equal.proofs.congruence.Signatures.{progress-none, signature-agree}

-- ---- members of a list
pub in-left : {X : Type 0} (xs : List X) (y x : X) → IsIn x xs → IsIn x (xs ++ y ∷ [])
in-left xs y x h = record { place = h.place; here = at-left xs y x h.place h.here }

pub in-last : {X : Type 0} (xs : List X) (y : X) → IsIn y (xs ++ y ∷ [])
in-last xs y = record { place = length xs; here = at-last xs y }

-- what holds of each of the first items holds of all
pub each-item : (P : ℕ → Type 0) (xs : List ℕ) (n : ℕ) → length xs ≤ n → ((m : ℕ) → m < n → P (get_or xs m 0)) → (x : ℕ) → IsIn x xs → P x
each-item P xs n long each x h =
    let within = slice_get_within xs h.place x h.here in
    subst P (get_or_from_slice_get xs h.place x 0 h.here) (each h.place (omega (arith, within, long)))

-- and of one more
pub each-more : (P : ℕ → Type 0) (xs : List ℕ) (i : ℕ) → ((m : ℕ) → m < i → P (get_or xs m 0)) → P (get_or xs i 0) → (m : ℕ) → m < i + 1 → P (get_or xs m 0)
each-more P xs i each one m less = elim (cases_eq m i) [
  | inl last ↦ subst (λ (n : ℕ). P (get_or xs n 0)) (sym last) one
  | inr other ↦ each m (omega (arith, less, other))
]

none-in : {X : Type 0} (x : X) → IsIn x [] → ⊥
none-in x h = none-some x h.here

-- ---- one more user of a class
pub users-now : (users : List (List ℕ)) (class : ℕ) (old : List ℕ) → class < length users → old ≡ get_or users class old → old ≡ users_at users class
users-now users class old within is = is ∙ same_Some (get_or users class old) (users_at users class) (sym (slice_get-get_or users class old within) ∙ slice_get-get_or users class [] within)

module _ (users : List (List ℕ)) (class number : ℕ) (old new : List ℕ) (within : class < length users) (old_is : old ≡ get_or users class old) (added : IsAdded number old new) where
  users-new : users_at (set users class new) class ≡ new
  users-new = get_or-set_same users class new [] within

  pub user-here : IsIn number (users_at (set users class new) class)
  user-here = subst (λ (ns : List ℕ). IsIn number ns) (sym users-new) added.here

  pub user-still : StillUse users (set users class new)
  user-still other k h = elim (cases_eq other class) [
    | inl same ↦
        let there : IsIn k (users_at users class) = subst (λ (m : ℕ). IsIn k (users_at users m)) same h in
        subst (λ (m : ℕ). IsIn k (users_at (set users class new) m)) (sym same)
        (subst (λ (ns : List ℕ). IsIn k ns) (sym users-new) (added.still k (subst (λ (ns : List ℕ). IsIn k ns) (sym (users-now users class old within old_is)) there)))
    | inr differ ↦ subst (λ (ns : List ℕ). IsIn k ns) (sym (get_or-set_other users class other new [] differ)) h
  ]

-- ---- after one edge more
module _ (s t : State) (e : Edge) (is : t ≡ pushed s e) where
  last-is : last_time t ≡ length s.edges
  last-is = omega (arith, ap (λ (x : State). length x.edges) is, length_push s.edges e)

  before-is : (i : ℕ) → label_at t.edges (last_time t) i ≡ label_now s i
  before-is i =
      ap (λ (n : ℕ). label_at t.edges n i) last-is ∙ ap (λ (x : State). label_at x.edges (length s.edges) i) is ∙ label_at-push s.edges e (length s.edges) i (omega arith)

  now-is : (i : ℕ) → label_now t i ≡ label_at t.edges (last_time t + 1) i
  now-is i = ap (λ (n : ℕ). label_at t.edges n i) (omega (arith, last-is, ap (λ (x : State). length x.edges) is, length_push s.edges e))

  pub moved-label : (i : ℕ) → label_now s i ≡ hung t → label_now t i ≡ above t
  moved-label i hit = now-is i ∙ after-hit t.edges (last_time t) i (before-is i ∙ hit)

  pub same-label : (i : ℕ) → (label_now s i ≡ hung t → ⊥) → label_now t i ≡ label_now s i
  same-label i other = now-is i ∙ after-other t.edges (last_time t) i (λ hit. other (sym (before-is i) ∙ hit)) ∙ before-is i

  -- the labels are as they were, but for those of a class that was hung under another one
  labels-kept : (places : List ℕ) → (map (label_now t) places ≡ map (label_now s) places) ⊎ ((place : ℕ) × IsIn place places × (label_now s place ≡ hung t))
  labels-kept [] = inl refl
  labels-kept (place ∷ places) = elim (cases_eq (label_now s place) (hung t)) [
    | inl hit ↦ inr (place, record { place = 0; here = refl }, hit)
    | inr other ↦ elim (labels-kept places) [
      | inl kept ↦ inl (ap (λ m. m ∷ map (label_now t) places) (same-label place other) ∙ ap (λ ms. label_now s place ∷ ms) kept)
      | inr found ↦ inr (found.0, record { place = suc found.1.place; here = found.1.here }, found.2)
    ]
  ]

  -- the signatures that calls had before the edge
  signature-before : (c : Call) → signature (label_at t.edges (last_time t)) c ≡ signature (label_now s) c
  signature-before c = signature-agree (label_at t.edges (last_time t)) (label_now s) c before-is

  module _ (calls : List Call) (before after : Agenda) (woken : IsWoken calls t before after) where
    still-used : (number : ℕ) (c : Call) → Uses (label_now s) before.users.items number c → Uses (label_now t) after.users.items number c
    still-used number c uses place place_in = elim (cases_eq (label_now s place) (hung t)) [
      | inl hit ↦
          let moves = woken.moves number (subst (λ (m : ℕ). IsIn number (users_at before.users.items m)) hit (uses place place_in)) in
          subst (λ (m : ℕ). IsIn number (users_at after.users.items m)) (sym (moved-label place hit)) moves
      | inr other ↦ subst (λ (m : ℕ). IsIn number (users_at after.users.items m)) (sym (same-label place other)) (woken.still (label_now s place) number other (uses place place_in))
    ]

    pub all-use : EachUses (label_now s) before.users.items calls → EachUses (label_now t) after.users.items calls
    all-use uses number c at = still-used number c (uses number c at)

    module _ (look look_after : Signature → Option ℕ) (forgotten : IsForgotten t look look_after) where
      leads-still : (c : Call) → signature (label_now t) c ≡ signature (label_now s) c → Finds s t look c → Leads t look_after c
      leads-still c same finds = (finds.0, forgotten.still c ∙ ap look same ∙ finds.1, finds.2)

      waits-or-leads : (number : ℕ) (c : Call) → slice_get calls number ≡ Some c → Uses (label_now s) before.users.items number c → Finds s t look c → IsIn number after.waiting ⊎ Leads t look_after c
      waits-or-leads number c at uses finds = elim (labels-kept c.arguments) [
        | inl kept ↦ inr (leads-still c (ap (λ (ms : List ℕ). record { symbol = c.symbol; classes = ms }) kept) finds)
        | inr found ↦ elim (woken.waits number c (subst (λ (m : ℕ). IsIn number (users_at before.users.items m)) found.2 (uses found.0 found.1)) at) [
          | inl waits ↦ inl waits
          | inr keeps ↦ inr (leads-still c (sym keeps ∙ signature-before c) finds)
        ]
      ]

      pub all-settled : EachUses (label_now s) before.users.items calls → AreAlmostSettled calls before.waiting s t look → AreSettled calls after.waiting t look_after
      all-settled uses almost number c at = elim (almost number c at) [
        | inl waits ↦ inl (woken.others number waits)
        | inr finds ↦ waits-or-leads number c at (uses number c at) finds
      ]

-- ---- one call is looked at
pub looked-none : (calls : List Call) (number : ℕ) (s : State) (look : Signature → Option ℕ) → IsState s → IsKnown s.values s look → slice_get calls number ≡ None → IsLooked calls number s s look look false
looked-none calls number s look state known none = record {
  progress = progress-none s.values s state;
  known = known;
  pushes = λ e. absurd (true≢false (sym e));
  stays = λ e. refl;
  kept = λ g place at. at;
  finds = λ c at. absurd (none-some c (sym none ∙ at));
}

pub looked-step : (calls : List Call) (number : ℕ) (c : Call) (s t : State) (look_before look_after : Signature → Option ℕ) (joined : Bool) → slice_get calls number ≡ Some c
    → IsStep c s t look_before look_after joined → IsLooked calls number s t look_before look_after joined
looked-step calls number c s t look_before look_after joined at step = record {
  progress = step.progress;
  known = step.known;
  pushes = step.pushes;
  stays = step.stays;
  kept = step.kept;
  finds = λ d there. subst (λ (x : Call). Finds s t look_after x) (same_Some c d (sym at ∙ there)) step.finds;
}

module _ (calls : List Call) (number : ℕ) (waiting rest : List ℕ) (is : waiting ≡ number ∷ rest) (s t : State) (look_before look_after : Signature → Option ℕ) (joined : Bool)
    (looked : IsLooked calls number s t look_before look_after joined) (settled : AreSettled calls waiting s look_before) where
  finds-still : (c : Call) → Leads s look_before c → Finds s t look_after c
  finds-still c leads = (leads.0, looked.kept (signature (label_now s) c) leads.0 leads.1, looked.progress.joins leads.0 c.place leads.2)

  almost : AreAlmostSettled calls rest s t look_after
  almost k c at = elim (settled k c at) [
    | inl waits ↦ elim (in-cons number rest k (subst (λ (ns : List ℕ). IsIn k ns) is waits)) [
      | inl first ↦ inr (looked.finds c (ap (λ (n : ℕ). slice_get calls n) (sym first) ∙ at))
      | inr there ↦ inl there
    ]
    | inr leads ↦ inr (finds-still c leads)
  ]

  -- where nothing was joined, the others are settled
  pub rest-settled : joined ≡ false → AreSettled calls rest t look_after
  rest-settled apart = subst (λ (x : State). AreAlmostSettled calls rest x t look_after) (sym (looked.stays apart)) almost

  pub next-joined : joined ≡ true → IsNext calls s t rest look_after true
  next-joined grew = record {
    progress = looked.progress;
    known = looked.known;
    joins = λ e. let h = looked.pushes grew in (h.0, h.1, almost);
    settled = λ e. absurd (true≢false e);
  }

-- ---- none is left
pub next-none : (calls : List Call) (s t : State) (rest : List ℕ) (look : Signature → Option ℕ) → IsState s → t ≡ s → IsKnown t.values t look → AreSettled calls [] t look → IsNext calls s t rest look false
next-none calls s t rest look state is known settled = record {
  progress = subst (λ (x : State). IsProgress s.values s x) (sym is) (progress-none s.values s state);
  known = known;
  joins = λ e. absurd (true≢false (sym e));
  settled = λ e. settled;
}

pub each-leads : (calls : List Call) (s : State) (look : Signature → Option ℕ) → AreSettled calls [] s look → (k : ℕ) (c : Call) → slice_get calls k ≡ Some c → Leads s look c
each-leads calls s look settled k c at = elim (settled k c at) [
  | inl waits ↦ absurd (none-in k waits)
  | inr leads ↦ leads
]
