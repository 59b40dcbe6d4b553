-- Calls with the same arguments, found by signatures, and what joining one of them keeps.
use Rattle.std.proofs.Common.{◌≡◌, ℕ, suc, ◌<◌, ◌≤◌, List, [], ◌∷◌, map, drop, length, get_or, inl, inr, refl, ap, sym, ◌∙◌, subst, arith, eq-eqb}
use Rattle.std.specs.Prelude.{Bool, true, false, ◌&&◌, cond, Option, Some, None, slice_get}
use Rattle.std.proofs.lemmas.Bool.{cases_Bool, true≢false, eqb-true}
use Rattle.std.proofs.lemmas.Option.{same_Some, none-some, slice_get-map, slice_get_within, slice_get-get_or}
use Rattle.std.proofs.lemmas.List.{length-map, length_push}
use Rattle.std.specs.Option.{option_map}
use Rattle.std.specs.Cmp.Lexicographic.{bytes_decides}
use Rattle.u_terms.specs.Syntax.{U, Val}
use Rattle.u_terms.specs.declared.term.Val.TheVariants as v
use Rattle.u_terms.specs.declared.term.U.TheOpen.{Val-F}
use Rattle.u_terms.specs.declared.term.U.TheViews.{out-Val, out-roll-Val, rolls-Fun}
use Rattle.u_equal.specs.declared.calls.Call.{Call}
use Rattle.u_equal.specs.declared.calls.Signature.{Signature}
use Rattle.u_equal.specs.declared.forest.Edge.{Edge}
use Rattle.u_equal.specs.declared.forest.Reason.TheVariants.{Called}
use Rattle.u_equal.specs.Standing.{IsIn}
use Rattle.u_equal.specs.Joined.{label_at, label_now, FirstAt, Same, SameEach, AreCalls, State, IsState, IsMoved, IsProgress, HoldsCalls, pushed}
use Rattle.u_equal.specs.Agendas.{IsForgotten}
use Rattle.u_equal.specs.Tables.{ArePlaces, IsCall, AreCallsOf, same_signature, signature, IsKnown, Leads, IsStep}
use Rattle.u_equal.proofs.edges.Labels.{label_at-push, label_at-later, first-unique}
use Rattle.u_equal.proofs.edges.Reaches.{idem}
use Rattle.u_equal.proofs.edges.Moves.{moved-by, moved-values, moved-state, moved-edges, moved-joins, moved-grows, moved-pushes, moved-same, moved-stays}

-- ---- progress
pub progress-none : (calls : List Val) (s : State) → IsState s → IsProgress calls s s
progress-none calls s state = record { values = refl; state = state; edges_hold = λ factors h. h; joins = λ i j h. h; grows = omega arith; quiet = λ none. omega arith }

pub progress-through : (calls : List Val) (s t w : State) → IsProgress calls s t → IsProgress calls t w → IsProgress calls s w
progress-through calls s t w p q = record {
  values = q.values ∙ p.values;
  state = q.state;
  edges_hold = λ factors h. q.edges_hold factors (p.edges_hold factors h);
  joins = λ i j h. q.joins i j (p.joins i j h);
  grows = omega (arith, p.grows, q.grows);
  quiet = λ none. omega (arith, p.quiet none, q.quiet none);
}

-- ---- the parts of calls
abbrev symbol_of : Val-F U Val → ℕ
symbol_of (Val-F.Fun i vs) = i
symbol_of _ = 0

abbrev arguments_of : Val-F U Val → List Val
arguments_of (Val-F.Fun i vs) = vs
arguments_of _ = []

pub parts-Fun : (i j : ℕ) (a c : List Val) → v.Fun i a ≡ v.Fun j c → (i ≡ j) × (a ≡ c)
parts-Fun i j a c h =
    let e : Val-F.Fun i a ≡ Val-F.Fun j c = sym (out-roll-Val (Val-F.Fun i a)) ∙ ap out-Val (rolls-Fun i a ∙ h ∙ sym (rolls-Fun j c)) ∙ out-roll-Val (Val-F.Fun j c) in
    (ap symbol_of e, ap arguments_of e)

-- ---- signatures
both-true : (b c : Bool) → (b && c) ≡ true → (b ≡ true) × (c ≡ true)
both-true true c h = (refl, h)
both-true false c h = absurd (true≢false (sym h))

pub signatures-one : (g h : Signature) → same_signature g h ≡ true → g ≡ h
signatures-one g h same =
    let p = both-true _ _ same in
    ap (λ (m : ℕ). record { symbol = m; classes = g.classes }) (eqb-true g.symbol h.symbol p.0)
    ∙ ap (λ (ms : List ℕ). record { symbol = h.symbol; classes = ms }) ((bytes_decides g.classes h.classes).0 p.1)

pub signature-own : (g : Signature) → same_signature g g ≡ true
signature-own g = rw (eq-eqb g.symbol g.symbol refl) ((bytes_decides g.classes g.classes).1 refl)

-- labels of one list at each place
map-agree : (f g : ℕ → ℕ) (ns : List ℕ) → ((i : ℕ) → f i ≡ g i) → map f ns ≡ map g ns
map-agree f g [] agree = refl
map-agree f g (n ∷ ns) agree = ap (λ m. m ∷ map f ns) (agree n) ∙ ap (λ ms. g n ∷ ms) (map-agree f g ns agree)

pub signature-agree : (f g : ℕ → ℕ) (c : Call) → ((i : ℕ) → f i ≡ g i) → signature f c ≡ signature g c
signature-agree f g c agree = ap (λ (ms : List ℕ). record { symbol = c.symbol; classes = ms }) (map-agree f g c.arguments agree)

-- what a list has at a place, in a list of labels
label-in : (f g : ℕ → ℕ) (ms ns : List ℕ) (k p q : ℕ) → map f ms ≡ map g ns → slice_get ms k ≡ Some p → slice_get ns k ≡ Some q → f p ≡ g q
label-in f g ms ns k p q same at_p at_q =
    same_Some (f p) (g q)
    (sym (slice_get-map f ms k ∙ ap (λ o. option_map f o) at_p) ∙ ap (λ (xs : List ℕ). slice_get xs k) same ∙ slice_get-map g ns k ∙ ap (λ o. option_map g o) at_q)

item : {X : Type 0} (xs : List X) (k : ℕ) (d : X) → k < length xs → slice_get xs k ≡ Some (get_or xs k d)
item xs k d within = slice_get-get_or xs k d within

module _ (s : State) (state : IsState s) where
  -- places with one label then and now are joined now
  late : (time p q : ℕ) → time ≤ length s.edges → label_at s.edges time p ≡ label_now s q → label_now s p ≡ label_now s q
  late time p q within same =
      label_at-later s.edges time (length s.edges) p (label_at s.edges time p) within
      (sym (idem s.values s.edges time (λ j less. state j (omega (arith, less, within))) p))
      ∙ ap (label_now s) same ∙ idem s.values s.edges (length s.edges) state q

  -- calls with one signature then and now are calls with the same arguments
  pub calls-known : (c d : Call) (time : ℕ) (is_c : IsCall s.values c) (is_d : IsCall s.values d) → time ≤ length s.edges → signature (label_at s.edges time) c ≡ signature (label_now s) d
      → AreCalls s.values (label_now s) (v.Fun c.symbol is_c.from) (v.Fun d.symbol is_d.from)
  calls-known c d time is_c is_d within same = record {
    symbol = c.symbol;
    from = is_c.from;
    to = is_d.from;
    is_from = refl;
    is_to = ap (λ (m : ℕ). v.Fun m is_d.from) (sym (ap (λ (g : Signature). g.symbol) same));
    each = record {
      long = sym is_c.arguments.0 ∙ sym (length-map c.arguments (label_at s.edges time)) ∙ ap (λ (g : Signature). length g.classes) same ∙ length-map d.arguments (label_now s) ∙ is_d.arguments.0;
      each = each-same;
    };
  }
    where
      each-same : (k : ℕ) (a b : Val) → slice_get is_c.from k ≡ Some a → slice_get is_d.from k ≡ Some b → Same s.values (label_now s) a b
      each-same k a b at_a at_b =
          let one : k < length is_c.from = slice_get_within is_c.from k a at_a in
          let two : k < length is_d.from = slice_get_within is_d.from k b at_b in
          let at_p = item c.arguments k 0 (omega (arith, one, is_c.arguments.0)) in
          let at_q = item d.arguments k 0 (omega (arith, two, is_d.arguments.0)) in
          inr (record {
            left = get_or c.arguments k 0;
            right = get_or d.arguments k 0;
            is_left = is_c.arguments.1 k a (get_or c.arguments k 0) at_a at_p;
            is_right = is_d.arguments.1 k b (get_or d.arguments k 0) at_b at_q;
            joined = late time (get_or c.arguments k 0) (get_or d.arguments k 0) within
                (label-in (label_at s.edges time) (label_now s) c.arguments d.arguments k (get_or c.arguments k 0) (get_or d.arguments k 0) (ap (λ (g : Signature). g.classes) same) at_p at_q);
          })

  late-each : (time : ℕ) (ps qs : List ℕ) → time ≤ length s.edges → map (label_at s.edges time) ps ≡ map (label_now s) qs → map (label_now s) ps ≡ map (label_now s) qs
  late-each time [] qs within same = same
  late-each time (p ∷ ps) [] within same = absurd (omega (arith, ap length same))
  late-each time (p ∷ ps) (q ∷ qs) within same =
      ap (λ (m : ℕ). m ∷ map (label_now s) ps) (late time p q within (ap (λ (ms : List ℕ). get_or ms 0 0) same))
      ∙ ap (λ (ms : List ℕ). label_now s q ∷ ms) (late-each time ps qs within (ap (λ (ms : List ℕ). drop 1 ms) same))

  -- and have one signature now
  late-signature : (c d : Call) (time : ℕ) → time ≤ length s.edges → signature (label_at s.edges time) c ≡ signature (label_now s) d → signature (label_now s) c ≡ signature (label_now s) d
  late-signature c d time within same =
      ap (λ (m : ℕ). record { symbol = m; classes = map (label_now s) c.arguments }) (ap (λ (g : Signature). g.symbol) same)
      ∙ ap (λ (ms : List ℕ). record { symbol = d.symbol; classes = ms }) (late-each time c.arguments d.arguments within (ap (λ (g : Signature). g.classes) same))

  -- a signature that a call had before and has no more is that of no call now, so it may be forgotten
  pub forgets : (c : Call) (time : ℕ) (g : Signature) (look look_after : Signature → Option ℕ) → time ≤ length s.edges → g ≡ signature (label_at s.edges time) c
      → same_signature g (signature (label_now s) c) ≡ false → ((q : Signature) → look_after q ≡ cond (same_signature g q) None (look q)) → IsForgotten s look look_after
  forgets c time g look look_after within is differs after_is = record {
    still = λ d. elim (cases_Bool (same_signature g (signature (label_now s) d))) [
      | inl met ↦
          let now = late-signature c d time within (sym is ∙ signatures-one g (signature (label_now s) d) met) in
          absurd (true≢false (sym (ap (λ (q : Signature). same_signature g q) now ∙ met) ∙ differs))
      | inr unmet ↦ after_is (signature (label_now s) d) ∙ rw unmet refl
    ];
    only = λ q place at. elim (cases_Bool (same_signature g q)) [
      | inl met ↦ absurd (none-some place (sym (after_is q ∙ rw met refl) ∙ at))
      | inr unmet ↦ sym (after_is q ∙ rw unmet refl) ∙ at
    ];
  }

pub forgets-none : (s : State) (look : Signature → Option ℕ) → IsForgotten s look look
forgets-none s look = record { still = λ c. refl; only = λ g place at. at }

pub forgets-through : (s : State) (one two three : Signature → Option ℕ) → IsForgotten s one two → IsForgotten s two three → IsForgotten s one three
forgets-through s one two three p q = record {
  still = λ c. q.still c ∙ p.still c;
  only = λ g place at. p.only g place (q.only g place at);
}

pub known-less : (values : List Val) (s t : State) (look look_after : Signature → Option ℕ) → IsKnown values s look → IsForgotten t look look_after → IsKnown values s look_after
known-less values s t look look_after known forgotten g place at = known g place (forgotten.only g place at)

-- the places of values that are the same have one label
same-labels : (values : List Val) (label : ℕ → ℕ) (a b : Val) (p q : ℕ) → FirstAt values a p → FirstAt values b q → Same values label a b → label p ≡ label q
same-labels values label a b p q first_a first_b (inl is) = ap label (first-unique values b p q (subst (λ (x : Val). FirstAt values x p) is first_a) first_b)
same-labels values label a b p q first_a first_b (inr j) =
    ap label (first-unique values a p j.left first_a j.is_left) ∙ j.joined ∙ ap label (first-unique values b j.right q j.is_right first_b)

-- lists of one length with the same item at each place
lists-same : (ms ns : List ℕ) → length ms ≡ length ns → ((k m n : ℕ) → slice_get ms k ≡ Some m → slice_get ns k ≡ Some n → m ≡ n) → ms ≡ ns
lists-same [] [] long each = refl
lists-same [] (n ∷ ns) long each = absurd (omega (arith, long))
lists-same (m ∷ ms) [] long each = absurd (omega (arith, long))
lists-same (m ∷ ms) (n ∷ ns) long each =
    ap (λ x. x ∷ ms) (each 0 m n refl refl) ∙ ap (λ xs. n ∷ xs) (lists-same ms ns (omega (arith, long)) (λ k x y at_x at_y. each (suc k) x y at_x at_y))

mapped-item : (f : ℕ → ℕ) (ns : List ℕ) (k m : ℕ) → slice_get (map f ns) k ≡ Some m → f (get_or ns k 0) ≡ m
mapped-item f ns k m at =
    let within : k < length ns = let h = slice_get_within (map f ns) k m at in omega (arith, h, length-map ns f) in
    same_Some (f (get_or ns k 0)) m (sym (slice_get-map f ns k ∙ ap (λ o. option_map f o) (slice_get-get_or ns k 0 within)) ∙ at)

labels-same : (values : List Val) (label : ℕ → ℕ) (xs ys : List Val) (ms ns : List ℕ) → ArePlaces values xs ms → ArePlaces values ys ns → SameEach values label xs ys → map label ms ≡ map label ns
labels-same values label xs ys ms ns at_xs at_ys same =
    lists-same (map label ms) (map label ns) (length-map ms label ∙ at_xs.0 ∙ same.long ∙ sym at_ys.0 ∙ sym (length-map ns label))
    (λ k m n at_m at_n. sym (mapped-item label ms k m at_m) ∙ each k m n at_m at_n ∙ mapped-item label ns k n at_n)
  where
    each : (k m n : ℕ) → slice_get (map label ms) k ≡ Some m → slice_get (map label ns) k ≡ Some n → label (get_or ms k 0) ≡ label (get_or ns k 0)
    each k m n at_m at_n =
        let one : k < length ms = let h = slice_get_within (map label ms) k m at_m in omega (arith, h, length-map ms label) in
        let two : k < length ns = let h = slice_get_within (map label ns) k n at_n in omega (arith, h, length-map ns label) in
        value-each k one two (get_or xs k (v.Lit 0)) (get_or ys k (v.Lit 0)) (slice_get-get_or xs k (v.Lit 0) (omega (arith, one, at_xs.0))) (slice_get-get_or ys k (v.Lit 0) (omega (arith, two, at_ys.0)))
      where
        value-each : (k : ℕ) → k < length ms → k < length ns → (a b : Val) → slice_get xs k ≡ Some a → slice_get ys k ≡ Some b → label (get_or ms k 0) ≡ label (get_or ns k 0)
        value-each k one two a b at_a at_b =
            same-labels values label a b (get_or ms k 0) (get_or ns k 0) (at_xs.1 k a (get_or ms k 0) at_a (slice_get-get_or ms k 0 one)) (at_ys.1 k b (get_or ns k 0) at_b (slice_get-get_or ns k 0 two))
            (same.each k a b at_a at_b)

-- ---- where each call was looked at, nothing is left to be joined
module _ (values : List Val) (calls : List Call) (s : State) (look : Signature → Option ℕ) (values_are : s.values ≡ values) (are : AreCallsOf values calls)
    (lead : (k : ℕ) (c : Call) → slice_get calls k ≡ Some c → Leads s look c) where
  call-of : (f : ℕ) (xs : List Val) → IsIn (v.Fun f xs) values → (c : Call) × (h : IsCall values c) × Leads s look c × (c.symbol ≡ f) × (h.from ≡ xs)
  call-of f xs h =
      let found = are.all h.place f xs h.here in
      let c = found.1 in
      let is : IsCall values c = are.are found.0 c found.2 in
      let same = parts-Fun c.symbol f is.from xs
      (same_Some (v.Fun c.symbol is.from) (v.Fun f xs) (sym is.here.here ∙ ap (λ m. slice_get values m) found.3 ∙ h.here)) in
      (c, is, lead found.0 c found.2, same.0, same.1)

  one-class : (c d : Call) → Leads s look c → Leads s look d → signature (label_now s) c ≡ signature (label_now s) d → label_now s c.place ≡ label_now s d.place
  one-class c d to_c to_d same =
      let place : to_c.0 ≡ to_d.0 = same_Some to_c.0 to_d.0 (sym to_c.1 ∙ ap look same ∙ to_d.1) in
      sym to_c.2 ∙ ap (label_now s) place ∙ to_d.2

  pub all-closed : HoldsCalls values values (label_now s)
  all-closed a b a_in b_in calls =
      let c = call-of calls.symbol calls.from (subst (λ (x : Val). IsIn x values) calls.is_from a_in) in
      let d = call-of calls.symbol calls.to (subst (λ (x : Val). IsIn x values) calls.is_to b_in) in
      let same_classes = labels-same values (label_now s) c.1.from d.1.from c.0.arguments d.0.arguments c.1.arguments d.1.arguments
      (subst (λ (xs : List Val). SameEach values (label_now s) xs d.1.from) (sym c.4) (subst (λ (ys : List Val). SameEach values (label_now s) calls.from ys) (sym d.4) calls.each)) in
      let same_signatures : signature (label_now s) c.0 ≡ signature (label_now s) d.0 =
      ap (λ (m : ℕ). record { symbol = m; classes = map (label_now s) c.0.arguments }) (c.3 ∙ sym d.3) ∙ ap (λ (ms : List ℕ). record { symbol = d.0.symbol; classes = ms }) same_classes in
      let is_a : a ≡ v.Fun c.0.symbol c.1.from = calls.is_from ∙ ap (λ (m : ℕ). v.Fun m calls.from) (sym c.3) ∙ ap (λ (xs : List Val). v.Fun c.0.symbol xs) (sym c.4) in
      let is_b : b ≡ v.Fun d.0.symbol d.1.from = calls.is_to ∙ ap (λ (m : ℕ). v.Fun m calls.to) (sym d.3) ∙ ap (λ (xs : List Val). v.Fun d.0.symbol xs) (sym d.4) in
      inr (record {
        left = c.0.place;
        right = d.0.place;
        is_left = subst (λ (x : Val). FirstAt values x c.0.place) (sym is_a) c.1.here;
        is_right = subst (λ (x : Val). FirstAt values x d.0.place) (sym is_b) d.1.here;
        joined = one-class c.0 d.0 c.2 d.2 same_signatures;
      })

-- ---- one call
module _ (s : State) (state : IsState s) (call : Call) (is_call : IsCall s.values call) (look : Signature → Option ℕ) (known : IsKnown s.values s look) (g : Signature) (g_is : g ≡ signature (label_now s) call) where
  -- what was known is known after an edge more
  known-pushed : (e : Edge) → IsKnown s.values (pushed s e) look
  known-pushed e h place at =
      let k = known h place at in (
        k.0,
        k.1,
        k.2,
        k.3,
        omega (arith, k.4, length_push s.edges e),
        k.5 ∙ signature-agree (label_at s.edges k.1) (label_at (pushed s e).edges k.1) k.0 (λ i. sym (label_at-push s.edges e k.1 i k.4)),
      )

  pub step-joined : (t : State) (other : ℕ) (joined : Bool) → look g ≡ Some other → IsMoved other call.place Called s t joined → IsStep call s t look look joined
  step-joined t other joined at m =
      let k = known g other at in
      let first : slice_get s.values other ≡ Some (v.Fun k.0.symbol k.2.from) = subst (λ (p : ℕ). slice_get s.values p ≡ Some (v.Fun k.0.symbol k.2.from)) k.3 k.2.here.here in
      let are_calls = calls-known s state k.0 call k.1 k.2 is_call k.4 (sym k.5 ∙ g_is) in
      let one : IsIn (v.Fun k.0.symbol k.2.from) s.values = record { place = other; here = first } in
      let two : IsIn (v.Fun call.symbol is_call.from) s.values = record { place = call.place; here = is_call.here.here } in
      record {
        progress = record {
          values = moved-values s other call.place Called t joined m;
          state = moved-state s other call.place Called (v.Fun k.0.symbol k.2.from) (v.Fun call.symbol is_call.from) first is_call.here.here t joined m state (λ is. are_calls);
          edges_hold = λ factors h.
              moved-edges s other call.place Called (v.Fun k.0.symbol k.2.from) (v.Fun call.symbol is_call.from) first is_call.here.here t joined m factors s.values (one, two, are_calls) h;
          joins = moved-joins s other call.place Called t joined m;
          grows = moved-grows s other call.place Called t joined m;
          quiet = λ none. absurd (none call.symbol is_call.from two);
        };
        known = moved-by s other call.place Called (λ x. IsKnown x.values x look) t joined (λ same. known) (λ apart. known-pushed _) (λ apart. known-pushed _) m;
        pushes = moved-pushes s other call.place Called t joined m;
        stays = λ e. let h = moved-stays s other call.place Called t joined m e in h.1;
        kept = λ q place there. there;
        finds = (other, ap look (sym g_is) ∙ at, moved-same s other call.place Called t joined m);
      }

  module _ (look_after : Signature → Option ℕ) (after_is : (q : Signature) → look_after q ≡ cond (same_signature g q) (Some call.place) (look q)) (none : look g ≡ None) where
    at-own : look_after g ≡ Some call.place
    at-own = after_is g ∙ rw (signature-own g) refl

    at-other : (q : Signature) → same_signature g q ≡ false → look_after q ≡ look q
    at-other q unmet = after_is q ∙ rw unmet refl

    known-more : IsKnown s.values s look_after
    known-more q place at = elim (cases_Bool (same_signature g q)) [
      | inl met ↦
          let one = signatures-one g q met in
          (call, length s.edges, is_call, same_Some call.place place (sym at-own ∙ ap look_after one ∙ at), omega arith, sym one ∙ g_is)
      | inr unmet ↦ known q place (sym (at-other q unmet) ∙ at)
    ]

    kept : (q : Signature) (place : ℕ) → look q ≡ Some place → look_after q ≡ Some place
    kept q place at = elim (cases_Bool (same_signature g q)) [
      | inl met ↦ absurd (none-some place (sym none ∙ ap look (signatures-one g q met) ∙ at))
      | inr unmet ↦ at-other q unmet ∙ at
    ]

    pub step-known : IsStep call s s look look_after false
    step-known = record {
      progress = progress-none s.values s state;
      known = known-more;
      pushes = λ e. absurd (true≢false (sym e));
      stays = λ e. refl;
      kept = kept;
      finds = (call.place, ap look_after (sym g_is) ∙ at-own, refl);
    }
