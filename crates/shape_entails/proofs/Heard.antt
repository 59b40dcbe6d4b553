-- What the second walk has heard of equalities, outputs and marks.
use Rattle.std.proofs.Common.{◌≡◌, ℕ, zero, suc, ◌⊎◌, inl, inr, List, [], ◌∷◌, ◌++◌, map, Some, None, refl, ap, sym, ◌∙◌, subst}
use Rattle.std.specs.Prelude.{slice_get, slice_set, option_map}
use Rattle.std.proofs.lemmas.List.{map-append}
use Rattle.std.proofs.lemmas.Option.{same_Some, none-some}
use Rattle.u_terms.specs.Syntax.{U, Val, Free}
use Rattle.u_terms.specs.declared.term.Val.TheVariants as v
use Rattle.u_rules.specs.Terms.{◌≐◌, R, neg}
use Rattle.u_equal.specs.Standing.{IsIn}
use Rattle.u_equal.proofs.products.Members.{in-none, in-left, in-last, in-push}
use Rattle.shapes.specs.Options.{both_of}
use Rattle.shapes.specs.Shapes.{Point, Kind, holds, fails, differ, Mark, MarkIn, here, there}
use Rattle.shapes.specs.Alike.{Given, given_first, given_later}
use Rattle.term_shapes.specs.Factors.{Factor, atom, equality, difference, truth, falsehood, other}
use Rattle.term_shapes.specs.TermShape.{folded, Points, pointed, value_point, value_points, Said, nothing_said, with_equality, with_mark, with_outputs, said_output, said_equality, said_difference, said_mark, with_factor, all_points}
use Rattle.shape_entails.specs.Values.{value_in, mark_term, mark_in}
use Rattle.shape_entails.proofs.Leaves.{term_of, IsKnown, AreKnown}
use Rattle.term_shapes.proofs.Walked.{map-some, then-some, both-some, pointed-written}
use Rattle.shape_entails.proofs.Walks.{folded-keeps, set-cases, set-same, set-other, none-there}

-- ---- equalities and marks, one more at the end
given-more : (es more : List (Point × Point)) (p q : Point) → Given es p q → Given (es ++ more) p q
given-more es more p q (given_first {e = d} {es = rest}) = given_first
given-more es more p q (given_later {e = d} {es = rest} {p = a} {q = b} g) = given_later (given-more rest more a b g)

given-last : (es : List (Point × Point)) (p q : Point) → Given (es ++ (p, q) ∷ []) p q
given-last [] p q = given_first
given-last (e ∷ es) p q = given_later (given-last es p q)

given-push : (es : List (Point × Point)) (p q a b : Point) → Given (es ++ (p, q) ∷ []) a b → Given es a b ⊎ ((p ≡ a) × (q ≡ b))
given-push [] p q a b given_first = inr (refl, refl)
given-push [] p q a b (given_later g) = elim g [ ]
given-push (e ∷ es) p q a b given_first = inl given_first
given-push (e ∷ es) p q a b (given_later g) = elim (given-push es p q a b g) [ inl k ↦ inl (given_later k) | inr k ↦ inr k ]

given-none : (p q : Point) → Given [] p q → ⊥
given-none p q g = elim g [ ]

mark-more : (ms more : List Mark) (m : Mark) → MarkIn m ms → MarkIn m (ms ++ more)
mark-more [] more m i = elim i [ ]
mark-more (n ∷ ms) more m here = here
mark-more (n ∷ ms) more m (there i) = there (mark-more ms more m i)

mark-last : (ms : List Mark) (m : Mark) → MarkIn m (ms ++ m ∷ [])
mark-last [] m = here
mark-last (n ∷ ms) m = there (mark-last ms m)

mark-push : (ms : List Mark) (n m : Mark) → MarkIn m (ms ++ n ∷ []) → MarkIn m ms ⊎ (n ≡ m)
mark-push [] n m here = inr refl
mark-push [] n m (there i) = elim i [ ]
mark-push (o ∷ ms) n m here = inl here
mark-push (o ∷ ms) n m (there i) = elim (mark-push ms n m i) [ inl k ↦ inl (there k) | inr k ↦ inr k ]

mark-none : (m : Mark) → MarkIn m [] → ⊥
mark-none m i = elim i [ ]

-- ---- what was heard
module _ (rows : List (List Val)) where
  pub data IsHeard (said : Said) : U → Type 0 where
    an_atom : (table : ℕ) (values : List Val) → IsHeard said (R table values)
    an_equality : (p q : Point) → Given said.equalities p q → IsHeard said (value_in rows p ≐ value_in rows q)
    an_output : (k : ℕ) (p : Point) → slice_get said.outputs k ≡ Some (Some p) → IsHeard said (v.Free k ≐ value_in rows p)
    a_turned : (k : ℕ) (p : Point) → slice_get said.outputs k ≡ Some (Some p) → IsHeard said (value_in rows p ≐ v.Free k)
    a_mark : (m : Mark) → MarkIn m said.marks → IsHeard said (mark_in rows m)

  pub record SaidDone (xs : List U) (said : Said) : Type 0 where
    pub equalities : (p q : Point) → Given said.equalities p q → IsIn (value_in rows p ≐ value_in rows q) xs
    pub outputs : (k : ℕ) (p : Point) → slice_get said.outputs k ≡ Some (Some p) → IsIn (v.Free k ≐ value_in rows p) xs ⊎ IsIn (value_in rows p ≐ v.Free k) xs
    pub marks : (m : Mark) → MarkIn m said.marks → IsIn (mark_in rows m) xs
    pub each : (x : U) → IsIn x xs → IsHeard said x

  nothing-done : (outs : ℕ) → SaidDone [] (nothing_said outs)
  nothing-done outs = record {
    equalities = λ p q g. absurd (given-none p q g);
    outputs = λ k p g. absurd (none-there outs k p g);
    marks = λ m i. absurd (mark-none m i);
    each = λ x i. absurd (in-none x i);
  }

  -- the last term, or what was heard before and still is
  each-more : (xs : List U) (y : U) (said more : Said) → SaidDone xs said → ((x : U) → IsHeard said x → IsHeard more x) → IsHeard more y → (x : U) → IsIn x (xs ++ y ∷ []) → IsHeard more x
  each-more xs y said more h kept new x i = elim (in-push xs y x i) [
    | inl before ↦ kept x (h.each x before)
    | inr is ↦ subst (IsHeard more) (sym is) new
  ]

  outputs-more : (xs : List U) (y : U) (k : ℕ) (p : Point) → IsIn (v.Free k ≐ value_in rows p) xs ⊎ IsIn (value_in rows p ≐ v.Free k) xs
      → IsIn (v.Free k ≐ value_in rows p) (xs ++ y ∷ []) ⊎ IsIn (value_in rows p ≐ v.Free k) (xs ++ y ∷ [])
  outputs-more xs y k p (inl i) = inl (in-left xs (y ∷ []) (v.Free k ≐ value_in rows p) i)
  outputs-more xs y k p (inr i) = inr (in-left xs (y ∷ []) (value_in rows p ≐ v.Free k) i)

  atom-heard : (xs : List U) (said : Said) (table : ℕ) (values : List Val) → SaidDone xs said → SaidDone (xs ++ R table values ∷ []) said
  atom-heard xs said table values h = record {
    equalities = λ p q g. in-left xs (R table values ∷ []) (value_in rows p ≐ value_in rows q) (h.equalities p q g);
    outputs = λ k p g. outputs-more xs (R table values) k p (h.outputs k p g);
    marks = λ m i. in-left xs (R table values ∷ []) (mark_in rows m) (h.marks m i);
    each = each-more xs (R table values) said said h (λ x g. g) (an_atom table values);
  }

  equality-heard : (xs : List U) (said : Said) (p q : Point) → SaidDone xs said → SaidDone (xs ++ (value_in rows p ≐ value_in rows q) ∷ []) (with_equality said p q)
  equality-heard xs said p q h = record {
    equalities = λ a b g. elim (given-push said.equalities p q a b g) [
      | inl before ↦ in-left xs (new ∷ []) (value_in rows a ≐ value_in rows b) (h.equalities a b before)
      | inr same ↦ subst (λ (x : U). IsIn x (xs ++ new ∷ [])) (ap (λ (o : Point). value_in rows o ≐ value_in rows q) same.0 ∙ ap (λ (o : Point). value_in rows a ≐ value_in rows o) same.1) (in-last xs new)
    ];
    outputs = λ k o g. outputs-more xs new k o (h.outputs k o g);
    marks = λ m i. in-left xs (new ∷ []) (mark_in rows m) (h.marks m i);
    each = each-more xs new said (with_equality said p q) h kept (an_equality p q (given-last said.equalities p q));
  }
    where
      new : U
      new = value_in rows p ≐ value_in rows q

      kept : (x : U) → IsHeard said x → IsHeard (with_equality said p q) x
      kept x (an_atom table values) = an_atom table values
      kept x (an_equality a b g) = an_equality a b (given-more said.equalities ((p, q) ∷ []) a b g)
      kept x (an_output k o g) = an_output k o g
      kept x (a_turned k o g) = a_turned k o g
      kept x (a_mark m i) = a_mark m i

  mark-heard : (xs : List U) (said : Said) (kind : Kind) (ps : List Point) → SaidDone xs said → SaidDone (xs ++ mark_term kind (map (value_in rows) ps) ∷ []) (with_mark said kind ps)
  mark-heard xs said kind ps h = record {
    equalities = λ a b g. in-left xs (new ∷ []) (value_in rows a ≐ value_in rows b) (h.equalities a b g);
    outputs = λ k o g. outputs-more xs new k o (h.outputs k o g);
    marks = λ m i. elim (mark-push said.marks (record { kind = kind; points = ps }) m i) [
      | inl before ↦ in-left xs (new ∷ []) (mark_in rows m) (h.marks m before)
      | inr same ↦ subst (λ (n : Mark). IsIn (mark_in rows n) (xs ++ new ∷ [])) same (in-last xs new)
    ];
    each = each-more xs new said (with_mark said kind ps) h kept (a_mark (record { kind = kind; points = ps }) (mark-last said.marks (record { kind = kind; points = ps })));
  }
    where
      new : U
      new = mark_term kind (map (value_in rows) ps)

      kept : (x : U) → IsHeard said x → IsHeard (with_mark said kind ps) x
      kept x (an_atom table values) = an_atom table values
      kept x (an_equality a b g) = an_equality a b g
      kept x (an_output k o g) = an_output k o g
      kept x (a_turned k o g) = a_turned k o g
      kept x (a_mark m i) = a_mark m (mark-more said.marks (record { kind = kind; points = ps } ∷ []) m i)

  -- the equality of an output's name, in either order
  abbrev IsOutput : U → ℕ → Point → Type 0
  IsOutput y name p = (y ≡ (v.Free name ≐ value_in rows p)) ⊎ (y ≡ (value_in rows p ≐ v.Free name))

  output-heard : (xs : List U) (said : Said) (y : U) (name : ℕ) (p : Point) → IsOutput y name p → slice_get said.outputs name ≡ Some None → SaidDone xs said
      → SaidDone (xs ++ y ∷ []) (with_outputs said (slice_set said.outputs name (Some p)))
  output-heard xs said y name p is had h = record {
    equalities = λ a b g. in-left xs (y ∷ []) (value_in rows a ≐ value_in rows b) (h.equalities a b g);
    outputs = λ k o g. elim (set-cases said.outputs name k (Some p) (Some o) g) [
      | inl same ↦ at k o same.0 (same_Some p o same.1) is
      | inr before ↦ outputs-more xs y k o (h.outputs k o before)
    ];
    marks = λ m i. in-left xs (y ∷ []) (mark_in rows m) (h.marks m i);
    each = each-more xs y said after h kept (new is);
  }
    where
      after : Said
      after = with_outputs said (slice_set said.outputs name (Some p))

      given : slice_get after.outputs name ≡ Some (Some p)
      given = set-same said.outputs name (Some p) None had

      new : IsOutput y name p → IsHeard after y
      new (inl e) = subst (IsHeard after) (sym e) (an_output name p given)
      new (inr e) = subst (IsHeard after) (sym e) (a_turned name p given)

      at : (k : ℕ) (o : Point) → k ≡ name → p ≡ o → IsOutput y name p → IsIn (v.Free k ≐ value_in rows o) (xs ++ y ∷ []) ⊎ IsIn (value_in rows o ≐ v.Free k) (xs ++ y ∷ [])
      at k o same point (inl e) =
          inl (subst (λ (x : U). IsIn x (xs ++ y ∷ [])) (e ∙ ap (λ (n : ℕ). v.Free n ≐ value_in rows p) (sym same) ∙ ap (λ (q : Point). v.Free k ≐ value_in rows q) point) (in-last xs y))
      at k o same point (inr e) =
          inr (subst (λ (x : U). IsIn x (xs ++ y ∷ [])) (e ∙ ap (λ (n : ℕ). value_in rows p ≐ v.Free n) (sym same) ∙ ap (λ (q : Point). value_in rows q ≐ v.Free k) point) (in-last xs y))

      stays : (k : ℕ) (o : Point) → slice_get said.outputs k ≡ Some (Some o) → slice_get after.outputs k ≡ Some (Some o)
      stays k o g = set-other said.outputs name k (Some p) (Some o) None had (none-some o) g

      kept : (x : U) → IsHeard said x → IsHeard after x
      kept x (an_atom table values) = an_atom table values
      kept x (an_equality a b g) = an_equality a b g
      kept x (an_output k o g) = an_output k o (stays k o g)
      kept x (a_turned k o g) = a_turned k o (stays k o g)
      kept x (a_mark m i) = a_mark m i

  -- ---- one factor more
  module _ (points : Points) (value_is : (x : Val) (p : Point) → value_point points x ≡ Some p → value_in rows p ≡ x) where
    values-are : (xs : List Val) (ps : List Point) → value_points points xs ≡ Some ps → map (value_in rows) ps ≡ xs
    values-are [] ps h = ap (map (value_in rows)) (sym (same_Some [] ps h))
    values-are (x ∷ xs) ps h =
        let k = both-some (λ p qs. p ∷ qs) (value_point points x) (value_points points xs) ps h in
        ap (map (value_in rows)) (sym k.is) ∙ ap (λ (y : Val). y ∷ map (value_in rows) k.y) (value_is x k.x k.left) ∙ ap (λ (ys : List Val). x ∷ ys) (values-are xs k.y k.right)

    output-step : (xs : List U) (said more : Said) (name : ℕ) (x : Val) (y : U) → ((p : Point) → value_in rows p ≡ x → IsOutput y name p) → said_output points said name x ≡ Some more → SaidDone xs said
        → SaidDone (xs ++ y ∷ []) more
    output-step xs said more name x y is h k =
        let one = then-some (λ p. option_map (with_outputs said) (pointed said.outputs name p)) (value_point points x) more h in
        let two = map-some (with_outputs said) (pointed said.outputs name one.x) more one.is in
        let w = pointed-written said.outputs two.x name one.x two.from in
        subst (SaidDone (xs ++ y ∷ [])) (ap (with_outputs said) w.is ∙ two.is) (output-heard xs said y name one.x (is one.x (value_is x one.x one.from)) w.had k)

    -- an equality of a name, or of two points
    data HowEqual (said more : Said) (a b : Val) : Type 0 where
      left_name : (name : ℕ) → v.Free name ≡ a → said_output points said name b ≡ Some more → HowEqual said more a b
      right_name : (name : ℕ) → v.Free name ≡ b → said_output points said name a ≡ Some more → HowEqual said more a b
      two_points : both_of (with_equality said) (value_point points a) (value_point points b) ≡ Some more → HowEqual said more a b

    how-equal : (said more : Said) (a b : Val) → said_equality points said a b ≡ Some more → HowEqual said more a b
    how-equal said more (Free name) b h = left_name name refl h
    how-equal said more a (Free name) h = right_name name refl h
    how-equal said more a b h = two_points h

    equality-step : (xs : List U) (said more : Said) (a b : Val) → said_equality points said a b ≡ Some more → SaidDone xs said → SaidDone (xs ++ (a ≐ b) ∷ []) more
    equality-step xs said more a b h k = at (how-equal said more a b h)
      where
        at : HowEqual said more a b → SaidDone (xs ++ (a ≐ b) ∷ []) more
        at (left_name name is g) = output-step xs said more name b (a ≐ b) (λ p e. inl (ap (λ (x : Val). x ≐ b) (sym is) ∙ ap (λ (x : Val). v.Free name ≐ x) (sym e))) g k
        at (right_name name is g) = output-step xs said more name a (a ≐ b) (λ p e. inr (ap (λ (x : Val). a ≐ x) (sym is) ∙ ap (λ (x : Val). x ≐ v.Free name) (sym e))) g k
        at (two_points g) =
            let both = both-some (with_equality said) (value_point points a) (value_point points b) more g in
            subst (λ (x : U). SaidDone (xs ++ x ∷ []) more) (ap (λ (x : Val). x ≐ value_in rows both.y) (value_is a both.x both.left) ∙ ap (λ (x : Val). a ≐ x) (value_is b both.y both.right))
            (subst (SaidDone (xs ++ (value_in rows both.x ≐ value_in rows both.y) ∷ [])) both.is (equality-heard xs said both.x both.y k))

    difference-step : (xs : List U) (said more : Said) (a b : Val) → said_difference points said a b ≡ Some more → SaidDone xs said → SaidDone (xs ++ neg (a ≐ b) ∷ []) more
    difference-step xs said more a b h k =
        let both = both-some (λ p q. with_mark said differ (p ∷ q ∷ [])) (value_point points a) (value_point points b) more h in
        subst (λ (x : U). SaidDone (xs ++ x ∷ []) more)
        (ap (λ (x : Val). neg (x ≐ value_in rows both.y)) (value_is a both.x both.left) ∙ ap (λ (x : Val). neg (a ≐ x)) (value_is b both.y both.right))
        (subst (SaidDone (xs ++ neg (value_in rows both.x ≐ value_in rows both.y) ∷ [])) both.is (mark-heard xs said differ (both.x ∷ both.y ∷ []) k))

    mark-step : (xs : List U) (said more : Said) (kind : Kind) (values : List Val) → said_mark points said kind values ≡ Some more → SaidDone xs said → SaidDone (xs ++ mark_term kind values ∷ []) more
    mark-step xs said more kind values h k =
        let one = map-some (with_mark said kind) (value_points points values) more h in
        subst (λ (vs : List Val). SaidDone (xs ++ mark_term kind vs ∷ []) more) (values-are values one.x one.from)
        (subst (SaidDone (xs ++ mark_term kind (map (value_in rows) one.x) ∷ [])) one.is (mark-heard xs said kind one.x k))

    -- the factors are known, too
    record AllDone (fs : List Factor) (said : Said) : Type 0 where
      known : AreKnown fs
      done : SaidDone (map term_of fs) said

    known-more : (fs : List Factor) (f : Factor) → AreKnown fs → IsKnown f → AreKnown (fs ++ f ∷ [])
    known-more [] f h i = (i, tt)
    known-more (g ∷ fs) f h i = (h.0, known-more fs f h.1 i)

    factor-step : (fs : List Factor) (said more : Said) (f : Factor) → with_factor points said f ≡ Some more → AllDone fs said → AllDone (fs ++ f ∷ []) more
    factor-step fs said more f h k = record {
      known = known-more fs f k.known (is-known f h);
      done = subst (λ (xs : List U). SaidDone xs more) (sym (map-append term_of fs (f ∷ []))) (step f h);
    }
      where
        is-known : (f : Factor) → with_factor points said f ≡ Some more → IsKnown f
        is-known (atom table values) e = tt
        is-known (equality x y) e = tt
        is-known (difference x y) e = tt
        is-known (truth symbol values) e = tt
        is-known (falsehood symbol values) e = tt
        is-known other e = none-some more e

        step : (f : Factor) → with_factor points said f ≡ Some more → SaidDone (map term_of fs ++ term_of f ∷ []) more
        step (atom table values) e = subst (SaidDone (map term_of fs ++ R table values ∷ [])) (same_Some said more e) (atom-heard (map term_of fs) said table values k.done)
        step (equality x y) e = equality-step (map term_of fs) said more x y e k.done
        step (difference x y) e = difference-step (map term_of fs) said more x y e k.done
        step (truth symbol values) e = mark-step (map term_of fs) said more (holds symbol) values e k.done
        step (falsehood symbol values) e = mark-step (map term_of fs) said more (fails symbol) values e k.done
        step other e = absurd (none-some more e)

    pub all-said : (outs : ℕ) (fs : List Factor) (said : Said) → folded (with_factor points) (nothing_said outs) fs ≡ Some said → AreKnown fs × SaidDone (map term_of fs) said
    all-said outs fs said h =
        let k = folded-keeps (with_factor points) AllDone factor-step [] (nothing_said outs) said fs h (record { known = tt; done = nothing-done outs }) in
        (k.known, k.done)

-- ---- outputs
pub outputs-given : (points : Points) (ps : List Point) → all_points points ≡ Some ps → (k : ℕ) (p : Point) → slice_get ps k ≡ Some p → slice_get points k ≡ Some (Some p)
outputs-given [] ps h k p g = absurd (none-some p (ap (λ (l : List Point). slice_get l k) (same_Some [] ps h) ∙ g))
outputs-given (o ∷ points) ps h k p g =
    let both = both-some (λ q qs. q ∷ qs) o (all_points points) ps h in
    at k both.x both.y both.left (λ j f. outputs-given points both.y both.right j p f) (ap (λ (l : List Point). slice_get l k) both.is ∙ g)
  where
    at : (k : ℕ) (q : Point) (qs : List Point) → o ≡ Some q → ((j : ℕ) → slice_get qs j ≡ Some p → slice_get points j ≡ Some (Some p)) → slice_get (q ∷ qs) k ≡ Some p → slice_get (o ∷ points) k ≡ Some (Some p)
    at zero q qs e rest f = ap Some (e ∙ f)
    at (suc k) q qs e rest f = rest k f

pub outputs-kept : (points : Points) (ps : List Point) → all_points points ≡ Some ps → (k : ℕ) (p : Point) → slice_get points k ≡ Some (Some p) → slice_get ps k ≡ Some p
outputs-kept [] ps h k p g = absurd (none-some (Some p) g)
outputs-kept (o ∷ points) ps h k p g =
    let both = both-some (λ q qs. q ∷ qs) o (all_points points) ps h in
    ap (λ (l : List Point). slice_get l k) (sym both.is) ∙ at k both.x both.y both.left (λ j f. outputs-kept points both.y both.right j p f) g
  where
    at : (k : ℕ) (q : Point) (qs : List Point) → o ≡ Some q → ((j : ℕ) → slice_get points j ≡ Some (Some p) → slice_get qs j ≡ Some p) → slice_get (o ∷ points) k ≡ Some (Some p) → slice_get (q ∷ qs) k ≡ Some p
    at zero q qs e rest f = sym e ∙ same_Some o (Some p) f
    at (suc k) q qs e rest f = rest k f
