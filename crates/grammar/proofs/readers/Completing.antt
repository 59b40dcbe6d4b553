-- The steps of a reader: how the completed prefixes of parts are completed prefixes of the whole.
use Rattle.std.proofs.Common.{◌≡◌, ℕ, ◌+◌, Bool, true, List, [], ◌∷◌, ◌++◌, ◌⊎◌, inl, inr, refl, sym, ◌∙◌, ap, subst, append_assoc, Option, None, arith, length}
use Rattle.std.proofs.lemmas.List.{append-nil}
use Rattle.std.proofs.lemmas.List.Folds.{list_all-append}
use Rattle.std.specs.List.{list_all}
use Rattle.grammar.specs.Language.{Language}
use Rattle.grammar.specs.Form.{Form, seq, alt, star, nest, map, counted, fork, ref}
use Rattle.grammar.specs.Lookahead.{PredictiveGrammar}
use Rattle.grammar.specs.Reading.{Took}
use Rattle.grammar.specs.Completions.{Fills, Reaches, Continues, Overspends}
use Rattle.grammar.proofs.languages.Sets.{and_both, and_left, and_right}
use Rattle.grammar.proofs.readers.Predictions.{free, bounded, bounded_within, produced}

pub both_chosen : {T : Type 0} (chosen : T → Bool) (x y : List T) → list_all chosen x ≡ true → list_all chosen y ≡ true → list_all chosen (x ++ y) ≡ true
both_chosen chosen x y p q = list_all-append chosen x y ∙ and_both (list_all chosen x) (list_all chosen y) p q

module _ {T : Type 0} (chosen : T → Bool) where
  pub first_chosen : (ts x y : List T) → ts ≡ x ++ y → list_all chosen ts ≡ true → list_all chosen x ≡ true
  first_chosen ts x y i c = and_left (list_all chosen x) (list_all chosen y) (sym (list_all-append chosen x y) ∙ (ap (list_all chosen) (sym i) ∙ c))

  pub second_chosen : (ts x y : List T) → ts ≡ x ++ y → list_all chosen ts ≡ true → list_all chosen y ≡ true
  second_chosen ts x y i c = and_right (list_all chosen x) (list_all chosen y) (sym (list_all-append chosen x y) ∙ (ap (list_all chosen) (sym i) ∙ c))

pub continues_whole : {T A : Type 0} (chosen : T → Bool) (L : Language T A) (ts : List T) → Continues chosen L ts L ts (λ v. v)
continues_whole chosen L ts = record { reaches = λ v rest r. r }

-- what stands before was taken
stands_behind : {T A C D : Type 0} (chosen : T → Bool) (M : Language T C) (N : Language T D) (x here mid : List T) (L : Language T A) (start : List T) (h : D → A) (k : C → D) → here ≡ x ++ mid
    → ((y : List T) (v : C) → M.spells y v → N.spells (x ++ y) (k v)) → Continues chosen N here L start h → Continues chosen M mid L start (λ v. h (k v))
stands_behind chosen M N x here mid L start h k i m l = record {
  reaches = λ v rest r. l.reaches (k v) rest (record {
    taken = x ++ r.taken;
    whole = i ∙ (ap (λ z. x ++ z) r.whole ∙ sym (append_assoc x r.taken rest));
    completes = record {
      more = r.completes.more;
      are_chosen = r.completes.are_chosen;
      spelled = subst (λ z. N.spells z (k v)) (sym (append_assoc x r.taken r.completes.more)) (m (r.taken ++ r.completes.more) v r.completes.spelled);
    };
  });
}

-- what overspends here does so from the start
pub overspends_from : {T A C : Type 0} (chosen : T → Bool) (M : Language T C) (here : List T) (N : Language T A) (start : List T) (h : C → A) → Continues chosen M here N start h
    → (cost_here : C → ℕ) (cost : A → ℕ) (most spent_here spent : ℕ) → ((v : C) → spent + cost (h v) ≡ spent_here + cost_here v)
    → (rest : List T) → Overspends chosen M cost_here most spent_here here rest → Overspends chosen N cost most spent start rest
overspends_from chosen M here N start h l cost_here cost most spent_here spent i rest o = record {
  before = h o.before;
  up_to = l.reaches o.before rest o.up_to;
  within = omega (arith, o.within, i o.before);
  token = o.token;
  more = o.more;
  next = o.next;
  with_it = h o.with_it;
  and_it = l.reaches o.with_it o.more o.and_it;
  too_much = omega (arith, o.too_much, i o.with_it);
}

module _ {T K N : Type 0} {V : N → Type 0} (g : PredictiveGrammar T K N V) (d : ℕ) (chosen : T → Bool) where
  -- of a name, its production remains
  pub continues_production : (n : N) (ts : List T) → Continues chosen (free g (g.rules n)) ts (free g (ref n)) ts (λ v. v)
  continues_production n ts =
      stands_behind chosen (free g (g.rules n)) (free g (ref n)) [] ts ts (free g (ref n)) ts (λ v. v) (λ v. v) refl (produced g None n).there.spells (continues_whole chosen (free g (ref n)) ts)

  module _ {A : Type 0} (L : Language T A) (start : List T) where
    abbrev pub Left : {C : Type 0} → Form T K N V C → List T → (C → A) → Type 0
    Left f here h = Continues chosen (free g f) here L start h

    -- what stands before was taken
    behind : {C D : Type 0} (e : Form T K N V C) (f : Form T K N V D) (x here mid : List T) (h : D → A) (k : C → D) → here ≡ x ++ mid
        → ((y : List T) (v : C) → (free g e).spells y v → (free g f).spells (x ++ y) (k v)) → Left f here h → Left e mid (λ v. h (k v))
    behind e f x here mid h k i m l = stands_behind chosen (free g e) (free g f) x here mid L start h k i m l

    -- the same text, as one of another form
    along : {C D : Type 0} (f : Form T K N V C) (e : Form T K N V D) (here : List T) (h : D → A) (k : C → D)
        → ((ts : List T) (v : C) → (free g f).spells ts v → (free g e).spells ts (k v)) → Left e here h → Left f here (λ v. h (k v))
    along f e here h k m l = behind f e [] here here h k refl m l

    pub left_map : {C D : Type 0} (k : C → D) (f : Form T K N V C) (here : List T) (h : D → A) → Left (map k f) here h → Left f here (λ v. h (k v))
    left_map k f here h l = along f (map k f) here h k (λ ts v s. (v, s, refl)) l

    pub left_nest : {C : Type 0} (f : Form T K N V C) (here : List T) (h : C → A) → Left (nest f) here h → Left f here h
    left_nest f here h l = along f (nest f) here h (λ v. v) (λ ts v s. s) l

    -- nothing of it stands here
    pub left_filled : {C : Type 0} (f : Form T K N V C) (here : List T) (h : C → A) → Left f here h → (v : C) → Fills chosen (free g f) v → Reaches chosen L start (h v) here
    left_filled f here h l v b = l.reaches v here (record { taken = []; whole = refl; completes = record { more = b.filling; are_chosen = b.are_chosen; spelled = b.spelled } })

    pub left_one : {C : Type 0} (f e : Form T K N V C) (here : List T) (h : C → A) → Left (alt f e) here h → Left f here h
    left_one f e here h l = along f (alt f e) here h (λ v. v) (λ ts v s. inl s) l

    pub left_other : {C : Type 0} (f e : Form T K N V C) (here : List T) (h : C → A) → Left (alt f e) here h → Left e here h
    left_other f e here h l = along e (alt f e) here h (λ v. v) (λ ts v s. inr s) l

    -- where nothing goes by the number of tokens
    pub left_counted : {C : Type 0} (f : Form T K N V C) (here : List T) (h : C × ℕ → A) (k : C → A) → ((v : C) (count : ℕ) → h (v, count) ≡ k v) → Left (counted f) here h → Left f here k
    left_counted f here h k i l = record {
      reaches = λ v rest r.
          subst (λ u. Reaches chosen L start u rest) (i v (length (r.taken ++ r.completes.more)))
          (l.reaches (v, length (r.taken ++ r.completes.more)) rest (record {
            taken = r.taken;
            whole = r.whole;
            completes = record {
              more = r.completes.more;
              are_chosen = r.completes.are_chosen;
              spelled = (r.completes.spelled, refl);
            };
          }));
    }

    -- what follows is filled
    after : {C D : Type 0} (f : Form T K N V C) (e : Form T K N V D) (here : List T) (h : D → A) (k : C → D) (filling : C → List T) → ((v : C) → list_all chosen (filling v) ≡ true)
        → ((x : List T) (v : C) → (free g f).spells x v → (free g e).spells (x ++ filling v) (k v)) → Left e here h → Left f here (λ v. h (k v))
    after f e here h k filling c m l = record {
      reaches = λ v rest r. l.reaches (k v) rest (record {
        taken = r.taken;
        whole = r.whole;
        completes = record {
          more = r.completes.more ++ filling v;
          are_chosen = both_chosen chosen r.completes.more (filling v) r.completes.are_chosen (c v);
          spelled = subst (λ z. (free g e).spells z (k v)) (append_assoc r.taken r.completes.more (filling v)) (m (r.taken ++ r.completes.more) v r.completes.spelled);
        };
      });
    }

    spelled_free : {C : Type 0} (f : Form T K N V C) (here : List T) (v : C) (mid : List T) (t : Took (free g f) (bounded g d f) here v mid) → (free g f).spells t.taken v
    spelled_free f here v mid t = (bounded_within g d f).includes.spells t.taken v t.spelled

    -- ---- one after the other

    module _ {C D : Type 0} (f : Form T K N V C) (e : Form T K N V D) (here : List T) (h : C × D → A) (l : Left (seq f e) here h) where
      pub left_first : (w : D) → Fills chosen (free g e) w → Left f here (λ v. h (v, w))
      left_first w b = after f (seq f e) here h (λ v. (v, w)) (λ v. b.filling) (λ v. b.are_chosen) (λ x v s. (x, b.filling, refl, s, b.spelled)) l

      pub left_second : (v : C) (mid : List T) → Took (free g f) (bounded g d f) here v mid → Left e mid (λ w. h (v, w))
      left_second v mid t = behind e (seq f e) t.taken here mid h (λ w. (v, w)) t.whole (λ y w s. (t.taken, y, refl, spelled_free f here v mid t, s)) l

    -- ---- what goes by the first's value

    abbrev pub either_of : {C D E : Type 0} → (C → E) → (D → E) → C ⊎ D → E
    either_of k j (inl c) = k c
    either_of k j (inr c) = j c

    abbrev either_list : {C D : Type 0} → List T → List T → C ⊎ D → List T
    either_list x y (inl c) = x
    either_list x y (inr c) = y

    module _ {C D E : Type 0} (f : Form T K N V (C ⊎ D)) (e : Form T K N V (C → E)) (i : Form T K N V (D → E)) (here : List T) (h : E → A) (l : Left (fork f e i) here h) where
      pub left_of_either : (k : C → E) (j : D → E) → Fills chosen (free g e) k → Fills chosen (free g i) j → Left f here (λ v. h (either_of k j v))
      left_of_either k j p q = after f (fork f e i) here h (either_of k j) (either_list p.filling q.filling) chosen_of spelled_of l
        where
          chosen_of : (v : C ⊎ D) → list_all chosen (either_list p.filling q.filling v) ≡ true
          chosen_of (inl c) = p.are_chosen
          chosen_of (inr c) = q.are_chosen

          spelled_of : (x : List T) (v : C ⊎ D) → (free g f).spells x v → (free g (fork f e i)).spells (x ++ either_list p.filling q.filling v) (either_of k j v)
          spelled_of x (inl c) s = (x, p.filling, inl c, refl, s, (k, p.spelled, refl))
          spelled_of x (inr c) s = (x, q.filling, inr c, refl, s, (j, q.spelled, refl))

      pub left_of_first : (v : C) (mid : List T) → Took (free g f) (bounded g d f) here (inl v) mid → Left e mid (λ k. h (k v))
      left_of_first v mid t = behind e (fork f e i) t.taken here mid h (λ k. k v) t.whole (λ y k s. (t.taken, y, inl v, refl, spelled_free f here (inl v) mid t, (k, s, refl))) l

      pub left_of_other : (v : D) (mid : List T) → Took (free g f) (bounded g d f) here (inr v) mid → Left i mid (λ k. h (k v))
      left_of_other v mid t = behind i (fork f e i) t.taken here mid h (λ k. k v) t.whole (λ y k s. (t.taken, y, inr v, refl, spelled_free f here (inr v) mid t, (k, s, refl))) l

    -- ---- any number of times

    module _ {C : Type 0} (most fewer : Option ℕ) (f : Form T K N V C) (here : List T) (h : List C → A) (l : Left (star most f) here h) where
      -- one begins, and none follows it
      pub left_last : Left f here (λ v. h (v ∷ []))
      left_last = along f (star most f) here h (λ v. v ∷ []) (λ ts v s. (ts, [], sym (append-nil ts), s, refl)) l

      -- one was read
      pub left_next : (v : C) (mid : List T) → Took (free g f) (bounded g d f) here v mid → Left (star fewer f) mid (λ vs. h (v ∷ vs))
      left_next v mid t = behind (star fewer f) (star most f) t.taken here mid h (λ vs. v ∷ vs) t.whole (λ y vs s. (t.taken, y, refl, spelled_free f here v mid t, s)) l
