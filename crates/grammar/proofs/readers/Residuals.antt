-- The steps of a reader: how what remains to be read of a form becomes what remains of its parts. A form with no limits stands beside a language
-- that is within it: the form's own within limits on depth and length, or in names that keep another limit.
use Rattle.std.proofs.Common.{◌≡◌, ℕ, zero, true, List, [], ◌∷◌, ◌⊎◌, inl, inr, refl, sym, subst, length, ◌+◌, Some, Option, None}
use Rattle.grammar.specs.Language.{Language, seq_language, alt_language, map_language, bind_language, branch, counted_language}
use Rattle.grammar.specs.Form.{Form, Room, seq, alt, star, nest, map, counted, fork, ref, repeated}
use Rattle.grammar.specs.Lookahead.{Lookahead, PredictiveGrammar, either_lookahead}
use Rattle.grammar.specs.Reading.{Took, Failed, Exceeded, Began, Residual}
use Rattle.grammar.proofs.languages.Known.{Known, Parted, branch_known}
use Rattle.grammar.proofs.readers.Steps.{Behind, IsWithin, Same, residual_behind, same_behind, map_behind, map_within, counted_took, no_room, seq_first_failed, seq_first_exceeded, seq_behind, bind_first_failed, bind_first_exceeded, bind_behind}
use Rattle.grammar.proofs.readers.Choices as c
use Rattle.grammar.proofs.readers.Choices.{is_absent}
use Rattle.grammar.proofs.readers.Repetitions as r
use Rattle.grammar.proofs.readers.Repetitions.{IsOneMore, once_more}
use Rattle.grammar.proofs.readers.Predictions.{free, bounded, ok, ahead, known, produced}
use Rattle.grammar.proofs.languages.Tables.{alt_decides, fork_decides, seq_decides, star_decides}

pub residual_whole : {T A : Type 0} (U B : Language T A) (ts : List T) → Residual U B ts U B ts (λ v. v)
residual_whole U B ts = record { took = λ v rest t. t; failed = λ rest f. f; exceeded = λ rest e. e; began = λ rest b. b }

-- what remains of a form remains of the same by another name
pub residual_same : {T A C : Type 0} (U B W D : Language T C) → Same U W → Same B D → (here : List T) (N N' : Language T A) (start : List T) (h : C → A) → Residual W D here N N' start h → Residual U B here N N' start h
residual_same U B W D u b here N N' start h l = residual_behind (same_behind U B W D u b here) refl (λ v. v) b.there.spells l

module _ {T K N : Type 0} {V : N → Type 0} (g : PredictiveGrammar T K N V) where
  -- of a name, its production remains
  pub residual_production : (n : N) (B D : Language T (V n)) → Same D B → {A : Type 0} (here : List T) (L L' : Language T A) (start : List T) (h : V n → A)
      → Residual (free g (ref n)) B here L L' start h → Residual (free g (g.rules n)) D here L L' start h
  residual_production n B D i here L L' start h l = residual_same _ D _ B (produced g None n) i here L L' start h l

  module _ {A : Type 0} (L L' : Language T A) (start : List T) where
    -- f remains here of the reading of the whole, and B of what is within it
    abbrev pub Left : {C : Type 0} → Form T K N V C → Language T C → List T → (C → A) → Type 0
    Left f B here h = Residual (free g f) B here L L' start h

    pub left_map : {C D : Type 0} (k : C → D) (f : Form T K N V C) (B : Language T C) (here : List T) (h : D → A) → Left (map k f) (map_language k B) here h → Left f B here (λ v. h (k v))
    left_map k f B here h l = residual_behind (map_behind _ B k here) refl k (λ y v s. (v, s, refl)) l

    -- ---- one after the other

    module _ {C D : Type 0} (f : Form T K N V C) (e : Form T K N V D) (F : Language T C) (E : Language T D) (i : IsWithin (free g f) F) (j : IsWithin (free g e) E)
        (o : ok g (seq f e) ≡ true) (here : List T) (h : C × D → A) (l : Left (seq f e) (seq_language F E) here h) where
      seq_decided : (ok g f ≡ true) × (ok g e ≡ true) × Parted (ahead g f) (ahead g e)
      seq_decided = seq_decides g.kinds g.every g.table f e o

      pub left_first_failed : (rest : List T) → Failed (free g f) F here rest → Failed L L' start rest
      left_first_failed rest t = l.failed rest (seq_first_failed g.kind _ _ _ _ (ahead g f) (ahead g e) (known g f seq_decided.0) (known g e seq_decided.1) i j seq_decided.2 here rest t)

      pub left_first_exceeded : (rest : List T) → Exceeded (free g f) F here rest → Exceeded L L' start rest
      left_first_exceeded rest t = l.exceeded rest (seq_first_exceeded g.kind _ _ _ _ (ahead g f) (ahead g e) (known g f seq_decided.0) (known g e seq_decided.1) i j seq_decided.2 here rest t)

      pub left_first_began : (rest : List T) → Began F here rest → Began L' start rest
      left_first_began rest t = l.began rest (record { taken = t.taken; whole = t.whole; begun = inl t.begun })

      pub left_second : (v : C) (mid : List T) → Took (free g f) F here v mid → Left e E mid (λ w. h (v, w))
      left_second v mid t =
          residual_behind (seq_behind g.kind _ F _ E (ahead g f) (ahead g e) (known g f seq_decided.0) (known g e seq_decided.1) i j seq_decided.2 t.taken v t.spelled mid t.stops) t.whole
          (λ w. (v, w)) (λ y w s. (t.taken, y, refl, t.spelled, s)) l

    -- ---- one or the other

    module _ {C : Type 0} (f e : Form T K N V C) (F E : Language T C) (here : List T) (h : C → A) (l : Left (alt f e) (alt_language F E) here h) where
      pub left_first : IsWithin (free g e) E → ok g e ≡ true → is_absent g.kind (ahead g e) here ≡ true → Left f F here h
      left_first j o n = residual_behind (c.first_behind g.kind _ F _ E (ahead g e) (known g e o) j here n) refl (λ v. v) (λ y v s. inl s) l

      pub left_other : IsWithin (free g f) F → ok g f ≡ true → is_absent g.kind (ahead g f) here ≡ true → Left e E here h
      left_other i o n = residual_behind (c.second_behind g.kind _ E _ F (ahead g f) (known g f o) i here n) refl (λ v. v) (λ y v s. inr s) l

      -- the next token begins the first
      pub left_by_token : IsWithin (free g e) E → ok g (alt f e) ≡ true → (t : T) (more : List T) → here ≡ t ∷ more → (free g f).prefix (t ∷ []) → Left f F here h
      left_by_token j o t more i b =
          let d = alt_decides g.kinds g.every g.table f e o in
          let begins = c.by_token_behind g.kind (free g f) F (free g e) E (ahead g f) (ahead g e) (known g f d.0) (known g e d.1) j d.2 t more b in
          residual_behind (subst (λ z. Behind (free g f) F (free g (alt f e)) (alt_language F E) [] z) (sym i) begins) refl (λ v. v) (λ y v s. inl s) l

    -- ---- what goes by the first's value

    module _ {C D E : Type 0} (f : Form T K N V (C ⊎ D)) (e : Form T K N V (C → E)) (i : Form T K N V (D → E)) (F : Language T (C ⊎ D)) (G : Language T (C → E)) (I : Language T (D → E))
        (fw : IsWithin (free g f) F) (ew : IsWithin (free g e) G) (iw : IsWithin (free g i) I) (o : ok g (fork f e i) ≡ true)
        (here : List T) (h : E → A) (l : Left (fork f e i) (bind_language F (branch G I)) here h) where
      abbrev either : Lookahead K
      either = either_lookahead (ahead g e) (ahead g i)

      fork_decided : (ok g f ≡ true) × (ok g e ≡ true) × (ok g i ≡ true) × Parted (ahead g f) either
      fork_decided = fork_decides g.kinds g.every g.table f e i o

      branches_known : (v : C ⊎ D) → Known g.kind (branch (free g e) (free g i) v) either
      branches_known = branch_known g.kind (free g e) (free g i) (ahead g e) (ahead g i) (known g e fork_decided.1) (known g i fork_decided.2)

      branches_within : (v : C ⊎ D) → IsWithin (branch (free g e) (free g i) v) (branch G I v)
      branches_within (inl c) = map_within g.kind (λ k. k c) _ _ ew
      branches_within (inr c) = map_within g.kind (λ k. k c) _ _ iw

      pub left_fork_failed : (rest : List T) → Failed (free g f) F here rest → Failed L L' start rest
      left_fork_failed rest t = l.failed rest (bind_first_failed g.kind _ _ (ahead g f) either (known g f fork_decided.0) branches_known fork_decided.3 F (branch G I) fw branches_within here rest t)

      pub left_fork_exceeded : (rest : List T) → Exceeded (free g f) F here rest → Exceeded L L' start rest
      left_fork_exceeded rest t = l.exceeded rest (bind_first_exceeded g.kind _ _ (ahead g f) either (known g f fork_decided.0) branches_known fork_decided.3 F (branch G I) fw branches_within here rest t)

      pub left_fork_began : (rest : List T) → Began F here rest → Began L' start rest
      left_fork_began rest t = l.began rest (record { taken = t.taken; whole = t.whole; begun = inl t.begun })

      -- what follows this value
      left_branch : (v : C ⊎ D) (mid : List T) → Took (free g f) F here v mid → Residual (branch (free g e) (free g i) v) (branch G I v) mid L L' start h
      left_branch v mid t =
          residual_behind (bind_behind g.kind (free g f) (branch (free g e) (free g i)) (ahead g f) either (known g f fork_decided.0) branches_known fork_decided.3 F (branch G I) fw branches_within t.taken v t.spelled mid t.stops) t.whole
          (λ w. w) (λ y w s. (t.taken, y, v, refl, t.spelled, s)) l

      pub left_of_first : (v : C) (mid : List T) → Took (free g f) F here (inl v) mid → Left e G mid (λ k. h (k v))
      left_of_first v mid t = residual_behind (map_behind (free g e) G (λ k. k v) mid) refl (λ k. k v) (λ y k s. (k, s, refl)) (left_branch (inl v) mid t)

      pub left_of_other : (v : D) (mid : List T) → Took (free g f) F here (inr v) mid → Left i I mid (λ k. h (k v))
      left_of_other v mid t = residual_behind (map_behind (free g i) I (λ k. k v) mid) refl (λ k. k v) (λ y k s. (k, s, refl)) (left_branch (inr v) mid t)

    -- ---- any number of times

    module _ {C : Type 0} (most : Option ℕ) (f : Form T K N V C) (F : Language T C) (i : IsWithin (free g f) F) (o : ok g (star most f) ≡ true) where
      star_decided : (ok g f ≡ true) × ((ahead g f).nullable ≡ true → ⊥) × Parted (ahead g f) (ahead g f)
      star_decided = star_decides g.kinds g.every g.table most f o

      -- none follows
      pub left_last : (M : Language T (List C)) → M.spells [] [] → (here : List T) (h : List C → A) → Left (star most f) M here h → is_absent g.kind (ahead g f) here ≡ true → Took L L' start (h []) here
      left_last M s here h l n = l.took [] here (r.star_end g.kind _ F (ahead g f) (known g f star_decided.0) i star_decided.1 star_decided.2 M s here n)

      -- where M is what remains after one more
      module _ (M M' : Language T (List C)) (m : IsWithin (free g (star most f)) M) (one : IsOneMore F M M') (here : List T) (h : List C → A) (l : Left (star most f) M' here h) where
        -- one was read
        pub left_more : (v : C) (mid : List T) → Took (free g f) F here v mid → Left (star most f) M mid (λ vs. h (v ∷ vs))
        left_more v mid t =
            residual_behind (r.star_behind g.kind _ F (ahead g f) (known g f star_decided.0) i star_decided.1 star_decided.2 M M' m one t.taken v t.spelled mid t.stops) t.whole
            (λ vs. v ∷ vs) (λ y vs s. one.spells t.taken y v vs t.spelled s) l

        -- one more begins
        pub left_more_failed : (t : T) (more : List T) → here ≡ t ∷ more → (free g f).prefix (t ∷ []) → (rest : List T) → Failed (free g f) F here rest → Failed L L' start rest
        left_more_failed t more e b rest s =
            l.failed rest (subst (λ z. Failed (free g (star most f)) M' z rest) (sym e)
            (r.star_failed g.kind _ _ (ahead g f) (known g f star_decided.0) i star_decided.1 star_decided.2 M M' m one t more rest b (subst (λ z. Failed (free g f) F z rest) e s)))

        pub left_more_exceeded : (rest : List T) → Exceeded (free g f) F here rest → Exceeded L L' start rest
        left_more_exceeded rest s = l.exceeded rest (r.star_exceeded g.kind _ _ (ahead g f) (known g f star_decided.0) i star_decided.1 star_decided.2 M M' m one here rest s)

        pub left_more_began : (rest : List T) → Began F here rest → Began L' start rest
        left_more_began rest s = l.began rest (record { taken = s.taken; whole = s.whole; begun = one.there s.taken (inl s.begun) })

    module _ {C : Type 0} (room : Room) (most : Option ℕ) (f : Form T K N V C) (F : Language T C) (i : IsWithin (free g f) F) (here : List T) (h : List C → A) where
      pub left_end : ok g (star most f) ≡ true → Left (star most f) (repeated room most F) here h → is_absent g.kind (ahead g f) here ≡ true → Took L L' start (h []) here
      left_end o l n = left_last most f F i o (repeated room most F) (r.repeats_none F room most) here h l n

      module _ (o : ok g (star (once_more most) f) ≡ true) (l : Left (star (once_more most) f) (repeated room (once_more most) F) here h) where
        m : IsWithin (free g (star most f)) (repeated room most F)
        m = r.repeated_within (free g f) F i room most

        one : IsOneMore F (repeated room most F) (repeated room (once_more most) F)
        one = r.repeats_once_more F i.prefixes room most

        pub left_next : (v : C) (mid : List T) → Took (free g f) F here v mid → Left (star most f) (repeated room most F) mid (λ vs. h (v ∷ vs))
        left_next = left_more most f F i o (repeated room most F) (repeated room (once_more most) F) m one here h l

        pub left_next_failed : (t : T) (more : List T) → here ≡ t ∷ more → (free g f).prefix (t ∷ []) → (rest : List T) → Failed (free g f) F here rest → Failed L L' start rest
        left_next_failed = left_more_failed most f F i o (repeated room most F) (repeated room (once_more most) F) m one here h l

        pub left_next_exceeded : (rest : List T) → Exceeded (free g f) F here rest → Exceeded L L' start rest
        left_next_exceeded = left_more_exceeded most f F i o (repeated room most F) (repeated room (once_more most) F) m one here h l

        pub left_next_began : (rest : List T) → Began F here rest → Began L' start rest
        left_next_began = left_more_began most f F i o (repeated room most F) (repeated room (once_more most) F) m one here h l

    -- so many were read as the limit allows, and one more begins
    pub left_full : {C : Type 0} (levels : ℕ) (f : Form T K N V C) (F : Language T C) (here : List T) (h : List C → A) → Left (star (Some zero) f) (repeated (Some levels) (Some zero) F) here h
        → (t : T) (more : List T) → here ≡ t ∷ more → (free g f).prefix (t ∷ []) → Exceeded L L' start here
    left_full levels f F here h l t more e b =
        l.exceeded here (subst (λ z. Exceeded (free g (star (Some zero) f)) (repeated (Some levels) (Some zero) F) z z) (sym e) (r.star_full (free g f) F levels t more b))

  -- with the number of tokens that were taken
  pub took_counted : {C : Type 0} (f : Form T K N V C) (F : Language T C) (here : List T) (v : C) (rest : List T) (count : ℕ) → length here ≡ count + length rest
      → Took (free g f) F here v rest → Took (free g (counted f)) (counted_language F) here (v, count) rest
  took_counted f F here v rest count e t = counted_took _ _ here v rest count e t

-- no level is left, and one more is opened
pub too_deep : {T K N A : Type 0} {V : N → Type 0} (g : PredictiveGrammar T K N V) (f : Form T K N V A) (here : List T) (t : T) (more : List T) → here ≡ t ∷ more → (free g f).prefix (t ∷ [])
    → Exceeded (free g (nest f)) (bounded g zero (nest f)) here here
too_deep g f here t more i b = subst (λ z. Exceeded (free g (nest f)) (bounded g zero (nest f)) z z) (sym i) (no_room (free g f) t more b)
