-- The two sides of a rule mean the same.
use Rattle.std.proofs.Common.{◌≡◌, ℕ, zero, suc, ◌*◌, ◌<◌, Bool, true, false, List, [], ◌∷◌, Option, Some, None, length, refl, ap, sym, ◌∙◌, arith, inl, inr, subst}
use Rattle.std.specs.Prelude.{nat_eq, slice_get}
use Rattle.std.proofs.lemmas.Bool.{and_parts, ltb-true, eqb-true}
use Rattle.std.proofs.lemmas.Option.{get_or_from_slice_get, slice_get_within}
use Rattle.data_model.specs.Lists.{Each, Has}
use Rattle.data_model.specs.Numbers.{one_if, sum_below}
use Rattle.data_model.specs.Rows.{AllBelow, IsRow, occurrences, same_row}
use Rattle.data_model.specs.Reading.{Reading, IsOn}
use Rattle.data_model.specs.Database.{Database, table_rows, at_columns, IsKey, Refers}
use Rattle.data_model.proofs.Sums.{sum_below-same, sum_below-zero, sum_below-add, sum_below-scale, sum_below-pick, sum_below-part, sum_rows-same, sum_rows-rows}
use Rattle.u_terms.specs.Syntax.{U, Val}
use Rattle.u_terms.specs.declared.term.Val.TheVariants as v
use Rattle.u_terms.specs.declared.facts.Facts.{Facts}
use Rattle.u_terms.specs.declared.facts.Fkey.{Fkey}
use Rattle.u_terms.specs.Facts.{FactsOk, FkeyFits, MeetsFacts, AreSameColumns, IsAmong, referential_constraint}
use Rattle.u_terms.specs.Places.{IsClosed, IsClosedValue}
use Rattle.u_terms.specs.Meaning.{meaning, value_meaning}
use Rattle.u_terms.proofs.Agreement.{meaning-anywhere, value_meaning-anywhere}
use Rattle.u_terms.proofs.Binding.{opened_with_alone}
use Rattle.u_terms.proofs.Meanings.{list_meaning, meaning_at, meaning-Sum, meaning-Rel}
use Rattle.u_rules.specs.declared.rule.Arg.{Arg}
use Rattle.u_rules.specs.declared.rule.Rule.TheVariants as rule
use Rattle.u_rules.specs.declared.faults.Misfit.{Misfit}
use Rattle.u_rules.specs.Terms.{◌⊗◌, ◌≐◌, sq, S, R, put, places, equal_columns, equal_rows, width, keys_of, key_columns, referenced}
use Rattle.u_terms.specs.Products.{product_of}
use Rattle.u_rules.specs.Rows.{Row, row, unless, swap_fault, key_fault, fkey_row, IsClosedArg, LeavesAgree}
use Rattle.data_model.proofs.Points.{point-same, point-sym, point-moves}
use Rattle.u_rules.proofs.soundness.Walk as walk
use Rattle.u_rules.proofs.soundness.Signs as signs
use Rattle.u_terms.proofs.Products.{product_by, product-means}
use Rattle.u_rules.proofs.multisets.LeavesMean as leaves
use Rattle.u_rules.proofs.soundness.Nested as nested
use Rattle.u_rules.proofs.soundness.KeyedTables as tables
use Rattle.u_rules.proofs.soundness.Columns as columns
use Rattle.u_rules.proofs.soundness.FactsAt as at
use Rattle.u_terms.proofs.ValuesInDomain.{value-below}

module _ (n : ℕ) (reading : Reading) (db : Database) (names : List ℕ) where
  abbrev pub m : U → ℕ
  m x = meaning n reading db names [] x

  abbrev pub mv : Val → ℕ
  mv a = value_meaning n reading db names [] a

  abbrev Same : U → U → Type 0
  Same l r = m l ≡ m r

  -- H is what else the rule rests on; the places below k may dangle in its bodies
  abbrev pub Good : (U → U → Type 0) → ℕ → Option Row → Type 0
  Good H k = walk.Good (IsClosedArg k) H Same

  abbrev pub Free : U → U → Type 0
  Free l r = Unit {0}

  -- arguments that are closed, in whose bodies the places below k may dangle
  module _ (F : Facts) (k : ℕ) (args : List Arg) (c : Each (IsClosedArg k) args) where
    pub sound-MulZero : Good Free k (row F rule.MulZero args)
    sound-MulZero = walk.T-good (IsClosedArg k) Free Same _ (λ x cx. walk.done (IsClosedArg k) Free Same _ _ (simp meaning_at (omega arith))) args c

    pub sound-Distr : Good Free k (row F rule.Distr args)
    sound-Distr = walk.T-good (IsClosedArg k) Free Same _ (λ x cx. walk.T-good (IsClosedArg k) Free Same _ (λ y cy. walk.T-good (IsClosedArg k) Free Same _ (λ z cz. walk.done (IsClosedArg k) Free Same _ _ (simp meaning_at (omega arith))))) args c

    pub sound-SqZero : Good Free k (row F rule.SqZero args)
    sound-SqZero = walk.done (IsClosedArg k) Free Same _ _ (simp meaning_at) args c

    pub sound-SqOne : Good Free k (row F rule.SqOne args)
    sound-SqOne = walk.T-good (IsClosedArg k) Free Same _ (λ x cx. walk.done (IsClosedArg k) Free Same _ _ (simp meaning_at (signs.sq_one (m x)))) args c

    pub sound-SqAdd : Good Free k (row F rule.SqAdd args)
    sound-SqAdd = walk.T-good (IsClosedArg k) Free Same _ (λ x cx. walk.T-good (IsClosedArg k) Free Same _ (λ y cy. walk.done (IsClosedArg k) Free Same _ _ (simp meaning_at (signs.sq_add (m x) (m y))))) args c

    pub sound-SqMul : Good Free k (row F rule.SqMul args)
    sound-SqMul = walk.T-good (IsClosedArg k) Free Same _ (λ x cx. walk.T-good (IsClosedArg k) Free Same _ (λ y cy. walk.done (IsClosedArg k) Free Same _ _ (simp meaning_at (signs.sq_mul (m x) (m y))))) args c

    pub sound-SqDup : Good Free k (row F rule.SqDup args)
    sound-SqDup = walk.T-good (IsClosedArg k) Free Same _ (λ x cx. walk.done (IsClosedArg k) Free Same _ _ (simp meaning_at (signs.sq_dup (m x)))) args c

    pub sound-SqAbs : Good Free k (row F rule.SqAbs args)
    sound-SqAbs = walk.T-good (IsClosedArg k) Free Same _ (λ x cx. walk.done (IsClosedArg k) Free Same _ _ (simp meaning_at (signs.sq_abs (m x)))) args c

    pub sound-SqPart : Good Free k (row F rule.SqPart args)
    sound-SqPart = walk.T-good (IsClosedArg k) Free Same _ (λ x cx. walk.T-good (IsClosedArg k) Free Same _ (λ y cy. walk.done (IsClosedArg k) Free Same _ _ (simp meaning_at (signs.sq_part (m x) (m y))))) args c

    pub sound-NotZero : Good Free k (row F rule.NotZero args)
    sound-NotZero = walk.done (IsClosedArg k) Free Same _ _ (simp meaning_at) args c

    pub sound-NotOne : Good Free k (row F rule.NotOne args)
    sound-NotOne = walk.done (IsClosedArg k) Free Same _ _ (simp meaning_at) args c

    pub sound-NotMul : Good Free k (row F rule.NotMul args)
    sound-NotMul = walk.T-good (IsClosedArg k) Free Same _ (λ x cx. walk.T-good (IsClosedArg k) Free Same _ (λ y cy. walk.done (IsClosedArg k) Free Same _ _ (simp meaning_at (signs.not_mul (m x) (m y))))) args c

    pub sound-NotAdd : Good Free k (row F rule.NotAdd args)
    sound-NotAdd = walk.T-good (IsClosedArg k) Free Same _ (λ x cx. walk.T-good (IsClosedArg k) Free Same _ (λ y cy. walk.done (IsClosedArg k) Free Same _ _ (simp meaning_at (signs.not_add (m x) (m y))))) args c

    pub sound-NotSq : Good Free k (row F rule.NotSq args)
    sound-NotSq = walk.T-good (IsClosedArg k) Free Same _ (λ x cx. walk.done (IsClosedArg k) Free Same _ _ (simp meaning_at (signs.not_sq (m x)))) args c

    pub sound-SqNot : Good Free k (row F rule.SqNot args)
    sound-SqNot = walk.T-good (IsClosedArg k) Free Same _ (λ x cx. walk.done (IsClosedArg k) Free Same _ _ (simp meaning_at (signs.sq_not (m x)))) args c

    pub sound-NotSelf : Good Free k (row F rule.NotSelf args)
    sound-NotSelf = walk.T-good (IsClosedArg k) Free Same _ (λ x cx. walk.done (IsClosedArg k) Free Same _ _ (simp meaning_at (signs.not_self (m x)))) args c

    pub sound-NotNot : Good Free k (row F rule.NotNot args)
    sound-NotNot = walk.T-good (IsClosedArg k) Free Same _ (λ x cx. walk.done (IsClosedArg k) Free Same _ _ (simp meaning_at (signs.not_not (m x)))) args c

    pub sound-Split : Good Free k (row F rule.Split args)
    sound-Split = walk.T-good (IsClosedArg k) Free Same _ (λ x cx. walk.done (IsClosedArg k) Free Same _ _ (simp meaning_at (signs.split (m x)))) args c

    pub sound-SumZero : Good Free k (row F rule.SumZero args)
    sound-SumZero = walk.done (IsClosedArg k) Free Same _ _ (simp meaning_at (sum_below-zero n)) args c

    pub sound-SqEq : Good Free k (row F rule.SqEq args)
    sound-SqEq = walk.V-good (IsClosedArg k) Free Same _ (λ a ca. walk.V-good (IsClosedArg k) Free Same _ (λ b cb. walk.done (IsClosedArg k) Free Same _ _ (simp meaning_at (signs.sq_truth _)))) args c

    pub sound-SqPred : Good Free k (row F rule.SqPred args)
    sound-SqPred = walk.N-good (IsClosedArg k) Free Same _ (λ p. walk.L-good (IsClosedArg k) Free Same _ (λ s cs. walk.done (IsClosedArg k) Free Same _ _ (simp meaning_at (signs.sq_truth _)))) args c

    pub sound-SumAdd : Good Free k (row F rule.SumAdd args)
    sound-SumAdd = walk.B-good (IsClosedArg k) Free Same _ (λ f cf. walk.B-good (IsClosedArg k) Free Same _ (λ g cg. walk.done (IsClosedArg k) Free Same _ _ (simp meaning_at (sum_below-add n _ _)))) args c

    pub sound-SumSwap : Good Free k (row F rule.SumSwap args)
    sound-SumSwap = walk.N-good (IsClosedArg k) Free Same _ (λ a. walk.N-good (IsClosedArg k) Free Same _ (λ b. walk.B-good (IsClosedArg k) Free Same _ (λ f cf. walk.end-good (IsClosedArg k) Free Same (swap_fault a b) _ _ (λ e h. nested.swapped_sums n reading db names a b f [])))) args c

    pub sound-SumMul : Good Free k (row F rule.SumMul args)
    sound-SumMul = walk.T-good (IsClosedArg k) Free Same _ (λ x cx. walk.B-good (IsClosedArg k) Free Same _ (λ f cf. walk.done (IsClosedArg k) Free Same _ _ (same x f cx))) args c
      where
        same : (x f : U) → IsClosed 0 x → m (x ⊗ S f) ≡ m (S (x ⊗ f))
        same x f cx =
            let mf : ℕ → ℕ = λ v. meaning n reading db names (v ∷ []) f in
            let e : sum_below n (λ v. m x * mf v) ≡ sum_below n (λ v. meaning n reading db names (v ∷ []) x * mf v)
            = sum_below-same n _ _ (λ v l. ap (λ (z : ℕ). z * mf v) (meaning-anywhere n reading db names x [] (v ∷ []) cx)) in
            simp meaning_at (sym (sum_below-scale n (m x) mf) ∙ e)

    pub sound-SumSq : Good Free k (row F rule.SumSq args)
    sound-SumSq = walk.B-good (IsClosedArg k) Free Same _ (λ f cf. walk.done (IsClosedArg k) Free Same _ _ (simp meaning_at (signs.sum_sq n _))) args c

    pub sound-EqRefl : Good Free k (row F rule.EqRefl args)
    sound-EqRefl = walk.V-good (IsClosedArg k) Free Same _ (λ a ca. walk.done (IsClosedArg k) Free Same _ _ (simp meaning_at (point-same _ _ refl))) args c

    pub sound-EqSym : Good Free k (row F rule.EqSym args)
    sound-EqSym = walk.V-good (IsClosedArg k) Free Same _ (λ a ca. walk.V-good (IsClosedArg k) Free Same _ (λ b cb. walk.done (IsClosedArg k) Free Same _ _ (simp meaning_at (point-sym _ _)))) args c

    pub sound-EqSubst : Good Free k (row F rule.EqSubst args)
    sound-EqSubst = walk.V-good (IsClosedArg k) Free Same _ (λ a ca. walk.V-good (IsClosedArg k) Free Same _ (λ b cb. walk.B-good (IsClosedArg k) Free Same _ (λ f cf. walk.done (IsClosedArg k) Free Same _ _ (same a b f ca cb)))) args c
      where
        same : (a b : Val) (f : U) → IsClosedValue 0 a → IsClosedValue 0 b → m ((a ≐ b) ⊗ put a f) ≡ m ((a ≐ b) ⊗ put b f)
        same a b f ca cb =
            simp (meaning_at, opened_with_alone n reading db names f a ca, opened_with_alone n reading db names f b cb)
            (point-moves (mv a) (mv b) (λ v. meaning n reading db names (v ∷ []) f))

    pub sound-EqSplit : Good Free k (row F rule.EqSplit args)
    sound-EqSplit = walk.V-good (IsClosedArg k) Free Same _ (λ a ca. walk.V-good (IsClosedArg k) Free Same _ (λ b cb. walk.done (IsClosedArg k) Free Same _ _ (simp meaning_at (signs.split_truth _)))) args c

    -- ---- the rules whose leaves agree
    pub sound-AddAc : Good (LeavesAgree rule.AddAc) k (row F rule.AddAc args)
    sound-AddAc = walk.T-good (IsClosedArg k) _ Same _ (λ x cx. walk.T-good (IsClosedArg k) _ Same _ (λ y cy. walk.end-good (IsClosedArg k) _ Same None x y (λ f h. leaves.same_sum n reading db names [] x y h))) args c

    pub sound-MulAc : Good (LeavesAgree rule.MulAc) k (row F rule.MulAc args)
    sound-MulAc = walk.T-good (IsClosedArg k) _ Same _ (λ x cx. walk.T-good (IsClosedArg k) _ Same _ (λ y cy. walk.end-good (IsClosedArg k) _ Same None x y (λ f h. leaves.same_product n reading db names [] x y h))) args c

    -- ---- the rule with inner steps, which show this of x, its right side
    abbrev pub IsIdempotent : U → U → Type 0
    IsIdempotent l r = m (r ⊗ r) ≡ m r

    pub sound-SqFix : Good IsIdempotent k (row F rule.SqFix args)
    sound-SqFix = walk.T-good (IsClosedArg k) IsIdempotent Same _ (λ x cx. walk.end-good (IsClosedArg k) IsIdempotent Same None _ _ (λ f h. let e : m x * m x ≡ m x = simp meaning_at at h in simp meaning_at (signs.sq_fix (m x) e))) args c

    -- ---- the rules that need all values to be below n
    module _ (some : 0 < n) (on : IsOn n reading) (named : AllBelow n names) where
      below : (e : Val) → mv e < n
      below e = value-below n some reading on db names named e [] tt

      pub sound-SumPoint : Good Free k (row F rule.SumPoint args)
      sound-SumPoint = walk.V-good (IsClosedArg k) Free Same _ (λ e ce. walk.B-good (IsClosedArg k) Free Same _ (λ f cf. walk.done (IsClosedArg k) Free Same _ _ (same e f ce))) args c
        where
          same : (e : Val) (f : U) → IsClosedValue 0 e → m (S ((v.Bound 0 ≐ e) ⊗ f)) ≡ m (put e f)
          same e f ce =
              let mf : ℕ → ℕ = λ w. meaning n reading db names (w ∷ []) f in
              let part : (w : ℕ) → meaning n reading db names (w ∷ []) ((v.Bound 0 ≐ e) ⊗ f) ≡ one_if (nat_eq (mv e) w) * mf w
              = λ w. simp (meaning_at, value_meaning-anywhere n reading db names e (w ∷ []) [] ce) (ap (λ (z : ℕ). z * mf w) (point-sym w (mv e))) in
              meaning-Sum n reading db names [] _ ∙ sum_below-same n _ _ (λ w l. part w) ∙ sum_below-pick n (mv e) mf (below e)
              ∙ sym (opened_with_alone n reading db names f e ce)

      pub sound-SumUse : Good Free k (row F rule.SumUse args)
      sound-SumUse = walk.V-good (IsClosedArg k) Free Same _ (λ e ce. walk.B-good (IsClosedArg k) Free Same _ (λ f cf. walk.done (IsClosedArg k) Free Same _ _ (same e f ce))) args c
        where
          same : (e : Val) (f : U) → IsClosedValue 0 e → m (sq (put e f) ⊗ sq (S f)) ≡ m (sq (put e f))
          same e f ce =
              let mf : ℕ → ℕ = λ w. meaning n reading db names (w ∷ []) f in
              simp (meaning_at, opened_with_alone n reading db names f e ce)
              (signs.sq_below (mf (mv e)) (sum_below n mf) (sum_below-part n (mv e) mf (below e)))

    -- ---- keys
    need : (ok : Bool) (wrong : Misfit) (rest : Option Misfit) → unless ok wrong rest ≡ None → (ok ≡ true) × (rest ≡ None)
    need true wrong rest e = (refl, e)
    need false wrong rest e = absurd (some_none wrong e)
      where
        some_none : (w : Misfit) → Some w ≡ None → ⊥
        some_none w e = grind arith

    record KeyFits (t i : ℕ) (s r : List Val) : Type 0 where
      pub table : t < length F.widths
      pub key : i < length (keys_of F t)
      pub left : length s ≡ width F t
      pub right : length r ≡ width F t

    key_fits : (t i : ℕ) (s r : List Val) → key_fault F t i s r ≡ None → KeyFits t i s r
    key_fits t i s r e =
        let a = need _ _ _ e in
        let b = need _ _ _ a.1 in
        let d = need _ _ _ b.1 in
        let g = and_parts (nat_eq (length s) (width F t)) (nat_eq (length r) (width F t)) d.0 in
        record { table = ltb-true _ _ a.0; key = ltb-true _ _ b.0; left = eqb-true _ _ g.0; right = eqb-true _ _ g.1 }

    module _ (ok : FactsOk F) (meets : MeetsFacts F n db) where
      abbrev vals : List Val → List ℕ
      vals s = list_meaning n reading db names [] s

      same_key : (t i : ℕ) (s r : List Val) → KeyFits t i s r
          → m (product_of (R t s ∷ (R t r ∷ equal_columns s (key_columns F t i) r (key_columns F t i)))) ≡ m (product_of (R t s ∷ equal_rows s r))
      same_key t i s r f =
          let ks : List ℕ = key_columns F t i in
          let within : AllBelow (width F t) ks = at.Each-at (AllBelow (width F t)) (keys_of F t) i [] (at.columns-of_keys F ok t f.table) f.key in
          let left : AllBelow (length s) ks = rw f.left within in
          let right : AllBelow (length r) ks = rw f.right within in
          let key : IsKey (table_rows db t) ks = at.Each-at (IsKey (table_rows db t)) (keys_of F t) i [] (at.keys-hold F ok n db meets t f.table) f.key in
          let eqs : List U = equal_columns s ks r ks in
          let joined : product_by m eqs ≡ one_if (same_row (at_columns ks (vals s)) (at_columns ks (vals r))) = columns.columns-mean n reading db names [] s r ks ks refl left right in
          let whole : product_by m (equal_rows s r) ≡ one_if (same_row (vals s) (vals r)) = columns.equal_rows-mean n reading db names [] s r (f.left ∙ sym f.right) in
          let both : ℕ = occurrences (vals s) (table_rows db t) * one_if (same_row (vals s) (vals r)) in
          let left_is : m (product_of (R t s ∷ (R t r ∷ eqs))) ≡ both
          = product-means n reading db names [] (R t s ∷ (R t r ∷ eqs))
          ∙ rw (meaning-Rel n reading db names [] t s, meaning-Rel n reading db names [] t r, joined) (tables.key_joins ks (table_rows db t) (vals s) (vals r) key) in
          let right_is : m (product_of (R t s ∷ equal_rows s r)) ≡ both
          = product-means n reading db names [] (R t s ∷ equal_rows s r) ∙ rw (meaning-Rel n reading db names [] t s, whole) refl in
          left_is ∙ sym right_is

      pub sound-Key : Good Free k (row F rule.Key args)
      sound-Key = walk.N-good (IsClosedArg k) Free Same _ (λ t. walk.N-good (IsClosedArg k) Free Same _ (λ i. walk.L-good (IsClosedArg k) Free Same _ (λ s cs. walk.L-good (IsClosedArg k) Free Same _ (λ r cr. walk.end-good (IsClosedArg k) Free Same (key_fault F t i s r) _ _ (λ e h. same_key t i s r (key_fits t i s r e)))))) args c

      -- ---- foreign keys
      the_key : (f : Fkey) (ks : List (List ℕ)) → Has (AreSameColumns f.key) ks → Each (IsKey (table_rows db f.to)) ks
          → (ks : List ℕ) × Each (IsAmong f.key) ks × IsKey (table_rows db f.to) ks
      the_key f [] h e = absurd h
      the_key f (ks ∷ others) (inl x) e = (ks, x.back, e.0)
      the_key f (ks ∷ others) (inr h) e = the_key f others h e.1

      -- what the sums over a row of the referenced table come to, where the referencing columns have the values x
      counted : (f : Fkey) (s : List Val) → FkeyFits F f → length s ≡ width F f.from → Each (IsClosedValue 0) s
          → m (referenced F f s) ≡ tables.found f.key (at_columns f.cols (vals s)) (table_rows db f.to)
      counted f s o l cs =
          let w : ℕ = width F f.to in
          let body : U = product_of (R f.to (places w) ∷ equal_columns (places w) f.key s f.cols) in
          let x : List ℕ = at_columns f.cols (vals s) in
          let keyed : AllBelow (length (places w)) f.key = rw (columns.length-places w) (at.referenced-below F ok f o) in
          let cols : AllBelow (length s) f.cols = rw l o.columns in
          let each : (r : List ℕ) → IsRow n w r → meaning n reading db names (nested.onto r []) body ≡ occurrences r (table_rows db f.to) * one_if (same_row (at_columns f.key r) x)
          = λ r e.
          let p : List ℕ = nested.onto r [] in
          let row_is : list_meaning n reading db names p (places w) ≡ r = subst (λ (j : ℕ). list_meaning n reading db names p (places j) ≡ r) e.long (nested.places-mean n reading db names r []) in
          let eqs : List U = equal_columns (places w) f.key s f.cols in
          let joined : product_by (λ (y : U). meaning n reading db names p y) eqs ≡ one_if (same_row (at_columns f.key (list_meaning n reading db names p (places w))) (at_columns f.cols (list_meaning n reading db names p s)))
          = columns.columns-mean n reading db names p (places w) s f.key f.cols (sym o.counts) keyed cols in
          let same_x : list_meaning n reading db names p s ≡ vals s = columns.closed_values n reading db names s p cs in
          product-means n reading db names p (R f.to (places w) ∷ eqs) ∙ rw (meaning-Rel n reading db names p f.to (places w), joined, same_x, row_is) refl in
          nested.sums-mean n reading db names w body []
          ∙ sum_rows-same n w _ (λ r. occurrences r (table_rows db f.to) * one_if (same_row (at_columns f.key r) x)) each
          ∙ sum_rows-rows n w (table_rows db f.to) (λ r. one_if (same_row (at_columns f.key r) x)) (at.rows-at F ok n db meets f.to o.to)

      same_fkey : (f : Fkey) (s : List Val) → FkeyFits F f → Refers db (referential_constraint f) → length s ≡ width F f.from → Each (IsClosedValue 0) s → m (R f.from s) ≡ m (R f.from s ⊗ referenced F f s)
      same_fkey f s o h l cs =
          let ks = the_key f (keys_of F f.to) o.key (at.keys-hold F ok n db meets f.to o.to) in
          let x : List ℕ = at_columns f.cols (vals s) in
          let one : 0 < occurrences (vals s) (table_rows db f.from) → tables.found f.key x (table_rows db f.to) ≡ 1
          = λ g. tables.one_found ks.0 f.key x (table_rows db f.to) ks.1 ks.2 (tables.Each-occurs (λ r. Has (λ t. at_columns f.key t ≡ at_columns f.cols r) (table_rows db f.to)) (table_rows db f.from) (vals s) h g) in
          simp (meaning_at, counted f s o l cs) (times_one (occurrences (vals s) (table_rows db f.from)) (tables.found f.key x (table_rows db f.to)) one)
        where
          times_one : (a b : ℕ) → (0 < a → b ≡ 1) → a ≡ a * b
          times_one zero b h = omega arith
          times_one (suc a) b h = let e : b ≡ 1 = h (omega arith) in rw e (omega arith)

      Each-get : {X : Type 0} (Q : X → Type 0) (xs : List X) (i : ℕ) (x : X) → Each Q xs → slice_get xs i ≡ Some x → Q x
      Each-get Q xs i x h e = subst Q (get_or_from_slice_get xs i x x e) (at.Each-at Q xs i x h (slice_get_within xs i x e))

      sound-fkey_row : (o : Option Fkey) → ((f : Fkey) → o ≡ Some f → FkeyFits F f × Refers db (referential_constraint f)) → (s : List Val) → Each (IsClosedValue 0) s
          → (rest : List Arg) → Each (IsClosedArg k) rest → Good Free k (fkey_row F o s rest)
      sound-fkey_row None h s cs = walk.end-good (IsClosedArg k) Free Same _ _ _ (λ e j. refl)
      sound-fkey_row (Some f) h s cs =
          walk.end-good (IsClosedArg k) Free Same (unless (nat_eq (length s) (width F f.from)) _ None) (R f.from s) (R f.from s ⊗ referenced F f s)
          (λ e j. let g = need _ _ _ e in let i = h f refl in same_fkey f s i.0 i.1 (eqb-true _ _ g.0) cs)

      pub sound-Fkey : Good Free k (row F rule.Fkey args)
      sound-Fkey = walk.N-good (IsClosedArg k) Free Same _ (λ i. walk.L-good (IsClosedArg k) Free Same _ (λ s cs. sound-fkey_row (slice_get F.fkeys i)
          (λ f e. (Each-get (FkeyFits F) F.fkeys i f ok.fkeys e, Each-get (λ g. Refers db (referential_constraint g)) F.fkeys i f (at.references-hold F ok n db meets) e)) s cs)) args c
