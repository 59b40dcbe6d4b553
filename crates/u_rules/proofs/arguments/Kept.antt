-- What is kept from the arguments of a rule to its sides: that no place dangles, and what holds of each free name.
use Rattle.std.proofs.Common.{◌≡◌, ℕ, zero, suc, ◌+◌, ◌<◌, ◌≤◌, List, [], ◌∷◌, Option, Some, None, length, refl, subst, arith}
use Rattle.std.specs.Prelude.{slice_get, nat_eq}
use Rattle.data_model.specs.Lists.{Each}
use Rattle.u_terms.specs.Syntax.{U, Val, constructors}
use Rattle.u_terms.specs.declared.term.U.TheVariants as u
use Rattle.u_terms.specs.declared.term.Val.TheVariants as v
use Rattle.u_terms.specs.declared.facts.Facts.{Facts}
use Rattle.u_terms.specs.declared.facts.Fkey.{Fkey}
use Rattle.u_terms.specs.Binding.{sums}
use Rattle.u_rules.specs.declared.rule.Arg.{Arg}
use Rattle.u_rules.specs.declared.rule.Arg.TheVariants.{Term, Body, Value, Values, Num}
use Rattle.u_rules.specs.declared.rule.Rule.{Rule}
use Rattle.u_rules.specs.declared.rule.Rule.TheVariants as rule
use Rattle.u_rules.specs.Terms.{O, R, ◌⊗◌, put, turned, places, column, equal_columns, equal_rows, width, key_columns, referenced}
use Rattle.u_terms.specs.Products.{product_of}
use Rattle.u_rules.specs.Rows.{Row, row, fkey_row, key_fault, swap_fault, unless, body_places}
use Rattle.u_rules.proofs.soundness.Walk as walk

-- C k u: kept inside k binders
pub record IsKept (C : ℕ → U → Type 0) (CV : ℕ → Val → Type 0) : Type 0 where
  pub zero_ : (k : ℕ) → C k u.Zero
  pub one : (k : ℕ) → C k u.One
  pub add : (k : ℕ) (a b : U) → C k a → C k b → C k (u.Add a b)
  pub mul : (k : ℕ) (a b : U) → C k a → C k b → C k (u.Mul a b)
  pub squash : (k : ℕ) (a : U) → C k a → C k (u.Squash a)
  pub not : (k : ℕ) (a : U) → C k a → C k (u.Not a)
  pub sum : (k : ℕ) (f : U) → C (k + 1) f → C k (u.Sum f)
  pub rel : (k table : ℕ) (vs : List Val) → Each (CV k) vs → C k (u.Rel table vs)
  pub eq : (k : ℕ) (a b : Val) → CV k a → CV k b → C k (u.Eq a b)
  pub pred : (k symbol : ℕ) (vs : List Val) → Each (CV k) vs → C k (u.Pred symbol vs)
  pub bound : (k i : ℕ) → i < k → CV k (v.Bound i)
  pub lit : (k i : ℕ) → CV k (v.Lit i)
  pub more : (k : ℕ) (x : U) → C 0 x → C k x
  pub value_more : (k : ℕ) (a : Val) → CV 0 a → CV k a
  pub put : (e : Val) (f : U) → CV 0 e → C 1 f → C 0 (put e f)
  pub turned : (a b : ℕ) (f : U) → C (a + b) f → C (a + b) (turned a b f)

module _ (C : ℕ → U → Type 0) (CV : ℕ → Val → Type 0) (is : IsKept C CV) where
  abbrev pub KeptArg : ℕ → Arg → Type 0
  KeptArg k (Term x) = C 0 x
  KeptArg k (Body f) = C k f
  KeptArg k (Value a) = CV 0 a
  KeptArg k (Values s) = Each (CV 0) s
  KeptArg k (Num i) = Unit {0}

  abbrev Free : U → U → Type 0
  Free l r = Unit {0}

  abbrev Both : U → U → Type 0
  Both l r = C 0 l × C 0 r

  abbrev pub Good : ℕ → Option Row → Type 0
  Good k = walk.Good (KeptArg k) Free Both

  -- ---- parts
  sums-kept : (w k : ℕ) (f : U) → C (k + w) f → C k (sums w f)
  unfolding constructors
  sums-kept zero k f c = let e : k + 0 ≡ k = omega arith in subst (λ m. C m f) e c
  sums-kept (suc w) k f c = let e : k + suc w ≡ k + 1 + w = omega arith in is.sum k (sums w f) (sums-kept w (k + 1) f (subst (λ m. C m f) e c))

  product-kept : (k : ℕ) (fs : List U) → Each (C k) fs → C k (product_of fs)
  product-kept k [] c = is.one k
  product-kept k (f ∷ []) c = c.0
  product-kept k (f ∷ (g ∷ rest)) c = is.mul k f (product_of (g ∷ rest)) c.0 (product-kept k (g ∷ rest) c.1)

  places-kept : (k w : ℕ) → w ≤ k → Each (CV k) (places w)
  places-kept k zero h = tt
  places-kept k (suc w) h = (is.bound k w (omega arith), places-kept k w (omega arith))

  column-kept : (k : ℕ) (s : List Val) (c : ℕ) → Each (CV k) s → CV k (column s c)
  column-kept k [] c each = is.lit k 0
  column-kept k (a ∷ s) zero each = each.0
  column-kept k (a ∷ s) (suc c) each = column-kept k s c each.1

  columns-kept : (k : ℕ) (s : List Val) (cs : List ℕ) (t : List Val) (ds : List ℕ) → Each (CV k) s → Each (CV k) t → Each (C k) (equal_columns s cs t ds)
  columns-kept k s [] t ds a b = tt
  columns-kept k s (c ∷ cs) t [] a b = tt
  columns-kept k s (c ∷ cs) t (d ∷ ds) a b = (is.eq k (column s c) (column t d) (column-kept k s c a) (column-kept k t d b), columns-kept k s cs t ds a b)

  rows-kept : (k : ℕ) (s t : List Val) → Each (CV k) s → Each (CV k) t → Each (C k) (equal_rows s t)
  rows-kept k [] t a b = tt
  rows-kept k (x ∷ s) [] a b = tt
  rows-kept k (x ∷ s) (y ∷ t) a b = (is.eq k x y a.0 b.0, rows-kept k s t a.1 b.1)

  values-more : (k : ℕ) (s : List Val) → Each (CV 0) s → Each (CV k) s
  values-more k [] c = tt
  values-more k (a ∷ s) c = (is.value_more k a c.0, values-more k s c.1)

  referenced-kept : (F : Facts) (f : Fkey) (s : List Val) → Each (CV 0) s → C 0 (referenced F f s)
  referenced-kept F f s c =
      let w : ℕ = width F f.to in
      let e : w ≡ 0 + w = omega arith in
      let fs : List U = R f.to (places w) ∷ equal_columns (places w) f.key s f.cols in
      let each : Each (C w) fs = (is.rel w f.to (places w) (places-kept w w (omega arith)), columns-kept w (places w) f.key s f.cols (places-kept w w (omega arith)) (values-more w s c)) in
      sums-kept w 0 (product_of fs) (subst (λ m. C m (product_of fs)) e (product-kept w fs each))

  -- ---- rules
  module _ (F : Facts) where
    swapped : (a b : ℕ) (args : List Arg) → Each (KeptArg (a + b)) args → Good (a + b) (row F rule.SumSwap (Num a ∷ Num b ∷ args))
    swapped a b args c = walk.B-good (KeptArg (a + b)) Free Both _ (λ f cf. walk.end-good (KeptArg (a + b)) Free Both (swap_fault a b) _ _ (λ e h. (sums-kept (a + b) 0 f (from f cf), sums-kept (a + b) 0 (turned a b f) (from (turned a b f) (is.turned a b f cf))))) args c
      where
        from : (x : U) → C (a + b) x → C (0 + (a + b)) x
        from x cx = let e : a + b ≡ 0 + (a + b) = omega arith in subst (λ m. C m x) e cx

    kept-SumSwap : (args : List Arg) → Each (KeptArg (body_places rule.SumSwap args)) args → Good (body_places rule.SumSwap args) (row F rule.SumSwap args)
    kept-SumSwap [] c = tt
    kept-SumSwap (Term x ∷ rest) c = tt
    kept-SumSwap (Body x ∷ rest) c = tt
    kept-SumSwap (Value x ∷ rest) c = tt
    kept-SumSwap (Values x ∷ rest) c = tt
    kept-SumSwap (Num a ∷ []) c = tt
    kept-SumSwap (Num a ∷ Term x ∷ rest) c = tt
    kept-SumSwap (Num a ∷ Body x ∷ rest) c = tt
    kept-SumSwap (Num a ∷ Value x ∷ rest) c = tt
    kept-SumSwap (Num a ∷ Values x ∷ rest) c = tt
    kept-SumSwap (Num a ∷ Num b ∷ rest) c = swapped a b rest c.1.1

    kept-Key : (k : ℕ) (args : List Arg) → Each (KeptArg k) args → Good k (row F rule.Key args)
    kept-Key k args c = walk.N-good (KeptArg k) Free Both _ (λ t. walk.N-good (KeptArg k) Free Both _ (λ i. walk.L-good (KeptArg k) Free Both _ (λ s cs. walk.L-good (KeptArg k) Free Both _ (λ r cr. walk.end-good (KeptArg k) Free Both (key_fault F t i s r) _ _ (λ e h. both t i s r cs cr))))) args c
      where
        both : (t i : ℕ) (s r : List Val) → Each (CV 0) s → Each (CV 0) r
            → C 0 (product_of (R t s ∷ (R t r ∷ equal_columns s (key_columns F t i) r (key_columns F t i)))) × C 0 (product_of (R t s ∷ equal_rows s r))
        both t i s r cs cr =
            let left : Each (C 0) (R t s ∷ (R t r ∷ equal_columns s (key_columns F t i) r (key_columns F t i)))
            = (is.rel 0 t s cs, (is.rel 0 t r cr, columns-kept 0 s (key_columns F t i) r (key_columns F t i) cs cr)) in
            let right : Each (C 0) (R t s ∷ equal_rows s r) = (is.rel 0 t s cs, rows-kept 0 s r cs cr) in
            (product-kept 0 (R t s ∷ (R t r ∷ equal_columns s (key_columns F t i) r (key_columns F t i))) left, product-kept 0 (R t s ∷ equal_rows s r) right)

    kept-fkey_row : (k : ℕ) (o : Option Fkey) (s : List Val) → Each (CV 0) s → (rest : List Arg) → Each (KeptArg k) rest → Good k (fkey_row F o s rest)
    kept-fkey_row k None s cs = walk.end-good (KeptArg k) Free Both _ O O (λ e h. (is.zero_ 0, is.zero_ 0))
    kept-fkey_row k (Some f) s cs =
        walk.end-good (KeptArg k) Free Both (unless (nat_eq (length s) (width F f.from)) _ None) (R f.from s) (R f.from s ⊗ referenced F f s)
        (λ e h. (is.rel 0 f.from s cs, is.mul 0 _ _ (is.rel 0 f.from s cs) (referenced-kept F f s cs)))

    kept-Fkey : (k : ℕ) (args : List Arg) → Each (KeptArg k) args → Good k (row F rule.Fkey args)
    kept-Fkey k args c = walk.N-good (KeptArg k) Free Both _ (λ i. walk.L-good (KeptArg k) Free Both _ (λ s cs. kept-fkey_row k (slice_get F.fkeys i) s cs)) args c

    kept : (q : Rule) (args : List Arg) → Each (KeptArg (body_places q args)) args → Good (body_places q args) (row F q args)
    kept rule.AddAc args c = walk.T-good (KeptArg 1) Free Both _ (λ x cx. walk.T-good (KeptArg 1) Free Both _ (λ y cy. walk.end-good (KeptArg 1) Free Both None x y (λ e h. (cx, cy)))) args c
    kept rule.MulAc args c = walk.T-good (KeptArg 1) Free Both _ (λ x cx. walk.T-good (KeptArg 1) Free Both _ (λ y cy. walk.end-good (KeptArg 1) Free Both None x y (λ e h. (cx, cy)))) args c
    kept rule.MulZero args c = walk.T-good (KeptArg 1) Free Both _ (λ x cx. walk.done (KeptArg 1) Free Both _ _ ((is.mul 0 _ _ cx (is.zero_ 0)), (is.zero_ 0))) args c
    kept rule.Distr args c = walk.T-good (KeptArg 1) Free Both _ (λ x cx. walk.T-good (KeptArg 1) Free Both _ (λ y cy. walk.T-good (KeptArg 1) Free Both _ (λ z cz. walk.done (KeptArg 1) Free Both _ _ ((is.mul 0 _ _ cx (is.add 0 _ _ cy cz)), (is.add 0 _ _ (is.mul 0 _ _ cx cy) (is.mul 0 _ _ cx cz)))))) args c
    kept rule.SqZero args c = walk.done (KeptArg 1) Free Both _ _ ((is.squash 0 _ (is.zero_ 0)), (is.zero_ 0)) args c
    kept rule.SqOne args c = walk.T-good (KeptArg 1) Free Both _ (λ x cx. walk.done (KeptArg 1) Free Both _ _ ((is.squash 0 _ (is.add 0 _ _ (is.one 0) cx)), (is.one 0))) args c
    kept rule.SqAdd args c = walk.T-good (KeptArg 1) Free Both _ (λ x cx. walk.T-good (KeptArg 1) Free Both _ (λ y cy. walk.done (KeptArg 1) Free Both _ _ ((is.squash 0 _ (is.add 0 _ _ (is.squash 0 _ cx) cy)), (is.squash 0 _ (is.add 0 _ _ cx cy))))) args c
    kept rule.SqMul args c = walk.T-good (KeptArg 1) Free Both _ (λ x cx. walk.T-good (KeptArg 1) Free Both _ (λ y cy. walk.done (KeptArg 1) Free Both _ _ ((is.mul 0 _ _ (is.squash 0 _ cx) (is.squash 0 _ cy)), (is.squash 0 _ (is.mul 0 _ _ cx cy))))) args c
    kept rule.SqDup args c = walk.T-good (KeptArg 1) Free Both _ (λ x cx. walk.done (KeptArg 1) Free Both _ _ ((is.mul 0 _ _ (is.squash 0 _ cx) (is.squash 0 _ cx)), (is.squash 0 _ cx))) args c
    kept rule.SqAbs args c = walk.T-good (KeptArg 1) Free Both _ (λ x cx. walk.done (KeptArg 1) Free Both _ _ ((is.mul 0 _ _ cx (is.squash 0 _ cx)), cx)) args c
    kept rule.SqFix args c = walk.T-good (KeptArg 1) Free Both _ (λ x cx. walk.done (KeptArg 1) Free Both _ _ ((is.squash 0 _ cx), cx)) args c
    kept rule.SqPart args c = walk.T-good (KeptArg 1) Free Both _ (λ x cx. walk.T-good (KeptArg 1) Free Both _ (λ y cy. walk.done (KeptArg 1) Free Both _ _ ((is.mul 0 _ _ (is.squash 0 _ cx) (is.squash 0 _ (is.add 0 _ _ cx cy))), (is.squash 0 _ cx)))) args c
    kept rule.SqEq args c = walk.V-good (KeptArg 1) Free Both _ (λ a ca. walk.V-good (KeptArg 1) Free Both _ (λ b cb. walk.done (KeptArg 1) Free Both _ _ ((is.squash 0 _ (is.eq 0 _ _ ca cb)), (is.eq 0 _ _ ca cb)))) args c
    kept rule.SqPred args c = walk.N-good (KeptArg 1) Free Both _ (λ p. walk.L-good (KeptArg 1) Free Both _ (λ s cs. walk.done (KeptArg 1) Free Both _ _ (is.squash 0 _ (is.pred 0 p s cs), is.pred 0 p s cs))) args c
    kept rule.NotZero args c = walk.done (KeptArg 1) Free Both _ _ ((is.not 0 _ (is.zero_ 0)), (is.one 0)) args c
    kept rule.NotOne args c = walk.done (KeptArg 1) Free Both _ _ ((is.not 0 _ (is.one 0)), (is.zero_ 0)) args c
    kept rule.NotMul args c = walk.T-good (KeptArg 1) Free Both _ (λ x cx. walk.T-good (KeptArg 1) Free Both _ (λ y cy. walk.done (KeptArg 1) Free Both _ _ ((is.not 0 _ (is.mul 0 _ _ cx cy)), (is.squash 0 _ (is.add 0 _ _ (is.not 0 _ cx) (is.not 0 _ cy)))))) args c
    kept rule.NotAdd args c = walk.T-good (KeptArg 1) Free Both _ (λ x cx. walk.T-good (KeptArg 1) Free Both _ (λ y cy. walk.done (KeptArg 1) Free Both _ _ ((is.not 0 _ (is.add 0 _ _ cx cy)), (is.mul 0 _ _ (is.not 0 _ cx) (is.not 0 _ cy))))) args c
    kept rule.NotSq args c = walk.T-good (KeptArg 1) Free Both _ (λ x cx. walk.done (KeptArg 1) Free Both _ _ ((is.not 0 _ (is.squash 0 _ cx)), (is.not 0 _ cx))) args c
    kept rule.SqNot args c = walk.T-good (KeptArg 1) Free Both _ (λ x cx. walk.done (KeptArg 1) Free Both _ _ ((is.squash 0 _ (is.not 0 _ cx)), (is.not 0 _ cx))) args c
    kept rule.NotSelf args c = walk.T-good (KeptArg 1) Free Both _ (λ x cx. walk.done (KeptArg 1) Free Both _ _ ((is.mul 0 _ _ cx (is.not 0 _ cx)), (is.zero_ 0))) args c
    kept rule.NotNot args c = walk.T-good (KeptArg 1) Free Both _ (λ x cx. walk.done (KeptArg 1) Free Both _ _ ((is.not 0 _ (is.not 0 _ cx)), (is.squash 0 _ cx))) args c
    kept rule.Split args c = walk.T-good (KeptArg 1) Free Both _ (λ x cx. walk.done (KeptArg 1) Free Both _ _ ((is.add 0 _ _ (is.squash 0 _ cx) (is.not 0 _ cx)), (is.one 0))) args c
    kept rule.SumZero args c = walk.done (KeptArg 1) Free Both _ _ ((is.sum 0 _ (is.zero_ 1)), (is.zero_ 0)) args c
    kept rule.SumAdd args c = walk.B-good (KeptArg 1) Free Both _ (λ f cf. walk.B-good (KeptArg 1) Free Both _ (λ g cg. walk.done (KeptArg 1) Free Both _ _ ((is.sum 0 _ (is.add 1 _ _ cf cg)), (is.add 0 _ _ (is.sum 0 _ cf) (is.sum 0 _ cg))))) args c
    kept rule.SumSwap args c = kept-SumSwap args c
    kept rule.SumMul args c = walk.T-good (KeptArg 1) Free Both _ (λ x cx. walk.B-good (KeptArg 1) Free Both _ (λ f cf. walk.done (KeptArg 1) Free Both _ _ ((is.mul 0 _ _ cx (is.sum 0 _ cf)), (is.sum 0 _ (is.mul 1 _ _ (is.more 1 x cx) cf))))) args c
    kept rule.SumSq args c = walk.B-good (KeptArg 1) Free Both _ (λ f cf. walk.done (KeptArg 1) Free Both _ _ ((is.squash 0 _ (is.sum 0 _ cf)), (is.squash 0 _ (is.sum 0 _ (is.squash 1 _ cf))))) args c
    kept rule.SumPoint args c = walk.V-good (KeptArg 1) Free Both _ (λ e ce. walk.B-good (KeptArg 1) Free Both _ (λ f cf. walk.done (KeptArg 1) Free Both _ _ ((is.sum 0 _ (is.mul 1 _ _ (is.eq 1 _ _ (is.bound 1 0 (omega arith)) (is.value_more 1 e ce)) cf)), (is.put e f ce cf)))) args c
    kept rule.SumUse args c = walk.V-good (KeptArg 1) Free Both _ (λ e ce. walk.B-good (KeptArg 1) Free Both _ (λ f cf. walk.done (KeptArg 1) Free Both _ _ ((is.mul 0 _ _ (is.squash 0 _ (is.put e f ce cf)) (is.squash 0 _ (is.sum 0 _ cf))), (is.squash 0 _ (is.put e f ce cf))))) args c
    kept rule.EqRefl args c = walk.V-good (KeptArg 1) Free Both _ (λ a ca. walk.done (KeptArg 1) Free Both _ _ ((is.eq 0 _ _ ca ca), (is.one 0))) args c
    kept rule.EqSym args c = walk.V-good (KeptArg 1) Free Both _ (λ a ca. walk.V-good (KeptArg 1) Free Both _ (λ b cb. walk.done (KeptArg 1) Free Both _ _ ((is.eq 0 _ _ ca cb), (is.eq 0 _ _ cb ca)))) args c
    kept rule.EqSubst args c = walk.V-good (KeptArg 1) Free Both _ (λ a ca. walk.V-good (KeptArg 1) Free Both _ (λ b cb. walk.B-good (KeptArg 1) Free Both _ (λ f cf. walk.done (KeptArg 1) Free Both _ _ ((is.mul 0 _ _ (is.eq 0 _ _ ca cb) (is.put a f ca cf)), (is.mul 0 _ _ (is.eq 0 _ _ ca cb) (is.put b f cb cf)))))) args c
    kept rule.EqSplit args c = walk.V-good (KeptArg 1) Free Both _ (λ a ca. walk.V-good (KeptArg 1) Free Both _ (λ b cb. walk.done (KeptArg 1) Free Both _ _ ((is.add 0 _ _ (is.eq 0 _ _ ca cb) (is.not 0 _ (is.eq 0 _ _ ca cb))), (is.one 0)))) args c
    kept rule.Key args c = kept-Key 1 args c
    kept rule.Fkey args c = kept-Fkey 1 args c

    pub sides-kept : (q : Rule) (args : List Arg) (l r : U) → row F q args ≡ Some (record { fault = None; left = l; right = r }) → Each (KeptArg (body_places q args)) args → C 0 l × C 0 r
    sides-kept q args l r e c =
        let good : Good (body_places q args) (Some (record { fault = None; left = l; right = r })) = subst (Good (body_places q args)) e (kept q args c) in
        good refl tt
