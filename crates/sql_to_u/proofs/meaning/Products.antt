-- What products and sums of terms mean, and a product of factors over the columns of a block's entries.
use Rattle.std.proofs.Common.{◌≡◌, ℕ, zero, suc, ◌+◌, ◌*◌, ◌<◌, ◌≤◌, Bool, true, false, List, [], ◌∷◌, ◌++◌, map, filter, length, get_or, refl, ap, sym, subst, ◌∙◌, arith, append_assoc}
use Rattle.std.specs.Prelude.{min, nat_eq, if◌then◌else◌}
use Rattle.std.proofs.Math.Nat.{mul_assoc}
use Rattle.data_model.specs.Lists.{Each}
use Rattle.data_model.specs.Numbers.{one_if, squash}
use Rattle.data_model.specs.Rows.{Row, same_row, occurrences, product}
use Rattle.data_model.specs.Counts.{count, counts_of}
use Rattle.data_model.specs.Reading.{Reading, aggregate_value}
use Rattle.data_model.specs.Database.{Database}
use Rattle.data_model.proofs.Sums.{AreRows, AreTables, sum_row_lists-same, sum_row_lists-product, weight, sum_over, one_if-and}
use Rattle.data_model.proofs.Occurrences.{occurrences-append, occurrences-distinct, sum_over-filter, count-over, squash-min}
use Rattle.sql_model.specs.Syntax.{SetOp, UnionAll, Union, Except, Intersect}
use Rattle.sql_model.specs.Answers.{distinct_if, combined}
use Rattle.sql_model.proofs.SetOperators.{occurrences-except, occurrences-intersect}
use Rattle.u_terms.specs.Syntax.{U, Val}
use Rattle.u_terms.specs.declared.term.U.TheVariants as u
use Rattle.u_terms.specs.declared.term.Val.TheVariants as v
use Rattle.u_terms.specs.Places.{IsClosedValue}
use Rattle.u_terms.specs.Meaning.{put, meaning, value_meaning}
use Rattle.u_terms.specs.Binding.{closed_at}
use Rattle.u_terms.proofs.Products as products
use Rattle.u_terms.proofs.Products.{product_by, product_by-append}
use Rattle.u_terms.proofs.Agreement.{get_or-put_same, list_below-same}
use Rattle.u_terms.proofs.Meanings.{meaning-Zero, meaning-Add, meaning-Mul, meaning-Squash, meaning-Not, meaning-Eq, meaning-Free}
use Rattle.u_terms.proofs.OverNames.{AgreeBelow, AgreeBelow-trans, put-agree, put_rows, put_rows-agree, aggregate-means}
use Rattle.scope_core.proofs.rows.RowsFit.{Fits}
use Rattle.scope_core.specs.Scope.{Place}
use Rattle.scope_core.specs.Syntax.{Entries}
use Rattle.scope_core.specs.Environments.{Environment, frame_of, row_of, members_here, outer_frames}
use Rattle.scope_core.specs.Evaluation.{values_at}
use Rattle.scope_core.specs.Sound.{SeenRows, SeenGroup, SeenMember, SeenBlocks, SeesGroup, widths, member_seen}
use Rattle.sql_to_u.specs.Factors.{sum_of, over_names, squash_if, combined_terms, names_from, key_equalities}
use Rattle.u_terms.specs.Products.{product_of}
use Rattle.sql_to_u.specs.Scopes.{Scope, count_columns, firsts, members_of, member_scope, counted}
use Rattle.sql_to_u.proofs.meaning.OverEntries.{over_entries-means}
use Rattle.sql_to_u.proofs.names.Seeing.{ReadsRow, ReadsRows, KnowsMembers, Reads, Reads-later, reads_own, reads}
use Rattle.sql_to_u.proofs.names.Closed.{AreClosed, both-closed, product-closed, squash_if-closed, counted-closed, closed-Eq, closed-Free, HasClosedFactors}

abbrev pub total : List ℕ → ℕ
total [] = 0
total (x ∷ xs) = x + total xs

module _ (n : ℕ) (reading : Reading) (db : Database) where
  abbrev pub mean : List ℕ → U → ℕ
  mean names a = meaning n reading db names [] a

  abbrev pub mean_value : List ℕ → Val → ℕ
  mean_value names a = value_meaning n reading db names [] a

  abbrev pub mean_values : List ℕ → List Val → Row
  mean_values names vs = map (value_meaning n reading db names []) vs

  abbrev pub factors_mean : List ℕ → List U → ℕ
  factors_mean names fs = product_by (meaning n reading db names []) fs

  pub product-means : (names : List ℕ) (fs : List U) → mean names (product_of fs) ≡ factors_mean names fs
  product-means names fs = products.product-means n reading db names [] fs

  pub sum-means : (names : List ℕ) (fs : List U) → mean names (sum_of fs) ≡ total (map (meaning n reading db names []) fs)
  sum-means names [] = meaning-Zero n reading db names []
  sum-means names (f ∷ []) = omega arith
  sum-means names (f ∷ g ∷ rest) =
      meaning-Add n reading db names [] f (sum_of (g ∷ rest)) ∙ ap (λ m. mean names f + m) (sum-means names (g ∷ rest))

  pub both-mean : (names : List ℕ) (fs gs : List U) → factors_mean names (fs ++ gs) ≡ factors_mean names fs * factors_mean names gs
  both-mean names fs gs = product_by-append (meaning n reading db names []) fs gs

  pub alone : (names : List ℕ) (a : U) (m : ℕ) → mean names a ≡ m → factors_mean names (a ∷ []) ≡ m
  alone names a m e = rw e (omega arith)

  -- ---- rows of values
  -- vs are the row r for all names that agree with these below d
  abbrev pub Stand : List ℕ → ℕ → List Val → Row → Type 0
  Stand names d vs r = (names' : List ℕ) → AgreeBelow d names names' → mean_values names' vs ≡ r

  -- the names from s on stand for the row that they read
  names-read : (names : List ℕ) (s count : ℕ) (r : Row) → length r ≡ count → ((i : ℕ) → i < length r → get_or names (s + i) 0 ≡ get_or r i 0)
      → mean_values names (names_from s count) ≡ r
  names-read names s zero [] h e = refl
  names-read names s zero (x ∷ r) h e = absurd (omega (arith, h))
  names-read names s (suc count) [] h e = absurd (omega (arith, h))
  names-read names s (suc count) (x ∷ r) h e =
      let here : s + 0 ≡ s = omega arith in
      let first : get_or names s 0 ≡ x = subst (λ k. get_or names k 0 ≡ x) here (e 0 (omega arith)) in
      let rest = names-read names (s + 1) count r (omega (arith, h))
      (λ i lt. let next : s + suc i ≡ (s + 1) + i = omega arith in subst (λ k. get_or names k 0 ≡ get_or r i 0) next (e (suc i) (omega (arith, lt)))) in
      λ i. (meaning-Free n reading db names [] s ∙ first) i ∷ rest i

  pub names-stand : (names : List ℕ) (s d count : ℕ) (r : Row) → length r ≡ count → ReadsRow names d s r → Stand names d (names_from s count) r
  names-stand names s d count r h e names' b = names-read names' s count r h (λ i lt. b (s + i) (e i lt).0 ∙ (e i lt).1)

  pub Stand-later : (names names' : List ℕ) (d d' : ℕ) (vs : List Val) (r : Row) → AgreeBelow d names names' → d ≤ d' → Stand names d vs r → Stand names' d' vs r
  Stand-later names names' d d' vs r b le h names'' b' = h names'' (AgreeBelow-trans d d' names names' names'' b b' le)

  -- ---- DISTINCT and set operators
  pub squash_if-means : (b : Bool) (names : List ℕ) (a : U) (r : Row) (rs : List Row) → mean names a ≡ occurrences r rs
      → mean names (squash_if b a) ≡ occurrences r (distinct_if b rs)
  squash_if-means true names a r rs e = meaning-Squash n reading db names [] a ∙ ap squash e ∙ sym (occurrences-distinct r rs)
  squash_if-means false names a r rs e = e

  pub combined-means : (op : SetOp) (names : List ℕ) (p q : U) (r : Row) (ps qs : List Row) → mean names p ≡ occurrences r ps → mean names q ≡ occurrences r qs
      → mean names (combined_terms op p q) ≡ occurrences r (combined op ps qs)
  combined-means UnionAll names p q r ps qs e f = meaning-Add n reading db names [] p q ∙ (rw (e, f) (sym (occurrences-append r ps qs)))
  combined-means Union names p q r ps qs e f =
      meaning-Squash n reading db names [] (u.Add p q) ∙ ap squash (meaning-Add n reading db names [] p q ∙ (rw (e, f) (sym (occurrences-append r ps qs))))
      ∙ sym (occurrences-distinct r (ps ++ qs))
  combined-means Except names p q r ps qs e f =
      meaning-Mul n reading db names [] (u.Squash p) (u.Not q)
      ∙ (rw (meaning-Squash n reading db names [] p, meaning-Not n reading db names [] q, e, f) (sym (occurrences-except r ps qs)))
  combined-means Intersect names p q r ps qs e f =
      meaning-Squash n reading db names [] (u.Mul p q) ∙ ap squash (meaning-Mul n reading db names [] p q ∙ (rw (e, f) refl)) ∙ sym (occurrences-intersect r ps qs)

  -- ---- combinations of entries
  -- P of names that agree with these below d and read the combination c from d on
  abbrev pub Reading_of : {m : _} → Entries m → List ℕ → ℕ → (List ℕ → List Row → Type 0) → Type 0
  Reading_of es names d P =
      (names'' : List ℕ) (c : List Row) → AgreeBelow d names names'' → AreRows n (widths es) c → ReadsRows names'' (d + count_columns es) (firsts es d) c → P names'' c

  pub combinations-mean : {m : _} (es : Entries m) (names : List ℕ) (d : ℕ) (fronts backs rest : List U) (Rs : List (List Row)) (p : List Row → Bool) (F : List Row → ℕ)
      → AreClosed fronts → AreClosed backs → AreClosed rest → AreTables n (widths es) Rs
      → Reading_of es names d (λ names'' c. factors_mean names'' fronts ≡ weight Rs c) → Reading_of es names d (λ names'' c. factors_mean names'' backs ≡ one_if (p c))
      → Reading_of es names d (λ names'' c. factors_mean names'' rest ≡ F c)
      → mean names (over_names d (count_columns es) (product_of ((fronts ++ backs) ++ rest))) ≡ sum_over F (filter p (product Rs))
  combinations-mean es names d fronts backs rest Rs p F cf cb cr tables hf hb hr =
      let ks = widths es in
      let fs = (fronts ++ backs) ++ rest in
      over_entries-means n reading db es d names (product_of fs) (product-closed fs (both-closed (fronts ++ backs) rest (both-closed fronts backs cf cb) cr))
      ∙ sum_row_lists-same n ks _ (λ b. weight Rs b * (one_if (p b) * F b)) (λ b k.
      let names'' = put_rows names d b in
      let below = put_rows-agree d d b names (omega arith) in
      let own = reads_own n es d names b k in
      product-means names'' fs
      ∙ both-mean names'' (fronts ++ backs) rest
      ∙ (rw (both-mean names'' fronts backs, hf names'' b below k own, hb names'' b below k own, hr names'' b below k own) (mul_assoc (weight Rs b) (one_if (p b)) (F b))))
      ∙ sum_row_lists-product n ks Rs (λ b. one_if (p b) * F b) tables
      ∙ sym (sum_over-filter F p (product Rs))

  -- the members of a group
  pub knows : {m : _} (es : Entries m) (names : List ℕ) (d : ℕ) (fronts backs : ℕ → List U) (Rs : List (List Row)) (p : List Row → Bool)
      → ((e : ℕ) → AreClosed (fronts e)) → ((e : ℕ) → AreClosed (backs e)) → AreTables n (widths es) Rs
      → ((names' : List ℕ) (e : ℕ) → AgreeBelow d names names' → d ≤ e → Reading_of es names' e (λ names'' c. factors_mean names'' (fronts e) ≡ weight Rs c))
      → ((names' : List ℕ) (e : ℕ) → AgreeBelow d names names' → d ≤ e → Reading_of es names' e (λ names'' c. factors_mean names'' (backs e) ≡ one_if (p c)))
      → KnowsMembers n reading db names d (widths es) (record { columns = count_columns es; firsts = λ e. firsts es e; factors = λ e. fronts e ++ backs e }) (filter p (product Rs))
  knows es names d fronts backs Rs p cf cb tables hf hb names' e below le a F ca ha =
      combinations-mean es names' e (fronts e) (backs e) (a ∷ []) Rs p F (cf e) (cb e) (ca, tt) tables (hf names' e below le) (hb names' e below le)
      (λ names'' c b k own. rw (ha names'' c b k own) (omega arith))

  pub knows-keyed : {m : _} (es : Entries m) (names : List ℕ) (d : ℕ) (fronts backs keys : ℕ → List U) (Rs : List (List Row)) (p : List Row → Bool) (key : List Row → Row) (k : Row)
      → ((e : ℕ) → AreClosed (fronts e)) → ((e : ℕ) → AreClosed (backs e)) → ((e : ℕ) → AreClosed (keys e)) → AreTables n (widths es) Rs
      → ((names' : List ℕ) (e : ℕ) → AgreeBelow d names names' → d ≤ e → Reading_of es names' e (λ names'' c. factors_mean names'' (fronts e) ≡ weight Rs c))
      → ((names' : List ℕ) (e : ℕ) → AgreeBelow d names names' → d ≤ e → Reading_of es names' e (λ names'' c. factors_mean names'' (backs e) ≡ one_if (p c)))
      → ((names' : List ℕ) (e : ℕ) → AgreeBelow d names names' → d ≤ e → Reading_of es names' e (λ names'' c. factors_mean names'' (keys e) ≡ one_if (same_row (key c) k)))
      → KnowsMembers n reading db names d (widths es) (record { columns = count_columns es; firsts = λ e. firsts es e; factors = λ e. (fronts e ++ backs e) ++ keys e })
      (filter (λ c. same_row (key c) k) (filter p (product Rs)))
  knows-keyed es names d fronts backs keys Rs p key k cf cb ck tables hf hb hk names' e below le a F ca ha =
      ap (λ fs. mean names' (over_names e (count_columns es) (product_of fs))) (append_assoc (fronts e ++ backs e) (keys e) (a ∷ []))
      ∙ combinations-mean es names' e (fronts e) (backs e) (keys e ++ a ∷ []) Rs p (λ c. one_if (same_row (key c) k) * F c) (cf e) (cb e)
      (both-closed (keys e) (a ∷ []) (ck e) (ca, tt)) tables (hf names' e below le) (hb names' e below le)
      (λ names'' c b i own. both-mean names'' (keys e) (a ∷ []) ∙ (rw (hk names' e below le names'' c b i own, ha names'' c b i own) (omega arith)))
      ∙ sym (sum_over-filter F (λ c. same_row (key c) k) (filter p (product Rs)))

  -- that a combination has this key
  pub keys-mean : (columns : List Place) (names : List ℕ) (z : ℕ) (ks ss : List ℕ) (c : List Row) (key : ℕ) (k : Row) → Each (λ col. col.1 < get_or ks col.0 0) columns
      → AreRows n ks c → ReadsRows names z ss c → length k ≡ length columns → ((i : ℕ) → i < length k → get_or names (key + i) 0 ≡ get_or k i 0)
      → factors_mean names (key_equalities columns ss key) ≡ one_if (same_row (values_at columns c) k)
  keys-mean [] names z ks ss c key [] h is s long e = refl
  keys-mean [] names z ks ss c key (x ∷ k) h is s long e = absurd (omega (arith, long))
  keys-mean (col ∷ columns) names z ks ss c key [] h is s long e = absurd (omega (arith, long))
  keys-mean (col ∷ columns) names z ks ss c key (x ∷ k) h is s long e =
      let here : key + 0 ≡ key = omega arith in
      let first : get_or names key 0 ≡ x = subst (λ q. get_or names q 0 ≡ x) here (e 0 (omega arith)) in
      let rest = keys-mean columns names z ks ss c (key + 1) k h.1 is s (omega (arith, long))
      (λ i lt. let next : key + suc i ≡ (key + 1) + i = omega arith in subst (λ q. get_or names q 0 ≡ get_or k i 0) next (e (suc i) (omega (arith, lt)))) in
      let at = v.Free (get_or ss col.0 0 + col.1) in
      rw (
        meaning-Eq n reading db names [] at (v.Free key),
        meaning-Free n reading db names [] (get_or ss col.0 0 + col.1),
        meaning-Free n reading db names [] key,
        reads n names z ks ss c col.0 col.1 is s h.0,
        first,
        rest,
      )
      (sym (one_if-and (nat_eq (get_or (row_of c col.0) col.1 0) x) (same_row (values_at columns c) k)))

  -- ---- aggregates
  squash_if-counts : (b : Bool) (names : List ℕ) (a : U) (m : ℕ) → mean names a ≡ m → mean names (squash_if b a) ≡ (if b then min m 1 else m)
  squash_if-counts true names a m e = meaning-Squash n reading db names [] a ∙ ap squash e ∙ squash-min m
  squash_if-counts false names a m e = e

  pub group-means : (i : ℕ) (is_distinct : Bool) (shape : SeenBlocks) (env : Environment) (scope : Scope) (names : List ℕ) (d : ℕ) (x : Val) (val : List Row → ℕ)
      → SeesGroup shape → Fits n shape env → Reads n reading db names d shape scope env → HasClosedFactors (members_of scope) → IsClosedValue 0 x
      → ((names'' : List ℕ) (c : List Row) → Fits n (member_seen shape) (frame_of c ∷ outer_frames env)
      → Reads n reading db names'' (d + 1 + (members_of scope).columns) (member_seen shape) (member_scope scope (d + 1)) (frame_of c ∷ outer_frames env)
      → mean_value names'' x ≡ val c)
      → mean_value names (v.Agg i (closed_at (squash_if is_distinct (counted (members_of scope) x d)) d))
      ≡ aggregate_value reading i (counts_of n is_distinct (map val (members_here env)))
  group-means i is_distinct [] env scope names d x val g f s c cx hx = absurd g
  group-means i is_distinct (SeenRows ks ∷ shape) env scope names d x val g f s c cx hx = absurd g
  group-means i is_distinct (SeenMember ks ∷ shape) env scope names d x val g f s c cx hx = absurd g
  group-means i is_distinct (SeenGroup m ks ∷ shape) [] scope names d x val g f s c cx hx = absurd f
  group-means i is_distinct (SeenGroup m ks ∷ shape) (fr ∷ env) [] names d x val g f s c cx hx = absurd s
  group-means i is_distinct (SeenGroup m ks ∷ shape) (fr ∷ env) (h ∷ scope) names d x val g f s c cx hx =
      let a = counted h.members x d in
      aggregate-means n reading db names d i (squash_if is_distinct a) (squash_if-closed is_distinct a (counted-closed h.members x d c cx))
      ∙ ap (aggregate_value reading i) (list_below-same n _ _ (λ y lt.
      let names' = put names d y in
      let below : AgreeBelow d names names' = put-agree d d y names (omega arith) in
      squash_if-counts is_distinct names' a (count y (map val fr.members))
      (s.0.1 names' (d + 1) below (omega arith) (u.Eq x (v.Free d)) (λ b. one_if (nat_eq (val b) y)) (closed-Eq x (v.Free d) cx (closed-Free d))
      (λ names'' b below'' k own.
      let read : get_or names'' d 0 ≡ y = below'' d (omega arith) ∙ get_or-put_same names d y in
      let mean = hx names'' b (k, f.1) (own, Reads-later n reading db names names'' d (d + 1 + h.members.columns) shape scope env (AgreeBelow-trans d (d + 1) names names' names'' below below'' (omega arith)) (omega arith) s.1) in
      meaning-Eq n reading db names'' [] x (v.Free d) ∙ (rw (mean, meaning-Free n reading db names'' [] d, read) refl))
      ∙ sym (count-over y val fr.members))))
