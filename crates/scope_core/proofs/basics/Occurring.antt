-- Where a name stands among columns that grow at their end.
use Rattle.std.proofs.Common.{◌≡◌, ℕ, zero, suc, ◌+◌, ◌<◌, ◌≤◌, Bool, true, false, cond, not, ◌||◌, List, [], ◌∷◌, ◌++◌, length, filter, Option, Some, None, refl, ap, sym, subst, ◌∙◌, arith}
use Rattle.std.specs.Prelude.{nat_lt, is_some, position, option_map, unwrap_or}
use Rattle.std.specs.List.{flat_map, list_any, position_or_len}
use Rattle.std.specs.Option.{option_or}
use Rattle.std.specs.Borrow.{Bor}
use Rattle.std.specs.Cmp.Lexicographic.{bytes_decides, nat_list_eq_equiv}
use Rattle.std.proofs.lemmas.Bool.Decides.{nat_tests}
use Rattle.std.proofs.lemmas.List.{length-append}
use Rattle.std.proofs.lemmas.List.Concat.{flat_map-cons}
use Rattle.std.proofs.lemmas.List.Elements.{filter-append}
use Rattle.std.proofs.lemmas.List.Folds.{list_any-append}
use Rattle.std.proofs.lemmas.Option.{none-some}
use Rattle.sql_model.specs.Syntax.{Name}
use Rattle.sql_model.specs.Frames.{ColumnName}
use Rattle.sql_model.specs.Columns.{same_name, is_called}
use Rattle.sql_model.specs.Headings.{Heading}
use Rattle.scope_core.specs.declared.names.Occurrences.{Occurrences}
use Rattle.scope_core.specs.Faults.{count_called, is_repeated, name_twice}
use Rattle.scope_core.specs.Names.{occurrences, indexed, noted, IsIndexOf}
use Rattle.scope_core.specs.Scope.{bare_place}
use Rattle.scope_core.proofs.basics.Booleans.{no}
use Rattle.scope_core.proofs.basics.Lists.{count_called-append}

-- ---- first places
module _ {X : Type 0} (p : X → Bool) where
  pub position-cons : (x : X) (xs : List X) → position p (x ∷ xs) ≡ cond (p x) (Some 0) (option_map (λ i. suc i) (position p xs))
  position-cons x xs = by (p x)
    where
      shift : (i n : ℕ) (b : Bool) → nat_lt i n ≡ b → nat_lt (1 + i) (suc n) ≡ b
      shift i n true e = grind (arith, nat_tests, e)
      shift i n false e = grind (arith, nat_tests, e)

      first : (n : ℕ) → nat_lt 0 (suc n) ≡ true
      first n = grind (arith, nat_tests)

      later : (i n : ℕ) → cond (nat_lt (1 + i) (suc n)) (Some (1 + i)) None ≡ option_map (λ i. suc i) (cond (nat_lt i n) (Some i) None)
      later i n = ap (λ b. cond b (Some (1 + i)) None) (shift i n (nat_lt i n) refl) ∙ on (nat_lt i n)
        where
          on : (b : Bool) → cond b (Some (1 + i)) None ≡ option_map (λ i. suc i) (cond b (Some i) None)
          on true = let e : 1 + i ≡ suc i = omega arith in ap (λ n. Some n) e
          on false = refl

      by : (b : Bool) → cond (nat_lt (cond (not b) (1 + position_or_len p xs) 0) (suc (length xs))) (Some (cond (not b) (1 + position_or_len p xs) 0)) None
          ≡ cond b (Some 0) (option_map (λ i. suc i) (position p xs))
      by true = ap (λ b. cond b (Some 0) None) (first (length xs))
      by false = later (position_or_len p xs) (length xs)

  pub position-append : (xs ys : List X) → position p (xs ++ ys) ≡ option_or (position p xs) (option_map (λ i. length xs + i) (position p ys))
  position-append [] ys = by (position p ys)
    where
      by : (o : Option ℕ) → o ≡ option_map (λ i. 0 + i) o
      by None = refl
      by (Some i) = let e : i ≡ 0 + i = omega arith in ap (λ n. Some n) e
  position-append (x ∷ xs) ys =
      position-cons x (xs ++ ys)
      ∙ (ap (λ o. cond (p x) (Some 0) (option_map (λ i. suc i) o)) (position-append xs ys)
      ∙ (by (p x) (position p xs) (position p ys) ∙ sym (ap (λ o. option_or o (option_map (λ i. suc (length xs) + i) (position p ys))) (position-cons x xs))))
    where
      by : (b : Bool) (o o' : Option ℕ) → cond b (Some 0) (option_map (λ i. suc i) (option_or o (option_map (λ i. length xs + i) o')))
          ≡ option_or (cond b (Some 0) (option_map (λ i. suc i) o)) (option_map (λ i. suc (length xs) + i) o')
      by true o o' = refl
      by false (Some i) o' = refl
      by false None None = refl
      by false None (Some i) = let e : suc (length xs + i) ≡ suc (length xs) + i = omega arith in ap (λ n. Some n) e

  pub position-within : (xs : List X) (i : ℕ) → position p xs ≡ Some i → i < length xs
  position-within [] i e = absurd (none-some i e)
  position-within (x ∷ xs) i e = by (p x) (position p xs) (sym (position-cons x xs) ∙ e) (position-within xs)
    where
      by : (b : Bool) (o : Option ℕ) → cond b (Some 0) (option_map (λ i. suc i) o) ≡ Some i → ((j : ℕ) → o ≡ Some j → j < length xs) → i < suc (length xs)
      by true o e w = let z : 0 ≡ i = ap (λ s. unwrap_or s 0) e in omega (arith, z)
      by false None e w = absurd (none-some i e)
      by false (Some j) e w = let n : suc j ≡ i = ap (λ s. unwrap_or s 0) e in omega (arith, n, w j refl)

  pub position-push : (xs : List X) (x : X) → position p (xs ++ x ∷ []) ≡ option_or (position p xs) (cond (p x) (Some (length xs)) None)
  position-push [] x = position-cons x []
  position-push (y ∷ xs) x =
      position-cons y (xs ++ x ∷ [])
      ∙ (ap (λ o. cond (p y) (Some 0) (option_map (λ i. suc i) o)) (position-push xs x)
      ∙ (by (p y) (position p xs) (p x) ∙ sym (ap (λ o. option_or o (cond (p x) (Some (suc (length xs))) None)) (position-cons y xs))))
    where
      by : (b : Bool) (o : Option ℕ) (c : Bool) → cond b (Some 0) (option_map (λ i. suc i) (option_or o (cond c (Some (length xs)) None)))
          ≡ option_or (cond b (Some 0) (option_map (λ i. suc i) o)) (cond c (Some (suc (length xs))) None)
      by true o c = refl
      by false (Some i) c = refl
      by false None true = refl
      by false None false = refl

  -- how many pass, by the first that does
  abbrev pub CountOf : Option ℕ → ℕ → Type 0
  CountOf None n = n ≡ 0
  CountOf (Some i) n = 1 ≤ n

  pub counted : (xs : List X) → CountOf (position p xs) (length (filter p xs))
  counted [] = refl
  counted (x ∷ xs) = subst (λ o. CountOf o (length (filter p (x ∷ xs)))) (sym (position-cons x xs)) (by (p x) (position p xs) (counted xs))
    where
      by : (b : Bool) (o : Option ℕ) → CountOf o (length (filter p xs)) → CountOf (cond b (Some 0) (option_map (λ i. suc i) o)) (length (cond b (x ∷ filter p xs) (filter p xs)))
      by true o c = omega arith
      by false None c = c
      by false (Some i) c = c

  pub some-any : (xs : List X) → is_some (position p xs) ≡ list_any p xs
  some-any [] = refl
  some-any (x ∷ xs) = ap (λ o. is_some o) (position-cons x xs) ∙ by (p x) (position p xs) (some-any xs)
    where
      by : (b : Bool) (o : Option ℕ) → is_some o ≡ list_any p xs → is_some (cond b (Some 0) (option_map (λ i. suc i) o)) ≡ (b || list_any p xs)
      by true o e = refl
      by false None e = e
      by false (Some i) e = e

-- ---- names
symmetric : (a b : Name) → same_name a b ≡ same_name b a
symmetric a b = nat_list_eq_equiv.symm a b

pub occurrences-push : (name : Name) (columns : List ColumnName) (c : ColumnName)
    → occurrences name (columns ++ c ∷ []) ≡ cond (is_called name c) (Some (noted (length columns) (occurrences name columns))) (occurrences name columns)
occurrences-push name columns c =
    let p = is_called name in
    ap (λ n. option_map (λ i. made i n) (position p (columns ++ c ∷ []))) (ap (λ l. length l) (filter-append p columns (c ∷ [])) ∙ length-append (filter p columns) (filter p (c ∷ [])))
    ∙ (ap (λ o. option_map (λ i. made i (length (filter p columns) + length (filter p (c ∷ [])))) o) (position-push p columns c)
    ∙ by (p c) (position p columns) (length (filter p columns)) (counted p columns))
  where
    made : ℕ → ℕ → Occurrences
    made i n = record { first = i; twice = nat_lt 1 n }

    by : (b : Bool) (o : Option ℕ) (n : ℕ) → CountOf (is_called name) o n
        → option_map (λ i. made i (n + length (cond b (c ∷ []) []))) (option_or o (cond b (Some (length columns)) None))
        ≡ cond b (Some (noted (length columns) (option_map (λ i. made i n) o))) (option_map (λ i. made i n) o)
    by true None n e = let none : n ≡ 0 = e in rw none refl
    by true (Some i) n e = ap (λ t. Some (record { first = i; twice = t })) (more n e)
      where
        more : (n : ℕ) → 1 ≤ n → nat_lt 1 (n + 1) ≡ true
        more n e = grind (arith, e)
    by false o n e = let z : n + 0 ≡ n = omega arith in rw z (on o)
      where
        on : (o : Option ℕ) → option_map (λ i. made i n) (option_or o None) ≡ option_map (λ i. made i n) o
        on None = refl
        on (Some i) = refl

pub occurrences-some : (name : Name) (columns : List ColumnName) → is_some (occurrences name columns) ≡ list_any (is_called name) columns
occurrences-some name columns = by (position (is_called name) columns) (some-any (is_called name) columns)
  where
    by : (o : Option ℕ) → is_some o ≡ list_any (is_called name) columns
        → is_some {T = Occurrences} (option_map (λ first. record { first = first; twice = nat_lt 1 (count_called name columns) }) o) ≡ list_any (is_called name) columns
    by None e = e
    by (Some i) e = e

pub occurrences-none : (name : Name) (columns : List ColumnName) → list_any (is_called name) columns ≡ false → occurrences name columns ≡ None
occurrences-none name columns e = by (occurrences name columns) (occurrences-some name columns ∙ e)
  where
    by : (o : Option Occurrences) → is_some o ≡ false → o ≡ None
    by None e = refl
    by (Some seen) e = absurd (no e)

-- ---- names that stand twice
pub name_twice-push : (columns : List ColumnName) (c : ColumnName) → name_twice (columns ++ c ∷ []) ≡ (name_twice columns || is_repeated c columns)
name_twice-push [] None = refl
name_twice-push [] (Some name) = refl
name_twice-push (None ∷ columns) None = name_twice-push columns None
name_twice-push (None ∷ columns) (Some name) = name_twice-push columns (Some name)
name_twice-push (Some own ∷ columns) None =
    ap (λ b. b || name_twice (columns ++ None ∷ [])) (list_any-append (is_called own) columns (None ∷ []))
    ∙ (ap (λ b. (list_any (is_called own) columns || false) || b) (name_twice-push columns None) ∙ by (list_any (is_called own) columns) (name_twice columns))
  where
    by : (a b : Bool) → ((a || false) || (b || false)) ≡ ((a || b) || false)
    by true b = refl
    by false b = refl
name_twice-push (Some own ∷ columns) (Some name) =
    ap (λ b. b || name_twice (columns ++ Some name ∷ [])) (list_any-append (is_called own) columns (Some name ∷ []))
    ∙ (ap (λ b. (list_any (is_called own) columns || (same_name own name || false)) || b) (name_twice-push columns (Some name))
    ∙ (ap (λ s. (list_any (is_called own) columns || (s || false)) || (name_twice columns || list_any (is_called name) columns)) (symmetric own name)
    ∙ by (list_any (is_called own) columns) (same_name name own) (name_twice columns) (list_any (is_called name) columns)))
  where
    by : (a s b c : Bool) → ((a || (s || false)) || (b || c)) ≡ ((a || b) || (s || c))
    by true s b c = refl
    by false true true c = refl
    by false true false c = refl
    by false false b c = refl

-- ---- an index that grows with its columns
module _ (entries : List (Bor Name × Occurrences)) (columns : List ColumnName) (is : IsIndexOf entries columns) where
  pub index-named : (name : Name) (entries' : List (Bor Name × Occurrences)) (place : ℕ) → place ≡ length columns
      → ((other : Name) → indexed other entries' ≡ cond (same_name name other) (Some (noted place (indexed name entries))) (indexed other entries))
      → IsIndexOf entries' (columns ++ Some name ∷ [])
  index-named name entries' place at step = λ other.
      step other
      ∙ (rw (at, is name, is other) (by other (same_name name other) refl)
      ∙ sym (occurrences-push other columns (Some name)))
    where
      by : (other : Name) (b : Bool) → same_name name other ≡ b
          → cond (same_name name other) (Some (noted (length columns) (occurrences name columns))) (occurrences other columns)
          ≡ cond (same_name other name) (Some (noted (length columns) (occurrences other columns))) (occurrences other columns)
      by other true e =
          let same : name ≡ other = (bytes_decides name other).0 e in
          ap (λ n. cond (same_name n other) (Some (noted (length columns) (occurrences n columns))) (occurrences other columns)) same
          ∙ ap (λ n. cond (same_name other n) (Some (noted (length columns) (occurrences other columns))) (occurrences other columns)) (sym same)
      by other false e = rw (symmetric other name, e) refl

  pub index-unnamed : IsIndexOf entries (columns ++ None ∷ [])
  index-unnamed = λ other. is other ∙ sym (occurrences-push other columns None)

  pub index-repeats : (name : Name) (repeats seen : Bool) → repeats ≡ name_twice columns → seen ≡ is_some (indexed name entries)
      → (repeats || seen) ≡ name_twice (columns ++ Some name ∷ [])
  index-repeats name repeats seen r s =
      (λ i. r i || (s ∙ (ap (λ o. is_some o) (is name) ∙ occurrences-some name columns)) i) ∙ sym (name_twice-push columns (Some name))

-- ---- a name that is noted in an index
module _ (name : Name) (before after : List (Bor Name × Occurrences)) where
  -- one that no column had
  pub noted-once : (first place : ℕ) → first ≡ place → indexed name before ≡ None
      → ((other : Name) → indexed other after ≡ cond (same_name name other) (Some (noted first None)) (indexed other before))
      → (other : Name) → indexed other after ≡ cond (same_name name other) (Some (noted place (indexed name before))) (indexed other before)
  noted-once first place same none step = λ other.
      step other
      ∙ (ap (λ n. cond (same_name name other) (Some (noted n None)) (indexed other before)) same
      ∙ ap (λ o. cond (same_name name other) (Some (noted place o)) (indexed other before)) (sym none))

  -- one that a column had: it was put there as if no column had it, and then with what stood there before
  pub noted-again : (between : List (Bor Name × Occurrences)) (once seen : Occurrences) (place : ℕ) → indexed name before ≡ Some seen
      → ((other : Name) → indexed other between ≡ cond (same_name name other) (Some once) (indexed other before))
      → ((other : Name) → indexed other after ≡ cond (same_name name other) (Some (noted place (Some seen))) (indexed other between))
      → (other : Name) → indexed other after ≡ cond (same_name name other) (Some (noted place (indexed name before))) (indexed other before)
  noted-again between once seen place known first second = λ other.
      by (same_name name other) (indexed other before) (indexed other between) (indexed other after) (first other) (second other)
      ∙ ap (λ o. cond (same_name name other) (Some (noted place o)) (indexed other before)) (sym known)
    where
      by : (b : Bool) (x y z : Option Occurrences) → y ≡ cond b (Some once) x → z ≡ cond b (Some (noted place (Some seen))) y
          → z ≡ cond b (Some (noted place (Some seen))) x
      by true x y z f s = s
      by false x y z f s = s ∙ f

  -- what was put there is there
  pub not-absent : (once : Occurrences) → indexed name after ≡ cond (same_name name name) (Some once) (indexed name before)
      → indexed name after ≡ None → ⊥
  not-absent once step none =
      none-some once (sym none ∙ (step ∙ ap (λ b. cond b (Some once) (indexed name before)) ((bytes_decides name name).1 refl)))

pub unnamed-repeats : (columns : List ColumnName) → name_twice (columns ++ None ∷ []) ≡ name_twice columns
unnamed-repeats columns = name_twice-push columns None ∙ by (name_twice columns)
  where
    by : (b : Bool) → (b || false) ≡ b
    by true = refl
    by false = refl

-- ---- a name in one entry
module _ (name : Name) (columns : List ColumnName) where
  abbrev found : Option ℕ → ℕ → Option Occurrences
  found o n = option_map (λ first. record { first = first; twice = nat_lt 1 n }) o

  pub entry-first : (seen : Occurrences) → occurrences name columns ≡ Some seen → position (is_called name) columns ≡ Some seen.first
  entry-first seen e = by (position (is_called name) columns) (count_called name columns) e
    where
      by : (o : Option ℕ) (n : ℕ) → found o n ≡ Some seen → o ≡ Some seen.first
      by None n e = absurd (none-some seen e)
      by (Some i) n e = ap (λ s. option_map (λ o. o.first) s) e

  pub entry-twice : (seen : Occurrences) → occurrences name columns ≡ Some seen → seen.twice ≡ nat_lt 1 (count_called name columns)
  entry-twice seen e = by (position (is_called name) columns) (count_called name columns) e
    where
      by : (o : Option ℕ) (n : ℕ) → found o n ≡ Some seen → seen.twice ≡ nat_lt 1 n
      by None n e = absurd (none-some seen e)
      by (Some i) n e = sym (ap (λ s. unwrap_or (option_map (λ o. o.twice) s) true) e)

  pub entry-nowhere : occurrences name columns ≡ None → position (is_called name) columns ≡ None
  entry-nowhere e = by (position (is_called name) columns) (count_called name columns) e
    where
      by : (o : Option ℕ) (n : ℕ) → found o n ≡ None → o ≡ None
      by None n e = refl
      by (Some i) n e = absurd (none-some (record { first = i; twice = nat_lt 1 n }) (sym e))

  pub entry-count : (seen : Occurrences) → occurrences name columns ≡ Some seen → 1 ≤ count_called name columns
  entry-count seen e = subst (λ o. CountOf (is_called name) o (count_called name columns)) (entry-first seen e) (counted (is_called name) columns)

  pub entry-none : occurrences name columns ≡ None → count_called name columns ≡ 0
  entry-none e = subst (λ o. CountOf (is_called name) o (count_called name columns)) (entry-nowhere e) (counted (is_called name) columns)

  pub entry-any : (o : Option Occurrences) → occurrences name columns ≡ o → list_any (is_called name) columns ≡ is_some o
  entry-any o e = sym (occurrences-some name columns) ∙ ap (λ x. is_some x) e

module _ (name : Name) (columns : List ColumnName) where
  pub entry-has : (seen : Occurrences) → occurrences name columns ≡ Some seen → false ≡ not (list_any (is_called name) columns)
  entry-has seen e = sym (ap not (entry-any name columns (Some seen) e))

  pub entry-lacks : occurrences name columns ≡ None → true ≡ not (list_any (is_called name) columns)
  entry-lacks e = sym (ap not (entry-any name columns None e))

  pub entry-once : occurrences name columns ≡ None → false ≡ nat_lt 1 (count_called name columns)
  entry-once e = let none : count_called name columns ≡ 0 = entry-none name columns e in rw none refl

  any-count : list_any (is_called name) columns ≡ nat_lt 0 (count_called name columns)
  any-count = sym (some-any (is_called name) columns) ∙ by (position (is_called name) columns) (count_called name columns) (counted (is_called name) columns)
    where
      by : (o : Option ℕ) (n : ℕ) → CountOf (is_called name) o n → is_some o ≡ nat_lt 0 n
      by None n e = let none : n ≡ 0 = e in rw none refl
      by (Some i) n e = grind (arith, nat_tests, e)

pub ruleset entry = (entry-first, entry-twice, entry-nowhere, entry-has, entry-lacks, entry-once)

-- ---- a name among columns, and among others behind them
-- that stands there among the first columns, and among those behind them or not
abbrev pub with_later : Occurrences → Bool → Occurrences
with_later seen later = record { first = seen.first; twice = seen.twice || later }

-- that stands there behind so many columns
abbrev pub behind : ℕ → Option Occurrences → Option Occurrences
behind count seen = option_map (λ o. record { first = count + o.first; twice = o.twice }) seen

module _ (name : Name) (columns rest : List ColumnName) where
  pub counts-behind : (seen : Occurrences) → occurrences name columns ≡ Some seen
      → nat_lt 1 (count_called name (columns ++ rest)) ≡ (seen.twice || list_any (is_called name) rest)
  counts-behind seen e =
      ap (λ n. nat_lt 1 n) (count_called-append name columns rest)
      ∙ (by (count_called name columns) (count_called name rest) (entry-count name columns seen e)
      ∙ (λ i. sym (entry-twice name columns seen e) i || sym (any-count name rest) i))
    where
      by : (m n : ℕ) → 1 ≤ m → nat_lt 1 (m + n) ≡ (nat_lt 1 m || nat_lt 0 n)
      by m zero e = let z : m + 0 ≡ m = omega arith in rw z (right (nat_lt 1 m))
        where
          right : (b : Bool) → b ≡ (b || false)
          right true = refl
          right false = refl
      by m (suc n) e = let more : nat_lt 1 (m + suc n) ≡ true = grind (arith, nat_tests, e) in more ∙ sym (right (nat_lt 1 m))
        where
          right : (b : Bool) → (b || nat_lt 0 (suc n)) ≡ true
          right true = refl
          right false = grind (arith, nat_tests)

  pub occurrences-before : (seen : Occurrences) → occurrences name columns ≡ Some seen
      → occurrences name (columns ++ rest) ≡ Some (with_later seen (list_any (is_called name) rest))
  occurrences-before seen e =
      ap (λ o. found name (columns ++ rest) o (count_called name (columns ++ rest))) (position-append (is_called name) columns rest)
      ∙ (ap (λ o. found name (columns ++ rest) (option_or o (option_map (λ i. length columns + i) (position (is_called name) rest))) (count_called name (columns ++ rest)))
      (entry-first name columns seen e)
      ∙ ap (λ t. Some (record { first = seen.first; twice = t })) (counts-behind seen e))

  pub occurrences-behind : occurrences name columns ≡ None → occurrences name (columns ++ rest) ≡ behind (length columns) (occurrences name rest)
  occurrences-behind e =
      ap (λ o. found name (columns ++ rest) o (count_called name (columns ++ rest))) (position-append (is_called name) columns rest)
      ∙ (ap (λ o. found name (columns ++ rest) (option_or o (option_map (λ i. length columns + i) (position (is_called name) rest))) (count_called name (columns ++ rest)))
      (entry-nowhere name columns e)
      ∙ (ap (λ n. found name rest (option_map (λ i. length columns + i) (position (is_called name) rest)) n) counts
      ∙ by (position (is_called name) rest)))
    where
      counts : count_called name (columns ++ rest) ≡ count_called name rest
      counts = count_called-append name columns rest ∙ (let none : count_called name columns ≡ 0 = entry-none name columns e in rw none (omega arith))

      by : (o : Option ℕ) → found name rest (option_map (λ i. length columns + i) o) (count_called name rest)
          ≡ behind (length columns) (found name rest o (count_called name rest))
      by None = refl
      by (Some i) = refl

  -- what a name that stands there needs of numbers
  pub first-within : (seen : Occurrences) → occurrences name columns ≡ Some seen → seen.first < length columns
  first-within seen e = position-within (is_called name) columns seen.first (entry-first name columns seen e)

-- ---- a name in several entries
abbrev all_columns : List Heading → List ColumnName
all_columns headings = flat_map (λ h. h.columns) headings

module _ (name : Name) (h : Heading) (rest : List Heading) where
  pub bare-here : (entry : ℕ) (seen : Occurrences) → occurrences name h.columns ≡ Some seen → bare_place name entry (h ∷ rest) ≡ Some (entry, seen.first)
  bare-here entry seen e = rw (entry-first name h.columns seen e) refl

  pub bare-past : (entry : ℕ) → occurrences name h.columns ≡ None → bare_place name entry (h ∷ rest) ≡ bare_place name (suc entry) rest
  bare-past entry e = rw (entry-nowhere name h.columns e) refl

  counts-split : count_called name (all_columns (h ∷ rest)) ≡ count_called name h.columns + count_called name (all_columns rest)
  counts-split = ap (λ cs. count_called name cs) (flat_map-cons (λ h. h.columns) h rest) ∙ count_called-append name h.columns (all_columns rest)

  pub counts-past : occurrences name h.columns ≡ None → count_called name (all_columns (h ∷ rest)) ≡ count_called name (all_columns rest)
  counts-past e = counts-split ∙ (let none : count_called name h.columns ≡ 0 = entry-none name h.columns e in rw none (omega arith))

  pub counts-here : (seen : Occurrences) → occurrences name h.columns ≡ Some seen
      → nat_lt 1 (count_called name (all_columns (h ∷ rest))) ≡ (seen.twice || list_any (is_called name) (all_columns rest))
  counts-here seen e =
      ap (λ cs. nat_lt 1 (count_called name cs)) (flat_map-cons (λ h. h.columns) h rest) ∙ counts-behind name h.columns (all_columns rest) seen e

-- whether some entry has it
pub offered-by : (name : Name) (headings : List Heading)
    → list_any (λ h. list_any (is_called name) h.columns) headings ≡ list_any (is_called name) (all_columns headings)
offered-by name [] = refl
offered-by name (h ∷ rest) =
    (λ i. list_any (is_called name) h.columns || offered-by name rest i)
    ∙ (sym (list_any-append (is_called name) h.columns (all_columns rest))
    ∙ ap (λ cs. list_any (is_called name) cs) (sym (flat_map-cons (λ h. h.columns) h rest)))

-- one column alone repeats no name
pub one-once : (own : ColumnName) → name_twice (own ∷ []) ≡ false
one-once None = refl
one-once (Some own) = refl
