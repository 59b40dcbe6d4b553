-- A rope by its parts.
use Rattle.std.proofs.Common.{◌≡◌, ℕ, zero, suc, ◌+◌, ◌<◌, ◌≤◌, ◌^◌, Bool, true, false, ◌&&◌, ◌||◌, not, List, [], ◌∷◌, ◌++◌, length, drop, get_or, Option, Some, None, refl, ap, sym, subst, ◌∙◌, arith}
use Rattle.std.specs.Prelude.{is_some, nat_eq, nat_lt, option_map}
use Rattle.std.specs.Borrow.{Bor}
use Rattle.std.specs.List.{list_any}
use Rattle.std.proofs.lemmas.Bool.Decides.{nat_tests}
use Rattle.std.proofs.lemmas.List.{append-nil, append_assoc, length-append}
use Rattle.std.proofs.lemmas.List.Folds.{list_any-append}
use mathlib.Core.Former.{Count as Length}
use Rattle.sql_model.specs.Syntax.{Name}
use Rattle.sql_model.specs.Frames.{ColumnName}
use Rattle.sql_model.specs.Columns.{is_called}
use Rattle.scope_core.specs.declared.names.Occurrences.{Occurrences}
use Rattle.scope_core.specs.declared.rope.Extent.{Extent}
use Rattle.scope_core.specs.declared.rope.Part.{Part}
use Rattle.scope_core.specs.declared.rope.Rope.{Rope}
use Rattle.scope_core.specs.declared.rope.Rope.TheVariants as rope
use Rattle.scope_core.specs.declared.relation_set.RelationSet.{RelationSet}
use Rattle.scope_core.specs.Names.{occurrences}
use Rattle.scope_core.specs.RelationSets.{Includes, empty, has_number, meet_sets, same_set, union_of, with_number}
use Rattle.scope_core.specs.Ropes.{Joined, Named, NoParts, One, PartThen, Parts, Relation, are_listed_sound, are_sound, columns_in, columns_listed, is_sound, parts_columns, parts_row, parts_shown, shown_in, shown_listed, stand_among, stand_listed, stands_among}
use Rattle.scope_core.proofs.basics.Booleans.{and-assoc, and-first, and-second, no, or-of-left, or-of-right}
use Rattle.scope_core.proofs.basics.Lists.{at-head}
use Rattle.scope_core.proofs.basics.Occurring.{behind, occurrences-before, occurrences-behind, occurrences-some, with_later}
use Rattle.scope_core.proofs.basics.RelationSets.{apart-union, apart-with, has_number-grows, same_set-is, same_set-self}

-- ---- parts
-- what unfolds when a rope is taken apart
unfoldable pub parts : Unit {0}
unfolding
    Rattle.scope_core.specs.Ropes.columns_in Rattle.scope_core.specs.Ropes.is_sound Rattle.scope_core.specs.Ropes.stands_among
    Rattle.scope_core.specs.Ropes.columns_listed Rattle.scope_core.specs.Ropes.shown_listed
    Rattle.scope_core.specs.Ropes.are_listed_sound Rattle.scope_core.specs.Ropes.stand_listed
    denote.Hole.Carrier.roll denote.Hole.Carrier.hidden
    Rattle.scope_core.specs.declared.rope.Rope.TheBlock.hidden-the_row-Rope-0
    Rattle.scope_core.specs.declared.rope.Rope.TheBlock.shape-the_row-Part-1 Rattle.scope_core.specs.declared.rope.Rope.TheBlock.hidden-the_row-Part-1
parts = tt

pub columns-One : (own : Option (Bor Name)) → columns_in (rope.One own) ≡ option_map (λ n. n.now) own ∷ []
unfolding parts
columns-One own = refl

pub columns-Named : (names : List ColumnName) → columns_in (rope.Named names) ≡ names
unfolding parts
columns-Named names = refl

pub columns-Relation : (inside : Rope) (number : ℕ) (extent : Extent) → columns_in (rope.Relation inside number extent) ≡ columns_in inside
unfolding parts
columns-Relation inside number extent = refl

pub columns-Joined : (ps : List Part) (extent : Extent) → columns_in (rope.Joined ps extent) ≡ columns_listed ps
unfolding parts
columns-Joined ps extent = refl

pub shown-Relation : (inside : Rope) (number : ℕ) (extent : Extent) → shown_in (rope.Relation inside number extent) ≡ extent.shown
unfolding parts
shown-Relation inside number extent = refl

pub shown-Joined : (ps : List Part) (extent : Extent) → shown_in (rope.Joined ps extent) ≡ extent.shown
unfolding parts
shown-Joined ps extent = refl

pub sound-Relation : (inside : Rope) (number : ℕ) (extent : Extent) → is_sound (rope.Relation inside number extent)
    ≡ (nat_eq extent.width (length (columns_in inside)) && (same_set extent.shown (with_number (shown_in inside) number) && is_sound inside))
unfolding parts
sound-Relation inside number extent = refl

pub sound-Joined : (ps : List Part) (extent : Extent) → is_sound (rope.Joined ps extent)
    ≡ (nat_eq extent.width (length (columns_listed ps)) && (nat_lt extent.width (2 ^ 64) && (same_set extent.shown (shown_listed ps) && are_listed_sound ps)))
unfolding parts
sound-Joined ps extent = refl

-- of a name that may not stand outside of relations
pub stands-One-is : (declared : RelationSet) (name : Name) (own : Option (Bor Name))
    → stands_among declared false name (rope.One own) ≡ not (list_any (is_called name) (option_map (λ n. n.now) own ∷ []))
unfolding parts
stands-One-is declared name own = refl

pub stands-Named-is : (declared : RelationSet) (name : Name) (names : List ColumnName)
    → stands_among declared false name (rope.Named names) ≡ not (list_any (is_called name) names)
unfolding parts
stands-Named-is declared name names = refl

pub stands-Relation-is : (declared : RelationSet) (outside : Bool) (name : Name) (inside : Rope) (number : ℕ) (extent : Extent)
    → stands_among declared outside name (rope.Relation inside number extent) ≡ stands_among declared (has_number declared number) name inside
unfolding parts
stands-Relation-is declared outside name inside number extent = refl

pub stands-Joined-is : (declared : RelationSet) (outside : Bool) (name : Name) (ps : List Part) (extent : Extent)
    → stands_among declared outside name (rope.Joined ps extent) ≡ stand_listed declared outside name ps
unfolding parts
stands-Joined-is declared outside name ps extent = refl

-- ---- parts in a list
pub columns_listed-nil : columns_listed [] ≡ []
unfolding parts
columns_listed-nil = refl

pub columns_listed-cons : (part : Part) (ps : List Part) → columns_listed (part ∷ ps) ≡ columns_in part.rope ++ columns_listed ps
unfolding parts
columns_listed-cons part ps = refl

pub columns_listed-append : (ps qs : List Part) → columns_listed (ps ++ qs) ≡ columns_listed ps ++ columns_listed qs
columns_listed-append [] qs = ap (λ cs. cs ++ columns_listed qs) (sym columns_listed-nil)
columns_listed-append (part ∷ ps) qs =
    columns_listed-cons part (ps ++ qs)
    ∙ (ap (λ cs. columns_in part.rope ++ cs) (columns_listed-append ps qs)
    ∙ (sym (append_assoc (columns_in part.rope) (columns_listed ps) (columns_listed qs)) ∙ ap (λ cs. cs ++ columns_listed qs) (sym (columns_listed-cons part ps))))

pub shown_listed-nil : shown_listed [] ≡ empty
unfolding parts
shown_listed-nil = refl

pub shown_listed-cons : (part : Part) (ps : List Part) → shown_listed (part ∷ ps) ≡ union_of (shown_in part.rope) (shown_listed ps)
unfolding parts
shown_listed-cons part ps = refl

pub are_listed_sound-nil : are_listed_sound [] ≡ true
unfolding parts
are_listed_sound-nil = refl

pub are_listed_sound-cons : (part : Part) (ps : List Part) → are_listed_sound (part ∷ ps) ≡ (is_sound part.rope && are_listed_sound ps)
unfolding parts
are_listed_sound-cons part ps = refl

pub are_listed_sound-append : (ps qs : List Part) → are_listed_sound (ps ++ qs) ≡ (are_listed_sound ps && are_listed_sound qs)
are_listed_sound-append [] qs = ap (λ b. b && are_listed_sound qs) (sym are_listed_sound-nil)
are_listed_sound-append (part ∷ ps) qs =
    are_listed_sound-cons part (ps ++ qs)
    ∙ (ap (λ b. is_sound part.rope && b) (are_listed_sound-append ps qs)
    ∙ (and-assoc (is_sound part.rope) (are_listed_sound ps) (are_listed_sound qs) ∙ ap (λ b. b && are_listed_sound qs) (sym (are_listed_sound-cons part ps))))

module _ (declared : RelationSet) (outside : Bool) (name : Name) where
  pub stand_listed-nil : stand_listed declared outside name [] ≡ true
  unfolding parts
  stand_listed-nil = refl

  pub stand_listed-cons : (part : Part) (ps : List Part)
      → stand_listed declared outside name (part ∷ ps) ≡ (stands_among declared outside name part.rope && stand_listed declared outside name ps)
  unfolding parts
  stand_listed-cons part ps = refl

  pub stand_listed-append : (ps qs : List Part)
      → stand_listed declared outside name (ps ++ qs) ≡ (stand_listed declared outside name ps && stand_listed declared outside name qs)
  stand_listed-append [] qs = ap (λ b. b && stand_listed declared outside name qs) (sym stand_listed-nil)
  stand_listed-append (part ∷ ps) qs =
      stand_listed-cons part (ps ++ qs)
      ∙ (ap (λ b. stands_among declared outside name part.rope && b) (stand_listed-append ps qs)
      ∙ (and-assoc (stands_among declared outside name part.rope) (stand_listed declared outside name ps) (stand_listed declared outside name qs)
      ∙ ap (λ b. b && stand_listed declared outside name qs) (sym (stand_listed-cons part ps))))

-- ---- how many parts there are, by which what goes down a rope ends
abbrev mutual
  pub size : Rope → ℕ
  size (One name) = 1
  size (Named names) = 1
  size (Relation inside number extent) = 1 + size inside
  size (Joined s parts extent) = 1 + parts_size parts

  pub parts_size : {n : Length} → Parts n → ℕ
  parts_size NoParts = 0
  parts_size (PartThen part rest) = 1 + (size part + parts_size rest)

unfoldable pub size_listed : List Part → ℕ
size_listed ps = parts_size (parts_row ps)

pub size-Relation : (inside : Rope) (number : ℕ) (extent : Extent) → size (rope.Relation inside number extent) ≡ 1 + size inside
unfolding parts
size-Relation inside number extent = refl

pub size-Joined : (ps : List Part) (extent : Extent) → size (rope.Joined ps extent) ≡ 1 + size_listed ps
unfolding parts size_listed
size-Joined ps extent = refl

size_listed-cons : (part : Part) (ps : List Part) → size_listed (part ∷ ps) ≡ 1 + (size part.rope + size_listed ps)
unfolding parts size_listed
size_listed-cons part ps = refl

size-drop : (ps : List Part) (i : ℕ) → size_listed (drop i ps) ≤ size_listed ps
size-drop ps zero = omega arith
size-drop [] (suc i) = omega arith
size-drop (part ∷ ps) (suc i) = omega (arith, size-drop ps i, size_listed-cons part ps)

-- ---- what a sound rope says of its parts
module _ (r inside : Rope) (number : ℕ) (extent : Extent) (is : r ≡ rope.Relation inside number extent) where
  pub relation-columns : columns_in r ≡ columns_in inside
  relation-columns = ap columns_in is ∙ columns-Relation inside number extent

  pub relation-smaller : size inside < size r
  relation-smaller = omega (arith, ap size is, size-Relation inside number extent)

  pub relation-stands : (declared : RelationSet) (outside : Bool) (name : Name) → stands_among declared outside name r ≡ true
      → stands_among declared (has_number declared number) name inside ≡ true
  relation-stands declared outside name stands =
      sym (ap (λ s. stands_among declared outside name s) is ∙ stands-Relation-is declared outside name inside number extent) ∙ stands

  module _ (sound : is_sound r ≡ true) where
    relation-facts : (nat_eq extent.width (length (columns_in inside)) && (same_set extent.shown (with_number (shown_in inside) number) && is_sound inside)) ≡ true
    relation-facts = sym (ap is_sound is ∙ sound-Relation inside number extent) ∙ sound

    pub relation-width : extent.width ≡ length (columns_in r)
    relation-width =
        let e = and-first (nat_eq extent.width (length (columns_in inside))) (same_set extent.shown (with_number (shown_in inside) number) && is_sound inside) relation-facts in
        let n : extent.width ≡ length (columns_in inside) = grind (arith, nat_tests, e) in
        n ∙ ap (λ cs. length cs) (sym relation-columns)

    pub relation-inside : is_sound inside ≡ true
    relation-inside =
        and-second (same_set extent.shown (with_number (shown_in inside) number)) (is_sound inside)
        (and-second (nat_eq extent.width (length (columns_in inside))) (same_set extent.shown (with_number (shown_in inside) number) && is_sound inside) relation-facts)

module _ (r : Rope) (ps : List Part) (extent : Extent) (is : r ≡ rope.Joined ps extent) where
  pub joined-columns : columns_in r ≡ columns_listed ps
  joined-columns = ap columns_in is ∙ columns-Joined ps extent

  pub joined-smaller : size_listed ps < size r
  joined-smaller = omega (arith, ap size is, size-Joined ps extent)

  pub joined-stand : (declared : RelationSet) (outside : Bool) (name : Name) → stands_among declared outside name r ≡ true
      → stand_listed declared outside name ps ≡ true
  joined-stand declared outside name stands =
      sym (ap (λ s. stands_among declared outside name s) is ∙ stands-Joined-is declared outside name ps extent) ∙ stands

  module _ (sound : is_sound r ≡ true) where
    abbrev width-is : Bool
    width-is = nat_eq extent.width (length (columns_listed ps))

    abbrev shown-is : Bool
    shown-is = same_set extent.shown (shown_listed ps)

    joined-facts : (width-is && (nat_lt extent.width (2 ^ 64) && (shown-is && are_listed_sound ps))) ≡ true
    joined-facts = sym (ap is_sound is ∙ sound-Joined ps extent) ∙ sound

    after-width : (nat_lt extent.width (2 ^ 64) && (shown-is && are_listed_sound ps)) ≡ true
    after-width = and-second width-is (nat_lt extent.width (2 ^ 64) && (shown-is && are_listed_sound ps)) joined-facts

    all-wide : extent.width ≡ length (columns_listed ps)
    all-wide = let e = and-first width-is (nat_lt extent.width (2 ^ 64) && (shown-is && are_listed_sound ps)) joined-facts in grind (arith, nat_tests, e)

    pub joined-width : extent.width ≡ length (columns_in r)
    joined-width = all-wide ∙ ap (λ cs. length cs) (sym joined-columns)

    pub joined-short : length (columns_listed ps) < 2 ^ 64
    joined-short =
        let e = and-first (nat_lt extent.width (2 ^ 64)) (shown-is && are_listed_sound ps) after-width in
        let l : extent.width < 2 ^ 64 = grind (arith, nat_tests, e) in
        omega (arith, l, all-wide)

    pub joined-sound : are_listed_sound ps ≡ true
    joined-sound = and-second shown-is (are_listed_sound ps) (and-second (nat_lt extent.width (2 ^ 64)) (shown-is && are_listed_sound ps) after-width)

-- ---- one part, or a few more
pub columns-one : (part : Part) → columns_listed (part ∷ []) ≡ columns_in part.rope
columns-one part = columns_listed-cons part [] ∙ (ap (λ cs. columns_in part.rope ++ cs) columns_listed-nil ∙ append-nil (columns_in part.rope))

pub sound-one : (part : Part) → is_sound part.rope ≡ true → are_listed_sound (part ∷ []) ≡ true
sound-one part sound = are_listed_sound-cons part [] ∙ λ i. sound i && are_listed_sound-nil i

-- ---- parts from a place on
module _ (ps : List Part) (i : ℕ) (part : Part) (inside : i < length ps) (is : part ≡ get_or ps i part) where
  pub size-at : size part.rope < size_listed ps
  size-at = omega (arith, size-drop ps i, at-head size_listed ps i part inside is, size_listed-cons part (drop (i + 1) ps))

  pub columns-at : columns_listed (drop i ps) ≡ columns_in part.rope ++ columns_listed (drop (i + 1) ps)
  columns-at = at-head columns_listed ps i part inside is ∙ columns_listed-cons part (drop (i + 1) ps)

pub sound-drop : (ps : List Part) (i : ℕ) → are_listed_sound ps ≡ true → are_listed_sound (drop i ps) ≡ true
sound-drop ps zero sound = sound
sound-drop [] (suc i) sound = sound
sound-drop (part ∷ ps) (suc i) sound =
    sound-drop ps i (and-second (is_sound part.rope) (are_listed_sound ps) (sym (are_listed_sound-cons part ps) ∙ sound))

pub sound-at : (ps : List Part) (i : ℕ) (part : Part) → i < length ps → part ≡ get_or ps i part → are_listed_sound ps ≡ true → is_sound part.rope ≡ true
sound-at ps i part inside is sound =
    and-first (is_sound part.rope) (are_listed_sound (drop (i + 1) ps))
    (sym (at-head are_listed_sound ps i part inside is ∙ are_listed_sound-cons part (drop (i + 1) ps)) ∙ sound-drop ps i sound)

module _ (declared : RelationSet) (outside : Bool) (name : Name) where
  abbrev stand : List Part → Bool
  stand ps = stand_listed declared outside name ps

  pub stand-drop : (ps : List Part) (i : ℕ) → stand_listed declared outside name ps ≡ true → stand_listed declared outside name (drop i ps) ≡ true
  stand-drop ps zero stands = stands
  stand-drop [] (suc i) stands = stands
  stand-drop (part ∷ ps) (suc i) stands =
      stand-drop ps i (and-second (stands_among declared outside name part.rope) (stand ps) (sym (stand_listed-cons declared outside name part ps) ∙ stands))

  pub stands-at : (ps : List Part) (i : ℕ) (part : Part) → i < length ps → part ≡ get_or ps i part → stand_listed declared outside name ps ≡ true
      → stands_among declared outside name part.rope ≡ true
  stands-at ps i part inside is stands =
      and-first (stands_among declared outside name part.rope) (stand (drop (i + 1) ps))
      (sym (at-head stand ps i part inside is ∙ stand_listed-cons declared outside name part (drop (i + 1) ps)) ∙ stand-drop ps i stands)

-- ---- a name that is sought in one part after another
behind-behind : (m n : ℕ) (o : Option Occurrences) → behind m (behind n o) ≡ behind (m + n) o
behind-behind m n None = refl
behind-behind m n (Some seen) = let e : m + (n + seen.first) ≡ (m + n) + seen.first = omega arith in ap (λ k. Some (record { first = k; twice = seen.twice })) e

module _ (name : Name) where
  pub any-One : (own : Option (Bor Name)) → list_any (is_called name) (columns_in (rope.One own)) ≡ is_called name (option_map (λ n. n.now) own)
  any-One own = ap (λ cs. list_any (is_called name) cs) (columns-One own) ∙ by (is_called name (option_map (λ n. n.now) own))
    where
      by : (b : Bool) → (b || false) ≡ b
      by true = refl
      by false = refl

  pub any-Named : (names : List ColumnName) → list_any (is_called name) (columns_in (rope.Named names)) ≡ is_some (occurrences name names)
  unfolding parts
  any-Named names = sym (occurrences-some name names)

  module _ (ps : List Part) (i : ℕ) (part : Part) (inside : i < length ps) (is : part ≡ get_or ps i part) where
    abbrev later : List ColumnName
    later = columns_listed (drop (i + 1) ps)

    pub any-at : list_any (is_called name) (columns_listed (drop i ps))
        ≡ (list_any (is_called name) (columns_in part.rope) || list_any (is_called name) (columns_listed (drop (i + 1) ps)))
    any-at = ap (λ cs. list_any (is_called name) cs) (columns-at ps i part inside is) ∙ list_any-append (is_called name) (columns_in part.rope) later

    pub found-at : (seen : Occurrences) → occurrences name (columns_in part.rope) ≡ Some seen
        → occurrences name (columns_listed (drop i ps)) ≡ Some (with_later seen (list_any (is_called name) (columns_listed (drop (i + 1) ps))))
    found-at seen e = ap (λ cs. occurrences name cs) (columns-at ps i part inside is) ∙ occurrences-before name (columns_in part.rope) later seen e

    pub past-at : (before : ℕ) → occurrences name (columns_in part.rope) ≡ None
        → behind before (occurrences name (columns_listed (drop i ps)))
        ≡ behind (before + length (columns_in part.rope)) (occurrences name (columns_listed (drop (i + 1) ps)))
    past-at before e =
        ap (λ o. behind before o)
        (ap (λ cs. occurrences name cs) (columns-at ps i part inside is) ∙ occurrences-behind name (columns_in part.rope) later e)
        ∙ behind-behind before (length (columns_in part.rope)) (occurrences name later)

    -- how many columns there are before a place and from it on
    pub width-at : (before : ℕ) → before + length (columns_listed (drop i ps)) ≡ length (columns_listed ps)
        → (before + length (columns_in part.rope)) + length (columns_listed (drop (i + 1) ps)) ≡ length (columns_listed ps)
    width-at before e =
        let l : length (columns_listed (drop i ps)) ≡ length (columns_in part.rope) + length later =
        ap (λ cs. length cs) (columns-at ps i part inside is) ∙ length-append (columns_in part.rope) later in
        omega (arith, e, l)

-- ---- a name that stands only where relations declare it
shut : (any : Bool) → not any ≡ true → any ≡ false
shut true h = absurd (no (sym h))
shut false h = refl

module _ (declared : RelationSet) (name : Name) where
  mutual
    unfolding columns_in is_sound stands_among

    -- parts whose relations do not declare it lack it
    pub absent : (r : Rope) → is_sound r ≡ true → stands_among declared false name r ≡ true → meet_sets declared (shown_in r) ≡ false
        → list_any (is_called name) (columns_in r) ≡ false
    absent (One own) sound stands apart = shut _ stands
    absent (Named names) sound stands apart = shut _ stands
    absent (Relation inside number extent) sound stands apart =
        let more = and-second (nat_eq extent.width (length (columns_in inside))) (same_set extent.shown (with_number (shown_in inside) number) && is_sound inside) sound in
        let is = same_set-is extent.shown (with_number (shown_in inside) number) (and-first _ (is_sound inside) more) in
        let lacks = apart-with declared (shown_in inside) number (subst (λ set. meet_sets declared set ≡ false) is apart) in
        absent inside (and-second (same_set extent.shown (with_number (shown_in inside) number)) (is_sound inside) more)
        (subst (λ outside. stands_among declared outside name inside ≡ true) lacks.1 stands) lacks.0
    absent (Joined s row extent) sound stands apart =
        let wide = and-second (nat_eq extent.width (length (parts_columns row))) (nat_lt extent.width (2 ^ 64) && (same_set extent.shown (parts_shown row) && are_sound row)) sound in
        let more = and-second (nat_lt extent.width (2 ^ 64)) (same_set extent.shown (parts_shown row) && are_sound row) wide in
        let is = same_set-is extent.shown (parts_shown row) (and-first _ (are_sound row) more) in
        absent-parts row (and-second (same_set extent.shown (parts_shown row)) (are_sound row) more) stands
        (subst (λ set. meet_sets declared set ≡ false) is apart)

    absent-parts : {n : Length} (row : Parts n) → are_sound row ≡ true → stand_among declared false name row ≡ true
        → meet_sets declared (parts_shown row) ≡ false → list_any (is_called name) (parts_columns row) ≡ false
    absent-parts NoParts sound stands apart = refl
    absent-parts (PartThen part rest) sound stands apart =
        let lack = apart-union declared (shown_in part) (parts_shown rest) apart in
        list_any-append (is_called name) (columns_in part) (parts_columns rest)
        ∙ λ i. absent part (and-first (is_sound part) (are_sound rest) sound)
        (and-first (stands_among declared false name part) (stand_among declared false name rest) stands) lack.0 i
        || absent-parts rest (and-second (is_sound part) (are_sound rest) sound)
        (and-second (stands_among declared false name part) (stand_among declared false name rest) stands) lack.1 i

  module _ (outside : Bool) (closed : outside ≡ false) where
    lacks-own : (r : Rope) (columns : List ColumnName) → columns_in r ≡ columns → stands_among declared false name r ≡ not (list_any (is_called name) columns)
        → stands_among declared outside name r ≡ true → list_any (is_called name) (columns_in r) ≡ false
    lacks-own r columns are is stands =
        ap (λ cs. list_any (is_called name) cs) are
        ∙ shut (list_any (is_called name) columns) (sym (ap (λ o. stands_among declared o name r) closed ∙ is) ∙ stands)

    pub absent-One : (r : Rope) (own : Option (Bor Name)) → r ≡ rope.One own → stands_among declared outside name r ≡ true
        → list_any (is_called name) (columns_in r) ≡ false
    absent-One r own is stands =
        lacks-own r (option_map (λ n. n.now) own ∷ []) (ap columns_in is ∙ columns-One own)
        (ap (λ s. stands_among declared false name s) is ∙ stands-One-is declared name own) stands

    pub absent-Named : (r : Rope) (names : List ColumnName) → r ≡ rope.Named names → stands_among declared outside name r ≡ true
        → list_any (is_called name) (columns_in r) ≡ false
    absent-Named r names is stands =
        lacks-own r names (ap columns_in is ∙ columns-Named names)
        (ap (λ s. stands_among declared false name s) is ∙ stands-Named-is declared name names) stands

  pub absent-Relation : (r inside : Rope) (number : ℕ) (extent : Extent) (outside : Bool) → r ≡ rope.Relation inside number extent → is_sound r ≡ true
      → stands_among declared outside name r ≡ true → meet_sets declared extent.shown ≡ false → list_any (is_called name) (columns_in r) ≡ false
  absent-Relation r inside number extent outside is sound stands apart =
      absent r sound
      (ap (λ s. stands_among declared false name s) is
      ∙ (stands-Relation-is declared false name inside number extent ∙ relation-stands r inside number extent is declared outside name stands))
      (ap (λ set. meet_sets declared set) (ap shown_in is ∙ shown-Relation inside number extent) ∙ apart)

  pub absent-Joined : (r : Rope) (ps : List Part) (extent : Extent) (outside : Bool) → outside ≡ false → r ≡ rope.Joined ps extent → is_sound r ≡ true
      → stands_among declared outside name r ≡ true → meet_sets declared extent.shown ≡ false → list_any (is_called name) (columns_in r) ≡ false
  absent-Joined r ps extent outside closed is sound stands apart =
      absent r sound (sym (ap (λ o. stands_among declared o name r) closed) ∙ stands)
      (ap (λ set. meet_sets declared set) (ap shown_in is ∙ shown-Joined ps extent) ∙ apart)

-- ---- where a name stands, when more relations declare it
or-grows : (a b x : Bool) → (a ≡ true → b ≡ true) → (a || x) ≡ true → (b || x) ≡ true
or-grows true b x h e = or-of-left b x (h refl)
or-grows false b x h e = or-of-right b x e

module _ (declared more : RelationSet) (includes : Includes more declared) (name : Name) where
  mutual
    unfolding stands_among

    pub stands-grows : (r : Rope) (outside wider : Bool) → (outside ≡ true → wider ≡ true) → stands_among declared outside name r ≡ true
        → stands_among more wider name r ≡ true
    stands-grows (One own) outside wider h stands = or-grows outside wider _ h stands
    stands-grows (Named names) outside wider h stands = or-grows outside wider _ h stands
    stands-grows (Relation inside number extent) outside wider h stands =
        stands-grows inside (has_number declared number) (has_number more number) (has_number-grows declared more number includes) stands
    stands-grows (Joined s row extent) outside wider h stands = stand-grows row outside wider h stands

    stand-grows : {n : Length} (row : Parts n) (outside wider : Bool) → (outside ≡ true → wider ≡ true) → stand_among declared outside name row ≡ true
        → stand_among more wider name row ≡ true
    stand-grows NoParts outside wider h stands = refl
    stand-grows (PartThen part rest) outside wider h stands = λ i.
        stands-grows part outside wider h (and-first (stands_among declared outside name part) (stand_among declared outside name rest) stands) i
        && stand-grows rest outside wider h (and-second (stands_among declared outside name part) (stand_among declared outside name rest) stands) i

-- ---- a rope that is made of others
equal : (n k : ℕ) → n ≡ k → nat_eq n k ≡ true
equal n k e = grind (arith, nat_tests, e)

below : (n k : ℕ) → n < k → nat_lt n k ≡ true
below n k e = grind (arith, nat_tests, e)

shows-same : (a b : RelationSet) → a ≡ b → same_set a b ≡ true
shows-same a b e = ap (λ set. same_set set b) e ∙ same_set-self b

pub made-Relation : (inside made : Rope) (number : ℕ) (extent : Extent) → made ≡ rope.Relation inside number extent
    → extent.width ≡ length (columns_in inside) → extent.shown ≡ with_number (shown_in inside) number → is_sound inside ≡ true → is_sound made ≡ true
made-Relation inside made number extent is wide shows sound =
    ap is_sound is
    ∙ (sound-Relation inside number extent
    ∙ λ i. equal extent.width (length (columns_in inside)) wide i && (shows-same extent.shown (with_number (shown_in inside) number) shows i && sound i))

pub made-Joined : (ps : List Part) (made : Rope) (extent : Extent) → made ≡ rope.Joined ps extent
    → extent.width ≡ length (columns_listed ps) → extent.width < 2 ^ 64 → extent.shown ≡ shown_listed ps → are_listed_sound ps ≡ true → is_sound made ≡ true
made-Joined ps made extent is wide fits shows sound =
    ap is_sound is
    ∙ (sound-Joined ps extent
    ∙ λ i. equal extent.width (length (columns_listed ps)) wide i
    && (below extent.width (2 ^ 64) fits i && (shows-same extent.shown (shown_listed ps) shows i && sound i)))
