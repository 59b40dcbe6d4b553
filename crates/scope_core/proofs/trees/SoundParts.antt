-- Parts of the proof that the resolved tree of a well-formed query is sound.
--     ls are the levels, and shape is what is seen of the same blocks; ks are the widths of entries.
use Rattle.std.proofs.Common.{◌≡◌, ℕ, suc, ◌+◌, ◌<◌, Bool, true, false, List, [], ◌∷◌, ◌++◌, map, length, get_or, Option, Some, None, option_map, unwrap_or, refl, ap, sym, subst, ◌∙◌, arith}
use Rattle.std.specs.Prelude.{nat_eq, if◌then◌else◌}
use Rattle.std.proofs.lemmas.Bool.Decides.{nat_tests}
use Rattle.std.proofs.lemmas.List.{append_assoc, length-append}
use Rattle.data_model.specs.Lists.{Each}
use Rattle.sql_model.specs.Syntax.{Name}
use Rattle.sql_model.specs.Headings.{Heading}
use Rattle.scope_core.specs.declared.tree.RCond.TheBlock as t
use Rattle.scope_core.specs.declared.tree.RVal.TheVariants as v
use Rattle.scope_core.specs.declared.tree.RBlock.{roll-RBlock}
use Rattle.scope_core.specs.Syntax.{RVal, RCond, RSource, Grouping}
use Rattle.scope_core.specs.Scope.{Place, same_place, is_among_places, Sight, AsRows, AsMember, AsGroup, Level, Levels, place_at}
use Rattle.scope_core.specs.Resolving.{entry_of, index_of, column_at, column_from}
use Rattle.scope_core.specs.Width.{count_values}
use Rattle.scope_core.specs.Sound.{Seen, SeenRows, SeenGroup, SeenMember, SeenBlocks, widths, widths_at, output_seen, SeesGroup, SeesRows, AreKeys, IsSoundBlock, AreSoundEntries, IsSoundSource, IsSoundCondition, AreSoundConditions, IsSoundValue, AreSoundValues}
use Rattle.scope_core.specs.Compute.{everything}
use Rattle.scope_core.proofs.basics.Lists.{get-between}
use Rattle.scope_core.proofs.well_formed.Resolvable.{width_in, IsFound, ResolvableColumn, IsRowLevel}

-- ---- widths
abbrev pub heading_widths : List Heading → List ℕ
heading_widths = map (λ h. length h.columns)

abbrev pub AtWidths : ℕ → List Heading → List ℕ → Type 0
AtWidths k [] ks = Unit {0}
AtWidths k (h ∷ hs) ks = (get_or ks k 0 ≡ length h.columns) × AtWidths (suc k) hs ks

pub at_widths : (pre : List ℕ) (hs : List Heading) → AtWidths (length pre) hs (pre ++ heading_widths hs)
at_widths pre [] = tt
at_widths pre (h ∷ hs) = (
  get-between pre (length h.columns) (heading_widths hs) 0,
  subst (λ l. AtWidths l hs (pre ++ length h.columns ∷ heading_widths hs)) (length-append pre (length h.columns ∷ []) ∙ (omega arith))
      (subst (λ ks. AtWidths (length (pre ++ length h.columns ∷ [])) hs ks) (append_assoc pre (length h.columns ∷ []) (heading_widths hs)) (at_widths (pre ++ length h.columns ∷ []) hs)),
)

pub within : (e k col : ℕ) (hs : List Heading) (ks : List ℕ) → AtWidths k hs ks → col < width_in e k hs → col < get_or ks e 0
within e k col [] ks a lt = absurd (omega arith)
within e k col (h ∷ hs) ks a lt = split (nat_eq e k) refl (λ lt'. within e (suc k) col hs ks a.1 lt')
  where
    split : (b : Bool) → nat_eq e k ≡ b → (col < width_in e (suc k) hs → col < get_or ks e 0) → col < get_or ks e 0
    split true p further = let q : e ≡ k = grind (arith, nat_tests, p) in rw q (let lt' : col < length h.columns = rw p at lt in omega (arith, lt', a.0))
    split false p further = further (rw p at lt)

-- ---- what names see, and what a sound tree may name
abbrev pub ShapedLevel : Sight → Level → Seen → Type 0
ShapedLevel AsRows l (SeenRows ks) = AtWidths l.first l.headings ks
ShapedLevel AsMember l (SeenMember ks) = AtWidths l.first l.headings ks
ShapedLevel (AsGroup columns) l (SeenGroup m ks) = (m ≡ length columns) × AtWidths l.first l.headings ks
ShapedLevel _ l _ = ⊥

abbrev pub ShapedOuter : Levels → SeenBlocks → Type 0
ShapedOuter [] [] = Unit {0}
ShapedOuter (l ∷ ls) (x ∷ shape) = ShapedLevel AsRows l x × (l.sight ≡ AsRows) × ShapedOuter ls shape
ShapedOuter _ _ = ⊥

abbrev pub Shaped : Levels → SeenBlocks → Type 0
Shaped [] [] = Unit {0}
Shaped (l ∷ ls) (x ∷ shape) = ShapedLevel l.sight l x × ShapedOuter ls shape
Shaped _ _ = ⊥

pub shaped-outer : (ls : Levels) (shape : SeenBlocks) → IsRowLevel ls → Shaped ls shape → ShapedOuter ls shape
shaped-outer [] [] p h = tt
shaped-outer [] (x ∷ shape) p h = absurd h
shaped-outer (l ∷ ls) [] p h = absurd h
shaped-outer (l ∷ ls) (x ∷ shape) p h = (subst (λ k. ShapedLevel k l x) p h.0, p, h.1)

pub sees-rows : (ls : Levels) (shape : SeenBlocks) → ShapedOuter ls shape → SeesRows shape
sees-rows [] [] h = tt
sees-rows [] (x ∷ shape) h = absurd h
sees-rows (l ∷ ls) [] h = absurd h
sees-rows (l ∷ ls) (SeenRows ks ∷ shape) h = tt
sees-rows (l ∷ ls) (SeenMember ks ∷ shape) h = absurd h.0
sees-rows (l ∷ ls) (SeenGroup m ks ∷ shape) h = absurd h.0

index-below : (p : Place) (columns : List Place) → is_among_places p columns ≡ true → index_of p columns < length columns
index-below p [] e = grind (arith, e)
index-below p (c ∷ columns) e = split (same_place p c) refl (λ h. index-below p columns h)
  where
    split : (b : Bool) → same_place p c ≡ b → (is_among_places p columns ≡ true → index_of p columns < length columns) → (if b then 0 else suc (index_of p columns)) < suc (length columns)
    split true q ih = omega arith
    split false q ih = omega (arith, ih (rw q at e))

module _ (IsTable IsView : ℕ → ℕ → Type 0) where
  abbrev pub OkVal : SeenBlocks → RVal → Type 0
  OkVal = IsSoundValue IsTable IsView

  abbrev pub OkCond : SeenBlocks → RCond → Type 0
  OkCond = IsSoundCondition IsTable IsView

  sound-Col : (full : SeenBlocks) (up e col : ℕ) → col < get_or (widths_at full up) e 0 → OkVal full (v.Col up e col)
  unfolding everything
  sound-Col full up e col h = h

  sound-Key : (m : ℕ) (ks : List ℕ) (shape : SeenBlocks) (place : ℕ) → place < m → OkVal (SeenGroup m ks ∷ shape) (v.Key place)
  unfolding everything
  sound-Key m ks shape place h = h

  column_outer : (qual : Option Name) (name : Name) (up : ℕ) (ls : Levels) (shape full : SeenBlocks) → ((i : ℕ) → widths_at full (up + i) ≡ widths_at shape i) → ShapedOuter ls shape
      → ResolvableColumn qual name ls → OkVal full (column_from up qual name ls)
  column_outer qual name up [] shape full at h f = absurd f
  column_outer qual name up (l ∷ ls) [] full at h f = absurd h
  column_outer qual name up (l ∷ ls) (SeenGroup m ks ∷ shape) full at h f = absurd h.0
  column_outer qual name up (l ∷ ls) (SeenMember ks ∷ shape) full at h f = absurd h.0
  column_outer qual name up (l ∷ ls) (SeenRows ks ∷ shape) full at h f =
      subst (λ sight. OkVal full (unwrap_or (option_map (column_at up sight) (place_at qual name l)) (column_from (suc up) qual name ls))) (sym h.1)
      (go (place_at qual name l) (subst (λ sight. IsFound sight l (place_at qual name l) (ResolvableColumn qual name ls)) h.1 f)
      (λ f'. column_outer qual name (suc up) ls shape full (λ i. let e : up + suc i ≡ suc up + i = omega arith in subst (λ u. widths_at full u ≡ widths_at shape i) e (at (suc i))) h.2 f'))
    where
      go : (o : Option Place) → IsFound AsRows l o (ResolvableColumn qual name ls) → (ResolvableColumn qual name ls → OkVal full (column_from (suc up) qual name ls))
          → OkVal full (unwrap_or (option_map (column_at up AsRows) o) (column_from (suc up) qual name ls))
      go None f' further = further f'
      go (Some p) f' further =
          let here : up + 0 ≡ up = omega arith in
          let w : widths_at full up ≡ ks = subst (λ u. widths_at full u ≡ ks) here (at 0) in
          sound-Col full up p.0 p.1 (subst (λ ws. p.1 < get_or ws p.0 0) (sym w) (within p.0 l.first p.1 l.headings ks h.0 f'))

  pub sound-column : (qual : Option Name) (name : Name) (ls : Levels) (shape : SeenBlocks) → Shaped ls shape → ResolvableColumn qual name ls → OkVal shape (column_from 0 qual name ls)
  sound-column qual name [] shape h f = absurd f
  sound-column qual name (l ∷ ls) [] h f = absurd h
  sound-column qual name (l ∷ ls) (x ∷ shape) h f =
      go l.sight x h.0 (place_at qual name l) f (λ f' y. column_outer qual name 1 ls shape (y ∷ shape) (λ i. let e : 1 + i ≡ suc i = omega arith in ap (widths_at (y ∷ shape)) e) h.1 f')
    where
      go : (sight : Sight) (y : Seen) → ShapedLevel sight l y → (o : Option Place) → IsFound sight l o (ResolvableColumn qual name ls)
          → (ResolvableColumn qual name ls → (y : Seen) → OkVal (y ∷ shape) (column_from 1 qual name ls)) → OkVal (y ∷ shape) (unwrap_or (option_map (column_at 0 sight) o) (column_from 1 qual name ls))
      go AsRows y a None f' further = further f' y
      go AsMember y a None f' further = further f' y
      go (AsGroup columns) y a None f' further = further f' y
      go AsRows (SeenRows ks) a (Some p) f' further = sound-Col (SeenRows ks ∷ shape) 0 p.0 p.1 (within p.0 l.first p.1 l.headings ks a f')
      go AsRows (SeenMember ks) a (Some p) f' further = absurd a
      go AsRows (SeenGroup m ks) a (Some p) f' further = absurd a
      go AsMember (SeenRows ks) a (Some p) f' further = absurd a
      go AsMember (SeenMember ks) a (Some p) f' further = sound-Col (SeenMember ks ∷ shape) 0 p.0 p.1 (within p.0 l.first p.1 l.headings ks a f')
      go AsMember (SeenGroup m ks) a (Some p) f' further = absurd a
      go (AsGroup columns) (SeenRows ks) a (Some p) f' further = absurd a
      go (AsGroup columns) (SeenMember ks) a (Some p) f' further = absurd a
      go (AsGroup columns) (SeenGroup m ks) a (Some p) f' further = sound-Key m ks shape (index_of p columns) (let b = index-below p columns f' in omega (arith, a.0, b))

  -- ---- of lists
  pub listed-values : (shape : SeenBlocks) (es : List RVal) → Each (OkVal shape) es → AreSoundValues IsTable IsView shape (t.hidden-the_row-RVal-1 es)
  unfolding everything
  listed-values shape [] h = tt
  listed-values shape (e ∷ es) h = (h.0, listed-values shape es h.1)

  pub listed-conditions : (shape : SeenBlocks) (cs : List RCond) → Each (OkCond shape) cs → AreSoundConditions IsTable IsView shape (t.hidden-the_row-RCond-2 cs)
  unfolding everything
  listed-conditions shape [] h = tt
  listed-conditions shape (e ∷ es) h = (h.0, listed-conditions shape es h.1)

  pub listed-entries : (shape : SeenBlocks) (es : List (RSource × ℕ)) → Each (λ e. IsSoundSource IsTable IsView shape e.0 e.1) es → AreSoundEntries IsTable IsView shape (t.hidden-the_row-REntry-7 (map entry_of es))
  unfolding everything
  listed-entries shape [] h = tt
  listed-entries shape (e ∷ es) h = (h.0, listed-entries shape es h.1)

  pub listed-widths : (es : List (RSource × ℕ)) → widths (t.hidden-the_row-REntry-7 (map entry_of es)) ≡ map (λ e. e.1) es
  unfolding everything
  listed-widths [] = refl
  listed-widths (e ∷ es) = ap (λ l. e.1 ∷ l) (listed-widths es)

  pub listed-count : (es : List RVal) → count_values (t.hidden-the_row-RVal-1 es) ≡ length es
  unfolding everything
  listed-count [] = refl
  listed-count (e ∷ es) = ap suc (listed-count es)

  -- a HAVING, which only a grouped block has
  abbrev pub OkHaving : SeenBlocks → Option RCond → Type 0
  OkHaving shape None = Unit {0}
  OkHaving shape (Some c) = SeesGroup shape × OkCond shape c

  listed-having : (shape : SeenBlocks) (d : Bool) (es : List (RSource × ℕ)) (cs : List RCond) (gr : Grouping) (h : Option RCond) (items : List RVal)
      → AreSoundEntries IsTable IsView shape (t.hidden-the_row-REntry-7 (map entry_of es))
      → AreSoundConditions IsTable IsView (SeenRows (widths (t.hidden-the_row-REntry-7 (map entry_of es))) ∷ shape) (t.hidden-the_row-RCond-2 cs)
      → OkHaving (output_seen gr (widths (t.hidden-the_row-REntry-7 (map entry_of es))) ∷ shape) h
      → AreSoundValues IsTable IsView (output_seen gr (widths (t.hidden-the_row-REntry-7 (map entry_of es))) ∷ shape) (t.hidden-the_row-RVal-1 items)
      → AreKeys gr (widths (t.hidden-the_row-REntry-7 (map entry_of es)))
      → IsSoundBlock IsTable IsView shape (roll-RBlock (record { distinct = d; entries = map entry_of es; conds = cs; grouping = gr; having = h; items = items }))
  unfolding everything
  listed-having shape d es cs gr None items a b h k col = (a, b, tt, k, col)
  listed-having shape d es cs gr (Some c) items a b h k col = (a, b, h, k, col)

  pub block-sound : (shape : SeenBlocks) (ks : List ℕ) (d : Bool) (es : List (RSource × ℕ)) (cs : List RCond) (gr : Grouping) (h : Option RCond) (items : List RVal) → map (λ e. e.1) es ≡ ks
      → Each (λ e. IsSoundSource IsTable IsView shape e.0 e.1) es → Each (OkCond (SeenRows ks ∷ shape)) cs → OkHaving (output_seen gr ks ∷ shape) h → Each (OkVal (output_seen gr ks ∷ shape)) items → AreKeys gr ks
      → IsSoundBlock IsTable IsView shape (roll-RBlock (record { distinct = d; entries = map entry_of es; conds = cs; grouping = gr; having = h; items = items }))
  block-sound shape ks d es cs gr h items e a b hh k col =
      let w = sym (listed-widths es ∙ e) in
      listed-having shape d es cs gr h items (listed-entries shape es a)
      (subst (λ q. AreSoundConditions IsTable IsView (SeenRows q ∷ shape) (t.hidden-the_row-RCond-2 cs)) w (listed-conditions (SeenRows ks ∷ shape) cs b))
      (subst (λ q. OkHaving (output_seen gr q ∷ shape) h) w hh)
      (subst (λ q. AreSoundValues IsTable IsView (output_seen gr q ∷ shape) (t.hidden-the_row-RVal-1 items)) w (listed-values (output_seen gr ks ∷ shape) items k))
      (subst (AreKeys gr) w col)
