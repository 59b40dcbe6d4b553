-- That names stand for the columns of the blocks around.
use Rattle.std.proofs.Common.{◌≡◌, ℕ, zero, suc, ◌+◌, ◌<◌, ◌≤◌, List, [], ◌∷◌, ◌++◌, length, get_or, subst, ◌∙◌, arith}
use Rattle.data_model.specs.Rows.{Row}
use Rattle.data_model.specs.Reading.{Reading}
use Rattle.data_model.specs.Database.{Database}
use Rattle.data_model.proofs.Sums.{AreRows, sum_over}
use Rattle.u_terms.specs.Syntax.{U}
use Rattle.u_terms.specs.Places.{IsClosed}
use Rattle.u_terms.specs.Meaning.{meaning}
use Rattle.scope_core.specs.Syntax.{Entries, NoEntries, EntryThen}
use Rattle.scope_core.specs.Environments.{Environment, Frame, column_value, row_of, key_here}
use Rattle.scope_core.specs.Sound.{Seen, SeenRows, SeenGroup, SeenMember, SeenBlocks, widths, widths_at, IsKeyOf}
use Rattle.u_terms.proofs.OverNames.{AgreeBelow, AgreeBelow-trans, put_row, put_rows, put_row-reads, put_rows-agree}
use Rattle.scope_core.proofs.rows.RowsFit.{Fits}
use Rattle.sql_to_u.specs.Factors.{over_names}
use Rattle.u_terms.specs.Products.{product_of}
use Rattle.sql_to_u.specs.Scopes.{Members, Here, Scope, count_columns, firsts, firsts_at, key_of}

-- ---- the names below d read the columns around
abbrev pub ReadsRow : List ℕ → ℕ → ℕ → Row → Type 0
ReadsRow names d start r = (i : ℕ) → i < length r → (start + i < d) × (get_or names (start + i) 0 ≡ get_or r i 0)

abbrev pub ReadsRows : List ℕ → ℕ → List ℕ → List Row → Type 0
ReadsRows names d [] [] = Unit {0}
ReadsRows names d (s ∷ ss) (r ∷ rs) = ReadsRow names d s r × ReadsRows names d ss rs
ReadsRows names d _ _ = ⊥

module _ (n : ℕ) (reading : Reading) (db : Database) where
  -- that, for all names that agree with these below d, a sum over a member's columns counts through the members
  abbrev pub KnowsMembers : List ℕ → ℕ → List ℕ → Members → List (List Row) → Type 0
  KnowsMembers names d ks all members =
      (names' : List ℕ) (e : ℕ) → AgreeBelow d names names' → d ≤ e → (a : U) (F : List Row → ℕ) → IsClosed 0 a
      → ((names'' : List ℕ) (c : List Row) → AgreeBelow e names' names'' → AreRows n ks c → ReadsRows names'' (e + all.columns) (all.firsts e) c → meaning n reading db names'' [] a ≡ F c)
      → meaning n reading db names' [] (over_names e all.columns (product_of (all.factors e ++ a ∷ []))) ≡ sum_over F members

  abbrev pub ReadsBlock : List ℕ → ℕ → Seen → Here → Frame → Type 0
  ReadsBlock names d (SeenRows ks) h f = ReadsRows names d h.firsts f.rows
  ReadsBlock names d (SeenMember ks) h f = ReadsRows names d h.firsts f.rows
  ReadsBlock names d (SeenGroup m ks) h f = ReadsRow names d h.key f.key × KnowsMembers names d ks h.members f.members

  abbrev pub Reads : List ℕ → ℕ → SeenBlocks → Scope → Environment → Type 0
  Reads names d [] [] [] = Unit {0}
  Reads names d (l ∷ shape) (h ∷ scope) (f ∷ env) = ReadsBlock names d l h f × Reads names d shape scope env
  Reads names d _ _ _ = ⊥

pub ReadsRow-later : (names names' : List ℕ) (d d' s : ℕ) (r : Row) → AgreeBelow d names names' → d ≤ d' → ReadsRow names d s r → ReadsRow names' d' s r
ReadsRow-later names names' d d' s r b le h i lt = (omega (arith, (h i lt).0), b (s + i) (h i lt).0 ∙ (h i lt).1)

pub ReadsRows-later : (names names' : List ℕ) (d d' : ℕ) (ss : List ℕ) (rs : List Row) → AgreeBelow d names names' → d ≤ d' → ReadsRows names d ss rs → ReadsRows names' d' ss rs
ReadsRows-later names names' d d' [] [] b le h = tt
ReadsRows-later names names' d d' (s ∷ ss) (r ∷ rs) b le h = (ReadsRow-later names names' d d' s r b le h.0, ReadsRows-later names names' d d' ss rs b le h.1)
ReadsRows-later names names' d d' [] (r ∷ rs) b le h = absurd h
ReadsRows-later names names' d d' (s ∷ ss) [] b le h = absurd h

module _ (n : ℕ) (reading : Reading) (db : Database) where
  ReadsBlock-later : (names names' : List ℕ) (d d' : ℕ) (l : Seen) (h : Here) (f : Frame) → AgreeBelow d names names' → d ≤ d' → ReadsBlock n reading db names d l h f → ReadsBlock n reading db names' d' l h f
  ReadsBlock-later names names' d d' (SeenRows ks) h f b le s = ReadsRows-later names names' d d' h.firsts f.rows b le s
  ReadsBlock-later names names' d d' (SeenMember ks) h f b le s = ReadsRows-later names names' d d' h.firsts f.rows b le s
  ReadsBlock-later names names' d d' (SeenGroup m ks) h f b le s =
      (ReadsRow-later names names' d d' h.key f.key b le s.0, λ names'' e b' le' a F c. s.1 names'' e (AgreeBelow-trans d d' names names' names'' b b' le) (omega arith) a F c)

  pub Reads-later : (names names' : List ℕ) (d d' : ℕ) (shape : SeenBlocks) (scope : Scope) (env : Environment) → AgreeBelow d names names' → d ≤ d' → Reads n reading db names d shape scope env → Reads n reading db names' d' shape scope env
  Reads-later names names' d d' [] [] [] b le s = tt
  Reads-later names names' d d' (l ∷ shape) (h ∷ scope) (f ∷ env) b le s = (ReadsBlock-later names names' d d' l h f b le s.0, Reads-later names names' d d' shape scope env b le s.1)
  Reads-later names names' d d' [] [] (f ∷ env) b le s = absurd s
  Reads-later names names' d d' [] (h ∷ scope) env b le s = absurd s
  Reads-later names names' d d' (l ∷ shape) [] env b le s = absurd s
  Reads-later names names' d d' (l ∷ shape) (h ∷ scope) [] b le s = absurd s

-- a block's own columns, once its names are put
pub reads_own : {m : _} (n : ℕ) (es : Entries m) (d : ℕ) (names : List ℕ) (c : List Row) → AreRows n (widths es) c
    → ReadsRows (put_rows names d c) (d + count_columns es) (firsts es d) c
reads_own n NoEntries d names [] h = tt
reads_own n NoEntries d names (r ∷ c) h = absurd h
reads_own n (EntryThen source wide rest) d names [] h = absurd h
reads_own n (EntryThen source wide rest) d names (r ∷ c) h =
    let long : length r ≡ wide = h.0.long in
    let next : d + wide ≡ d + length r = omega (arith, long) in
    let end : (d + wide) + count_columns rest ≡ d + (wide + count_columns rest) = omega arith in
    let own = reads_own n rest (d + wide) (put_row names d r) c h.1 in (
      λ i lt. (
        omega (arith, lt, long),
        put_rows-agree (d + length r) (d + length r) c (put_row names d r) (omega arith) (d + i) (omega (arith, lt)) ∙ put_row-reads d i r names lt,
      ),
      subst (λ e. ReadsRows (put_rows (put_row names d r) (d + length r) c) e (firsts rest (d + wide)) c) end
          (subst (λ l. ReadsRows (put_rows (put_row names d r) l c) (d + wide + count_columns rest) (firsts rest (d + wide)) c) next own),
    )

pub reads : (n : ℕ) (names : List ℕ) (d : ℕ) (ks ss : List ℕ) (rs : List Row) (entry col : ℕ) → AreRows n ks rs → ReadsRows names d ss rs → col < get_or ks entry 0
    → get_or names (get_or ss entry 0 + col) 0 ≡ get_or (row_of rs entry) col 0
reads n names d [] ss rs entry col h s lt = absurd (omega arith)
reads n names d (k ∷ ks) ss [] entry col h s lt = absurd h
reads n names d (k ∷ ks) [] (r ∷ rs) entry col h s lt = absurd s
reads n names d (k ∷ ks) (t ∷ ss) (r ∷ rs) zero col h s lt = (s.0 col (omega (arith, lt, h.0.long))).1
reads n names d (k ∷ ks) (t ∷ ss) (r ∷ rs) (suc entry) col h s lt = reads n names d ks ss rs entry col h.1 s.1 lt

module _ (n : ℕ) (reading : Reading) (db : Database) where
  -- what a column's name reads
  pub column-reads : (names : List ℕ) (d : ℕ) (shape : SeenBlocks) (scope : Scope) (env : Environment) (up entry col : ℕ) → Fits n shape env → Reads n reading db names d shape scope env
      → col < get_or (widths_at shape up) entry 0 → get_or names (get_or (firsts_at scope up) entry 0 + col) 0 ≡ column_value env up entry col
  column-reads names d [] scope env up entry col h s lt = absurd (omega arith)
  column-reads names d (l ∷ shape) scope [] up entry col h s lt = absurd h
  column-reads names d (l ∷ shape) [] (f ∷ env) up entry col h s lt = absurd s
  column-reads names d (SeenRows ks ∷ shape) (t ∷ scope) (f ∷ env) zero entry col h s lt = reads n names d ks t.firsts f.rows entry col h.0 s.0 lt
  column-reads names d (SeenMember ks ∷ shape) (t ∷ scope) (f ∷ env) zero entry col h s lt = reads n names d ks t.firsts f.rows entry col h.0 s.0 lt
  column-reads names d (SeenGroup m ks ∷ shape) (t ∷ scope) (f ∷ env) zero entry col h s lt = absurd (omega arith)
  column-reads names d (l ∷ shape) (t ∷ scope) (f ∷ env) (suc up) entry col h s lt = column-reads names d shape scope env up entry col h.1 s.1 lt

  -- and the name of a group's column
  pub key-reads : (names : List ℕ) (d : ℕ) (shape : SeenBlocks) (scope : Scope) (env : Environment) (place : ℕ) → Fits n shape env → Reads n reading db names d shape scope env
      → IsKeyOf shape place → get_or names (key_of scope + place) 0 ≡ get_or (key_here env) place 0
  key-reads names d [] scope env place h s k = absurd k
  key-reads names d (SeenRows ks ∷ shape) scope env place h s k = absurd k
  key-reads names d (SeenMember ks ∷ shape) scope env place h s k = absurd k
  key-reads names d (SeenGroup m ks ∷ shape) scope [] place h s k = absurd h
  key-reads names d (SeenGroup m ks ∷ shape) [] (f ∷ env) place h s k = absurd s
  key-reads names d (SeenGroup m ks ∷ shape) (t ∷ scope) (f ∷ env) place h s k = (s.0.0 place (omega (arith, k, h.0.long))).1
