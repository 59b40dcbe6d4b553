-- A column's place reads what its name reads.
--     hs are headings, bs entries with their rows, and rs the rows alone; env is the environment of names, and renv that of places.
use Rattle.std.proofs.Common.{◌≡◌, ℕ, zero, suc, ◌+◌, ◌<◌, ◌≤◌, Bool, true, false, List, [], ◌∷◌, ◌++◌, map, length, get_or, drop, Option, Some, None, option_map, unwrap_or, position, cond, refl, ap, sym, subst, ◌∙◌, arith}
use Rattle.std.specs.Prelude.{if◌then◌else◌}
use Rattle.std.specs.Option.{option_or}
use Rattle.std.specs.List.{flat_map}
use Rattle.data_model.specs.Lists.{Each}
use Rattle.data_model.specs.Rows.{Row}
use Rattle.sql_model.specs.Syntax.{Name}
use Rattle.sql_model.specs.Frames.{ColumnName, BoundEntry}
use Rattle.sql_model.specs.Frames as nf
use Rattle.sql_model.specs.Columns.{same_name, is_called, value_in_entry, value_in_some, entry_with_alias, value_among, column_value}
use Rattle.sql_model.specs.Headings.{Heading}
use Rattle.sql_model.specs.Meaning as m
use Rattle.scope_core.specs.Scope.{Place, is_among_places, Sight, AsRows, AsMember, AsGroup, Level, Levels, bare_place, qualified_place, place_in, place_at}
use Rattle.scope_core.specs.Resolving.{entry_columns, star, alias_star, index_of, column_at, column_from}
use Rattle.scope_core.specs.Environments.{World, Environment, Frame, Combination, row_of, rows_at}
use Rattle.scope_core.specs.Evaluation.{value}
use Rattle.scope_core.proofs.well_formed.Resolvable.{IsFound, ResolvableColumn, IsRowLevel}
use Rattle.scope_core.proofs.rows.Built.{value-Col, value-Key, values_of}

-- an entry with its row, under this heading, and the row that a resolved place reads
pub record IsBound (h : Heading) (b : BoundEntry) (r : Row) : Type 0 where
  pub alias : b.alias ≡ h.alias
  pub columns : b.columns ≡ h.columns
  pub long : length b.row ≡ length h.columns
  pub row : r ≡ b.row

-- the entries have these headings, and their rows stand from k on
abbrev pub AtRows : ℕ → List Heading → List BoundEntry → List Row → Type 0
AtRows k [] [] rs = Unit {0}
AtRows k (h ∷ hs) (b ∷ bs) rs = IsBound h b (row_of rs k) × AtRows (suc k) hs bs rs
AtRows k _ _ rs = ⊥

abbrev pub read : List Row → Place → ℕ
read rs p = get_or (row_of rs p.0) p.1 0

past_end : (r : Row) (k : ℕ) → length r ≡ k → get_or r k 0 ≡ 0
past_end [] k e = refl
past_end (x ∷ r) zero e = absurd (omega (arith, e))
past_end (x ∷ r) (suc k) e = past_end r k (omega (arith, e))

-- ---- bare names
map-or : (f : ℕ → ℕ) (rs : List Row) (k : ℕ) (o : Option ℕ) (q : Option ℕ) (rest : Option Place) → ((c : ℕ) → f c ≡ get_or (row_of rs k) c 0) → q ≡ option_map (read rs) rest
    → option_or (option_map f o) q ≡ option_map (read rs) (option_or (option_map (λ col. (k, col)) o) rest)
map-or f rs k None q rest e h = h
map-or f rs k (Some c) q rest e h = ap Some (e c)

pub bare_place-reads : (name : Name) (k : ℕ) (hs : List Heading) (bs : List BoundEntry) (rs : List Row) → AtRows k hs bs rs → value_in_some name bs ≡ option_map (read rs) (bare_place name k hs)
bare_place-reads name k [] [] rs a = refl
bare_place-reads name k [] (b ∷ bs) rs a = absurd a
bare_place-reads name k (h ∷ hs) [] rs a = absurd a
bare_place-reads name k (h ∷ hs) (b ∷ bs) rs a =
    ap (λ cs. option_or (option_map (λ place. get_or b.row place 0) (position (is_called name) cs)) (value_in_some name bs)) a.0.columns
    ∙ map-or (λ place. get_or b.row place 0) rs k (position (is_called name) h.columns) (value_in_some name bs) (bare_place name (suc k) hs)
    (λ c. ap (λ r. get_or r c 0) (sym a.0.row)) (bare_place-reads name (suc k) hs bs rs a.1)

-- ---- names with an alias
missing : (o : Option ℕ) (r row : Row) (k : ℕ) → r ≡ row → length row ≡ k → unwrap_or (option_map (λ place. get_or row place 0) o) 0 ≡ get_or r (unwrap_or o k) 0
missing None r row k e long = sym (ap (λ q. get_or q k 0) e ∙ past_end row k long)
missing (Some c) r row k e long = ap (λ q. get_or q c 0) (sym e)

by_alias : (hit : Bool) (name : Name) (b : BoundEntry) (o : Option BoundEntry) (rs : Combination) (p : Place) (rest : Option Place) → unwrap_or (value_in_entry name b) 0 ≡ read rs p
    → option_map (λ e. unwrap_or (value_in_entry name e) 0) o ≡ option_map (read rs) rest
    → option_map (λ e. unwrap_or (value_in_entry name e) 0) (cond hit (Some b) o) ≡ option_map (read rs) (if hit then Some p else rest)
by_alias true name b o rs p rest e h = ap Some e
by_alias false name b o rs p rest e h = h

pub qualified_place-reads : (alias name : Name) (k : ℕ) (hs : List Heading) (bs : List BoundEntry) (rs : Combination) → AtRows k hs bs rs
    → value_among (Some alias) name bs ≡ option_map (read rs) (qualified_place alias name k hs)
qualified_place-reads alias name k [] [] rs a = refl
qualified_place-reads alias name k [] (b ∷ bs) rs a = absurd a
qualified_place-reads alias name k (h ∷ hs) [] rs a = absurd a
qualified_place-reads alias name k (h ∷ hs) (b ∷ bs) rs a =
    ap (λ al. option_map (λ e. unwrap_or (value_in_entry name e) 0) (cond (same_name alias al) (Some b) (entry_with_alias alias bs))) a.0.alias
    ∙ by_alias (same_name alias h.alias) name b (entry_with_alias alias bs) rs (k, unwrap_or (position (is_called name) h.columns) (length h.columns)) (qualified_place alias name (suc k) hs)
    (ap (λ cs. unwrap_or (option_map (λ place. get_or b.row place 0) (position (is_called name) cs)) 0) a.0.columns
    ∙ missing (position (is_called name) h.columns) (row_of rs k) b.row (length h.columns) a.0.row a.0.long)
    (qualified_place-reads alias name (suc k) hs bs rs a.1)

pub place-reads : (qual : Option Name) (name : Name) (k : ℕ) (hs : List Heading) (bs : List BoundEntry) (rs : Combination) → AtRows k hs bs rs
    → value_among qual name bs ≡ option_map (read rs) (place_in qual name k hs)
place-reads None name k hs bs rs a = bare_place-reads name k hs bs rs a
place-reads (Some alias) name k hs bs rs a = qualified_place-reads alias name k hs bs rs a

-- ---- through the blocks
abbrev pub rows_of_entries : List BoundEntry → List Row
rows_of_entries = map (λ b. b.row)

abbrev pub ReadsColumns : Sight → Level → nf.Frame → Frame → Type 0
ReadsColumns AsRows l f g = AtRows l.first l.headings f.entries g.rows
ReadsColumns AsMember l f g = AtRows l.first l.headings f.entries g.rows
ReadsColumns (AsGroup columns) l f g =
    AtRows l.first l.headings f.entries (rows_of_entries f.entries) × ((p : Place) → is_among_places p columns ≡ true → get_or g.key (index_of p columns) 0 ≡ read (rows_of_entries f.entries) p)

-- a block around, as names see it and as places do
pub record ReadsLevel (l : Level) (f : nf.Frame) (g : Frame) : Type 0 where
  pub columns : ReadsColumns l.sight l f g
  pub members : g.members ≡ map rows_of_entries f.members
  pub each : Each (λ m. AtRows l.first l.headings m (rows_of_entries m)) f.members

-- blocks around a subquery, none of which it sees as a group
abbrev pub Outer : Levels → nf.Environment → Environment → Type 0
Outer [] [] [] = Unit {0}
Outer (l ∷ ls) (f ∷ env) (g ∷ renv) = ReadsLevel l f g × (l.sight ≡ AsRows) × Outer ls env renv
Outer _ _ _ = ⊥

abbrev pub Reads : Levels → nf.Environment → Environment → Type 0
Reads [] [] [] = Unit {0}
Reads (l ∷ ls) (f ∷ env) (g ∷ renv) = ReadsLevel l f g × Outer ls env renv
Reads _ _ _ = ⊥

pub outer : (ls : Levels) (env : nf.Environment) (renv : Environment) → IsRowLevel ls → Reads ls env renv → Outer ls env renv
outer [] [] [] k r = tt
outer [] [] (g ∷ renv) k r = absurd r
outer [] (f ∷ env) renv k r = absurd r
outer (l ∷ ls) [] renv k r = absurd r
outer (l ∷ ls) (f ∷ env) [] k r = absurd r
outer (l ∷ ls) (f ∷ env) (g ∷ renv) k r = (r.0, k, r.1)

pub inner : (ls : Levels) (env : nf.Environment) (renv : Environment) → Outer ls env renv → Reads ls env renv
inner [] [] [] r = tt
inner [] [] (g ∷ renv) r = absurd r
inner [] (f ∷ env) renv r = absurd r
inner (l ∷ ls) [] renv r = absurd r
inner (l ∷ ls) (f ∷ env) [] r = absurd r
inner (l ∷ ls) (f ∷ env) (g ∷ renv) r = (r.0, r.2)

placed : (qual : Option Name) (name : Name) (d k : ℕ) (hs : List Heading) (bs : List BoundEntry) (rs : Combination) → AtRows k hs bs rs
    → unwrap_or (value_among qual name bs) d ≡ unwrap_or (option_map (read rs) (place_in qual name k hs)) d
placed qual name d k hs bs rs a = ap (λ q. unwrap_or q d) (place-reads qual name k hs bs rs a)

found : (w : World) (full : Environment) (up d : ℕ) (rs : List Row) (o : Option Place) (other : _) → rows_at full up ≡ rs → value other w full ≡ d
    → value (unwrap_or (option_map (column_at up AsRows) o) other) w full ≡ unwrap_or (option_map (read rs) o) d
found w full up d rs None other h k = k
found w full up d rs (Some p) other h k = value-Col w full up p.0 p.1 ∙ ap (λ q. read q p) h

column_outer : (w : World) (full : Environment) (qual : Option Name) (name : Name) (up : ℕ) (ls : Levels) (env : nf.Environment) (renv : Environment)
    → ((i : ℕ) → rows_at full (up + i) ≡ rows_at renv i) → Outer ls env renv → value (column_from up qual name ls) w full ≡ column_value qual name env
column_outer w full qual name up [] [] [] at h = value-Col w full up 0 0 ∙ (let e : up + 0 ≡ up = omega arith in ap (λ q. get_or (row_of q 0) 0 0) (subst (λ u. rows_at full u ≡ []) e (at 0)))
column_outer w full qual name up [] [] (g ∷ renv) at h = absurd h
column_outer w full qual name up [] (f ∷ env) renv at h = absurd h
column_outer w full qual name up (l ∷ ls) [] renv at h = absurd h
column_outer w full qual name up (l ∷ ls) (f ∷ env) [] at h = absurd h
column_outer w full qual name up (l ∷ ls) (f ∷ env) (g ∷ renv) at h =
    let o = place_at qual name l in
    let rest = column_from (suc up) qual name ls in
    ap (λ k. value (unwrap_or (option_map (column_at up k) o) rest) w full) h.1
    ∙ found w full up (column_value qual name env) g.rows o rest
    (let e : up + 0 ≡ up = omega arith in subst (λ u. rows_at full u ≡ g.rows) e (at 0))
    (column_outer w full qual name (suc up) ls env renv (λ i. let e : up + suc i ≡ suc up + i = omega arith in subst (λ u. rows_at full u ≡ rows_at renv i) e (at (suc i))) h.2)
    ∙ sym (placed qual name (column_value qual name env) l.first l.headings f.entries g.rows (subst (λ k. ReadsColumns k l f g) h.1 h.0.columns))

-- the innermost block, perhaps as a group
innermost : (w : World) (g : Frame) (renv : Environment) (d : ℕ) (l : Level) (f : nf.Frame) (qual : Option Name) (name : Name) (sight : Sight) (other : _) (further : Type 0)
    → ReadsColumns sight l f g → IsFound sight l (place_at qual name l) further → value other w (g ∷ renv) ≡ d
    → value (unwrap_or (option_map (column_at 0 sight) (place_at qual name l)) other) w (g ∷ renv) ≡ unwrap_or (value_among qual name f.entries) d
innermost w g renv d l f qual name AsRows other further r fine e =
    found w (g ∷ renv) 0 d g.rows (place_at qual name l) other refl e ∙ sym (placed qual name d l.first l.headings f.entries g.rows r)
innermost w g renv d l f qual name AsMember other further r fine e =
    found w (g ∷ renv) 0 d g.rows (place_at qual name l) other refl e ∙ sym (placed qual name d l.first l.headings f.entries g.rows r)
innermost w g renv d l f qual name (AsGroup columns) other further r fine e =
    keyed (place_at qual name l) fine ∙ sym (placed qual name d l.first l.headings f.entries (rows_of_entries f.entries) r.0)
  where
    keyed : (o : Option Place) → IsFound (AsGroup columns) l o further → value (unwrap_or (option_map (column_at 0 (AsGroup columns)) o) other) w (g ∷ renv) ≡ unwrap_or (option_map (read (rows_of_entries f.entries)) o) d
    keyed None fine = e
    keyed (Some p) fine = value-Key w (g ∷ renv) (index_of p columns) ∙ r.1 p fine

pub column-same : (w : World) (qual : Option Name) (name : Name) (ls : Levels) (env : nf.Environment) (renv : Environment)
    → ResolvableColumn qual name ls → Reads ls env renv → value (column_from 0 qual name ls) w renv ≡ column_value qual name env
column-same w qual name [] [] [] f h = absurd f
column-same w qual name [] [] (g ∷ renv) f h = absurd h
column-same w qual name [] (fr ∷ env) renv f h = absurd h
column-same w qual name (l ∷ ls) [] renv f h = absurd h
column-same w qual name (l ∷ ls) (fr ∷ env) [] f h = absurd h
column-same w qual name (l ∷ ls) (fr ∷ env) (g ∷ renv) f h =
    innermost w g renv (column_value qual name env) l fr qual name l.sight (column_from 1 qual name ls) (ResolvableColumn qual name ls) h.0.columns f
    (column_outer w (g ∷ renv) qual name 1 ls env renv (λ i. let e : 1 + i ≡ suc i = omega arith in ap (rows_at (g ∷ renv)) e) h.1)

-- ---- stars
drop_more : (r : Row) (col : ℕ) (names : List ColumnName) → length r ≡ col + length names → (w : World) (env : Environment) (k : ℕ) → row_of (rows_at env 0) k ≡ r
    → values_of (entry_columns k col names) w env ≡ drop col r
drop_more r col [] long w env k e = sym (drop-all r col (omega (arith, long)))
  where
    drop-all : (r : Row) (col : ℕ) → length r ≤ col → drop col r ≡ []
    drop-all [] zero h = refl
    drop-all [] (suc col) h = refl
    drop-all (x ∷ r) zero h = absurd (omega arith)
    drop-all (x ∷ r) (suc col) h = drop-all r col (omega arith)
drop_more r col (name ∷ names) long w env k e =
    (λ i. (value-Col w env 0 k col ∙ ap (λ q. get_or q col 0) e) i ∷ drop_more r (suc col) names (omega (arith, long)) w env k e i) ∙ one r col (omega (arith, long))
  where
    one : (r : Row) (col : ℕ) → col < length r → get_or r col 0 ∷ drop (suc col) r ≡ drop col r
    one [] col h = absurd (omega arith)
    one (x ∷ r) zero h = refl
    one (x ∷ r) (suc col) h = one r col (omega arith)

star_one : (w : World) (env : Environment) (k : ℕ) (h : Heading) (b : BoundEntry) → IsBound h b (row_of (rows_at env 0) k) → values_of (entry_columns k 0 h.columns) w env ≡ b.row
star_one w env k h b is = drop_more b.row 0 h.columns (omega (arith, is.long)) w env k is.row

values-append : (w : World) (env : Environment) (xs ys : _) → values_of (xs ++ ys) w env ≡ values_of xs w env ++ values_of ys w env
values-append w env [] ys = refl
values-append w env (x ∷ xs) ys = ap (λ r. value x w env ∷ r) (values-append w env xs ys)

pub star-same : (w : World) (env : Environment) (k : ℕ) (hs : List Heading) (bs : List BoundEntry) → AtRows k hs bs (rows_at env 0) → values_of (star k hs) w env ≡ flat_map (λ b. b.row) bs
star-same w env k [] [] a = refl
star-same w env k [] (b ∷ bs) a = absurd a
star-same w env k (h ∷ hs) [] a = absurd a
star-same w env k (h ∷ hs) (b ∷ bs) a =
    values-append w env (entry_columns k 0 h.columns) (star (suc k) hs) ∙ (λ i. star_one w env k h b a.0 i ++ star-same w env (suc k) hs bs a.1 i)

alias_one : (w : World) (env : Environment) (hit : Bool) (xs ys : List _) (b : BoundEntry) (o : Option BoundEntry) → values_of xs w env ≡ b.row → values_of ys w env ≡ m.row_of o
    → values_of (if hit then xs else ys) w env ≡ m.row_of (cond hit (Some b) o)
alias_one w env true xs ys b o e f = e
alias_one w env false xs ys b o e f = f

pub alias_star-same : (w : World) (env : Environment) (alias : Name) (k : ℕ) (hs : List Heading) (bs : List BoundEntry) → AtRows k hs bs (rows_at env 0)
    → values_of (alias_star alias k hs) w env ≡ m.row_of (entry_with_alias alias bs)
alias_star-same w env alias k [] [] a = refl
alias_star-same w env alias k [] (b ∷ bs) a = absurd a
alias_star-same w env alias k (h ∷ hs) [] a = absurd a
alias_star-same w env alias k (h ∷ hs) (b ∷ bs) a =
    alias_one w env (same_name alias h.alias) (entry_columns k 0 h.columns) (alias_star alias (suc k) hs) b (entry_with_alias alias bs) (star_one w env k h b a.0) (alias_star-same w env alias (suc k) hs bs a.1)
    ∙ ap (λ al. m.row_of (cond (same_name alias al) (Some b) (entry_with_alias alias bs))) (sym a.0.alias)
