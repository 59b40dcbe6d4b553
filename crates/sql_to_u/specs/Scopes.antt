-- The names of the columns around a place of a tree.
use Rattle.std.specs.Prelude.{ℕ, zero, suc, ◌+◌, List, [], ◌∷◌, ◌++◌}
use Rattle.u_terms.specs.Syntax.{U, Val}
use Rattle.u_terms.specs.declared.term.U.TheVariants as u
use Rattle.u_terms.specs.declared.term.Val.TheVariants as v
use Rattle.scope_core.specs.Syntax.{Entries, NoEntries, EntryThen}
use Rattle.sql_to_u.specs.Factors.{over_names}
use Rattle.u_terms.specs.Products.{product_of}

-- ---- the entries of a block
-- how many columns they have
abbrev pub count_columns : {m : _} → Entries m → ℕ
count_columns NoEntries = 0
count_columns (EntryThen source width rest) = width + count_columns rest

-- the name of each entry's first column, where their columns have the names from `first` on in order
abbrev pub firsts : {m : _} → Entries m → ℕ → List ℕ
firsts NoEntries first = []
firsts (EntryThen source width rest) first = first ∷ firsts rest (first + width)

-- ---- the members of a group: how many columns they have, and where these have the names from one on, the name of each entry's first column
-- and the factors that say that the names are those of a member
pub record Members : Type 0 where
  pub columns : ℕ
  pub firsts : ℕ → List ℕ
  pub factors : ℕ → List U

abbrev pub nobody : Members
nobody = record { columns = 0; firsts = λ first. []; factors = λ first. [] }

-- ---- the names of a block: of each entry's first column; or, in the items and HAVING of a grouped block, of the first column of its group
pub record Here : Type 0 where
  pub firsts : List ℕ
  pub key : ℕ
  pub members : Members

-- those of the blocks around a place, the innermost first
abbrev pub Scope : Type 0
Scope = List Here

abbrev pub rows_here : List ℕ → Here
rows_here firsts = record { firsts = firsts; key = 0; members = nobody }

abbrev pub group_here : ℕ → Members → Here
group_here key members = record { firsts = []; key = key; members = members }

abbrev pub firsts_at : Scope → ℕ → List ℕ
firsts_at [] up = []
firsts_at (here ∷ outer) zero = here.firsts
firsts_at (here ∷ outer) (suc up) = firsts_at outer up

abbrev pub key_of : Scope → ℕ
key_of [] = 0
key_of (here ∷ outer) = here.key

abbrev pub members_of : Scope → Members
members_of [] = nobody
members_of (here ∷ outer) = here.members

abbrev pub outer_scope : Scope → Scope
outer_scope [] = []
outer_scope (here ∷ outer) = outer

-- What the argument of an aggregate sees, where the columns of a member have the names from `first` on.
abbrev pub member_scope : Scope → ℕ → Scope
member_scope scope first = rows_here ((members_of scope).firsts first) ∷ outer_scope scope

-- how often the value of the members is that of the name: over the names after it, one for each column of a member
abbrev pub counted : Members → Val → ℕ → U
counted members value name =
    over_names (name + 1) members.columns (product_of (members.factors (name + 1) ++ u.Eq value (v.Free name) ∷ []))

-- ---- a block's factors, over what its entries and its conditions are translated to
-- For each entry in order how often its columns occur in it, and then for each condition whether it holds. The columns of the entries have the
-- names from `first` on.
abbrev pub joined : {m : _} → Entries m → (ℕ → ℕ → List U) → (Scope → ℕ → List U) → Scope → ℕ → List U
joined entries sources conditions scope first =
    sources first (first + count_columns entries) ++ conditions (rows_here (firsts entries first) ∷ scope) (first + count_columns entries)
