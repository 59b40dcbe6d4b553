-- The translation at lists as code has them.
use Rattle.std.specs.Prelude.{ℕ, ◌+◌, Bool, if◌then◌else◌, List, [], ◌∷◌, ◌++◌, length, Option, Some, None}
use Rattle.u_terms.specs.Syntax.{U, Val}
use Rattle.u_terms.specs.declared.term.U.TheVariants as u
use Rattle.u_terms.specs.declared.term.Val.TheVariants as v
use Rattle.scope_core.specs.declared.tree.RCond.TheBlock as t
use Rattle.scope_core.specs.declared.tree.REntry.{REntry}
use Rattle.scope_core.specs.declared.tree.RBlock.{out-RBlock}
use Rattle.scope_core.specs.Scope.{Place}
use Rattle.scope_core.specs.Syntax as r
use Rattle.scope_core.specs.Syntax.{RVal, RCond, RBlock, RQuery}
use Rattle.sql_to_u.specs.Factors.{over_names, squash_if, key_equalities}
use Rattle.u_terms.specs.Products.{product_of}
use Rattle.sql_to_u.specs.Scopes.{Members, Scope, firsts, rows_here, group_here, counted, members_of, member_scope}
use Rattle.sql_to_u.specs.Listed.{columns_listed}
use Rattle.sql_to_u.specs.Translation.{TermAt, source_terms, condition_terms, item_factors, having_factors, value_term, value_terms}
use Rattle.sql_to_u.specs.Answer.{view_terms}
use Rattle.sql_to_u.specs.declared.scope.Scope.{Scope as LentScope}
use Rattle.sql_to_u.specs.declared.scope.Scope.TheVariants as around

unfoldable pub firsts_listed : List REntry → ℕ → List ℕ
firsts_listed entries first = firsts (t.hidden-the_row-REntry-7 entries) first

-- the terms of these views
unfoldable pub terms_of : List RQuery → List TermAt
terms_of trees = view_terms [] trees

module _ (views : List TermAt) where
  unfoldable pub source_terms_listed : Scope → List REntry → ℕ → ℕ → List U
  source_terms_listed scope entries first next = source_terms views (t.hidden-the_row-REntry-7 entries) scope first next

  unfoldable pub condition_terms_listed : Scope → List RCond → ℕ → List U
  condition_terms_listed scope cs next = condition_terms views (t.hidden-the_row-RCond-2 cs) scope next

  unfoldable pub item_factors_listed : Scope → List RVal → List Val → ℕ → List U
  item_factors_listed scope es row next = item_factors views (t.hidden-the_row-RVal-1 es) scope row next

  unfoldable pub value_terms_listed : Scope → List RVal → ℕ → List Val
  value_terms_listed scope es next = value_terms views (t.hidden-the_row-RVal-1 es) scope next

  -- what may be left out
  abbrev pub having_written : Scope → Option RCond → ℕ → List U
  having_written scope None next = []
  having_written scope (Some condition) next = having_factors views (r.ACondition condition) scope next

  abbrev pub argument_written : Bool → Scope → Option RVal → ℕ → Val
  argument_written counting scope None next = v.Lit 0
  argument_written counting scope (Some e) next = if counting then v.Lit 0 else value_term views e scope next

  -- how often an argument has the value of a name, among the members of the innermost block
  abbrev pub counted_written : Bool → Scope → Option RVal → ℕ → U
  counted_written counting scope argument name =
      counted (members_of scope) (argument_written counting (member_scope scope (name + 1)) argument (name + 1 + (members_of scope).columns)) name

  -- ---- a block, over its parts
  abbrev pub joined_parts : List REntry → List RCond → Scope → ℕ → List U
  joined_parts entries conds scope first =
      source_terms_listed scope entries first (first + columns_listed entries)
      ++ condition_terms_listed (rows_here (firsts_listed entries first) ∷ scope) conds (first + columns_listed entries)

  -- the members of a group with these columns; where the block is one group, it has none
  abbrev pub members_parts : List REntry → List RCond → List Place → ℕ → Scope → Members
  members_parts entries conds columns key scope = record {
    columns = columns_listed entries;
    firsts = λ first. firsts_listed entries first;
    factors = λ first. joined_parts entries conds scope first ++ key_equalities columns (firsts_listed entries first) key;
  }

  abbrev pub grouped_parts : List REntry → List RCond → List Place → ℕ → Scope → Scope
  grouped_parts entries conds columns key scope = group_here key (members_parts entries conds columns key scope) ∷ scope

  abbrev pub plain_parts : Bool → List REntry → List RCond → List RVal → Scope → List Val → ℕ → U
  plain_parts is_distinct entries conds items scope row next =
      squash_if is_distinct (over_names next (columns_listed entries) (product_of (joined_parts entries conds scope next
      ++ item_factors_listed (rows_here (firsts_listed entries next) ∷ scope) items row (next + columns_listed entries))))

  abbrev pub one_parts : Bool → List REntry → List RCond → Option RCond → List RVal → Scope → List Val → ℕ → U
  one_parts is_distinct entries conds having items scope row next =
      let inside = grouped_parts entries conds [] next scope in
      squash_if is_distinct (product_of (having_written inside having next ++ item_factors_listed inside items row next))

  abbrev pub keys_parts : List Place → Bool → List REntry → List RCond → Option RCond → List RVal → Scope → List Val → ℕ → U
  keys_parts columns is_distinct entries conds having items scope row next =
      let inside = grouped_parts entries conds columns next scope in
      let inner = next + length columns in
      squash_if is_distinct (over_names next (length columns) (product_of (
      u.Squash (over_names inner (columns_listed entries)
      (product_of (joined_parts entries conds scope inner ++ key_equalities columns (firsts_listed entries inner) next)))
      ∷ having_written inside having inner ++ item_factors_listed inside items row inner)))

  abbrev pub joined_listed : RBlock → Scope → ℕ → List U
  joined_listed b scope first = joined_parts (out-RBlock b).entries (out-RBlock b).conds scope first

  abbrev pub members_listed : RBlock → List Place → ℕ → Scope → Members
  members_listed b columns key scope = members_parts (out-RBlock b).entries (out-RBlock b).conds columns key scope

  abbrev pub grouped_scope : RBlock → List Place → ℕ → Scope → Scope
  grouped_scope b columns key scope = grouped_parts (out-RBlock b).entries (out-RBlock b).conds columns key scope

  abbrev pub plain_term : RBlock → Scope → List Val → ℕ → U
  plain_term b scope row next = plain_parts (out-RBlock b).distinct (out-RBlock b).entries (out-RBlock b).conds (out-RBlock b).items scope row next

  abbrev pub one_term : RBlock → Scope → List Val → ℕ → U
  one_term b scope row next =
      one_parts (out-RBlock b).distinct (out-RBlock b).entries (out-RBlock b).conds (out-RBlock b).having (out-RBlock b).items scope row next

  abbrev pub keys_term : List Place → RBlock → Scope → List Val → ℕ → U
  keys_term columns b scope row next =
      keys_parts columns (out-RBlock b).distinct (out-RBlock b).entries (out-RBlock b).conds (out-RBlock b).having (out-RBlock b).items scope row next

  -- ---- the blocks around, as the code lends them
  abbrev pub scope_of : LentScope → Scope
  scope_of around.Outside = []
  scope_of (around.Rows' firsts p outer) = rows_here firsts.now ∷ scope_of outer
  scope_of (around.Group' group p outer) = grouped_scope group.block.now group.columns.now group.key (scope_of outer)

abbrev pub scope_within : List RQuery → LentScope → Scope
scope_within trees scope = scope_of (terms_of trees) scope
