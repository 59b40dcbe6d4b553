-- The size of a block's term, over its parts as code has them.
use Rattle.std.specs.Prelude.{Bool, List, length, Option}
use Rattle.scope_core.specs.Scope.{Place}
use Rattle.scope_core.specs.Syntax.{RVal, RCond, RBlock}
use Rattle.scope_core.specs.declared.tree.REntry.{REntry}
use Rattle.scope_core.specs.declared.tree.RBlock.{out-RBlock}
use Rattle.sql_to_u.specs.declared.size.Size.{Size}
use Rattle.sql_to_u.specs.declared.product.GroupSize.{GroupSize}
use Rattle.sql_to_u.specs.declared.product.Product.{Product}
use Rattle.sql_to_u.specs.declared.product.Product.TheVariants as p
use Rattle.sql_to_u.specs.Sizes.{capped, finished, key_sizes, no_members, over_size, squash_size_if, under, with_factor, with_factors}
use Rattle.sql_to_u.specs.Listed.{columns_listed, condition_sizes_listed, having_sizes_written, item_sizes_listed, source_sizes_listed}

module _ (views : List Size) where
  -- the factors for the entries and the conditions
  abbrev pub joined_parts : List REntry → List RCond → Product
  joined_parts entries conds = with_factors (with_factors p.Empty (source_sizes_listed views entries)) (condition_sizes_listed views no_members conds)

  abbrev pub group_parts : List REntry → Product → GroupSize
  group_parts entries factors = record { columns = capped (columns_listed entries); factors = factors }

  -- the factors of HAVING and of the items, after some
  abbrev pub output_parts : Product → Option RCond → List RVal → GroupSize → List Size → Size
  output_parts before having items group row =
      finished (with_factors (with_factors before (having_sizes_written views group having)) (item_sizes_listed views group items row))

  abbrev pub plain_parts : Bool → List REntry → List RCond → List RVal → List Size → Size
  plain_parts is_distinct entries conds items row =
      squash_size_if is_distinct
      (over_size (capped (columns_listed entries)) (finished (with_factors (joined_parts entries conds) (item_sizes_listed views no_members items row))))

  abbrev pub one_parts : Bool → List REntry → List RCond → Option RCond → List RVal → List Size → Size
  one_parts is_distinct entries conds having items row =
      squash_size_if is_distinct (output_parts p.Empty having items (group_parts entries (joined_parts entries conds)) row)

  -- that the group has a member
  abbrev pub some_parts : GroupSize → Size
  some_parts group = under (over_size group.columns (finished group.factors))

  abbrev pub keys_parts : List Place → Bool → List REntry → List RCond → Option RCond → List RVal → List Size → Size
  keys_parts columns is_distinct entries conds having items row =
      let group = group_parts entries (with_factors (joined_parts entries conds) (key_sizes columns)) in
      squash_size_if is_distinct (over_size (length columns) (output_parts (with_factor p.Empty (some_parts group)) having items group row))

  abbrev pub joined_size : RBlock → Product
  joined_size b = joined_parts (out-RBlock b).entries (out-RBlock b).conds

  abbrev pub group_size : RBlock → Product → GroupSize
  group_size b factors = group_parts (out-RBlock b).entries factors

  abbrev pub plain_size : RBlock → List Size → Size
  plain_size b row = plain_parts (out-RBlock b).distinct (out-RBlock b).entries (out-RBlock b).conds (out-RBlock b).items row

  abbrev pub one_size : RBlock → List Size → Size
  one_size b row = one_parts (out-RBlock b).distinct (out-RBlock b).entries (out-RBlock b).conds (out-RBlock b).having (out-RBlock b).items row

  abbrev pub keys_size : List Place → RBlock → List Size → Size
  keys_size columns b row =
      keys_parts columns (out-RBlock b).distinct (out-RBlock b).entries (out-RBlock b).conds (out-RBlock b).having (out-RBlock b).items row
