-- Queries as code resolves them.
use Rattle.std.proofs.Common.{◌≡◌, ℕ, List, [], ◌∷◌, map, length, Option, None, refl}
use Rattle.std.specs.Option.{option_or}
use Rattle.sql_model.specs.Syntax as n
use Rattle.sql_model.specs.declared.tree.Query.TheVariants as query
use Rattle.sql_model.specs.declared.tree.Item.TheVariants as item
use Rattle.sql_model.specs.declared.tree.Source.TheVariants as source
use Rattle.sql_model.specs.Headings.{output_columns}
use Rattle.scope_core.specs.declared.fault.ScopeFault.{ScopeFault}
use Rattle.scope_core.specs.declared.tree.RQuery.TheVariants as q
use Rattle.scope_core.specs.declared.tree.RSource.TheVariants as s
use Rattle.scope_core.specs.Answer.{IsCause}
use Rattle.scope_core.specs.Compute.{resolving}
use Rattle.scope_core.specs.FirstFault.{fault_at}
use Rattle.scope_core.specs.Parts.{value_fault, values_fault, truth_fault, truths_fault, fault_within, block_fault, source_fault, entries_fault, on_fault, item_fault, items_fault, values_listed, conjuncts_listed, conditions_listed, entries_listed, on_listed, items_listed}
use Rattle.scope_core.specs.Resolving.{alias_star, star, source_named, resolved, resolved_block, resolved_item, resolved_source, resolved_value}
use Rattle.scope_core.specs.Scope.{Known, heading, Levels, headings_here}
use Rattle.scope_core.specs.Sites.{ASource, AStar, AnAliasStar, TwoWidths, sites}
use Rattle.scope_core.proofs.resolving.Columns.{causes}
use Rattle.scope_core.proofs.resolving.Walks.{first_fault-one, first_fault-three, cause-first, cause-second, cause-same}

module _ (known : List Known) (levels : Levels) where
  pub fault-Block : (b : n.Block) → fault_within known levels (query.Block b) ≡ block_fault known levels b
  unfolding resolving value_fault values_fault truth_fault truths_fault fault_within block_fault source_fault entries_fault on_fault item_fault items_fault values_listed conjuncts_listed conditions_listed entries_listed on_listed items_listed
  fault-Block b = refl

  pub tree-Block : (b : n.Block) → resolved (query.Block b) known levels ≡ q.Block (resolved_block b known levels)
  unfolding resolving value_fault values_fault truth_fault truths_fault fault_within block_fault source_fault entries_fault on_fault item_fault items_fault values_listed conjuncts_listed conditions_listed entries_listed on_listed items_listed
  tree-Block b = refl

  pub cause-Block : (f : ScopeFault) (b : n.Block) → IsCause f (block_fault known levels b) → IsCause f (fault_within known levels (query.Block b))
  cause-Block f b h0 = cause-same f _ _ (fault-Block b) h0

  pub fault-Set : (op : n.SetOp) (left right : n.Query) (at : ℕ) → fault_within known levels (query.Set op left right at) ≡ option_or (fault_within known levels left) (option_or (fault_within known levels right) (fault_at (TwoWidths (length (output_columns left (map heading known))) (length (output_columns right (map heading known))) at)))
  unfolding resolving value_fault values_fault truth_fault truths_fault fault_within block_fault source_fault entries_fault on_fault item_fault items_fault values_listed conjuncts_listed conditions_listed entries_listed on_listed items_listed
  fault-Set op left right at = first_fault-three (sites left known levels) (sites right known levels) (TwoWidths (length (output_columns left (map heading known))) (length (output_columns right (map heading known))) at)

  pub tree-Set : (op : n.SetOp) (left right : n.Query) (at : ℕ) → resolved (query.Set op left right at) known levels ≡ q.Set op (resolved left known levels) (resolved right known levels)
  unfolding resolving value_fault values_fault truth_fault truths_fault fault_within block_fault source_fault entries_fault on_fault item_fault items_fault values_listed conjuncts_listed conditions_listed entries_listed on_listed items_listed
  tree-Set op left right at = refl

  pub cause-Set-left : (f : ScopeFault) (op : n.SetOp) (left right : n.Query) (at : ℕ) → IsCause f (fault_within known levels left) → IsCause f (fault_within known levels (query.Set op left right at))
  cause-Set-left f op left right at h0 = cause-first f _ _ _ (fault-Set op left right at) h0

  pub fault-Named : (name : n.Name) (at : ℕ) → source_fault known levels (source.Named name at) ≡ fault_at (ASource name known at)
  unfolding resolving value_fault values_fault truth_fault truths_fault fault_within block_fault source_fault entries_fault on_fault item_fault items_fault values_listed conjuncts_listed conditions_listed entries_listed on_listed items_listed
  fault-Named name at = first_fault-one (ASource name known at)

  pub fault-Query : (query : n.Query) → source_fault known levels (source.Query query) ≡ fault_within known levels query
  unfolding resolving value_fault values_fault truth_fault truths_fault fault_within block_fault source_fault entries_fault on_fault item_fault items_fault values_listed conjuncts_listed conditions_listed entries_listed on_listed items_listed
  fault-Query query = refl

  pub tree-Query : (query : n.Query) → resolved_source (source.Query query) known levels ≡ s.Query (resolved query known levels)
  unfolding resolving value_fault values_fault truth_fault truths_fault fault_within block_fault source_fault entries_fault on_fault item_fault items_fault values_listed conjuncts_listed conditions_listed entries_listed on_listed items_listed
  tree-Query query = refl

  pub cause-Named : (f : ScopeFault) (name : n.Name) (at : ℕ) → IsCause f (fault_at (ASource name known at)) → IsCause f (source_fault known levels (source.Named name at))
  cause-Named f name at h0 = cause-same f _ _ (fault-Named name at) h0

  pub cause-Query : (f : ScopeFault) (query : n.Query) → IsCause f (fault_within known levels query) → IsCause f (source_fault known levels (source.Query query))
  cause-Query f query h0 = cause-same f _ _ (fault-Query query) h0

  pub cause-Set-rest : (f : ScopeFault) (op : n.SetOp) (left right : n.Query) (at : ℕ) → fault_within known levels left ≡ None → IsCause f (option_or (fault_within known levels right) (fault_at (TwoWidths (length (output_columns left (map heading known))) (length (output_columns right (map heading known))) at))) → IsCause f (fault_within known levels (query.Set op left right at))
  cause-Set-rest f op left right at h0 h = cause-second f _ _ _ (fault-Set op left right at) h0 h

  pub tree-Named : (name : n.Name) (at : ℕ) → resolved_source (source.Named name at) known levels ≡ source_named name known
  unfolding resolving value_fault values_fault truth_fault truths_fault fault_within block_fault source_fault entries_fault on_fault item_fault items_fault values_listed conjuncts_listed conditions_listed entries_listed on_listed items_listed
  tree-Named name at = refl

  pub tree-Star : (at : ℕ) → resolved_item (item.Star at) known levels ≡ star 0 (headings_here levels)
  unfolding resolving value_fault values_fault truth_fault truths_fault fault_within block_fault source_fault entries_fault on_fault item_fault items_fault values_listed conjuncts_listed conditions_listed entries_listed on_listed items_listed
  tree-Star at = refl

  pub tree-AliasStar : (alias : n.Name) (at : ℕ) → resolved_item (item.AliasStar alias at) known levels ≡ alias_star alias 0 (headings_here levels)
  unfolding resolving value_fault values_fault truth_fault truths_fault fault_within block_fault source_fault entries_fault on_fault item_fault items_fault values_listed conjuncts_listed conditions_listed entries_listed on_listed items_listed
  tree-AliasStar alias at = refl

  pub fault-Value : (e : n.Expr) (name : Option n.Name) → item_fault known levels (item.Value e name) ≡ value_fault known levels e
  unfolding resolving value_fault values_fault truth_fault truths_fault fault_within block_fault source_fault entries_fault on_fault item_fault items_fault values_listed conjuncts_listed conditions_listed entries_listed on_listed items_listed
  fault-Value e name = refl

  pub fault-Star : (at : ℕ) → item_fault known levels (item.Star at) ≡ fault_at (AStar levels at)
  unfolding resolving value_fault values_fault truth_fault truths_fault fault_within block_fault source_fault entries_fault on_fault item_fault items_fault values_listed conjuncts_listed conditions_listed entries_listed on_listed items_listed
  fault-Star at = first_fault-one (AStar levels at)

  pub fault-AliasStar : (alias : n.Name) (at : ℕ) → item_fault known levels (item.AliasStar alias at) ≡ fault_at (AnAliasStar alias levels at)
  unfolding resolving value_fault values_fault truth_fault truths_fault fault_within block_fault source_fault entries_fault on_fault item_fault items_fault values_listed conjuncts_listed conditions_listed entries_listed on_listed items_listed
  fault-AliasStar alias at = first_fault-one (AnAliasStar alias levels at)

  pub tree-Value : (e : n.Expr) (name : Option n.Name) → resolved_item (item.Value e name) known levels ≡ resolved_value e known levels ∷ []
  unfolding resolving value_fault values_fault truth_fault truths_fault fault_within block_fault source_fault entries_fault on_fault item_fault items_fault values_listed conjuncts_listed conditions_listed entries_listed on_listed items_listed
  tree-Value e name = refl

  pub cause-Value : (f : ScopeFault) (e : n.Expr) (name : Option n.Name) → IsCause f (value_fault known levels e) → IsCause f (item_fault known levels (item.Value e name))
  cause-Value f e name h0 = cause-same f _ _ (fault-Value e name) h0

  pub cause-Star : (f : ScopeFault) (at : ℕ) → IsCause f (fault_at (AStar levels at)) → IsCause f (item_fault known levels (item.Star at))
  cause-Star f at h0 = cause-same f _ _ (fault-Star at) h0

  pub cause-AliasStar : (f : ScopeFault) (alias : n.Name) (at : ℕ) → IsCause f (fault_at (AnAliasStar alias levels at)) → IsCause f (item_fault known levels (item.AliasStar alias at))
  cause-AliasStar f alias at h0 = cause-same f _ _ (fault-AliasStar alias at) h0

pub cause-of-first : (f : ScopeFault) (a b : Option ScopeFault) → IsCause f a → IsCause f (option_or a b)
cause-of-first f a b h = cause-first f (option_or a b) a b refl h

pub cause-of-second : (f : ScopeFault) (a b : Option ScopeFault) → a ≡ None → IsCause f b → IsCause f (option_or a b)
cause-of-second f a b none h = cause-second f (option_or a b) a b refl none h

pub ruleset laws = (causes, cause-Set-rest, cause-of-first, cause-of-second, fault-Block, tree-Block, cause-Block, fault-Set, tree-Set, cause-Set-left, fault-Named, fault-Query, tree-Query, cause-Named, cause-Query, tree-Named, tree-Star, tree-AliasStar, fault-Value, fault-Star, fault-AliasStar, tree-Value, cause-Value, cause-Star, cause-AliasStar)
