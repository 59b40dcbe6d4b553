-- The names and the size of a well-formed query's term, as of its tree.
use Rattle.std.proofs.Common.{◌≡◌, []}
use Rattle.sql_model.specs.declared.schema.Schema.{Schema}
use Rattle.sql_model.specs.Syntax.{Query}
use Rattle.u_terms.specs.Names.{IsFreeBelow}
use Rattle.scope_core.specs.Fitting.{DoViewsFit, FitsViews}
use Rattle.scope_core.specs.ViewTrees.{tree_of, views_of}
use Rattle.scope_core.specs.WellFormed.{SchemaWellFormed, WellFormed}
use Rattle.scope_core.specs.Width.{width}
use Rattle.scope_core.proofs.schema.FittingTrees.{fits-views, views-fit}
use Rattle.scope_core.proofs.schema.SoundTrees.{views-sound, tree-sound}
use Rattle.sql_to_u.specs.Answer.{translation}
use Rattle.sql_to_u.specs.Sizes.{term_size, translation_size}
use Rattle.sql_to_u.proofs.names.FreeNames.{translation-below}
use Rattle.sql_to_u.proofs.queries.WholeSizes.{size-is}

module _ (schema : Schema) (fine : SchemaWellFormed schema) where
  views-do-fit : DoViewsFit [] (views_of schema)
  views-do-fit = views-fit schema.relations.entries [] (views_of schema) (views-sound schema fine)

  module _ (query : Query) (well : WellFormed schema query) where
    query-fits : FitsViews (views_of schema) (tree_of schema query)
    query-fits = fits-views schema.relations.entries (views_of schema) (tree_of schema query) (tree-sound schema query fine well)

    pub query-below : IsFreeBelow (width (tree_of schema query)) (translation (views_of schema) (tree_of schema query))
    query-below = translation-below (views_of schema) (tree_of schema query) views-do-fit query-fits

    pub query-size : term_size (translation (views_of schema) (tree_of schema query)) ≡ translation_size (views_of schema) (tree_of schema query)
    query-size = size-is (views_of schema) (tree_of schema query) views-do-fit query-fits

pub ruleset laws = (query-below, query-size)
