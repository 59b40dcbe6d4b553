-- All that unfolds when a definition runs on a tree that is written out, or on one that code builds.
unfoldable pub everything : Unit {0}
unfolding
    Rattle.sql_model.specs.Meaning.rows Rattle.sql_model.specs.Headings.output_columns Rattle.sql_model.specs.Grouping.has_aggregate
    Rattle.sql_model.specs.declared.tree.Block.roll-Block denote.Hole.Carrier.roll denote.Hole.Carrier.hidden
    Rattle.sql_model.specs.declared.tree.Expr.TheBlock.shape-the_row-Expr-0 Rattle.sql_model.specs.declared.tree.Expr.TheBlock.hidden-the_row-Expr-0
    Rattle.sql_model.specs.declared.tree.Expr.TheBlock.shape-the_row-Expr-1 Rattle.sql_model.specs.declared.tree.Expr.TheBlock.hidden-the_row-Expr-1
    Rattle.sql_model.specs.declared.tree.Expr.TheBlock.shape-the_row-Query-2 Rattle.sql_model.specs.declared.tree.Expr.TheBlock.hidden-the_row-Query-2
    Rattle.sql_model.specs.declared.tree.Expr.TheBlock.shape-the_row-Expr-3 Rattle.sql_model.specs.declared.tree.Expr.TheBlock.hidden-the_row-Expr-3
    Rattle.sql_model.specs.declared.tree.Expr.TheBlock.shape-the_row-Expr-4 Rattle.sql_model.specs.declared.tree.Expr.TheBlock.hidden-the_row-Expr-4
    Rattle.sql_model.specs.declared.tree.Expr.TheBlock.shape-the_row-Block-5 Rattle.sql_model.specs.declared.tree.Expr.TheBlock.hidden-the_row-Block-5
    Rattle.sql_model.specs.declared.tree.Expr.TheBlock.shape-the_row-Item-6 Rattle.sql_model.specs.declared.tree.Expr.TheBlock.hidden-the_row-Item-6
    Rattle.sql_model.specs.declared.tree.Expr.TheBlock.shape-the_row-Entry-7 Rattle.sql_model.specs.declared.tree.Expr.TheBlock.hidden-the_row-Entry-7
everything = tt
