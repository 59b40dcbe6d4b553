-- All that unfolds when a definition runs on a tree that is written out, or on one that code builds.
unfoldable pub everything : Unit {0}
unfolding
    Rattle.scope_core.specs.Evaluation.rows Rattle.scope_core.specs.Width.width Rattle.scope_core.specs.Sound.IsSound
    Rattle.scope_core.specs.declared.tree.RBlock.roll-RBlock denote.Hole.Carrier.roll denote.Hole.Carrier.hidden
    Rattle.scope_core.specs.declared.tree.RCond.TheBlock.hidden-the_row-RVal-0
    Rattle.scope_core.specs.declared.tree.RCond.TheBlock.shape-the_row-RVal-1 Rattle.scope_core.specs.declared.tree.RCond.TheBlock.hidden-the_row-RVal-1
    Rattle.scope_core.specs.declared.tree.RCond.TheBlock.shape-the_row-RCond-2 Rattle.scope_core.specs.declared.tree.RCond.TheBlock.hidden-the_row-RCond-2
    Rattle.scope_core.specs.declared.tree.RCond.TheBlock.hidden-the_row-RCond-3 Rattle.scope_core.specs.declared.tree.RCond.TheBlock.hidden-the_row-RQuery-4
    Rattle.scope_core.specs.declared.tree.RCond.TheBlock.hidden-the_row-RBlock-5 Rattle.scope_core.specs.declared.tree.RCond.TheBlock.hidden-the_row-RVal-6
    Rattle.scope_core.specs.declared.tree.RCond.TheBlock.shape-the_row-REntry-7 Rattle.scope_core.specs.declared.tree.RCond.TheBlock.hidden-the_row-REntry-7
everything = tt

-- the same, and all that unfolds when a query that is written out is resolved, or its sites are gone through
unfoldable pub resolving : Unit {0}
unfolding
    everything Rattle.sql_model.specs.Compute.everything Rattle.scope_core.specs.Resolving.resolved Rattle.scope_core.specs.Sites.sites
    Rattle.scope_core.specs.Plain.is_plain_condition
resolving = tt
