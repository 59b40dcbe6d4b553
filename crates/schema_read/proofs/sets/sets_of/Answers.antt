use Rattle.std.proofs.Common.{◌<◌, ◌+◌, nat_eq, take, length, sym, ap, subst, ◌∙◌}
use Rattle.indexmap.specs.IndexSet.{insert_key}
use Rattle.data_model.specs.Lists.{Each}
use Rattle.schema_read.specs.Known.{AreSetsOf}
use Rattle.schema_read.specs.Sets.{column_set}
use Rattle.schema_read.proofs.built.KnownLaws.{sets_push, take_next}
use Rattle.schema_read.proofs.built.Steps.{split_at}
use Rattle.schema_read.proofs.sets.sets_of.Goals as goal

pub loop-key-preserved : goal.loop-key-preserved
loop-key-preserved c =
    let keys = c.args.keys.now in
    let i = c.loop-key.key-index in
    let key = c.key-item.result in
    let within : i < length keys = c.loop-key-test.true in
    let number = c.column_set.ensures ∙ ap column_set c.as_slice.ensures in
    record {
      sets =
          subst (AreSetsOf (take (i + 1) keys)) (sym (c.in_ok-insert.ensures.keys ∙ ap (insert_key nat_eq c.loop-key.sets.keys) number))
          (subst (λ ks. AreSetsOf ks (insert_key nat_eq c.loop-key.sets.keys (column_set key))) (take_next keys i key within c.key-item.is)
          (sets_push (take i keys) c.loop-key.sets.keys key c.loop-key.invariant.sets));
      small = (subst (Each (Each (λ column. column < 64))) (split_at keys i key within c.key-item.is) c.loop-key.invariant.small).1;
    }
