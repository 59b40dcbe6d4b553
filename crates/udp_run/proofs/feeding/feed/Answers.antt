use Rattle.std.proofs.Common.{◌≡◌, rules, sym, subst, Err, arith}
use Rattle.std.proofs.lemmas.List.{length-take-le}
use Rattle.udp_run.specs.Runs.{IsFed}
use Rattle.udp_run.specs.declared.feeding.Unfed.TheVariants.{Stopped}
use Rattle.udp_run.proofs.Fed.{so_far-more, so_far-none, so_far-stops}
use Rattle.udp_run.proofs.feeding.feed.Goals as goal

pub loop-taken-init : goal.loop-taken-init
loop-taken-init g c = record {
  usable = c.requires.usable;
  within = omega arith;
  so_far = so_far-none (g.S.Store.left c.args.store.now) c.args.pieces.now;
  same_texts = search rules;
  later = search rules;
}

pub loop-taken-preserved : goal.loop-taken-preserved
loop-taken-preserved g c = record {
  usable = search rules;
  within = search rules;
  so_far = so_far-more _ _ _ _ _ c.loop-taken.invariant.so_far _ _ _ _ c.in_ok-count.ensures.taken (length-take-le c.in_ok-count.count c.take_piece.new.buffer (search rules)) c.in_ok-take.ensures.taken;
  same_texts = search rules;
  later = search rules;
}

pub returns-in_err-take-clause-fed : goal.returns-in_err-take-clause-fed
returns-in_err-take-clause-fed g c =
    let e : c.from_residual-in_err-take.result ≡ Err (Stopped c.in_err-take.field-0.0) = search rules in
    subst (IsFed _ _ _ _) (sym e) (so_far-stops _ _ _ _ _ c.loop-taken.invariant.so_far _ _ _ c.in_ok-count.ensures.taken (search rules) (search rules) c.in_err-take.ensures.taken.0)
