use Rattle.std.proofs.Common.{rules, sym, ap, subst, ◌∙◌, Err}
use Rattle.udp_run.specs.Runs.{IsFed, answer_of}
use Rattle.udp_run.specs.declared.feeding.Unfed.{Unfed}
use Rattle.udp_run.proofs.Fed.{failed-found, long-found, stopped-found, whole-found}
use Rattle.udp_run.proofs.top.feed_proof.Goals as goal

pub returns-in-Ok-clause-found : goal.returns-in-Ok-clause-found
returns-in-Ok-clause-found g c claim is right = whole-found claim _ _ _ is _ _ _ _ _ right c.in-Ok.ensures.fed c.finish.ensures c.verdict_of.ensures

pub returns-in-Err-Stopped-clause-found : goal.returns-in-Err-Stopped-clause-found
returns-in-Err-Stopped-clause-found g c claim is right =
    stopped-found claim _ _ _ is _ _ _ _
    (subst (λ (u : Unfed). IsFed (g.S.Store.left c.args.store.now) (g.S.Store.left c.feed.new.store) c.args.pieces c.feed.new.pieces (Err u)) c.in-Err-Stopped.field-0-is c.in-Err-Stopped.ensures.fed)
    (c.stopped.ensures ∙ ap answer_of (c.in-Err-Stopped.stop-is)) c.verdict_of-in-Err-Stopped.ensures

pub returns-in-Err-Failed-clause-found : goal.returns-in-Err-Failed-clause-found
returns-in-Err-Failed-clause-found g c claim is right = failed-found claim _ _ _ is _ _ (search rules) (subst (λ (u : Unfed). IsFed (g.S.Store.left c.args.store.now) (g.S.Store.left c.feed.new.store) c.args.pieces c.feed.new.pieces (Err u)) c.in-Err-Failed.field-0-is c.in-Err-Failed.ensures.fed).1

pub returns-clause-found : goal.returns-clause-found
returns-clause-found g c claim is right = long-found claim _ _ _ is _ (subst (λ (u : Unfed). IsFed (g.S.Store.left c.args.store.now) (g.S.Store.left c.feed.new.store) c.args.pieces c.feed.new.pieces (Err u)) c.in-Err-TooLong.field-0-is c.in-Err-TooLong.ensures.fed)
