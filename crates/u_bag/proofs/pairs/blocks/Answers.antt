use Rattle.std.proofs.Common.{◌≡◌, None}
use Rattle.std.proofs.lemmas.Option.{MatchOption-at_none, MatchOption-at_some}
use Rattle.term_shapes.specs.TermShape.{term_shape}
use Rattle.u_bag.specs.Pairs.{IsBlock}
use Rattle.u_bag.proofs.pairing.SumBlocks.{next-block, term-in}
use Rattle.u_bag.proofs.pairs.blocks.Goals as goal

pub loop-term-preserved : goal.loop-term-preserved
loop-term-preserved c =
    next-block c.args.outs c.args.terms.now c.loop-term.term-index c.term-item.result c.loop-term.blocks.items c.push.new.self.items c.in-Some.block c.loop-term-test.true c.term-item.is
    (c.in_ok-push-in-Some.ensures {u = tt}).items (MatchOption-at_some (term_shape c.args.outs c.term-item.result.now ≡ None) (λ b. (b.term.now ≡ c.term-item.result.now) × IsBlock c.args.outs b) c.in-Some.block c.in-Some.is (c.in_ok-block.ensures {u = tt})) c.loop-term.invariant

pub returns-in-None : goal.returns-in-None
returns-in-None c = record {
  term = c.term-item.result.now;
  is_in = term-in c.args.terms.now c.loop-term.term-index c.term-item.result c.loop-term-test.true c.term-item.is;
  shapeless = MatchOption-at_none (term_shape c.args.outs c.term-item.result.now ≡ None) (λ b. (b.term.now ≡ c.term-item.result.now) × IsBlock c.args.outs b) c.in-None.is (c.in_ok-block.ensures {u = tt});
}
