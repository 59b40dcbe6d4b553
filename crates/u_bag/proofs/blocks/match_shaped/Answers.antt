use Rattle.std.proofs.Common.{List, sym, subst}
use Rattle.std.proofs.lemmas.Result.{IfOk-weaker}
use Rattle.shapes.specs.Tried.{IsPairing}
use Rattle.term_shapes.proofs.WholeShapes.{shapes-whole}
use Rattle.bag_search.specs.Answers.{Says}
use Rattle.u_bag.specs.Matching.{IsMade, IsMatched}
use Rattle.u_bag.proofs.pairing.Paired.{made-matched, not-paired}
use Rattle.u_bag.proofs.blocks.match_shaped.Goals as goal

pub made-requires-clause-paired : goal.made-requires-clause-paired
made-requires-clause-paired c =
    let outs = c.args.moves.outs in
    let s = c.args.s.now in
    let t = c.args.t.now in
    let says : Says s t c.args.budget c.in_ok-entries.field-0 =
    (c.in_ok-entries.ensures {u = tt}).whole (shapes-whole outs c.args.left.now s c.requires.left_shape) (shapes-whole outs c.args.right.now t c.requires.right_shape) in
    let found = subst (Says s t c.args.budget) c.in-Found.is says in
    record {
      outs = outs;
      s = s;
      t = t;
      shapes = record { left_has = c.requires.left_shape; right_has = c.requires.right_shape };
      pairing = subst (λ (list : List _). IsPairing s t list) (sym c.as_slice.ensures) found.1;
    }

pub returns-in-Found : goal.returns-in-Found
returns-in-Found c =
    let F = c.args.moves.facts.now in
    let outs = c.args.moves.outs in
    let left = c.args.left.now in
    let right = c.args.right.now in
    let s = c.args.s.now in
    let t = c.args.t.now in
    let says : Says s t c.args.budget c.in_ok-entries.field-0 =
    (c.in_ok-entries.ensures {u = tt}).whole (shapes-whole outs left s c.requires.left_shape) (shapes-whole outs right t c.requires.right_shape) in
    let found = subst (Says s t c.args.budget) c.in-Found.is says in
    IfOk-weaker c.made.result (IsMade F outs left right) (IsMatched F outs left right c.args.budget)
    (made-matched outs left right c.args.budget s t c.requires.left_shape c.requires.right_shape F c.in-Found.entries found.0 found.1) c.made.ensures

pub returns-in-Nothing : goal.returns-in-Nothing
returns-in-Nothing c =
    let outs = c.args.moves.outs in
    let s = c.args.s.now in
    let t = c.args.t.now in
    let says : Says s t c.args.budget c.in_ok-entries.field-0 =
    (c.in_ok-entries.ensures {u = tt}).whole (shapes-whole outs c.args.left.now s c.requires.left_shape) (shapes-whole outs c.args.right.now t c.requires.right_shape) in
    let nothing = subst (Says s t c.args.budget) c.in-Nothing.is says in
    not-paired outs c.args.left.now c.args.right.now c.args.budget s t c.requires.left_shape c.requires.right_shape nothing.0 nothing.1
