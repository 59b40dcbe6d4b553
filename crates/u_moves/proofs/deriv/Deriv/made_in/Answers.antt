use Rattle.std.proofs.lemmas.Result.{IfOk-at_ok}
use Rattle.u_moves.specs.Derivations.{Derivation}
use Rattle.u_moves.proofs.derivations.Made.{Given, shallow-inside, room-inside, stands-inside, made-whole, made-shown}
use Rattle.u_moves.proofs.deriv.Deriv.made_in.Goals as goal

pub replaced-requires-clause-shallow : goal.replaced-requires-clause-shallow
replaced-requires-clause-shallow c =
    let d : Derivation = record {
      facts = c.self.inside.facts.now;
      outs = c.self.inside.outs;
      from = c.self.inside.from;
      to = c.self.inside.to;
      steps = c.self.inside.steps;
      nodes = c.self.inside.nodes;
      depth = c.self.inside.depth;
    } in
    let e : Derivation = record {
      facts = c.other.inside.facts.now;
      outs = c.other.inside.outs;
      from = c.other.inside.from;
      to = c.other.inside.to;
      steps = c.other.inside.steps;
      nodes = c.other.inside.nodes;
      depth = c.other.inside.depth;
    } in
    let given : Given c.args.path.now c.in_ok-bounds.bounds.nodes c.in_ok-bounds.bounds.depth c.args.self c.args.other = record {
      facts = c.requires.facts;
      part = c.requires.part;
      nodes = IfOk-at_ok _ (c.in_ok-bounds.was {u = tt}) c.requires.nodes;
      depth = IfOk-at_ok _ (c.in_ok-bounds.was {u = tt}) c.requires.depth;
      room = IfOk-at_ok _ (c.in_ok-bounds.was {u = tt}) c.requires.room;
    } in
    shallow-inside c.args.path.now c.in_ok-bounds.bounds.nodes c.in_ok-bounds.bounds.depth d e c.args.self c.args.other c.self.view_is c.other.view_is given c.self.invariant c.other.invariant

pub replaced-requires-clause-room : goal.replaced-requires-clause-room
replaced-requires-clause-room c =
    let d : Derivation = record {
      facts = c.self.inside.facts.now;
      outs = c.self.inside.outs;
      from = c.self.inside.from;
      to = c.self.inside.to;
      steps = c.self.inside.steps;
      nodes = c.self.inside.nodes;
      depth = c.self.inside.depth;
    } in
    let e : Derivation = record {
      facts = c.other.inside.facts.now;
      outs = c.other.inside.outs;
      from = c.other.inside.from;
      to = c.other.inside.to;
      steps = c.other.inside.steps;
      nodes = c.other.inside.nodes;
      depth = c.other.inside.depth;
    } in
    let given : Given c.args.path.now c.in_ok-bounds.bounds.nodes c.in_ok-bounds.bounds.depth c.args.self c.args.other = record {
      facts = c.requires.facts;
      part = c.requires.part;
      nodes = IfOk-at_ok _ (c.in_ok-bounds.was {u = tt}) c.requires.nodes;
      depth = IfOk-at_ok _ (c.in_ok-bounds.was {u = tt}) c.requires.depth;
      room = IfOk-at_ok _ (c.in_ok-bounds.was {u = tt}) c.requires.room;
    } in
    room-inside c.args.path.now c.in_ok-bounds.bounds.nodes c.in_ok-bounds.bounds.depth d e c.args.self c.args.other c.self.view_is c.other.view_is given c.self.invariant c.other.invariant

pub replaced-requires-clause-stands : goal.replaced-requires-clause-stands
replaced-requires-clause-stands c =
    let d : Derivation = record {
      facts = c.self.inside.facts.now;
      outs = c.self.inside.outs;
      from = c.self.inside.from;
      to = c.self.inside.to;
      steps = c.self.inside.steps;
      nodes = c.self.inside.nodes;
      depth = c.self.inside.depth;
    } in
    let e : Derivation = record {
      facts = c.other.inside.facts.now;
      outs = c.other.inside.outs;
      from = c.other.inside.from;
      to = c.other.inside.to;
      steps = c.other.inside.steps;
      nodes = c.other.inside.nodes;
      depth = c.other.inside.depth;
    } in
    let given : Given c.args.path.now c.in_ok-bounds.bounds.nodes c.in_ok-bounds.bounds.depth c.args.self c.args.other = record {
      facts = c.requires.facts;
      part = c.requires.part;
      nodes = IfOk-at_ok _ (c.in_ok-bounds.was {u = tt}) c.requires.nodes;
      depth = IfOk-at_ok _ (c.in_ok-bounds.was {u = tt}) c.requires.depth;
      room = IfOk-at_ok _ (c.in_ok-bounds.was {u = tt}) c.requires.room;
    } in
    stands-inside c.args.path.now c.in_ok-bounds.bounds.nodes c.in_ok-bounds.bounds.depth d e c.args.self c.args.other c.self.view_is c.other.view_is given c.self.invariant c.other.invariant

pub invariant_of-result : goal.invariant_of-result
invariant_of-result c =
    let d : Derivation = record {
      facts = c.self.inside.facts.now;
      outs = c.self.inside.outs;
      from = c.self.inside.from;
      to = c.self.inside.to;
      steps = c.self.inside.steps;
      nodes = c.self.inside.nodes;
      depth = c.self.inside.depth;
    } in
    let e : Derivation = record {
      facts = c.other.inside.facts.now;
      outs = c.other.inside.outs;
      from = c.other.inside.from;
      to = c.other.inside.to;
      steps = c.other.inside.steps;
      nodes = c.other.inside.nodes;
      depth = c.other.inside.depth;
    } in
    let given : Given c.args.path.now c.in_ok-bounds.bounds.nodes c.in_ok-bounds.bounds.depth c.args.self c.args.other = record {
      facts = c.requires.facts;
      part = c.requires.part;
      nodes = IfOk-at_ok _ (c.in_ok-bounds.was {u = tt}) c.requires.nodes;
      depth = IfOk-at_ok _ (c.in_ok-bounds.was {u = tt}) c.requires.depth;
      room = IfOk-at_ok _ (c.in_ok-bounds.was {u = tt}) c.requires.room;
    } in
    made-whole c.args.path.now c.in_ok-bounds.bounds.nodes c.in_ok-bounds.bounds.depth d e c.args.self c.args.other c.self.view_is c.other.view_is given c.self.invariant c.other.invariant c.in_ok-to.to c.in_ok-steps.steps (c.in_ok-to.ensures {u = tt}) (c.in_ok-steps.ensures {u = tt})

pub returns : goal.returns
returns c =
    let d : Derivation = record {
      facts = c.self.inside.facts.now;
      outs = c.self.inside.outs;
      from = c.self.inside.from;
      to = c.self.inside.to;
      steps = c.self.inside.steps;
      nodes = c.self.inside.nodes;
      depth = c.self.inside.depth;
    } in
    let e : Derivation = record {
      facts = c.other.inside.facts.now;
      outs = c.other.inside.outs;
      from = c.other.inside.from;
      to = c.other.inside.to;
      steps = c.other.inside.steps;
      nodes = c.other.inside.nodes;
      depth = c.other.inside.depth;
    } in
    let given : Given c.args.path.now c.in_ok-bounds.bounds.nodes c.in_ok-bounds.bounds.depth c.args.self c.args.other = record {
      facts = c.requires.facts;
      part = c.requires.part;
      nodes = IfOk-at_ok _ (c.in_ok-bounds.was {u = tt}) c.requires.nodes;
      depth = IfOk-at_ok _ (c.in_ok-bounds.was {u = tt}) c.requires.depth;
      room = IfOk-at_ok _ (c.in_ok-bounds.was {u = tt}) c.requires.room;
    } in
    made-shown c.args.path.now c.in_ok-bounds.bounds.nodes c.in_ok-bounds.bounds.depth d e c.args.self c.args.other c.self.view_is c.other.view_is given c.self.invariant c.other.invariant c.in_ok-to.to c.in_ok-steps.steps (c.in_ok-to.ensures {u = tt}) (c.in_ok-steps.ensures {u = tt})
