-- What the calls on derivations make is sound.
use Rattle.std.proofs.Common.{◌≡◌, ℕ, ◌+◌, ◌-◌, ◌≤◌, ◌<◌, ◌^◌, max, List, [], ◌∷◌, ◌++◌, length, Err, refl, ap, sym, ◌∙◌, subst, arith}
use Rattle.u_terms.specs.Syntax.{U}
use Rattle.u_terms.specs.declared.facts.Facts.{Facts}
use Rattle.u_terms.specs.Binding.{closed_path}
use Rattle.u_terms.specs.Size.{nodes, depth}
use Rattle.u_terms.specs.Names.{IsFreeBelow}
use Rattle.u_terms.proofs.MappedSizes.{closed_path-nodes, closed_path-depth}
use Rattle.u_deriv.specs.declared.run.Run.{Run}
use Rattle.u_deriv.specs.declared.run.Turn.{Turn}
use Rattle.u_deriv.specs.declared.step.Step.{Step}
use Rattle.u_deriv.specs.Applying.{HasRoomAt, Replaces}
use Rattle.u_deriv.specs.declared.fault.StepFault.{StepFault}
use Rattle.u_deriv.specs.declared.fault.StepFault.TheVariants.{NoResult, NoMemory}
use Rattle.u_deriv.specs.Contexts.{Context, filled, way, binders}
use Rattle.u_deriv.specs.Steps.{Replaced, Rewrites, Replays}
use Rattle.u_deriv.specs.Turns.{turns}
use Rattle.u_deriv.proofs.contexts.Extents.{nodes-filled, depth-filled}
use Rattle.u_deriv.proofs.contexts.Holes.{names-hole}
use Rattle.u_deriv.proofs.steps.Keeps.{replays-closed, replays-named}
use Rattle.u_deriv.proofs.contexts.OneContext.{same_context}
use Rattle.u_deriv.proofs.contexts.Opening.{closed_path-opened}
use Rattle.u_moves.specs.Derivations.{Derivation, IsKnown, IsSound, IsWithin, ReplaysThrough, no_step, first_then}
use Rattle.u_moves.specs.Turning.{turned_back}
use Rattle.u_moves.specs.Lifting.{IsPart, Stands, lifted}
use Rattle.u_moves.proofs.steps.Chains.{starts, ends_in, replays-then, replays-back, replays-plain, replays-wider, replays-under}

pub wider : (n m d e : ℕ) → n ≤ m → d ≤ e → (u : U) → IsWithin n d u → IsWithin m e u
wider n m d e few shallow u w = record { few = omega (arith, few, w.few); shallow = omega (arith, shallow, w.shallow) }

-- ---- what a sound derivation has
module _ (d : Derivation) (h : IsSound d) where
  pub sound-plain : Replays d.facts d.outs d.from d.steps d.to
  sound-plain = replays-plain d.facts (IsWithin d.nodes d.depth) d.outs d.from d.to d.steps h.replays

  pub first-within : IsWithin d.nodes d.depth d.from
  first-within = starts d.facts (IsWithin d.nodes d.depth) d.outs d.from d.to d.steps h.replays

  pub last-within : IsWithin d.nodes d.depth d.to
  last-within = ends_in d.facts (IsWithin d.nodes d.depth) d.outs d.from d.to d.steps h.replays

  pub last-known : IsKnown 0 d.outs d.to
  last-known = record {
    closed = replays-closed d.facts d.outs d.from d.steps d.to sound-plain h.known.closed;
    named = replays-named d.facts d.outs d.from d.steps d.to sound-plain h.known.named;
  }

-- the same by its fields
pub sound-by : (d : Derivation) → IsSound d → (facts : Facts) (outs : ℕ) (from to : U) (steps : List Step) (n m : ℕ)
    → facts ≡ d.facts → outs ≡ d.outs → from ≡ d.from → to ≡ d.to → steps ≡ d.steps → n ≡ d.nodes → m ≡ d.depth
    → IsSound (record { facts = facts; outs = outs; from = from; to = to; steps = steps; nodes = n; depth = m })
sound-by d h facts outs from to steps n m ef eo ea eb es en em = rw (ef, eo, ea, eb, es, en, em) h

-- ---- a replacement where the part stands
pub never_refused : (outs : ℕ) (path : List Run) (before from to after : U) (fault : StepFault) → Stands outs path before from → Replaces outs path before from to after (Err fault) → ⊥
never_refused outs path before from to after NoResult s h =
    h.0 (filled s.context (closed_path to outs (binders s.context))) (record { context = s.context; at_path = s.at_path; is_from = s.is; is_to = refl })
never_refused outs path before from to after NoMemory s h = h

-- ---- without a step, and with one
pub still-sound : (facts : Facts) (outs : ℕ) (u : U) → IsKnown 0 outs u → outs + depth u < 2 ^ 32
    → IsSound (record { facts = facts; outs = outs; from = u; to = u; steps = []; nodes = nodes u; depth = depth u })
still-sound facts outs u known room =
    record { replays = no_step (record { few = omega arith; shallow = omega arith }); known = known; room = room }

pub one-sound : (facts : Facts) (outs : ℕ) (from : U) (step : Step) (to : U) → IsKnown 0 outs from → Rewrites facts outs from step to
    → outs + max (depth from) (depth to) < 2 ^ 32
    → IsSound (record {
      facts = facts;
      outs = outs;
      from = from;
      to = to;
      steps = step ∷ [];
      nodes = max (nodes from) (nodes to);
      depth = max (depth from) (depth to);
    })
one-sound facts outs from step to known made room = record {
  replays =
      first_then (record { few = omega arith; shallow = omega arith }) made (no_step (record { few = omega arith; shallow = omega arith }));
  known = known;
  room = room;
}

-- ---- one after the other
abbrev pub joined : Derivation → Derivation → Derivation
joined d e = record {
  facts = d.facts;
  outs = d.outs;
  from = d.from;
  to = e.to;
  steps = d.steps ++ e.steps;
  nodes = max d.nodes e.nodes;
  depth = max d.depth e.depth;
}

pub joined-sound : (d e : Derivation) → IsSound d → IsSound e → d.to ≡ e.from → d.facts ≡ e.facts → d.outs ≡ e.outs → IsSound (joined d e)
joined-sound d e h k eu ef eo =
    let P = IsWithin (max d.nodes e.nodes) (max d.depth e.depth) in
    let first : ReplaysThrough P d.facts d.outs d.from d.steps d.to =
    replays-wider d.facts (IsWithin d.nodes d.depth) P d.outs (wider d.nodes (max d.nodes e.nodes) d.depth (max d.depth e.depth) (omega arith) (omega arith)) d.from d.to d.steps
    h.replays in
    let rest : ReplaysThrough P e.facts e.outs e.from e.steps e.to =
    replays-wider e.facts (IsWithin e.nodes e.depth) P e.outs (wider e.nodes (max d.nodes e.nodes) e.depth (max d.depth e.depth) (omega arith) (omega arith)) e.from e.to e.steps
    k.replays in
    let moved : ReplaysThrough P d.facts d.outs d.to e.steps e.to =
    subst (λ f. ReplaysThrough P f d.outs d.to e.steps e.to) (sym ef)
    (subst (λ o. ReplaysThrough P e.facts o d.to e.steps e.to) (sym eo) (subst (λ u. ReplaysThrough P e.facts e.outs u e.steps e.to) (sym eu) rest)) in
    record {
      replays = replays-then d.facts P d.outs d.from d.to e.to d.steps e.steps first moved;
      known = h.known;
      room = omega (arith, h.room, k.room, eo);
    }

-- ---- the other way
abbrev pub turned : Derivation → Derivation
turned d = record { facts = d.facts; outs = d.outs; from = d.to; to = d.from; steps = turned_back d.steps; nodes = d.nodes; depth = d.depth }

pub turned-sound : (d : Derivation) → IsSound d → IsSound (turned d)
turned-sound d h = record {
  replays = replays-back d.facts (IsWithin d.nodes d.depth) d.outs d.from d.to d.steps h.replays;
  known = last-known d h;
  room = h.room;
}

-- ---- in a whole
module _ (d e : Derivation) (path : List Run) (h : IsSound d) (k : IsSound e) (part : IsPart d.outs path d.to e.outs e.from) where
  same-place : (c : Context) (inside : U) → way c ≡ turns path → d.to ≡ filled c inside → c ≡ part.context
  same-place c inside at is = same_context c part.context inside part.inside (at ∙ sym part.at_path) (sym is ∙ part.is)

  pub part-stands : Stands d.outs path d.to e.from
  part-stands = record {
    context = part.context;
    at_path = part.at_path;
    is =
        part.is
        ∙ ap (filled part.context)
        (sym (ap (λ u. closed_path u d.outs (binders part.context)) part.opened
        ∙ closed_path-opened d.outs (binders part.context) part.inside
        (names-hole (λ x. x < d.outs) part.context part.inside (subst (IsFreeBelow d.outs) part.is (last-known d h).named))));
  }

  pub part-room : HasRoomAt d.outs path d.to e.to
  part-room c inside at is =
      let same = ap binders (same-place c inside at is) in
      let deep = last-within e k in
      omega (arith, same, part.names, k.room, deep.shallow)

  pub part-few : nodes e.from ≤ e.nodes
  part-few = let w = first-within e k in w.few

  module _ (to : U) (r : Replaced d.outs path d.to e.from e.to to) where
    pub made-names : e.outs ≡ d.outs + binders r.context
    made-names = let same = ap binders (same-place r.context (closed_path e.from d.outs (binders r.context)) r.at_path r.is_from) in omega (arith, part.names, same)

    abbrev most_nodes : ℕ
    most_nodes = max d.nodes (nodes d.to + e.nodes - nodes e.from)

    abbrev most_depth : ℕ
    most_depth = max d.depth (length (turns path) + e.depth)

    keeps : (u : U) → IsWithin e.nodes e.depth u → IsWithin most_nodes most_depth (filled r.context (closed_path u d.outs (binders r.context)))
    keeps u w =
        let c = r.context in
        let k = binders c in
        let old = closed_path e.from d.outs k in
        let new = closed_path u d.outs k in
        let deep = last-within d h in
        record {
          few =
              omega (arith, nodes-filled c new old, closed_path-nodes e.from d.outs k, closed_path-nodes u d.outs k, ap nodes r.is_from, w.few);
          shallow =
              omega (arith, depth-filled c new old, closed_path-depth u d.outs k, ap depth r.is_from, w.shallow, deep.shallow, ap length r.at_path);
        }

    pub made-sound : d.facts ≡ e.facts → d.outs + most_depth < 2 ^ 32
        → IsSound (record {
          facts = d.facts;
          outs = d.outs;
          from = d.from;
          to = to;
          steps = d.steps ++ lifted path e.steps;
          nodes = most_nodes;
          depth = most_depth;
        })
    made-sound ef room =
        let c = r.context in
        let P = IsWithin most_nodes most_depth in
        let first : ReplaysThrough P d.facts d.outs d.from d.steps d.to =
        replays-wider d.facts (IsWithin d.nodes d.depth) P d.outs (wider d.nodes most_nodes d.depth most_depth (omega arith) (omega arith)) d.from d.to d.steps h.replays in
        let inner : ReplaysThrough (IsWithin e.nodes e.depth) d.facts (d.outs + binders c) e.from e.steps e.to =
        subst (λ f. ReplaysThrough (IsWithin e.nodes e.depth) f (d.outs + binders c) e.from e.steps e.to) (sym ef)
        (subst (λ o. ReplaysThrough (IsWithin e.nodes e.depth) e.facts o e.from e.steps e.to) made-names k.replays) in
        let at : ◌≡◌ {A = List Turn} (way c) (turns path) = r.at_path in
        let rest = replays-under d.facts (IsWithin e.nodes e.depth) P d.outs c path at keeps e.from e.to e.steps inner in
        let moved : ReplaysThrough P d.facts d.outs d.to (lifted path e.steps) to =
        subst (λ u. ReplaysThrough P d.facts d.outs u (lifted path e.steps) to) (sym r.is_from)
        (subst (λ u. ReplaysThrough P d.facts d.outs (filled c (closed_path e.from d.outs (binders c))) (lifted path e.steps) u) (sym r.is_to) rest) in
        record {
          replays = replays-then d.facts P d.outs d.from d.to to d.steps (lifted path e.steps) first moved;
          known = h.known;
          room = room;
        }
