-- A derivation made in the last term of another one: by what is required of both as they came in, of both as they are inside.
use Rattle.std.proofs.Common.{◌≡◌, ℕ, ◌+◌, ◌-◌, ◌<◌, ◌^◌, max, List, ◌++◌, length, refl, sym, subst, arith}
use Rattle.u_terms.specs.Syntax.{U}
use Rattle.u_terms.specs.Size as size
use Rattle.u_terms.specs.Size.{nodes, depth}
use Rattle.u_deriv.specs.declared.run.Run.{Run}
use Rattle.u_deriv.specs.declared.step.Step.{Step}
use Rattle.u_deriv.specs.Applying.{HasRoomAt}
use Rattle.u_deriv.specs.Steps.{Replaced}
use Rattle.u_deriv.specs.Turns.{turns}
use Rattle.u_moves.specs.Derivations.{Derivation, IsSound}
use Rattle.u_moves.specs.Lifting.{IsPart, IsMadeIn, Stands, lifted}
use Rattle.u_moves.proofs.derivations.Sound.{last-within, part-stands, part-room, made-names, made-sound, sound-by}

pub record Given (path : List Run) (n m : ℕ) (d e : Derivation) : Type 0 where
  pub facts : d.facts ≡ e.facts
  pub part : IsPart d.outs path d.to e.outs e.from
  pub nodes : n ≡ max d.nodes (size.nodes d.to + e.nodes - size.nodes e.from)
  pub depth : m ≡ max d.depth (length (turns path) + e.depth)
  pub room : d.outs + m < 2 ^ 32

-- both inside, and both as they came in
module _ (path : List Run) (n m : ℕ) (d e d' e' : Derivation) (vd : d ≡ d') (ve : e ≡ e') (given : Given path n m d' e') (h : IsSound d) (k : IsSound e) where
  given-inside : Given path n m d e
  given-inside = subst (λ x. Given path n m x e) (sym vd) (subst (λ y. Given path n m d' y) (sym ve) given)

  pub shallow-inside : d.outs + depth d.to < 2 ^ 32
  shallow-inside = let w = last-within d h in omega (arith, w.shallow, h.room)

  pub room-inside : HasRoomAt d.outs path d.to e.to
  room-inside = part-room d e path h k given-inside.part

  pub stands-inside : Stands d.outs path d.to e.from
  stands-inside = part-stands d e path h k given-inside.part

  module _ (to : U) (steps : List Step) (r : Replaced d.outs path d.to e.from e.to to) (es : steps ≡ d.steps ++ lifted path e.steps) where
    abbrev made : Derivation
    made = record { facts = d.facts; outs = d.outs; from = d.from; to = to; steps = steps; nodes = n; depth = m }

    pub made-whole : IsSound made
    made-whole =
        let g = given-inside in
        let room : d.outs + max d.depth (length (turns path) + e.depth) < 2 ^ 32 = omega (arith, g.depth, g.room) in
        sound-by
        (record {
          facts = d.facts;
          outs = d.outs;
          from = d.from;
          to = to;
          steps = d.steps ++ lifted path e.steps;
          nodes = max d.nodes (nodes d.to + e.nodes - nodes e.from);
          depth = max d.depth (length (turns path) + e.depth);
        })
        (made-sound d e path h k g.part to r g.facts room) d.facts d.outs d.from to steps n m refl refl refl refl es g.nodes g.depth

    pub made-shown : IsMadeIn path d' e' made
    made-shown =
        let g = given-inside in
        let inside : IsMadeIn path d e made = record {
          facts = refl;
          outs = refl;
          from = refl;
          replaced = r;
          names = made-names d e path h k g.part to r;
          steps = es;
          nodes = g.nodes;
          depth = g.depth;
        } in
        subst (λ x. IsMadeIn path x e' made) vd (subst (λ y. IsMadeIn path d y made) ve inside)
