-- Steps one after the other through terms that have a property: joined, turned back, at the end of a path.
use Rattle.std.proofs.Common.{◌≡◌, ℕ, ◌+◌, List, [], ◌∷◌, ◌++◌, map, ap, sym, ◌∙◌, subst}
use Rattle.std.specs.Prelude.{reverse}
use Rattle.std.proofs.lemmas.List.{map-append, reverse-append}
use Rattle.u_terms.specs.Syntax.{U}
use Rattle.u_terms.specs.declared.facts.Facts.{Facts}
use Rattle.u_terms.specs.Binding.{closed_path}
use Rattle.u_deriv.specs.declared.run.Run.{Run}
use Rattle.u_deriv.specs.declared.step.Step.{Step}
use Rattle.u_deriv.specs.Turns.{turns}
use Rattle.u_deriv.specs.Contexts.{Context, filled, way, binders}
use Rattle.u_deriv.specs.Steps.{Rewrites, Replays}
use Rattle.u_deriv.specs.Steps as steps
use Rattle.u_deriv.proofs.steps.OneResult.{one_result}
use Rattle.u_moves.specs.Derivations.{ReplaysThrough, no_step, first_then}
use Rattle.u_moves.specs.Turning.{flipped, turned_back}
use Rattle.u_moves.specs.Lifting.{lifted}
use Rattle.u_moves.proofs.steps.Elsewhere.{rewrites-back, rewrites-under}

pub turned_back-cons : (s : Step) (rest : List Step) → turned_back (s ∷ rest) ≡ turned_back rest ++ flipped s ∷ []
turned_back-cons s rest = ap (map flipped) (reverse-append (s ∷ []) rest) ∙ map-append flipped (reverse rest) (s ∷ [])

module _ (facts : Facts) where
  module _ (P : U → Type 0) (outs : ℕ) where
    pub starts : (a b : U) (xs : List Step) → ReplaysThrough P facts outs a xs b → P a
    starts a b xs (no_step p) = p
    starts a b xs (first_then p step more) = p

    pub ends_in : (a b : U) (xs : List Step) → ReplaysThrough P facts outs a xs b → P b
    ends_in a b xs (no_step p) = p
    ends_in a b xs (first_then {middle = d} {rest = rest} p step more) = ends_in d b rest more

    pub replays-then : (a b c : U) (xs ys : List Step) → ReplaysThrough P facts outs a xs b → ReplaysThrough P facts outs b ys c → ReplaysThrough P facts outs a (xs ++ ys) c
    replays-then a b c xs ys (no_step p) k = k
    replays-then a b c xs ys (first_then {middle = d} {rest = rest} p step more) k = first_then p step (replays-then d b c rest ys more k)

    pub replays-back : (a b : U) (xs : List Step) → ReplaysThrough P facts outs a xs b → ReplaysThrough P facts outs b (turned_back xs) a
    replays-back a b xs (no_step p) = no_step p
    replays-back a b xs (first_then {middle = d} {step = s} {rest = rest} p step more) =
        subst (λ (ss : List Step). ReplaysThrough P facts outs b ss a) (sym (turned_back-cons s rest))
        (replays-then b d a (turned_back rest) (flipped s ∷ []) (replays-back d b rest more)
        (first_then (starts d b rest more) (rewrites-back facts outs a d s step) (no_step p)))

    pub replays-plain : (a b : U) (xs : List Step) → ReplaysThrough P facts outs a xs b → Replays facts outs a xs b
    replays-plain a b xs (no_step p) = steps.no_step
    replays-plain a b xs (first_then {middle = d} {rest = rest} p step more) = steps.first_then step (replays-plain d b rest more)

    -- each term that some first steps lead to
    replays-rest : (a b d : U) (s : Step) (xs : List Step) → ReplaysThrough P facts outs a (s ∷ xs) b → Rewrites facts outs a s d → ReplaysThrough P facts outs d xs b
    replays-rest a b d s xs (first_then {middle = e} p other later) step =
        subst (λ x. ReplaysThrough P facts outs x xs b) (one_result facts outs a s e d other step) later

    pub replays-within : (a b u : U) (first rest : List Step) → ReplaysThrough P facts outs a (first ++ rest) b → Replays facts outs a first u → P u
    replays-within a b u first rest through steps.no_step = starts a b rest through
    replays-within a b u first rest through (steps.first_then {middle = d} {step = s} {rest = more} step left) =
        replays-within d b u more rest (replays-rest a b d s (more ++ rest) through step) left

  pub replays-wider : (P Q : U → Type 0) (outs : ℕ) → ((u : U) → P u → Q u) → (a b : U) (xs : List Step) → ReplaysThrough P facts outs a xs b → ReplaysThrough Q facts outs a xs b
  replays-wider P Q outs keeps a b xs (no_step p) = no_step (keeps a p)
  replays-wider P Q outs keeps a b xs (first_then {middle = d} {rest = rest} p step more) = first_then (keeps a p) step (replays-wider P Q outs keeps d b rest more)

  pub replays-under : (P Q : U → Type 0) (outs : ℕ) (c : Context) (path : List Run) → way c ≡ turns path
      → ((u : U) → P u → Q (filled c (closed_path u outs (binders c)))) → (a b : U) (xs : List Step)
      → ReplaysThrough P facts (outs + binders c) a xs b
      → ReplaysThrough Q facts outs (filled c (closed_path a outs (binders c))) (lifted path xs) (filled c (closed_path b outs (binders c)))
  replays-under P Q outs c path at keeps a b xs (no_step p) = no_step (keeps a p)
  replays-under P Q outs c path at keeps a b xs (first_then {middle = d} {step = s} {rest = rest} p step more) =
      first_then (keeps a p) (rewrites-under facts outs c path a d s at step) (replays-under P Q outs c path at keeps d b rest more)
