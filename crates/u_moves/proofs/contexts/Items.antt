-- A list whose items are changed in place, one after the other.
use Rattle.std.proofs.Common.{◌≡◌, ℕ, ◌+◌, ◌<◌, List, ◌++◌, length, take, drop, get_or, map, ap, sym, ◌∙◌}
use Rattle.std.specs.Prelude.{slice_set}
use Rattle.std.proofs.lemmas.List.Edits.{map_over_more}
use Rattle.u_deriv.specs.declared.step.Step.{Step}

pub one-changed : (f : Step → Step) (steps now : List Step) (i : ℕ) (old new : Step) → i < length steps → now ≡ map f (take i steps) ++ drop i steps → old ≡ get_or now i old
    → new ≡ f (get_or now i old) → slice_set now i new ≡ map f (take (i + 1) steps) ++ drop (i + 1) steps
one-changed f steps now i old new less so is e =
    ap (λ (s : Step). slice_set now i s) (e ∙ ap f (sym is)) ∙ map_over_more f steps now i old less so is
