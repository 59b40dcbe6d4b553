-- One path after another: its turns are those of the one and then those of the other; and a path is written again run by run.
use Rattle.std.proofs.Common.{◌≡◌, ℕ, suc, ◌+◌, ◌-◌, ◌<◌, List, [], ◌∷◌, ◌++◌, length, take, drop, get_or, Option, Some, None, refl, ap, sym, ◌∙◌, subst, append_assoc, arith}
use Rattle.std.proofs.lemmas.List.{append-nil, take-append-drop, drop_more, take_more}
use Rattle.std.proofs.lemmas.List.Concat.{flat_map-cons}
use Rattle.u_deriv.specs.declared.run.Run.{Run}
use Rattle.u_deriv.specs.declared.run.Run.TheVariants.{Left, Right, Inside, Argument}
use Rattle.u_deriv.specs.declared.run.Turn.{Turn}
use Rattle.u_deriv.specs.Turns.{turns, run_turns}
use Rattle.u_deriv.specs.Normal.{IsLike, EachNeighbour, IsNormal, joined, last_of, pushed, joined_last, ended_by}
use Rattle.u_deriv.proofs.paths.Runs.{turns-appended, turns-joined}
use Rattle.u_moves.specs.Lifting.{after}

turns-pushed : (runs : List Run) (run : Run) → turns (pushed runs run) ≡ turns runs ++ run_turns run
turns-pushed runs run = by_cases (joined_last runs run) refl
  where
    by_cases : (both : Option Run) → joined_last runs run ≡ both → turns (ended_by runs run both) ≡ turns runs ++ run_turns run
    by_cases None e = turns-appended runs run
    by_cases (Some both) e = turns-joined runs run both e

pub turns-after : (path more : List Run) → turns (after path more) ≡ turns path ++ turns more
turns-after path [] = sym (append-nil (turns path))
turns-after path (run ∷ more) =
    turns-after (pushed path run) more ∙ ap (λ (w : List Turn). w ++ turns more) (turns-pushed path run) ∙ append_assoc (turns path) (run_turns run) (turns more)
    ∙ ap (λ (w : List Turn). turns path ++ w) (sym (flat_map-cons run_turns run more))

-- ---- a path again
apart : (last run : Run) → (IsLike last run → ⊥) → joined last run ≡ None
apart (Left m) (Left n) h = absurd (h tt)
apart (Left m) (Right n) h = refl
apart (Left m) (Inside n) h = refl
apart (Left m) (Argument n) h = refl
apart (Right m) (Left n) h = refl
apart (Right m) (Right n) h = absurd (h tt)
apart (Right m) (Inside n) h = refl
apart (Right m) (Argument n) h = refl
apart (Inside m) (Left n) h = refl
apart (Inside m) (Right n) h = refl
apart (Inside m) (Inside n) h = absurd (h tt)
apart (Inside m) (Argument n) h = refl
apart (Argument m) (Left n) h = refl
apart (Argument m) (Right n) h = refl
apart (Argument m) (Inside n) h = refl
apart (Argument m) (Argument n) h = refl

pushed-alone : (runs : List Run) (run : Run) → joined_last runs run ≡ None → pushed runs run ≡ runs ++ run ∷ []
pushed-alone runs run none = ap (ended_by runs run) none

last_of-later : (first next : Run) (runs : List Run) → last_of (first ∷ next ∷ runs) ≡ last_of (next ∷ runs)
last_of-later first next runs =
    let one : suc (suc (length runs)) - 1 ≡ suc (length runs) = omega arith in
    let two : suc (length runs) - 1 ≡ length runs = omega arith in
    rw (one, two) refl

abbrev Apart : List Run → Type 0
Apart = EachNeighbour (λ run next. IsLike run next → ⊥)

joined_last-none : (runs : List Run) (run : Run) (more : List Run) → Apart (runs ++ run ∷ more) → joined_last runs run ≡ None
joined_last-none [] run more each = refl
joined_last-none (last ∷ []) run more each = apart last run each.0
joined_last-none (first ∷ next ∷ runs) run more each =
    let later : joined_last (first ∷ next ∷ runs) run ≡ joined_last (next ∷ runs) run = rw (last_of-later first next runs) refl in
    later ∙ joined_last-none (next ∷ runs) run more each.1

pub pushed-next : (runs : List Run) (i : ℕ) (d : Run) → IsNormal runs → i < length runs → pushed (take i runs) (get_or runs i d) ≡ take (i + 1) runs
pushed-next runs i d normal less =
    let split : runs ≡ take i runs ++ get_or runs i d ∷ drop (i + 1) runs =
    sym (take-append-drop i runs) ∙ ap (λ (rest : List Run). take i runs ++ rest) (drop_more runs i d less) in
    let none = joined_last-none (take i runs) (get_or runs i d) (drop (i + 1) runs) (subst Apart split normal.apart) in
    pushed-alone (take i runs) (get_or runs i d) none ∙ sym (take_more runs i d less)
