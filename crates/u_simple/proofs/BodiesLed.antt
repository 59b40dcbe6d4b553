-- Aggregates that stand at the end of a path of arguments.
use Rattle.std.proofs.Common.{◌≡◌, ℕ, suc, ◌<◌, List, [], ◌∷◌, ◌++◌, length, take, drop, drop-cons, get_or, ap, sym, subst, ◌∙◌, arith}
use Rattle.std.proofs.lemmas.List.{length-take, take-append-drop}
use Rattle.u_terms.specs.declared.term.Val.TheVariants as v
use Rattle.u_terms.specs.Syntax.{U, Val}
use Rattle.u_simple.specs.Bodies.{LeadsToBody, RowLeadsToBody, at_aggregate, in_function, at_argument}

pub led-aggregate : (body : U) (path : List ℕ) (value : Val) (number : ℕ) (found : U) → length path ≡ 0 → value ≡ v.Agg number found → found ≡ body → LeadsToBody body path value
led-aggregate body [] value number found e is same = at_aggregate number (is ∙ ap (λ (x : U). v.Agg number x) same)
led-aggregate body (i ∷ path) value number found e is same = absurd (omega (arith, e))

pub led-function : (body : U) (path : List ℕ) (value : Val) (symbol : ℕ) (vs ws : List Val) → value ≡ v.Fun symbol vs → ws ≡ vs → RowLeadsToBody body path ws → LeadsToBody body path value
led-function body path value symbol vs ws is same h = in_function symbol ws (is ∙ ap (λ (xs : List Val). v.Fun symbol xs) (sym same)) h

pub led-row : (body : U) (path : List ℕ) (vs : List Val) (index : ℕ) (rest : List ℕ) (value : Val) → path ≡ index ∷ rest → index < length vs → value ≡ get_or vs index value → LeadsToBody body rest value → RowLeadsToBody body path vs
led-row body path vs index rest value is less at h =
    let long : index ≡ length (take index vs) = omega (arith, length-take index vs) in
    let parted : vs ≡ take index vs ++ value ∷ drop (suc index) vs =
    sym (take-append-drop index vs) ∙ ap (λ (xs : List Val). take index vs ++ xs) (drop-cons vs index value less ∙ ap (λ (x : Val). x ∷ drop (suc index) vs) (sym at)) in
    subst (λ (p : List ℕ). RowLeadsToBody body p vs) (sym is) (at_argument (take index vs) (drop (suc index) vs) value long parted h)
