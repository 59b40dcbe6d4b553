-- The size of the term of a tree that stands by itself.
use Rattle.std.proofs.Common.{◌≡◌, ℕ, suc, List, [], ◌∷◌, ◌++◌, length, get_or, refl, ap, sym, subst, ◌∙◌, arith, inl, inr, append_assoc}
use Rattle.std.proofs.lemmas.List.{append-nil}
use Rattle.u_terms.specs.Syntax.{U, Val}
use Rattle.u_terms.specs.declared.term.U.TheVariants as u
use Rattle.scope_core.specs.Syntax.{RQuery}
use Rattle.scope_core.specs.Width.{width}
use Rattle.scope_core.specs.Fitting.{HasView, FitsViews, DoViewsFit}
use Rattle.scope_core.proofs.schema.FittingTrees.{HasView-in, HasView-cases}
use Rattle.scope_core.proofs.basics.Lists.{longer, get-between, get-before}
use Rattle.sql_to_u.specs.declared.size.Size.{Size}
use Rattle.sql_to_u.specs.Factors.{names_from}
use Rattle.sql_to_u.specs.Translation.{TermAt}
use Rattle.sql_to_u.specs.Answer.{view_term, view_terms, translation}
use Rattle.sql_to_u.specs.Sizes.{term_size, leaf, leaves, view_size, view_sizes, translation_size}
use Rattle.sql_to_u.proofs.sizes.Sized.{query-sized, size-names}

abbrev none : List Val → ℕ → U
none row next = u.Zero

-- the terms of the views have these sizes at a row of names
record SizedViews (trees : List RQuery) (terms : List TermAt) (sizes : List Size) : Type 0 where
  pub terms_long : length terms ≡ length trees
  pub sizes_long : length sizes ≡ length trees
  pub view : (place wide : ℕ) → HasView trees place wide → (first next : ℕ) → term_size (get_or terms place none (names_from first wide) next) ≡ get_or sizes place leaf

more : (trees : List RQuery) (terms : List TermAt) (sizes : List Size) (t : RQuery) → SizedViews trees terms sizes → FitsViews trees t
    → SizedViews (trees ++ t ∷ []) (terms ++ view_term terms t ∷ []) (sizes ++ view_size sizes t ∷ [])
more trees terms sizes t s fits =
    let new : TermAt = view_term terms t in
    let made = view_size sizes t in
    let last_size : get_or (sizes ++ made ∷ []) (length trees) leaf ≡ made = subst (λ l. get_or (sizes ++ made ∷ []) l leaf ≡ made) s.sizes_long (get-between sizes made [] leaf) in
    let last_term : get_or (terms ++ new ∷ []) (length trees) none ≡ new = subst (λ l. get_or (terms ++ new ∷ []) l none ≡ new) s.terms_long (get-between terms new [] none) in
    record {
      terms_long = longer terms new ∙ ap suc s.terms_long ∙ sym (longer trees t);
      sizes_long = longer sizes made ∙ ap suc s.sizes_long ∙ sym (longer trees t);
      view = λ place wide h first next. elim (HasView-cases trees t place wide h) [
        | inl before ↦
            let lt = HasView-in trees place wide before in
            ap (λ q. term_size (q (names_from first wide) next)) (get-before terms new none place (omega (arith, lt, s.terms_long)))
            ∙ s.view place wide before first next
            ∙ sym (get-before sizes made leaf place (omega (arith, lt, s.sizes_long)))
        | inr last ↦ subst (λ p. term_size (get_or (terms ++ new ∷ []) p none (names_from first wide) next) ≡ get_or (sizes ++ made ∷ []) p leaf) last.0
            (ap (λ q. term_size (q (names_from first wide) next)) last_term
            ∙ query-sized (λ number wide. Unit {0}) (HasView trees) terms sizes s.view t [] [] (names_from first wide) (leaves (width t)) next fits (size-names first wide ∙ ap leaves (sym last.1))
            ∙ sym last_size)
      ];
    }

all_sized : (rest earlier : List RQuery) (terms : List TermAt) (sizes : List Size) → SizedViews earlier terms sizes → DoViewsFit earlier rest
    → SizedViews (earlier ++ rest) (view_terms terms rest) (view_sizes sizes rest)
all_sized [] earlier terms sizes s fit = subst (λ trees. SizedViews trees terms sizes) (sym (append-nil earlier)) s
all_sized (t ∷ rest) earlier terms sizes s fit =
    subst (λ trees. SizedViews trees (view_terms terms (t ∷ rest)) (view_sizes sizes (t ∷ rest))) (append_assoc earlier (t ∷ []) rest)
    (all_sized rest (earlier ++ t ∷ []) _ _ (more earlier terms sizes t s fit.0) fit.1)

pub size-is : (views : List RQuery) (tree : RQuery) → DoViewsFit [] views → FitsViews views tree → term_size (translation views tree) ≡ translation_size views tree
size-is views tree fit fits =
    let s = all_sized views [] [] [] (record { terms_long = refl; sizes_long = refl; view = λ place wide h. absurd h }) fit in
    query-sized (λ number wide. Unit {0}) (HasView views) (view_terms [] views) (view_sizes [] views) s.view tree [] [] (names_from 0 (width tree)) (leaves (width tree)) (width tree) fits (size-names 0 (width tree))

pub ruleset laws = (size-is)
