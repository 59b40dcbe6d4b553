-- The items of a block and its sources, as the factors of its term have them.
use Rattle.std.proofs.Common.{◌≡◌, ℕ, ◌+◌, ◌-◌, ◌<◌, ◌≤◌, Bool, true, false, List, [], ◌∷◌, ◌++◌, Option, Some, None, refl, ap, sym, ◌∙◌, subst, arith}
use Rattle.std.specs.Prelude.{nat_le, nat_lt, ◌&&◌, if◌then◌else◌, option_and_then, slice_get, slice_set}
use Rattle.std.proofs.lemmas.Bool.Decides.{nat_tests}
use Rattle.u_terms.specs.declared.term.Val.TheVariants as v
use Rattle.u_terms.specs.Syntax.{Val}
use Rattle.u_terms.specs.Binding.{mapped, mapped_value, same_place, place_for_names}
use Rattle.scope_core.specs.Syntax as r
use Rattle.scope_core.specs.Syntax.{RVal, Values, NoValues, ValueThen, Entries, NoEntries, EntryThen}
use Rattle.scope_core.specs.Width.{count_values}
use Rattle.sql_to_u.specs.Factors.{names_from}
use Rattle.sql_to_u.specs.Scopes.{Here, Scope}
use Rattle.sql_to_u.specs.Translation.{TermAt, query_term, value_term, item_factors, source_terms}
use Rattle.shapes.specs.Shapes.{Entry, Point}
use Rattle.block_shapes.specs.Blocks as tree
use Rattle.term_shapes.specs.Factors.{Factor, atom}
use Rattle.term_shapes.specs.TermShape as term
use Rattle.term_shapes.specs.TermShape.{Points, Atoms, folded, with_factor, with_atom}
use Rattle.term_shapes.proofs.Reading.{factors-Eq, factors-Rel}
use Rattle.block_terms.proofs.Mapping.{factors_at, all_factors}
use Rattle.block_terms.proofs.Placing.{places_below, set-other}
use Rattle.block_terms.proofs.Atoms.{entry_atoms, total, names-placed}
use Rattle.block_terms.proofs.Values.{Located, value-stands, output-said}
use Rattle.block_shapes.proofs.ClassLaws.{some-same, none-some, both-some, map-some}
use Rattle.block_shapes.specs.Drawn.{ArePoints}

-- ---- items
no-if : (a b : Bool) (x y : Val) → a ≡ false → (if a && b then x else y) ≡ y
no-if true b x y e = absurd (grind (arith, e))
no-if false b x y e = refl

name-kept : (next size name : ℕ) → name < next → mapped_value same_place (place_for_names next size) 0 (v.Free name) ≡ v.Free name
unfolding mapped
name-kept next size name less =
    let one : nat_le next name ≡ false = grind (arith, nat_tests) in
    no-if (nat_le next name) (nat_lt name (next + size)) (v.Bound (0 + (next + size - 1 - name))) (v.Free name) one

-- the names from one on get these points
abbrev pub filled : Points → ℕ → List Point → Points
filled outputs name [] = outputs
filled outputs name (p ∷ ps) = filled (slice_set outputs name (Some p)) (name + 1) ps

-- the names from one on have none
abbrev pub AreLeft : ℕ → ℕ → Points → Type 0
AreLeft name outs outputs = (k : ℕ) → name ≤ k → k < outs → slice_get outputs k ≡ Some None

module _ (views : List TermAt) (here : Here) (outer : Scope) (inner next size : ℕ) (es : List Entry) (points : Points) (located : Located here.firsts next size es points) where
  pub items-said : {m : _} (vs : Values m) (name : ℕ) (ps : List Point) (said : term.Said) → name + count_values vs ≤ next → AreLeft name next said.outputs → tree.value_points vs ≡ Some ps → ArePoints es ps
      → folded (with_factor points) said (factors_at same_place (place_for_names next size) 0 (all_factors (item_factors views vs (here ∷ outer) (names_from name (count_values vs)) inner)))
      ≡ Some (term.with_outputs said (filled said.outputs name ps))
  unfolding query_term
  items-said NoValues name ps said most left e i = ap (λ (l : List Point). Some (term.with_outputs said (filled said.outputs name l))) (some-same [] ps e)
  items-said (ValueThen value rest) name ps said most left e i =
      let k = both-some (λ p qs. p ∷ qs) (tree.value_point value) (tree.value_points rest) ps e in
      let all : ArePoints es (k.x ∷ k.y) = subst (ArePoints es) (sym k.is) i in
      let less : name < next = omega (arith, most) in
      let set : Points = slice_set said.outputs name (Some k.x) in
      ap (λ (l : List Factor). folded (with_factor points) said (factors_at same_place (place_for_names next size) 0 (l ++ all_factors (item_factors views rest (here ∷ outer) (names_from (name + 1) (count_values rest)) inner))))
      (factors-Eq (value_term views value (here ∷ outer) inner) (v.Free name))
      ∙ ap (λ (o : Option term.Said). option_and_then (λ s. folded (with_factor points) s (factors_at same_place (place_for_names next size) 0 (all_factors (item_factors views rest (here ∷ outer) (names_from (name + 1) (count_values rest)) inner)))) o)
      (ap (term.said_equality points said (mapped_value same_place (place_for_names next size) 0 (value_term views value (here ∷ outer) inner))) (name-kept next size name less)
      ∙ output-said points said (mapped_value same_place (place_for_names next size) 0 (value_term views value (here ∷ outer) inner)) k.x name (left name (omega arith) less)
      (value-stands views here outer inner next size es points located value k.x k.left all.0))
      ∙ items-said rest (name + 1) k.y (term.with_outputs said (slice_set said.outputs name (Some k.x))) (omega (arith, most))
      (λ n low high. set-other said.outputs name n (Some k.x) (omega (arith, low)) ∙ left n (omega (arith, low)) high) k.right all.1
      ∙ ap (λ (l : List Point). Some (term.with_outputs said (filled said.outputs name l))) k.is

-- ---- sources
pub sources-atoms : {m : _} (views : List TermAt) (entries : Entries m) (scope : Scope) (next size first inner : ℕ) (es : List Entry) → tree.table_entries entries ≡ Some es → next ≤ first → first + total es ≤ next + size
    → factors_at same_place (place_for_names next size) 0 (all_factors (source_terms views entries scope first inner)) ≡ entry_atoms es (next + size - first)
unfolding query_term
sources-atoms views NoEntries scope next size first inner es e low high = ap (λ (l : List Entry). entry_atoms l (next + size - first)) (some-same [] es e)
sources-atoms views (EntryThen (r.Table number) wide rest) scope next size first inner es e low high =
    let k = map-some (λ l. tree.table_entry number wide ∷ l) (tree.table_entries rest) es e in
    let sum : total es ≡ wide + total k.x = sym (ap total k.is) in
    let after : next + size - (first + wide) ≡ next + size - first - wide = omega arith in
    ap (λ (l : List Factor). factors_at same_place (place_for_names next size) 0 (l ++ all_factors (source_terms views rest scope (first + wide) inner))) (factors-Rel number (names_from first wide))
    ∙ ap (λ (l : List Val). atom number l ∷ factors_at same_place (place_for_names next size) 0 (all_factors (source_terms views rest scope (first + wide) inner)))
    (names-placed next size first wide low (omega (arith, high, sum)))
    ∙ ap (λ (l : List Factor). atom number (places_below (next + size - first) wide) ∷ l)
    (sources-atoms views rest scope next size (first + wide) inner k.x k.from (omega (arith, low)) (omega (arith, high, sum)) ∙ ap (entry_atoms k.x) after)
    ∙ ap (λ (l : List Entry). entry_atoms l (next + size - first)) k.is
sources-atoms views (EntryThen (r.View place) wide rest) scope next size first inner es e low high = absurd (none-some es e)
sources-atoms views (EntryThen (r.Derived query) wide rest) scope next size first inner es e low high = absurd (none-some es e)

-- atoms say nothing else
pub atoms-silent : (points : Points) (said : term.Said) (es : List Entry) (top : ℕ) → folded (with_factor points) said (entry_atoms es top) ≡ Some said
atoms-silent points said [] top = refl
atoms-silent points said (e ∷ es) top = atoms-silent points said es (top - e.columns)
