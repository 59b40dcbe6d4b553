-- The terms of whole queries: of a block, of a block under DISTINCT, and of a union.
use Rattle.std.proofs.Common.{◌≡◌, ℕ, true, false, List, [], ◌∷◌, ◌++◌, Some, refl, sym, ◌∙◌, subst}
use Rattle.scope_core.specs.Sound.{IsSound, IsSoundAlone}
use Rattle.scope_core.specs.Syntax as r
use Rattle.scope_core.specs.Syntax.{Select, RBlock, RQuery, OfBlock, Set}
use Rattle.scope_core.specs.Width.{width}
use Rattle.sql_model.specs.Syntax.{UnionAll, Union, Except, Intersect}
use Rattle.sql_to_u.specs.Factors.{names_from}
use Rattle.sql_to_u.specs.Translation.{TermAt, query_term}
use Rattle.shapes.specs.Shapes.{Shape}
use Rattle.block_shapes.specs.Blocks.{block_shape, query_shape, union_shapes}
use Rattle.block_shapes.specs.Drawn.{IsDrawn}
use Rattle.block_shapes.proofs.ClassLaws.{none-some, both-some, map-some}
use Rattle.block_shapes.proofs.DrawnShapes.{alone-drawn}
use Rattle.term_shapes.specs.TermShape.{HasShape}
use Rattle.term_shapes.specs.BlockTerms.{IsSquashed, HaveShapes, one_block, two_sums}
use Rattle.block_terms.proofs.Whole.{parts-shape}

bare : (views : List TermAt) (tree : RQuery) (s : Shape) → query_shape false tree ≡ Some s → IsDrawn s → HasShape (width tree) (query_term views tree [] (names_from 0 (width tree)) (width tree)) s
unfolding query_shape query_term width
bare views (OfBlock (Select false t es t' conds r.Plain r.NoCondition t'' items)) s e drawn = parts-shape views es conds items s e drawn
bare views (OfBlock (Select false t es t' conds r.Plain (r.ACondition c) t'' items)) s e drawn = absurd (none-some s e)
bare views (OfBlock (Select false t es t' conds r.One having t'' items)) s e drawn = absurd (none-some s e)
bare views (OfBlock (Select false t es t' conds (r.Keys columns) having t'' items)) s e drawn = absurd (none-some s e)
bare views (OfBlock (Select true t es t' conds grouping having t'' items)) s e drawn = absurd (none-some s e)
bare views (Set op left right) s e drawn = absurd (none-some s e)

distinct : (views : List TermAt) (tree : RQuery) (s : Shape) → query_shape true tree ≡ Some s → IsDrawn s → IsSquashed (width tree) (query_term views tree [] (names_from 0 (width tree)) (width tree)) s
unfolding query_shape query_term width
distinct views (OfBlock (Select true t es t' conds r.Plain r.NoCondition t'' items)) s e drawn = record { inside = _; is = refl; shape = parts-shape views es conds items s e drawn }
distinct views (OfBlock (Select true t es t' conds r.Plain (r.ACondition c) t'' items)) s e drawn = absurd (none-some s e)
distinct views (OfBlock (Select true t es t' conds r.One having t'' items)) s e drawn = absurd (none-some s e)
distinct views (OfBlock (Select true t es t' conds (r.Keys columns) having t'' items)) s e drawn = absurd (none-some s e)
distinct views (OfBlock (Select false t es t' conds grouping having t'' items)) s e drawn = absurd (none-some s e)
distinct views (Set op left right) s e drawn = absurd (none-some s e)

one-shape : (block : RBlock) (s : Shape) → block_shape false block ≡ Some s → query_shape false (OfBlock block) ≡ Some s
unfolding query_shape
one-shape block s e = e

-- ---- both sides of a union
sound-parts : (left right : RQuery) → IsSoundAlone (Set UnionAll left right) → IsSoundAlone left × (IsSoundAlone right × (width left ≡ width right))
unfolding IsSound
sound-parts left right h = (h.0, (h.1, h.2))

width-left : (left right : RQuery) → width (Set UnionAll left right) ≡ width left
unfolding width
width-left left right = refl

added : (views : List TermAt) (left right : RQuery) (outs : ℕ) (ss ls rs : List Shape) → ls ++ rs ≡ ss → HaveShapes outs (query_term views left [] (names_from 0 outs) outs) ls
    → HaveShapes outs (query_term views right [] (names_from 0 outs) outs) rs → HaveShapes outs (query_term views (Set UnionAll left right) [] (names_from 0 outs) outs) ss
unfolding query_term
added views left right outs ss ls rs e a b = subst (HaveShapes outs (query_term views (Set UnionAll left right) [] (names_from 0 outs) outs)) e (two_sums a b)

union : (views : List TermAt) (tree : RQuery) (outs : ℕ) (ss : List Shape) → union_shapes tree ≡ Some ss → IsSoundAlone tree → width tree ≡ outs
    → HaveShapes outs (query_term views tree [] (names_from 0 outs) outs) ss
unfolding union_shapes
union views (OfBlock block) outs ss e sound wide =
    let k = map-some (λ s. s ∷ []) (block_shape false block) ss e in
    let shape = one-shape block k.x k.from in
    let has : HasShape (width (OfBlock block)) (query_term views (OfBlock block) [] (names_from 0 (width (OfBlock block))) (width (OfBlock block))) k.x =
    bare views (OfBlock block) k.x shape (alone-drawn false (OfBlock block) k.x shape sound) in
    subst (HaveShapes outs (query_term views (OfBlock block) [] (names_from 0 outs) outs)) k.is
    (one_block (subst (λ n. HasShape n (query_term views (OfBlock block) [] (names_from 0 n) n) k.x) wide has))
union views (Set UnionAll left right) outs ss e sound wide =
    let k = both-some (λ ss ts. ss ++ ts) (union_shapes left) (union_shapes right) ss e in
    let parts = sound-parts left right sound in
    let same = width-left left right in
    added views left right outs ss k.x k.y k.is (union views left outs k.x k.left parts.0 (sym same ∙ wide)) (union views right outs k.y k.right parts.1.0 (sym parts.1.1 ∙ sym same ∙ wide))
union views (Set Union left right) outs ss e sound wide = absurd (none-some ss e)
union views (Set Except left right) outs ss e sound wide = absurd (none-some ss e)
union views (Set Intersect left right) outs ss e sound wide = absurd (none-some ss e)

-- ---- of sound trees
pub bare-shape : (views : List TermAt) (tree : RQuery) (s : Shape) → query_shape false tree ≡ Some s → IsSoundAlone tree
    → HasShape (width tree) (query_term views tree [] (names_from 0 (width tree)) (width tree)) s
bare-shape views tree s e sound = bare views tree s e (alone-drawn false tree s e sound)

pub distinct-shape : (views : List TermAt) (tree : RQuery) (s : Shape) → query_shape true tree ≡ Some s → IsSoundAlone tree
    → IsSquashed (width tree) (query_term views tree [] (names_from 0 (width tree)) (width tree)) s
distinct-shape views tree s e sound = distinct views tree s e (alone-drawn true tree s e sound)

pub union-shape : (views : List TermAt) (tree : RQuery) (ss : List Shape) → union_shapes tree ≡ Some ss → IsSoundAlone tree
    → HaveShapes (width tree) (query_term views tree [] (names_from 0 (width tree)) (width tree)) ss
union-shape views tree ss e sound = union views tree (width tree) ss e sound refl

pub ruleset laws = (bare-shape, distinct-shape, union-shape)
