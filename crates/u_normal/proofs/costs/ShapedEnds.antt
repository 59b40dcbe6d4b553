-- What the derivations of blocks that have shapes end in.
use Rattle.std.proofs.Common.{◌≡◌, ℕ, ◌+◌, ◌≤◌, [], ◌∷◌, length, refl, ap, sym, subst, ◌∙◌, lit≤, arith}
use Rattle.u_terms.specs.declared.facts.Facts.{Facts}
use Rattle.u_terms.specs.declared.term.U.TheVariants as u
use Rattle.u_terms.specs.Syntax.{U, constructors}
use Rattle.u_terms.specs.Size.{nodes}
use Rattle.u_terms.specs.Binding.{closed_at, opened}
use Rattle.u_terms.proofs.Parts.{parts-Squash}
use Rattle.u_rules.specs.Terms.{S, add_leaves, sq}
use Rattle.u_terms.specs.Places.{IsClosed}
use Rattle.u_deriv.specs.declared.run.Run.TheVariants.{Inside}
use Rattle.u_deriv.proofs.steps.Arguments.{nodes-positive}
use Rattle.u_moves.specs.declared.moves.Moves.{Moves}
use Rattle.u_moves.specs.Derivations.{Derivation, IsKnown}
use Rattle.u_moves.specs.Lifting.{IsPart}
use Rattle.u_congruence.proofs.Turned.{part-sum, part-squash}
use Rattle.normal_form.specs.NormalTerms.{sum_of, IsNormal, IsBlock, product_of_factors, no_factor, factor_then, squash}
use Rattle.term_shapes.specs.TermShape.{HasShape}
use Rattle.term_shapes.specs.BlockTerms.{HaveShapes}
use Rattle.u_congruence.specs.Congruence.{IsBy, IsFromTo}
use Rattle.u_normal.specs.Leading.{IsOneMore}
use Rattle.u_normal.specs.Shaped.{tidied, all_tidied, block_count, AreShaped, HasSomeShape, HasSmallBlocks, IsBrief, IsBriefSum, IsMadeAt, IsShort, IsShapedEnd}
use Rattle.u_normal.proofs.products.Blocks.{one-block}
use Rattle.u_normal.proofs.terms.KnownParts.{again-at, body-again, known-opened}
use Rattle.u_normal.proofs.shapes.TidiedBlocks.{tidied-shape, tidied-block, tidied-Sum, tidied-closed}
use Rattle.u_normal.proofs.costs.Levels.{sum-level}
use Rattle.u_normal.proofs.shapes.ShapedSums.{squash-unshaped, row-shaped, row-normal, count-blocks, in_row-small}
use Rattle.u_normal.proofs.costs.ShortSteps.{brief-part, brief-squash, brief-sum, more-short}

-- ---- with the factors in order
pub brief-to : (F : Facts) (outs : ℕ) (first last other : U) (most n : ℕ) (d : Derivation) → last ≡ other → most ≤ n → IsBrief F outs first last most d → IsBrief F outs first other n d
brief-to F outs first last other most n d e le h = record {
  ends = record { facts = h.ends.facts; outs = h.ends.outs; from = h.ends.from; to = h.ends.to ∙ e };
  short = record { few = omega (arith, h.short.few, le); small = h.short.small; shallow = h.short.shallow; plain = h.short.plain };
  fewer = omega (arith, ap nodes e, h.fewer);
}

-- under a sum the name for its place is closed again
pub tidied-again : (outs : ℕ) (f last : U) → IsKnown 1 outs f → last ≡ tidied (opened f outs) → S (closed_at last outs) ≡ tidied (S f)
tidied-again outs f last h e =
    ap (λ (t : U). S (closed_at t outs)) e ∙ ap (λ (t : U). S t) (tidied-closed outs (opened f outs)) ∙ ap (λ (t : U). S (tidied t)) (body-again outs f h) ∙ sym (tidied-Sum f)

-- ---- one turn down
pub sum-part : (outs n : ℕ) (t f from : U) → n ≡ outs + 1 → t ≡ S f → from ≡ opened f outs → IsKnown 1 outs f → IsPart outs (Inside 1 ∷ []) t n from
sum-part outs n t f from en et e h =
    let closed : IsClosed 0 from = subst (λ (x : U). IsClosed 0 x) (sym e) (known-opened outs f h).closed in
    subst (λ (x : U). IsPart outs (Inside 1 ∷ []) x n from) (ap (λ (x : U). S x) (again-at outs outs f from refl e h) ∙ sym et)
    (subst (λ (m : ℕ). IsPart outs (Inside 1 ∷ []) (S (closed_at from outs)) m from) (sym en) (part-sum outs from closed))

pub squash-part : (outs n : ℕ) (t a from : U) → n ≡ outs → t ≡ sq a → from ≡ a → IsKnown 0 outs a → IsPart outs (Inside 1 ∷ []) t n from
squash-part outs n t a from en et e h =
    subst (λ (x : U). IsPart outs (Inside 1 ∷ []) x n from) (sym et)
    (subst (λ (x : U). IsPart outs (Inside 1 ∷ []) (sq a) n x) (sym e)
    (subst (λ (m : ℕ). IsPart outs (Inside 1 ∷ []) (sq a) m a) (sym en) (part-squash outs a h.closed)))

pub sum-brief : (moves : Moves) (t f : U) (F : Facts) (n : ℕ) (first : U) (l : Derivation) → IsKnown 1 moves.outs f → t ≡ S f → first ≡ opened f moves.outs → F ≡ moves.facts.now → n ≡ moves.outs + 1 → IsBrief F n first (tidied first) 1 l
    → (x : Derivation) → IsMadeAt (Inside 1 ∷ []) moves t l x → IsBrief moves.facts.now moves.outs t (tidied t) 1 x
sum-brief moves t f F n first l h et e ef en brief x made =
    let by : IsBy moves.facts.now (moves.outs + 1) l = record { facts = brief.ends.facts ∙ ef; outs = brief.ends.outs ∙ en } in
    let is : t ≡ S (closed_at l.from moves.outs) = et ∙ ap (λ (a : U). S a) (sym (again-at moves.outs moves.outs f l.from refl (brief.ends.from ∙ e) h)) in
    brief-to moves.facts.now moves.outs t (S (closed_at l.to moves.outs)) (tidied t) (length l.steps) 1 x
    (tidied-again moves.outs f l.to h (brief.ends.to ∙ ap tidied e) ∙ ap tidied (sym et)) brief.short.few
    (brief-sum moves l by t x is made (brief-part F n first (tidied first) 1 l brief))

pub squash-brief : (moves : Moves) (t a : U) (l : Derivation) → t ≡ sq a → IsBrief moves.facts.now moves.outs a (tidied a) 1 l
    → (x : Derivation) → IsMadeAt (Inside 1 ∷ []) moves t l x → IsBrief moves.facts.now moves.outs t (sq l.to) (length l.steps) x
squash-brief moves t a l et brief x made =
    brief-squash moves l (record { facts = brief.ends.facts; outs = brief.ends.outs }) t x (et ∙ ap (λ (y : U). sq y) (sym brief.ends.from)) made
    (brief-part moves.facts.now moves.outs a (tidied a) 1 l brief)

-- ---- the whole
pub sum-end : (F : Facts) (outs : ℕ) (t : U) (blocks d : Derivation) → ((a : U) → t ≡ sq a → ⊥) → AreShaped outs t → IsBriefSum F outs t blocks
    → IsFromTo F outs blocks.from (sum_of (add_leaves blocks.to)) d → IsOneMore blocks d → IsShapedEnd F outs t d
sum-end F outs t blocks d other shaped each ends more =
    let brief = each.brief in
    let last : d.to ≡ sum_of (add_leaves (all_tidied t)) = ends.to ∙ ap (λ (x : U). sum_of (add_leaves x)) brief.ends.to in
    let short : IsShort (block_count t + 1) d =
    more-short blocks d (block_count t) more brief.short (omega (arith, ap nodes brief.ends.to, ap nodes brief.ends.from, brief.fewer))
    (omega (arith, ap nodes ends.to, in_row-small blocks.to (nodes-positive blocks.to))) ends.from in
    record {
      leads = record { facts = ends.facts; outs = ends.outs; from = ends.from ∙ brief.ends.from; reached = subst IsNormal (sym last) (row-normal outs t shaped.shapes shaped.have) };
      keeps = record {
        sum = λ ss h. record {
          shapes = subst (λ (x : U). HaveShapes outs x ss) (sym last) (row-shaped outs t ss h);
          short = subst (λ (n : ℕ). IsShort (n + 1) d) (count-blocks outs t ss h) short;
          level = λ most small. sum-level outs t ss h blocks d each.level more.shallow last most (subst (HasSmallBlocks most) (ends.from ∙ brief.ends.from) small);
        };
        squash = λ s h. absurd (other h.inside h.is);
      };
    }

squash-block : (a : U) → IsNormal a → IsBlock (u.Squash a)
unfolding constructors
squash-block a h = product_of_factors [] [] (u.Squash a ∷ []) [] no_factor no_factor (factor_then (squash h) no_factor) (lit≤ tt) no_factor (lit≤ tt) refl

pub squash-end : (F : Facts) (outs : ℕ) (t a last : U) (most : ℕ) (d : Derivation) → t ≡ sq a → HasSomeShape outs a → last ≡ tidied a → most ≤ 1 → IsBrief F outs t (sq last) most d → IsShapedEnd F outs t d
squash-end F outs t a last most d e has is le brief =
    let to : d.to ≡ sq (tidied a) = brief.ends.to ∙ ap (λ (x : U). sq x) is in
    record {
      leads = record {
        facts = brief.ends.facts;
        outs = brief.ends.outs;
        from = brief.ends.from;
        reached = subst IsNormal (sym to) (one-block (sq (tidied a)) (squash-block (tidied a) (one-block (tidied a) (tidied-block outs a has.shape has.has))));
      };
      keeps = record {
        sum = λ ss h. absurd (squash-unshaped outs t a ss e h);
        squash = λ s h. record {
          shape = record { inside = tidied a; is = to; shape = tidied-shape outs a s (subst (λ (x : U). HasShape outs x s) (parts-Squash h.inside a (sym h.is ∙ e)) h.shape) };
          short = record { few = omega (arith, brief.short.few, le); small = brief.short.small; shallow = brief.short.shallow; plain = brief.short.plain };
        };
      };
    }
