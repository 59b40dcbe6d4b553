-- The blocks of a sum with their shapes, and what the search for partners says of two sums.
use Rattle.std.proofs.Common.{◌≡◌, ℕ, zero, suc, ◌+◌, ◌<◌, List, [], ◌∷◌, ◌++◌, length, get_or, map, take, Option, Some, refl, ap, sym, ◌∙◌, subst, arith}
use Rattle.std.specs.Prelude.{All, Contains, IsPermutation}
use denote.Ref.{Bor}
use Rattle.std.proofs.lemmas.List.{length-map, map-append, take_more}
use Rattle.std.proofs.lemmas.Option.{none-some}
use Rattle.std.proofs.lemmas.List.Elements.{All-contains, All-head, All-push, All-tail, All-weaker}
use Rattle.shapes.specs.Shapes.{Shape}
use Rattle.shapes.specs.Unions.{AllAlike}
use Rattle.term_shapes.specs.TermShape.{HasShape, term_shape}
use Rattle.term_shapes.proofs.WholeShapes.{shapes-whole}
use Rattle.u_terms.specs.Syntax.{U}
use Rattle.u_rules.specs.Terms.{terms}
use Rattle.u_bag.specs.declared.pairs.Block.{Block}
use Rattle.u_bag.specs.declared.pairs.Pair.{Pair}
use Rattle.u_bag.specs.declared.pairs.Partners.{Partners}
use Rattle.u_bag.specs.declared.pairs.Partners.TheVariants as partners
use Rattle.u_bag.specs.Pairs.{AreBlocks, AreFoundAmong, ArePartners, CanBePaired, IsBlock, IsFoundAmong, HasPairing, IsOfWholeShape, SomeShapeless, rights_of, shapes_of, terms_of}
use Rattle.u_bag.proofs.pairing.Partners.{alike-long}
use Rattle.u_bag.proofs.costs.SumCosts.{shape_at, shaped-at}

-- ---- terms that are lent
pub term-in : (refs : List (Bor U)) (k : ℕ) (r : Bor U) → k < length refs → r ≡ get_or refs k r → Contains (terms refs) r.now
term-in refs k r less is = (k, omega (arith, less, length-map refs (λ x. x.now)), here refs k less is)
  where
    here : (rs : List (Bor U)) (i : ℕ) → i < length rs → r ≡ get_or rs i r → get_or (terms rs) i r.now ≡ r.now
    here [] i l e = absurd (omega (arith, l))
    here (x ∷ rs) zero l e = ap (λ (y : Bor U). y.now) (sym e)
    here (x ∷ rs) (suc i) l e = here rs i (omega (arith, l)) e

module _ (outs : ℕ) where
  -- one block more
  pub next-block : (refs : List (Bor U)) (i : ℕ) (r : Bor U) (blocks more : List Block) (block : Block) → i < length refs → r ≡ get_or refs i r → more ≡ blocks ++ block ∷ []
      → (block.term.now ≡ r.now) × IsBlock outs block → AreBlocks outs (terms (take i refs)) blocks → AreBlocks outs (terms (take (i + 1) refs)) more
  next-block refs i r blocks more block less is pushed of h = record {
    terms_are = ap terms_of pushed ∙ map-append (λ (b : Block). b.term.now) blocks (block ∷ []) ∙ ap (λ (us : List U). us ++ block.term.now ∷ []) h.terms_are
        ∙ ap (λ (u : U). terms (take i refs) ++ u ∷ []) of.0 ∙ sym (map-append (λ (x : Bor U). x.now) (take i refs) (r ∷ []))
        ∙ ap terms (ap (λ (x : Bor U). take i refs ++ x ∷ []) is ∙ sym (take_more refs i r less));
    each = subst (All (IsBlock outs)) (sym pushed) (All-push (IsBlock outs) blocks block h.each of.1);
  }

  -- ---- whole blocks
  pub are-whole : (us : List U) (blocks : List Block) → AreBlocks outs us blocks → All IsOfWholeShape blocks
  are-whole us blocks h = All-weaker (IsBlock outs) IsOfWholeShape (λ b i. record { whole = shapes-whole outs b.term.now b.shape i.shape; tables = i.tables }) blocks h.each

  blocks-have : (blocks : List Block) → All (IsBlock outs) blocks → map (term_shape outs) (terms_of blocks) ≡ map Some (shapes_of blocks)
  blocks-have [] all = refl
  blocks-have (block ∷ blocks) all =
      ap (λ (o : Option Shape). o ∷ map (term_shape outs) (terms_of blocks)) (All-head (IsBlock outs) block blocks all).shape
      ∙ ap (λ (os : List (Option Shape)). Some block.shape ∷ os) (blocks-have blocks (All-tail (IsBlock outs) block blocks all))

  same-shapes : (ss ts : List Shape) → map Some ss ≡ map Some ts → ss ≡ ts
  same-shapes [] [] e = refl
  same-shapes [] (t ∷ ts) e = absurd (cc)
  same-shapes (s ∷ ss) [] e = absurd (cc)
  same-shapes (s ∷ ss) (t ∷ ts) e = let first : s ≡ t = cc in let rest : ss ≡ ts = same-shapes ss ts cc in cc

  shapes-are : (us : List U) (blocks : List Block) (ss : List Shape) → AreBlocks outs us blocks → map (term_shape outs) us ≡ map Some ss → ss ≡ shapes_of blocks
  shapes-are us blocks ss h have = same-shapes ss (shapes_of blocks) (sym have ∙ ap (map (term_shape outs)) (sym h.terms_are) ∙ blocks-have blocks h.each)

  -- ---- sums whose blocks cannot be paired
  pub pairable-long : (us vs : List U) → CanBePaired outs us vs → length us ≡ length vs
  pairable-long us vs h =
      sym (length-map us (term_shape outs)) ∙ ap length h.lefts_have ∙ length-map h.ss Some ∙ alike-long h.ss h.ts h.alike ∙ sym (length-map h.ts Some) ∙ ap length (sym h.rights_have)
      ∙ length-map vs (term_shape outs)

  all-shaped : (us : List U) (ss : List Shape) → map (term_shape outs) us ≡ map Some ss → SomeShapeless outs us → ⊥
  all-shaped us ss have h = none-some (shape_at outs h.term) (sym h.shapeless ∙ shaped-at outs us ss have h.term h.is_in)

  pub left-shapeless : (us vs : List U) → SomeShapeless outs us → CanBePaired outs us vs → ⊥
  left-shapeless us vs some h = all-shaped us h.ss h.lefts_have some

  pub right-shapeless : (us vs : List U) → SomeShapeless outs vs → CanBePaired outs us vs → ⊥
  right-shapeless us vs some h = all-shaped vs h.ts h.rights_have some

  -- ---- what the search says of the sums
  module _ (us vs : List U) (lefts rights : List Block) (l : AreBlocks outs us lefts) (r : AreBlocks outs vs rights) where
    left-block : (b : Block) → Contains lefts b → IsBlock outs b
    left-block b i = All-contains (IsBlock outs) lefts b l.each i

    right-block : (b : Block) → Contains rights b → IsBlock outs b
    right-block b i = All-contains (IsBlock outs) rights b r.each i

    pair-of : (p : Pair) → IsFoundAmong lefts rights p → HasPairing p
    pair-of p h = record {
      outs = outs;
      s = h.left.shape;
      t = h.right.shape;
      shapes = record {
        left_has = subst (λ (u : U). HasShape outs u h.left.shape) (sym h.left_is) (left-block h.left h.left_in).shape;
        right_has = subst (λ (u : U). HasShape outs u h.right.shape) (sym h.right_is) (right-block h.right h.right_in).shape;
      };
      pairing = h.pairing;
    }

    term-there : (blocks : List Block) (b : Block) → Contains blocks b → Contains (terms_of blocks) b.term.now
    term-there blocks b i = (i.0, (let low = i.1 in omega (arith, low, length-map blocks (λ (x : Block). x.term.now))), here blocks i.0 i.1 i.2)
      where
        here : (bs : List Block) (k : ℕ) → k < length bs → get_or bs k b ≡ b → get_or (terms_of bs) k b.term.now ≡ b.term.now
        here [] k less is = absurd (omega (arith, less))
        here (x ∷ bs) zero less is = ap (λ (y : Block). y.term.now) is
        here (x ∷ bs) (suc k) less is = here bs k (omega (arith, less)) is

    pub partners-of : (budget : ℕ) (p : Partners) → AreFoundAmong lefts rights budget p → ArePartners outs us vs budget p
    partners-of budget (partners.All found) h = (
      record {
        lefts_are = h.lefts_are ∙ l.terms_are;
        rights_are = subst (λ (ws : List U). IsPermutation ws (rights_of found.items)) r.terms_are h.rights_are;
        each = All-weaker (IsFoundAmong lefts rights) HasPairing pair-of found.items h.each;
      },
      record {
        ss = shapes_of lefts;
        ts = shapes_of rights;
        lefts_have = ap (map (term_shape outs)) (sym l.terms_are) ∙ blocks-have lefts l.each;
        rights_have = ap (map (term_shape outs)) (sym r.terms_are) ∙ blocks-have rights r.each;
        alike = h.alike;
      },
    )
    partners-of budget partners.Nothing h = λ p.
        h (subst (λ (ts : List Shape). AllAlike (shapes_of lefts) ts) (shapes-are vs rights p.ts r p.rights_have)
        (subst (λ (ss : List Shape). AllAlike ss p.ts) (shapes-are us lefts p.ss l p.lefts_have) p.alike))
    partners-of budget partners.Spent h =
        let b = left-block h.left h.left_in in
        let d = right-block h.right h.right_in in
        record {
          left = h.left.term.now;
          right = h.right.term.now;
          left_in = subst (λ (ws : List U). Contains ws h.left.term.now) l.terms_are (term-there lefts h.left h.left_in);
          right_in = subst (λ (ws : List U). Contains ws h.right.term.now) r.terms_are (term-there rights h.right h.right_in);
          passes = record { s = h.left.shape; t = h.right.shape; shapes = record { left_has = b.shape; right_has = d.shape }; above = h.above };
        }
