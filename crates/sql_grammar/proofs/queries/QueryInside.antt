-- What the left-factored grammar reads of a query in parentheses.
use Rattle.std.proofs.Common.{◌≡◌, ℕ, zero, suc, List, [], ◌∷◌, ◌++◌, length, ◌⊎◌, inl, inr, refl, sym, ◌∙◌, ap, subst, append_assoc, Option, Some, None, arith}
use Rattle.grammar.specs.Language.{Language, Includes, seq_language, map_language, token_language, no_language}
use Rattle.grammar.specs.Form.{Room, star, map, counted, ref, form_language, language, language_within}
use Rattle.grammar.proofs.languages.Forms.{prefix_of_nil}
use Rattle.grammar.proofs.languages.Heights.{to_rule, from_rule, lifted, in_name, spelled_at, prefix_at, name_prefixes}
use Rattle.sql_lex.specs.Lexemes.{Lexeme}
use Rattle.sql_model.specs.declared.tree.Query.{Query}
use Rattle.sql_grammar.specs.Kinds as k
use Rattle.sql_grammar.specs.Kinds.{kind_of, same}
use Rattle.sql_grammar.specs.Numbering.{Built}
use Rattle.sql_grammar.specs.QueryTrees as t
use Rattle.sql_grammar.specs.QueryTailTrees as tails
use Rattle.sql_grammar.specs.QueryTrees.{Left}
use Rattle.sql_grammar.specs.QueryTailTrees.{Enclosed, Inside}
use Rattle.sql_grammar.specs.QueryGrammar.{Production, Read, The, in_parentheses, next_intersect, next_union, next_product, next_sum, next_and, next_or, intersects, unions, query, operand, block, most_operators, most_separators}
use Rattle.sql_grammar.specs.QueryTails.{set_tail, expr_tail, inner}
use Rattle.sql_grammar.specs.Queries.{rules}
use Rattle.sql_grammar.specs.FactoredQueries.{factored_with, sort}
use Rattle.sql_grammar.proofs.queries.Variants.{Variant}

-- where the names have these languages
abbrev pub Names : Type 1
Names = Room → (p : Production) → Language Lexeme (Read p)

-- ---- nothing, of what follows

module _ (E : Names) where
  abbrev pub el : {A : Type 0} → Room → The A → Language Lexeme A
  el room f = form_language kind_of E room f

  pub star_none : {A : Type 0} (room : Room) (most : Option ℕ) (f : The A) → (el room (star most f)).spells [] []
  star_none None most f = refl
  star_none (Some levels) None f = refl
  star_none (Some levels) (Some most) f = (refl, omega arith)

  pub no_set_words : (room : Room) → (el room (rules set_tail)).spells [] (λ q. q)
  no_set_words room = (([], []), ([], [], refl, star_none room (Some most_operators) next_intersect, star_none room (Some most_operators) next_union), refl)

  pub no_operators : (room : Room) → (el room (rules expr_tail)).spells [] (λ left. left.0)
  no_operators room = (
    ((([], []), 0), (None, ([], []))),
    (
      [],
      [],
      refl,
      (([], [], refl, star_none room (Some most_operators) next_product, star_none room (Some most_operators) next_sum), refl),
      ([], [], refl, inr (tt, refl, refl), ([], [], refl, star_none room (Some most_separators) next_and, star_none room (Some most_separators) next_or)),
    ),
    refl,
  )

-- ---- parentheses

-- ( L ), with the parenthesis
abbrev pub pair : {A : Type 0} → Language Lexeme A → Language Lexeme (Lexeme × A)
pair L = seq_language (token_language kind_of (same k.Open)) (map_language (λ p. p.0) (seq_language L (token_language kind_of (same k.Close))))

-- the same, one level deeper
abbrev pub deeper : {A : Type 0} → (Room → Language Lexeme A) → Room → Language Lexeme (Lexeme × A)
deeper L None = pair (L None)
deeper L (Some zero) = no_language
deeper L (Some (suc levels)) = pair (L (Some levels))

module _ (E : Names) {A : Type 0} (f : The A) where
  pub deeper_there : (room : Room) → Includes (deeper (λ r. form_language kind_of E r f) room) (form_language kind_of E room (in_parentheses f))
  deeper_there None = record { spells = λ ts v s. s; prefix = λ ts s. s }
  deeper_there (Some zero) = record { spells = λ ts v s. s; prefix = λ ts s. s }
  deeper_there (Some (suc levels)) = record { spells = λ ts v s. s; prefix = λ ts s. s }

  pub deeper_back : (room : Room) → Includes (form_language kind_of E room (in_parentheses f)) (deeper (λ r. form_language kind_of E r f) room)
  deeper_back None = record { spells = λ ts v s. s; prefix = λ ts s. s }
  deeper_back (Some zero) = record { spells = λ ts v s. s; prefix = λ ts s. s }
  deeper_back (Some (suc levels)) = record { spells = λ ts v s. s; prefix = λ ts s. s }

module _ {A C : Type 0} where
  -- what stands in them, with other values of which this holds
  pair_some : (L : Language Lexeme A) (M : Language Lexeme C) (Q : C → Type 0) (ts : List Lexeme) (v : Lexeme × A)
      → ((z : List Lexeme) → L.spells z v.1 → (w : C) × Q w × M.spells z w) → (pair L).spells ts v → (w : C) × Q w × (pair M).spells ts (v.0, w)
  pair_some L M Q ts v m (x, y, e, o, (n, (z, c, e1, s, q), j)) =
      let r = m z (subst (L.spells z) (sym j) s) in (r.0, r.1, (x, y, e, o, ((r.0, n.1), (z, c, e1, r.2, q), refl)))

  pair_prefix : (L : Language Lexeme A) (M : Language Lexeme C) → ((z : List Lexeme) → L.prefix z → M.prefix z) → ((z : List Lexeme) (v : A) → L.spells z v → (w : C) × M.spells z w)
      → (ts : List Lexeme) → (pair L).prefix ts → (pair M).prefix ts
  pair_prefix L M f m ts (inl o) = inl o
  pair_prefix L M f m ts (inr (x, y, t, e, o, inl g)) = inr (x, y, t, e, o, inl (f y g))
  pair_prefix L M f m ts (inr (x, y, t, e, o, inr (z, c, v, i, s, g))) = let n = m z v s in inr (x, y, t, e, o, inr (z, c, n.0, i, n.1, g))

  pub deeper_some : (L : Room → Language Lexeme A) (M : Room → Language Lexeme C) (Q : C → Type 0) (room : Room) (ts : List Lexeme) (v : Lexeme × A)
      → ((r : Room) (z : List Lexeme) → (L r).spells z v.1 → (w : C) × Q w × (M r).spells z w) → (deeper L room).spells ts v → (w : C) × Q w × (deeper M room).spells ts (v.0, w)
  deeper_some L M Q None ts v m s = pair_some (L None) (M None) Q ts v (m None) s
  deeper_some L M Q (Some zero) ts v m s = absurd s
  deeper_some L M Q (Some (suc levels)) ts v m s = pair_some (L (Some levels)) (M (Some levels)) Q ts v (m (Some levels)) s

  pub deeper_spells : (L : Room → Language Lexeme A) (M : Room → Language Lexeme C) (room : Room) (ts : List Lexeme) (v : Lexeme × A) (w : C)
      → ((r : Room) (z : List Lexeme) → (L r).spells z v.1 → (M r).spells z w) → (deeper L room).spells ts v → (deeper M room).spells ts (v.0, w)
  deeper_spells L M room ts v w m s =
      let r = deeper_some L M (λ u. u ≡ w) room ts v (λ r z i. (w, refl, m r z i)) s in subst (λ u. (deeper M room).spells ts (v.0, u)) r.1 r.2

  pub deeper_prefix : (L : Room → Language Lexeme A) (M : Room → Language Lexeme C) (room : Room) → ((r : Room) (z : List Lexeme) → (L r).prefix z → (M r).prefix z)
      → ((r : Room) (z : List Lexeme) (v : A) → (L r).spells z v → (w : C) × (M r).spells z w) → (ts : List Lexeme) → (deeper L room).prefix ts → (deeper M room).prefix ts
  deeper_prefix L M None f m ts s = pair_prefix (L None) (M None) (f None) (m None) ts s
  deeper_prefix L M (Some zero) f m ts s = s
  deeper_prefix L M (Some (suc levels)) f m ts s = pair_prefix (L (Some levels)) (M (Some levels)) (f (Some levels)) (m (Some levels)) ts s

-- ( .. ) as a query or an expression
abbrev pub sorted : The ((Enclosed × ℕ) ⊎ Left)
sorted = map sort (counted (in_parentheses (ref inner)))

module _ (variant : Variant) where
  abbrev pub P : Room → (p : Production) → Language Lexeme (Read p)
  P = language kind_of (factored_with variant.froms)

  abbrev pub fl : {A : Type 0} → Room → The A → Language Lexeme A
  fl room f = form_language kind_of (language kind_of (factored_with variant.froms)) room f

  pub opens : (room : Room) (p : Production) → Includes (fl room (factored_with variant.froms p)) (P room p)
  opens room p = to_rule kind_of (factored_with variant.froms) room p

  pub closes : (room : Room) (p : Production) → Includes (P room p) (fl room (factored_with variant.froms p))
  closes room p = from_rule kind_of (factored_with variant.froms) room p

  no_sets : (room : Room) → (P room set_tail).spells [] (λ q. q)
  no_sets room = (closes room set_tail).spells [] (λ q. q) (no_set_words P room)

  -- a query with no set operator behind it is that query
  pub sets_identity : (room : Room) (f : Built Query → Built Query) → (P room set_tail).spells [] f → f ≡ (λ q. q)
  sets_identity room f s = (variant.known room set_tail).unique [] f (λ q. q) s (no_sets room)

  no_tail : (room : Room) → (P room expr_tail).spells [] (λ left. left.0)
  no_tail room = (closes room expr_tail).spells [] (λ left. left.0) (no_operators P room)

  -- a first part with nothing behind it is that part
  pub tail_identity : (room : Room) (f : Left → Built _) → (P room expr_tail).spells [] f → f ≡ (λ left. left.0)
  tail_identity room f s = (variant.known room expr_tail).unique [] f (λ left. left.0) s (no_tail room)

  -- ---- a query among what stands in parentheses

  -- the left-factored grammar reads these tokens as this query, whichever way
  pub data ReadsQuery (room : Room) (ts : List Lexeme) (q : Built Query) : Type 0 where
    plainly : (P room inner).spells ts (inl q) → ReadsQuery room ts q
    wrapped : (o : Lexeme) → (P room inner).spells ts (inr (inl ((o, q), tt))) → ReadsQuery room ts q

  pub sorted_query : (room : Room) (L : Room → Language Lexeme (Built Query)) (m : (r : Room) (z : List Lexeme) (q : Built Query) → (L r).spells z q → ReadsQuery r z q)
      → (ts : List Lexeme) (v : Lexeme × Built Query) → (deeper L room).spells ts v → (fl room sorted).spells ts (inl (v, length ts))
  sorted_query room L m ts v s =
      let r = deeper_some L (λ r. P r inner) (λ w. sort ((v.0, w), length ts) ≡ inl (v, length ts)) room ts v some s in
      (((v.0, r.0), length ts), ((deeper_back P (ref inner) room).spells ts (v.0, r.0) r.2, refl), sym r.1)
    where
      some : (r : Room) (z : List Lexeme) → (L r).spells z v.1 → (w : Inside (Unit {0})) × (sort ((v.0, w), length ts) ≡ inl (v, length ts)) × (P r inner).spells z w
      some r z s = elim (m r z v.1 s) [ plainly p ↦ (inl v.1, refl, p) | wrapped o p ↦ (inr (inl ((o, v.1), tt)), refl, p) ]

  pub sorted_prefix : (room : Room) (L : Room → Language Lexeme (Built Query)) (m : (r : Room) (z : List Lexeme) (q : Built Query) → (L r).spells z q → ReadsQuery r z q)
      → ((r : Room) (z : List Lexeme) → (L r).prefix z → (P r inner).prefix z) → (ts : List Lexeme) → (deeper L room).prefix ts → (fl room sorted).prefix ts
  sorted_prefix room L m f ts s = (deeper_back P (ref inner) room).prefix ts (deeper_prefix L (λ r. P r inner) room f some ts s)
    where
      some : (r : Room) (z : List Lexeme) (q : Built Query) → (L r).spells z q → (w : Inside (Unit {0})) × (P r inner).spells z w
      some r z q s = elim (m r z q s) [ plainly p ↦ (inl q, p) | wrapped o p ↦ (inr (inl ((o, q), tt)), p) ]

  nothing_begun : (room : Room) (ts : List Lexeme) → ts ≡ [] → (P room inner).prefix ts
  nothing_begun room ts e = prefix_of_nil (P room inner) (name_prefixes kind_of (factored_with variant.froms) room inner).empty ts e

  -- ---- the first operand of a query, and what follows it

  pub data FirstOperand (room : Room) (ts : List Lexeme) (q : Built Query) : Type 0 where
    by_block : (P room block).spells ts q → FirstOperand room ts q
    in_pair : (p : Enclosed) → (fl room sorted).spells ts (inl (p, length ts)) → q ≡ p.1 → FirstOperand room ts q

  module _ (room : Room) (x z : List Lexeme) (ts : List Lexeme) (e : ts ≡ x ++ z) where
    -- with no set operator behind it
    wrapped_whole : (p : Enclosed) (q : Built Query) → (fl room sorted).spells x (inl (p, length x)) → z ≡ [] → q ≡ p.1 → ReadsQuery room ts q
    wrapped_whole p q s n i =
        subst (ReadsQuery room ts) (sym i)
        (wrapped p.0 ((closes room inner).spells ts (inr (inl (p, tt))) (inr (inr (x, z, inl (p, length x), e, s, ((λ r. inr (inl (r.0, tt))), inr (inr (tt, n, refl)), refl))))))

    longer_whole : (p : Enclosed) (q : Built Query) (f : Built Query → Built Query) → (fl room sorted).spells x (inl (p, length x)) → (P room set_tail).spells z f → (z ≡ [] → ⊥) → q ≡ f p.1 → ReadsQuery room ts q
    longer_whole p q f s r n i =
        plainly ((closes room inner).spells ts (inl q) (inr (inr (x, z, inl (p, length x), e, s, ((λ u. inl (f u.0.1)), inl (f, (r, n), refl), ap (λ u. inl u) i)))))

    inside_of : (w q : Built Query) (f : Built Query → Built Query) → FirstOperand room x w → (P room set_tail).spells z f → q ≡ f w → ReadsQuery room ts q
    inside_of w q f (by_block b) r i = plainly ((closes room inner).spells ts (inl q) (inl ((w, f), (x, z, e, b, r), ap (λ u. inl u) i)))
    inside_of w q f (in_pair p s j) r i = go z refl
      where
        go : (y : List Lexeme) → z ≡ y → ReadsQuery room ts q
        go [] n = wrapped_whole p q s n (i ∙ (ap (λ g. g w) (sets_identity room f (subst (λ u. (P room set_tail).spells u f) n r)) ∙ j))
        go (c ∷ y) n = longer_whole p q f s r (λ m. let o : c ∷ y ≡ [] = sym n ∙ m in cc) (i ∙ ap f j)

    inside_prefix_of : (w : Built Query) → FirstOperand room x w → (P room set_tail).prefix z → (P room inner).prefix ts
    inside_prefix_of w (by_block b) r = (closes room inner).prefix ts (inl (inr (x, z, w, e, b, r)))
    inside_prefix_of w (in_pair p s j) r = (closes room inner).prefix ts (inr (inr (inr (x, z, inl (p, length x), e, s, inl r))))

  -- ---- at each height

  abbrev At : ℕ → Room → (p : Production) → Language Lexeme (Read p)
  At h = language_within kind_of (factored_with variant.froms) h

  module _ (h : ℕ) (room : Room)
      (m : (r : Room) (z : List Lexeme) (q : Built Query) → (At h r query).spells z q → ReadsQuery r z q)
      (f : (r : Room) (z : List Lexeme) → (At h r query).prefix z → (P r inner).prefix z) where
    abbrev low : {A : Type 0} → Room → The A → Language Lexeme A
    low r g = form_language kind_of (At h) r g

    operand_at : (x : List Lexeme) (w : Built Query) → (low room (rules operand)).spells x w → FirstOperand room x w
    operand_at x w (inl b) = by_block ((in_name kind_of (factored_with variant.froms) h room block).spells x w b)
    operand_at x w (inr (p, s, j)) = in_pair p (sorted_query room (λ r. At h r query) m x p ((deeper_there (At h) (ref query) room).spells x p s)) j

    operand_prefix_at : (x : List Lexeme) → (low room (rules operand)).prefix x → (P room inner).prefix x
    operand_prefix_at x (inl b) = (closes room inner).prefix x (inl (inl ((in_name kind_of (factored_with variant.froms) h room block).prefix x b)))
    operand_prefix_at x (inr s) =
        (closes room inner).prefix x (inr (inr (inl (sorted_prefix room (λ r. At h r query) m f x ((deeper_there (At h) (ref query) room).prefix x s)))))

  both_tails : (h j : ℕ) (room : Room) (y z : List Lexeme) (a : List _) (b : List _) → (form_language kind_of (At h) room intersects).spells y a → (form_language kind_of (At j) room unions).spells z b
      → (P room set_tail).spells (y ++ z) (λ q. tails.combined a b q)
  both_tails h j room y z a b s r =
      (closes room set_tail).spells (y ++ z) (λ q. tails.combined a b q)
      ((a, b), (y, z, refl, (lifted kind_of (factored_with variant.froms) h intersects room).spells y a s, (lifted kind_of (factored_with variant.froms) j unions room).spells z b r), refl)

  query_at : (h : ℕ) (room : Room) → ((r : Room) (z : List Lexeme) (q : Built Query) → (At h r query).spells z q → ReadsQuery r z q)
      → ((r : Room) (z : List Lexeme) → (At h r query).prefix z → (P r inner).prefix z)
      → (ts : List Lexeme) (q : Built Query) → (At (suc (suc (suc h))) room query).spells ts q → ReadsQuery room ts q
  query_at h room m f ts q (u, (x, y, e, (w, (x1, y1, e1, op, ins), j), uns), i) =
      inside_of room x1 (y1 ++ y) ts (e ∙ (ap (λ z. z ++ y) e1 ∙ append_assoc x1 y1 y)) w.0 q (λ z. tails.combined w.1 u.1 z)
      (operand_at h room m f x1 w.0 op) (both_tails (suc h) (suc (suc h)) room y1 y w.1 u.1 ins uns) (i ∙ ap (λ z. t.sets z u.1) j)

  query_prefix_at : (h : ℕ) (room : Room) → ((r : Room) (z : List Lexeme) (q : Built Query) → (At h r query).spells z q → ReadsQuery r z q)
      → ((r : Room) (z : List Lexeme) → (At h r query).prefix z → (P r inner).prefix z)
      → (ts : List Lexeme) → (At (suc (suc (suc h))) room query).prefix ts → (P room inner).prefix ts
  query_prefix_at h room m f ts (inl (inl op)) = operand_prefix_at h room m f ts op
  query_prefix_at h room m f ts (inl (inr (x, y, w, e, op, ins))) =
      inside_prefix_of room x y ts e w (operand_at h room m f x w op)
      ((closes room set_tail).prefix y (inl ((lifted kind_of (factored_with variant.froms) (suc h) intersects room).prefix y ins)))
  query_prefix_at h room m f ts (inr (x, y, v, e, (w, (x1, y1, e1, op, ins), j), uns)) =
      inside_prefix_of room x1 (y1 ++ y) ts (e ∙ (ap (λ z. z ++ y) e1 ∙ append_assoc x1 y1 y)) w.0 (operand_at h room m f x1 w.0 op)
      ((closes room set_tail).prefix (y1 ++ y) (inr (y1, y, w.1, refl, (lifted kind_of (factored_with variant.froms) (suc h) intersects room).spells y1 w.1 ins, (lifted kind_of (factored_with variant.froms) (suc (suc h)) unions room).prefix y uns)))

  mutual
    queries_at : (h : ℕ) (room : Room) (ts : List Lexeme) (q : Built Query) → (At h room query).spells ts q → ReadsQuery room ts q
    queries_at zero room ts q s = absurd s
    queries_at (suc zero) room ts q (u, (x, y, e, s, r), i) = absurd s
    queries_at (suc (suc zero)) room ts q (u, (x, y, e, (w, (x1, y1, e1, op, ins), j), uns), i) = absurd op
    queries_at (suc (suc (suc h))) room ts q s = query_at h room (queries_at h) (prefixes_at h) ts q s

    prefixes_at : (h : ℕ) (room : Room) (ts : List Lexeme) → (At h room query).prefix ts → (P room inner).prefix ts
    prefixes_at zero room ts e = nothing_begun room ts e
    prefixes_at (suc zero) room ts (inl e) = nothing_begun room ts e
    prefixes_at (suc zero) room ts (inr (x, y, v, e, s, r)) = absurd s
    prefixes_at (suc (suc zero)) room ts (inl (inl e)) = nothing_begun room ts e
    prefixes_at (suc (suc zero)) room ts (inl (inr (x, y, w, e, s, r))) = absurd s
    prefixes_at (suc (suc zero)) room ts (inr (x, y, v, e, (w, (x1, y1, e1, op, ins), j), uns)) = absurd op
    prefixes_at (suc (suc (suc h))) room ts s = query_prefix_at h room (queries_at h) (prefixes_at h) ts s

  -- what the left-factored grammar reads as a query, it reads in parentheses
  pub query_inside : (room : Room) (ts : List Lexeme) (q : Built Query) → (P room query).spells ts q → ReadsQuery room ts q
  query_inside room ts q s = let p = spelled_at kind_of (factored_with variant.froms) room query ts q s in queries_at p.0 room ts q p.1

  pub query_prefix_inside : (room : Room) (ts : List Lexeme) → (P room query).prefix ts → (P room inner).prefix ts
  query_prefix_inside room ts s = let p = prefix_at kind_of (factored_with variant.froms) room query ts s in prefixes_at p.0 room ts p.1
