-- The entries of a block in one list, and item by item.
use Rattle.std.proofs.Common.{◌≡◌, ℕ, zero, suc, ◌≤◌, List, [], ◌∷◌, ◌++◌, length, inl, inr, refl, sym, ◌∙◌, ap, subst, append_assoc, Option, Some, None, arith}
use Rattle.grammar.specs.Language.{Language, Includes}
use Rattle.grammar.specs.Form.{Room, seq, alt, star, ref, form_language, language}
use Rattle.grammar.specs.Productions.{skip_then}
use Rattle.grammar.proofs.languages.Heights.{from_rule, of_form}
use Rattle.grammar.proofs.factorings.Factorings.{below_included}
use Rattle.grammar.proofs.readers.Repetitions.{IsOneMore, once_more, repeats_once_more}
use Rattle.sql_lex.specs.Lexemes.{Lexeme}
use Rattle.sql_model.specs.declared.tree.Entry.{Entry}
use Rattle.sql_grammar.specs.Kinds as k
use Rattle.sql_grammar.specs.Kinds.{kind_of}
use Rattle.sql_grammar.specs.Numbering.{Built}
use Rattle.sql_grammar.specs.QueryTrees as t
use Rattle.sql_grammar.specs.QueryTrees.{Listed}
use Rattle.sql_grammar.specs.QueryGrammar as grammar
use Rattle.sql_grammar.specs.QueryGrammar.{Production, Read, The, Froms, block_with, listed, join_on, cross_join, block, from, entry, most_separators}
use Rattle.sql_grammar.specs.Queries.{rules}
use Rattle.sql_grammar.specs.QueryEntries.{Further, next_entry, before_entry, further_entries, parted, items_of, few_froms, few_rules}
use Rattle.sql_grammar.proofs.queries.QueryInside.{star_none}
use Rattle.grammar.proofs.factorings.Alike.{below_map, below_seq, itself}
use Rattle.sql_grammar.proofs.queries.QueryWords.{Below}
use Rattle.sql_grammar.proofs.factored.Insides.{joined_at}

abbrev G : Room → (p : Production) → Language Lexeme (Read p)
G = language kind_of rules

abbrev gl : {A : Type 0} → Room → The A → Language Lexeme A
gl room f = form_language kind_of G room f

closes : (room : Room) (p : Production) → Includes (G room p) (gl room (rules p))
closes room p = from_rule kind_of rules room p

-- ---- one more before others

module _ {A : Type 0} (f : The A) where
  one_more : (room : Room) (most : Option ℕ) → IsOneMore (gl room f) (gl room (star most f)) (gl room (star (once_more most) f))
  one_more room most = repeats_once_more (gl room f) (of_form kind_of rules f room) room most

  wider : (room : Room) (few most : ℕ) → few ≤ most → Includes (gl room (star (Some most) f)) (gl room (star (Some few) f))
  wider None few most n = record { spells = λ ts v s. s; prefix = λ ts s. s }
  wider (Some levels) few most n = record { spells = λ ts v s. (s.0, more v s.1); prefix = prefix }
    where
      more : (v : List A) → length v ≤ few → length v ≤ most
      more v m = omega (arith, n, m)

      prefix : (ts : List Lexeme) → (gl (Some levels) (star (Some few) f)).prefix ts → (gl (Some levels) (star (Some most) f)).prefix ts
      prefix ts (inl e) = inl e
      prefix ts (inr (x, y, vs, e, s, r, m)) = inr (x, y, vs, e, s, r, omega (arith, n, m))

-- ---- items of FROM

abbrev pub joins : The (Built Entry)
joins = alt join_on cross_join

abbrev pub next_item : The (Built (List Entry))
next_item = skip_then (grammar.a k.Comma) (ref from)

-- what is joined to an entry, and the items after it
abbrev after_entry : ℕ → The (List (Built Entry) × List (Built (List Entry)))
after_entry most = seq (star None joins) (star (Some most) next_item)

nothing_after : (room : Room) (most : ℕ) (ts : List Lexeme) → ts ≡ [] → (gl room (after_entry most)).prefix ts
nothing_after room most ts e = subst (gl room (after_entry most)).prefix (sym e) (of_form kind_of rules (after_entry most) room).empty

-- an item, from its first entry
item_spells : (room : Room) (x y : List Lexeme) (first : Built Listed) (js : List (Built Entry)) → (G room entry).spells x first → (gl room (star None joins)).spells y js → (G room from).spells (x ++ y) (t.entries first js)
item_spells room x y first js s r = (closes room from).spells (x ++ y) (t.entries first js) ((first, js), (x, y, refl, s, r), refl)

item_prefix : (room : Room) (x y : List Lexeme) (first : Built Listed) → (G room entry).spells x first → (gl room (star None joins)).prefix y → (G room from).prefix (x ++ y)
item_prefix room x y first s r = (closes room from).prefix (x ++ y) (inr (x, y, first, refl, s, r))

module _ (room : Room) where
  -- , and an item
  next_spells : (x a : List Lexeme) (l : Built Listed) (js : List (Built Entry)) → (gl room (skip_then (grammar.a k.Comma) (ref entry))).spells x l → (gl room (star None joins)).spells a js → (gl room next_item).spells (x ++ a) (t.entries l js)
  next_spells x a l js (p, (x1, y1, e1, c, s), i) r =
      ((p.0, t.entries l js), (x1, y1 ++ a, ap (λ z. z ++ a) e1 ∙ append_assoc x1 y1 a, c, item_spells room y1 a l js (subst (λ z. (G room entry).spells y1 z) (sym i) s) r), refl)

  next_prefix : (x a : List Lexeme) (l : Built Listed) → (gl room (skip_then (grammar.a k.Comma) (ref entry))).spells x l → (gl room (star None joins)).prefix a → (gl room next_item).prefix (x ++ a)
  next_prefix x a l (p, (x1, y1, e1, c, s), i) r =
      inr (x1, y1 ++ a, p.0, ap (λ z. z ++ a) e1 ∙ append_assoc x1 y1 a, c, item_prefix room y1 a p.1 s r)

  -- ---- spellings

  nothing_spells : (most : ℕ) (ts : List Lexeme) (w : List Further) → ts ≡ [] → w ≡ [] → (gl room (after_entry most)).spells ts (parted w)
  nothing_spells most ts w e i =
      subst (λ z. (gl room (after_entry most)).spells ts (parted z)) (sym i)
      (subst (λ z. (gl room (after_entry most)).spells z ([], [])) (sym e) ([], [], refl, star_none G room None joins, star_none G room (Some most) next_item))

  one_spells : (most : ℕ) (ts x y : List Lexeme) (n : Further) (w : List Further) → ts ≡ x ++ y → (gl room next_entry).spells x n → (gl room (after_entry most)).spells y (parted w) → (gl room (after_entry (suc most))).spells ts (parted (n ∷ w))
  one_spells most ts x y n w e (inl (l, s, j)) (a, b, e2, js, cs) =
      subst (λ z. (gl room (after_entry (suc most))).spells ts (parted (z ∷ w))) (sym j) (
        [],
        ts,
        refl,
        star_none G room None joins,
        subst (λ z. (gl room (star (Some (suc most)) next_item)).spells z (t.entries l (parted w).0 ∷ (parted w).1)) (sym (joined_at ts x y a b e e2))
            ((one_more next_item room (Some most)).spells (x ++ a) b (t.entries l (parted w).0) (parted w).1 (next_spells x a l (parted w).0 s js) cs),
      )
  one_spells most ts x y n w e (inr (jn, s, j)) (a, b, e2, js, cs) =
      subst (λ z. (gl room (after_entry (suc most))).spells ts (parted (z ∷ w))) (sym j)
      (x ++ a, b, joined_at ts x y a b e e2, (one_more joins room None).spells x a jn (parted w).0 s js, (wider next_item room most (suc most) (omega arith)).spells b (parted w).1 cs)

  further_spells : (m : ℕ) (ts : List Lexeme) (w : List Further) → (gl room (further_entries m)).spells ts w → (gl room (after_entry (suc m))).spells ts (parted w)
  further_spells zero ts w (inl (u, e, i)) = nothing_spells (suc zero) ts w e i
  further_spells zero ts w (inr (u, (s, n), i)) = cc
  further_spells (suc m) ts w (inl (u, e, i)) = nothing_spells (suc (suc m)) ts w e i
  further_spells (suc m) ts w (inr (u, (x, y, e, s, r), i)) =
      subst (λ z. (gl room (after_entry (suc (suc m)))).spells ts (parted z)) (sym i) (one_spells (suc m) ts x y u.0 u.1 e s (further_spells m y u.1 r))

  -- ---- prefixes

  item_begun : (most : ℕ) (ts : List Lexeme) → (gl room next_item).prefix ts → (gl room (after_entry (suc most))).prefix ts
  item_begun most ts s = inr ([], ts, [], refl, star_none G room None joins, (one_more next_item room (Some most)).there ts (inl s))

  begun_prefix : (most : ℕ) (ts : List Lexeme) → (gl room before_entry).prefix ts → (gl room (after_entry (suc most))).prefix ts
  begun_prefix most ts (inl c) = item_begun most ts (inl c)
  begun_prefix most ts (inr (inl j)) = inl ((one_more joins room None).there ts (inl (inl (inl j))))
  begun_prefix most ts (inr (inr c)) = inl ((one_more joins room None).there ts (inl (inr (inl c))))

  entry_prefix : (most : ℕ) (ts : List Lexeme) → (gl room next_entry).prefix ts → (gl room (after_entry (suc most))).prefix ts
  entry_prefix most ts (inl (inl c)) = item_begun most ts (inl c)
  entry_prefix most ts (inl (inr (x, y, w, e, c, s))) = item_begun most ts (inr (x, y, w, e, c, (closes room from).prefix y (inl s)))
  entry_prefix most ts (inr j) = inl ((one_more joins room None).there ts (inl j))

  one_more_prefix : (most : ℕ) (ts x y : List Lexeme) (n : Further) → ts ≡ x ++ y → (gl room next_entry).spells x n → (gl room (after_entry (suc most))).prefix y → (gl room (after_entry (suc (suc most)))).prefix ts
  one_more_prefix most ts x y n e (inl (l, s, j)) (inl r) = item_begun (suc most) ts (subst (gl room next_item).prefix (sym e) (next_prefix x y l s r))
  one_more_prefix most ts x y n e (inl (l, s, j)) (inr (a, b, js, e2, r, cs)) =
      inr (
        [],
        ts,
        [],
        refl,
        star_none G room None joins,
        subst (gl room (star (Some (suc (suc most))) next_item)).prefix (sym (joined_at ts x y a b e e2))
            ((one_more next_item room (Some (suc most))).there ((x ++ a) ++ b) (inr (x ++ a, b, t.entries l js, refl, next_spells x a l js s r, cs))),
      )
  one_more_prefix most ts x y n e (inr (jn, s, j)) (inl r) = inl (subst (gl room (star None joins)).prefix (sym e) ((one_more joins room None).there (x ++ y) (inr (x, y, jn, refl, s, r))))
  one_more_prefix most ts x y n e (inr (jn, s, j)) (inr (a, b, js, e2, r, cs)) =
      inr (x ++ a, b, jn ∷ js, joined_at ts x y a b e e2, (one_more joins room None).spells x a jn js s r, (wider next_item room (suc most) (suc (suc most)) (omega arith)).prefix b cs)

  further_prefix : (m : ℕ) (ts : List Lexeme) → (gl room (further_entries m)).prefix ts → (gl room (after_entry (suc m))).prefix ts
  further_prefix zero ts (inl e) = nothing_after room (suc zero) ts e
  further_prefix zero ts (inr b) = begun_prefix zero ts b
  further_prefix (suc m) ts (inl e) = nothing_after room (suc (suc m)) ts e
  further_prefix (suc m) ts (inr (inl s)) = entry_prefix (suc m) ts s
  further_prefix (suc m) ts (inr (inr (x, y, n, e, s, r))) = one_more_prefix m ts x y n e s (further_prefix m y r)

-- ---- blocks

-- other items of FROM
pub block_below : {E : Room → (p : Production) → Language Lexeme (Read p)} {f g : The Froms} → Below E f g → Below E (block_with f) (block_with g)
block_below {E = E} l =
    below_map (λ p. t.block_of p.0 p.1.0 p.1.1.0 p.1.1.1.0 p.1.1.1.1.0 p.1.1.1.1.1)
    (skip_below (grammar.a k.Select) (below_seq (itself _) (below_seq (itself _) (below_seq (skip_below (grammar.a k.From) l) (itself _)))))
  where
    skip_below : {A B : Type 0} (f : The A) {g h : The B} → Below E g h → Below E (skip_then f g) (skip_then f h)
    skip_below f l = below_map (λ p. p.1) (below_seq (itself f) l)

module _ (m : ℕ) (few : suc m ≤ most_separators) where
  pub list_below : Below G (few_froms m) (listed (ref from))
  list_below = record { holds = λ room. record { spells = spells room; prefix = prefix room } }
    where
      spells : (room : Room) (ts : List Lexeme) (v : Built (List Entry) × List (Built (List Entry))) → (gl room (few_froms m)).spells ts v → (gl room (listed (ref from))).spells ts v
      spells room ts v (u, (x, y, e, s, r), i) = subst ((gl room (listed (ref from))).spells ts) (sym i) (go (further_spells room m y u.1 r))
        where
          go : (gl room (after_entry (suc m))).spells y (parted u.1) → (gl room (listed (ref from))).spells ts (items_of u)
          go (a, b, e2, js, cs) = (x ++ a, b, joined_at ts x y a b e e2, item_spells room x a u.0 (parted u.1).0 s js, (wider next_item room (suc m) most_separators few).spells b (parted u.1).1 cs)

      prefix : (room : Room) (ts : List Lexeme) → (gl room (few_froms m)).prefix ts → (gl room (listed (ref from))).prefix ts
      prefix room ts (inl s) = inl ((closes room from).prefix ts (inl s))
      prefix room ts (inr (x, y, f, e, s, r)) = go (further_prefix room m y r)
        where
          go : (gl room (after_entry (suc m))).prefix y → (gl room (listed (ref from))).prefix ts
          go (inl js) = inl (subst (G room from).prefix (sym e) (item_prefix room x y f s js))
          go (inr (a, b, js, e2, q, cs)) = inr (x ++ a, b, t.entries f js, joined_at ts x y a b e e2, item_spells room x a f js s q, (wider next_item room (suc m) most_separators few).prefix b cs)

  few_below : (p : Production) → Below G (few_rules m p) (rules p)
  few_below block = block_below list_below
  few_below other = itself (rules other)

  -- what has few entries is in the grammar
  pub few_included : (room : Room) (p : Production) → Includes (G room p) (language kind_of (few_rules m) room p)
  few_included = below_included kind_of (few_rules m) rules few_below
