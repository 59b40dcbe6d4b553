-- With as many further entries as a text has tokens, nothing that the grammar spells is lost.
use Rattle.std.proofs.Common.{◌≡◌, ℕ, zero, suc, ◌≤◌, List, [], ◌∷◌, ◌++◌, length, length-append, inl, inr, refl, sym, ◌∙◌, ap, subst, append_assoc, Option, None, arith}
use Rattle.grammar.specs.Language.{Language, Concatenates}
use Rattle.grammar.specs.Form.{Room, seq, map, ref, form_language, language, language_within}
use Rattle.grammar.specs.Productions.{skip_then, optional}
use Rattle.grammar.proofs.languages.Heights.{to_rule, from_rule, spelled_at}
use Rattle.grammar.proofs.languages.Short.{short, first_short, second_short}
use Rattle.sql_lex.specs.Lexemes.{Lexeme}
use Rattle.sql_model.specs.declared.tree.Expr.{Expr}
use Rattle.sql_model.specs.declared.tree.Entry.{Entry}
use Rattle.sql_grammar.specs.Kinds as k
use Rattle.sql_grammar.specs.Kinds.{kind_of}
use Rattle.sql_grammar.specs.Numbering.{Built}
use Rattle.sql_grammar.specs.QueryTrees as t
use Rattle.sql_grammar.specs.QueryGrammar as grammar
use Rattle.sql_grammar.specs.QueryGrammar.{Production, Read, The, listed, block, item, from, entry, expr}
use Rattle.sql_grammar.specs.Queries.{rules}
use Rattle.sql_grammar.specs.QueryEntries.{Further, next_entry, further_entries, parted, items_of, few_rules}
use Rattle.sql_grammar.proofs.entries.EntryLists.{joins, next_item}

-- the parts of a list of further entries
abbrev parts : List (Built Entry) → List (Built (List Entry)) → List (Built Entry) × List (Built (List Entry))
parts js vs = (js, vs)

module _ (m : ℕ) where
  abbrev F : Room → (p : Production) → Language Lexeme (Read p)
  F = language kind_of (few_rules m)

  abbrev fl : {A : Type 0} → The A → Language Lexeme A
  fl f = form_language kind_of F None f

  record Flat (k : ℕ) (ts : List Lexeme) (js : List (Built Entry)) (vs : List (Built (List Entry))) : Type 0 where
    list : List Further
    spelled : (fl (further_entries k)).spells ts list
    same_parts : parted list ≡ parts js vs

  none_spelled : (k : ℕ) (ts : List Lexeme) → ts ≡ [] → (fl (further_entries k)).spells ts []
  none_spelled zero ts i = inl (tt, i, refl)
  none_spelled (suc k) ts i = inl (tt, i, refl)

  -- an entry before others
  one_more : (k : ℕ) (ts x y : List Lexeme) (n : Further) (w : List Further) → ts ≡ x ++ y → (fl next_entry).spells x n → (fl (further_entries k)).spells y w → (fl (further_entries (suc k))).spells ts (n ∷ w)
  one_more k ts x y n w i s r = inr ((n, w), (x, y, i, s, r), refl)

  longer : (b x y x1 y1 w : List Lexeme) → b ≡ x ++ y → x ≡ x1 ++ y1 → y1 ≡ w → length w ≡ 1 → 1 ≤ length b
  longer b x y x1 y1 w e e1 e2 n = omega (arith, ap length e, ap length e1, ap length e2, n, length-append x y, length-append x1 y1)

  some_join : (b : List Lexeme) (j : Built Entry) → (fl joins).spells b j → 1 ≤ length b
  some_join b j (inl (u, (p, (x, y, e, (x1, y1, e1, o, jt), s), l), i)) = longer b x y x1 y1 (p.0.1 ∷ []) e e1 jt.0 refl
  some_join b j (inr (u, (p, (x, y, e, (x1, y1, e1, c, jt), s), l), i)) = longer b x y x1 y1 (p.0.1 ∷ []) e e1 jt.0 refl

  too_short : (ts x y : List Lexeme) → ts ≡ x ++ y → 1 ≤ length x → length ts ≤ 0 → ⊥
  too_short ts x y i p n = omega (arith, p, n, ap length i, length-append x y)

  one_less : (k : ℕ) (ts x y : List Lexeme) → ts ≡ x ++ y → 1 ≤ length x → length ts ≤ suc k → length y ≤ k
  one_less k ts x y i p n = omega (arith, p, n, ap length i, length-append x y)

  moved : (ts b y b1 b2 : List Lexeme) → ts ≡ b ++ y → b ≡ b1 ++ b2 → ts ≡ b1 ++ (b2 ++ y)
  moved ts b y b1 b2 i j = i ∙ (ap (λ z. z ++ y) j ∙ append_assoc b1 b2 y)

  joins_flat : (js : List (Built Entry)) (k : ℕ) (ts b y : List Lexeme) (vs : List (Built (List Entry))) → ts ≡ b ++ y → Concatenates (fl joins).spells b js → length ts ≤ k → ((g : ℕ) → length y ≤ g → Flat g y [] vs) → Flat k ts js vs
  joins_flat [] k ts b y vs i s n next =
      let e : y ≡ ts = sym (i ∙ ap (λ z. z ++ y) s) in
      let p = next k (subst (λ z. length z ≤ k) (sym e) n) in
      record { list = p.list; spelled = subst (λ z. (fl (further_entries k)).spells z p.list) e p.spelled; same_parts = p.same_parts }
  joins_flat (j ∷ js) zero ts b y vs i (b1, b2, i1, s, r) n next = absurd (too_short ts b1 (b2 ++ y) (moved ts b y b1 b2 i i1) (some_join b1 j s) n)
  joins_flat (j ∷ js) (suc k) ts b y vs i (b1, b2, i1, s, r) n next =
      let o = moved ts b y b1 b2 i i1 in
      let p = joins_flat js k (b2 ++ y) b2 y vs refl r (one_less k ts b1 (b2 ++ y) o (some_join b1 j s) n) next in
      record {
        list = inr j ∷ p.list;
        spelled = one_more k ts b1 (b2 ++ y) (inr j) p.list o (inr (j, s, refl)) p.spelled;
        same_parts = ap (λ q. parts (j ∷ q.0) q.1) p.same_parts;
      }

  -- an item, opened
  item_flat : (k : ℕ) (ts x y : List Lexeme) (v : Built (List Entry)) (vs : List (Built (List Entry))) → ts ≡ x ++ y → (fl next_item).spells x v → length ts ≤ k → ((g : ℕ) → length y ≤ g → Flat g y [] vs) → Flat k ts [] (v ∷ vs)
  item_flat k ts x y v vs i (p, (c, f, i1, ct, fr), j) n next = go k n ((to_rule kind_of (few_rules m) None from).spells f p.1 fr)
    where
      comma_length : 1 ≤ length c
      comma_length = omega (arith, ap length ct.0)

      go : (k : ℕ) → length ts ≤ k → (fl (rules from)).spells f p.1 → Flat k ts [] (v ∷ vs)
      go zero n (u, (a, b, i2, en, js), l) = absurd (too_short ts c (f ++ y) (moved ts x y c f i i1) comma_length n)
      go (suc k) n (u, (a, b, i2, en, js), l) =
          let o = moved ts x y c f i i1 in
          let less = one_less k ts c (f ++ y) o comma_length n in
          let q = joins_flat u.1 k (b ++ y) b y vs refl js (second_short k (f ++ y) a (b ++ y) (moved (f ++ y) f y a b refl i2) less) next in
          record {
            list = inl u.0 ∷ q.list;
            spelled = one_more k ts (c ++ a) (b ++ y) (inl u.0) q.list (o ∙ (ap (λ z. c ++ z) (moved (f ++ y) f y a b refl i2) ∙ sym (append_assoc c a (b ++ y))))
                (inl (u.0, ((p.0, u.0), (c, a, refl, ct, en), refl), refl)) q.spelled;
            same_parts = ap (λ z. parts [] (t.entries u.0 z.0 ∷ z.1)) q.same_parts ∙ ap (λ z. parts [] (z ∷ vs)) (sym (j ∙ l));
          }

  items_flat : (vs : List (Built (List Entry))) (k : ℕ) (ts : List Lexeme) → Concatenates (fl next_item).spells ts vs → length ts ≤ k → Flat k ts [] vs
  items_flat [] k ts s n = record { list = []; spelled = none_spelled k ts s; same_parts = refl }
  items_flat (v ∷ vs) k ts (x, y, i, s, r) n = item_flat k ts x y v vs i s n (λ g o. items_flat vs g y r o)

  listed_flat : (ts : List Lexeme) (v : Built (List Entry) × List (Built (List Entry))) → length ts ≤ m → (fl (listed (ref from))).spells ts v → (fl (map items_of (seq (ref entry) (further_entries m)))).spells ts v
  listed_flat ts v n (x, y, i, s, r) = go ((to_rule kind_of (few_rules m) None from).spells x v.0 s)
    where
      go : (fl (rules from)).spells x v.0 → (fl (map items_of (seq (ref entry) (further_entries m)))).spells ts v
      go (u, (a, b, i2, en, js), l) =
          let o = moved ts x y a b i i2 in
          let q = joins_flat u.1 m (b ++ y) b y v.1 refl js (second_short m ts a (b ++ y) o n) (λ g z. items_flat v.1 g y r z) in
          ((u.0, q.list), (a, b ++ y, o, en, q.spelled), ap (λ z. (z, v.1)) l ∙ ap (λ z. (t.entries u.0 z.0, z.1)) (sym q.same_parts))

  module _ (h : ℕ) (a : (p : Production) (ts : List Lexeme) (v : Read p) → length ts ≤ m → (language_within kind_of rules h None p).spells ts v → (F None p).spells ts v) where
    abbrev E : Room → (p : Production) → Language Lexeme (Read p)
    E = language_within kind_of rules h

    again : {A : Type 0} (f : The A) (ts : List Lexeme) (v : A) → length ts ≤ m → (form_language kind_of E None f).spells ts v → (fl f).spells ts v
    again f ts v n s = short kind_of m E F a f ts v n s

    abbrev distinct : The (Option Lexeme)
    distinct = optional (grammar.a k.Distinct)

    abbrev behind_from : The (Option (Built Expr) × (Option (Expr × List Expr) × Option (Built Expr)))
    behind_from = seq (optional (skip_then (grammar.a k.Where) (ref expr))) (seq grammar.group_by (optional (skip_then (grammar.a k.Having) (ref expr))))

    block_short : (ts : List Lexeme) (v : Read block) → length ts ≤ m → (form_language kind_of E None (rules block)).spells ts v → (fl (few_rules m block)).spells ts v
    block_short ts v n (u, (p, (x, y, i, sel, (x1, y1, i1, d, (x2, y2, i2, its, (x3, y3, i3, (q, (x4, y4, i4, fw, fs), j), os)))), l), o) =
        let n0 = second_short m ts x y i n in
        let n1 = second_short m y x1 y1 i1 n0 in
        let n2 = second_short m y1 x2 y2 i2 n1 in
        let n3 = first_short m y2 x3 y3 i3 n2 in
        let n4 = second_short m x3 x4 y4 i4 n3 in (
          u,
          (
            p,
            (
              x,
              y,
              i,
              sel,
              (
                x1,
                y1,
                i1,
                again distinct x1 p.1.0 (first_short m y x1 y1 i1 n0) d,
                (
                  x2,
                  y2,
                  i2,
                  again (listed (ref item)) x2 p.1.1.0 (first_short m y1 x2 y2 i2 n1) its,
                  (x3, y3, i3, (q, (x4, y4, i4, fw, listed_flat y4 q.1 n4 (again (listed (ref from)) y4 q.1 n4 fs)), j), again behind_from y3 p.1.1.1.1 (second_short m y2 x3 y3 i3 n2) os),
                ),
              ),
            ),
            l,
          ),
          o,
        )

    own_short : (p : Production) (ts : List Lexeme) (v : Read p) → length ts ≤ m → (form_language kind_of E None (rules p)).spells ts v → (fl (few_rules m p)).spells ts v
    own_short block ts v n s = block_short ts v n s
    own_short other ts v n s = again (rules other) ts v n s

  at_height : (h : ℕ) (p : Production) (ts : List Lexeme) (v : Read p) → length ts ≤ m → (language_within kind_of rules h None p).spells ts v → (F None p).spells ts v
  at_height zero p ts v n s = absurd s
  at_height (suc h) p ts v n s = (from_rule kind_of (few_rules m) None p).spells ts v (own_short h (at_height h) p ts v n s)

  -- a text with no more tokens than that
  pub few_spell : (p : Production) (ts : List Lexeme) (v : Read p) → length ts ≤ m → (language kind_of rules None p).spells ts v → (language kind_of (few_rules m) None p).spells ts v
  few_spell p ts v n s = let q = spelled_at kind_of rules None p ts v s in at_height q.0 p ts v n q.1
