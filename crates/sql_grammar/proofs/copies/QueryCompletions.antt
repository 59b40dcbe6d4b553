-- Each prefix of a production goes on, with tokens that copy nothing, to a whole text, and so does each of a form over these names.
use Rattle.std.proofs.Common.{◌≡◌, ◌&&◌, ℕ, zero, suc, Bool, true, false, List, [], ◌∷◌, ◌++◌, inl, inr, refl, sym, ◌∙◌, ap, subst, append_assoc, codes, None}
use Rattle.std.proofs.lemmas.List.{append-nil}
use Rattle.std.specs.List.{list_all}
use Rattle.grammar.specs.Language.{Language}
use Rattle.grammar.specs.Form.{Room, seq, only, ref, form_language, language, language_within}
use Rattle.grammar.specs.Productions.{skip_then, then_skip, optional}
use Rattle.grammar.specs.Completions.{Completed}
use Rattle.grammar.proofs.readers.Completing.{both_chosen}
use Rattle.grammar.proofs.completed.ComputedCompletions as d
use Rattle.grammar.proofs.completed.PrefixCompletions as c
use Rattle.grammar.proofs.completed.PrefixCompletions.{Completable, as_text, completable_alt, completable_map, completable_nest, completable_ref, completable_seq, completable_token, completion_with}
use Rattle.grammar.proofs.languages.Forms.{form_grows, includes_through}
use Rattle.grammar.proofs.languages.Heights.{from_rule, prefix_at, to_rule, in_name, name_prefixes, name_grows}
use Rattle.grammar.proofs.readers.Repetitions.{one_more}
use Rattle.grammar.proofs.languages.Sets.{and_left, and_right}
use Rattle.sql_model.specs.declared.tree.Expr.{Expr}
use Rattle.sql_lex.specs.Lexemes.{Lexeme}
use Rattle.sql_grammar.specs.Kinds as k
use Rattle.sql_grammar.specs.Kinds.{kind_of, same}
use Rattle.sql_grammar.specs.Numbering.{Built}
use Rattle.sql_grammar.specs.Queries.{of_form, rules}
use Rattle.sql_grammar.specs.QueryTrees as t
use Rattle.sql_grammar.specs.QueryTrees.{not_sub}
use Rattle.sql_grammar.specs.QueryGrammar.{Production, Read, The, a, in_parentheses, parens, listed, comparison, in_query, in_list, between, like, next_or, expr, rest, value, primary, further}
use Rattle.sql_grammar.specs.QueryCopies.{copies_nothing}
use Rattle.sql_grammar.proofs.copies.QueryFillings.{Filled, FilledBy, of_names, samples, word, symbol, number_one, fill_token, fill_only, fill_parens, fill_first, fill_second, fill_listed, fill_expr, fill_conj}

abbrev pub Names : Type 1
Names = Room → (p : Production) → Language Lexeme (Read p)

abbrev pub in_names : {A : Type 0} → Names → The A → Language Lexeme A
in_names E f = form_language kind_of E None f

abbrev pub G : Names
G = language kind_of rules

abbrev At : ℕ → Names
At h = language_within kind_of rules h

up : (h : ℕ) (A : Type 0) (f : The A) (ts : List Lexeme) (v : A) → (in_names (At h) f).spells ts v → (in_names G f).spells ts v
up h A f ts v s =
    (form_grows kind_of (At h) G (name_prefixes kind_of rules)
    (λ small large w p. includes_through _ _ _ (in_name kind_of rules h small p) (name_grows kind_of rules small large w p)) f None None tt).spells ts v s

never : false ≡ true → ⊥
never i = cc

-- ---- an expression that is no subquery

-- OR 1
abbrev or_one : Filled next_or number_one
or_one = fill_second (fill_token k.Or (word (codes "or")) refl refl) fill_conj

or_makes_none : (first : Built Expr) (others : List (Built Expr)) (last : Built Expr) → not_sub (t.chained t.or_node (first, others ++ last ∷ [])) ≡ true
or_makes_none first [] last = refl
or_makes_none first (v ∷ others) last = refl

-- an expression with OR 1 behind it
record NoSubquery (ts : List Lexeme) : Type 0 where
  value : Built Expr
  spelled : (G None expr).spells (ts ++ or_one.by.filling) value
  no_sub : not_sub value ≡ true

no_subquery : (ts : List Lexeme) (v : Built Expr) → (G None expr).spells ts v → NoSubquery ts
no_subquery ts v s = go ((to_rule kind_of rules None expr).spells ts v s)
  where
    go : (in_names G (rules expr)).spells ts v → NoSubquery ts
    go (u, (x, y, i, r, q), j) = record {
      value = t.chained t.or_node (u.0, u.1 ++ number_one ∷ []);
      spelled = (from_rule kind_of rules None expr).spells (ts ++ or_one.by.filling) (t.chained t.or_node (u.0, u.1 ++ number_one ∷ [])) (
        (u.0, u.1 ++ number_one ∷ []),
        (x, y ++ or_one.by.filling, ap (λ z. z ++ or_one.by.filling) i ∙ append_assoc x y or_one.by.filling, r, one_more (in_names G next_or).spells y or_one.by.filling u.1 number_one q or_one.by.spelled),
        refl,
      );
      no_sub = or_makes_none u.0 u.1 number_one;
    }

-- ---- the productions that a query has as parts

abbrev pub is_part : Production → Bool
is_part (further tail) = false
is_part other = true

abbrev Completion : ℕ → {A : Type 0} → The A → List Lexeme → Type 0
Completion h f x = c.Completion kind_of copies_nothing G (At h) (up h) f x

abbrev AreCompleted : ℕ → Type 0
AreCompleted h = (p : Production) → is_part p ≡ true → (x : List Lexeme) → (x ≡ [] → ⊥) → (At h None p).prefix x → Completion h (ref p) x

module _ (h : ℕ) (m : AreCompleted h) where
  abbrev Goes : {A : Type 0} → The A → Type 0
  Goes f = Completable kind_of copies_nothing G (At h) (up h) f

  goes_name : (p : Production) → is_part p ≡ true → Goes (ref p)
  goes_name p i = completable_ref p (m p i)

  -- where nothing but tokens and names has to be filled
  abbrev computes : {A : Type 0} → The A → Bool
  computes f = d.goes kind_of G copies_nothing samples of_names is_part f

  by_parts : {A : Type 0} (f : The A) → computes f ≡ true → Goes f
  by_parts f e = d.completable kind_of G copies_nothing samples of_names is_part (At h) (up h) goes_name f e

  -- ---- ways to write a production

  goes_second : {A B : Type 0} {f : The A} {g : The B} {w : B} → Goes f → Goes g → Filled g w → Goes (skip_then f g)
  goes_second l n q = completable_map (λ p. p.1) (completable_seq l n q)

  goes_first : {A B : Type 0} {f : The A} {g : The B} {w : B} → Goes f → Goes g → Filled g w → Goes (then_skip f g)
  goes_first l n q = completable_map (λ p. p.0) (completable_seq l n q)

  close : Filled (a k.Close) (symbol 41)
  close = fill_token k.Close (symbol 41) refl refl

  goes_in_parentheses : {A : Type 0} {f : The A} {v : A} → Goes f → Filled f v → Goes (in_parentheses f)
  goes_in_parentheses l q = completable_nest (completable_seq (completable_token (same k.Open)) (goes_first l (completable_token (same k.Close)) close) (fill_first q close))

  goes_parens : {A : Type 0} {f : The A} {v : A} → Goes f → Filled f v → Goes (parens f)
  goes_parens l q = completable_map (λ p. p.1) (goes_in_parentheses l q)

  -- ---- an expression in parentheses

  goes_plain : Goes (only not_sub (ref expr))
  goes_plain = record {
    completion = λ x e s.
        let r = m expr refl x e s in let n = no_subquery (x ++ r.by.more) r.value r.by.spelled in
        completion_with (only not_sub (ref expr)) x (r.by.more ++ or_one.by.filling) n.value
        (both_chosen copies_nothing r.by.more or_one.by.filling r.by.are_chosen or_one.by.are_chosen)
        (subst (λ z. (G None expr).spells z n.value) (append_assoc x r.by.more or_one.by.filling) n.spelled, n.no_sub);
  }

  goes_primary : Goes (rules primary)
  goes_primary =
      completable_alt (by_parts _ refl) (completable_alt (by_parts _ refl) (completable_alt (by_parts _ refl) (completable_alt (by_parts _ refl) (completable_alt (by_parts _ refl)
      (completable_alt (goes_parens goes_plain (fill_only not_sub refl fill_expr)) (by_parts _ refl))))))

  -- ---- tests

  in_filled : Filled (a k.In) (word (codes "in"))
  in_filled = fill_token k.In (word (codes "in")) refl refl

  -- members, of which the only one is no query
  abbrev members : The (Built Expr × List (Built Expr))
  members = only t.is_no_query (listed (ref expr))

  members_filled : Filled members (number_one, [])
  members_filled = fill_only t.is_no_query refl (fill_listed fill_expr)

  goes_members : Goes members
  goes_members = record { completion = go }
    where
      -- where the first is alone, OR 1 goes behind it
      listed_so : (x more : List Lexeme) (v : Built Expr × List (Built Expr)) → list_all copies_nothing more ≡ true → (in_names G (listed (ref expr))).spells (x ++ more) v → Completion h members x
      listed_so x more (v, w ∷ vs) c s = completion_with members x more (v, w ∷ vs) c (s, refl)
      listed_so x more (v, []) c (p, q, i, s, j) =
          let n = no_subquery (x ++ more) v (subst (λ z. (G None expr).spells z v) (sym (i ∙ (ap (λ z. p ++ z) j ∙ append-nil p))) s) in
          completion_with members x (more ++ or_one.by.filling) (n.value, []) (both_chosen copies_nothing more or_one.by.filling c or_one.by.are_chosen)
          ((x ++ (more ++ or_one.by.filling), [], sym (append-nil (x ++ (more ++ or_one.by.filling))), subst (λ z. (G None expr).spells z n.value) (append_assoc x more or_one.by.filling) n.spelled, refl), n.no_sub)

      go : (x : List Lexeme) → (x ≡ [] → ⊥) → (in_names (At h) members).prefix x → Completion h members x
      go x e s = let r = (by_parts (listed (ref expr)) refl).completion x e s in listed_so x r.by.more r.value r.by.are_chosen r.by.spelled

  goes_in_list : Goes in_list
  goes_in_list =
      completable_map (λ p left. t.in_list p.0 p.1 left)
      (completable_seq (by_parts (optional (a k.Not)) refl) (goes_second (completable_token (same k.In)) (goes_parens goes_members members_filled) (fill_parens members_filled)) (fill_second in_filled (fill_parens members_filled)))

  -- the word BETWEEN copies, so a prefix with NOT alone goes on with LIKE
  goes_between_words : Goes (skip_then (a k.Between) (seq (ref value) (skip_then (a k.And) (ref value))))
  goes_between_words = by_parts _ refl

  by_like : (x : List Lexeme) → (x ≡ [] → ⊥) → (in_names (At h) like).prefix x → Completion h (rules rest) x
  by_like x e s = as_text (rules rest) (λ v. v) (λ ts v r. inr (inr (inr (inr r)))) x ((by_parts like refl).completion x e s)

  between_completion : (x : List Lexeme) → (x ≡ [] → ⊥) → (in_names (At h) between).prefix x → Completion h (rules rest) x
  between_completion x e (inl s) = by_like x e (inl s)
  between_completion x e (inr (p, [], v, i, s, d)) = by_like x e (inr (p, [], v, i, s, inl (inl refl)))
  between_completion x e (inr (p, u ∷ q, v, i, s, d)) =
      let r = goes_between_words.completion (u ∷ q) (λ z. cc) d in
      completion_with (rules rest) x r.by.more (λ left. t.between v r.value.0 r.value.1 left) r.by.are_chosen
      (inr (inr (inr (inl ((v, r.value), (p, (u ∷ q) ++ r.by.more, ap (λ z. z ++ r.by.more) i ∙ append_assoc p (u ∷ q) r.by.more, up h _ (optional (a k.Not)) p v s, r.by.spelled), refl)))))

  goes_rest : Goes (rules rest)
  goes_rest = record { completion = go }
    where
      go : (x : List Lexeme) → (x ≡ [] → ⊥) → (in_names (At h) (rules rest)).prefix x → Completion h (rules rest) x
      go x e (inl s) = as_text (rules rest) (λ v. v) (λ ts v r. inl r) x ((by_parts comparison refl).completion x e s)
      go x e (inr (inl s)) = as_text (rules rest) (λ v. v) (λ ts v r. inr (inl r)) x ((by_parts in_query refl).completion x e s)
      go x e (inr (inr (inl s))) = as_text (rules rest) (λ v. v) (λ ts v r. inr (inr (inl r))) x (goes_in_list.completion x e s)
      go x e (inr (inr (inr (inl s)))) = between_completion x e s
      go x e (inr (inr (inr (inr s)))) = by_like x e s

  goes : (p : Production) → is_part p ≡ true → Goes (rules p)
  goes rest i = goes_rest
  goes primary i = goes_primary
  goes (further tail) i = absurd (never i)
  goes other i = by_parts (rules other) refl

completed_at : (h : ℕ) → AreCompleted h
completed_at zero p i x e s = absurd (e s)
completed_at (suc h) p i x e s =
    let r = (goes h (completed_at h) p i).completion x e s in
    completion_with (ref p) x r.by.more r.value r.by.are_chosen ((from_rule kind_of rules None p).spells (x ++ r.by.more) r.value r.by.spelled)

-- ---- forms over the names of queries

of_part : (p : Production) → is_part p ≡ true → Completable kind_of copies_nothing G G (λ A f ts v s. s) (ref p)
of_part p i = completable_ref p (λ x e s.
    let q = prefix_at kind_of rules None p x s in let r = completed_at q.0 p i x e q.1 in
    record { value = r.value; by = r.by })

-- tokens that copy nothing fill it
abbrev pub is_filled : {A : Type 0} → The A → Bool
is_filled f = d.is_filled kind_of G copies_nothing (d.fill kind_of G copies_nothing samples of_names f)

abbrev pub filled : {A : Type 0} (f : The A) → is_filled f ≡ true → FilledBy f
filled f e = d.filled_by kind_of G copies_nothing (d.fill kind_of G copies_nothing samples of_names f) e

-- and each prefix goes on with such tokens
abbrev pub goes_on : {A : Type 0} → The A → Bool
goes_on f = is_filled f && d.goes kind_of G copies_nothing samples of_names is_part f

pub completed : {A : Type 0} (f : The A) → goes_on f ≡ true → (ts : List Lexeme) → (of_form None f).prefix ts → Completed copies_nothing (of_form None f) ts
completed f e [] s =
    let b = filled f (and_left (is_filled f) (d.goes kind_of G copies_nothing samples of_names is_part f) e) in
    record { value = b.value; by = record { more = b.filled.by.filling; are_chosen = b.filled.by.are_chosen; spelled = b.filled.by.spelled } }
completed f e (u ∷ ts) s =
    let i = and_right (is_filled f) (d.goes kind_of G copies_nothing samples of_names is_part f) e in
    let r = (d.completable kind_of G copies_nothing samples of_names is_part G (λ A f ts v s. s) of_part f i).completion (u ∷ ts) (λ z. cc) s in
    record { value = r.value; by = r.by }
