-- What holds everywhere in a query that is spelled with few entries: each property of literals that have numbers behind it, and each of at most so
-- many entries. And back: a query that is so behind some numbers, and is spelled with more entries, is spelled with few.
use Rattle.std.proofs.Common.{ℕ, zero, suc, ◌*◌, ◌<◌, ◌≤◌, ◌≡◌, Bool, false, true, List, [], ◌∷◌, ◌++◌, length, Option, Some, None, inl, inr, sym, ◌∙◌, ap, subst, arith}
use Rattle.grammar.specs.Form.{Room, form_language, language_within, language, alt, counted, map, nest, only, ref, seq, star}
use Rattle.grammar.specs.Language.{Language}
use Rattle.grammar.specs.Productions.{skip_then, then_skip, optional}
use Rattle.grammar.proofs.languages.Heights.{from_rule, spelled_at}
use Rattle.data_model.specs.Lists.{Each}
use Rattle.sql_lex.specs.Lexemes.{Lexeme}
use Rattle.sql_model.specs.declared.tree.Expr.{Expr}
use Rattle.sql_model.specs.declared.symbols.Lit.{Lit}
use Rattle.sql_model.specs.declared.tree.Item.{Item}
use Rattle.sql_model.specs.declared.tree.Item.TheVariants as item_tree
use Rattle.sql_model.specs.declared.tree.Entry.{Entry}
use Rattle.sql_model.specs.declared.tree.Expr.TheVariants as expr_tree
use Rattle.sql_model.specs.declared.tree.Query.{Query}
use Rattle.sql_model.specs.declared.tree.Query.TheVariants as query_tree
use Rattle.sql_model.specs.Compute.{everything}
use Rattle.sql_model.specs.Everywhere.{Anything, Everywhere}
use Rattle.sql_model.specs.Syntax as tree
use Rattle.sql_grammar.specs.Kinds as k
use Rattle.sql_grammar.specs.Kinds.{kind_of}
use Rattle.sql_grammar.specs.Numbering.{Built, both, each, mapped, perhaps, plain, symbol_number}
use Rattle.sql_grammar.specs.QueryEntries.{Further, few_froms, few_rules, further_entries, items_of, next_entry, parted}
use Rattle.sql_grammar.specs.QueryGrammar as grammar
use Rattle.sql_grammar.specs.QueryGrammar.{Production, Read, The, parens, listed, query, part, operand, block, item, entry, reference, expr, conj, neg, test, rest, value, term, unary, primary, agg, most_operators, most_separators}
use Rattle.sql_grammar.specs.QueryTrees as t
use Rattle.sql_grammar.specs.QueryTrees.{Left, Listed, SetWord}
use Rattle.sql_grammar.specs.TokenValues.{name_of}
use Rattle.sql_grammar.proofs.entries.EntryCounts.{all_counted}
use Rattle.sql_grammar.proofs.entries.EverywhereTrees as trees
use Rattle.sql_grammar.proofs.entries.EverywhereTrees.{Iff, Perhaps}
use Rattle.sql_grammar.proofs.entries.Fits.{Fits, each_of, each_together, fit_both, fit_copying, fit_each, fit_mapped, fit_perhaps, fit_plain, literal_below, symbol_any, Once, once_both, once_copying, once_each, once_mapped, once_perhaps, spelled_anew}

-- the parts of a block
abbrev Parts : Type 0
Parts = Option Lexeme × ((Built Item × List (Built Item)) × (grammar.Froms × (Option (Built Expr) × (Option (Expr × List Expr) × Option (Built Expr)))))

abbrev block_from : Parts → Built Query
block_from p = t.block_of p.0 p.1.0 p.1.1.0 p.1.1.1.0 p.1.1.1.1.0 p.1.1.1.1.1

units : {A : Type 0} (vs : List A) → Each (λ v. Unit {0}) vs
units [] = tt
units (v ∷ vs) = (tt, units vs)

-- ---- what holds of values

-- of trees, from a property of literals and one of how many entries
abbrev Family : Type 0 → Type 1
Family X = (ℕ → Type 0) → (ℕ → Type 0) → X → Type 0

abbrev queries : Family Query
queries l e q = Everywhere l e q

abbrev exprs : Family Expr
exprs l e x = trees.OfExpr l e x

abbrev rows : Family (List Expr)
rows l e xs = Each (trees.OfExpr l e) xs

abbrev items : Family Item
items l e x = trees.OfItem l e x

abbrev entries_in : Family Entry
entries_in l e x = trees.OfEntry l e x

abbrev sources : Family Listed
sources l e x = trees.OfSource l e x.source

-- of what is read: whatever numbers stand before it, and behind some
record Sides (A : Type 0) : Type 1 where
  always : A → Type 0
  once : A → Type 0

abbrev pair : {A B : Type 0} → Sides A → Sides B → Sides (A × B)
pair F G = record { always = λ v. F.always v.0 × G.always v.1; once = λ v. F.once v.0 × G.once v.1 }

abbrev first : {A B : Type 0} → Sides A → Sides (A × B)
first F = record { always = λ v. F.always v.0; once = λ v. F.once v.0 }

abbrev second : {A B : Type 0} → Sides B → Sides (A × B)
second F = record { always = λ v. F.always v.1; once = λ v. F.once v.1 }

abbrev all : {A : Type 0} → Sides A → Sides (List A)
all F = record { always = Each F.always; once = Each F.once }

abbrev if_there : {A : Type 0} → Sides A → Sides (Option A)
if_there F = record { always = Perhaps F.always; once = Perhaps F.once }

abbrev anything : {A : Type 0} → Sides A
anything = record { always = λ v. Unit {0}; once = λ v. Unit {0} }

-- what is made has it where what it is made of has it, and back
abbrev Keeps : {A B : Type 0} → Sides A → (A → B) → Sides B → Type 0
Keeps F h G = (v : _) → (F.always v → G.always (h v)) × (G.once (h v) → F.once v)

module _ (literal : ℕ → ℕ → Type 0) (entries : ℕ → Type 0) (m : ℕ) where
  abbrev AtMost : ℕ → Type 0
  AtMost count = count ≤ suc m

  -- of what is built: this property at each count of the literals that have numbers; few entries
  abbrev built : {X : Type 0} → Family X → Sides (Built X)
  built P = record { always = λ b. Fits (λ count. P (literal count) entries) b; once = λ b. Once (P Anything AtMost) b }

  abbrev AQuery : Sides (Built Query)
  AQuery = built queries

  abbrev AnExpr : Sides (Built Expr)
  AnExpr = built exprs

  abbrev AnItem : Sides (Built Item)
  AnItem = built items

  abbrev AnEntry : Sides (Built Entry)
  AnEntry = built entries_in

  abbrev AListed : Sides (Built Listed)
  AListed = built sources

  -- what is read of each production; those that are not listed come in none
  abbrev Good : (p : Production) → Sides (Read p)
  Good query = AQuery
  Good part = AQuery
  Good operand = AQuery
  Good block = AQuery
  Good item = AnItem
  Good entry = AListed
  Good reference = record { always = λ x. (count : ℕ) → exprs (literal count) entries x; once = λ x. Unit {0} }
  Good rest = record { always = λ f. (left : Left) → AnExpr.always left.0 → AnExpr.always (f left); once = λ f. (left : Left) × AnExpr.once (f left) }
  Good expr = AnExpr
  Good conj = AnExpr
  Good neg = AnExpr
  Good test = AnExpr
  Good value = AnExpr
  Good term = AnExpr
  Good unary = AnExpr
  Good primary = AnExpr
  Good agg = AnExpr
  Good other = record { always = λ v. Unit {0}; once = λ v. ⊥ }

  -- ---- trees

  mapped_keeps : {X Y : Type 0} (P : Family X) (Q : Family Y) (f : X → Y) → ((l e : ℕ → Type 0) (x : X) → Iff (P l e x) (Q l e (f x))) → Keeps (built P) (λ b. mapped f b) (built Q)
  mapped_keeps P Q f i b = (λ p. fit_mapped f (λ count x. (i (literal count) entries x).0) p, λ o. once_mapped f (λ x. (i Anything AtMost x).1) o)

  both_keep : {X Y Z : Type 0} (P : Family X) (Q : Family Y) (R : Family Z) (f : X × Y → Z) → ((l e : ℕ → Type 0) (z : X × Y) → Iff (P l e z.0 × Q l e z.1) (R l e (f z)))
      → Keeps (pair (built P) (built Q)) (λ v. mapped f (both v.0 v.1)) (built R)
  both_keep P Q R f i v = (λ p. fit_mapped f (λ count z. (i (literal count) entries z).0) (fit_both p.0 p.1), λ o. once_both (once_mapped f (λ z. (i Anything AtMost z).1) o))

  set_keeps : (p : SetWord) → Keeps (pair AQuery AQuery) (λ v. mapped (λ q. query_tree.Set p.0 q.0 q.1 p.1) (both v.0 v.1)) AQuery
  unfolding everything Everywhere
  set_keeps p = both_keep queries queries queries (λ q. query_tree.Set p.0 q.0 q.1 p.1) (λ l e q. (λ f. f, λ f. f))

  sets_keep : (ps : List (SetWord × Built Query)) (left : Built Query)
      → (AQuery.always left × Each (λ p. AQuery.always p.1) ps → AQuery.always (t.sets left ps)) × (AQuery.once (t.sets left ps) → AQuery.once left × Each (λ p. AQuery.once p.1) ps)
  sets_keep [] left = (λ f. f.0, λ o. (o, tt))
  sets_keep (p ∷ ps) left =
      let n = set_keeps p.0 (left, p.1) in
      let r = sets_keep ps (mapped (λ q. query_tree.Set p.0.0 q.0 q.1 p.0.1) (both left p.1)) in
      (λ f. r.0 (n.0 (f.0, f.1.0), f.1.1), λ o. let g = r.1 o in let h = n.1 g.0 in (h.0, (h.1, g.1)))

  operation_keeps : (symbol : ℕ) → Keeps (pair AnExpr AnExpr) (λ v. mapped (λ q. expr_tree.Fun symbol (q.0 ∷ q.1 ∷ []) (t.place_of q.0)) (both v.0 v.1)) AnExpr
  unfolding everything Everywhere
  operation_keeps symbol = both_keep exprs exprs exprs (λ q. expr_tree.Fun symbol (q.0 ∷ q.1 ∷ []) (t.place_of q.0)) (λ l e q. (λ f. (f.0, (f.1, tt)), λ f. (f.0, f.1.0)))

  operated_keeps : (ps : List (Lexeme × Built Expr)) (left : Built Expr)
      → (AnExpr.always left × Each (λ p. AnExpr.always p.1) ps → AnExpr.always (t.operated left ps)) × (AnExpr.once (t.operated left ps) → AnExpr.once left × Each (λ p. AnExpr.once p.1) ps)
  operated_keeps [] left = (λ f. f.0, λ o. (o, tt))
  operated_keeps (p ∷ ps) left =
      let n = operation_keeps (t.operator (kind_of p.0)) (left, p.1) in
      let r = operated_keeps ps (mapped (λ q. expr_tree.Fun (t.operator (kind_of p.0)) (q.0 ∷ q.1 ∷ []) (t.place_of q.0)) (both left p.1)) in
      (λ f. r.0 (n.0 (f.0, f.1.0), f.1.1), λ o. let g = r.1 o in let h = n.1 g.0 in (h.0, (h.1, g.1)))

  -- a node of a chain, as AND and OR are
  abbrev HoldsOf : (List Expr → ℕ → Expr) → Type 1
  HoldsOf node = (l e : ℕ → Type 0) (xs : List Expr) (at : ℕ) → Iff (Each (exprs l e) xs) (exprs l e (node xs at))

  or_holds : HoldsOf t.or_node
  unfolding everything Everywhere
  or_holds l e xs at = trees.row_has l e xs

  and_holds : HoldsOf t.and_node
  unfolding everything Everywhere
  and_holds l e xs at = trees.row_has l e xs

  chained_keeps : (node : List Expr → ℕ → Expr) → HoldsOf node → Keeps (pair AnExpr (all AnExpr)) (t.chained node) AnExpr
  chained_keeps node g (x, []) = (λ f. f.0, λ o. (o, tt))
  chained_keeps node g (x, next ∷ others) =
      let n = both_keep exprs rows exprs (λ p. node (p.0 ∷ p.1) (t.place_of p.0)) (λ l e p. g l e (p.0 ∷ p.1) (t.place_of p.0)) (x, each (next ∷ others)) in
      (λ f. n.0 (f.0, fit_each (next ∷ others) f.1), λ o. let b = n.1 o in (b.0, once_each (next ∷ others) b.1))

  -- ---- tests

  -- behind the left side
  abbrev Tests : {A : Type 0} → Sides A → (A → Left → Built Expr) → Type 0
  Tests F h = (v : _) (left : Left) → (AnExpr.always left.0 × F.always v → AnExpr.always (h v left)) × (AnExpr.once (h v left) → AnExpr.once left.0 × F.once v)

  -- where NOT may stand
  tested_keeps : {A : Type 0} (P : Family A) (word : Option Lexeme) (node : Expr × A → Expr) → ((l e : ℕ → Type 0) (p : Expr × A) → Iff (exprs l e p.0 × P l e p.1) (exprs l e (node p)))
      → Keeps (pair AnExpr (built P)) (λ v. mapped (λ p. t.negated word (node p)) (both v.0 v.1)) AnExpr
  tested_keeps P word node g =
      both_keep exprs P exprs (λ p. t.negated word (node p)) (λ l e p. let n = trees.negated_has l e word (node p) in (λ f. n.0 ((g l e p).0 f), λ f. (g l e p).1 (n.1 f)))

  comparison_tests : (sign : Lexeme) → Tests AnExpr (t.comparison sign)
  comparison_tests sign right left = both_keep exprs exprs exprs (λ p. t.compared (kind_of sign) p.0 p.1) (λ l e p. trees.compared_has l e (kind_of sign) p.0 p.1) (left.0, right)

  in_query_tests : (word : Option Lexeme) (in_word : Lexeme) → Tests AQuery (t.in_query word in_word)
  unfolding everything Everywhere
  in_query_tests word in_word q left = tested_keeps queries word (λ p. expr_tree.In p.0 p.1 (t.place_of p.0) in_word.start) (λ l e p. (λ f. f, λ f. f)) (left.0, q)

  in_list_tests : (word : Option Lexeme) → Tests (pair AnExpr (all AnExpr)) (t.in_list word)
  in_list_tests word members left =
      let right = both members.0 (each members.1) in
      let n = tested_keeps {A = Expr × List Expr} (λ l e p. exprs l e p.0 × rows l e p.1) word (λ p. t.member p.0 p.1.0 p.1.1) (λ l e p. trees.member_has l e p.0 p.1.0 p.1.1) (left.0, right) in (
        λ f. fit_copying (length members.1 * t.weight left) (n.0 (f.0, fit_both f.1.0 (fit_each members.1 f.1.1))),
        λ o.
            let b = n.1 (once_copying (length members.1 * t.weight left) (mapped (λ p. t.negated word (t.member p.0 p.1.0 p.1.1)) (both left.0 right)) o) in
            let c = once_both {P = exprs Anything AtMost} {Q = rows Anything AtMost} b.1 in (b.0, (c.0, once_each members.1 c.1)),
      )

  between_tests : (word : Option Lexeme) → Tests (pair AnExpr AnExpr) (λ v. t.between word v.0 v.1)
  between_tests word v left =
      let right = both v.0 v.1 in
      let n = tested_keeps {A = Expr × Expr} (λ l e p. exprs l e p.0 × exprs l e p.1) word (λ p. t.bounds p.0 p.1.0 p.1.1) (λ l e p. trees.bounds_have l e p.0 p.1.0 p.1.1) (left.0, right) in (
        λ f. fit_copying (t.weight left) (n.0 (f.0, fit_both f.1.0 f.1.1)),
        λ o.
            let b = n.1 (once_copying (t.weight left) (mapped (λ p. t.negated word (t.bounds p.0 p.1.0 p.1.1)) (both left.0 right)) o) in
            (b.0, once_both {P = exprs Anything AtMost} {Q = exprs Anything AtMost} b.1),
      )

  like_tests : (word : Option Lexeme) → Tests AnExpr (t.like word)
  unfolding everything Everywhere
  like_tests word right left = tested_keeps exprs word (λ p. expr_tree.Pred 2 (p.0 ∷ p.1 ∷ []) (t.place_of p.0)) (λ l e p. (λ f. (f.0, (f.1, tt)), λ f. (f.0, f.1.0))) (left.0, right)

  -- ---- calls

  call_keeps : (word : Lexeme) → Keeps (if_there (pair AnExpr (all AnExpr))) (t.call word) AnExpr
  unfolding everything Everywhere
  call_keeps word args =
      let n = both_keep (λ l e number. Unit {0}) rows exprs (λ p. expr_tree.Call p.0 p.1 word.start) (λ l e p. (λ f. (trees.row_has l e p.1).0 f.1, λ f. (tt, (trees.row_has l e p.1).1 f)))
      (symbol_number (name_of word), each (t.listed_or_none args)) in
      (λ f. n.0 (symbol_any (name_of word), fit_each (t.listed_or_none args) ((listed_is AnExpr.always args).0 f)), λ o. (listed_is AnExpr.once args).1 (once_each (t.listed_or_none args) (n.1 o).1))
    where
      listed_is : (P : Built Expr → Type 0) (args : Option (Built Expr × List (Built Expr))) → Iff (Perhaps (λ v. P v.0 × Each P v.1) args) (Each P (t.listed_or_none args))
      listed_is P None = (λ f. tt, λ f. tt)
      listed_is P (Some p) = (λ f. f, λ f. f)

  -- ---- FROM

  -- an entry after a comma, or one that is joined
  abbrev of_further : (Built Listed → Type 0) → (Built Entry → Type 0) → Further → Type 0
  of_further P Q (inl listed) = P listed
  of_further P Q (inr joined) = Q joined

  abbrev AFurther : Sides Further
  AFurther = record { always = of_further AListed.always AnEntry.always; once = of_further AListed.once AnEntry.once }

  abbrev FitEntries : Built (List Entry) → Type 0
  FitEntries b = Fits (λ count. Each (entries_in (literal count) entries)) b

  entries_fit : (listed : Built Listed) (joined : List (Built Entry)) → AListed.always listed → Each AnEntry.always joined → FitEntries (t.entries listed joined)
  entries_fit listed joined f r =
      fit_mapped (λ p. t.entry_of false None p.0 ∷ p.1) (λ count p g. ((trees.entry_has (literal count) entries false None p.0).0 (g.0, tt), g.1)) (fit_both f (fit_each joined r))

  parted_fit : (w : List Further) → Each AFurther.always w → Each AnEntry.always (parted w).0 × Each FitEntries (parted w).1
  parted_fit [] f = (tt, tt)
  parted_fit (inl listed ∷ others) f = let r = parted_fit others f.1 in (tt, (entries_fit listed (parted others).0 f.0 r.0, r.1))
  parted_fit (inr joined ∷ others) f = let r = parted_fit others f.1 in ((f.0, r.0), r.1)

  each_halves : (es others : List Entry) → Each (entries_in Anything AtMost) (es ++ others) → Each (entries_in Anything AtMost) es × Each (entries_in Anything AtMost) others
  each_halves [] others f = (tt, f)
  each_halves (e ∷ es) others f = let g = each_halves es others f.1 in ((f.0, g.0), g.1)

  abbrev AllFew : List (List Entry) → Type 0
  AllFew ess = Each (entries_in Anything AtMost) (t.concatenated ess)

  item_parts : (listed : Built Listed) (joined : List (Built Entry)) (bs : List (Built (List Entry))) → Once AllFew (each (t.entries listed joined ∷ bs))
      → AListed.once listed × (Each AnEntry.once joined × Once AllFew (each bs))
  item_parts listed joined bs o =
      let b = t.entries listed joined in
      let ess = ((each bs).build (b.build o.numbers).1).0 in
      let h = each_halves (b.build o.numbers).0 (t.concatenated ess) o.holds in (
        record { numbers = o.numbers; holds = ((trees.entry_has Anything AtMost false None (listed.build o.numbers).0).1 h.0.0).0 },
        (once_each joined (record { numbers = (listed.build o.numbers).1; holds = h.0.1 }), record { numbers = (b.build o.numbers).1; holds = h.1 }),
      )

  parted_few : (w : List Further) → Each AnEntry.once (parted w).0 → Once AllFew (each (parted w).1) → Each AFurther.once w
  parted_few [] f o = tt
  parted_few (inl listed ∷ others) f o = let g = item_parts listed (parted others).0 (parted others).1 o in (g.0, parted_few others g.1.0 g.1.1)
  parted_few (inr joined ∷ others) f o = (f.0, parted_few others f.1 o)

  -- the entries of all items
  abbrev AllFroms : Sides grammar.Froms
  AllFroms = record {
    always = λ v. Fits (λ count ess. entries (length (t.concatenated ess)) × Each (entries_in (literal count) entries) (t.concatenated ess)) (each (t.all_of v));
    once = λ v. Once (λ ess. AtMost (length (t.concatenated ess)) × AllFew ess) (each (t.all_of v));
  }

  -- ---- blocks

  abbrev Groups : Sides (Option (Expr × List Expr))
  Groups = record { always = λ v. Perhaps (Each (Good reference).always) (t.columns_of v); once = λ v. Unit {0} }

  abbrev OfParts : Sides Parts
  OfParts = second (pair (pair AnItem (all AnItem)) (pair AllFroms (pair (if_there AnExpr) (pair Groups (if_there AnExpr)))))

  block_keeps : Keeps OfParts block_from AQuery
  block_keeps (d, (items, (froms, (cond, (groups, having))))) = (fits, parts)
    where
      columns_at : (count : ℕ) (xs : List Expr) → Each (Good reference).always xs → Each (exprs (literal count) entries) xs
      columns_at count [] f = tt
      columns_at count (x ∷ xs) f = (f.0 count, columns_at count xs f.1)

      grouped_at : (count : ℕ) (columns : Option (List Expr)) → Perhaps (Each (Good reference).always) columns → Perhaps (Each (exprs (literal count) entries)) columns
      grouped_at count None f = tt
      grouped_at count (Some xs) f = columns_at count xs f

      fits : OfParts.always (d, (items, (froms, (cond, (groups, having))))) → AQuery.always (t.block_of d items froms cond groups having)
      fits f =
          fit_mapped (λ p. t.block_node (t.is_given d) p.0 (t.concatenated p.1.0) p.1.1.0 (t.columns_of groups) p.1.1.1)
          (λ count p q.
          trees.block_has (literal count) entries (t.is_given d) p.0 (t.concatenated p.1.0) p.1.1.0 (t.columns_of groups) p.1.1.1
          (record { items_have = q.0; count = q.1.0.0; entries_have = q.1.0.1; cond = q.1.1.0; having = q.1.1.1 }) (grouped_at count (t.columns_of groups) f.1.1.1.0))
          (fit_both (fit_each (t.all_of items) f.0) (fit_both f.1.0 (fit_both (fit_perhaps cond f.1.1.0) (fit_perhaps having f.1.1.1.1))))

      parts : AQuery.once (t.block_of d items froms cond groups having) → OfParts.once (d, (items, (froms, (cond, (groups, having)))))
      parts o =
          let b = (both (each (t.all_of items)) (both (each (t.all_of froms)) (both (perhaps cond) (perhaps having)))).build o.numbers in
          let behind_items = ((each (t.all_of items)).build o.numbers).1 in
          let behind_froms = ((each (t.all_of froms)).build behind_items).1 in
          let has = trees.block_back Anything AtMost (t.is_given d) b.0.0 (t.concatenated b.0.1.0) b.0.1.1.0 (t.columns_of groups) b.0.1.1.1 o.holds in (
            once_each (t.all_of items) (record { numbers = o.numbers; holds = has.items_have }),
            (
              record { numbers = behind_items; holds = (has.count, has.entries_have) },
              (once_perhaps cond (record { numbers = behind_froms; holds = has.cond }), (tt, once_perhaps having (record { numbers = ((perhaps cond).build behind_froms).1; holds = has.having }))),
            ),
          )

  -- ---- the production of tests

  -- what is tested has few, where the test has
  abbrev KeepsLeft : (Left → Built Expr) → Type 0
  KeepsLeft f = (left : Left) → AnExpr.once (f left) → AnExpr.once left.0

  left_kept : (E : Room → (p : Production) → Language Lexeme (Read p)) (ts : List Lexeme) (f : Left → Built Expr) → (form_language kind_of E None (few_rules m rest)).spells ts f → KeepsLeft f
  left_kept E ts f (inl (u, s, i)) = subst KeepsLeft (sym i) (λ left o. ((comparison_tests u.0 u.1 left).1 o).0)
  left_kept E ts f (inr (inl (u, s, i))) = subst KeepsLeft (sym i) (λ left o. ((in_query_tests u.0 u.1.0 u.1.1 left).1 o).0)
  left_kept E ts f (inr (inr (inl (u, s, i)))) = subst KeepsLeft (sym i) (λ left o. ((in_list_tests u.0 u.1 left).1 o).0)
  left_kept E ts f (inr (inr (inr (inl (u, s, i))))) = subst KeepsLeft (sym i) (λ left o. ((between_tests u.0 u.1 left).1 o).0)
  left_kept E ts f (inr (inr (inr (inr (u, s, i))))) = subst KeepsLeft (sym i) (λ left o. ((like_tests u.0 u.1 left).1 o).0)

  as_rest : {V W : Type 0} (g : Left → Built Expr) → ((left : Left) → (AnExpr.always left.0 × V → AnExpr.always (g left)) × (AnExpr.once (g left) → AnExpr.once left.0 × W))
      → (V → (Good rest).always g) × ((Good rest).once g → W)
  as_rest g h = (λ f left l. (h left).0 (l, f), λ o. ((h o.0).1 o.1).1)

  module _ (most : ℕ) (below : (count number : ℕ) → number < count → literal count number) (few : (number : ℕ) → number ≤ suc m → entries number) where
    items_fit : (x : Built Listed) (w : List Further) → length w ≤ m → AListed.always x → Each AFurther.always w → AllFroms.always (items_of (x, w))
    items_fit x w l f g =
        let r = parted_fit w g in
        let together = fit_each (t.all_of (items_of (x, w))) (entries_fit x (parted w).0 f r.0, r.1) in
        let bound : (n : ℕ) → n ≡ suc (length w) → n ≤ suc m = λ n e. omega (arith, e, l) in
        record {
          keeps = together.keeps;
          holds = λ numbers count h.
              let ess = ((each (t.all_of (items_of (x, w)))).build numbers).0 in
              (few (length (t.concatenated ess)) (bound (length (t.concatenated ess)) (all_counted x w numbers)), each_together (entries_in (literal count) entries) ess (together.holds numbers count h));
        }

    items_few : (x : Built Listed) (w : List Further) → AllFroms.once (items_of (x, w)) → AListed.once x × ((length w ≤ m) × Each AFurther.once w)
    items_few x w o =
        let b = item_parts x (parted w).0 (parted w).1 (record { numbers = o.numbers; holds = o.holds.1 }) in
        (b.0, (omega (arith, all_counted x w o.numbers, o.holds.0), parted_few w b.1.0 b.1.1))

    -- ---- productions, from the names in them

    -- E reads with few entries and G with more; what G reads and has few, F reads
    module _ (E G F : Room → (p : Production) → Language Lexeme (Read p)) (has_name : (p : Production) (ts : List Lexeme) (v : Read p) → (E None p).spells ts v → (Good p).always v)
        (again_name : (p : Production) (ts : List Lexeme) (v : Read p) → (G None p).spells ts v → (Good p).once v → (F None p).spells ts v)
        (keeps : (ts : List Lexeme) (f : Left → Built Expr) → (G None rest).spells ts f → KeepsLeft f) where
      abbrev el : {A : Type 0} → The A → Language Lexeme A
      el f = form_language kind_of E None f

      abbrev gl : {A : Type 0} → The A → Language Lexeme A
      gl f = form_language kind_of G None f

      abbrev fl : {A : Type 0} → The A → Language Lexeme A
      fl f = form_language kind_of F None f

      -- of all that the form spells; and what its like, with more entries, spells with few, it spells
      record Tells {A : Type 0} (f f' : The A) (H : Sides A) : Type 0 where
        has : (ts : List Lexeme) (v : A) → (el f).spells ts v → H.always v
        again : (ts : List Lexeme) (v : A) → (gl f').spells ts v → H.once v → (fl f).spells ts v

      -- a form without names spells the same in all
      abbrev Same : {A : Type 0} → The A → The A → Type 0
      Same f f' = (ts : List Lexeme) (v : _) → (gl f').spells ts v → (fl f).spells ts v

      of : (p : Production) → Tells (ref p) (ref p) (Good p)
      of p = record { has = has_name p; again = again_name p }

      of_same : {A : Type 0} {f f' : The A} → Same f f' → Tells f f' anything
      of_same same = record { has = λ ts v s. tt; again = λ ts v s o. same ts v s }

      of_map : {A B : Type 0} {f f' : The A} {H : Sides A} {I : Sides B} (h : A → B) → Tells f f' H → Keeps H h I → Tells (map h f) (map h f') I
      of_map {H = H} {I = I} h all keep = record {
        has = λ ts v (u, s, i). subst (λ z. I.always z) (sym i) ((keep u).0 (all.has ts u s));
        again = λ ts v (u, s, i) o. (u, all.again ts u s ((keep u).1 (subst (λ z. I.once z) i o)), i);
      }

      of_both : {A B : Type 0} {f f' : The A} {g g' : The B} {H : Sides A} {I : Sides B} → Tells f f' H → Tells g g' I → Tells (seq f g) (seq f' g') (pair H I)
      of_both all others = record {
        has = λ ts v (x, y, e, s, r). (all.has x v.0 s, others.has y v.1 r);
        again = λ ts v (x, y, e, s, r) o. (x, y, e, all.again x v.0 s o.0, others.again y v.1 r o.1);
      }

      of_first : {A B : Type 0} {f f' : The A} {g g' : The B} {H : Sides A} → Tells f f' H → Same g g' → Tells (seq f g) (seq f' g') (first H)
      of_first all same = record { has = λ ts v (x, y, e, s, r). all.has x v.0 s; again = λ ts v (x, y, e, s, r) o. (x, y, e, all.again x v.0 s o, same y v.1 r) }

      of_second : {A B : Type 0} {f f' : The A} {g g' : The B} {I : Sides B} → Same f f' → Tells g g' I → Tells (seq f g) (seq f' g') (second I)
      of_second same others = record { has = λ ts v (x, y, e, s, r). others.has y v.1 r; again = λ ts v (x, y, e, s, r) o. (x, y, e, same x v.0 s, others.again y v.1 r o) }

      of_either : {A : Type 0} {f f' g g' : The A} {H : Sides A} → Tells f f' H → Tells g g' H → Tells (alt f g) (alt f' g') H
      of_either all others = record {
        has = λ ts v s. elim s [ inl r ↦ all.has ts v r | inr r ↦ others.has ts v r ];
        again = λ ts v s o. elim s [ inl r ↦ inl (all.again ts v r o) | inr r ↦ inr (others.again ts v r o) ];
      }

      of_each : {A : Type 0} {most : Option ℕ} {f f' : The A} {H : Sides A} → Tells f f' H → Tells (star most f) (star most f') (all H)
      of_each one = record { has = λ ts v s. each_of one.has v ts s; again = λ ts v s o. spelled_anew one.again v ts s o }

      of_nest : {A : Type 0} {f f' : The A} {H : Sides A} → Tells f f' H → Tells (nest f) (nest f') H
      of_nest all = record { has = λ ts v s. all.has ts v s; again = λ ts v s o. all.again ts v s o }

      of_only : {A : Type 0} {p : A → Bool} {f f' : The A} {H : Sides A} → Tells f f' H → Tells (only p f) (only p f') H
      of_only all = record { has = λ ts v s. all.has ts v s.0; again = λ ts v s o. (all.again ts v s.0 o, s.1) }

      of_optional : {A : Type 0} {f f' : The A} {H : Sides A} → Tells f f' H → Tells (optional f) (optional f') (if_there H)
      of_optional all = of_either (of_map (λ v. Some v) all (λ v. (λ h. h, λ h. h))) (of_map (λ v. None) (of_same (λ ts v s. s)) (λ v. (λ h. tt, λ h. tt)))

      -- behind a token
      behind : {A B : Type 0} {f f' : The A} {g g' : The B} {I : Sides B} → Same f f' → Tells g g' I → Tells (skip_then f g) (skip_then f' g') I
      behind same others = of_map (λ v. v.1) (of_second same others) (λ v. (λ h. h, λ h. h))

      before_close : {A : Type 0} {f f' : The A} {H : Sides A} → Tells f f' H → Tells (then_skip f (grammar.a k.Close)) (then_skip f' (grammar.a k.Close)) H
      before_close all = of_map (λ v. v.0) (of_first all (λ ts v s. s)) (λ v. (λ h. h, λ h. h))

      in_parens : {A : Type 0} {f f' : The A} {H : Sides A} → Tells f f' H → Tells (parens f) (parens f') H
      in_parens all = of_map (λ v. v.1) (of_nest (of_second (λ ts v s. s) (before_close all))) (λ v. (λ h. h, λ h. h))

      in_list : {A : Type 0} {f f' : The A} {H : Sides A} → Tells f f' H → Tells (listed f) (listed f') (pair H (all H))
      in_list one = of_both one (of_each (behind (λ ts v s. s) one))

      -- ---- FROM

      join_tells : Tells (alt grammar.join_on grammar.cross_join) (alt grammar.join_on grammar.cross_join) AnEntry
      join_tells =
          of_either
          (of_map (λ p. t.joined_on p.0 p.1) (behind (λ ts v s. s) (of_both (of entry) (behind (λ ts v s. s) (of expr))))
          (both_keep sources exprs entries_in (λ z. t.entry_of true (Some z.1) z.0) (λ l e z. trees.entry_has l e true (Some z.1) z.0)))
          (of_map t.cross_joined (behind (λ ts v s. s) (of entry))
          (mapped_keeps sources entries_in (t.entry_of true None) (λ l e z. let n = trees.entry_has l e true None z in (λ g. n.0 (g, tt), λ g. (n.1 g).0))))

      next_tells : Tells next_entry next_entry AFurther
      next_tells =
          of_either (of_map (λ listed. inl listed) (behind (λ ts v s. s) (of entry)) (λ v. (λ f. f, λ f. f))) (of_map (λ joined. inr joined) join_tells (λ v. (λ f. f, λ f. f)))

      further_has : (most : ℕ) (ts : List Lexeme) (w : List Further) → (el (further_entries most)).spells ts w → (length w ≤ most) × Each AFurther.always w
      further_has zero ts w (inl (u, e, i)) = subst (λ z. (length z ≤ zero) × Each AFurther.always z) (sym i) (omega arith, tt)
      further_has zero ts w (inr (u, (s, n), i)) = cc
      further_has (suc most) ts w (inl (u, e, i)) = subst (λ z. (length z ≤ suc most) × Each AFurther.always z) (sym i) (omega arith, tt)
      further_has (suc most) ts w (inr (u, (x, y, e, s, r), i)) =
          let f = further_has most y u.1 r in subst (λ z. (length z ≤ suc most) × Each AFurther.always z) (sym i) (omega (arith, f.0), (next_tells.has x u.0 s, f.1))

      no_further : (most : ℕ) (ts : List Lexeme) (w : List Further) → ts ≡ [] → w ≡ [] → (fl (further_entries most)).spells ts w
      no_further zero ts w e i = inl (tt, e, i)
      no_further (suc most) ts w e i = inl (tt, e, i)

      further_again : (most fewer : ℕ) (ts : List Lexeme) (w : List Further) → (gl (further_entries most)).spells ts w → length w ≤ fewer → Each AFurther.once w → (fl (further_entries fewer)).spells ts w
      further_again zero fewer ts w (inl (u, e, i)) l f = no_further fewer ts w e i
      further_again zero fewer ts w (inr (u, (s, n), i)) l f = cc
      further_again (suc most) fewer ts w (inl (u, e, i)) l f = no_further fewer ts w e i
      further_again (suc most) zero ts w (inr (u, (x, y, e, s, r), i)) l f = absurd (none (subst (λ z. length z ≤ zero) i l))
        where
          none : length (u.0 ∷ u.1) ≤ zero → ⊥
          none n = omega (arith, n)
      further_again (suc most) (suc fewer) ts w (inr (u, (x, y, e, s, r), i)) l f =
          let g = subst (Each AFurther.once) i f in
          let n : length (u.0 ∷ u.1) ≤ suc fewer = subst (λ z. length z ≤ suc fewer) i l in
          inr (u, (x, y, e, next_tells.again x u.0 s g.0, further_again most fewer y u.1 r (omega (arith, n)) g.1), i)

      froms_tell : Tells (few_froms m) (few_froms most) AllFroms
      froms_tell = record {
        has = λ ts v (u, (x, y, e, s, r), i). let f = further_has m y u.1 r in subst (λ z. AllFroms.always z) (sym i) (items_fit u.0 u.1 f.0 (has_name entry x u.0 s) f.1);
        again = λ ts v (u, (x, y, e, s, r), i) o. let b = items_few u.0 u.1 (subst (λ z. AllFroms.once z) i o) in (u, (x, y, e, again_name entry x u.0 s b.0, further_again most m y u.1 r b.1.0 b.1.1), i);
      }

      -- ---- queries

      group_tells : Tells grammar.group_by grammar.group_by Groups
      group_tells =
          of_either (of_map (λ v. Some v) (behind (λ ts v s. s) (in_list (of reference))) (λ v. (λ f. f, λ o. (tt, units v.1)))) (of_map (λ v. None) (of_same (λ ts v s. s)) (λ v. (λ f. tt, λ o. tt)))

      block_tells : Tells (few_rules m block) (few_rules most block) AQuery
      block_tells =
          of_map block_from
          (behind (λ ts v s. s) (of_second (λ ts v s. s) (of_both (in_list (of item)) (of_both (behind (λ ts v s. s) froms_tell)
          (of_both (of_optional (behind (λ ts v s. s) (of expr))) (of_both group_tells (of_optional (behind (λ ts v s. s) (of expr)))))))))
          block_keeps

      sets_tell : {p : The (Built Query)} {word : The SetWord} → Same word word → Tells p p AQuery
          → Tells (map (λ v. t.sets v.0 v.1) (seq p (star (Some most_operators) (seq word p)))) (map (λ v. t.sets v.0 v.1) (seq p (star (Some most_operators) (seq word p)))) AQuery
      sets_tell same one = of_map (λ v. t.sets v.0 v.1) (of_both one (of_each (of_second same one))) (λ v. sets_keep v.1 v.0)

      item_tells : Tells (few_rules m item) (few_rules m item) AnItem
      unfolding everything Everywhere
      item_tells =
          of_either (of_map t.star_item (of_same (λ ts v s. s)) (λ u. (λ f. fit_plain (item_tree.Star u.start) (λ count. tt), λ o. tt)))
          (of_either (of_map t.alias_star_item (of_same (λ ts v s. s)) (λ u. (λ f. fit_plain (item_tree.AliasStar (name_of u) u.start) (λ count. tt), λ o. tt)))
          (of_map (λ p. t.value_item p.0 p.1) (of_first (of expr) (λ ts v s. s)) (λ p. mapped_keeps exprs items (λ z. item_tree.Value z (t.name_of_alias p.1)) (λ l e z. (λ g. g, λ g. g)) p.0)))

      table_has : (table : Lexeme) (alias : Option Lexeme) → AListed.always (t.table_entry table alias)
      unfolding everything Everywhere
      table_has table None = fit_plain (t.listed_table table table) (λ count. tt)
      table_has table (Some alias) = fit_plain (t.listed_table table alias) (λ count. tt)

      entry_tells : Tells (few_rules m entry) (few_rules m entry) AListed
      unfolding everything Everywhere
      entry_tells =
          of_either (of_map (λ p. t.table_entry p.0 p.1) (of_same (λ ts v s. s)) (λ p. (λ f. table_has p.0 p.1, λ o. tt)))
          (of_map (λ p. t.query_entry p.0 p.1) (of_first (in_parens (of query)) (λ ts v s. s)) (λ p. mapped_keeps queries sources (t.listed_query p.1) (λ l e z. (λ g. g, λ g. g)) p.0))

      -- ---- expressions

      chain_tells : {p : The (Built Expr)} {word : The Lexeme} (node : List Expr → ℕ → Expr) → HoldsOf node → Same word word → Tells p p AnExpr
          → Tells (map (t.chained node) (seq p (star (Some most_separators) (skip_then word p)))) (map (t.chained node) (seq p (star (Some most_separators) (skip_then word p)))) AnExpr
      chain_tells node g same one = of_map (t.chained node) (of_both one (of_each (behind same one))) (chained_keeps node g)

      operators_tell : {p : The (Built Expr)} {sign : The Lexeme} → Same sign sign → Tells p p AnExpr
          → Tells (map (λ v. t.operated v.0 v.1) (seq p (star (Some most_operators) (seq sign p)))) (map (λ v. t.operated v.0 v.1) (seq p (star (Some most_operators) (seq sign p)))) AnExpr
      operators_tell same one = of_map (λ v. t.operated v.0 v.1) (of_both one (of_each (of_second same one))) (λ v. operated_keeps v.1 v.0)

      neg_tells : Tells (few_rules m neg) (few_rules m neg) AnExpr
      unfolding everything Everywhere
      neg_tells =
          of_either (of_map t.not_of (of_nest (of_second (λ ts v s. s) (of neg))) (λ p. mapped_keeps exprs exprs (λ z. expr_tree.Not z p.0.start) (λ l e z. (λ g. g, λ g. g)) p.1)) (of test)

      exists_tells : Tells grammar.exists grammar.exists AnExpr
      unfolding everything Everywhere
      exists_tells = of_map t.exists (of_second (λ ts v s. s) (in_parens (of query))) (λ p. mapped_keeps queries exprs (λ z. expr_tree.Exists z p.0.start) (λ l e z. (λ g. g, λ g. g)) p.1)

      abbrev tested : The (Built Expr)
      tested = map (λ p. t.tested p.0 p.1) (seq (counted (ref value)) (optional (ref rest)))

      test_tells : Tells (few_rules m test) (few_rules m test) AnExpr
      test_tells = of_either exists_tells (record { has = has; again = again })
        where
          has : (ts : List Lexeme) (v : Built Expr) → (el tested).spells ts v → AnExpr.always v
          has ts v (u, (x, y, e, (s, n), inl (h, q, l)), i) = subst (λ z. AnExpr.always z) (sym (i ∙ ap (t.tested u.0) l)) (has_name rest y h q u.0 (has_name value x u.0.0 s))
          has ts v (u, (x, y, e, (s, n), inr (h, q, l)), i) = subst (λ z. AnExpr.always z) (sym (i ∙ ap (t.tested u.0) l)) (has_name value x u.0.0 s)

          again : (ts : List Lexeme) (v : Built Expr) → (gl tested).spells ts v → AnExpr.once v → (fl tested).spells ts v
          again ts v (u, (x, y, e, (s, n), inl (h, q, l)), i) f =
              let b : AnExpr.once (h u.0) = subst (λ z. AnExpr.once z) (i ∙ ap (t.tested u.0) l) f in (u, (x, y, e, (again_name value x u.0.0 s (keeps y h q u.0 b), n), inl (h, again_name rest y h q (u.0, b), l)), i)
          again ts v (u, (x, y, e, (s, n), inr (h, q, l)), i) f =
              let b : AnExpr.once u.0.0 = subst (λ z. AnExpr.once z) (i ∙ ap (t.tested u.0) l) f in (u, (x, y, e, (again_name value x u.0.0 s b, n), inr (h, q, l)), i)

      rest_tells : Tells (few_rules m rest) (few_rules m rest) (Good rest)
      rest_tells =
          of_either (of_map (λ p left. t.comparison p.0 p.1 left) (of_second (λ ts v s. s) (of value)) (λ p. as_rest (t.comparison p.0 p.1) (comparison_tests p.0 p.1)))
          (of_either (of_map (λ p left. t.in_query p.0 p.1.0 p.1.1 left) (of_second (λ ts v s. s) (of_second (λ ts v s. s) (in_parens (of query)))) (λ p. as_rest (t.in_query p.0 p.1.0 p.1.1) (in_query_tests p.0 p.1.0 p.1.1)))
          (of_either (of_map (λ p left. t.in_list p.0 p.1 left) (of_second (λ ts v s. s) (behind (λ ts v s. s) (in_parens (of_only (in_list (of expr)))))) (λ p. as_rest (t.in_list p.0 p.1) (in_list_tests p.0 p.1)))
          (of_either (of_map (λ p left. t.between p.0 p.1.0 p.1.1 left) (of_second (λ ts v s. s) (behind (λ ts v s. s) (of_both (of value) (behind (λ ts v s. s) (of value)))))
          (λ p. as_rest (t.between p.0 p.1.0 p.1.1) (between_tests p.0 p.1)))
          (of_map (λ p left. t.like p.0 p.1 left) (of_second (λ ts v s. s) (behind (λ ts v s. s) (of value))) (λ p. as_rest (t.like p.0 p.1) (like_tests p.0 p.1))))))

      unary_tells : Tells (few_rules m unary) (few_rules m unary) AnExpr
      unfolding everything Everywhere
      unary_tells =
          of_either (of_map t.minus (of_nest (of_second (λ ts v s. s) (of unary))) (λ p. mapped_keeps exprs exprs (λ z. expr_tree.Fun 4 (z ∷ []) p.0.start) (λ l e z. (λ g. (g, tt), λ g. g.0)) p.1)) (of primary)

      literal_has : (at : ℕ) (l : Lit) → AnExpr.always (t.literal_at at l)
      unfolding everything Everywhere
      literal_has at l = fit_mapped (λ number. expr_tree.Lit number at) below (literal_below l)

      sub_tells : Tells grammar.subquery grammar.subquery AnExpr
      unfolding everything Everywhere
      sub_tells = of_map t.sub (of_nest (of_second (λ ts v s. s) (before_close (of query)))) (λ p. mapped_keeps queries exprs (λ z. expr_tree.Sub z p.0.start) (λ l e z. (λ g. g, λ g. g)) p.1)

      primary_tells : Tells (few_rules m primary) (few_rules m primary) AnExpr
      primary_tells =
          of_either (of_map t.number_literal (of_same (λ ts v s. s)) (λ u. (λ f. literal_has u.start (t.number_of u), λ o. tt)))
          (of_either (of_map t.text_literal (of_same (λ ts v s. s)) (λ u. (λ f. literal_has u.start (t.text_of u), λ o. tt)))
          (of_either (of_map (λ x. plain x) (of reference) (λ x. (λ f. fit_plain x f, λ o. tt)))
          (of_either (of agg)
          (of_either (of_map (λ p. t.call p.0 p.1) (of_second (λ ts v s. s) (in_parens (of_optional (in_list (of expr))))) (λ p. call_keeps p.0 p.1)) (of_either (in_parens (of_only (of expr))) sub_tells)))))

      agg_tells : Tells (few_rules m agg) (few_rules m agg) AnExpr
      unfolding everything Everywhere
      agg_tells =
          of_either (of_map (λ p. t.count_rows p.0) (of_same (λ ts v s. s)) (λ p. (λ f. fit_plain (expr_tree.Agg tree.Count false None p.0.start) (λ count. tt), λ o. tt)))
          (of_map (λ p. t.aggregated p.0 p.1.0 p.1.1) (of_second (λ ts v s. s) (in_parens (of_second (λ ts v s. s) (of expr))))
          (λ p. mapped_keeps exprs exprs (λ z. expr_tree.Agg (t.aggregate (kind_of p.0)) (t.is_given p.1.0) (Some z) p.0.start) (λ l e z. (λ g. g, λ g. g)) p.1.1))

      own : (p : Production) → Tells (few_rules m p) (few_rules most p) (Good p)
      own query = sets_tell (λ ts v s. s) (of part)
      own part = sets_tell (λ ts v s. s) (of operand)
      own operand = of_either (of block) (in_parens (of query))
      own block = block_tells
      own item = item_tells
      own entry = entry_tells
      own reference = of_map t.column (of_same (λ ts v s. s)) (λ u. (λ f count. trees.column_has (literal count) entries u, λ o. tt))
      own expr = chain_tells t.or_node or_holds (λ ts v s. s) (of conj)
      own conj = chain_tells t.and_node and_holds (λ ts v s. s) (of neg)
      own neg = neg_tells
      own test = test_tells
      own rest = rest_tells
      own value = operators_tell (λ ts v s. s) (of term)
      own term = operators_tell (λ ts v s. s) (of unary)
      own unary = unary_tells
      own primary = primary_tells
      own agg = agg_tells
      own other = record { has = λ ts v s. tt; again = λ ts v s o. absurd o }

    keeps_at : (height : ℕ) (ts : List Lexeme) (f : Left → Built Expr) → (language_within kind_of (few_rules most) height None rest).spells ts f → KeepsLeft f
    keeps_at zero ts f s = absurd s
    keeps_at (suc height) ts f s = left_kept (language_within kind_of (few_rules most) height) ts f s

    record AtHeight (height : ℕ) : Type 0 where
      has : (p : Production) (ts : List Lexeme) (v : Read p) → (language_within kind_of (few_rules m) height None p).spells ts v → (Good p).always v
      again : (p : Production) (ts : List Lexeme) (v : Read p) → (language_within kind_of (few_rules most) height None p).spells ts v → (Good p).once v → (language kind_of (few_rules m) None p).spells ts v

    at_height : (height : ℕ) → AtHeight height
    at_height zero = record { has = λ p ts v s. absurd s; again = λ p ts v s o. absurd s }
    at_height (suc height) =
        let n = at_height height in
        let all = own (language_within kind_of (few_rules m) height) (language_within kind_of (few_rules most) height) (language kind_of (few_rules m)) n.has n.again (keeps_at height) in
        record { has = λ p. (all p).has; again = λ p ts v s o. (from_rule kind_of (few_rules m) None p).spells ts v ((all p).again ts v s o) }

pub everywhere : (literal : ℕ → ℕ → Type 0) (entries : ℕ → Type 0) (m : ℕ) → ((count number : ℕ) → number < count → literal count number) → ((number : ℕ) → number ≤ suc m → entries number)
    → (ts : List Lexeme) (read : Built Query) → (language kind_of (few_rules m) None query).spells ts read → Fits (λ count. Everywhere (literal count) entries) read
everywhere literal entries m below few ts read s =
    let q = spelled_at kind_of (few_rules m) None query ts read s in (at_height literal entries m m below few q.0).has query ts read q.1

-- what has few entries behind some numbers, and is spelled with more
pub spelled_with_few : (m most : ℕ) (ts : List Lexeme) (read : Built Query) → Once (Everywhere Anything (λ count. count ≤ suc m)) read → (language kind_of (few_rules most) None query).spells ts read
    → (language kind_of (few_rules m) None query).spells ts read
spelled_with_few m most ts read o s =
    let q = spelled_at kind_of (few_rules most) None query ts read s in
    (at_height (λ count. Anything) (λ count. count ≤ suc m) m most (λ count number l. tt) (λ count l. l) q.0).again query ts read q.1 o
