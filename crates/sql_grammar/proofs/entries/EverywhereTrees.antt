-- What holds everywhere in a tree holds in its parts, and back.
use Rattle.std.proofs.Common.{◌≡◌, ℕ, suc, Bool, List, [], ◌∷◌, length, Option, Some, None, refl, sym, ap, subst, ◌∙◌}
use Rattle.data_model.specs.Lists.{Each}
use Rattle.sql_lex.specs.Lexemes.{Lexeme}
use Rattle.sql_model.specs.declared.tree.Expr.{Expr}
use Rattle.sql_model.specs.declared.tree.Expr.TheVariants as expr
use Rattle.sql_model.specs.declared.tree.Expr.TheBlock as node
use Rattle.sql_model.specs.declared.tree.Item.{Item}
use Rattle.sql_model.specs.declared.tree.Source.{Source}
use Rattle.sql_model.specs.declared.tree.Entry.{Entry, out-Entry, roll-Entry, roll-out-Entry}
use Rattle.sql_model.specs.Compute.{everything}
use Rattle.sql_model.specs.Everywhere as every
use Rattle.sql_model.specs.Everywhere.{entry_count}
use Rattle.sql_model.specs.Syntax as n
use Rattle.sql_grammar.specs.Kinds as k
use Rattle.sql_grammar.specs.Kinds.{Kind}
use Rattle.sql_grammar.specs.QueryTrees as t
use Rattle.sql_grammar.specs.QueryTrees.{Listed}

-- ---- lists, as trees have them in a row

abbrev pub row_of : (exprs : List Expr) → n.Exprs (n.long (node.shape-the_row-Expr-0 exprs))
row_of exprs = node.hidden-the_row-Expr-0 exprs

abbrev items_row : (items : List Item) → n.Items (n.long (node.shape-the_row-Item-6 items))
items_row items = node.hidden-the_row-Item-6 items

abbrev entries_row : (entries : List Entry) → n.Entries (n.long (node.shape-the_row-Entry-7 entries))
entries_row entries = node.hidden-the_row-Entry-7 entries

-- P holds of it, where it is there
abbrev pub Perhaps : {X : Type 0} → (X → Type 0) → Option X → Type 0
Perhaps P None = Unit {0}
Perhaps P (Some x) = P x

-- each follows from the other
abbrev pub Iff : Type 0 → Type 0 → Type 0
Iff A B = (A → B) × (B → A)

-- `compared` swaps its sides or not, and makes an equality, its negation or one of two comparisons
pub compared_any : (C : Expr → Type 0) (kind : Kind) (x y : Expr) → C (expr.Eq x y (t.place_of x)) → C (expr.Not (expr.Eq x y (t.place_of x)) (t.place_of x))
    → ((symbol : ℕ) → C (expr.Pred symbol (x ∷ y ∷ []) (t.place_of x))) → ((symbol : ℕ) → C (expr.Pred symbol (y ∷ x ∷ []) (t.place_of x))) → C (t.compared kind x y)
compared_any C k.Equals x y equal differs straight swapped = equal
compared_any C k.Differs x y equal differs straight swapped = differs
compared_any C k.Less x y equal differs straight swapped = straight 0
compared_any C k.AtMost x y equal differs straight swapped = straight 1
compared_any C k.Greater x y equal differs straight swapped = swapped 0
compared_any C other x y equal differs straight swapped = swapped 1

module _ (literal entries : ℕ → Type 0) where
  abbrev pub OfExpr : Expr → Type 0
  OfExpr x = every.InExpr literal entries x

  abbrev pub OfItem : Item → Type 0
  OfItem x = every.InItem literal entries x

  abbrev pub OfSource : Source → Type 0
  OfSource x = every.InSource literal entries x

  abbrev pub OfEntry : Entry → Type 0
  OfEntry e = every.InEntries literal entries (entries_row (e ∷ []))

  pub row_has : (xs : List Expr) → Iff (Each OfExpr xs) (every.InExprs literal entries (row_of xs))
  unfolding everything every.Everywhere
  row_has [] = (λ f. tt, λ f. tt)
  row_has (x ∷ xs) = let r = row_has xs in (λ f. (f.0, r.0 f.1), λ f. (f.0, r.1 f.1))

  items_have : (xs : List Item) → Iff (Each OfItem xs) (every.InItems literal entries (items_row xs))
  unfolding everything every.Everywhere
  items_have [] = (λ f. tt, λ f. tt)
  items_have (x ∷ xs) = let r = items_have xs in (λ f. (f.0, r.0 f.1), λ f. (f.0, r.1 f.1))

  -- ---- entries

  -- an entry before others
  abbrev Before : List Entry → Entry → Type 0
  Before es e = Iff (OfEntry e × every.InEntries literal entries (entries_row es)) (every.InEntries literal entries (entries_row (e ∷ es))) × (entry_count (entries_row (e ∷ es)) ≡ suc (entry_count (entries_row es)))

  before_rolled : (s : Source) (alias : n.Name) (at : ℕ) (joined : Bool) (on : Option Expr) (es : List Entry) → Before es (roll-Entry (record { source = s; alias = alias; at = at; joined = joined; on = on }))
  unfolding everything every.Everywhere
  before_rolled s alias at joined None es = ((λ f. (f.0.0, f.0.1, f.1), λ f. ((f.0, f.1, tt), f.2)), refl)
  before_rolled s alias at joined (Some x) es = ((λ f. (f.0.0, f.0.1, f.1), λ f. ((f.0, f.1, tt), f.2)), refl)

  before_has : (e : Entry) (es : List Entry) → Before es e
  before_has e es = let E = out-Entry e in subst (Before es) (roll-out-Entry e) (before_rolled E.source E.alias E.at E.joined E.on es)

  entries_have : (es : List Entry) → Iff (Each OfEntry es) (every.InEntries literal entries (entries_row es))
  unfolding everything every.Everywhere
  entries_have [] = (λ f. tt, λ f. tt)
  entries_have (e ∷ es) =
      let b = (before_has e es).0 in
      let r = entries_have es in
      (λ f. b.0 (f.0, r.0 f.1), λ f. ((b.1 f).0, r.1 (b.1 f).1))

  entries_counted : (es : List Entry) → length es ≡ entry_count (entries_row es)
  unfolding everything every.Everywhere
  entries_counted [] = refl
  entries_counted (e ∷ es) = ap suc (entries_counted es) ∙ sym (before_has e es).1

  pub entry_has : (joined : Bool) (on : Option Expr) (listed : Listed) → Iff (OfSource listed.source × Perhaps OfExpr on) (OfEntry (t.entry_of joined on listed))
  unfolding everything every.Everywhere
  entry_has joined None listed = (λ f. (f.0, tt, tt), λ f. (f.0, tt))
  entry_has joined (Some x) listed = (λ f. (f.0, f.1, tt), λ f. (f.0, f.1))

  -- ---- blocks

  -- what the parts of a block have; the columns of GROUP BY have no literals and no blocks
  pub record BlockHas (items : List Item) (es : List Entry) (c h : Option Expr) : Type 0 where
    pub items_have : Each OfItem items
    pub count : entries (length es)
    pub entries_have : Each OfEntry es
    pub cond : Perhaps OfExpr c
    pub having : Perhaps OfExpr h

  module _ (d : Bool) (items : List Item) (es : List Entry) where
    module _ {c h : Option Expr} (b : BlockHas items es c h) where
      e : every.InEntries literal entries (entries_row es)
      e = (entries_have es).0 b.entries_have

      i : every.InItems literal entries (items_row items)
      i = (items_have items).0 b.items_have

      l : entries (entry_count (entries_row es))
      l = subst entries (entries_counted es) b.count

    pub block_has : (c : Option Expr) (g : Option (List Expr)) (h : Option Expr) → BlockHas items es c h → Perhaps (Each OfExpr) g → every.Everywhere literal entries (t.block_node d items es c g h)
    unfolding everything every.Everywhere
    block_has None None None b g = (e b, tt, tt, i b, tt, l b)
    block_has None None (Some z) b g = (e b, tt, tt, i b, b.having, l b)
    block_has None (Some y) None b g = (e b, tt, (row_has y).0 g, i b, tt, l b)
    block_has None (Some y) (Some z) b g = (e b, tt, (row_has y).0 g, i b, b.having, l b)
    block_has (Some x) None None b g = (e b, b.cond, tt, i b, tt, l b)
    block_has (Some x) None (Some z) b g = (e b, b.cond, tt, i b, b.having, l b)
    block_has (Some x) (Some y) None b g = (e b, b.cond, (row_has y).0 g, i b, tt, l b)
    block_has (Some x) (Some y) (Some z) b g = (e b, b.cond, (row_has y).0 g, i b, b.having, l b)

    parts_have : {c h : Option Expr} → every.InEntries literal entries (entries_row es) → Perhaps OfExpr c → every.InItems literal entries (items_row items) → Perhaps OfExpr h → entries (entry_count (entries_row es))
        → BlockHas items es c h
    parts_have e c i h l =
        record { items_have = (items_have items).1 i; count = subst entries (sym (entries_counted es)) l; entries_have = (entries_have es).1 e; cond = c; having = h }

    pub block_back : (c : Option Expr) (g : Option (List Expr)) (h : Option Expr) → every.Everywhere literal entries (t.block_node d items es c g h) → BlockHas items es c h
    unfolding everything every.Everywhere
    block_back None None None f = parts_have f.0 tt f.3 tt f.5
    block_back None None (Some z) f = parts_have f.0 tt f.3 f.4 f.5
    block_back None (Some y) None f = parts_have f.0 tt f.3 tt f.5
    block_back None (Some y) (Some z) f = parts_have f.0 tt f.3 f.4 f.5
    block_back (Some x) None None f = parts_have f.0 f.1 f.3 tt f.5
    block_back (Some x) None (Some z) f = parts_have f.0 f.1 f.3 f.4 f.5
    block_back (Some x) (Some y) None f = parts_have f.0 f.1 f.3 tt f.5
    block_back (Some x) (Some y) (Some z) f = parts_have f.0 f.1 f.3 f.4 f.5

  -- ---- expressions

  pub column_has : (p : Option Lexeme × Lexeme) → OfExpr (t.column p)
  unfolding everything every.Everywhere
  column_has (None, name) = tt
  column_has (Some qual, name) = tt

  pub negated_has : (word : Option Lexeme) (x : Expr) → Iff (OfExpr x) (OfExpr (t.negated word x))
  unfolding everything every.Everywhere
  negated_has None x = (λ f. f, λ f. f)
  negated_has (Some word) x = (λ f. f, λ f. f)

  equals_have : (x : Expr) (ys : List Expr) → (OfExpr x → Each OfExpr ys → Each OfExpr (t.equals_each x ys)) × (Each OfExpr (t.equals_each x ys) → Each OfExpr ys)
  unfolding everything every.Everywhere
  equals_have x [] = (λ f g. tt, λ f. tt)
  equals_have x (y ∷ ys) = let r = equals_have x ys in (λ f g. ((f, g.0), r.0 f g.1), λ f. (f.0.1, r.1 f.1))

  pub member_has : (x y : Expr) (ys : List Expr) → Iff (OfExpr x × (OfExpr y × Each OfExpr ys)) (OfExpr (t.member x y ys))
  unfolding everything every.Everywhere
  member_has x y [] = (λ f. (f.0, f.1.0), λ f. (f.0, (f.1, tt)))
  member_has x y (z ∷ zs) =
      let row = row_has (t.equals_each x (y ∷ z ∷ zs)) in
      let each = equals_have x (y ∷ z ∷ zs) in
      (λ f. row.0 (each.0 f.0 f.1), λ f. ((row.1 f).0.0, each.1 (row.1 f)))

  pub bounds_have : (x low high : Expr) → Iff (OfExpr x × (OfExpr low × OfExpr high)) (OfExpr (t.bounds x low high))
  unfolding everything every.Everywhere
  bounds_have x low high = (λ f. ((f.1.0, (f.0, tt)), ((f.0, (f.1.1, tt)), tt)), λ f. (f.0.1.0, (f.0.0, f.1.0.1.0)))

  pub compared_has : (kind : Kind) (x y : Expr) → Iff (OfExpr x × OfExpr y) (OfExpr (t.compared kind x y))
  unfolding everything every.Everywhere
  compared_has kind x y =
      compared_any (λ z. Iff (OfExpr x × OfExpr y) (OfExpr z)) kind x y (λ f. f, λ f. f) (λ f. f, λ f. f)
      (λ symbol. (λ f. (f.0, (f.1, tt)), λ f. (f.0, f.1.0))) (λ symbol. (λ f. (f.1, (f.0, tt)), λ f. (f.1.0, f.0)))
