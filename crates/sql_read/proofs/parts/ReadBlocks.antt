-- Blocks, from what is read of their clauses.
use Rattle.std.proofs.Common.{◌≡◌, Bool, List, Option, Some, None, sym, ◌∙◌, ap, arith}
use Rattle.grammar.specs.Form.{seq, ref}
use Rattle.grammar.specs.Productions.{optional, skip_then}
use Rattle.sql_lex.specs.declared.token.Token.{Token}
use Rattle.sql_lex.specs.Lexemes.{Lexeme}
use Rattle.sql_model.specs.declared.tree.Expr.{Expr}
use Rattle.sql_model.specs.declared.tree.Item.{Item}
use Rattle.sql_model.specs.declared.tree.Entry.{Entry}
use Rattle.sql_cursor.specs.Cursor.{Cursor}
use Rattle.sql_cursor.specs.Eating.{Eats, Extends}
use Rattle.sql_grammar.specs.declared.kinds.Kind.TheVariants as k
use Rattle.sql_grammar.specs.declared.kinds.Kind.{Kind}
use Rattle.sql_grammar.specs.Numbering.{Built, Numbers, each, perhaps, plain}
use Rattle.sql_grammar.specs.QueryGrammar as grammar
use Rattle.sql_grammar.specs.QueryEntries.{few_froms, most_further}
use Rattle.sql_grammar.specs.QueryGrammar.{The, Froms, group_by, listed}
use Rattle.sql_grammar.specs.FactoredQueries.{of_factored}
use Rattle.sql_grammar.specs.QueryTrees.{all_entries, all_of, block_node, block_of, columns_of, is_given}
use Rattle.sql_read.specs.Reads.{Builds}
use Rattle.sql_grammar.proofs.entries.FewFactored.{list_left_factored}
use Rattle.sql_grammar.proofs.queries.QueryWords.{Below}
use Rattle.grammar.proofs.factorings.Alike.{below_map, below_seq, itself}
use Rattle.sql_cursor.proofs.code.Extending.{extends_passes, extends_stays}
use Rattle.sql_read.proofs.steps.ReadPassing.{Alike}

-- ---- a token that may be left out

pub extends_eats : (p : Kind → Bool) (a b : Cursor) (found : Option Token) → Eats p a found b → Extends a b
extends_eats p a b None q = extends_stays q
extends_eats p a b (Some t) q = extends_passes q

-- ---- the clauses of a block

abbrev pub having_clause : The (Option (Built Expr))
having_clause = optional (skip_then (grammar.a k.Having) (ref grammar.expr))

abbrev pub after_where : The (Option (Expr × List Expr) × Option (Built Expr))
after_where = seq group_by having_clause

abbrev pub after_from : The (Option (Built Expr) × (Option (Expr × List Expr) × Option (Built Expr)))
after_from = seq (optional (skip_then (grammar.a k.Where) (ref grammar.expr))) after_where

-- all items of FROM, and few entries in them
abbrev pub any_froms : The Froms
any_froms = listed (ref grammar.from)

abbrev pub fewer_froms : The Froms
fewer_froms = few_froms most_further

abbrev pub from_clause : The Froms → The Froms
from_clause froms = skip_then (grammar.a k.From) froms

abbrev pub after_items : The Froms → The (Froms × (Option (Built Expr) × (Option (Expr × List Expr) × Option (Built Expr))))
after_items froms = seq (from_clause froms) after_from

abbrev pub Items : Type 0
Items = Built Item × List (Built Item)

abbrev pub after_distinct : The Froms → The (Items × (Froms × (Option (Built Expr) × (Option (Expr × List Expr) × Option (Built Expr)))))
after_distinct froms = seq (listed (ref grammar.item)) (after_items froms)

-- where the entries are few

pub froms_below : Below of_factored (few_froms most_further) (listed (ref grammar.from))
froms_below = list_left_factored most_further (omega arith)

pub clause_below : Below of_factored (from_clause fewer_froms) (from_clause any_froms)
clause_below = below_map (λ p. p.1) (below_seq (itself (grammar.a k.From)) froms_below)

pub items_below : Below of_factored (after_items fewer_froms) (after_items any_froms)
items_below = below_seq clause_below (itself after_from)

pub distinct_below : Below of_factored (after_distinct fewer_froms) (after_distinct any_froms)
distinct_below = below_seq (itself (listed (ref grammar.item))) items_below

pub optional_below : Below of_factored (seq (optional (grammar.a k.Distinct)) (after_distinct fewer_froms)) (seq (optional (grammar.a k.Distinct)) (after_distinct any_froms))
optional_below = below_seq (itself (optional (grammar.a k.Distinct))) distinct_below

-- ---- what is built

module _ (distinct : Option Lexeme) (items : Items) (froms : Froms) (cond : Option (Built Expr)) (groups : Option (Expr × List Expr)) (having : Option (Built Expr))
    {is : List Item} {es : List Entry} {wc : Option Expr} {gs : Option (List Expr)} {hv : Option Expr} where
  pub block_built : {a b c d e : Cursor} → Builds (each (all_of items)) a is b → Builds (all_entries froms) b es c → Builds (perhaps cond) c wc d → gs ≡ columns_of groups
      → Builds (perhaps having) d hv e → Builds (block_of distinct items froms cond groups having) a (block_node (is_given distinct) is es wc gs hv) e
  block_built {a = a} {e = e} t u v w x =
      let g = is_given distinct in
      let cols = columns_of groups in
      record {
        numbers =
            ap (λ (i : List Item × Numbers). let f = (all_entries froms).build i.1 in let c = (perhaps cond).build f.1 in let h = (perhaps having).build c.1 in (block_node g i.0 f.0 c.0 cols h.0, h.1)) t.numbers
            ∙ ap (λ (f : List Entry × Numbers). let c = (perhaps cond).build f.1 in let h = (perhaps having).build c.1 in (block_node g is f.0 c.0 cols h.0, h.1)) u.numbers
            ∙ ap (λ (c : Option Expr × Numbers). let h = (perhaps having).build c.1 in (block_node g is es c.0 cols h.0, h.1)) v.numbers
            ∙ ap (λ (h : Option Expr × Numbers). (block_node g is es wc cols h.0, h.1)) x.numbers
            ∙ ap (λ (z : Option (List Expr)). (block_node g is es wc z hv, e.numbers)) (sym w);
        copies = omega (arith, t.copies, u.copies, v.copies, x.copies);
      }

pub built_columns : (groups : Option (Expr × List Expr)) {gs : Option (List Expr)} {a b : Cursor} → Builds (plain (columns_of groups)) a gs b → gs ≡ columns_of groups
built_columns groups t = sym (ap (λ p. p.0) t.numbers)

pub alike_columns : (groups : Option (Expr × List Expr)) {gs : Option (List Expr)} {a b : Cursor} → Builds (plain (columns_of groups)) a gs b → Alike a b
alike_columns groups t = record { numbers = sym (ap (λ p. p.1) t.numbers); copies = omega (arith, t.copies) }
