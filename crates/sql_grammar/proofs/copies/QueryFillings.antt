-- A short text of each production that copies nothing: the number 1, or SELECT 1 FROM a.
use Rattle.std.proofs.Common.{◌≡◌, Bool, ℕ, true, List, [], ◌∷◌, codes, length, Option, Some, None, refl, inr}
use Rattle.grammar.specs.Form.{nest, only, seq, alt, map, star, empty, counted, ref, language}
use Rattle.grammar.specs.Productions.{skip_then, then_skip, optional}
use Rattle.grammar.proofs.completed.ComputedCompletions as d
use Rattle.grammar.proofs.completed.Fillings as f
use Rattle.grammar.proofs.completed.Fillings.{fill_name}
use Rattle.sql_lex.specs.declared.token.TokenKind.TheVariants as token
use Rattle.sql_lex.specs.Lexemes.{Lexeme}
use Rattle.sql_model.specs.declared.tree.Expr.{Expr}
use Rattle.sql_model.specs.declared.tree.Entry.{Entry}
use Rattle.sql_model.specs.declared.tree.Item.{Item}
use Rattle.sql_model.specs.declared.tree.Query.{Query}
use Rattle.sql_grammar.specs.Kinds as k
use Rattle.sql_grammar.specs.Kinds.{Kind, kind_of, same, among}
use Rattle.sql_grammar.specs.Numbering.{Built}
use Rattle.sql_grammar.specs.QueryTrees as t
use Rattle.sql_grammar.specs.QueryTailTrees as tails
use Rattle.sql_grammar.specs.QueryTrees.{Listed, not_sub}
use Rattle.sql_grammar.specs.QueryGrammar as grammar
use Rattle.sql_grammar.specs.QueryGrammar.{Production, Read, The, a, one_of, parens, name, listed, alias, group_by, comparison, like, minus, not_neg, exists, join_on, cross_join, next_sum, next_product, next_and, next_or, next_intersect, next_union, query, part, operand, block, item, from, entry, reference, expr, conj, neg, test, rest, value, term, unary, primary, agg, most_operators, most_separators}
use Rattle.sql_grammar.specs.QueryTails.{insides, commas, set_tail, and_tail, expr_tail, inner, in_inner}
use Rattle.sql_grammar.specs.Queries.{rules}
use Rattle.sql_grammar.specs.QueryCopies.{copies_nothing}

-- ---- tokens

abbrev pub one : Lexeme
one = record { kind = token.Number; text = 49 ∷ []; start = 0 }

abbrev pub word : List ℕ → Lexeme
word text = record { kind = token.Word; text = text; start = 0 }

abbrev pub symbol : ℕ → Lexeme
symbol byte = record { kind = token.Symbol; text = byte ∷ []; start = 0 }

-- ---- forms

abbrev pub Filled : {A : Type 0} → The A → A → Type 0
Filled form v = f.Filled kind_of (language kind_of rules) copies_nothing form v

pub fill_token : (kind : Kind) (t : Lexeme) → copies_nothing t ≡ true → same kind (kind_of t) ≡ true → Filled (a kind) t
fill_token kind t c i = f.fill_token kind_of (language kind_of rules) copies_nothing (same kind) t c i

pub fill_token_of : (kinds : List Kind) (t : Lexeme) → copies_nothing t ≡ true → among kinds (kind_of t) ≡ true → Filled (one_of kinds) t
fill_token_of kinds t c i = f.fill_token kind_of (language kind_of rules) copies_nothing (among kinds) t c i

pub fill_seq : {A B : Type 0} {g : The A} {h : The B} {v : A} {w : B} → Filled g v → Filled h w → Filled (seq g h) (v, w)
fill_seq p q = f.fill_seq kind_of (language kind_of rules) copies_nothing p q

pub fill_map : {A B : Type 0} {g : The A} (h : A → B) {v : A} → Filled g v → Filled (map h g) (h v)
fill_map h p = f.fill_map kind_of (language kind_of rules) copies_nothing h p

pub fill_one : {A : Type 0} {g : The A} (h : The A) {v : A} → Filled g v → Filled (alt g h) v
fill_one h p = f.fill_one kind_of (language kind_of rules) copies_nothing h p

pub fill_other : {A : Type 0} (g : The A) {h : The A} {v : A} → Filled h v → Filled (alt g h) v
fill_other g p = f.fill_other kind_of (language kind_of rules) copies_nothing g p

pub fill_none : {A : Type 0} (most : Option ℕ) (g : The A) → Filled (star most g) []
fill_none most g = f.fill_none kind_of (language kind_of rules) copies_nothing most g

pub fill_counted : {A : Type 0} {g : The A} {v : A} → (p : Filled g v) → Filled (counted g) (v, length p.by.filling)
fill_counted p = f.fill_counted kind_of (language kind_of rules) copies_nothing p

pub fill_empty : Filled empty tt
fill_empty = f.fill_empty kind_of (language kind_of rules) copies_nothing

pub fill_absent : {A : Type 0} (g : The A) → Filled (optional g) None
fill_absent g = fill_other (map (λ v. Some v) g) (fill_map (λ v. None) fill_empty)

pub fill_second : {A B : Type 0} {g : The A} {h : The B} {v : A} {w : B} → Filled g v → Filled h w → Filled (skip_then g h) w
fill_second p q = fill_map (λ z. z.1) (fill_seq p q)

pub fill_first : {A B : Type 0} {g : The A} {h : The B} {v : A} {w : B} → Filled g v → Filled h w → Filled (then_skip g h) v
fill_first p q = fill_map (λ z. z.0) (fill_seq p q)

pub fill_nest : {A : Type 0} {g : The A} {v : A} → Filled g v → Filled (nest g) v
fill_nest p = f.fill_nest kind_of (language kind_of rules) copies_nothing p

pub fill_only : {A : Type 0} {g : The A} (q : A → Bool) {v : A} → q v ≡ true → Filled g v → Filled (only q g) v
fill_only q i p = f.fill_only kind_of (language kind_of rules) copies_nothing q i p

pub fill_parens : {A : Type 0} {g : The A} {v : A} → Filled g v → Filled (parens g) v
fill_parens p = fill_map (λ z. z.1) (fill_nest (fill_seq (fill_token k.Open (symbol 40) refl refl) (fill_first p (fill_token k.Close (symbol 41) refl refl))))

pub fill_listed : {A : Type 0} {g : The A} {v : A} → Filled g v → Filled (listed g) (v, [])
fill_listed {g = g} p = fill_seq p (fill_none (Some most_separators) (skip_then (a k.Comma) g))

-- ---- productions

abbrev pub number_one : Built Expr
number_one = t.number_literal one

abbrev pub listed_a : Built Listed
listed_a = t.table_entry (word (codes "a")) None

abbrev pub from_a : Built (List Entry)
from_a = t.entries listed_a []

abbrev pub item_one : Built Item
item_one = t.value_item number_one None

abbrev pub select_one : Built Query
select_one = t.block_of None (item_one, []) (from_a, []) None None None

of_name : (p : Production) (v : Read p) → Filled (rules p) v → Filled (ref p) v
of_name p v r = fill_name kind_of rules copies_nothing p v r

pub fill_primary : Filled (ref primary) number_one
fill_primary = of_name primary number_one (fill_one _ (fill_map t.number_literal (fill_token k.Number one refl refl)))

pub fill_unary : Filled (ref unary) number_one
fill_unary = of_name unary number_one (fill_other minus fill_primary)

pub fill_term : Filled (ref term) number_one
fill_term = of_name term number_one (fill_map (λ p. t.operated p.0 p.1) (fill_seq fill_unary (fill_none (Some most_operators) next_product)))

pub fill_value : Filled (ref value) number_one
fill_value = of_name value number_one (fill_map (λ p. t.operated p.0 p.1) (fill_seq fill_term (fill_none (Some most_operators) next_sum)))

pub fill_test : Filled (ref test) number_one
fill_test = of_name test number_one (fill_other exists (fill_map (λ p. t.tested p.0 p.1) (fill_seq (fill_counted fill_value) (fill_absent (ref rest)))))

pub fill_neg : Filled (ref neg) number_one
fill_neg = of_name neg number_one (fill_other not_neg fill_test)

pub fill_conj : Filled (ref conj) number_one
fill_conj = of_name conj number_one (fill_map (t.chained t.and_node) (fill_seq fill_neg (fill_none (Some most_separators) next_and)))

pub fill_expr : Filled (ref expr) number_one
fill_expr = of_name expr number_one (fill_map (t.chained t.or_node) (fill_seq fill_conj (fill_none (Some most_separators) next_or)))

pub fill_item : Filled (ref item) item_one
fill_item = of_name item item_one (fill_other _ (fill_other _ (fill_map (λ p. t.value_item p.0 p.1) (fill_seq fill_expr (fill_absent alias)))))

pub fill_entry : Filled (ref entry) listed_a
fill_entry = of_name entry listed_a (fill_one _ (fill_map (λ p. t.table_entry p.0 p.1) (fill_seq (fill_token_of grammar.name_kinds (word (codes "a")) refl refl) (fill_absent alias))))

pub fill_from : Filled (ref from) from_a
fill_from = of_name from from_a (fill_map (λ p. t.entries p.0 p.1) (fill_seq fill_entry (fill_none None (alt join_on cross_join))))

pub fill_having : Filled (optional (skip_then (a k.Having) (ref expr))) None
fill_having = fill_absent (skip_then (a k.Having) (ref expr))

pub fill_groups : Filled (seq group_by (optional (skip_then (a k.Having) (ref expr)))) (None, None)
fill_groups = fill_seq (fill_absent (skip_then (seq (a k.Group) (a k.By)) (listed (ref reference)))) fill_having

pub fill_where : Filled (seq (optional (skip_then (a k.Where) (ref expr))) (seq group_by (optional (skip_then (a k.Having) (ref expr))))) (None, (None, None))
fill_where = fill_seq (fill_absent (skip_then (a k.Where) (ref expr))) fill_groups

pub fill_froms : Filled (skip_then (a k.From) (listed (ref from))) (from_a, [])
fill_froms = fill_second (fill_token k.From (word (codes "from")) refl refl) (fill_listed fill_from)

pub fill_items : Filled (listed (ref item)) (item_one, [])
fill_items = fill_listed fill_item

pub fill_block : Filled (ref block) select_one
fill_block = of_name block select_one
    (fill_map (λ p. t.block_of p.0 p.1.0 p.1.1.0 p.1.1.1.0 p.1.1.1.1.0 p.1.1.1.1.1)
    (fill_second (fill_token k.Select (word (codes "select")) refl refl)
    (fill_seq (fill_absent (a k.Distinct)) (fill_seq fill_items (fill_seq fill_froms fill_where)))))

pub fill_operand : Filled (ref operand) select_one
fill_operand = of_name operand select_one (fill_one _ fill_block)

pub fill_part : Filled (ref part) select_one
fill_part = of_name part select_one (fill_map (λ p. t.sets p.0 p.1) (fill_seq fill_operand (fill_none (Some most_operators) next_intersect)))

pub fill_query : Filled (ref query) select_one
fill_query = of_name query select_one (fill_map (λ p. t.sets p.0 p.1) (fill_seq fill_part (fill_none (Some most_operators) next_union)))

pub fill_reference : Filled (ref reference) (t.column (None, word (codes "a")))
fill_reference = of_name reference (t.column (None, word (codes "a")))
    (fill_map t.column (fill_seq (fill_absent (then_skip name (a k.Dot))) (fill_token_of grammar.name_kinds (word (codes "a")) refl refl)))

-- ---- what follows the first part

pub fill_rest : Filled (ref rest) (λ left. t.comparison (symbol 61) number_one left)
fill_rest = of_name rest (λ left. t.comparison (symbol 61) number_one left)
    (fill_one _ (fill_map (λ p left. t.comparison p.0 p.1 left) (fill_seq (fill_token_of k.comparisons (symbol 61) refl refl) fill_value)))

pub fill_set_tail : Filled (ref set_tail) (λ left. left)
fill_set_tail = of_name set_tail (λ left. left) (fill_map (λ p. tails.combined p.0 p.1) (fill_seq (fill_none (Some most_operators) next_intersect) (fill_none (Some most_operators) next_union)))

pub fill_and_tail : Filled (ref and_tail) (λ left. left)
fill_and_tail = of_name and_tail (λ left. left) (fill_map (λ p. tails.joined p.0 p.1) (fill_seq (fill_none (Some most_separators) next_and) (fill_none (Some most_separators) next_or)))

pub fill_expr_tail : Filled (ref expr_tail) (λ left. left.0)
fill_expr_tail = of_name expr_tail (λ left. left.0)
    (fill_map (λ p. tails.continued p.0 p.1.0 p.1.1.0 p.1.1.1)
    (fill_seq (fill_counted (fill_seq (fill_none (Some most_operators) next_product) (fill_none (Some most_operators) next_sum)))
    (fill_seq (fill_absent (ref rest)) (fill_seq (fill_none (Some most_separators) next_and) (fill_none (Some most_separators) next_or)))))

-- ---- what stands in parentheses

pub fill_insides : {M : Type 0} (more : The M) (m : M) → Filled more m → Filled (insides more) (inr (inr (number_one, m)))
fill_insides more m r =
    fill_other _ (fill_other _ (fill_map (λ p. inr (inr p)) (fill_seq (fill_only not_sub refl fill_expr) r)))

pub fill_inner : Filled (ref inner) (inr (inr (number_one, tt)))
fill_inner = of_name inner (inr (inr (number_one, tt))) (fill_insides empty tt fill_empty)

pub fill_in_inner : Filled (ref in_inner) (inr (inr (number_one, [])))
fill_in_inner = of_name in_inner (inr (inr (number_one, []))) (fill_insides commas [] (fill_none (Some most_separators) (skip_then (a k.Comma) (ref expr))))

pub fill_agg : Filled (ref agg) (t.count_rows (word (codes "count")))
fill_agg = of_name agg (t.count_rows (word (codes "count")))
    (fill_one _ (fill_map (λ p. t.count_rows p.0) (fill_seq (fill_token k.Count (word (codes "count")) refl refl) (fill_parens (fill_token k.Star (symbol 42) refl refl)))))

-- ---- what fills any form

abbrev pub Sample : Type 0
Sample = d.Sample kind_of (language kind_of rules) copies_nothing

abbrev pub FilledBy : {A : Type 0} → The A → Type 0
FilledBy f = d.FilledBy kind_of (language kind_of rules) copies_nothing f

abbrev sample : (kind : Kind) (t : Lexeme) → kind_of t ≡ kind → copies_nothing t ≡ true → Sample
sample kind t i c = record { its_kind = kind; token = t; is_of_kind = i; is_chosen = c }

-- tokens that copy nothing, for the parts that a prefix may lack
abbrev pub samples : List Sample
samples =
    sample k.Number one refl refl ∷ sample k.Word (word (codes "a")) refl refl
    ∷ sample k.Open (symbol 40) refl refl ∷ sample k.Close (symbol 41) refl refl ∷ sample k.Star (symbol 42) refl refl ∷ sample k.Dot (symbol 46) refl refl ∷ sample k.Semicolon (symbol 59) refl refl
    ∷ sample k.From (word (codes "from")) refl refl ∷ sample k.By (word (codes "by")) refl refl ∷ sample k.Join (word (codes "join")) refl refl
    ∷ sample k.On (word (codes "on")) refl refl ∷ sample k.And (word (codes "and")) refl refl ∷ sample k.In (word (codes "in")) refl refl
    ∷ sample k.Like (word (codes "like")) refl refl ∷ sample k.As (word (codes "as")) refl refl ∷ sample k.Create (word (codes "create")) refl refl
    ∷ sample k.Table (word (codes "table")) refl refl ∷ sample k.View (word (codes "view")) refl refl ∷ sample k.Index (word (codes "index")) refl refl
    ∷ sample k.Unique (word (codes "unique")) refl refl ∷ sample k.Key (word (codes "key")) refl refl ∷ sample k.Null (word (codes "null")) refl refl
    ∷ sample k.References (word (codes "references")) refl refl ∷ []

abbrev this : {A : Type 0} {f : The A} {v : A} → Filled f v → Option (FilledBy f)
this {v = v} p = Some (record { value = v; filled = p })

abbrev pub of_names : (p : Production) → Option (d.FilledBy kind_of (language kind_of rules) copies_nothing (ref p))
of_names query = this fill_query
of_names part = this fill_part
of_names operand = this fill_operand
of_names block = this fill_block
of_names item = this fill_item
of_names from = this fill_from
of_names entry = this fill_entry
of_names reference = this fill_reference
of_names expr = this fill_expr
of_names conj = this fill_conj
of_names neg = this fill_neg
of_names test = this fill_test
of_names rest = this fill_rest
of_names value = this fill_value
of_names term = this fill_term
of_names unary = this fill_unary
of_names primary = this fill_primary
of_names agg = this fill_agg
of_names set_tail = this fill_set_tail
of_names and_tail = this fill_and_tail
of_names expr_tail = this fill_expr_tail
of_names inner = this fill_inner
of_names in_inner = this fill_in_inner
