-- Forms that with no limits spell and begin what other forms do.
use Rattle.std.proofs.Common.{List, inl, inr, None, Option, ℕ}
use Rattle.grammar.specs.Language.{Language, Includes}
use Rattle.grammar.specs.Form.{seq, alt, star, nest, map}
use Rattle.grammar.specs.Productions.{skip_then, then_skip}
use Rattle.grammar.proofs.languages.Forms.{includes_itself, star_grows}
use Rattle.sql_lex.specs.Lexemes.{Lexeme}
use Rattle.sql_grammar.specs.declared.kinds.Kind.TheVariants as k
use Rattle.sql_grammar.specs.QueryGrammar.{The, a, parens}
use Rattle.sql_grammar.specs.Queries.{of_form}

abbrev pub gl : {A : Type 0} → The A → Language Lexeme A
gl f = of_form None f

-- what f spells and begins, h does
pub record Below {A : Type 0} (f h : The A) : Type 0 where
  pub holds : Includes (gl h) (gl f)

pub itself : {A : Type 0} (f : The A) → Below f f
itself f = record { holds = includes_itself (gl f) }

pub below_map : {A B : Type 0} {f f' : The A} (h : A → B) → Below f f' → Below (map h f) (map h f')
below_map h l = record { holds = record { spells = λ ts v s. (s.0, l.holds.spells ts s.0 s.1, s.2); prefix = l.holds.prefix } }

pub below_nest : {A : Type 0} {f f' : The A} → Below f f' → Below (nest f) (nest f')
below_nest l = record { holds = l.holds }

pub below_star : {A : Type 0} {f f' : The A} (most other : Option ℕ) → Below f f' → Below (star most f) (star other f')
below_star {f = f} {f' = f'} most other l = record { holds = star_grows (gl f) (gl f') l.holds }

pub below_alt : {A : Type 0} {f f' h h' : The A} → Below f f' → Below h h' → Below (alt f h) (alt f' h')
below_alt l m = record {
  holds = record {
    spells = λ ts v s. elim s [ inl r ↦ inl (l.holds.spells ts v r) | inr r ↦ inr (m.holds.spells ts v r) ];
    prefix = λ ts s. elim s [ inl r ↦ inl (l.holds.prefix ts r) | inr r ↦ inr (m.holds.prefix ts r) ];
  };
}

pub in_second : {A : Type 0} (f h : The A) → Below h (alt f h)
in_second f h = record { holds = record { spells = λ ts v s. inr s; prefix = λ ts s. inr s } }

pub in_first : {A : Type 0} (f h : The A) → Below f (alt f h)
in_first f h = record { holds = record { spells = λ ts v s. inl s; prefix = λ ts s. inl s } }

pub below_seq : {A B : Type 0} {f f' : The A} {h h' : The B} → Below f f' → Below h h' → Below (seq f h) (seq f' h')
below_seq {f = f} {f' = f'} {h = h} {h' = h'} l m =
    record { holds = record { spells = λ ts v s. (s.0, s.1, s.2, l.holds.spells s.0 v.0 s.3, m.holds.spells s.1 v.1 s.4); prefix = prefix } }
  where
    prefix : (ts : List Lexeme) → (gl (seq f h)).prefix ts → (gl (seq f' h')).prefix ts
    prefix ts (inl s) = inl (l.holds.prefix ts s)
    prefix ts (inr (x, y, v, i, s, r)) = inr (x, y, v, i, l.holds.spells x v s, m.holds.prefix y r)

pub below_skip_then : {A B : Type 0} {h h' : The B} (f : The A) → Below h h' → Below (skip_then f h) (skip_then f h')
below_skip_then f l = below_map (λ p. p.1) (below_seq (itself f) l)

pub below_then_skip : {A B : Type 0} {f f' : The A} (h : The B) → Below f f' → Below (then_skip f h) (then_skip f' h)
below_then_skip h l = below_map (λ p. p.0) (below_seq l (itself h))

pub below_parens : {A : Type 0} {f f' : The A} → Below f f' → Below (parens f) (parens f')
below_parens l = below_map (λ p. p.1) (below_nest (below_seq (itself (a k.Open)) (below_then_skip (a k.Close) l)))
