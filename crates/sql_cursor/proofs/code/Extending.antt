-- Reading goes on: each step of it, and one step after another.
use Rattle.std.proofs.Common.{◌≡◌, ℕ, ◌+◌, ◌≤◌, Bool, List, [], ◌∷◌, ◌++◌, length, drop, refl, sym, ◌∙◌, ap, subst, append_assoc, arith}
use Rattle.std.proofs.lemmas.List.{append-nil}
use Rattle.sql_lex.specs.Lexemes.{Lexeme}
use Rattle.sql_cursor.specs.declared.fault.ReadFault.{ReadFault}
use Rattle.sql_cursor.specs.Cursor.{Cursor}
use Rattle.sql_cursor.specs.Eating.{Extends, GoesOn, Misses, Overflows, Passes, PassesWithin, Stays}
use Rattle.sql_grammar.specs.declared.kinds.Kind.{Kind}
use Rattle.sql_grammar.specs.Numbering.{Numbers}

pub goes_nowhere : {X : Type 0} (xs : List X) → GoesOn xs xs
goes_nowhere xs = ([], sym (append-nil xs))

goes_further : {X : Type 0} (xs ys zs : List X) → GoesOn xs ys → GoesOn ys zs → GoesOn xs zs
goes_further xs ys zs (more, e) (others, i) = (more ++ others, i ∙ ap (λ z. z ++ others) e ∙ append_assoc xs more others)

-- no token was passed
pub extends_by : {a : Cursor} (numbers : Numbers) (copies : ℕ) → GoesOn a.numbers.literals numbers.literals → GoesOn a.numbers.symbols numbers.symbols → a.copies ≤ copies
    → Extends a (record a { numbers = numbers; copies = copies })
extends_by numbers copies l s i = record { fault = refl; end = refl; literals = l; symbols = s; copies = i; passed = omega arith; counted = refl }

pub extends_itself : {a : Cursor} → Extends a a
extends_itself {a} = extends_by {a = a} a.numbers a.copies (goes_nowhere a.numbers.literals) (goes_nowhere a.numbers.symbols) (omega arith)

infixl 10 ◌⨟◌
pub ◌⨟◌ : {a b c : Cursor} → Extends a b → Extends b c → Extends a c
◌⨟◌ {a} {b} {c} x y = record {
  fault = y.fault ∙ x.fault;
  end = y.end ∙ x.end;
  literals = goes_further a.numbers.literals b.numbers.literals c.numbers.literals x.literals y.literals;
  symbols = goes_further a.numbers.symbols b.numbers.symbols c.numbers.symbols x.symbols y.symbols;
  copies = omega (arith, x.copies, y.copies);
  passed = omega (arith, x.passed, y.passed);
  counted = y.counted ∙ x.counted;
}

one_fewer : (ts rest : List Lexeme) (t : Lexeme) (n : ℕ) → ts ≡ t ∷ rest → (n + 1) + length (drop 1 ts) ≡ n + length ts
one_fewer ts rest t n e = rw e (omega arith)

pub extends_passes : {p : Kind → Bool} {a b : Cursor} {t : Lexeme} → Passes p a t b → Extends a b
extends_passes {a = a} {b = b} {t = t} q = subst (λ z. Extends a z) (sym q.moved) (record {
  fault = refl;
  end = refl;
  literals = goes_nowhere a.numbers.literals;
  symbols = goes_nowhere a.numbers.symbols;
  copies = omega arith;
  passed = omega arith;
  counted = one_fewer a.tokens b.tokens t a.passed q.stood;
})

pub extends_within : {p : Kind → Bool} {room : ℕ} {a b : Cursor} {t : Lexeme} → PassesWithin p room a t b → Extends a b
extends_within q = extends_passes q.passes

pub extends_still : {a b : Cursor} → b ≡ a → Extends a b
extends_still {a} e = subst (λ z. Extends a z) (sym e) extends_itself

pub extends_stays : {p : Kind → Bool} {a b : Cursor} → Stays p a b → Extends a b
extends_stays q = extends_still q.still

pub extends_misses : {p : Kind → Bool} {a b : Cursor} {fault : ReadFault} → Misses p a fault b → Extends a b
extends_misses q = extends_still q.stays.still

pub extends_overflows : {p : Kind → Bool} {room : ℕ} {a b : Cursor} {fault : ReadFault} → Overflows p room a fault b → Extends a b
extends_overflows q = extends_still q.still
