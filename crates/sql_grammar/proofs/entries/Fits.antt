-- What is built with numbers, with a property at the count of the literals that have numbers behind it, and back from what is built behind some
-- numbers.
use Rattle.std.specs.Prelude.{if◌then◌else◌}
use Rattle.std.proofs.Common.{ℕ, ◌+◌, ◌<◌, ◌≤◌, Bool, true, false, List, [], ◌∷◌, ◌++◌, length, Option, Some, None, arith}
use Rattle.grammar.specs.Language.{Concatenates}
use Rattle.data_model.specs.Lists.{Each}
use Rattle.sql_lex.specs.Lexemes.{Lexeme}
use Rattle.sql_model.specs.Syntax.{Name}
use Rattle.sql_model.specs.declared.symbols.Lit.{Lit}
use Rattle.sql_grammar.specs.Numbering.{Built, Numbers, both, copying, each, is_same_literal, literal_number, mapped, perhaps, place_of, plain, symbol_number, with_member}
use Rattle.sql_grammar.specs.QueryTrees.{concatenated}
use Rattle.sql_grammar.proofs.entries.EverywhereTrees.{Perhaps}

-- No number is lost, and P holds of what is built at the count of literals that have numbers behind it, and at each greater one.
pub record Fits {X : Type 0} (P : ℕ → X → Type 0) (b : Built X) : Type 0 where
  pub keeps : (numbers : Numbers) → length numbers.literals ≤ length (b.build numbers).1.literals
  pub holds : (numbers : Numbers) (count : ℕ) → length (b.build numbers).1.literals ≤ count → P count (b.build numbers).0

pub fit_plain : {X : Type 0} {P : ℕ → X → Type 0} (x : X) → ((count : ℕ) → P count x) → Fits P (plain x)
fit_plain x p = record { keeps = λ numbers. omega arith; holds = λ numbers count h. p count }

pub fit_mapped : {X Y : Type 0} {P : ℕ → X → Type 0} {Q : ℕ → Y → Type 0} {b : Built X} (f : X → Y) → ((count : ℕ) (x : X) → P count x → Q count (f x)) → Fits P b → Fits Q (mapped f b)
fit_mapped {b = b} f g p = record { keeps = p.keeps; holds = λ numbers count h. g count (b.build numbers).0 (p.holds numbers count h) }

pub fit_both : {X Y : Type 0} {P : ℕ → X → Type 0} {Q : ℕ → Y → Type 0} {b : Built X} {c : Built Y} → Fits P b → Fits Q c → Fits (λ count p. P count p.0 × Q count p.1) (both b c)
fit_both {b = b} {c = c} p q = record {
  keeps = λ numbers. omega (arith, p.keeps numbers, q.keeps (b.build numbers).1);
  holds = λ numbers count h. let kept = q.keeps (b.build numbers).1 in (p.holds numbers count (omega (arith, kept, h)), q.holds (b.build numbers).1 count h);
}

pub fit_each : {X : Type 0} {P : ℕ → X → Type 0} (bs : List (Built X)) → Each (Fits P) bs → Fits (λ count. Each (P count)) (each bs)
fit_each [] f = fit_plain [] (λ count. tt)
fit_each (b ∷ bs) f = fit_mapped (λ p. p.0 ∷ p.1) (λ count p g. g) (fit_both f.0 (fit_each bs f.1))

pub fit_perhaps : {X : Type 0} {P : ℕ → X → Type 0} (b : Option (Built X)) → Perhaps (Fits P) b → Fits (λ count. Perhaps (P count)) (perhaps b)
fit_perhaps None f = fit_plain None (λ count. tt)
fit_perhaps (Some b) f = fit_mapped (λ x. Some x) (λ count x p. p) f

pub fit_copying : {X : Type 0} {P : ℕ → X → Type 0} (weight : ℕ) {b : Built X} → Fits P b → Fits P (copying weight b)
fit_copying weight p = record { keeps = p.keeps; holds = p.holds }

-- a property that is the same at each count
pub now_holds : {X : Type 0} (P : X → Type 0) {b : Built X} → Fits (λ count. P) b → (numbers : Numbers) → P (b.build numbers).0
now_holds P {b = b} f numbers = f.holds numbers (length (b.build numbers).1.literals) (omega arith)

-- ---- behind some numbers

-- P holds of what is built behind some numbers
pub record Once {X : Type 0} (P : X → Type 0) (b : Built X) : Type 0 where
  pub numbers : Numbers
  pub holds : P (b.build numbers).0

pub once_mapped : {X Y : Type 0} {P : X → Type 0} {Q : Y → Type 0} {b : Built X} (f : X → Y) → ((x : X) → Q (f x) → P x) → Once Q (mapped f b) → Once P b
once_mapped {b = b} f g o = record { numbers = o.numbers; holds = g (b.build o.numbers).0 o.holds }

pub once_both : {X Y : Type 0} {P : X → Type 0} {Q : Y → Type 0} {b : Built X} {c : Built Y} → Once (λ p. P p.0 × Q p.1) (both b c) → Once P b × Once Q c
once_both {b = b} o = (record { numbers = o.numbers; holds = o.holds.0 }, record { numbers = (b.build o.numbers).1; holds = o.holds.1 })

pub once_each : {X : Type 0} {P : X → Type 0} (bs : List (Built X)) → Once (Each P) (each bs) → Each (Once P) bs
once_each [] o = tt
once_each (b ∷ bs) o = (record { numbers = o.numbers; holds = o.holds.0 }, once_each bs (record { numbers = (b.build o.numbers).1; holds = o.holds.1 }))

pub once_perhaps : {X : Type 0} {P : X → Type 0} (b : Option (Built X)) → Once (Perhaps P) (perhaps b) → Perhaps (Once P) b
once_perhaps None o = tt
once_perhaps (Some b) o = record { numbers = o.numbers; holds = o.holds }

pub once_copying : {X : Type 0} {P : X → Type 0} (weight : ℕ) (b : Built X) → Once P (copying weight b) → Once P b
once_copying weight b o = record { numbers = o.numbers; holds = o.holds }

-- ---- numbers

kept_members : {X : Type 0} (p : X → Bool) (new : X) (xs : List X) → length xs ≤ length (with_member p new xs)
kept_members p new [] = omega arith
kept_members p new (x ∷ xs) = go (p x) (kept_members p new xs)
  where
    go : (hit : Bool) → length xs ≤ length (with_member p new xs) → length (x ∷ xs) ≤ length (if hit then x ∷ xs else x ∷ with_member p new xs)
    go true kept = omega arith
    go false kept = omega (arith, kept)

place_below : {X : Type 0} (p : X → Bool) (new : X) (xs : List X) → place_of p xs < length (with_member p new xs)
place_below p new [] = omega arith
place_below p new (x ∷ xs) = go (p x) (place_below p new xs)
  where
    go : (hit : Bool) → place_of p xs < length (with_member p new xs) → (if hit then 0 else place_of p xs + 1) < length (if hit then x ∷ xs else x ∷ with_member p new xs)
    go true below = omega arith
    go false below = omega (arith, below)

pub literal_below : (new : Lit) → Fits (λ count number. number < count) (literal_number new)
literal_below new = record {
  keeps = λ numbers. kept_members (is_same_literal new) new numbers.literals;
  holds = λ numbers count h. omega (arith, place_below (is_same_literal new) new numbers.literals, h);
}

pub symbol_any : (new : Name) → Fits (λ count number. Unit {0}) (symbol_number new)
symbol_any new = record { keeps = λ numbers. omega arith; holds = λ numbers count h. tt }

-- ---- lists

-- of each value of texts one after the other
pub each_of : {A : Type 0} {S : List Lexeme → A → Type 0} {P : A → Type 0} → ((ts : List Lexeme) (v : A) → S ts v → P v) → (vs : List A) (ts : List Lexeme) → Concatenates S ts vs → Each P vs
each_of all [] ts s = tt
each_of all (v ∷ vs) ts (x, y, e, s, r) = (all x v s, each_of all vs y r)

-- texts one after the other, of which each value is spelled anew
pub spelled_anew : {A : Type 0} {S S' : List Lexeme → A → Type 0} {P : A → Type 0} → ((ts : List Lexeme) (v : A) → S ts v → P v → S' ts v) → (vs : List A) (ts : List Lexeme) → Concatenates S ts vs → Each P vs
    → Concatenates S' ts vs
spelled_anew all [] ts s f = s
spelled_anew all (v ∷ vs) ts (x, y, e, s, r) f = (x, y, e, all x v s f.0, spelled_anew all vs y r f.1)

each_both : {X : Type 0} (P : X → Type 0) (xs ys : List X) → Each P xs → Each P ys → Each P (xs ++ ys)
each_both P [] ys f g = g
each_both P (x ∷ xs) ys f g = (f.0, each_both P xs ys f.1 g)

pub each_together : {X : Type 0} (P : X → Type 0) (lists : List (List X)) → Each (Each P) lists → Each P (concatenated lists)
each_together P [] f = tt
each_together P (xs ∷ lists) f = each_both P xs (concatenated lists) f.0 (each_together P lists f.1)
