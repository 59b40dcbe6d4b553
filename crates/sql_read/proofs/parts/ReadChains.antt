-- What is built of one more part, behind those that were built before it.
use Rattle.std.proofs.Common.{◌≡◌, ◌+◌, List, [], ◌∷◌, ◌++◌, refl, sym, ◌∙◌, ap, subst, arith}
use Rattle.sql_cursor.specs.Cursor.{Cursor}
use Rattle.sql_grammar.specs.Numbering.{Built, Numbers, each}
use Rattle.sql_read.specs.Reads.{Builds}

pub built_by : {A : Type 0} {one two : Built A} {value : A} {a b : Cursor} → one ≡ two → Builds two a value b → Builds one a value b
built_by {value = value} {a = a} {b = b} e t = subst (λ z. Builds z a value b) (sym e) t

pub each_more : {A : Type 0} (xs : List (Built A)) (y : Built A) (n : Numbers)
    → (each (xs ++ y ∷ [])).build n ≡ (let p = (each xs).build n in let q = y.build p.1 in (p.0 ++ q.0 ∷ [], q.1))
each_more [] y n = refl
each_more (x ∷ xs) y n = ap (λ p. ((x.build n).0 ∷ p.0, p.1)) (each_more xs y (x.build n).1)

pub each_more_copies : {A : Type 0} (xs : List (Built A)) (y : Built A) → (each (xs ++ y ∷ [])).copies ≡ (each xs).copies + y.copies
each_more_copies [] y = omega arith
each_more_copies (x ∷ xs) y = let more : (each (xs ++ y ∷ [])).copies ≡ (each xs).copies + y.copies = each_more_copies xs y in omega arith

pub built_each : {A : Type 0} (xs : List (Built A)) {y : Built A} {vs : List A} {v : A} {a b c : Cursor} → Builds (each xs) a vs b → Builds y b v c → Builds (each (xs ++ y ∷ [])) a (vs ++ v ∷ []) c
built_each xs {y = y} {vs = vs} {a = a} t u = record {
  numbers = each_more xs y a.numbers ∙ ap (λ p. let q = y.build p.1 in (p.0 ++ q.0 ∷ [], q.1)) t.numbers ∙ ap (λ q. (vs ++ q.0 ∷ [], q.1)) u.numbers;
  copies = omega (arith, t.copies, u.copies, each_more_copies xs y);
}
