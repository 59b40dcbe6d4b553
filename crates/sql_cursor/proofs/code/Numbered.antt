-- The set of the members that have numbers is the list of the grammar.
use Rattle.std.proofs.Common.{◌≡◌, ℕ, ◌==◌, Bool, true, false, List, [], ◌∷◌, ◌++◌, Result, Ok, Err, IfOk, refl, sym, ap, ◌∙◌, subst, arith, if◌then◌else◌, inl, inr, bytes_eq, Some, slice_get, unwrap_or}
use Rattle.std.proofs.lemmas.Bool.{cases_Bool}
use Rattle.std.proofs.lemmas.List.{append-nil}
use Rattle.std.specs.List.{list_any, position_or_len}
use Rattle.std.specs.declared.alloc.AllocError.{AllocError}
use Rattle.std.specs.Cmp.Lexicographic.{bytes_decides, pointwise}
use Rattle.sql_model.specs.declared.symbols.Lit.{Lit}
use Rattle.sql_model.specs.declared.symbols.LitKind.{LitKind}
use Rattle.sql_model.specs.declared.symbols.LitKind.TheVariants as literal
use Rattle.sql_model.specs.contracts.symbols.LitPartialEq.TheImpl.{eq-value}
use Rattle.sql_model.specs.Syntax.{Name}
use Rattle.sql_cursor.specs.Cursor.{Cursor}
use Rattle.sql_cursor.specs.Eating.{Extends, GoesOn, Numbers}
use Rattle.sql_cursor.specs.Readers as reading
use Rattle.sql_cursor.specs.Readers.{Gives}
use Rattle.sql_cursor.proofs.code.Extending.{extends_by, goes_nowhere}
use Rattle.sql_grammar.specs.Numbering.{Built, place_of, with_member, is_same_literal, literal_number, symbol_number}

-- ---- lists in which each member stands once
module _ {X : Type 0} (test p : X → Bool) (same : (x : X) → test x ≡ p x) where
  placed : (xs : List X) → position_or_len test xs ≡ place_of p xs
  placed [] = refl
  placed (x ∷ xs) = rw (same x) (elim (cases_Bool (p x)) [
    | inl here ↦ rw here refl
    | inr other ↦ rw (other, placed xs) (omega arith)
  ])

  with_new : (new : X) (xs : List X) → (if list_any test xs then xs else xs ++ new ∷ []) ≡ with_member p new xs
  with_new new [] = refl
  with_new new (x ∷ xs) = rw (same x) (elim (cases_Bool (p x)) [
    | inl here ↦ rw here refl
    | inr other ↦ rw (other, sym (with_new new xs)) (first (list_any test xs))
  ])
    where
      first : (b : Bool) → (if b then x ∷ xs else x ∷ (xs ++ new ∷ [])) ≡ x ∷ (if b then xs else xs ++ new ∷ [])
      first true = refl
      first false = refl

goes_on : {X : Type 0} (b : Bool) (new : X) (xs keys : List X) → keys ≡ (if b then xs else xs ++ new ∷ []) → GoesOn xs keys
goes_on true new xs keys e = ([], e ∙ sym (append-nil xs))
goes_on false new xs keys e = (new ∷ [], e)

of_parts : (k l : LitKind) (a b : Name) → eq-value.it (record { kind = k; text = a }) (record { kind = l; text = b }) ≡ is_same_literal (record { kind = k; text = a }) (record { kind = l; text = b })
of_parts literal.Number literal.Number a b = refl
of_parts literal.Number literal.Text a b = refl
of_parts literal.Text literal.Number a b = refl
of_parts literal.Text literal.Text a b = refl

same_literals : (a b : Lit) → eq-value.it a b ≡ is_same_literal a b
same_literals a b = of_parts a.kind b.kind a.text b.text

-- ---- names that share their bytes
-- what a set of names has in the place of one that it was given is equal to that
pub stored_name : (name known : Name) (keys : List Name) (place : ℕ) (result : Result Name AllocError)
    → ((stored : Name) × (slice_get keys place ≡ Some stored) × (pointwise ◌==◌ name stored ≡ true)) → Some known ≡ slice_get keys place
    → IfOk result (λ copy. copy ≡ known) → IfOk result (λ copy. copy ≡ name)
stored_name name known keys place result (stored, here, same) found copied =
    let one : name ≡ stored = (bytes_decides name stored).0 same in
    let other : known ≡ stored = ap (λ o. unwrap_or o known) (found ∙ here) in
    subst (λ n. IfOk result (λ copy. copy ≡ n)) (other ∙ sym one) copied

-- ---- the cursor
numbered : (b : Built ℕ) (before after : Cursor) (result : Result ℕ AllocError) (place : ℕ) → IfOk result (λ number. number ≡ place) → place ≡ (b.build before.numbers).0
    → after ≡ record before { numbers = (b.build before.numbers).1 } → IfOk result (λ number. Numbers b before number after)
numbered b before after (Ok number) place e i m = record { is = e ∙ i; moved = m }
numbered b before after (Err none) place e i m = tt

pub numbers_given : (b : Built ℕ) (before after : Cursor) (result : Result ℕ AllocError) → IfOk result (λ number. Numbers b before number after)
    → IfOk result (λ number. Gives (Ok number) after (reading.numbered b before))
unfolding reading.numbered
numbers_given b before after (Ok number) n = rw (n.is, n.moved) refl
numbers_given b before after (Err none) n = tt

module _ {seen before after : Cursor} (v : seen ≡ before) where
  pub symbol_numbered : (new : Name) (result : Result ℕ AllocError) (place : ℕ) (keys : List Name) → IfOk result (λ number. number ≡ place)
      → place ≡ position_or_len (pointwise ◌==◌ new) seen.numbers.symbols
      → keys ≡ (if list_any (pointwise ◌==◌ new) seen.numbers.symbols then seen.numbers.symbols else seen.numbers.symbols ++ new ∷ [])
      → after ≡ record seen { numbers = record seen.numbers { symbols = keys } } → IfOk result (λ number. Numbers (symbol_number new) before number after)
  symbol_numbered new result place keys e i k m =
      subst (λ z. IfOk result (λ number. Numbers (symbol_number new) z number after)) v
      (numbered (symbol_number new) seen after result place e (i ∙ placed (bytes_eq new) (bytes_eq new) (λ x. refl) seen.numbers.symbols)
      (m ∙ ap (λ (ks : List Name). record seen { numbers = record seen.numbers { symbols = ks } }) (k ∙ with_new (bytes_eq new) (bytes_eq new) (λ x. refl) new seen.numbers.symbols)))

  pub literal_numbered : (new : Lit) (result : Result ℕ AllocError) (place : ℕ) (keys : List Lit) → IfOk result (λ number. number ≡ place)
      → place ≡ position_or_len (eq-value.it new) seen.numbers.literals
      → keys ≡ (if list_any (eq-value.it new) seen.numbers.literals then seen.numbers.literals else seen.numbers.literals ++ new ∷ [])
      → after ≡ record seen { numbers = record seen.numbers { literals = keys } } → IfOk result (λ number. Numbers (literal_number new) before number after)
  literal_numbered new result place keys e i k m =
      subst (λ z. IfOk result (λ number. Numbers (literal_number new) z number after)) v
      (numbered (literal_number new) seen after result place e (i ∙ placed (eq-value.it new) (is_same_literal new) (same_literals new) seen.numbers.literals)
      (m ∙ ap (λ (ks : List Lit). record seen { numbers = record seen.numbers { literals = ks } }) (k ∙ with_new (eq-value.it new) (is_same_literal new) (same_literals new) new seen.numbers.literals)))

  pub symbol_extends : (b : Bool) (new : Name) (keys : List Name) → keys ≡ (if b then seen.numbers.symbols else seen.numbers.symbols ++ new ∷ [])
      → after ≡ record seen { numbers = record seen.numbers { symbols = keys } } → Extends before after
  symbol_extends b new keys k m =
      subst (λ z. Extends z after) v (subst (λ z. Extends seen z) (sym m)
      (extends_by {a = seen} (record seen.numbers { symbols = keys }) seen.copies (goes_nowhere seen.numbers.literals) (goes_on b new seen.numbers.symbols keys k) (omega arith)))

  pub literal_extends : (b : Bool) (new : Lit) (keys : List Lit) → keys ≡ (if b then seen.numbers.literals else seen.numbers.literals ++ new ∷ [])
      → after ≡ record seen { numbers = record seen.numbers { literals = keys } } → Extends before after
  literal_extends b new keys k m =
      subst (λ z. Extends z after) v (subst (λ z. Extends seen z) (sym m)
      (extends_by {a = seen} (record seen.numbers { literals = keys }) seen.copies (goes_on b new seen.numbers.literals keys k) (goes_nowhere seen.numbers.symbols) (omega arith)))
