-- Making doubled marks single undoes doubling.
use Rattle.std.proofs.Common.{◌≡◌, ◌≢◌, ℕ, suc, ◌+◌, ◌<◌, Bool, true, false, nat_eq, List, [], ◌∷◌, ◌++◌, length, drop, get_or, Option, Some, None, option_and_then, Result, Ok, Err, IfOk, IfSome, IfNone, refl, sym, ap, ◌∙◌, subst, drop-cons, add-one, append_assoc, inl, inr}
use Rattle.std.specs.declared.alloc.AllocError.{AllocError}
use Rattle.std.proofs.lemmas.Bool.{cases_Bool, eqb-true}
use Rattle.std.proofs.lemmas.List.{append-nil}
use Rattle.data_model.proofs.Sums.{equal_self}
use Rattle.sql_lex.specs.declared.token.TokenKind.{TokenKind}
use Rattle.sql_lex.specs.declared.token.TokenKind.TheVariants.{Word, Quoted, Number, Text, Symbol}
use Rattle.sql_lex.specs.Bytes.{double_quote}
use Rattle.sql_lex.specs.Classes.{doubled}
use Rattle.sql_cursor.specs.Names.{SpellsName}
use Rattle.sql_cursor.specs.Unquoting.{behind, quoted_name, some_name, unquoted}

pub behind-nothing : (o : Option (List ℕ)) → behind [] o ≡ o
behind-nothing None = refl
behind-nothing (Some rest) = refl

pub behind-behind : (prefix : List ℕ) (byte : ℕ) (o : Option (List ℕ)) → behind prefix (behind (byte ∷ []) o) ≡ behind (prefix ++ byte ∷ []) o
behind-behind prefix byte None = refl
behind-behind prefix byte (Some rest) = ap Some (sym (append_assoc prefix (byte ∷ []) rest))

-- ---- byte by byte
pub unquoted-first : (mark : ℕ) (prefix bytes : List ℕ) (i : ℕ) → i < length bytes → nat_eq (get_or bytes i 0) mark ≡ true
    → behind prefix (unquoted mark false (drop i bytes)) ≡ behind prefix (unquoted mark true (drop (i + 1) bytes))
unquoted-first mark prefix bytes i h e = rw (drop-cons bytes i 0 h, e, add-one) refl

pub unquoted-second : (mark : ℕ) (prefix bytes : List ℕ) (i : ℕ) → i < length bytes → nat_eq (get_or bytes i 0) mark ≡ true
    → behind prefix (unquoted mark true (drop i bytes)) ≡ behind (prefix ++ get_or bytes i 0 ∷ []) (unquoted mark false (drop (i + 1) bytes))
unquoted-second mark prefix bytes i h e =
    rw (drop-cons bytes i 0 h, e, add-one)
    (ap (λ m. behind prefix (behind (m ∷ []) (unquoted mark false (drop (suc i) bytes)))) (sym (eqb-true (get_or bytes i 0) mark e)) ∙ behind-behind prefix (get_or bytes i 0) _)

pub unquoted-other : (mark : ℕ) (prefix bytes : List ℕ) (i : ℕ) → i < length bytes → nat_eq (get_or bytes i 0) mark ≡ false
    → behind prefix (unquoted mark false (drop i bytes)) ≡ behind (prefix ++ get_or bytes i 0 ∷ []) (unquoted mark false (drop (i + 1) bytes))
unquoted-other mark prefix bytes i h e = rw (drop-cons bytes i 0 h, e, add-one) (behind-behind prefix (get_or bytes i 0) _)

pub unquoted-alone : (mark : ℕ) (prefix bytes : List ℕ) (i : ℕ) → i < length bytes → nat_eq (get_or bytes i 0) mark ≡ false
    → behind prefix (unquoted mark true (drop i bytes)) ≡ None
unquoted-alone mark prefix bytes i h e = rw (drop-cons bytes i 0 h, e) refl

-- ---- against doubling
behind-some : (byte : ℕ) (o : Option (List ℕ)) (inside : List ℕ) → behind (byte ∷ []) o ≡ Some inside → (rest : List ℕ) × (o ≡ Some rest) × (inside ≡ byte ∷ rest)
behind-some byte None inside e = absurd cc
behind-some byte (Some rest) inside e = let same : byte ∷ rest ≡ inside = cc in (rest, refl, sym same)

pub unquoted-doubled : (mark : ℕ) (inside : List ℕ) → unquoted mark false (doubled mark inside ++ mark ∷ []) ≡ Some inside
unquoted-doubled mark [] = rw (equal_self mark) refl
unquoted-doubled mark (byte ∷ inside) = elim (cases_Bool (nat_eq byte mark)) [
  | inl same ↦ rw same (rw (equal_self mark, unquoted-doubled mark inside) (ap (λ b. Some (b ∷ inside)) (sym (eqb-true byte mark same))))
  | inr other ↦ rw (other, other, unquoted-doubled mark inside) refl
]

-- a mark that stands just before
abbrev before : ℕ → Bool → List ℕ → List ℕ
before mark true bytes = mark ∷ bytes
before mark false bytes = bytes

-- the inside, and the mark that ends it
abbrev ended : ℕ → List ℕ → List ℕ
ended mark inside = doubled mark inside ++ mark ∷ []

ended-mark : (mark : ℕ) (inside : List ℕ) → ended mark (mark ∷ inside) ≡ mark ∷ mark ∷ ended mark inside
ended-mark mark inside = rw (equal_self mark) refl

ended-other : (mark byte : ℕ) (inside : List ℕ) → nat_eq byte mark ≡ false → ended mark (byte ∷ inside) ≡ byte ∷ ended mark inside
ended-other mark byte inside other = rw other refl

second_mark : (mark : ℕ) (bytes rest : List ℕ) → bytes ≡ ended mark rest → mark ∷ mark ∷ bytes ≡ ended mark (mark ∷ rest)
second_mark mark bytes rest e = ap (λ t. mark ∷ mark ∷ t) e ∙ sym (ended-mark mark rest)

other_byte : (mark byte : ℕ) (bytes rest : List ℕ) → nat_eq byte mark ≡ false → bytes ≡ ended mark rest → byte ∷ bytes ≡ ended mark (byte ∷ rest)
other_byte mark byte bytes rest other e = ap (λ t. byte ∷ t) e ∙ sym (ended-other mark byte rest other)

pub ended-unquoted : (mark : ℕ) (marked : Bool) (bytes inside : List ℕ) → unquoted mark marked bytes ≡ Some inside → before mark marked bytes ≡ ended mark inside
ended-unquoted mark true [] inside e = let none : [] ≡ inside = cc in ap (ended mark) none
ended-unquoted mark false [] inside e = absurd cc
ended-unquoted mark true (byte ∷ bytes) inside e = elim (cases_Bool (nat_eq byte mark)) [
  | inl same ↦
      let k = behind-some mark (unquoted mark false bytes) inside (rw same at e) in
      ap (λ b. mark ∷ b ∷ bytes) (eqb-true byte mark same) ∙ second_mark mark bytes k.0 (ended-unquoted mark false bytes k.0 k.1) ∙ ap (ended mark) (sym k.2)
  | inr other ↦ let f : ◌≡◌ {A = Option (List ℕ)} None (Some inside) = rw other at e in absurd cc
]
ended-unquoted mark false (byte ∷ bytes) inside e = elim (cases_Bool (nat_eq byte mark)) [
  | inl same ↦ ap (λ b. b ∷ bytes) (eqb-true byte mark same) ∙ ended-unquoted mark true bytes inside (rw same at e)
  | inr other ↦
      let k = behind-some byte (unquoted mark false bytes) inside (rw other at e) in
      other_byte mark byte bytes k.0 other (ended-unquoted mark false bytes k.0 k.1) ∙ ap (ended mark) (sym k.2)
]

-- ---- quoted names
inside_some : (bytes inside name : List ℕ) → bytes ≡ double_quote ∷ ended double_quote inside → some_name inside ≡ Some name → SpellsName Quoted bytes name
inside_some bytes [] name e f = absurd cc
inside_some bytes (x ∷ xs) name e f =
    let same : x ∷ xs ≡ name = cc in
    subst (SpellsName Quoted bytes) same ((λ none. cc), e)

name_inside : (bytes rest : List ℕ) (found : Option (List ℕ)) (name : List ℕ) → bytes ≡ double_quote ∷ rest → unquoted double_quote false rest ≡ found
    → option_and_then some_name found ≡ Some name → SpellsName Quoted bytes name
name_inside bytes rest None name e u f = absurd cc
name_inside bytes rest (Some inside) name e u f = inside_some bytes inside name (e ∙ ap (λ t. double_quote ∷ t) (ended-unquoted double_quote false rest inside u)) f

quoted_spells : (bytes name : List ℕ) → quoted_name bytes ≡ Some name → SpellsName Quoted bytes name
quoted_spells [] name e = absurd cc
quoted_spells (byte ∷ bytes) name e = elim (cases_Bool (nat_eq byte double_quote)) [
  | inl same ↦ name_inside (byte ∷ bytes) bytes (unquoted double_quote false bytes) name (ap (λ b. b ∷ bytes) (eqb-true byte double_quote same)) refl (rw same at e)
  | inr other ↦ let f : ◌≡◌ {A = Option (List ℕ)} None (Some name) = rw other at e in absurd cc
]

some_name-some : (name : List ℕ) → name ≢ [] → some_name name ≡ Some name
some_name-some [] some = absurd (some refl)
some_name-some (x ∷ xs) some = refl

-- a name that the bytes spell is found
quoted_found : (bytes name : List ℕ) → SpellsName Quoted bytes name → quoted_name bytes ≡ Some name
quoted_found bytes name (some, e) = ap quoted_name e ∙ ap (option_and_then some_name) (unquoted-doubled double_quote name) ∙ some_name-some name some

pub quoted_is : (r : Result (Option (List ℕ)) AllocError) (bytes : List ℕ) → IfOk r (λ found. found ≡ quoted_name bytes) → IfOk r (λ found. IfSome found (SpellsName Quoted bytes))
quoted_is (Ok None) bytes e = tt
quoted_is (Ok (Some name)) bytes e = quoted_spells bytes name (sym e)
quoted_is (Err error) bytes e = tt

pub no_quoted : (r : Result (Option (List ℕ)) AllocError) (bytes : List ℕ) → IfOk r (λ found. found ≡ quoted_name bytes) → IfOk r (λ found. IfNone found ((name : List ℕ) → SpellsName Quoted bytes name → ⊥))
no_quoted (Ok None) bytes e = λ name spells. let f : ◌≡◌ {A = Option (List ℕ)} None (Some name) = e ∙ quoted_found bytes name spells in cc
no_quoted (Ok (Some name)) bytes e = tt
no_quoted (Err error) bytes e = tt

-- ---- one name
pub same_name : (kind : TokenKind) (bytes a b : List ℕ) → SpellsName kind bytes a → SpellsName kind bytes b → a ≡ b
same_name Word bytes a b h k = h.0 ∙ sym k.0
same_name Quoted bytes a b h k = let f : ◌≡◌ {A = Option (List ℕ)} (Some a) (Some b) = sym (quoted_found bytes a h) ∙ quoted_found bytes b k in cc
same_name Number bytes a b h k = absurd h
same_name Text bytes a b h k = absurd h
same_name Symbol bytes a b h k = absurd h

pub ruleset unquoting = (behind-nothing, append-nil, unquoted-first, unquoted-second, unquoted-other, unquoted-alone)
