-- What the first byte of a token or a fault tells.
use Rattle.std.proofs.Common.{◌≡◌, ℕ, Bool, true, false, nat_eq, ◌||◌, List, [], ◌∷◌, ◌++◌, refl, sym, subst, inl, inr, ◌⊎◌, arith}
use Rattle.std.proofs.lemmas.Bool.Decides.{nat_tests}
use Rattle.sql_lex.specs.declared.token.TokenKind.{TokenKind}
use Rattle.sql_lex.specs.declared.token.TokenKind.TheVariants.{Word, Quoted, Number, Text, Symbol}
use Rattle.sql_lex.specs.declared.token.LexCode.{LexCode}
use Rattle.sql_lex.specs.declared.token.LexCode.TheVariants.{BadByte, OpenString, OpenComment, OpenName, BadNumber}
use Rattle.sql_lex.specs.Bytes.{begins_word, is_blank, is_digit, quote, double_quote, point}
use Rattle.sql_lex.specs.Faults.{HasFault}
use Rattle.sql_lex.specs.Classes.{IsToken, IsNumber, AreDigits, IsSymbol, is_single, is_pair}

-- the byte may begin a token of the kind
abbrev pub begins : TokenKind → ℕ → Bool
begins Word byte = begins_word byte
begins Quoted byte = nat_eq byte double_quote
begins Number byte = is_digit byte || nat_eq byte point
begins Text byte = nat_eq byte quote
begins Symbol byte = is_single byte || (nat_eq byte 33 || nat_eq byte 124)

pair_begins : (x y : ℕ) → is_pair x y ≡ true → begins Symbol x ≡ true
pair_begins x y e = grind (arith, nat_tests)

pub first_digit : (x : ℕ) (xs whole rest : List ℕ) → x ∷ xs ≡ whole ++ rest → AreDigits whole → is_digit x ≡ true
first_digit x xs [] rest e digits = absurd digits
first_digit x xs (w ∷ ws) rest e digits = let same : w ≡ x = cc in subst (λ b. is_digit b ≡ true) same digits.0

number_begins : (x : ℕ) (xs : List ℕ) → IsNumber (x ∷ xs) → begins Number x ≡ true
number_begins x xs (inl digits) = rw digits.0 refl
number_begins x xs (inr (inl (whole, part, e, digits, more))) = rw (first_digit x xs whole (point ∷ part) e digits) refl
number_begins x xs (inr (inr (part, e, digits))) = let same : x ≡ point = cc in rw same refl

symbol_begins : (x : ℕ) (xs : List ℕ) → IsSymbol (x ∷ xs) → begins Symbol x ≡ true
symbol_begins x [] single = rw single refl
symbol_begins x (y ∷ []) pair = pair_begins x y pair
symbol_begins x (y ∷ z ∷ xs) none = absurd none

pub first_byte : (kind : TokenKind) (x : ℕ) (xs : List ℕ) → IsToken kind (x ∷ xs) → begins kind x ≡ true
first_byte Word x xs word = word.0
first_byte Quoted x xs (inside, some, e) = let same : x ≡ double_quote = cc in rw same refl
first_byte Number x xs number = number_begins x xs number
first_byte Text x xs (inside, e) = let same : x ≡ quote = cc in rw same refl
first_byte Symbol x xs symbol = symbol_begins x xs symbol

no_number : IsNumber [] → ⊥
no_number (inl digits) = digits
no_number (inr (inl ([], part, e, digits, more))) = digits
no_number (inr (inl (w ∷ ws, part, e, digits, more))) = cc
no_number (inr (inr (part, e, digits))) = cc

pub no_bytes : (kind : TokenKind) → IsToken kind [] → ⊥
no_bytes Word word = word
no_bytes Quoted (inside, some, e) = cc
no_bytes Number number = no_number number
no_bytes Text (inside, e) = cc
no_bytes Symbol symbol = symbol

-- ---- bytes that begin no two kinds
pub blank_begins : (kind : TokenKind) (x : ℕ) → begins kind x ≡ true → is_blank x ≡ false
blank_begins Word x e = grind (arith, nat_tests)
blank_begins Quoted x e = grind (arith, nat_tests)
blank_begins Number x e = grind (arith, nat_tests)
blank_begins Text x e = grind (arith, nat_tests)
blank_begins Symbol x e = grind (arith, nat_tests)

pub begins_word-kind : (kind : TokenKind) (x : ℕ) → begins_word x ≡ true → begins kind x ≡ true → kind ≡ Word
begins_word-kind Word x w e = refl
begins_word-kind Quoted x w e = absurd (let f : true ≡ false = grind (arith, nat_tests) in cc)
begins_word-kind Number x w e = absurd (let f : true ≡ false = grind (arith, nat_tests) in cc)
begins_word-kind Text x w e = absurd (let f : true ≡ false = grind (arith, nat_tests) in cc)
begins_word-kind Symbol x w e = absurd (let f : true ≡ false = grind (arith, nat_tests) in cc)

pub number_kind : (kind : TokenKind) (x : ℕ) → begins Number x ≡ true → begins kind x ≡ true → (kind ≡ Number) ⊎ (kind ≡ Symbol)
number_kind Word x n e = absurd (let f : true ≡ false = grind (arith, nat_tests) in cc)
number_kind Quoted x n e = absurd (let f : true ≡ false = grind (arith, nat_tests) in cc)
number_kind Number x n e = inl refl
number_kind Text x n e = absurd (let f : true ≡ false = grind (arith, nat_tests) in cc)
number_kind Symbol x n e = inr refl

pub quote_kind : (kind : TokenKind) → begins kind quote ≡ true → kind ≡ Text
quote_kind Word e = absurd (let f : ◌≡◌ {A = Bool} false true = e in cc)
quote_kind Quoted e = absurd (let f : ◌≡◌ {A = Bool} false true = e in cc)
quote_kind Number e = absurd (let f : ◌≡◌ {A = Bool} false true = e in cc)
quote_kind Text e = refl
quote_kind Symbol e = absurd (let f : ◌≡◌ {A = Bool} false true = e in cc)

pub double_quote_kind : (kind : TokenKind) → begins kind double_quote ≡ true → kind ≡ Quoted
double_quote_kind Word e = absurd (let f : ◌≡◌ {A = Bool} false true = e in cc)
double_quote_kind Quoted e = refl
double_quote_kind Number e = absurd (let f : ◌≡◌ {A = Bool} false true = e in cc)
double_quote_kind Text e = absurd (let f : ◌≡◌ {A = Bool} false true = e in cc)
double_quote_kind Symbol e = absurd (let f : ◌≡◌ {A = Bool} false true = e in cc)

-- a symbol that begins like a number is one byte
pub number_symbol : (x : ℕ) (xs : List ℕ) → begins Number x ≡ true → IsSymbol (x ∷ xs) → xs ≡ []
number_symbol x [] n symbol = refl
number_symbol x (y ∷ []) n symbol = absurd (let f : true ≡ false = grind (arith, nat_tests) in cc)
number_symbol x (y ∷ z ∷ xs) n symbol = absurd symbol

point_alone : (xs : List ℕ) → IsNumber (point ∷ xs) → xs ≡ [] → ⊥
point_alone xs (inl digits) none = let f : ◌≡◌ {A = Bool} false true = digits.0 in cc
point_alone xs (inr (inl (whole, part, e, digits, more))) none =
    let f : ◌≡◌ {A = Bool} false true = first_digit point xs whole (point ∷ part) e digits in cc
point_alone xs (inr (inr (part, e, digits))) none =
    let same : [] ≡ part = cc in
    subst AreDigits (sym same) digits

-- no bytes are a number and a symbol
pub number_or_symbol : (x : ℕ) (xs : List ℕ) → IsNumber (x ∷ xs) → IsSymbol (x ∷ xs) → ⊥
number_or_symbol x xs number symbol =
    let begin : begins Number x ≡ true = number_begins x xs number in
    let none = number_symbol x xs begin symbol in
    let single : is_single x ≡ true = subst (λ t. IsSymbol (x ∷ t)) none symbol in
    let same : x ≡ point = grind (arith, nat_tests) in
    point_alone xs (subst (λ b. IsNumber (b ∷ xs)) same number) none

-- ---- faults
-- the byte may begin the fault
abbrev pub fault_begins : LexCode → ℕ → Bool
fault_begins BadByte byte = true
fault_begins OpenString byte = nat_eq byte quote
fault_begins OpenComment byte = nat_eq byte 47
fault_begins OpenName byte = nat_eq byte double_quote
fault_begins BadNumber byte = is_digit byte || nat_eq byte point

bad_number_begins : (x : ℕ) (xs number rest : List ℕ) → x ∷ xs ≡ number ++ rest → IsNumber number → begins Number x ≡ true
bad_number_begins x xs [] rest e number = absurd (no_number number)
bad_number_begins x xs (y ∷ ys) rest e number = let same : y ≡ x = cc in subst (λ b. begins Number b ≡ true) same (number_begins y ys number)

pub fault_byte : (code : LexCode) (x : ℕ) (xs : List ℕ) → HasFault code (x ∷ xs) → fault_begins code x ≡ true
fault_byte BadByte x xs fault = refl
fault_byte OpenString x xs (inside, e) = let same : x ≡ quote = cc in rw same refl
fault_byte OpenComment x xs (inside, e, open_) = let same : x ≡ 47 = cc in rw same refl
fault_byte OpenName x xs (inl (inside, e)) = let same : x ≡ double_quote = cc in rw same refl
fault_byte OpenName x xs (inr (rest, e, alone)) = let same : x ≡ double_quote = cc in rw same refl
fault_byte BadNumber x xs fault = bad_number_begins x xs fault.number (fault.next ∷ fault.rest) fault.parts fault.is_number

nothing_before : (bytes : List ℕ) (next : ℕ) (rest : List ℕ) → [] ≡ bytes ++ next ∷ rest → ⊥
nothing_before [] next rest e = cc
nothing_before (x ∷ bytes) next rest e = cc

pub no_fault_in_nothing : (code : LexCode) → HasFault code [] → ⊥
no_fault_in_nothing BadByte fault = fault
no_fault_in_nothing OpenString (inside, e) = cc
no_fault_in_nothing OpenComment (inside, e, open_) = cc
no_fault_in_nothing OpenName (inl (inside, e)) = cc
no_fault_in_nothing OpenName (inr (rest, e, alone)) = cc
no_fault_in_nothing BadNumber fault = nothing_before fault.number fault.next fault.rest fault.parts
