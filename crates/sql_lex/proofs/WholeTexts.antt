-- What is found from a place of a text on are its tokens and its first fault, and there are no others.
use Rattle.std.proofs.Common.{◌≡◌, ◌==◌, ℕ, zero, suc, ◌+◌, ◌<◌, ◌≤◌, true, false, List, [], ◌∷◌, ◌++◌, length, take, drop, Option, Some, None, Result, Ok, Err, refl, sym, ap, ◌∙◌, subst, arith, inl, inr, ◌⊎◌, append_assoc, add-zero}
use Rattle.std.specs.List.{All, list_all, concat}
use Rattle.std.proofs.lemmas.Bool.{and_parts}
use Rattle.std.proofs.lemmas.Bool.Decides.{nat_tests}
use Rattle.std.proofs.lemmas.List.{length-append}
use Rattle.std.proofs.lemmas.List.Elements.{All-nil, All-cons}
use Rattle.std.proofs.lemmas.List.Prefix.{front_rest}
use Rattle.std.proofs.Math.Seq.{take-append_seam}
use Rattle.sql_lex.specs.declared.front.Piece.{Piece}
use Rattle.sql_lex.specs.declared.front.Piece.TheVariants as pieces
use Rattle.sql_lex.specs.declared.token.LexCode.{LexCode}
use Rattle.sql_lex.specs.declared.token.LexFault.{LexFault}
use Rattle.sql_lex.specs.declared.token.TokenKind.{TokenKind}
use Rattle.sql_lex.specs.Bytes.{is_blank}
use Rattle.sql_lex.specs.Lexemes.{Lexeme, Lexed, nothing, with_first, fault_alone}
use Rattle.sql_lex.specs.Gaps.{AreGaps, IsGap}
use Rattle.sql_lex.specs.Faults.{HasFault}
use Rattle.sql_lex.specs.Tokens.{HasGap, IsTokenBefore, Lexes, TokensOf, IsFirstFault, IsSliceOf, AreInOrder}
use Rattle.sql_lex.specs.Front.{first_piece}
use Rattle.sql_lex.specs.Lexing.{with_piece, lexed_within, lexed}
use Rattle.sql_lex.proofs.FirstBytes.{no_bytes, no_fault_in_nothing}
use Rattle.sql_lex.proofs.Numbers.{drop_front}
use Rattle.sql_lex.proofs.Pieces.{Found, FoundGap}
use Rattle.sql_lex.proofs.Sound.{Sound, sound}
use Rattle.sql_lex.proofs.OnePiece.{token_first, fault_first, blank_first, line_first, block_first}

-- ---- one piece
-- a piece takes some bytes, and no more than there are
abbrev pub Takes : List ℕ → Result Piece LexCode → Type 0
Takes text (Ok (pieces.Gap n)) = (0 < n) × (n ≤ length text) × (length (drop n text) < length text)
Takes text (Ok (pieces.Lexeme kind n)) = (0 < n) × (n ≤ length text) × (length (drop n text) < length text)
Takes text (Err code) = Unit {0}

some_taken : (n : ℕ) (text bytes rest : List ℕ) → text ≡ bytes ++ rest → length bytes ≡ n → 0 < n → (0 < n) × (n ≤ length text) × (length (drop n text) < length text)
some_taken n text bytes rest parts size some =
    let whole : length text ≡ n + length rest = ap length parts ∙ length-append bytes rest ∙ ap (λ k. k + length rest) size in
    let left : drop n text ≡ rest = ap (λ k. drop k text) (sym size) ∙ front_rest text bytes rest parts in
    (some, omega arith, rw left (omega arith))

token_size : (kind : TokenKind) (bytes rest : List ℕ) → IsTokenBefore kind bytes rest → 0 < length bytes
token_size kind [] rest before = absurd (no_bytes kind before.is_token)
token_size kind (x ∷ xs) rest before = omega arith

takes_sound : (text : List ℕ) (p : Result Piece LexCode) → Sound text p → Takes text p
takes_sound text (Ok (pieces.Gap n)) here = some_taken n text here.bytes here.rest here.parts here.size here.some
takes_sound text (Ok (pieces.Lexeme kind n)) here = some_taken n text here.bytes here.rest here.parts here.size (omega (arith, token_size kind here.bytes here.rest here.before, here.size))
takes_sound text (Err code) here = tt

pub takes : (x : ℕ) (xs : List ℕ) → Takes (x ∷ xs) (first_piece (x ∷ xs))
takes x xs = takes_sound (x ∷ xs) (first_piece (x ∷ xs)) (sound x xs)

-- ---- as many steps as there are bytes are enough
same_behind : (f g : ℕ → List ℕ → Lexed) (at : ℕ) (text : List ℕ) (p : Result Piece LexCode) → Takes text p
    → ((place : ℕ) (rest : List ℕ) → length rest < length text → f place rest ≡ g place rest) → with_piece f at text p ≡ with_piece g at text p
same_behind f g at text (Ok (pieces.Gap n)) t same = same (at + n) (drop n text) t.2
same_behind f g at text (Ok (pieces.Lexeme kind n)) t same = ap (with_first (record { kind = kind; text = take n text; start = at })) (same (at + n) (drop n text) t.2)
same_behind f g at text (Err code) t same = refl

enough : (s t : ℕ) (at : ℕ) (text : List ℕ) → length text ≤ s → length text ≤ t → lexed_within s at text ≡ lexed_within t at text
unfolding lexed_within
enough zero zero at [] h k = refl
enough zero (suc t) at [] h k = refl
enough (suc s) zero at [] h k = refl
enough (suc s) (suc t) at [] h k = refl
enough zero t at (x ∷ xs) h k = absurd (omega arith)
enough (suc s) zero at (x ∷ xs) h k = absurd (omega arith)
enough (suc s) (suc t) at (x ∷ xs) h k =
    same_behind (lexed_within s) (lexed_within t) at (x ∷ xs) (first_piece (x ∷ xs)) (takes x xs)
    (λ place rest less. enough s t place rest (omega arith) (omega arith))

pub lexed-nothing : (at : ℕ) → lexed at [] ≡ nothing
unfolding lexed lexed_within
lexed-nothing at = refl

-- what a text holds is its first piece, and what stands behind that
pub lexed-piece : (at x : ℕ) (xs : List ℕ) → lexed at (x ∷ xs) ≡ with_piece lexed at (x ∷ xs) (first_piece (x ∷ xs))
unfolding lexed lexed_within
lexed-piece at x xs =
    same_behind (lexed_within (length xs)) lexed at (x ∷ xs) (first_piece (x ∷ xs)) (takes x xs)
    (λ place rest less. enough (length xs) (length rest) place rest (omega arith) (omega arith))

-- ---- what is found is there
abbrev LexesTo : ℕ → List ℕ → Lexed → Type 0
LexesTo at text lexed = Lexes at text lexed.tokens lexed.fault

no_gap : (at : ℕ) (text : List ℕ) → HasGap at text text at
no_gap at text = record { pieces = []; parts = refl; are_gaps = tt; place = sym (add-zero at) }

gap_before : (at : ℕ) (bytes text rest : List ℕ) (start : ℕ) → IsGap bytes text → HasGap (at + length bytes) text rest start → HasGap at (bytes ++ text) rest start
gap_before at bytes text rest start gap more = record {
  pieces = bytes ∷ more.pieces;
  parts = ap (λ t. bytes ++ t) more.parts ∙ sym (append_assoc bytes (concat more.pieces) rest);
  are_gaps = (subst (IsGap bytes) more.parts gap, more.are_gaps);
  place = omega (arith, more.place, length-append bytes (concat more.pieces));
}

behind_gap : (at : ℕ) (bytes text : List ℕ) (tokens : List Lexeme) (fault : Option LexFault) → IsGap bytes text → Lexes (at + length bytes) text tokens fault → Lexes at (bytes ++ text) tokens fault
behind_gap at bytes text [] None gap more = (more.0, gap_before at bytes text [] more.0 gap more.1)
behind_gap at bytes text [] (Some fault) gap more = (more.0, gap_before at bytes text more.0 fault.at gap more.1, more.2)
behind_gap at bytes text (token ∷ tokens) fault gap more = (more.0, gap_before at bytes text (token.text ++ more.0) token.start gap more.1, more.2, more.3)

gap_lexes : (at n : ℕ) (text : List ℕ) (behind : Lexed) → FoundGap n text → LexesTo (at + n) (drop n text) behind → LexesTo at text behind
gap_lexes at n text behind here more =
    let left : drop n text ≡ here.rest = ap (λ k. drop k text) (sym here.size) ∙ front_rest text here.bytes here.rest here.parts in
    let there : LexesTo (at + length here.bytes) here.rest behind = subst (λ k. LexesTo (at + k) here.rest behind) (sym here.size) (subst (λ t. LexesTo (at + n) t behind) left more) in
    subst (λ t. LexesTo at t behind) (sym here.parts) (behind_gap at here.bytes here.rest behind.tokens behind.fault here.gap there)

token_lexes : (at n : ℕ) (kind : TokenKind) (text : List ℕ) (behind : Lexed) → Found kind n text → LexesTo (at + n) (drop n text) behind
    → LexesTo at text (with_first (record { kind = kind; text = take n text; start = at }) behind)
token_lexes at n kind text behind here more =
    let left : drop n text ≡ here.rest = ap (λ k. drop k text) (sym here.size) ∙ front_rest text here.bytes here.rest here.parts in
    let front : take n text ≡ here.bytes = ap (λ k. take k text) (sym here.size) ∙ ap (take (length here.bytes)) here.parts ∙ take-append_seam here.bytes here.rest in
    let there : LexesTo (at + length here.bytes) here.rest behind = subst (λ k. LexesTo (at + k) here.rest behind) (sym here.size) (subst (λ t. LexesTo (at + n) t behind) left more) in
    subst (λ t. LexesTo at text (with_first (record { kind = kind; text = t; start = at }) behind)) (sym front)
    (here.rest, subst (λ t. HasGap at text t at) here.parts (no_gap at text), here.before, there)

piece_lexes : (more : ℕ → List ℕ → Lexed) (at : ℕ) (text : List ℕ) (p : Result Piece LexCode) → Sound text p
    → ((place : ℕ) (rest : List ℕ) → length rest < length text → LexesTo place rest (more place rest)) → LexesTo at text (with_piece more at text p)
piece_lexes more at text (Ok (pieces.Gap n)) here lexes =
    gap_lexes at n text (more (at + n) (drop n text)) here (lexes (at + n) (drop n text) (takes_sound text (Ok (pieces.Gap n)) here).2)
piece_lexes more at text (Ok (pieces.Lexeme kind n)) here lexes =
    token_lexes at n kind text (more (at + n) (drop n text)) here (lexes (at + n) (drop n text) (takes_sound text (Ok (pieces.Lexeme kind n)) here).2)
piece_lexes more at text (Err code) here lexes = (text, no_gap at text, here)

lexes_within : (steps at : ℕ) (text : List ℕ) → length text ≤ steps → LexesTo at text (lexed_within steps at text)
unfolding lexed_within
lexes_within zero at [] h = (at, no_gap at [])
lexes_within (suc steps) at [] h = (at, no_gap at [])
lexes_within zero at (x ∷ xs) h = absurd (omega arith)
lexes_within (suc steps) at (x ∷ xs) h =
    piece_lexes (lexed_within steps) at (x ∷ xs) (first_piece (x ∷ xs)) (sound x xs) (λ place rest less. lexes_within steps place rest (omega arith))

pub lexes : (at : ℕ) (text : List ℕ) → Lexes at text (lexed at text).tokens (lexed at text).fault
unfolding lexed
lexes at text = lexes_within (length text) at text (omega arith)

-- ---- what is there is found
passed : (at : ℕ) (bytes text : List ℕ) → 0 < length bytes → first_piece (bytes ++ text) ≡ Ok (pieces.Gap (length bytes)) → lexed at (bytes ++ text) ≡ lexed (at + length bytes) text
passed at [] text some e = absurd (omega arith)
passed at (x ∷ xs) text some e =
    lexed-piece at x (xs ++ text) ∙ ap (with_piece lexed at (x ∷ (xs ++ text))) e ∙ ap (lexed (at + suc (length xs))) (drop_front (x ∷ xs) text)

past_blanks : (at : ℕ) (bytes text : List ℕ) → list_all is_blank bytes ≡ true → lexed at (bytes ++ text) ≡ lexed (at + length bytes) text
past_blanks at [] text all = ap (λ k. lexed k text) (sym (add-zero at))
past_blanks at (x ∷ xs) text all =
    let h = and_parts (is_blank x) (list_all is_blank xs) all in
    passed at (x ∷ []) (xs ++ text) (omega arith) (blank_first x (xs ++ text) h.0) ∙ past_blanks (at + 1) xs text h.1 ∙ ap (λ k. lexed k text) (omega arith)

line_size : (bytes body : List ℕ) (x y : ℕ) → bytes ≡ x ∷ y ∷ body → 0 < length bytes
line_size bytes body x y e = rw e (omega arith)

past_gap : (at : ℕ) (bytes text : List ℕ) → IsGap bytes text → lexed at (bytes ++ text) ≡ lexed (at + length bytes) text
past_gap at bytes text (inl blanks) = past_blanks at bytes text blanks
past_gap at bytes text (inr (inl line)) = passed at bytes text (line_size bytes line.0 45 45 line.1) (line_first bytes text line)
past_gap at bytes text (inr (inr block)) = passed at bytes text (line_size bytes (block.0 ++ 42 ∷ 47 ∷ []) 47 42 block.1) (block_first bytes text block)

past_gaps : (at : ℕ) (gaps : List (List ℕ)) (rest : List ℕ) → AreGaps gaps rest → lexed at (concat gaps ++ rest) ≡ lexed (at + length (concat gaps)) rest
past_gaps at [] rest are = ap (λ k. lexed k rest) (sym (add-zero at))
past_gaps at (gap ∷ gaps) rest are =
    let place : at + length gap + length (concat gaps) ≡ at + length (gap ++ concat gaps) = omega (arith, length-append gap (concat gaps)) in
    ap (lexed at) (append_assoc gap (concat gaps) rest) ∙ past_gap at gap (concat gaps ++ rest) are.0 ∙ past_gaps (at + length gap) gaps rest are.1 ∙ ap (λ k. lexed k rest) place

past : (at : ℕ) (text rest : List ℕ) (start : ℕ) → HasGap at text rest start → lexed at text ≡ lexed start rest
past at text rest start gap = ap (lexed at) gap.parts ∙ past_gaps at gap.pieces rest gap.are_gaps ∙ ap (λ k. lexed k rest) (sym gap.place)

fault_there : (fault : LexFault) (rest : List ℕ) → HasFault fault.code rest → lexed fault.at rest ≡ fault_alone fault
fault_there fault [] has = absurd (no_fault_in_nothing fault.code has)
fault_there fault (x ∷ xs) has = lexed-piece fault.at x xs ∙ ap (with_piece lexed fault.at (x ∷ xs)) (fault_first fault.code x xs has)

token_at : (kind : TokenKind) (start : ℕ) (bytes rest : List ℕ) → with_piece lexed start (bytes ++ rest) (Ok (pieces.Lexeme kind (length bytes)))
    ≡ with_first (record { kind = kind; text = bytes; start = start }) (lexed (start + length bytes) rest)
token_at kind start bytes rest = rw (take-append_seam bytes rest, drop_front bytes rest) refl

token_there : (kind : TokenKind) (start : ℕ) (bytes rest : List ℕ) → IsTokenBefore kind bytes rest
    → lexed start (bytes ++ rest) ≡ with_first (record { kind = kind; text = bytes; start = start }) (lexed (start + length bytes) rest)
token_there kind start [] rest before = absurd (no_bytes kind before.is_token)
token_there kind start (x ∷ xs) rest before =
    lexed-piece start x (xs ++ rest) ∙ ap (with_piece lexed start (x ∷ (xs ++ rest))) (token_first kind (x ∷ xs) rest before) ∙ token_at kind start (x ∷ xs) rest

pub lexed-is : (at : ℕ) (text : List ℕ) (tokens : List Lexeme) (fault : Option LexFault) → Lexes at text tokens fault → lexed at text ≡ record { tokens = tokens; fault = fault }
lexed-is at text [] None (start, gap) = past at text [] start gap ∙ lexed-nothing start
lexed-is at text [] (Some fault) (rest, gap, has) = past at text rest fault.at gap ∙ fault_there fault rest has
lexed-is at text (token ∷ tokens) fault (rest, gap, before, others) =
    past at text (token.text ++ rest) token.start gap ∙ token_there token.kind token.start token.text rest before
    ∙ ap (with_first token) (lexed-is (token.start + length token.text) rest tokens fault others)

-- ---- laws
pub same_tokens : (at : ℕ) (text : List ℕ) (a b : List Lexeme) (f g : Option LexFault) → Lexes at text a f → Lexes at text b g → (a ≡ b) × (f ≡ g)
same_tokens at text a b f g h k =
    let same : record { tokens = a; fault = f } ≡ record { tokens = b; fault = g } = sym (lexed-is at text a f h) ∙ lexed-is at text b g k in
    (λ i. (same i).tokens, λ i. (same i).fault)

abbrev pub HasTokensOrFault : List ℕ → Type 0
HasTokensOrFault text = ((tokens : List Lexeme) × TokensOf text tokens) ⊎ ((fault : LexFault) × IsFirstFault text fault)

either : (text : List ℕ) (tokens : List Lexeme) (fault : Option LexFault) → Lexes 0 text tokens fault → HasTokensOrFault text
either text tokens None h = inl (tokens, h)
either text tokens (Some fault) h = inr (fault, (tokens, h))

pub tokens_or_fault : (text : List ℕ) → HasTokensOrFault text
tokens_or_fault text = either text (lexed 0 text).tokens (lexed 0 text).fault (lexes 0 text)

pub not_both : (text : List ℕ) (tokens : List Lexeme) (fault : LexFault) → TokensOf text tokens → IsFirstFault text fault → ⊥
not_both text tokens fault h (others, k) = let f : ◌≡◌ {A = Option LexFault} None (Some fault) = (same_tokens 0 text tokens others None (Some fault) h k).1 in cc

pub same_fault : (text : List ℕ) (fault other : LexFault) → IsFirstFault text fault → IsFirstFault text other → fault ≡ other
same_fault text fault other (a, h) (b, k) = let f : ◌≡◌ {A = Option LexFault} (Some fault) (Some other) = (same_tokens 0 text a b (Some fault) (Some other) h k).1 in cc

pub in_order : (at : ℕ) (text : List ℕ) (tokens : List Lexeme) (fault : Option LexFault) → Lexes at text tokens fault → AreInOrder at tokens
in_order at text [] fault h = tt
in_order at text (token ∷ tokens) fault (rest, gap, before, others) = (omega (arith, gap.place), in_order (token.start + length token.text) rest tokens fault others)

-- ---- one step of the lexer
-- what a gap leaves
pub record Passes (at n : ℕ) (text : List ℕ) : Type 0 where
  pub some : 0 < n
  pub within : n ≤ length text
  pub held : lexed (at + n) (drop n text) ≡ lexed at text

pub passes_gap : (at n : ℕ) (piece : Piece) (text : List ℕ) → false ≡ (length text == 0) → Ok piece ≡ first_piece text → piece ≡ pieces.Gap n → Passes at n text
passes_gap at n piece [] some e gap = absurd cc
passes_gap at n piece (x ∷ xs) some e gap =
    let f : first_piece (x ∷ xs) ≡ Ok (pieces.Gap n) = sym e ∙ ap Ok gap in
    let t : Takes (x ∷ xs) (Ok (pieces.Gap n)) = subst (Takes (x ∷ xs)) f (takes x xs) in
    record { some = t.0; within = t.1; held = sym (lexed-piece at x xs ∙ ap (with_piece lexed at (x ∷ xs)) f) }

-- what a token leaves
pub record Gives (at n : ℕ) (kind : TokenKind) (text : List ℕ) : Type 0 where
  pub within : n ≤ length text
  pub held : lexed at text ≡ with_first (record { kind = kind; text = take n text; start = at }) (lexed (at + n) (drop n text))

pub gives_token : (at n : ℕ) (kind : TokenKind) (piece : Piece) (text : List ℕ) → false ≡ (length text == 0) → Ok piece ≡ first_piece text → piece ≡ pieces.Lexeme kind n → Gives at n kind text
gives_token at n kind piece [] some e token = absurd cc
gives_token at n kind piece (x ∷ xs) some e token =
    let f : first_piece (x ∷ xs) ≡ Ok (pieces.Lexeme kind n) = sym e ∙ ap Ok token in
    let t : Takes (x ∷ xs) (Ok (pieces.Lexeme kind n)) = subst (Takes (x ∷ xs)) f (takes x xs) in
    record { within = t.1; held = lexed-piece at x xs ∙ ap (with_piece lexed at (x ∷ xs)) f }

pub gives_fault : (at : ℕ) (code : LexCode) (text : List ℕ) → false ≡ (length text == 0) → Err code ≡ first_piece text → lexed at text ≡ fault_alone (record { code = code; at = at })
gives_fault at code [] some e = absurd cc
gives_fault at code (x ∷ xs) some e = lexed-piece at x xs ∙ ap (with_piece lexed at (x ∷ xs)) (sym e)

pub gives_nothing : (at : ℕ) (text : List ℕ) → true ≡ (length text == 0) → lexed at text ≡ nothing
gives_nothing at [] none = lexed-nothing at
gives_nothing at (x ∷ xs) none = absurd (grind (arith, nat_tests))

-- a token or a fault is something
pub some_token : (token : Lexeme) (lexed : Lexed) → with_first token lexed ≡ nothing → ⊥
some_token token lexed e = let f : token ∷ lexed.tokens ≡ [] = ap (λ l. l.tokens) e in cc

pub some_fault : (fault : LexFault) → fault_alone fault ≡ nothing → ⊥
some_fault fault e = let f : Some fault ≡ None = ap (λ l. l.fault) e in cc

-- ---- tokens as slices
-- what stands before the token, from the beginning of the whole text on
pub slices : (whole front text : List ℕ) (tokens : List Lexeme) (fault : Option LexFault) → whole ≡ front ++ text → Lexes (length front) text tokens fault → All (IsSliceOf whole) tokens
slices whole front text [] fault e h = All-nil (IsSliceOf whole)
slices whole front text (token ∷ tokens) fault e (rest, gap, before, others) =
    let head = front ++ concat gap.pieces in
    let start : token.start ≡ length head = gap.place ∙ sym (length-append front (concat gap.pieces)) in
    let parts : whole ≡ head ++ (token.text ++ rest) = e ∙ ap (λ t. front ++ t) gap.parts ∙ sym (append_assoc front (concat gap.pieces) (token.text ++ rest)) in
    let place : token.start + length token.text ≡ length (head ++ token.text) = ap (λ k. k + length token.text) start ∙ sym (length-append head token.text) in
    All-cons (IsSliceOf whole) token tokens
    (head, rest, parts, start)
    (slices whole (head ++ token.text) rest tokens fault (parts ∙ sym (append_assoc head token.text rest)) (subst (λ k. Lexes k rest tokens fault) place others))
