-- The byte that a sign is of.
use Rattle.std.proofs.Common.{◌≡◌, ℕ, Bool, true, false, not, ◌&&◌, List, [], ◌∷◌, ◌++◌, get_or, Ok, Err, refl, sym, ap, ◌∙◌, subst, drop, append_assoc, append-nil}
use Rattle.std.specs.Prelude.{◌==◌, if◌then◌else◌}
use Rattle.std.specs.List.{list_all}
use Rattle.std.proofs.lemmas.Bool.{eqb-true}
use Rattle.grammar.proofs.languages.Sets.{and_left, and_right}
use Rattle.proof_text.specs.Signs as s
use Rattle.proof_text.specs.Signs.{Sign, code, sign}
use Rattle.proof_text.specs.Reading.{Rest, Reading, ◌>>=◌, sign_at, next, passed, expected, word_at, bad}

-- by their codes
abbrev pub glyphs : List ℕ
glyphs = 48 ∷ 49 ∷ 50 ∷ 51 ∷ 52 ∷ 53 ∷ 54 ∷ 55 ∷ 56 ∷ 57 ∷ 43 ∷ 42 ∷ 35 ∷ 33 ∷ 83 ∷ 82 ∷ 61 ∷ 80 ∷ 70 ∷ 71 ∷ 40 ∷ 41 ∷ 44 ∷ 32 ∷ 10 ∷ 47 ∷ 62 ∷ 60 ∷ 123 ∷ 125 ∷ 95 ∷ 97 ∷ 98 ∷ 99 ∷ 100 ∷ 101 ∷ 102 ∷ 105 ∷ 107 ∷ 108 ∷ 109 ∷ 110 ∷ 111 ∷ 112 ∷ 113 ∷ 114 ∷ 115 ∷ 116 ∷ 117 ∷ 119 ∷ 120 ∷ 121 ∷ 122 ∷ []

-- the byte of a sign, but for other bytes
abbrev IsGlyph : ℕ → Sign → Type 0
IsGlyph byte k = (code k == 53) ≡ false → byte ≡ get_or glyphs (code k) 0

if_inverse : (byte glyph : ℕ) (k other : Sign) → get_or glyphs (code k) 0 ≡ glyph → IsGlyph byte other → IsGlyph byte (if byte == glyph then k else other)
if_inverse byte glyph k other e h = go (byte == glyph) refl
  where
    go : (b : Bool) → (byte == glyph) ≡ b → IsGlyph byte (if b then k else other)
    go true i n = eqb-true byte glyph i ∙ sym e
    go false i n = h n

pub glyph_of : (byte : ℕ) → IsGlyph byte (sign byte)
glyph_of byte =
    (if_inverse byte 48 s.Digit0 _ refl
    (if_inverse byte 49 s.Digit1 _ refl
    (if_inverse byte 50 s.Digit2 _ refl
    (if_inverse byte 51 s.Digit3 _ refl
    (if_inverse byte 52 s.Digit4 _ refl
    (if_inverse byte 53 s.Digit5 _ refl
    (if_inverse byte 54 s.Digit6 _ refl
    (if_inverse byte 55 s.Digit7 _ refl
    (if_inverse byte 56 s.Digit8 _ refl
    (if_inverse byte 57 s.Digit9 _ refl
    (if_inverse byte 43 s.Plus _ refl
    (if_inverse byte 42 s.Star _ refl
    (if_inverse byte 35 s.Hash _ refl
    (if_inverse byte 33 s.Bang _ refl
    (if_inverse byte 83 s.UpperS _ refl
    (if_inverse byte 82 s.UpperR _ refl
    (if_inverse byte 61 s.Equals _ refl
    (if_inverse byte 80 s.UpperP _ refl
    (if_inverse byte 70 s.UpperF _ refl
    (if_inverse byte 71 s.UpperG _ refl
    (if_inverse byte 40 s.Open _ refl
    (if_inverse byte 41 s.Close _ refl
    (if_inverse byte 44 s.Comma _ refl
    (if_inverse byte 32 s.Space _ refl
    (if_inverse byte 10 s.Newline _ refl
    (if_inverse byte 47 s.Slash _ refl
    (if_inverse byte 62 s.Forward _ refl
    (if_inverse byte 60 s.Backward _ refl
    (if_inverse byte 123 s.OpenBrace _ refl
    (if_inverse byte 125 s.CloseBrace _ refl
    (if_inverse byte 95 s.Low _ refl
    (if_inverse byte 97 s.SmallA _ refl
    (if_inverse byte 98 s.SmallB _ refl
    (if_inverse byte 99 s.SmallC _ refl
    (if_inverse byte 100 s.SmallD _ refl
    (if_inverse byte 101 s.SmallE _ refl
    (if_inverse byte 102 s.SmallF _ refl
    (if_inverse byte 105 s.SmallI _ refl
    (if_inverse byte 107 s.SmallK _ refl
    (if_inverse byte 108 s.SmallL _ refl
    (if_inverse byte 109 s.SmallM _ refl
    (if_inverse byte 110 s.SmallN _ refl
    (if_inverse byte 111 s.SmallO _ refl
    (if_inverse byte 112 s.SmallP _ refl
    (if_inverse byte 113 s.SmallQ _ refl
    (if_inverse byte 114 s.SmallR _ refl
    (if_inverse byte 115 s.SmallS _ refl
    (if_inverse byte 116 s.SmallT _ refl
    (if_inverse byte 117 s.SmallU _ refl
    (if_inverse byte 119 s.SmallW _ refl
    (if_inverse byte 120 s.SmallX _ refl
    (if_inverse byte 121 s.SmallY _ refl
    (if_inverse byte 122 s.SmallZ _ refl
    (λ n. cc))))))))))))))))))))))))))))))))))))))))))))))))))))))

-- ---- what a reading took, as text
-- all bytes so far are the text of what was read, and those that are left
pub record Has {A : Type 0} (all : List ℕ) (whole : A → List ℕ) (P : A → ℕ → Type 0) (v : A) (r : Rest) : Type 0 where
  pub text : all ≡ whole v ++ r.text
  pub is : P v r.nodes

abbrev pub Spelt : {A : Type 0} → List ℕ → (A → List ℕ) → (A → ℕ → Type 0) → Reading A → Type 0
Spelt all whole P (Ok v, r) = Has all whole P v r
Spelt all whole P (Err stop, r) = Unit {0}

pub spelt_then : {A B : Type 0} (all : List ℕ) (prefix : A → List ℕ) (P : A → ℕ → Type 0) (whole : B → List ℕ) (Q : B → ℕ → Type 0) (reading : Reading A) (more : A → Rest → Reading B)
    → Spelt all prefix P reading → ((v : A) (r : Rest) → all ≡ prefix v ++ r.text → P v r.nodes → Spelt all whole Q (more v r)) → Spelt all whole Q (reading >>= more)
spelt_then all prefix P whole Q (Ok v, r) more c k = k v r c.text c.is
spelt_then all prefix P whole Q (Err stop, r) more c k = tt

-- ---- single bytes
-- no node begins
abbrev pub AsBefore : {A : Type 0} → ℕ → A → ℕ → Type 0
AsBefore n a m = m ≡ n

pub byte_is : (c glyph byte : ℕ) → (c == 53) ≡ false → get_or glyphs c 0 ≡ glyph → (code (sign byte) == c) ≡ true → byte ≡ glyph
byte_is c glyph byte n e i =
    let z : code (sign byte) ≡ c = eqb-true (code (sign byte)) c i in
    let o : (code (sign byte) == 53) ≡ false = rw z n in
    glyph_of byte o ∙ (rw z e)

one_more : (x : List ℕ) (byte glyph : ℕ) (text : List ℕ) → byte ≡ glyph → x ++ (byte ∷ text) ≡ (x ++ glyph ∷ []) ++ text
one_more x byte glyph text e = subst (λ z. x ++ (byte ∷ text) ≡ (x ++ z ∷ []) ++ text) e (sym (append_assoc x (byte ∷ []) text))

-- this sign
pub expected_has : (c glyph : ℕ) → (c == 53) ≡ false → (54 == c) ≡ false → get_or glyphs c 0 ≡ glyph → (all x : List ℕ) (rest : Rest) → all ≡ x ++ rest.text
    → Spelt all (λ t. x ++ glyph ∷ []) (AsBefore rest.nodes) (expected c rest)
expected_has c glyph other end e all x rest i = at rest.nodes rest.text i
  where
    at : (nodes : ℕ) (text : List ℕ) → all ≡ x ++ text → Spelt all (λ t. x ++ glyph ∷ []) (AsBefore nodes) (expected c (record { nodes = nodes; text = text }))
    at nodes [] i = rw end tt
    at nodes (byte ∷ text) i = go (code (sign byte) == c) refl
      where
        go : (b : Bool) → (code (sign byte) == c) ≡ b
            → Spelt {A = Unit {0}} all (λ t. x ++ glyph ∷ []) (AsBefore nodes) (if b then (Ok tt, record { nodes = nodes; text = text }) else bad (record { nodes = nodes; text = byte ∷ text }))
        go true h = record { text = i ∙ one_more x byte glyph text (byte_is c glyph byte other e h); is = refl }
        go false h = tt

-- the byte behind a test
pub passed_byte : (c glyph : ℕ) → (c == 53) ≡ false → (54 == c) ≡ false → get_or glyphs c 0 ≡ glyph → (all x : List ℕ) (rest : Rest) → all ≡ x ++ rest.text
    → (code (next rest) == c) ≡ true → all ≡ (x ++ glyph ∷ []) ++ (passed rest).text
passed_byte c glyph other end e all x rest i h = at rest.text i h
  where
    at : (text : List ℕ) → all ≡ x ++ text → (code (sign_at text) == c) ≡ true → all ≡ (x ++ glyph ∷ []) ++ drop 1 text
    at [] i h = cc
    at (byte ∷ text) i h = i ∙ one_more x byte glyph text (byte_is c glyph byte other e h)

-- these bytes
abbrev pub are_glyphs : List ℕ → Bool
are_glyphs = list_all (λ byte. (not (code (sign byte) == 53) && not (54 == code (sign byte))) && (get_or glyphs (code (sign byte)) 0 == byte))

is_not : (b : Bool) → not b ≡ true → b ≡ false
is_not true e = cc
is_not false e = refl

pub word_has : (bytes : List ℕ) → are_glyphs bytes ≡ true → (all x : List ℕ) (rest : Rest) → all ≡ x ++ rest.text → Spelt all (λ t. x ++ bytes) (AsBefore rest.nodes) (word_at bytes rest)
unfolding word_at
word_has [] h all x rest i = record { text = i ∙ ap (λ (z : List ℕ). z ++ rest.text) (sym (append-nil x)); is = refl }
word_has (byte ∷ bytes) h all x rest i =
    let here = and_left ((not (code (sign byte) == 53) && not (54 == code (sign byte))) && (get_or glyphs (code (sign byte)) 0 == byte)) (are_glyphs bytes) h in
    let there = and_right ((not (code (sign byte) == 53) && not (54 == code (sign byte))) && (get_or glyphs (code (sign byte)) 0 == byte)) (are_glyphs bytes) h in
    let signs = and_left (not (code (sign byte) == 53) && not (54 == code (sign byte))) (get_or glyphs (code (sign byte)) 0 == byte) here in
    let glyph = and_right (not (code (sign byte) == 53) && not (54 == code (sign byte))) (get_or glyphs (code (sign byte)) 0 == byte) here in
    spelt_then all (λ t. x ++ byte ∷ []) (AsBefore rest.nodes) (λ t. x ++ (byte ∷ bytes)) (AsBefore rest.nodes) (expected (code (sign byte)) rest) (λ o r. word_at bytes r)
    (expected_has (code (sign byte)) byte (is_not (code (sign byte) == 53) (and_left (not (code (sign byte) == 53)) (not (54 == code (sign byte))) signs))
    (is_not (54 == code (sign byte)) (and_right (not (code (sign byte) == 53)) (not (54 == code (sign byte))) signs)) (eqb-true (get_or glyphs (code (sign byte)) 0) byte glyph) all x rest i)
    (λ o r e n.
    subst (λ (z : List ℕ). Spelt all (λ t. z) (AsBefore rest.nodes) (word_at bytes r)) (append_assoc x (byte ∷ []) bytes)
    (subst (λ z. Spelt all (λ t. (x ++ byte ∷ []) ++ bytes) (AsBefore z) (word_at bytes r)) n (word_has bytes there all (x ++ byte ∷ []) r e)))
