-- A comment ends at the first `*/`.
use Rattle.std.proofs.Common.{◌≡◌, ℕ, ◌+◌, Bool, true, false, nat_eq, ◌&&◌, List, [], ◌∷◌, ◌++◌, length, Option, Some, None, refl, sym, ap, ◌∙◌, subst, arith, inl, inr, ◌⊎◌, codes}
use Rattle.std.proofs.lemmas.Bool.{cases_Bool, eqb-true, and_parts}
use Rattle.std.proofs.lemmas.Bool.Decides.{nat_tests}
use Rattle.sql_lex.specs.Gaps.{Occurs}
use Rattle.sql_lex.specs.Front.{close_len, first_passes}
use Rattle.sql_lex.proofs.Marks.{one_more-some, one_more-none}

-- a star that stands just before
abbrev pub starred : Bool → List ℕ → List ℕ
starred true bytes = 42 ∷ bytes
starred false bytes = bytes

abbrev pub stars : Bool → ℕ
stars true = 1
stars false = 0

-- `*/` stands here
abbrev Closes : List ℕ → Type 0
Closes = Occurs (codes "*/")

later_on : (x : ℕ) (text : List ℕ) → Closes text → Closes (x ∷ text)
later_on x text (before, after, e) = (x ∷ before, after, ap (λ t. x ∷ t) e)

starred_later : (star : Bool) (text : List ℕ) → Closes text → Closes (starred star text)
starred_later true text closes = later_on 42 text closes
starred_later false text closes = closes

none_in_nothing : Closes [] → ⊥
none_in_nothing ([], after, e) = cc
none_in_nothing (x ∷ before, after, e) = cc

-- it stands at the front, or behind the first byte
at_front : (x : ℕ) (text : List ℕ) → Closes (x ∷ text) → ((x ≡ 42) × (first_passes (nat_eq 47) text ≡ true)) ⊎ Closes text
at_front x text ([], after, e) =
    let star : x ≡ 42 = cc in
    let slash : text ≡ 47 ∷ after = cc in
    inl (star, rw slash refl)
at_front x text (y ∷ before, after, e) =
    let rest : text ≡ before ++ (codes "*/" ++ after) = cc in
    inr (before, after, rest)

-- it stands across the byte before and the first one, or in the text
across : (star : Bool) (text : List ℕ) → Closes (starred star text) → (star && first_passes (nat_eq 47) text ≡ true) ⊎ Closes text
across true text closes = elim (at_front 42 text closes) [ inl front ↦ inl front.1 | inr rest ↦ inr rest ]
across false text closes = inr closes

-- where a byte does not close, it may begin what closes
next_star : (byte : ℕ) (text : List ℕ) → Closes (byte ∷ text) → Closes (starred (nat_eq byte 42) text)
next_star byte text closes = elim (cases_Bool (nat_eq byte 42)) [
  | inl star ↦ rw star (subst (λ b. Closes (b ∷ text)) (eqb-true byte 42 star) closes)
  | inr other ↦ rw other (elim (at_front byte text closes) [
    | inl front ↦ absurd (let f : nat_eq byte 42 ≡ true = rw front.0 refl in let g : true ≡ false = sym f ∙ other in cc)
    | inr rest ↦ rest
  ])
]

slash_is : (byte : ℕ) → nat_eq 47 byte ≡ nat_eq byte 47
slash_is byte = grind (arith, nat_tests)

step : (star : Bool) (byte : ℕ) (text : List ℕ) → star && nat_eq byte 47 ≡ false → Closes (starred star (byte ∷ text)) → Closes (starred (nat_eq byte 42) text)
step star byte text going closes = elim (across star (byte ∷ text) closes) [
  | inl front ↦ absurd (let f : star && nat_eq byte 47 ≡ true = rw (sym (slash_is byte)) front in let g : true ≡ false = sym f ∙ going in cc)
  | inr rest ↦ next_star byte text rest
]

-- nothing closes these bytes
pub unclosed : (star : Bool) (bytes : List ℕ) → close_len star bytes ≡ None → Closes (starred star bytes) → ⊥
unclosed true [] e closes = elim (at_front 42 [] closes) [ inl front ↦ let f : ◌≡◌ {A = Bool} false true = front.1 in cc | inr rest ↦ none_in_nothing rest ]
unclosed false [] e closes = none_in_nothing closes
unclosed star (byte ∷ bytes) e closes = elim (cases_Bool (star && nat_eq byte 47)) [
  | inl closed ↦ let f : ◌≡◌ {A = Option ℕ} (Some 1) None = rw closed at e in absurd cc
  | inr going ↦ unclosed (nat_eq byte 42) bytes (one_more-none _ (rw going at e)) (step star byte bytes going closes)
]

-- the first `*/` of these bytes
pub record Closed (star : Bool) (bytes : List ℕ) (m : ℕ) : Type 0 where
  pub body : List ℕ
  pub rest : List ℕ
  pub parts : starred star bytes ≡ body ++ 42 ∷ 47 ∷ rest
  pub size : length body + 2 ≡ m + stars star
  pub first : Closes (body ++ 42 ∷ []) → ⊥

alone : Closes (42 ∷ []) → ⊥
alone closes = elim (at_front 42 [] closes) [ inl front ↦ let f : ◌≡◌ {A = Bool} false true = front.1 in cc | inr rest ↦ none_in_nothing rest ]

-- what stands behind a star, stands in the text that begins with it
back : (byte : ℕ) (text : List ℕ) → Closes (starred (nat_eq byte 42) text) → Closes (byte ∷ text)
back byte text closes = elim (cases_Bool (nat_eq byte 42)) [
  | inl star ↦ let here : Closes (42 ∷ text) = rw star at closes in subst (λ b. Closes (b ∷ text)) (sym (eqb-true byte 42 star)) here
  | inr other ↦ let here : Closes text = rw other at closes in later_on byte text here
]

-- it is found at the first place where it stands
pub close_len-first : (star : Bool) (body rest : List ℕ) → (Closes (starred star (body ++ 42 ∷ [])) → ⊥) → close_len star (body ++ 42 ∷ 47 ∷ rest) ≡ Some (length body + 2)
close_len-first true [] rest first = refl
close_len-first false [] rest first = refl
close_len-first star (byte ∷ body) rest first = elim (cases_Bool (star && nat_eq byte 47)) [
  | inl closed ↦
      let h = and_parts star (nat_eq byte 47) closed in
      absurd (first (rw h.0 ([], body ++ 42 ∷ [], rw (eqb-true byte 47 h.1) refl)))
  | inr going ↦
      let more = close_len-first (nat_eq byte 42) body rest (λ closes. first (starred_later star _ (back byte (body ++ 42 ∷ []) closes))) in
      rw (going, more) (ap Some (omega arith))
]

-- ---- what was found is the first
closed_here : (bytes : List ℕ) → Closed true (47 ∷ bytes) 1
closed_here bytes = record { body = []; rest = bytes; parts = refl; size = refl; first = alone }

first_of : (body bytes rest : List ℕ) → bytes ≡ body ++ 42 ∷ 47 ∷ rest → first_passes (nat_eq 47) (body ++ 42 ∷ []) ≡ true → first_passes (nat_eq 47) bytes ≡ true
first_of [] bytes rest e front = absurd (let f : ◌≡◌ {A = Bool} false true = front in cc)
first_of (x ∷ body) bytes rest e front = let g : bytes ≡ x ∷ (body ++ 42 ∷ 47 ∷ rest) = e in rw g front

-- a star before changes nothing where no slash comes first
star_before : (byte : ℕ) (bytes body rest : List ℕ) → byte ∷ bytes ≡ body ++ 42 ∷ 47 ∷ rest → nat_eq byte 47 ≡ false → (Closes (body ++ 42 ∷ []) → ⊥) → Closes (42 ∷ (body ++ 42 ∷ [])) → ⊥
star_before byte bytes body rest e other first closes = elim (at_front 42 (body ++ 42 ∷ []) closes) [
  | inl front ↦
      let f : nat_eq 47 byte ≡ true = first_of body (byte ∷ bytes) rest e front.1 in
      absurd (let g : true ≡ false = sym f ∙ slash_is byte ∙ other in cc)
  | inr rest ↦ first rest
]

-- one byte more, seen from where it stands
record Behind (byte : ℕ) (bytes : List ℕ) (m : ℕ) : Type 0 where
  pub body : List ℕ
  pub rest : List ℕ
  pub parts : byte ∷ bytes ≡ body ++ 42 ∷ 47 ∷ rest
  pub size : length body + 2 ≡ m + 1
  pub first : Closes (body ++ 42 ∷ []) → ⊥

behind_star : (bytes : List ℕ) (m : ℕ) → Closed true bytes m → Behind 42 bytes m
behind_star bytes m more = record { body = more.body; rest = more.rest; parts = more.parts; size = more.size; first = more.first }

other_first : (byte : ℕ) (text : List ℕ) → nat_eq byte 42 ≡ false → (Closes text → ⊥) → Closes (byte ∷ text) → ⊥
other_first byte text other first closes = elim (at_front byte text closes) [
  | inl front ↦ absurd (let f : nat_eq byte 42 ≡ true = rw front.0 refl in let g : true ≡ false = sym f ∙ other in cc)
  | inr rest ↦ first rest
]

behind_other : (byte : ℕ) (bytes : List ℕ) (m : ℕ) → nat_eq byte 42 ≡ false → Closed false bytes m → Behind byte bytes m
behind_other byte bytes m other more = record {
  body = byte ∷ more.body;
  rest = more.rest;
  parts = ap (λ t. byte ∷ t) more.parts;
  size = omega (arith, more.size);
  first = other_first byte (more.body ++ 42 ∷ []) other more.first;
}

behind_any : (byte : ℕ) (bytes : List ℕ) (m : ℕ) → Closed (nat_eq byte 42) bytes m → Behind byte bytes m
behind_any byte bytes m more = elim (cases_Bool (nat_eq byte 42)) [
  | inl star ↦ subst (λ b. Behind b bytes m) (sym (eqb-true byte 42 star)) (behind_star bytes m (subst (λ b. Closed b bytes m) star more))
  | inr other ↦ behind_other byte bytes m other (subst (λ b. Closed b bytes m) other more)
]

closed_later : (star : Bool) (byte : ℕ) (bytes : List ℕ) (m : ℕ) → star && nat_eq byte 47 ≡ false → Behind byte bytes m → Closed star (byte ∷ bytes) (1 + m)
closed_later true byte bytes m going more = record {
  body = 42 ∷ more.body;
  rest = more.rest;
  parts = ap (λ t. 42 ∷ t) more.parts;
  size = omega (arith, more.size);
  first = star_before byte bytes more.body more.rest more.parts going more.first;
}
closed_later false byte bytes m going more = record { body = more.body; rest = more.rest; parts = more.parts; size = omega (arith, more.size); first = more.first }

here : (star : Bool) (byte : ℕ) (bytes : List ℕ) → star && nat_eq byte 47 ≡ true → Closed star (byte ∷ bytes) 1
here true byte bytes closed = subst (λ b. Closed true (b ∷ bytes) 1) (sym (eqb-true byte 47 closed)) (closed_here bytes)
here false byte bytes closed = absurd (let f : ◌≡◌ {A = Bool} false true = closed in cc)

pub closed_first : (star : Bool) (bytes : List ℕ) (m : ℕ) → close_len star bytes ≡ Some m → Closed star bytes m
closed_first star [] m e = absurd cc
closed_first star (byte ∷ bytes) m e = elim (cases_Bool (star && nat_eq byte 47)) [
  | inl closed ↦
      let f : ◌≡◌ {A = Option ℕ} (Some 1) (Some m) = rw closed at e in
      let one : m ≡ 1 = cc in
      rw one (here star byte bytes closed)
  | inr going ↦
      let k = one_more-some (close_len (nat_eq byte 42) bytes) m (rw going at e) in
      rw k.2 (closed_later star byte bytes k.0 going (behind_any byte bytes k.0 (closed_first (nat_eq byte 42) bytes k.0 k.1)))
]
