-- A text has one answer: what is told of it excludes whatever else could be told.
use Rattle.std.proofs.Common.{◌≡◌, ℕ, zero, suc, ◌+◌, ◌-◌, ◌<◌, ◌≤◌, List, [], ◌∷◌, ◌++◌, length, length-append, Result, Ok, Err, refl, sym, ap, ◌∙◌, subst, arith, append_assoc, inl, inr}
use Rattle.std.specs.Prelude.{◌⊎◌}
use Rattle.grammar.specs.Form.{ref}
use Rattle.proof_text.specs.declared.limits.LimitKind.TheVariants.{Nodes, Depth, Steps, Nesting}
use Rattle.proof_text.specs.declared.line.LineStep.{LineStep}
use Rattle.proof_text.specs.declared.line.LineFault.{LineFault}
use Rattle.proof_text.specs.declared.line.LineFault.TheVariants.{Bad, Limit, NoMemory}
use Rattle.proof_text.specs.declared.cursor.Stop.{Stop}
use Rattle.proof_text.specs.declared.cursor.Stop.TheVariants as halt
use Rattle.proof_text.specs.Faults.{fault_of}
use Rattle.proof_text.specs.Limits.{most_nodes, most_depth}
use Rattle.proof_text.specs.Grammar.{line}
use Rattle.proof_text.specs.Begun.{begun_in, KeepsNodes}
use Rattle.proof_text.specs.Reading.{Rest, Reading, line_at, alone}
use Rattle.proof_text.specs.ReadingLines.{lines, shallow_lines, IsRead, IsBad, PassesNodes, PassesDepth, IsRefused, IsAnswer}
use Rattle.proof_text.specs.Written.{Says, text_of}
use Rattle.proof_text.proofs.reading.OneLine.{one_line}
use Rattle.proof_text.proofs.reading.Goes.{deep_within}
use Rattle.proof_text.proofs.answers.LineAnswers.{read_told, stop_told, never_told}
use Rattle.proof_text.proofs.spelled.LinesSpelled.{line_spelled}

-- of two prefixes of a text the shorter one begins the longer one
pub record Begins (x z : List ℕ) : Type 0 where
  pub more : List ℕ
  pub is : z ≡ x ++ more

begins : (text x y z w : List ℕ) → text ≡ x ++ y → text ≡ z ++ w → length x ≤ length z → Begins x z
begins text [] y z w e i h = record { more = z; is = refl }
begins text (c ∷ x) y [] w e i h = absurd (omega (arith, h))
begins text (c ∷ x) y (d ∷ z) w e i h =
    let j : c ∷ (x ++ y) ≡ d ∷ (z ++ w) = sym e ∙ i in
    let first : c ≡ d = cc in
    let rest : x ++ y ≡ z ++ w = cc in
    let b = begins (x ++ y) x y z w refl rest (omega (arith, h)) in
    record { more = b.more; is = ap (λ (l : List ℕ). d ∷ l) b.is ∙ ap (λ (n : ℕ). n ∷ (x ++ b.more)) (sym first) }

read_spelled : (text : List ℕ) (says : LineStep) → shallow_lines.spells text says → lines.spells text says
read_spelled text says s = (deep_within most_depth (ref line)).includes.spells text says s

-- a part of what keeps the limits keeps them
kept_part : (x z : List ℕ) → KeepsNodes z → Begins x z → (begun_in x).nodes ≤ most_nodes
kept_part x z k b = k x b.more b.is

shallow_part : (x z : List ℕ) → shallow_lines.prefix z → Begins x z → shallow_lines.prefix x
shallow_part x z s b = (deep_within most_depth (ref line)).prefixes.shorter x b.more (subst (λ y. shallow_lines.prefix y) b.is s)

too_many : (x z : List ℕ) → (begun_in x).nodes ≡ most_nodes + 1 → KeepsNodes z → Begins x z → ⊥
too_many x z e k b = let h = kept_part x z k b in omega (arith, e)

whole_begins : (text x y : List ℕ) → text ≡ x ++ y → Begins x text
whole_begins text x y e = record { more = y; is = e }

one_byte : (prefix rest : List ℕ) (byte : ℕ) → prefix ++ (byte ∷ rest) ≡ (prefix ++ byte ∷ []) ++ rest
one_byte prefix rest byte = sym (append_assoc prefix (byte ∷ []) rest)

module _ (text : List ℕ) where
  pub read_once : (one other : LineStep) → IsRead text one → IsRead text other → one ≡ other
  read_once one other a b = one_line text one other (read_spelled text one a.spelled) (read_spelled text other b.spelled)

  read_bad : (says : LineStep) (column : ℕ) → IsRead text says → IsBad text column → ⊥
  read_bad says column a b = b.unspelled says (read_spelled text says a.spelled)

  read_many : (says : LineStep) → IsRead text says → PassesNodes text → ⊥
  read_many says a b = too_many (b.prefix ++ b.byte ∷ []) text b.many a.few (whole_begins text (b.prefix ++ b.byte ∷ []) b.rest (b.whole ∙ one_byte b.prefix b.rest b.byte))

  read_deep : (says : LineStep) → IsRead text says → PassesDepth text → ⊥
  read_deep says a b =
      b.deep (shallow_part (b.prefix ++ b.byte ∷ []) text ((deep_within most_depth (ref line)).prefixes.spelled text says a.spelled) (whole_begins text (b.prefix ++ b.byte ∷ []) b.rest (b.whole ∙ one_byte b.prefix b.rest b.byte)))

  bad_once : (one other : ℕ) → IsBad text one → IsBad text other → one ≡ other
  bad_once one other a b =
      let h = a.longest.longest b.prefix b.longest.leading.0 b.longest.leading.1 b.longest.begins in
      let k = b.longest.longest a.prefix a.longest.leading.0 a.longest.leading.1 a.longest.begins in
      omega (arith, a.is, b.is, h, k)

  bad_many : (column : ℕ) → IsBad text column → PassesNodes text → ⊥
  bad_many column a b =
      let e : text ≡ (b.prefix ++ b.byte ∷ []) ++ b.rest = b.whole ∙ one_byte b.prefix b.rest b.byte in
      let h = a.longest.longest (b.prefix ++ b.byte ∷ []) b.rest e b.goes_on in
      too_many (b.prefix ++ b.byte ∷ []) a.prefix b.many a.few (begins text (b.prefix ++ b.byte ∷ []) b.rest a.prefix a.longest.leading.0 e a.longest.leading.1 h)

  bad_deep : (column : ℕ) → IsBad text column → PassesDepth text → ⊥
  bad_deep column a b =
      let e : text ≡ (b.prefix ++ b.byte ∷ []) ++ b.rest = b.whole ∙ one_byte b.prefix b.rest b.byte in
      let h = a.longest.longest (b.prefix ++ b.byte ∷ []) b.rest e b.goes_on in
      b.deep (shallow_part (b.prefix ++ b.byte ∷ []) a.prefix a.shallow (begins text (b.prefix ++ b.byte ∷ []) b.rest a.prefix a.longest.leading.0 e a.longest.leading.1 h))

  many_deep : PassesNodes text → PassesDepth text → ⊥
  many_deep a b = by (order (length (a.prefix ++ a.byte ∷ [])) (length (b.prefix ++ b.byte ∷ [])))
    where
      order : (m n : ℕ) → (m ≤ n) ⊎ (n < m)
      order zero n = inl (omega arith)
      order (suc m) zero = inr (omega arith)
      order (suc m) (suc n) = next (order m n)
        where
          next : (m ≤ n) ⊎ (n < m) → (suc m ≤ suc n) ⊎ (suc n < suc m)
          next (inl h) = inl (omega (arith, h))
          next (inr h) = inr (omega (arith, h))

      e : text ≡ (a.prefix ++ a.byte ∷ []) ++ a.rest
      e = a.whole ∙ one_byte a.prefix a.rest a.byte

      i : text ≡ (b.prefix ++ b.byte ∷ []) ++ b.rest
      i = b.whole ∙ one_byte b.prefix b.rest b.byte

      by : (length (a.prefix ++ a.byte ∷ []) ≤ length (b.prefix ++ b.byte ∷ [])) ⊎ (length (b.prefix ++ b.byte ∷ []) < length (a.prefix ++ a.byte ∷ [])) → ⊥
      by (inl h) = too_many (a.prefix ++ a.byte ∷ []) (b.prefix ++ b.byte ∷ []) a.many b.few (begins text (a.prefix ++ a.byte ∷ []) a.rest (b.prefix ++ b.byte ∷ []) b.rest e i h)
      by (inr h) =
          let k : length (b.prefix ++ b.byte ∷ []) ≤ length a.prefix = omega (arith, h, length-append a.prefix (a.byte ∷ [])) in
          b.deep (shallow_part (b.prefix ++ b.byte ∷ []) a.prefix a.shallow (begins text (b.prefix ++ b.byte ∷ []) b.rest a.prefix (a.byte ∷ a.rest) i a.whole k))

  -- ---- refusals
  read_refused : (says : LineStep) (fault : LineFault) → (fault ≡ NoMemory → ⊥) → IsRead text says → IsRefused text fault → ⊥
  read_refused says (Bad column) n a b = read_bad says column a b
  read_refused says (Limit Nodes count) n a b = read_many says a b.0
  read_refused says (Limit Depth count) n a b = read_deep says a b.0
  read_refused says (Limit Steps count) n a b = b
  read_refused says (Limit Nesting count) n a b = b
  read_refused says NoMemory n a b = n refl

  refused_once : (one other : LineFault) → (one ≡ NoMemory → ⊥) → (other ≡ NoMemory → ⊥) → IsRefused text one → IsRefused text other → one ≡ other
  refused_once (Bad c) (Bad d) n m a b = ap Bad (bad_once c d a b)
  refused_once (Bad c) (Limit Nodes k) n m a b = absurd (bad_many c a b.0)
  refused_once (Bad c) (Limit Depth k) n m a b = absurd (bad_deep c a b.0)
  refused_once (Bad c) (Limit Steps k) n m a b = absurd b
  refused_once (Bad c) (Limit Nesting k) n m a b = absurd b
  refused_once (Limit Nodes k) (Bad d) n m a b = absurd (bad_many d b a.0)
  refused_once (Limit Nodes k) (Limit Nodes l) n m a b = ap (Limit Nodes) (a.1 ∙ sym b.1)
  refused_once (Limit Nodes k) (Limit Depth l) n m a b = absurd (many_deep a.0 b.0)
  refused_once (Limit Nodes k) (Limit Steps l) n m a b = absurd b
  refused_once (Limit Nodes k) (Limit Nesting l) n m a b = absurd b
  refused_once (Limit Depth k) (Bad d) n m a b = absurd (bad_deep d b a.0)
  refused_once (Limit Depth k) (Limit Nodes l) n m a b = absurd (many_deep b.0 a.0)
  refused_once (Limit Depth k) (Limit Depth l) n m a b = ap (Limit Depth) (a.1 ∙ sym b.1)
  refused_once (Limit Depth k) (Limit Steps l) n m a b = absurd b
  refused_once (Limit Depth k) (Limit Nesting l) n m a b = absurd b
  refused_once (Limit Steps k) other n m a b = absurd a
  refused_once (Limit Nesting k) other n m a b = absurd a
  refused_once NoMemory other n m a b = absurd (n refl)
  refused_once one NoMemory n m a b = absurd (m refl)

  pub one_answer : (one other : Result LineStep LineFault) → (one ≡ Err NoMemory → ⊥) → (other ≡ Err NoMemory → ⊥) → IsAnswer text one → IsAnswer text other → one ≡ other
  one_answer (Ok one) (Ok other) n m a b = ap (λ (l : LineStep). Ok l) (read_once one other a b)
  one_answer (Ok one) (Err fault) n m a b = absurd (read_refused one fault (λ e. m (ap (λ (f : LineFault). Err f) e)) a b)
  one_answer (Err fault) (Ok other) n m a b = absurd (read_refused other fault (λ e. n (ap (λ (f : LineFault). Err f) e)) b a)
  one_answer (Err one) (Err other) n m a b = ap (λ (f : LineFault). Err f) (refused_once one other (λ e. n (ap (λ (f : LineFault). Err f) e)) (λ e. m (ap (λ (f : LineFault). Err f) e)) a b)

  -- what is read is the line that says it
  pub spelled : (says : LineStep) → IsRead text says → (text ≡ text_of says) × Says says
  spelled says a = by (alone line_at (record { nodes = 0; text = text })) refl
    where
      by : (reading : Reading LineStep) → alone line_at (record { nodes = 0; text = text }) ≡ reading → (text ≡ text_of says) × Says says
      by (Ok l, r) e =
          let i : l ≡ says = read_once l says (read_told text l r e) a in
          subst (λ y. (text ≡ text_of y) × Says y) i (line_spelled text l r e)
      by (Err stop, r) e = absurd (stopped stop r e)
        where
          stopped : (stop : Stop) (r : Rest) → alone line_at (record { nodes = 0; text = text }) ≡ (Err stop, r) → ⊥
          stopped halt.Unexpected r e = read_refused says (fault_of halt.Unexpected (length text - length r.text)) (λ z. cc) a (stop_told text halt.Unexpected r e)
          stopped halt.TooMany r e = read_refused says (fault_of halt.TooMany (length text - length r.text)) (λ z. cc) a (stop_told text halt.TooMany r e)
          stopped halt.TooDeep r e = read_refused says (fault_of halt.TooDeep (length text - length r.text)) (λ z. cc) a (stop_told text halt.TooDeep r e)
          stopped halt.NoMemory r e = never_told text r e
