-- What is read of a line, and where it stops, is what is told of it.
use Rattle.std.proofs.Common.{◌≡◌, ℕ, ◌+◌, ◌-◌, ◌≤◌, false, List, [], ◌∷◌, ◌++◌, length, length-append, Ok, Err, refl, sym, ap, ◌∙◌, subst, arith, append_assoc}
use Rattle.std.proofs.lemmas.List.{append-nil, append_cancel_right}
use Rattle.grammar.specs.Form.{ref}
use Rattle.grammar.specs.Reading.{Took, Exceeded, Passes, IsLongestPrefix}
use Rattle.grammar.proofs.readers.Longest.{took_longest, failed_longest}
use Rattle.proof_text.specs.declared.line.LineStep.{LineStep}
use Rattle.proof_text.specs.declared.cursor.Stop.{Stop}
use Rattle.proof_text.specs.declared.cursor.Stop.TheVariants.{Unexpected, TooMany, TooDeep, NoMemory}
use Rattle.proof_text.specs.Limits.{most_nodes, most_depth}
use Rattle.proof_text.specs.Signs.{sign}
use Rattle.proof_text.specs.Grammar.{rules, line}
use Rattle.proof_text.specs.Reading.{Rest, Reading, Stops, ◌>>=◌, line_at, if_over, alone}
use Rattle.proof_text.specs.Outcomes.{GoesOn, Outcome}
use Rattle.proof_text.specs.Begun.{Begun, begun_with, begun_from, KeepsNodes}
use Rattle.proof_text.specs.ReadingLines.{lines, shallow_lines, IsRead, IsBad, PassesNodes, PassesDepth, IsRefused}
use Rattle.proof_text.specs.Faults.{fault_of}
use Rattle.proof_text.proofs.reading.Goes.{deep_within, any_within}
use Rattle.proof_text.proofs.reading.LinesRead.{reads_line}
use Rattle.proof_text.proofs.answers.Counting.{Kept, at_end, then_more, begun_from-append, kept-append}
use Rattle.proof_text.proofs.answers.LinesCounted.{Stands, LineAt, keeps_nodes, keeps_whole_line, at_start}

abbrev start : Begun
start = record { nodes = 0; may = false }

abbrev all_of : List ℕ → Rest
all_of text = record { nodes = 0; text = text }

abbrev pub Told : List ℕ → Reading LineStep → Type 0
Told text (Ok says, rest) = IsRead text says
Told text (Err stop, rest) = IsRefused text (fault_of stop (length text - length rest.text))

same_prefix : (text x y rest : List ℕ) → text ≡ x ++ rest → text ≡ y ++ rest → x ≡ y
same_prefix text x y rest e i = append_cancel_right x y rest (sym e ∙ i)

-- a text that goes on behind its longest prefix is no line
not_whole : (text prefix rest : List ℕ) → text ≡ prefix ++ rest → IsLongestPrefix lines text prefix → (rest ≡ [] → (says : LineStep) → lines.spells prefix says → ⊥) → (says : LineStep) → lines.spells text says → ⊥
not_whole text prefix [] e l n says s = n refl says (subst (λ z. lines.spells z says) (e ∙ append-nil prefix) s)
not_whole text prefix (byte ∷ rest) e l n says s =
    let h = l.longest text [] (sym (append-nil text)) ((any_within (ref line)).prefixes.spelled text says s) in
    omega (arith, ap length e, length-append prefix (byte ∷ rest))

column : (text prefix rest : List ℕ) → text ≡ prefix ++ rest → length text - length rest + 1 ≡ length prefix + 1
column text prefix rest e = omega (arith, ap length e, length-append prefix rest)

module _ (text : List ℕ) where
  bad_told : (r : Rest) (prefix : List ℕ) → text ≡ prefix ++ r.text → IsLongestPrefix lines text prefix → ((says : LineStep) → lines.spells text says → ⊥) → shallow_lines.prefix prefix
      → Stands start Unexpected (all_of text) r → IsBad text (length text - length r.text + 1)
  bad_told r prefix e l n sh c =
      let i : c.taken ≡ prefix = same_prefix text c.taken prefix r.text c.whole e in
      record { prefix = prefix; longest = l; is = column text prefix r.text e; unspelled = n; shallow = sh; few = subst KeepsNodes i (keeps_nodes c.taken c.kept) }

  -- a line was read: nothing may be left
  ended_told : (says : LineStep) (r : Rest) (left : List ℕ) → r.text ≡ left → Took lines shallow_lines text says r.text → LineAt start (all_of text) (if_over left says r) → Told text (if_over left says r)
  ended_told says r [] e t c =
      let i : text ≡ t.taken = t.whole ∙ rw e (append-nil t.taken) in
      let j : text ≡ c.taken = c.whole ∙ rw e (append-nil c.taken) in
      record { spelled = subst (λ z. shallow_lines.spells z says) (sym i) t.spelled; few = subst KeepsNodes (sym j) (keeps_nodes c.taken c.kept) }
  ended_told says r (byte ∷ left) e t c =
      let l : IsLongestPrefix lines text t.taken = took_longest sign rules line most_depth text r.text says t in
      bad_told r t.taken t.whole l
      (not_whole text t.taken r.text t.whole l (λ none says s. let z : byte ∷ left ≡ [] = sym e ∙ none in cc))
      ((deep_within most_depth (ref line)).prefixes.spelled t.taken says t.spelled) c

  many_told : (r : Rest) → GoesOn (ref line) most_depth text r.text → Stands start TooMany (all_of text) r → PassesNodes text
  many_told r g c =
      let next : g.byte ∷ g.more ≡ c.stopped.byte ∷ c.stopped.more = sym g.next ∙ c.stopped.text in
      let b : g.byte ≡ c.stopped.byte = cc in
      let m : g.more ≡ c.stopped.more = cc in
      let whole : text ≡ c.taken ++ (c.stopped.byte ∷ c.stopped.more) = c.whole ∙ ap (λ (z : List ℕ). c.taken ++ z) c.stopped.text in
      let i : g.up_to.taken ≡ c.taken = same_prefix text g.up_to.taken c.taken r.text g.up_to.whole c.whole in
      let j : g.with_it.taken ≡ c.taken ++ c.stopped.byte ∷ [] =
      same_prefix text g.with_it.taken (c.taken ++ c.stopped.byte ∷ []) g.more g.with_it.whole (whole ∙ sym (append_assoc c.taken (c.stopped.byte ∷ []) c.stopped.more) ∙ ap (λ (z : List ℕ). (c.taken ++ c.stopped.byte ∷ []) ++ z) (sym m)) in
      record {
        prefix = c.taken;
        byte = c.stopped.byte;
        rest = c.stopped.more;
        whole = whole;
        goes_on = subst (λ z. lines.prefix z) j g.with_it.begun;
        shallow = subst (λ z. shallow_lines.prefix z) i g.up_to.begun;
        few = keeps_nodes c.taken c.kept;
        many = ap (λ (z : Begun). z.nodes) (begun_from-append start c.taken (c.stopped.byte ∷ [])) ∙ c.stopped.nodes;
      }

  deep_told : (r : Rest) (left : List ℕ) → r.text ≡ left → (t : Exceeded lines shallow_lines text r.text) → Passes lines shallow_lines t.taken left → Stands start TooDeep (all_of text) r → PassesDepth text
  deep_told r [] e t p c = absurd p
  deep_told r (byte ∷ more) e t p c =
      let i : c.taken ≡ t.taken = same_prefix text c.taken t.taken r.text c.whole t.whole in
      let kept : Kept most_nodes start (c.taken ++ byte ∷ []) = kept-append (byte ∷ []) c.kept (one_more (begun_from start c.taken) (few_before c.taken start c.kept) (c.stopped byte)) in
      record {
        prefix = t.taken;
        byte = byte;
        rest = more;
        whole = t.whole ∙ ap (λ (z : List ℕ). t.taken ++ z) e;
        goes_on = p.0;
        shallow = t.begun;
        deep = p.1;
        few = subst (λ (z : List ℕ). KeepsNodes (z ++ byte ∷ [])) i (keeps_nodes (c.taken ++ byte ∷ []) kept);
      }
    where
      few_before : (x : List ℕ) (b : Begun) → Kept most_nodes b x → (begun_from b x).nodes ≤ most_nodes
      few_before [] b (at_end h) = h
      few_before (c ∷ x) b (then_more h k) = few_before x (begun_with b c) k

      one_more : (b : Begun) → b.nodes ≤ most_nodes → (begun_with b byte).nodes ≤ most_nodes → Kept most_nodes b (byte ∷ [])
      one_more b h k = then_more h (at_end k)

  told : (reading : Reading LineStep) → Outcome (ref line) most_depth text reading → LineAt start (all_of text) (reading >>= λ a r. if_over r.text a r) → Told text (reading >>= λ a r. if_over r.text a r)
  told (Ok says, r) t c = ended_told says r r.text refl t c
  told (Err Unexpected, r) t c =
      let l : IsLongestPrefix lines text t.taken = failed_longest sign rules line most_depth text r.text t in
      bad_told r t.taken t.whole l (not_whole text t.taken r.text t.whole l (λ none says s. t.unspelled says s)) t.begun c
  told (Err TooMany, r) t c = (many_told r t c, refl)
  told (Err TooDeep, r) t c = (deep_told r r.text refl t t.passes c, refl)
  told (Err NoMemory, r) t c = tt

  pub line_told : Told text (alone line_at (all_of text))
  line_told = told (line_at (all_of text)) (reads_line (all_of text)) (keeps_whole_line (all_of text) start at_start)

pub read_told : (text : List ℕ) (says : LineStep) (rest : Rest) → alone line_at (record { nodes = 0; text = text }) ≡ (Ok says, rest) → IsRead text says
read_told text says rest e = subst (λ z. Told text z) e (line_told text)

pub stop_told : (text : List ℕ) (stop : Stop) (rest : Rest) → alone line_at (record { nodes = 0; text = text }) ≡ (Err stop, rest) → IsRefused text (fault_of stop (length text - length rest.text))
stop_told text stop rest e = subst (λ z. Told text z) e (line_told text)

-- the same, as code tells it
pub halted_told : (text : List ℕ) (stop : Stop) (rest : Rest) → Stops stop rest (alone line_at (record { nodes = 0; text = text })) → IsRefused text (fault_of stop (length text - length rest.text))
halted_told text Unexpected rest e = stop_told text Unexpected rest e
halted_told text TooMany rest e = stop_told text TooMany rest e
halted_told text TooDeep rest e = stop_told text TooDeep rest e
halted_told text NoMemory rest e = tt

-- want of memory is no reading
pub never_told : (text : List ℕ) (rest : Rest) → alone line_at (record { nodes = 0; text = text }) ≡ (Err NoMemory, rest) → ⊥
never_told text rest e = by (line_at (all_of text)) (reads_line (all_of text)) e
  where
    over : (says : LineStep) (r : Rest) (left : List ℕ) → if_over left says r ≡ (Err NoMemory, rest) → ⊥
    over says r [] e = let i : Ok says ≡ Err NoMemory = ap (λ (p : Reading LineStep). p.0) e in cc
    over says r (byte ∷ left) e = let i : Err Unexpected ≡ Err NoMemory = ap (λ (p : Reading LineStep). p.0) e in cc

    by : (reading : Reading LineStep) → Outcome (ref line) most_depth text reading → (reading >>= λ a r. if_over r.text a r) ≡ (Err NoMemory, rest) → ⊥
    by (Ok says, r) t e = over says r r.text e
    by (Err Unexpected, r) t e = let i : Err Unexpected ≡ Err NoMemory = ap (λ (p : Reading LineStep). p.0) e in cc
    by (Err TooMany, r) t e = let i : Err TooMany ≡ Err NoMemory = ap (λ (p : Reading LineStep). p.0) e in cc
    by (Err TooDeep, r) t e = let i : Err TooDeep ≡ Err NoMemory = ap (λ (p : Reading LineStep). p.0) e in cc
    by (Err NoMemory, r) t e = t
