-- From the pieces of a proof that were fed to what its text shows.
use Rattle.std.proofs.Common.{◌≡◌, ℕ, ◌+◌, ◌-◌, ◌<◌, ◌≤◌, true, false, List, [], ◌∷◌, ◌++◌, Option, Some, None, Ok, Err, length, take, refl, sym, ap, ◌∙◌, subst, arith, inl, inr, append-nil, append_assoc, length-append}
use Rattle.std.specs.Prelude.{◌⊎◌, IfOk, IfSome, Result, nat_lt}
use Rattle.std.specs.Io.KnownBytes.{Consumes, IsAtEnd, Keeps}
use Rattle.std.proofs.KnownBytes.{Consumes-kept, Consumes-nil, Consumes-trans}
use Rattle.std.proofs.Math.Seq.{take-append_seam, take-append-add}
use Rattle.std.proofs.lemmas.Bool.{cases_Bool}
use Rattle.std.proofs.lemmas.Bool.Decides.{nat_tests}
use Rattle.u_terms.specs.declared.term.U.{U}
use Rattle.proof_text.specs.LinesOfText.{AreEnded}
use Rattle.proof_text.specs.LinesOfText as text
use Rattle.proof_text.proofs.texts.EndedLines.{ended-before, ended-lines}
use Rattle.proof_check.specs.declared.answers.ProofFault.{ProofFault}
use Rattle.proof_check.specs.declared.answers.ProofFault.TheVariants.{NoMemory}
use Rattle.proof_check.specs.declared.answers.Stop.{Stop}
use Rattle.proof_check.specs.declared.answers.Stop.TheVariants.{Fails, Fault}
use Rattle.proof_check.specs.declared.answers.Verdict.{Verdict}
use Rattle.proof_check.specs.Judging.{begun}
use Rattle.proof_check.specs.Checking.{Finishes, Shows, State, Stands, none, on, stopped}
use Rattle.proof_check.specs.Checking as state
use Rattle.proof_check.specs.Pieces.{Feeds, GoesOn, IsFinished, IsLastFed, IsOn, IsStoppedIn, IsTaken, IsUnbroken, Partial}
use Rattle.proof_check.proofs.texts.FirstLines.{feeds-stand}
use Rattle.proof_check.proofs.texts.PiecesTaken.{none-taken, stopped-append, taken-append}
use Rattle.udp_io.specs.Reading.{IsZeroAtEnd}
use Rattle.udp_run.specs.Limits.{most_piece_bytes, most_proof_bytes}
use Rattle.udp_run.specs.Proofs.{Claim, IsAnswered, IsDecidedIn, IsTooLong, IsUndecidedBefore, IsUndecidedIn, early, whole}
use Rattle.udp_run.specs.Answer.{HasAnswer, HasFailed, IsCutOff, Told}
use Rattle.udp_run.specs.Runs.{IsFedInPart, IsFedSoFar, IsFedWhole, IsProofRead, IsProofVerdict, answer_of, answered, fresh, no_memory, too_long, unread, verdict_of}
use Rattle.udp_run.specs.declared.answer.Verdict.{Verdict as Found}
use Rattle.udp_run.specs.declared.answer.Verdict.TheVariants.{ProofTooLong, ProofUnread}
use Rattle.udp_run.proofs.Answered.{decided-shows}
use Rattle.udp_run.proofs.Verdicts.{Rose-earlier}

pub stopped-finishes : (right : U) (stop : Stop) → Finishes right (stopped stop) (answer_of stop)
stopped-finishes right (Fails line) = refl
stopped-finishes right (Fault fault) = refl

module _ (claim : Claim) where
  abbrev Stood : List (List ℕ) → State → Type 0
  Stood = Stands claim.facts claim.outs claim.left

  -- ---- pieces after which no line has stopped
  undecided : (bytes : List ℕ) (lines : List (List ℕ)) (rest : List ℕ) (state : State) → IsOn state → AreEnded bytes lines rest → IsUnbroken rest → Stood lines state → IsUndecidedIn claim bytes
  undecided bytes lines rest (on count progress) o e u s =
      record { lines = lines; rest = rest; ended = e; unbroken = u; taken = count; progress = progress; stands = s }
  undecided bytes lines rest (stopped stop) o e u s = absurd o

  taken-stands : (prefix : List ℕ) (after : Partial) (t : IsTaken (fresh claim) prefix after) → Stood t.lines after.check.state
  taken-stands prefix after t = feeds-stand claim.facts claim.outs claim.left [] t.lines (on 0 (begun claim.left)) after.check.state none t.goes_on.feeds

  pub taken-undecided : (prefix : List ℕ) (after : Partial) → IsTaken (fresh claim) prefix after → IsUndecidedIn claim prefix
  taken-undecided prefix after t = undecided prefix t.lines after.bytes after.check.state (t.goes_on.on tt) t.ended (t.unbroken tt) (taken-stands prefix after t)

  -- what is left of a text that is told
  pub cut_off : (told left : Option (List ℕ)) (prefix : List ℕ) (after : Partial) → Consumes told left prefix → IsTaken (fresh claim) prefix after → IfSome told (IsCutOff left claim)
  cut_off None left prefix after c t = tt
  cut_off (Some text) None prefix after c t = absurd c
  cut_off (Some text) (Some rest) prefix after c t = (prefix, c, taken-undecided prefix after t)

  -- before any piece
  pub none_cut_off : (told left : Option (List ℕ)) → Consumes told left [] → IfSome told (IsCutOff left claim)
  none_cut_off told left c = cut_off told left [] (fresh claim) c (none-taken (fresh claim))

  take_all : (prefix rest : List ℕ) (most : ℕ) → length prefix ≡ most → take most (prefix ++ rest) ≡ prefix
  take_all prefix rest most e = subst (λ n. take n (prefix ++ rest) ≡ prefix) e (take-append_seam prefix rest)

  take_more : (prefix more : List ℕ) (most : ℕ) → length prefix ≤ most → take most (prefix ++ more) ≡ prefix ++ take (most - length prefix) more
  take_more prefix more most within = subst (λ n. take n (prefix ++ more) ≡ prefix ++ take (most - length prefix) more) (omega (arith, within)) (take-append-add prefix more (most - length prefix))

  pub long : (told left : Option (List ℕ)) (prefix : List ℕ) (after : Partial) → Consumes told left prefix → length prefix ≡ most_proof_bytes + 1 → IsTaken (fresh claim) prefix after
      → IfSome told (IsTooLong claim)
  long None left prefix after c n t = tt
  long (Some text) None prefix after c n t = absurd c
  long (Some text) (Some rest) prefix after c n t = (
    omega (arith, ap length c, length-append prefix rest, n),
    subst (IsUndecidedIn claim) (sym (ap (take (most_proof_bytes + 1)) c ∙ take_all prefix rest (most_proof_bytes + 1) n)) (taken-undecided prefix after t),
  )

  -- ---- a line that stops all others
  decided : (prefix : List ℕ) (stop : Stop) → IsStoppedIn (fresh claim) prefix stop → IsDecidedIn claim prefix stop
  decided prefix stop s = record {
    lines = s.lines;
    rest = s.rest;
    ended = s.ended;
    stands = feeds-stand claim.facts claim.outs claim.left [] s.lines (on 0 (begun claim.left)) (stopped stop) none s.stops;
  }

  decided-more : (prefix more : List ℕ) (stop : Stop) → IsDecidedIn claim prefix stop → IsDecidedIn claim (prefix ++ more) stop
  decided-more prefix more stop d = record { lines = d.lines; rest = d.rest ++ more; ended = ended-before prefix d.lines d.rest more d.ended; stands = d.stands }

  within-length : (n : ℕ) → nat_lt most_proof_bytes n ≡ false → n ≤ most_proof_bytes
  within-length n e = grind (arith, nat_tests)

  beyond-length : (n : ℕ) → nat_lt most_proof_bytes n ≡ true → most_proof_bytes < n
  beyond-length n e = grind (arith, nat_tests)

  decided-answered : (prefix more : List ℕ) (stop : Stop) → length prefix ≤ most_proof_bytes + 1 → IsDecidedIn claim prefix stop → IsAnswered claim (prefix ++ more) (answer_of stop)
  decided-answered prefix more stop within d = elim (cases_Bool (nat_lt most_proof_bytes (length (prefix ++ more)))) [
    | inr short ↦ whole (within-length (length (prefix ++ more)) short) (decided-shows claim (prefix ++ more) (prefix ++ more) stop (answer_of stop) (decided-more prefix more stop d) (stopped-finishes claim.right stop))
    | inl over ↦
        early (beyond-length (length (prefix ++ more)) over) stop
        (subst (λ b. IsDecidedIn claim b stop) (sym (take_more prefix more (most_proof_bytes + 1) within)) (decided-more prefix (take (most_proof_bytes + 1 - length prefix) more) stop d))
        (stopped-finishes claim.right stop)
  ]

  pub stopped-read : (told new : Option (List ℕ)) (stop : Stop) → IsFedInPart told new (fresh claim) stop → IsProofRead claim told (answer_of stop)
  stopped-read told new stop f = record {
    bytes = prefix;
    answers = subst (λ b. IsAnswered claim b (answer_of stop)) (append-nil prefix) (decided-answered prefix [] stop f.within (decided prefix stop f.stopped));
    told = by told new f.consumed;
  }
    where
      prefix : List ℕ
      prefix = f.prefix ++ f.last

      by : (told new : Option (List ℕ)) → Consumes told new prefix → IfSome told (HasAnswer (answer_of stop) claim)
      by None new c = tt
      by (Some text) None c = absurd c
      by (Some text) (Some rest) c = subst (HasAnswer (answer_of stop) claim) (sym c) (decided-answered prefix rest stop f.within (decided prefix stop f.stopped))

  -- ---- the whole text
  ended-shows : (prefix : List ℕ) (after : Partial) (answer : Result Verdict ProofFault) → IsTaken (fresh claim) prefix after → IsFinished after claim.right answer
      → Shows claim.facts claim.outs claim.left claim.right prefix answer
  ended-shows prefix after answer t f = by f.last
    where
      s : Stood t.lines after.check.state
      s = taken-stands prefix after t

      by : IsLastFed after f.state → Shows claim.facts claim.outs claim.left claim.right prefix answer
      by (inl (empty, same)) = record {
        lines = t.lines ++ [];
        are_lines = ended-lines prefix t.lines after.bytes [] t.ended (subst (λ b. text.AreLines b []) (sym empty) text.none);
        state = f.state;
        stands = subst (λ ls. Stood ls f.state) (sym (append-nil t.lines)) (subst (Stood t.lines) (sym same) s);
        finishes = f.finishes;
      }
      by (inr (some, feeds)) = record {
        lines = t.lines ++ after.bytes ∷ [];
        are_lines = ended-lines prefix t.lines after.bytes (after.bytes ∷ []) t.ended (text.last (t.unbroken tt) some);
        state = f.state;
        stands = feeds-stand claim.facts claim.outs claim.left t.lines (after.bytes ∷ []) after.check.state f.state s
            (subst (λ o. Feeds claim.facts o after.check.state (after.bytes ∷ []) f.state) t.goes_on.outs
            (subst (λ z. Feeds z after.check.outs after.check.state (after.bytes ∷ []) f.state) t.goes_on.facts feeds));
        finishes = f.finishes;
      }

  pub whole-read : (told new : Option (List ℕ)) (after : Partial) (answer : Result Verdict ProofFault) → IsFedWhole told new (fresh claim) after → IsFinished after claim.right answer
      → IsProofRead claim told answer
  whole-read told new after answer w f =
      let prefix = w.so_far.prefix in
      let a : IsAnswered claim prefix answer = whole (omega (arith, w.so_far.counted, w.within)) (ended-shows prefix after answer w.so_far.taken f) in
      record { bytes = prefix; answers = a; told = by told w.last w.so_far.consumed w.end a }
    where
      by : (told new : Option (List ℕ)) → Consumes told new w.so_far.prefix → IsAtEnd new → IsAnswered claim w.so_far.prefix answer → IfSome told (HasAnswer answer claim)
      by None new c e a = tt
      by (Some text) None c e a = absurd c
      by (Some text) (Some rest) c e a = subst (HasAnswer answer claim) (sym (c ∙ ap (λ z. w.so_far.prefix ++ z) e ∙ append-nil w.so_far.prefix)) a

-- ---- what is found of a proof
module _ (claim : Claim) (told : Told) (left : Option (List ℕ)) (before : Partial) (is : before ≡ fresh claim) where
  pub whole-found : (new : Option (List ℕ)) (after : Partial) (right : U) (answer : Result Verdict ProofFault) (verdict : Found) → right ≡ claim.right → IsFedWhole told.text new before after
      → IsFinished after right answer → verdict ≡ verdict_of answer → IsProofVerdict claim told left verdict
  whole-found new after right answer verdict r w f e =
      subst (IsProofVerdict claim told left) (sym e)
      (answered (whole-read claim told.text new after answer (subst (λ b. IsFedWhole told.text new b after) is w) (subst (λ u. IsFinished after u answer) r f)))

  pub stopped-found : (new : Option (List ℕ)) (stop : Stop) (answer : Result Verdict ProofFault) (verdict : Found) → IsFedInPart told.text new before stop → answer ≡ answer_of stop
      → verdict ≡ verdict_of answer → IsProofVerdict claim told left verdict
  stopped-found new stop answer verdict f a e =
      subst (IsProofVerdict claim told left) (sym (e ∙ ap verdict_of a)) (answered (stopped-read claim told.text new stop (subst (λ b. IsFedInPart told.text new b stop) is f)))

  pub failed-found : (after : Partial) (count : ℕ) → HasFailed told → IsFedSoFar told.text left before after count → IsProofVerdict claim told left ProofUnread
  failed-found after count rose f = unread rose (cut_off claim told.text left f.prefix after f.consumed (subst (λ b. IsTaken b f.prefix after) is f.taken))

  pub long-found : (after : Partial) → IsFedSoFar told.text left before after (most_proof_bytes + 1) → IsProofVerdict claim told left ProofTooLong
  long-found after f = too_long (long claim told.text left f.prefix after f.consumed f.counted (subst (λ b. IsTaken b f.prefix after) is f.taken))

-- of a text that was selected whole
module _ (claim : Claim) (text selected : Option (List ℕ)) (kept : Keeps text selected) (first before now : ℕ) (later : first ≤ before) (left : Option (List ℕ)) where
  told-kept : (P : List ℕ → Type 0) → IfSome selected P → IfSome text P
  told-kept P p = by text selected kept p
    where
      by : (text selected : Option (List ℕ)) → Keeps text selected → IfSome selected P → IfSome text P
      by None selected k p = tt
      by (Some t) None k p = absurd k
      by (Some t) (Some s) k p = subst P k p

  pub selected-found : (verdict : Found) → IsProofVerdict claim (record { text = selected; before = before; now = now }) left verdict
      → IsProofVerdict claim (record { text = text; before = first; now = now }) left verdict
  selected-found _ (unread rose cut) = unread (Rose-earlier first before now later rose) (told-kept (IsCutOff left claim) cut)
  selected-found _ (too_long l) = too_long (told-kept (IsTooLong claim) l)
  selected-found _ no_memory = no_memory
  selected-found _ (answered {answer = answer} p) = answered (record { bytes = p.bytes; answers = p.answers; told = told-kept (HasAnswer answer claim) p.told })

pub unselected-found : (claim : Claim) (told : Told) (left : Option (List ℕ)) → HasFailed told → Keeps told.text left → IsProofVerdict claim told left ProofUnread
unselected-found claim told left rose kept = unread rose (none_cut_off claim told.text left (Consumes-kept told.text told.text left [] (Consumes-nil told.text) kept))

-- ---- a piece more is taken
-- no bytes are only where none is left
pub nothing_left : {E : Type 0} (old : Option (List ℕ)) (result : Result ℕ E) (buffer : List ℕ) → 0 < length buffer → IsZeroAtEnd old result buffer
    → IfOk result (λ n. n ≡ 0 → IsAtEnd old)
nothing_left old (Err e) buffer room zero = tt
nothing_left None (Ok n) buffer room zero = λ none. tt
nothing_left (Some rest) (Ok n) buffer room zero = λ none. of (zero.0 none)
  where
    of : (length buffer ≡ 0) ⊎ (rest ≡ []) → rest ≡ []
    of (inl empty) = absurd (omega (arith, room, empty))
    of (inr end) = end

pub so_far-none : (left : Option (List ℕ)) (before : Partial) → IsFedSoFar left left before before 0
so_far-none left before = record { prefix = []; consumed = Consumes-nil left; counted = refl; taken = none-taken before }

module _ (left now : Option (List ℕ)) (before middle : Partial) (count : ℕ) (f : IsFedSoFar left now before middle count) where
  pub so_far-more : (new : Option (List ℕ)) (after : Partial) (piece : List ℕ) (n : ℕ) → Consumes now new piece → length piece ≡ n → IsTaken middle piece after
      → IsFedSoFar left new before after (count + n)
  so_far-more new after piece n c long t = record {
    prefix = f.prefix ++ piece;
    consumed = Consumes-trans left now new f.prefix piece f.consumed c;
    counted = omega (arith, length-append f.prefix piece, f.counted, long);
    taken = taken-append before middle f.prefix piece f.taken after t;
  }

  pub so_far-stops : (new : Option (List ℕ)) (piece : List ℕ) (stop : Stop) → Consumes now new piece → length piece ≤ most_piece_bytes → count + length piece ≤ most_proof_bytes + 1
      → IsStoppedIn middle piece stop → IsFedInPart left new before stop
  so_far-stops new piece stop c few within s = record {
    prefix = f.prefix;
    last = piece;
    consumed = Consumes-trans left now new f.prefix piece f.consumed c;
    piece = few;
    within = omega (arith, length-append f.prefix piece, f.counted, within);
    undecided = (middle, f.taken);
    stopped = stopped-append before middle f.prefix piece f.taken stop s;
  }

  pub so_far-kept : (new : Option (List ℕ)) → Keeps now new → IsFedSoFar left new before middle count
  so_far-kept new k = record { prefix = f.prefix; consumed = Consumes-kept left now new f.prefix f.consumed k; counted = f.counted; taken = f.taken }
