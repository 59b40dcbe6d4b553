-- What pieces of a text do, one line after the other.
use Rattle.std.proofs.Common.{◌≡◌, ℕ, ◌+◌, Bool, true, false, List, [], ◌∷◌, ◌++◌, None, Some, refl, sym, ap, subst, ◌∙◌, append_assoc, append-nil, inl, inr, Result, Ok, Err}
use Rattle.std.specs.Prelude.{◌⊎◌}
use Rattle.u_terms.specs.declared.facts.Facts.{Facts}
use Rattle.data_model.specs.Lists.{Each}
use Rattle.proof_text.specs.LinesOfText.{AreEnded, IsNextLine, Unread, fed, line, nothing}
use Rattle.proof_text.proofs.texts.EndedLines.{ended-before, ended-pieces}
use Rattle.proof_check.specs.declared.answers.ProofFault.TheVariants.{NoMemory}
use Rattle.proof_check.specs.declared.answers.Stop.{Stop}
use Rattle.proof_check.specs.declared.answers.Stop.TheVariants.{Fault}
use Rattle.proof_check.specs.Check.{Check, HasStopped, Tells, stop_of}
use Rattle.proof_check.specs.Checking.{State, on, stopped, IsFed}
use Rattle.proof_check.specs.Pieces.{EndsLine, Feeds, GoesOn, IsFedBy, IsLastFed, IsOn, IsStoppedIn, IsTaken, IsTakenSoFar, IsUnbroken, KeepsLine, Partial, StopsBy, Takes, first, no_memory, none}

-- ---- one line
told-on : (state : State) → Tells state (Ok tt) → IsOn state
told-on (on lines progress) e = tt
told-on (stopped stop) e = absurd (cc e)

told-stop : (state : State) (stop : Stop) → Tells state (Err stop) → state ≡ stopped stop
told-stop (on lines progress) stop e = absurd (cc e)
told-stop (stopped other) stop e = let i : other ≡ stop = cc in ap stopped i

pub fed-by : (before after : Check) (text : List ℕ) (answer : Result (Unit {0}) Stop) → after.facts ≡ before.facts → after.outs ≡ before.outs
    → IsFed before.facts before.outs before.state text after.state → Tells after.state answer → IsFedBy before text after answer
fed-by before after text (Ok _) f o h t = record { facts = f; outs = o; feeds = first h none; on = λ _. told-on after.state t }
fed-by before after text (Err stop) f o h t =
    let e : after.state ≡ stopped stop = told-stop after.state stop t in
    (subst (λ s. Feeds before.facts before.outs before.state (text ∷ []) s) e (first h none), record { facts = f; outs = o; state = e })

-- where memory runs out, no line is looked at
pub ran_out : (before after : Check) (text : List ℕ) (stop : Stop) → stop ≡ Fault NoMemory → HasStopped before (Fault NoMemory) after → IsFedBy before text after (Err stop)
ran_out before after text stop e h = subst (λ s. IsFedBy before text after (Err s)) (sym e) (no_memory, h)

pub keep-ends : (before : Partial) (bytes : List ℕ) (after : Partial) (stop : Stop) → KeepsLine before bytes after (Err stop) → EndsLine before bytes after (Err stop)
keep-ends before bytes after stop (e, h) = (subst (StopsBy before.check (fed (before.bytes ++ bytes) true ∷ [])) (sym e) no_memory, h)

-- ---- whether the lines have stopped
pub goes_on_unless : (state : State) → None ≡ stop_of state → IsOn state
goes_on_unless (on lines progress) e = tt
goes_on_unless (stopped stop) e = absurd (cc e)

pub tells_on : (state : State) → IsOn state → Tells state (Ok tt)
tells_on (on lines progress) o = refl
tells_on (stopped stop) o = absurd o

pub tells_stopped : (state : State) (stop : Stop) → state ≡ stopped stop → Tells state (Err stop)
tells_stopped state stop e = subst (λ s. Tells s (Err stop)) (sym e) refl

pub not_stopped : (state : State) (stop : Stop) → None ≡ stop_of state → state ≡ stopped stop → ⊥
not_stopped state stop e i = absurd (let n : None ≡ Some stop = e ∙ ap stop_of i in cc)

stopped_by : (state : State) (stop : Stop) → stop_of state ≡ Some stop → state ≡ stopped stop
stopped_by (on lines progress) stop e = absurd (cc e)
stopped_by (stopped other) stop e = let i : other ≡ stop = cc in ap stopped i

-- what stops a line behind others stops them all
halted : (before now after : Check) (lines : List (List ℕ)) (stop : Stop) → GoesOn before lines now → HasStopped now stop after → HasStopped before stop after
halted before now after lines stop g h = record { facts = h.facts ∙ g.facts; outs = h.outs ∙ g.outs; state = h.state }

-- ---- several
-- behind want of memory all lines stay
out_of_memory : (facts : Facts) (outs : ℕ) (before after : State) (lines : List (List ℕ)) → before ≡ stopped (Fault NoMemory) → Feeds facts outs before lines after
    → after ≡ stopped (Fault NoMemory)
out_of_memory facts outs before _ _ e none = e
out_of_memory facts outs before after _ e (first {middle = middle} {text = text} {lines = lines} h rest) =
    out_of_memory facts outs middle after lines (subst (λ s. IsFed facts outs s text middle) e h) rest
out_of_memory facts outs before _ lines e no_memory = refl

feeds-append : (facts : Facts) (outs : ℕ) (before middle after : State) (some more : List (List ℕ)) → Feeds facts outs before some middle → Feeds facts outs middle more after
    → Feeds facts outs before (some ++ more) after
feeds-append facts outs before _ after _ more none k = k
feeds-append facts outs before middle after _ more (first {middle = next} {lines = some} h rest) k = first h (feeds-append facts outs next middle after some more rest k)
feeds-append facts outs before _ after some more no_memory k =
    subst (λ s. Feeds facts outs before (some ++ more) s) (sym (out_of_memory facts outs (stopped (Fault NoMemory)) after more refl k)) no_memory

goes-append : (before now after : Check) (some more : List (List ℕ)) → GoesOn before some now → GoesOn now more after → GoesOn before (some ++ more) after
goes-append before now after some more g h = record {
  facts = h.facts ∙ g.facts;
  outs = h.outs ∙ g.outs;
  feeds = feeds-append before.facts before.outs before.state now.state after.state some more g.feeds (behind before now more after.state g h.feeds);
  on = λ o. h.on (g.on o);
}
  where
    behind : (before now : Check) (more : List (List ℕ)) (end : State) → GoesOn before some now → Feeds now.facts now.outs now.state more end → Feeds before.facts before.outs now.state more end
    behind before now more end g f =
        subst (λ (o : ℕ). Feeds before.facts o now.state more end) g.outs (subst (λ (z : Facts). Feeds z now.outs now.state more end) g.facts f)

stops-append : (before now : Check) (some more : List (List ℕ)) (stop : Stop) → GoesOn before some now → StopsBy now more stop → StopsBy before (some ++ more) stop
stops-append before now some more stop g s =
    feeds-append before.facts before.outs before.state now.state (stopped stop) some more g.feeds
    (subst (λ (o : ℕ). Feeds before.facts o now.state more (stopped stop)) g.outs (subst (λ (z : Facts). Feeds z now.outs now.state more (stopped stop)) g.facts s))

-- ---- pieces
unbroken-append : (x y : List ℕ) → IsUnbroken x → IsUnbroken y → IsUnbroken (x ++ y)
unbroken-append [] y u v = v
unbroken-append (byte ∷ x) y u v = (u.0, unbroken-append x y u.1 v)

module _ (before : Partial) (piece : List ℕ) where
  pub still-stopped : (stop : Stop) → stop_of before.check.state ≡ Some stop → Takes before piece before (Err stop)
  still-stopped stop e = (
    record { lines = []; rest = before.bytes ++ piece; ended = nothing; stops = subst (λ s. Feeds before.check.facts before.check.outs before.check.state [] s) is none },
    record { facts = refl; outs = refl; state = is },
  )
    where
      is : before.check.state ≡ stopped stop
      is = stopped_by before.check.state stop e

  pub nothing-taken : (rest : List ℕ) → rest ≡ piece → IsTakenSoFar before piece rest before
  nothing-taken rest e = record {
    prefix = [];
    parts = sym e;
    lines = [];
    ended = subst (λ b. AreEnded b [] before.bytes) (sym (append-nil before.bytes)) nothing;
    unbroken = λ u. u;
    goes_on = record { facts = refl; outs = refl; feeds = none; on = λ o. o };
  }

  module _ (rest : List ℕ) (now : Partial) (t : IsTakenSoFar before piece rest now) where
    -- a line of the piece
    one-ended : (bytes : List ℕ) → IsUnbroken now.bytes → IsUnbroken bytes → AreEnded (now.bytes ++ (bytes ++ 10 ∷ [])) (fed (now.bytes ++ bytes) true ∷ []) []
    one-ended bytes u v =
        subst (λ b. AreEnded b (fed (now.bytes ++ bytes) true ∷ []) []) (append-nil (fed (now.bytes ++ bytes) true) ∙ append_assoc now.bytes bytes (10 ∷ []))
        (line (now.bytes ++ bytes) (unbroken-append now.bytes bytes u v) nothing)

    ended-with : (bytes : List ℕ) → IsUnbroken now.bytes → IsUnbroken bytes → AreEnded (before.bytes ++ (t.prefix ++ (bytes ++ 10 ∷ []))) (t.lines ++ fed (now.bytes ++ bytes) true ∷ []) []
    ended-with bytes u v =
        ended-pieces before.bytes t.prefix (bytes ++ 10 ∷ []) now.bytes t.lines (fed (now.bytes ++ bytes) true ∷ []) [] t.ended (one-ended bytes u v)

    parts-with : (bytes more : List ℕ) → rest ≡ bytes ++ 10 ∷ more → piece ≡ (t.prefix ++ (bytes ++ 10 ∷ [])) ++ more
    parts-with bytes more e =
        t.parts ∙ (ap (λ r. t.prefix ++ r) (e ∙ sym (append_assoc bytes (10 ∷ []) more)) ∙ sym (append_assoc t.prefix (bytes ++ 10 ∷ []) more))

    pub line-taken : (bytes more : List ℕ) (after : Partial) → rest ≡ bytes ++ 10 ∷ more → IsUnbroken now.bytes → IsUnbroken bytes → EndsLine now bytes after (Ok tt)
        → IsTakenSoFar before piece more after
    line-taken bytes more after e u v (g, empty) = record {
      prefix = t.prefix ++ (bytes ++ 10 ∷ []);
      parts = parts-with bytes more e;
      lines = t.lines ++ fed (now.bytes ++ bytes) true ∷ [];
      ended = subst (λ b. AreEnded (before.bytes ++ (t.prefix ++ (bytes ++ 10 ∷ []))) (t.lines ++ fed (now.bytes ++ bytes) true ∷ []) b) (sym empty) (ended-with bytes u v);
      unbroken = λ w. subst IsUnbroken (sym empty) tt;
      goes_on = goes-append before.check now.check after.check t.lines (fed (now.bytes ++ bytes) true ∷ []) t.goes_on g;
    }

    pub line-stops : (bytes more : List ℕ) (after : Partial) (stop : Stop) → rest ≡ bytes ++ 10 ∷ more → IsUnbroken now.bytes → IsUnbroken bytes → EndsLine now bytes after (Err stop)
        → Takes before piece after (Err stop)
    line-stops bytes more after stop e u v (s, h) = (
      record {
        lines = t.lines ++ fed (now.bytes ++ bytes) true ∷ [];
        rest = more;
        ended = subst (λ b. AreEnded (before.bytes ++ b) (t.lines ++ fed (now.bytes ++ bytes) true ∷ []) more) (sym (parts-with bytes more e))
            (subst (λ b. AreEnded b (t.lines ++ fed (now.bytes ++ bytes) true ∷ []) more) (append_assoc before.bytes (t.prefix ++ (bytes ++ 10 ∷ [])) more)
            (ended-before (before.bytes ++ (t.prefix ++ (bytes ++ 10 ∷ []))) (t.lines ++ fed (now.bytes ++ bytes) true ∷ []) [] more (ended-with bytes u v)));
        stops = stops-append before.check now.check t.lines (fed (now.bytes ++ bytes) true ∷ []) stop t.goes_on s;
      },
      halted before.check now.check after.check t.lines stop t.goes_on h,
    )

    -- memory ran out where bytes were to be kept
    pub keep-stops : (after : Partial) (stop : Stop) → (stop ≡ Fault NoMemory) × HasStopped now.check stop after.check → Takes before piece after (Err stop)
    keep-stops after stop (e, h) = (
      subst (IsStoppedIn before piece) (sym e) (record { lines = []; rest = before.bytes ++ piece; ended = nothing; stops = no_memory }),
      halted before.check now.check after.check t.lines stop t.goes_on h,
    )

    -- bytes of a line that goes on
    pub rest-kept : (bytes more : List ℕ) (after : Partial) → rest ≡ bytes ++ more → IsUnbroken bytes → (after.check ≡ now.check) × (after.bytes ≡ now.bytes ++ bytes)
        → IsTakenSoFar before piece more after
    rest-kept bytes more after e v (same, kept) = record {
      prefix = t.prefix ++ bytes;
      parts = t.parts ∙ (ap (λ r. t.prefix ++ r) e ∙ sym (append_assoc t.prefix bytes more));
      lines = t.lines;
      ended = subst (λ b. AreEnded (before.bytes ++ (t.prefix ++ bytes)) t.lines b) (sym kept)
          (subst (λ b. AreEnded b t.lines (now.bytes ++ bytes)) (append_assoc before.bytes t.prefix bytes) (ended-before (before.bytes ++ t.prefix) t.lines now.bytes bytes t.ended));
      unbroken = λ w. subst IsUnbroken (sym kept) (unbroken-append now.bytes bytes (t.unbroken w) v);
      goes_on = subst (GoesOn before.check t.lines) (sym same) t.goes_on;
    }

    -- all of it
    pub all-taken : rest ≡ [] → IsTaken before piece now
    all-taken e = record {
      lines = t.lines;
      ended = subst (λ b. AreEnded (before.bytes ++ b) t.lines now.bytes) (sym (t.parts ∙ (ap (λ r. t.prefix ++ r) e ∙ append-nil t.prefix))) t.ended;
      unbroken = t.unbroken;
      goes_on = t.goes_on;
    }

  -- ---- the next line of the piece
  module _ (lines : Unread) (bytes : List ℕ) (number : ℕ) (ended : Bool) (behind : Unread) (h : IsNextLine lines bytes number ended behind)
      (now : Partial) (t : IsTakenSoFar before piece lines.text now) where
    rest-is : ended ≡ true → lines.text ≡ bytes ++ 10 ∷ behind.text
    rest-is e = h.text ∙ (ap (λ b. fed bytes b ++ behind.text) e ∙ append_assoc bytes (10 ∷ []) behind.text)

    pub next-taken : ended ≡ true → (after : Partial) → IsUnbroken now.bytes → EndsLine now bytes after (Ok tt) → IsTakenSoFar before piece behind.text after
    next-taken e after u f = line-taken lines.text now t bytes behind.text after (rest-is e) u h.unbroken f

    pub next-stops : ended ≡ true → (after : Partial) (stop : Stop) → IsUnbroken now.bytes → EndsLine now bytes after (Err stop) → Takes before piece after (Err stop)
    next-stops e after stop u f = line-stops lines.text now t bytes behind.text after stop (rest-is e) u h.unbroken f

    pub next-kept : ended ≡ false → (after : Partial) → KeepsLine now bytes after (Ok tt) → IsTakenSoFar before piece behind.text after
    next-kept e after k = rest-kept lines.text now t bytes behind.text after (h.text ∙ ap (λ b. fed bytes b ++ behind.text) e) h.unbroken k

-- ---- the end of a text
pub last-fed : (before : Partial) (after : Check) (answer : Result (Unit {0}) Stop) → (before.bytes ≡ [] → ⊥) → IsFedBy before.check before.bytes after answer
    → IsLastFed before after.state
last-fed before after (Ok _) some g = inr (some, g.feeds)
last-fed before after (Err stop) some (s, h) = inr (some, subst (Feeds before.check.facts before.check.outs before.check.state (before.bytes ∷ [])) (sym h.state) s)

-- ---- pieces one after the other
module _ (before now : Partial) (piece next : List ℕ) (t : IsTaken before piece now) where
  pub taken-append : (after : Partial) → IsTaken now next after → IsTaken before (piece ++ next) after
  taken-append after u = record {
    lines = t.lines ++ u.lines;
    ended = ended-pieces before.bytes piece next now.bytes t.lines u.lines after.bytes t.ended u.ended;
    unbroken = λ w. u.unbroken (t.unbroken w);
    goes_on = goes-append before.check now.check after.check t.lines u.lines t.goes_on u.goes_on;
  }

  pub stopped-append : (stop : Stop) → IsStoppedIn now next stop → IsStoppedIn before (piece ++ next) stop
  stopped-append stop u = record {
    lines = t.lines ++ u.lines;
    rest = u.rest;
    ended = ended-pieces before.bytes piece next now.bytes t.lines u.lines u.rest t.ended u.ended;
    stops = stops-append before.check now.check t.lines u.lines stop t.goes_on u.stops;
  }

pub none-taken : (before : Partial) → IsTaken before [] before
none-taken before = record {
  lines = [];
  ended = subst (λ b. AreEnded b [] before.bytes) (sym (append-nil before.bytes)) nothing;
  unbroken = λ u. u;
  goes_on = record { facts = refl; outs = refl; feeds = none; on = λ o. o };
}
