-- All readers agree with the left-factored grammar: each level from the one below it, and so, by induction, all of them.
use Rattle.std.proofs.Common.{◌≡◌, ◌-◌, sym, ℕ, zero, suc, Result, Ok, Err, subst, arith}
use Rattle.grammar.specs.Form.{ref}
use Rattle.sql_cursor.specs.declared.fault.ReadFault.{ReadFault}
use Rattle.sql_cursor.specs.declared.fault.ReadFault.TheVariants.{NoMemory}
use Rattle.sql_read.specs.Copied.{Copied}
use Rattle.sql_cursor.specs.Cursor.{Cursor}
use Rattle.sql_read.specs.Reads.{Reads}
use Rattle.sql_read.specs.Reading.{at, query}
use Rattle.sql_cursor.specs.Readers.{Gives, Reading}
use Rattle.sql_grammar.specs.Numbering.{Built}
use Rattle.sql_grammar.specs.QueryGrammar as grammar
use Rattle.sql_grammar.specs.QueryGrammar.{The}
use Rattle.sql_read.proofs.steps.AgreeDeeper.{DeeperAgrees, OneDeeper}
use Rattle.sql_read.proofs.steps.Agreeing.{Agrees}
use Rattle.sql_read.proofs.agree.AgreeExprs.{argument_agrees, exprs_agrees, neg_agrees}
use Rattle.sql_read.proofs.agree.AgreeInsides.{in_inner_agrees, inner_agrees}
use Rattle.sql_read.proofs.agree.AgreePrimaries.{unary_agrees}
use Rattle.sql_read.proofs.agree.AgreeSets.{query_agrees as query_agrees_at}

-- ---- by induction on the levels that are left

pub deeper_agrees : (levels : ℕ) → DeeperAgrees levels (at levels)
unfolding at
deeper_agrees zero some = absurd (omega (arith, some))
deeper_agrees (suc levels) some =
    let same : suc levels - 1 ≡ levels = omega arith in
    let d : DeeperAgrees levels (at levels) = deeper_agrees levels in
    subst (λ n. OneDeeper n (at (suc levels))) (sym same) (record {
      query = query_agrees_at levels (at levels) d;
      neg = neg_agrees levels (at levels) d;
      unary = unary_agrees levels (at levels) d;
      exprs = exprs_agrees levels (at levels) d;
      argument = argument_agrees levels (at levels) d;
      inner = inner_agrees levels (at levels) d;
      in_inner = in_inner_agrees levels (at levels) d;
    })

pub query_agrees : (levels : ℕ) (c : Cursor) → Agrees (ref grammar.query) levels (λ read. read) (λ read. read) c c (query levels (at levels) c)
query_agrees levels = query_agrees_at levels (at levels) (deeper_agrees levels)

-- ---- what code answers

-- what is so of a reading, and where memory ran out, is so of the code that gives it
pub by_given : {A : Type 0} (P : Result A ReadFault → Cursor → Type 0) (reading : Reading A) (result : Result A ReadFault) (after : Cursor) → P reading.0 reading.1 → P (Err NoMemory) after → Gives result after reading → P result after
by_given P reading (Ok x) after t none s = subst (λ r. P r.0 r.1) s t
by_given P reading (Err NoMemory) after t none s = none
by_given P reading (Err other) after t none s = subst (λ r. P r.0 r.1) s t

module _ {V A : Type 0} {f : The V} {levels : ℕ} {h w : V → Built A} {start before : Cursor} {reading : Reading A} (t : Agrees f levels h w start before reading) (result : Result A ReadFault) (after : Cursor) where
  pub read_of : Gives result after reading → Reads f levels h start before result after
  read_of = by_given (Reads f levels h start before) reading result after t.reads (record { answers = record { says = tt } })

  pub copied_of : Gives result after reading → Copied f w start before result after
  copied_of = by_given (Copied f w start before) reading result after t.copied (record { answers = record { says = tt } })
