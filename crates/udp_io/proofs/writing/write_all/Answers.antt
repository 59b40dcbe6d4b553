use Rattle.std.proofs.Common.{◌≡◌, ℕ, ◌-◌, List, length, take, drop, rules, arith, length-drop}
use Rattle.std.proofs.Math.Seq.{take-add}
use Rattle.std.proofs.lemmas.List.{take_all}
use Rattle.udp_io.proofs.WritingLemmas.{Grows-trans}
use Rattle.udp_io.proofs.writing.write_all.Goals as goal

-- what `&bytes[n..]` lends
take-drop_all : (n : ℕ) (bytes : List ℕ) → take (length bytes - n) (drop n bytes) ≡ drop n bytes
take-drop_all n bytes = take_all _ _ (omega (arith, length-drop n bytes))

pub loop-done-preserved : goal.loop-done-preserved
loop-done-preserved g c =
    let now = rw (take-drop_all c.loop-done.done c.args.bytes.now) at c.in_ok-done.ensures.appended in record {
      within = search rules;
      later = search rules;
      so_far = rw take-add (Grows-trans _ _ _ _ _ c.loop-done.invariant.so_far now);
    }
