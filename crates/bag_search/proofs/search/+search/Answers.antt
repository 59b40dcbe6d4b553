use Rattle.std.proofs.Common.{◌≡◌, ℕ, List, ◌+◌, ◌-◌, ◌++◌, ◌∷◌, [], ◌∙◌, sym, ap, arith, length, take, false}
use Rattle.std.proofs.lemmas.List.{length-append}
use Rattle.std.proofs.Math.Seq.{take-append_seam}
use Rattle.shapes.specs.Tests.{fits}
use Rattle.bag_search.specs.Entries.{fits_next}
use Rattle.bag_search.proofs.Longer.{fits-longer}
use Rattle.bag_search.proofs.Budget.{passed_over, budget_over, misfit, goes_found, goes_spent, goes_nothing, nothing_at_end}
use Rattle.bag_search.proofs.search.+search.Goals as goal

pub go-loop-x-preserved-then-has : goal.go-loop-x-preserved-then-has
go-loop-x-preserved-then-has t c =
    let s = c.args.sides.now.left.shape.now in
    let t' = c.args.sides.now.right.shape.now in
    let l = c.args.chosen.now.items in
    let x = c.loop-x.x in
    record {
      same = c.loop-x.invariant.same;
      known = c.loop-x.invariant.known;
      behind = passed_over s t' (length s.entries) l x c.loop-x.left c.args.left.now (omega (arith, c.loop-x-test.true, c.len-x-end.ensures)) c.loop-x.invariant.behind
          c.as_slice.result.now (c.as_slice.ensures.value ∙ c.loop-x.invariant.same) c.has.result c.has.ensures c.if-has.true;
    }

pub go-returns-then-left-eq0-clause-answer : goal.go-returns-then-left-eq0-clause-answer
go-returns-then-left-eq0-clause-answer t c =
    let s = c.args.sides.now.left.shape.now in
    let t' = c.args.sides.now.right.shape.now in
    let l = c.args.chosen.now.items in
    let x = c.loop-x.x in
    budget_over s t' (length s.entries) l x c.loop-x.left c.args.left.now (omega (arith, c.loop-x-test.true, c.len-x-end.ensures)) c.loop-x.invariant.behind
    c.as_slice.result.now (c.as_slice.ensures.value ∙ c.loop-x.invariant.same) c.has.result c.has.ensures c.if-has.false c.if-left-eq0.true c.loop-x.chosen.items

pub go-loop-x-preserved-then-not-goes_on : goal.go-loop-x-preserved-then-not-goes_on
go-loop-x-preserved-then-not-goes_on t c =
    let s = c.args.sides.now.left.shape.now in
    let t' = c.args.sides.now.right.shape.now in
    let l = c.args.chosen.now.items in
    let x = c.loop-x.x in
    let out : fits s t' (l ++ x ∷ []) ≡ false = fits-longer s t' l x c.requires.can.shorter c.requires.can.tried.fit ∙ sym (ap (λ (k : List ℕ). fits_next s t' k x) (c.as_slice-in-loop-x.ensures.value ∙ c.loop-x.invariant.same)) ∙ sym c.goes_on.ensures.answer ∙ c.if-not-goes_on.true in
    record {
      same = c.loop-x.invariant.same;
      known = c.goes_on.ensures.known;
      behind = misfit s t' (length s.entries) l x c.loop-x.left c.args.left.now (omega (arith, c.loop-x-test.true, c.len-x-end.ensures)) c.loop-x.invariant.behind
          c.as_slice.result.now (c.as_slice.ensures.value ∙ c.loop-x.invariant.same) c.has.result c.has.ensures c.if-has.false c.if-left-eq0.false out;
    }

pub go-further-requires : goal.go-further-requires
go-further-requires t c =
    let s = c.args.sides.now.left.shape.now in
    let t' = c.args.sides.now.right.shape.now in
    let l = c.args.chosen.now.items in
    let x = c.loop-x.x in
    let longer : c.push.new.self.items ≡ l ++ x ∷ [] = c.in_ok-push.ensures.items ∙ ap (λ (k : List ℕ). k ++ x ∷ []) c.loop-x.invariant.same in
    let long : length c.push.new.self.items ≡ length l + 1 = ap length longer ∙ length-append l (x ∷ []) in (
      omega (arith, long, c.requires.can.shorter),
      record {
        sides_are = c.requires.can.tried.sides_are;
        known_are = c.goes_on.ensures.known;
        as_many = c.requires.can.tried.as_many;
        small = c.requires.can.tried.small;
        fit = ap (fits s t') longer ∙ fits-longer s t' l x c.requires.can.shorter c.requires.can.tried.fit ∙ sym (ap (λ (k : List ℕ). fits_next s t' k x) (c.as_slice-in-loop-x.ensures.value ∙ c.loop-x.invariant.same)) ∙ sym c.goes_on.ensures.answer ∙ c.if-not-goes_on.false;
        no_longer = omega (arith, long, c.requires.can.shorter);
      },
    )

pub go-returns-in-Found-clause-answer : goal.go-returns-in-Found-clause-answer
go-returns-in-Found-clause-answer t c =
    let s = c.args.sides.now.left.shape.now in
    let t' = c.args.sides.now.right.shape.now in
    let l = c.args.chosen.now.items in
    let x = c.loop-x.x in
    let longer : c.push.new.self.items ≡ l ++ x ∷ [] = c.in_ok-push.ensures.items ∙ ap (λ (k : List ℕ). k ++ x ∷ []) c.loop-x.invariant.same in
    goes_found s t' (length s.entries) l x c.loop-x.left c.args.left.now (omega (arith, c.loop-x-test.true, c.len-x-end.ensures)) c.loop-x.invariant.behind
    c.as_slice.result.now (c.as_slice.ensures.value ∙ c.loop-x.invariant.same) c.has.result c.has.ensures c.if-has.false c.if-left-eq0.false c.push.new.self.items longer c.in_ok-further.field-0 c.further.new.left c.further.new.chosen.items
    c.in_ok-further.ensures.answer c.in-Found.is

pub go-returns-in-Spent-clause-answer : goal.go-returns-in-Spent-clause-answer
go-returns-in-Spent-clause-answer t c =
    let s = c.args.sides.now.left.shape.now in
    let t' = c.args.sides.now.right.shape.now in
    let l = c.args.chosen.now.items in
    let x = c.loop-x.x in
    let longer : c.push.new.self.items ≡ l ++ x ∷ [] = c.in_ok-push.ensures.items ∙ ap (λ (k : List ℕ). k ++ x ∷ []) c.loop-x.invariant.same in
    goes_spent s t' (length s.entries) l x c.loop-x.left c.args.left.now (omega (arith, c.loop-x-test.true, c.len-x-end.ensures)) c.loop-x.invariant.behind
    c.as_slice.result.now (c.as_slice.ensures.value ∙ c.loop-x.invariant.same) c.has.result c.has.ensures c.if-has.false c.if-left-eq0.false c.push.new.self.items longer c.in_ok-further.field-0 c.further.new.left c.further.new.chosen.items
    c.in_ok-further.ensures.answer c.in-Spent.is

pub go-loop-x-preserved : goal.go-loop-x-preserved
go-loop-x-preserved t c =
    let s = c.args.sides.now.left.shape.now in
    let t' = c.args.sides.now.right.shape.now in
    let l = c.args.chosen.now.items in
    let x = c.loop-x.x in
    let longer : c.push.new.self.items ≡ l ++ x ∷ [] = c.in_ok-push.ensures.items ∙ ap (λ (k : List ℕ). k ++ x ∷ []) c.loop-x.invariant.same in
    let turn = goes_nothing s t' (length s.entries) l x c.loop-x.left c.args.left.now (omega (arith, c.loop-x-test.true, c.len-x-end.ensures)) c.loop-x.invariant.behind
    c.as_slice.result.now (c.as_slice.ensures.value ∙ c.loop-x.invariant.same) c.has.result c.has.ensures c.if-has.false c.if-left-eq0.false c.push.new.self.items longer c.in_ok-further.field-0 c.further.new.left c.further.new.chosen.items
    c.in_ok-further.ensures.answer c.in-Nothing.is in
    let end : c.len-shorter.result - 1 ≡ length l =
    omega (arith, c.further.new.chosen.ok, c.len-shorter.ensures, ap length turn.1, length-append l (x ∷ [])) in
    record {
      same = c.truncate.ensures.items ∙ ap (take (c.len-shorter.result - 1)) turn.1 ∙ ap (λ k. take k (l ++ x ∷ [])) end ∙ take-append_seam l (x ∷ []);
      known = c.in_ok-further.ensures.known;
      behind = turn.0;
    }

pub go-returns-clause-answer : goal.go-returns-clause-answer
go-returns-clause-answer t c =
    let s = c.args.sides.now.left.shape.now in
    let l = c.args.chosen.now.items in
    nothing_at_end s c.args.sides.now.right.shape.now c.loop-x.x (length s.entries - length l - 1) l c.loop-x.chosen.items c.loop-x.left c.args.left.now
    (omega (arith, c.loop-x-test.false, c.loop-x.auto.x-end, c.len-x-end.ensures, c.requires.can.tried.small, c.requires.can.tried.as_many)) c.loop-x.invariant.same c.loop-x.invariant.behind
