use Rattle.std.proofs.Common.{◌<◌, List, ℕ, length, get_or, sym, ◌∙◌, subst, arith}
use Rattle.std.proofs.Math.ListN.{set}
use Rattle.std.proofs.lemmas.List.{length-set}
use Rattle.u_equal.specs.Standing.{IsIn}
use Rattle.u_equal.specs.Agendas.{users_at}
use Rattle.u_equal.proofs.congruence.Waiting.{each-item, each-more, user-here, user-still, users-now}
use Rattle.u_equal.proofs.agenda.Agenda.move_users.Goals as goal

pub loop-number-preserved : goal.loop-number-preserved
loop-number-preserved c =
    let items : List ℕ = c.as_slice-number-items.result.now in
    let number : ℕ = get_or items c.loop-number.number-index 0 in
    let users : List (List ℕ) = c.loop-number.self.users.items in
    let to = c.args.to in
    let old : List ℕ = c.index_mut-in-loop-number.result.now in
    let new : List ℕ = c.insert.new.self in
    let h = c.loop-number.invariant in
    let within : to < length users = omega (arith, c.requires.to, h.long) in
    let still = user-still users to number old new within c.index_mut-in-loop-number.ensures.value c.in_ok-insert.ensures in
    record {
      long = omega (arith, h.long, length-set users to new);
      still = λ class k other there. still class k (h.still class k other there);
      moved = each-more (λ k. IsIn k (users_at (set users to new) to)) items c.loop-number.number-index (λ m less. still to (get_or items m 0) (h.moved m less))
          (user-here users to number old new within c.index_mut-in-loop-number.ensures.value c.in_ok-insert.ensures);
      waiting = h.waiting;
    }

pub returns : goal.returns
returns c =
    let items : List ℕ = c.as_slice-number-items.result.now in
    let h = c.loop-number.invariant in
    record {
      long = h.long;
      still = h.still;
      moves = λ number there.
          let moved : IsIn number items = subst (λ (ns : List ℕ). IsIn number ns)
          (sym (c.as_slice-number-items.ensures ∙ c.replace-moved.ensures.value ∙ users-now c.args.self.now.users.items c.args.from c.index_mut.result.now c.requires.from c.index_mut.ensures.value)) there in (
            each-item (λ k. IsIn k (users_at c.loop-number.self.users.items c.args.to)) items c.loop-number.number-index (omega (arith, c.loop-number-test.false)) h.moved number moved,
            subst (λ (ns : List ℕ). IsIn number ns) c.as_slice-number-items.ensures moved,
          );
      waiting = h.waiting;
    }
