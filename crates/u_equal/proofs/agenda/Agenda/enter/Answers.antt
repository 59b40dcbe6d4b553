use Rattle.std.proofs.Common.{◌≡◌, ◌<◌, List, ℕ, length, get_or, sym, ap, ◌∙◌, subst, arith}
use Rattle.std.proofs.Math.ListN.{set}
use Rattle.std.proofs.lemmas.List.{length-set}
use Rattle.std.proofs.lemmas.Result.{on_ok_weaker}
use Rattle.u_equal.specs.Joined.{label_now, seen}
use Rattle.u_equal.specs.Standing.{IsIn}
use Rattle.u_equal.specs.Agendas.{users_at}
use Rattle.u_equal.proofs.products.Listed.{place-within}
use Rattle.u_equal.proofs.congruence.Waiting.{each-item, each-more, user-here, user-still}
use Rattle.u_equal.proofs.agenda.Agenda.enter.Goals as goal

pub class_of-class-requires-clause-place : goal.class_of-class-requires-clause-place
class_of-class-requires-clause-place c =
    let is = c.as_slice-place-items.ensures in
    subst (λ (ps : List ℕ). get_or ps c.loop-place.place-index 0 < length c.args.forest.now.values.keys) (sym is)
    (place-within c.args.forest.now.values.keys c.args.call.now c.requires.call c.loop-place.place-index (omega (arith, c.loop-place-test.true, ap length is)))

pub loop-place-preserved : goal.loop-place-preserved
loop-place-preserved c =
    let s = seen c.args.forest.now in
    let number = c.args.number in
    let users : List (List ℕ) = c.loop-place.self.users.items in
    let class : ℕ = c.class_of-class.result in
    let old : List ℕ = c.index_mut.result.now in
    let new : List ℕ = c.insert.new.self in
    let h = c.loop-place.invariant in
    let within : class < length users = omega (arith, c.class_of-class.ensures.within, c.requires.places, h.long) in
    let still = user-still users class number old new within c.index_mut.ensures.value c.in_ok-insert.ensures in
    let class_is : class ≡ label_now s (get_or c.args.call.now.arguments c.loop-place.place-index 0) =
    c.class_of-class.ensures.is ∙ ap (λ (ps : List ℕ). label_now s (get_or ps c.loop-place.place-index 0)) c.as_slice-place-items.ensures in
    record {
      long = omega (arith, h.long, length-set users class new);
      still = λ other k before. still other k (h.still other k before);
      uses = each-more (λ place. IsIn number (users_at (set users class new) (label_now s place))) c.args.call.now.arguments c.loop-place.place-index (λ m less. still _ number (h.uses m less))
          (subst (λ (m : ℕ). IsIn number (users_at (set users class new) m)) class_is (user-here users class number old new within c.index_mut.ensures.value c.in_ok-insert.ensures));
      waiting = h.waiting;
    }

pub returns : goal.returns
returns c =
    let s = seen c.args.forest.now in
    let h = c.loop-place.invariant in
    on_ok_weaker c.push.result
    (λ added. record {
      long = h.long;
      still = h.still;
      uses = each-item (λ place. IsIn c.args.number (users_at c.loop-place.self.users.items (label_now s place))) c.args.call.now.arguments c.loop-place.place-index
          (omega (arith, c.loop-place-test.false, ap length c.as_slice-place-items.ensures)) h.uses;
      waits = added.here;
      others = λ other there. added.still other (subst (λ (ns : List ℕ). IsIn other ns) (sym h.waiting) there);
    })
    c.push.ensures.added
