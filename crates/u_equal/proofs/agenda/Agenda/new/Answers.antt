use Rattle.std.proofs.Common.{◌≡◌, List, ℕ, length, inl, inr, refl, sym, ◌∙◌, subst, arith}
use Rattle.std.specs.Prelude.{Some, slice_get}
use Rattle.std.proofs.lemmas.Bool.{cases_eq}
use Rattle.std.proofs.lemmas.Option.{same_Some, slice_get_read, slice_get_within}
use Rattle.u_equal.specs.declared.calls.Call.{Call}
use Rattle.u_equal.specs.Joined.{label_now, seen}
use Rattle.u_equal.specs.Standing.{IsIn}
use Rattle.u_equal.specs.Agendas.{Uses}
use Rattle.u_equal.proofs.agenda.Agenda.new.Goals as goal

pub loop-number-preserved : goal.loop-number-preserved
loop-number-preserved c =
    let s = seen c.args.forest.now in
    let calls = c.args.calls.now in
    let i : ℕ = c.loop-number.number in
    let users : List (List ℕ) = c.enter.new.self.users.items in
    let waiting : List ℕ = c.enter.new.self.waiting in
    let h = c.loop-number.invariant in
    let e = c.in_ok-enter.ensures in
    let at = slice_get_read calls (length calls) i c.index-calls-number.result refl (omega arith) c.index-calls-number.is in
    record {
      long = omega (arith, h.long, e.long);
      uses = λ k d less there. elim (cases_eq k i) [
        | inl last ↦
            subst (λ (m : ℕ). Uses (label_now s) users m d) (sym last)
            (subst (λ (x : Call). Uses (label_now s) users i x) (same_Some c.index-calls-number.result d (sym at ∙ subst (λ (m : ℕ). slice_get calls m ≡ Some d) last there)) e.uses)
        | inr other ↦ λ place place_in. e.still (label_now s place) k (h.uses k d (omega (arith, less, other)) there place place_in)
      ];
      waits = λ k d less there. elim (cases_eq k i) [
        | inl last ↦ subst (λ (m : ℕ). IsIn m waiting) (sym last) e.waits
        | inr other ↦ e.others k (h.waits k d (omega (arith, less, other)) there)
      ];
    }

pub returns : goal.returns
returns c =
    let calls = c.args.calls.now in
    let h = c.loop-number.invariant in
    record {
      long = h.long;
      uses = λ k d there. let within = slice_get_within calls k d there in h.uses k d (omega (arith, within, c.loop-number-test.false)) there;
      waits = λ k d there. let within = slice_get_within calls k d there in h.waits k d (omega (arith, within, c.loop-number-test.false)) there;
    }
