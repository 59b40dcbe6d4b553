use Rattle.std.proofs.Common.{◌≡◌, List, length, refl, sym, ap, subst, ◌∙◌, arith}
use Rattle.std.specs.Prelude.{Some, slice_get}
use Rattle.std.proofs.lemmas.Option.{slice_get_read, slice_get_within}
use Rattle.u_terms.specs.Syntax.{Val}
use Rattle.u_terms.specs.declared.term.Val.TheVariants as v
use Rattle.u_equal.specs.declared.calls.Call.{Call}
use Rattle.u_equal.specs.Tables.{AreIn, ArePlaces, IsCall}
use Rattle.u_equal.proofs.products.KeyLaws.{only-first}
use Rattle.u_equal.proofs.products.Listed.{calls-are, calls-all, calls-other}
use Rattle.u_equal.proofs.calls.calls_of.Goals as goal
use Rattle.u_equal.proofs.calls.calls_of.Goals.{in-Fun+in_ok-places_of+in_ok-push, in_default}

pub places_of-requires : goal.places_of-requires
places_of-requires c =
    let keys = c.args.forest.now.values.keys in
    let at : slice_get keys c.loop-place.place ≡ Some c.index-keys-place.result =
    subst (λ (ks : List Val). slice_get ks c.loop-place.place ≡ Some c.index-keys-place.result) c.as_slice-keys.ensures.keys
    (slice_get_read c.as_slice-keys.result.now (length c.as_slice-keys.result.now) c.loop-place.place c.index-keys-place.result refl (omega arith) c.index-keys-place.is) in
    let is : c.index-keys-place.result ≡ v.Fun c.in-Fun.symbol c.in-Fun.args = sym c.key.view_is ∙ c.in-Fun.is in
    subst (λ (xs : List Val). AreIn xs keys) (sym c.as_slice.ensures)
    (c.requires c.in-Fun.symbol c.in-Fun.args (record { place = c.loop-place.place; here = at ∙ ap (λ (x : Val). Some x) is }))

pub loop-place-preserved : goal.loop-place-preserved
loop-place-preserved c =
    let keys = c.args.forest.now.values.keys in
    let place = c.loop-place.place in
    let at : slice_get keys place ≡ Some c.index-keys-place.result =
    subst (λ (ks : List Val). slice_get ks place ≡ Some c.index-keys-place.result) c.as_slice-keys.ensures.keys
    (slice_get_read c.as_slice-keys.result.now (length c.as_slice-keys.result.now) place c.index-keys-place.result refl (omega arith) c.index-keys-place.is) in
    elim c.match-key.branch [
      | in-Fun+in_ok-places_of+in_ok-push w ↦
          let is : c.index-keys-place.result ≡ v.Fun w.in-Fun.symbol w.in-Fun.args = sym c.key.view_is ∙ w.in-Fun.is in
          let made : Call = record { place = place; symbol = w.in-Fun.symbol; arguments = w.in_ok-places_of.field-0 } in
          let call : IsCall keys made = record {
            from = w.in-Fun.args;
            here = only-first keys c.as_slice-keys.ensures.unique (v.Fun w.in-Fun.symbol w.in-Fun.args) place (at ∙ ap (λ (x : Val). Some x) is);
            arguments = subst (λ (xs : List Val). ArePlaces keys xs w.in_ok-places_of.field-0) w.as_slice.ensures w.in_ok-places_of.ensures;
          } in
          rw w.calls-is (record {
            are = calls-are keys c.loop-place.calls.items w.push.new.self.items place made call w.in_ok-push.ensures.items c.loop-place.invariant.are;
            all = calls-all keys c.loop-place.calls.items w.push.new.self.items place made refl w.in_ok-push.ensures.items c.loop-place.invariant.all;
          })
      | in_default w ↦
          rw w.calls-is (record {
            are = c.loop-place.invariant.are;
            all = calls-other keys c.loop-place.calls.items c.loop-place.calls.items place c.index-keys-place.result at (λ f xs is. w.in_default.not-Fun f xs (c.key.view_is ∙ is)) c.loop-place.invariant.all;
          })
    ]

pub returns : goal.returns
returns c = record {
  are = c.loop-place.invariant.are;
  all = λ place f xs at.
      let within = slice_get_within c.args.forest.now.values.keys place (v.Fun f xs) at in
      c.loop-place.invariant.all place f xs (omega (arith, within, c.loop-place-test.false, ap length c.as_slice-keys.ensures.keys)) at;
}
