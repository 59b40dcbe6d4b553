use Rattle.std.proofs.Common.{◌≡◌, ◌+◌, ◌<◌, List, [], ◌∷◌, ◌++◌, append-nil, drop, length, take, ap, sym, subst, refl, ◌∙◌, arith}
use Rattle.std.specs.Prelude.{All, Contains, IsPermutation}
use Rattle.std.proofs.lemmas.List.{drop_all, nil_from_length, take_all}
use Rattle.std.proofs.lemmas.List.Edits.{length-remove}
use Rattle.std.proofs.lemmas.List.Elements.{All-contains, All-nil, All-push}
use Rattle.std.proofs.lemmas.List.Sorted.{IsPermutation-refl}
use Rattle.shapes.specs.Unions.{AllAlike, no_blocks}
use Rattle.u_bag.specs.declared.pairs.Block.{Block}
use Rattle.u_bag.specs.declared.pairs.Pair.{Pair}
use Rattle.u_bag.specs.Pairs.{SomeSpendsBudget, IsFoundAmong, IsPartner, IsPartnerAt, IsOfWholeShape, lefts_of, rights_of, shapes_of, terms_of}
use Rattle.u_bag.proofs.pairing.Partners.{alike-by, before-alike, all-among, all-here, all-left_over, first-left, next-alike, next-lefts, next-rights, no-partner}
use Rattle.u_bag.proofs.pairs.pair_all.Goals as goal

pub loop-left-init : goal.loop-left-init
loop-left-init c =
    let P = IsFoundAmong c.args.lefts.now c.args.rights.items in
    let none : c.in_ok-pairs.pairs.items ≡ [] = (c.in_ok-pairs.ensures {u = tt}).items in
    record {
      many = omega arith;
      lefts_are = ap lefts_of none;
      rights_are = subst (λ (found : List Pair). IsPermutation (terms_of c.args.rights.items) (rights_of found ++ terms_of c.args.rights.items)) (sym none) (IsPermutation-refl (terms_of c.args.rights.items));
      each = subst (All P) (sym none) (All-nil P);
      rest_in = all-here c.args.rights.items;
      alike = (λ a. a, λ a. a);
    }

pub first_partner-requires-clause-rights : goal.first_partner-requires-clause-rights
first_partner-requires-clause-rights c =
    subst (All IsOfWholeShape) (sym c.as_slice.ensures.value) (all-among IsOfWholeShape c.args.rights.items c.loop-left.rest.items c.requires.rights c.loop-left.invariant.rest_in)

pub loop-left-preserved : goal.loop-left-preserved
loop-left-preserved c =
    let P = IsFoundAmong c.args.lefts.now c.args.rights.items in
    let R = Contains c.args.rights.items in
    let i = c.loop-left.left-index in
    let rest = c.loop-left.rest.items in
    let left = c.left-item.result in
    let right = c.remove-right.result in
    let pair : Pair = record { left = c.left-item.result.term; right = c.remove-right.result.term; entries = c.in-At.entries } in
    let more : c.push.new.self.items ≡ c.loop-left.pairs.items ++ pair ∷ [] = (c.in_ok-push-in-At.ensures {u = tt}).items in
    let partner : IsPartnerAt left.shape c.loop-left.rest.items c.in-At.place c.in-At.entries =
    subst (λ (bs : List Block). IsPartnerAt left.shape bs c.in-At.place c.in-At.entries) c.as_slice.ensures.value (subst (IsPartner left.shape c.as_slice.result.now c.args.budget) c.in-At.is (c.in_ok-place.ensures {u = tt})) in
    let within = partner.inside in
    let pairing = partner.pairing right (sym c.remove-right.ensures.value) in
    let less : c.loop-left.left-index < length c.args.lefts.now = omega (arith, c.loop-left-test.true, c.loop-left.auto.left-index-end) in
    let is : P pair = record {
      left = left;
      right = right;
      left_in = (i, less, sym c.left-item.is);
      right_in = All-contains R rest right c.loop-left.invariant.rest_in (c.in-At.place, within, sym c.remove-right.ensures.value);
      left_is = refl;
      right_is = refl;
      pairing = pairing;
    } in
    let alike = alike-by left.shape right.shape c.in-At.entries pairing in
    let h = c.loop-left.invariant in
    rw c.remove-right.ensures.items (record {
      many = let many = h.many in omega (arith, many, length-remove rest c.in-At.place within);
      lefts_are = next-lefts c.args.lefts.now c.args.rights.items rest c.loop-left.pairs.items c.push.new.self.items i c.in-At.place left right pair less c.left-item.is within c.remove-right.ensures.value more refl h.lefts_are;
      rights_are = next-rights c.args.lefts.now c.args.rights.items rest c.loop-left.pairs.items c.push.new.self.items i c.in-At.place left right pair less c.left-item.is within c.remove-right.ensures.value more refl h.rights_are;
      each = subst (All P) (sym more) (All-push P c.loop-left.pairs.items pair h.each is);
      rest_in = all-left_over R rest c.in-At.place h.rest_in;
      alike = (
        λ a. next-alike c.args.lefts.now c.args.rights.items rest c.loop-left.pairs.items c.push.new.self.items i c.in-At.place left right pair less c.left-item.is within c.remove-right.ensures.value more
            c.requires.lefts (all-among IsOfWholeShape c.args.rights.items rest c.requires.rights h.rest_in)
            (All-contains IsOfWholeShape c.args.lefts.now left c.requires.lefts (i, less, sym c.left-item.is)) alike (h.alike.0 a),
        λ a. h.alike.1 (before-alike c.args.lefts.now c.args.rights.items rest c.loop-left.pairs.items c.push.new.self.items i c.in-At.place left right pair less c.left-item.is within c.remove-right.ensures.value more alike a),
      );
    })

pub returns-in-Nowhere : goal.returns-in-Nowhere
returns-in-Nowhere c a =
    let none = subst (IsPartner c.left-item.result.shape c.as_slice.result.now c.args.budget) c.in-Nowhere.is (c.in_ok-place.ensures {u = tt}) in
    no-partner c.left-item.result.shape (shapes_of (drop (c.loop-left.left-index + 1) c.args.lefts.now)) c.loop-left.rest.items
    (λ block i. none block (subst (λ (bs : List Block). Contains bs block) (sym c.as_slice.ensures.value) i))
    (shapes_of (drop c.loop-left.left-index c.args.lefts.now))
    (ap shapes_of (first-left c.args.lefts.now c.loop-left.left-index c.left-item.result (omega (arith, c.loop-left-test.true, c.loop-left.auto.left-index-end)) c.left-item.is))
    (shapes_of c.loop-left.rest.items) refl (c.loop-left.invariant.alike.0 a)

pub returns-in-Spent : goal.returns-in-Spent
returns-in-Spent c =
    let a : SomeSpendsBudget c.left-item.result.shape c.as_slice.result.now c.args.budget =
    subst (IsPartner c.left-item.result.shape c.as_slice.result.now c.args.budget) c.in-Spent.is (c.in_ok-place.ensures {u = tt}) in
    let there : Contains c.loop-left.rest.items a.block = subst (λ (bs : List Block). Contains bs a.block) c.as_slice.ensures.value a.is_in in
    record {
      left = c.left-item.result;
      right = a.block;
      left_in = (c.loop-left.left-index, omega (arith, c.loop-left-test.true, c.loop-left.auto.left-index-end), sym c.left-item.is);
      right_in = All-contains (Contains c.args.rights.items) c.loop-left.rest.items a.block c.loop-left.invariant.rest_in there;
      above = a.above;
    }

pub returns : goal.returns
returns c =
    let h = c.loop-left.invariant in
    let whole : take c.loop-left.left-index c.args.lefts.now ≡ c.args.lefts.now = take_all c.loop-left.left-index c.args.lefts.now c.loop-left-test.false in
    let many = h.many in
    let none : c.loop-left.rest.items ≡ [] = nil_from_length c.loop-left.rest.items (omega (arith, many, c.loop-left-test.false, c.requires.as_many)) in
    record {
      lefts_are = h.lefts_are ∙ ap terms_of whole;
      rights_are = subst (IsPermutation (terms_of c.args.rights.items)) (ap (λ (bs : List Block). rights_of c.loop-left.pairs.items ++ terms_of bs) none ∙ append-nil (rights_of c.loop-left.pairs.items)) h.rights_are;
      each = h.each;
      alike = h.alike.1 (subst (λ (bs : List Block). AllAlike (shapes_of (drop c.loop-left.left-index c.args.lefts.now)) (shapes_of bs)) (sym none)
          (subst (λ (bs : List Block). AllAlike (shapes_of bs) []) (sym (drop_all c.loop-left.left-index c.args.lefts.now c.loop-left-test.false)) no_blocks));
    }
