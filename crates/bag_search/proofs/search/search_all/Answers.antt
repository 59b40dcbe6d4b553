use Rattle.std.proofs.Common.{◌∙◌, ap, sym, length, arith}
use Rattle.shapes.specs.Tests.{fits}
use Rattle.bag_search.proofs.Longer.{fits-none}
use Rattle.bag_search.proofs.Whole.{unfit-nothing, all-found, all-nothing, all-spent}
use Rattle.bag_search.proofs.search.search_all.Goals as goal

pub returns-then-not-literals_alike : goal.returns-then-not-literals_alike
returns-then-not-literals_alike c =
    let s = c.args.sides.now.left.shape.now in
    let t = c.args.sides.now.right.shape.now in
    unfit-nothing s t c.args.budget c.requires.as_many (fits-none s t ∙ sym c.literals_alike.ensures ∙ c.if-not-literals_alike.true)

pub further-requires : goal.further-requires
further-requires c =
    let s = c.args.sides.now.left.shape.now in
    let t = c.args.sides.now.right.shape.now in
    let none = c.in_ok-chosen.ensures.items in
    record {
      can = record {
        sides_are = c.requires.sides;
        known_are = c.in_ok-known.ensures;
        as_many = c.requires.as_many;
        small = omega (arith, c.in-Ok.ensures.0, c.len.ensures);
        fit = ap (fits s t) none ∙ fits-none s t ∙ sym c.literals_alike.ensures ∙ c.if-not-literals_alike.false;
        no_longer = omega (arith, ap length none);
      };
    }

pub returns-in-Found : goal.returns-in-Found
returns-in-Found c =
    all-found c.args.sides.now.left.shape.now c.args.sides.now.right.shape.now c.in_ok-chosen.chosen.items c.further.new.chosen.items c.in_ok-further.field-0 c.args.budget c.further.new.left
    c.in_ok-chosen.ensures.items c.requires.as_many c.in_ok-further.ensures.answer c.in-Found.is c.from_vec.result c.from_vec.ensures

pub returns-in-Nothing : goal.returns-in-Nothing
returns-in-Nothing c =
    all-nothing c.args.sides.now.left.shape.now c.args.sides.now.right.shape.now c.in_ok-chosen.chosen.items c.further.new.chosen.items c.in_ok-further.field-0 c.args.budget c.further.new.left
    c.in_ok-chosen.ensures.items c.requires.as_many c.in_ok-further.ensures.answer c.in-Nothing.is

pub returns : goal.returns
returns c =
    all-spent c.args.sides.now.left.shape.now c.args.sides.now.right.shape.now c.in_ok-chosen.chosen.items c.further.new.chosen.items c.in_ok-further.field-0 c.args.budget c.further.new.left
    c.in_ok-chosen.ensures.items c.requires.as_many c.in_ok-further.ensures.answer c.in-Spent.is
