use Rattle.std.proofs.Common.{◌≡◌, ℕ, List, length, length-append, ap, sym, subst, ◌∙◌, arith}
use Rattle.std.specs.Prelude.{get_or}
use Rattle.std.proofs.lemmas.Slice.Zip.{zip_turn, zip_end}
use Rattle.std.proofs.lemmas.List.{length-map}
use Rattle.u_bag.specs.Order.{AreSent, IsRowSent, lent_rows}
use Rattle.u_bag.proofs.pairing.Ordered.{entry-below, no-rows, row-below, row-one, row-sent, rows-long, written}
use Rattle.u_bag.proofs.order.sources_of.Goals as goal

pub loop-row-init : goal.loop-row-init
loop-row-init c = no-rows (lent_rows c.args.left.now.rows.items) (lent_rows c.args.right.now.rows.items) c.args.entries.now c.args.right.now.sums c.in_ok-sources.sources.items
    (let long = (c.in_ok-sources.ensures {u = tt}).len in omega (arith, long, c.in_ok-sources.sources.ok.0))

pub index-requires : goal.index-requires
index-requires c =
    let turn = zip_turn c.args.left.now.rows.items c.args.entries.now c.loop-row.yielded c.into_iter-row-iterator.result c.loop-row.row-iterator c.next.new.self c.next.result (cc) (cc)
    c.loop-row.yielded_by (c.in-Some.row, c.in-Some.entry) c.in-Some.is c.next.ensures.steps in
    let low = entry-below c.args.left.now.rows.items c.args.right.now.rows.items c.args.entries.now c.args.right.now.sums (length c.loop-row.yielded) c.in-Some.row.now c.in-Some.row.now c.requires turn.1 (sym (turn.2 c.in-Some.row.now)) in
    omega (arith, low, turn.3 0, c.args.right.now.rows.ok.0)

pub send_row-requires-clause-long : goal.send_row-requires-clause-long
send_row-requires-clause-long c =
    let turn = zip_turn c.args.left.now.rows.items c.args.entries.now c.loop-row.yielded c.into_iter-row-iterator.result c.loop-row.row-iterator c.next.new.self c.next.result (cc) (cc)
    c.loop-row.yielded_by (c.in-Some.row, c.in-Some.entry) c.in-Some.is c.next.ensures.steps in
    let at : get_or c.args.right.now.rows.items (get_or c.args.entries.now (length c.loop-row.yielded) 0) c.index.result.now ≡ c.index.result.now =
    ap (λ k. get_or c.args.right.now.rows.items k c.index.result.now) (sym (turn.3 0)) ∙ sym c.index.ensures in
    rows-long c.args.left.now.rows.items c.args.right.now.rows.items c.args.entries.now c.args.right.now.sums (length c.loop-row.yielded) c.in-Some.row.now c.index.result.now c.requires turn.1 (sym (turn.2 c.in-Some.row.now)) at

pub send_row-requires-clause-below : goal.send_row-requires-clause-below
send_row-requires-clause-below c from to w =
    let turn = zip_turn c.args.left.now.rows.items c.args.entries.now c.loop-row.yielded c.into_iter-row-iterator.result c.loop-row.row-iterator c.next.new.self c.next.result (cc) (cc)
    c.loop-row.yielded_by (c.in-Some.row, c.in-Some.entry) c.in-Some.is c.next.ensures.steps in
    let at : get_or c.args.right.now.rows.items (get_or c.args.entries.now (length c.loop-row.yielded) 0) c.index.result.now ≡ c.index.result.now =
    ap (λ k. get_or c.args.right.now.rows.items k c.index.result.now) (sym (turn.3 0)) ∙ sym c.index.ensures in
    let low = row-below c.args.left.now.rows.items c.args.right.now.rows.items c.args.entries.now c.args.right.now.sums (length c.loop-row.yielded) c.in-Some.row.now c.index.result.now c.requires turn.1 (sym (turn.2 c.in-Some.row.now)) at from to w in
    let long = c.loop-row.invariant.long in
    omega (arith, low, long, ap length c.as_mut_slice.ensures.value)

pub send_row-requires-clause-one : goal.send_row-requires-clause-one
send_row-requires-clause-one c =
    let turn = zip_turn c.args.left.now.rows.items c.args.entries.now c.loop-row.yielded c.into_iter-row-iterator.result c.loop-row.row-iterator c.next.new.self c.next.result (cc) (cc)
    c.loop-row.yielded_by (c.in-Some.row, c.in-Some.entry) c.in-Some.is c.next.ensures.steps in
    let at : get_or c.args.right.now.rows.items (get_or c.args.entries.now (length c.loop-row.yielded) 0) c.index.result.now ≡ c.index.result.now =
    ap (λ k. get_or c.args.right.now.rows.items k c.index.result.now) (sym (turn.3 0)) ∙ sym c.index.ensures in
    row-one c.args.left.now.rows.items c.args.right.now.rows.items c.args.entries.now c.args.right.now.sums (length c.loop-row.yielded) c.in-Some.row.now c.index.result.now c.requires turn.1 (sym (turn.2 c.in-Some.row.now)) at

pub loop-row-preserved : goal.loop-row-preserved
loop-row-preserved c =
    let turn = zip_turn c.args.left.now.rows.items c.args.entries.now c.loop-row.yielded c.into_iter-row-iterator.result c.loop-row.row-iterator c.next.new.self c.next.result (cc) (cc)
    c.loop-row.yielded_by (c.in-Some.row, c.in-Some.entry) c.in-Some.is c.next.ensures.steps in
    let at : get_or c.args.right.now.rows.items (get_or c.args.entries.now (length c.loop-row.yielded) 0) c.index.result.now ≡ c.index.result.now =
    ap (λ k. get_or c.args.right.now.rows.items k c.index.result.now) (sym (turn.3 0)) ∙ sym c.index.ensures in
    let same : length c.send_row.new.sources ≡ length c.loop-row.sources.items = c.send_row.ensures.long ∙ ap length c.as_mut_slice.ensures.value in
    rw (written c.loop-row.sources.len c.loop-row.sources.items c.send_row.new.sources c.loop-row.sources.ok.0 same, length-append)
    (row-sent c.args.left.now.rows.items c.args.right.now.rows.items c.args.entries.now c.args.right.now.sums (length c.loop-row.yielded) c.in-Some.row.now c.index.result.now c.requires turn.1 (sym (turn.2 c.in-Some.row.now)) at c.loop-row.sources.items c.send_row.new.sources
    (subst (λ (old : List ℕ). IsRowSent c.in-Some.row.now.now c.index.result.now.now (length c.in-Some.row.now.now) old c.send_row.new.sources) c.as_mut_slice.ensures.value c.send_row.ensures) c.loop-row.invariant)

pub returns : goal.returns
returns c =
    let end = zip_end c.args.left.now.rows.items c.args.entries.now c.loop-row.yielded c.into_iter-row-iterator.result c.loop-row.row-iterator c.next.new.self c.next.result (cc) (cc)
    c.loop-row.yielded_by c.in-None.is c.next.ensures.steps in
    subst (λ (n : ℕ). AreSent (lent_rows c.args.left.now.rows.items) (lent_rows c.args.right.now.rows.items) c.args.entries.now n c.args.right.now.sums c.loop-row.sources.items)
    (omega (arith, end, c.requires.as_many, length-map c.args.left.now.rows.items (λ r. r.now))) c.loop-row.invariant
