use Rattle.std.proofs.Common.{◌≡◌, ◌+◌, ◌||◌, true, false, drop, ap, sym, ◌∙◌, arith}
use Rattle.std.specs.Prelude.{is_some}
use Rattle.std.specs.List.{list_any}
use Rattle.sql_model.specs.Columns.{is_called}
use Rattle.scope_core.specs.Names.{occurrences}
use Rattle.scope_core.specs.RelationSets.{meet_sets}
use Rattle.scope_core.specs.Ropes.{are_listed_sound, columns_in, columns_listed, is_sound, stand_listed, stands_among}
use Rattle.scope_core.proofs.basics.Booleans.{no, or-of-left}
use Rattle.scope_core.proofs.basics.Lists.{at-end}
use Rattle.scope_core.proofs.basics.Ropes.{absent-Joined, absent-Named, absent-One, absent-Relation, any-Named, any-One, any-at, columns_listed-nil, joined-columns, joined-smaller, joined-sound, joined-stand, relation-columns, relation-inside, relation-smaller, relation-stands, size, size-at, size_listed, sound-at, stands-at}
use Rattle.scope_core.proofs.rope.+has.Goals as goal
use Rattle.scope_core.proofs.rope.+has.Goals.{has_among-then-outside-3, has_among-else-outside-3}

pub has_among-has_among-requires : goal.has_among-has_among-requires
has_among-has_among-requires t c =
    let r = c.args.rope.now in
    let sought = c.args.sought.now in
    let w = c.in-Relation in (
      omega (arith, c.decreases, relation-smaller r w.inside w.number w.extent w.is, ap size c.get-then-meets.ensures),
      (
        ap is_sound c.get-then-meets.ensures ∙ relation-inside r w.inside w.number w.extent w.is c.requires.sound,
        (λ i. stands_among sought.relations (c.has-inner.ensures i) sought.name.now (c.get-then-meets.ensures i))
            ∙ relation-stands r w.inside w.number w.extent w.is sought.relations c.args.outside sought.name.now c.requires.stands,
      ),
    )

pub has_among-has_in_parts-requires : goal.has_among-has_in_parts-requires
has_among-has_in_parts-requires t c =
    let r = c.args.rope.now in
    let sought = c.args.sought.now in
    let w = c.in-Joined in (
      omega (arith, c.decreases, joined-smaller r w.parts w.extent w.is, ap size_listed c.as_slice.ensures),
      (
        ap are_listed_sound c.as_slice.ensures ∙ joined-sound r w.parts w.extent w.is c.requires.sound,
        ap (λ ps. stand_listed sought.relations c.args.outside sought.name.now ps) c.as_slice.ensures
            ∙ joined-stand r w.parts w.extent w.is sought.relations c.args.outside sought.name.now c.requires.stands,
      ),
    )

pub has_among-returns-then-outside : goal.has_among-returns-then-outside
has_among-returns-then-outside t c =
    let name = c.args.sought.now.name.now in
    c.is_called.ensures ∙ sym (ap (λ r. list_any (is_called name) (columns_in r)) c.in-One.is ∙ any-One name c.in-One.name)

pub has_among-returns-else-outside : goal.has_among-returns-else-outside
has_among-returns-else-outside t c =
    let sought = c.args.sought.now in
    c.if-outside.false
    ∙ sym (absent-One sought.relations sought.name.now c.args.outside c.if-outside.false c.args.rope.now c.in-One.name c.in-One.is c.requires.stands)

pub has_among-returns-then-outside-2 : goal.has_among-returns-then-outside-2
has_among-returns-then-outside-2 t c =
    let name = c.args.sought.now.name.now in
    c.is_some.ensures
    ∙ (ap (λ o. is_some o) (c.find.ensures ∙ ap (λ names. occurrences name names) c.get.ensures)
    ∙ sym (ap (λ r. list_any (is_called name) (columns_in r)) c.in-Named.is ∙ any-Named name c.in-Named.names))

pub has_among-returns-else-outside-2 : goal.has_among-returns-else-outside-2
has_among-returns-else-outside-2 t c =
    let sought = c.args.sought.now in
    c.if-outside-2.false
    ∙ sym (absent-Named sought.relations sought.name.now c.args.outside c.if-outside-2.false c.args.rope.now c.in-Named.names c.in-Named.is c.requires.stands)

pub has_among-returns-then-meets : goal.has_among-returns-then-meets
has_among-returns-then-meets t c =
    let w = c.in-Relation in
    c.has_among.ensures
    ∙ ap (λ cs. list_any (is_called c.args.sought.now.name.now) cs)
    (ap columns_in c.get-then-meets.ensures ∙ sym (relation-columns c.args.rope.now w.inside w.number w.extent w.is))

pub has_among-returns-else-meets : goal.has_among-returns-else-meets
has_among-returns-else-meets t c =
    let sought = c.args.sought.now in
    let w = c.in-Relation in
    c.if-meets.false
    ∙ sym (absent-Relation sought.relations sought.name.now c.args.rope.now w.inside w.number w.extent c.args.outside w.is c.requires.sound c.requires.stands
    (sym (c.meets.ensures ∙ ap (λ e. meet_sets sought.relations e.shown) c.get-in-Relation.ensures) ∙ c.if-meets.false))

pub has_among-returns-then-meets-2 : goal.has_among-returns-then-meets-2
has_among-returns-then-meets-2 t c =
    let w = c.in-Joined in
    c.has_in_parts.ensures
    ∙ ap (λ cs. list_any (is_called c.args.sought.now.name.now) cs)
    (ap columns_listed c.as_slice.ensures ∙ sym (joined-columns c.args.rope.now w.parts w.extent w.is))

pub has_among-returns-else-meets-2 : goal.has_among-returns-else-meets-2
has_among-returns-else-meets-2 t c =
    let sought = c.args.sought.now in
    let j = c.in-Joined in
    c.if-meets-2.false
    ∙ elim c.if-outside-3.branch [
      | has_among-then-outside-3 w ↦ absurd (no (sym w.if-outside-3.true ∙ (sym w.value-is ∙ c.if-meets-2.false)))
      | has_among-else-outside-3 w ↦ sym (absent-Joined sought.relations sought.name.now c.args.rope.now j.parts j.extent c.args.outside w.if-outside-3.false j.is
          c.requires.sound c.requires.stands
          (sym (w.meets-else-outside-3.ensures ∙ ap (λ e. meet_sets sought.relations e.shown) w.get-else-outside-3.ensures) ∙ (sym w.value-is ∙ c.if-meets-2.false)))
    ]

pub has_in_parts-has_among-requires : goal.has_in_parts-has_among-requires
has_in_parts-has_among-requires t c =
    let ps = c.args.parts.now in
    let i = c.loop-part.part-index in
    let part = c.part-item.result in
    let sought = c.args.sought.now in (
      omega (arith, c.decreases, size-at ps i part c.loop-part-test.true c.part-item.is, ap size c.get.ensures),
      (
        ap is_sound c.get.ensures ∙ sound-at ps i part c.loop-part-test.true c.part-item.is c.requires.sound,
        ap (λ r. stands_among sought.relations c.args.outside sought.name.now r) c.get.ensures
            ∙ stands-at sought.relations c.args.outside sought.name.now ps i part c.loop-part-test.true c.part-item.is c.requires.stands,
      ),
    )

pub has_in_parts-returns-then-has_among : goal.has_in_parts-returns-then-has_among
has_in_parts-returns-then-has_among t c =
    let name = c.args.sought.now.name.now in
    let ps = c.args.parts.now in
    let i = c.loop-part.part-index in
    let part = c.part-item.result in
    let here : list_any (is_called name) (columns_in part.rope) ≡ true =
    sym (c.has_among.ensures ∙ ap (λ r. list_any (is_called name) (columns_in r)) c.get.ensures) ∙ c.if-has_among.true in
    sym (c.loop-part.invariant
    ∙ (any-at name ps i part c.loop-part-test.true c.part-item.is
    ∙ or-of-left (list_any (is_called name) (columns_in part.rope)) (list_any (is_called name) (columns_listed (drop (i + 1) ps))) here))

pub has_in_parts-loop-part-preserved : goal.has_in_parts-loop-part-preserved
has_in_parts-loop-part-preserved t c =
    let name = c.args.sought.now.name.now in
    let ps = c.args.parts.now in
    let i = c.loop-part.part-index in
    let part = c.part-item.result in
    let here : list_any (is_called name) (columns_in part.rope) ≡ false =
    sym (c.has_among.ensures ∙ ap (λ r. list_any (is_called name) (columns_in r)) c.get.ensures) ∙ c.if-has_among.false in
    c.loop-part.invariant
    ∙ (any-at name ps i part c.loop-part-test.true c.part-item.is ∙ ap (λ b. b || list_any (is_called name) (columns_listed (drop (i + 1) ps))) here)

pub has_in_parts-returns : goal.has_in_parts-returns
has_in_parts-returns t c =
    let ps = c.args.parts.now in
    sym (c.loop-part.invariant
    ∙ ap (λ cs. list_any (is_called c.args.sought.now.name.now) cs) (at-end columns_listed ps c.loop-part.part-index c.loop-part-test.false ∙ columns_listed-nil))
