use Rattle.std.proofs.Common.{◌≡◌, ◌+◌, ◌||◌, None, Some, drop, length, ap, sym, ◌∙◌, arith}
use Rattle.std.specs.List.{list_any}
use Rattle.std.proofs.lemmas.List.{take_rest}
use Rattle.sql_model.specs.Columns.{is_called}
use Rattle.scope_core.specs.Names.{occurrences}
use Rattle.scope_core.specs.RelationSets.{meet_sets}
use Rattle.scope_core.specs.Ropes.{are_listed_sound, columns_in, columns_listed, is_sound, stand_listed, stands_among}
use Rattle.scope_core.proofs.basics.Lists.{at-end}
use Rattle.scope_core.proofs.basics.Occurring.{behind, first-within, occurrences-none}
use Rattle.scope_core.proofs.basics.Ropes.{absent-Joined, absent-Named, absent-One, absent-Relation, columns-Named, columns-One, columns_listed-nil, found-at, joined-columns, joined-short, joined-smaller, joined-sound, joined-stand, past-at, relation-columns, relation-inside, relation-smaller, relation-stands, size, size-at, size_listed, sound-at, sound-drop, stand-drop, stands-at, width-at}
use Rattle.scope_core.proofs.rope.+find.Goals as goal

pub find_among-find_among-requires : goal.find_among-find_among-requires
find_among-find_among-requires t c =
    let r = c.args.rope.now in
    let sought = c.args.sought.now in
    let w = c.in-Relation in (
      omega (arith, c.decreases, relation-smaller r w.inside w.number w.extent w.is, ap size c.get-in-Relation-2.ensures),
      (
        ap is_sound c.get-in-Relation-2.ensures ∙ relation-inside r w.inside w.number w.extent w.is c.requires.sound,
        (λ i. stands_among sought.relations (c.has-inner.ensures i) sought.name.now (c.get-in-Relation-2.ensures i))
            ∙ relation-stands r w.inside w.number w.extent w.is sought.relations c.args.outside sought.name.now c.requires.stands,
      ),
    )

pub find_among-find_in_parts-requires : goal.find_among-find_in_parts-requires
find_among-find_in_parts-requires t c =
    let r = c.args.rope.now in
    let sought = c.args.sought.now in
    let w = c.in-Joined in
    let are = c.as_slice.ensures in (
      omega (arith, c.decreases, joined-smaller r w.parts w.extent w.is, ap size_listed are),
      (
        ap are_listed_sound are ∙ joined-sound r w.parts w.extent w.is c.requires.sound,
        (
          omega (arith, joined-short r w.parts w.extent w.is c.requires.sound, ap (λ ps. length (columns_listed ps)) are),
          ap (λ ps. stand_listed sought.relations c.args.outside sought.name.now ps) are
              ∙ joined-stand r w.parts w.extent w.is sought.relations c.args.outside sought.name.now c.requires.stands,
        ),
      ),
    )

pub find_among-returns-then-outside : goal.find_among-returns-then-outside
find_among-returns-then-outside t c =
    c.find_alone.ensures ∙ ap (λ cs. occurrences c.args.sought.now.name.now cs) (sym (ap columns_in c.in-One.is ∙ columns-One c.in-One.name))

pub find_among-returns-else-outside : goal.find_among-returns-else-outside
find_among-returns-else-outside t c =
    let sought = c.args.sought.now in
    sym (occurrences-none sought.name.now (columns_in c.args.rope.now)
    (absent-One sought.relations sought.name.now c.args.outside c.if-outside.false c.args.rope.now c.in-One.name c.in-One.is c.requires.stands))

pub find_among-returns-then-outside-2 : goal.find_among-returns-then-outside-2
find_among-returns-then-outside-2 t c =
    c.find.ensures
    ∙ ap (λ cs. occurrences c.args.sought.now.name.now cs) (c.get.ensures ∙ sym (ap columns_in c.in-Named.is ∙ columns-Named c.in-Named.names))

pub find_among-returns-else-outside-2 : goal.find_among-returns-else-outside-2
find_among-returns-else-outside-2 t c =
    let sought = c.args.sought.now in
    sym (occurrences-none sought.name.now (columns_in c.args.rope.now)
    (absent-Named sought.relations sought.name.now c.args.outside c.if-outside-2.false c.args.rope.now c.in-Named.names c.in-Named.is c.requires.stands))

pub find_among-returns-then-not-meets : goal.find_among-returns-then-not-meets
find_among-returns-then-not-meets t c =
    let sought = c.args.sought.now in
    let w = c.in-Relation in
    sym (occurrences-none sought.name.now (columns_in c.args.rope.now)
    (absent-Relation sought.relations sought.name.now c.args.rope.now w.inside w.number w.extent c.args.outside w.is c.requires.sound c.requires.stands
    (sym (c.meets.ensures ∙ ap (λ e. meet_sets sought.relations e.shown) c.get-in-Relation.ensures) ∙ c.if-not-meets.true)))

pub find_among-returns-then-not-meets-2 : goal.find_among-returns-then-not-meets-2
find_among-returns-then-not-meets-2 t c =
    let sought = c.args.sought.now in
    let w = c.in-Joined in
    sym (occurrences-none sought.name.now (columns_in c.args.rope.now)
    (absent-Joined sought.relations sought.name.now c.args.rope.now w.parts w.extent c.args.outside c.if-not-outside.true w.is c.requires.sound c.requires.stands
    (sym (c.meets-then-not-outside.ensures ∙ ap (λ e. meet_sets sought.relations e.shown) c.get-then-not-outside.ensures) ∙ c.if-not-meets-2.true)))

pub find_among-returns-else-not-meets : goal.find_among-returns-else-not-meets
find_among-returns-else-not-meets t c =
    let w = c.in-Relation in
    c.find_among.ensures
    ∙ ap (λ cs. occurrences c.args.sought.now.name.now cs)
    (ap columns_in c.get-in-Relation-2.ensures ∙ sym (relation-columns c.args.rope.now w.inside w.number w.extent w.is))

pub find_among-returns-else-not-outside : goal.find_among-returns-else-not-outside
find_among-returns-else-not-outside t c =
    let w = c.in-Joined in
    c.find_in_parts.ensures
    ∙ ap (λ cs. occurrences c.args.sought.now.name.now cs) (ap columns_listed c.as_slice.ensures ∙ sym (joined-columns c.args.rope.now w.parts w.extent w.is))

pub find_in_parts-find_among-requires : goal.find_in_parts-find_among-requires
find_in_parts-find_among-requires t c =
    let ps = c.args.parts.now in
    let i = c.loop-index.index in
    let part = c.index-parts-index.result in
    let inside = c.loop-index-test.true in
    let is = c.index-parts-index.is in
    let sought = c.args.sought.now in (
      omega (arith, c.decreases, size-at ps i part inside is, ap size c.get.ensures),
      (
        ap is_sound c.get.ensures ∙ sound-at ps i part inside is c.requires.sound,
        ap (λ r. stands_among sought.relations c.args.outside sought.name.now r) c.get.ensures
            ∙ stands-at sought.relations c.args.outside sought.name.now ps i part inside is c.requires.stands,
      ),
    )

pub find_in_parts-overflow_add-result : goal.find_in_parts-overflow_add-result
find_in_parts-overflow_add-result t c =
    let name = c.args.sought.now.name.now in
    let ps = c.args.parts.now in
    let i = c.loop-index.index in
    let part = c.index-parts-index.result in
    let here : occurrences name (columns_in part.rope) ≡ Some c.in-Some.seen =
    ap (λ r. occurrences name (columns_in r)) (sym c.get.ensures) ∙ (sym c.find_among.ensures ∙ c.in-Some.is) in
    omega (
      arith,
      c.requires.short,
      width-at name ps i part c.loop-index-test.true c.index-parts-index.is c.loop-index.before c.loop-index.invariant.1,
      first-within name (columns_in part.rope) (columns_listed (drop (i + 1) ps)) c.in-Some.seen here,
    )

pub find_in_parts-has_in_parts-requires-clause-sound : goal.find_in_parts-has_in_parts-requires-clause-sound
find_in_parts-has_in_parts-requires-clause-sound t c =
    let ps = c.args.parts.now in
    let i = c.loop-index.index in
    ap are_listed_sound (take_rest ps (i + 1)) ∙ sound-drop ps (i + 1) c.requires.sound

pub find_in_parts-has_in_parts-requires-clause-stands : goal.find_in_parts-has_in_parts-requires-clause-stands
find_in_parts-has_in_parts-requires-clause-stands t c =
    let ps = c.args.parts.now in
    let i = c.loop-index.index in
    let sought = c.args.sought.now in
    ap (λ ps. stand_listed sought.relations c.args.outside sought.name.now ps) (take_rest ps (i + 1))
    ∙ stand-drop sought.relations c.args.outside sought.name.now ps (i + 1) c.requires.stands

pub find_in_parts-returns-then-seen : goal.find_in_parts-returns-then-seen
find_in_parts-returns-then-seen t c =
    let name = c.args.sought.now.name.now in
    let ps = c.args.parts.now in
    let i = c.loop-index.index in
    let part = c.index-parts-index.result in
    let seen = c.in-Some.seen in
    let before = c.loop-index.before in
    let here : occurrences name (columns_in part.rope) ≡ Some seen =
    ap (λ r. occurrences name (columns_in r)) (sym c.get.ensures) ∙ (sym c.find_among.ensures ∙ c.in-Some.is) in
    let later = list_any (is_called name) (columns_listed (drop (i + 1) ps)) in
    let twice : seen.twice ≡ (seen.twice || later) = c.if-seen.true ∙ sym (ap (λ b. b || later) c.if-seen.true) in
    (λ k. Some (record { first = before + seen.first; twice = twice k }))
    ∙ sym (c.loop-index.invariant.0
    ∙ ap (λ o. behind before o) (found-at name ps i part c.loop-index-test.true c.index-parts-index.is seen here))

pub find_in_parts-returns-else-seen : goal.find_in_parts-returns-else-seen
find_in_parts-returns-else-seen t c =
    let name = c.args.sought.now.name.now in
    let ps = c.args.parts.now in
    let i = c.loop-index.index in
    let part = c.index-parts-index.result in
    let seen = c.in-Some.seen in
    let before = c.loop-index.before in
    let here : occurrences name (columns_in part.rope) ≡ Some seen =
    ap (λ r. occurrences name (columns_in r)) (sym c.get.ensures) ∙ (sym c.find_among.ensures ∙ c.in-Some.is) in
    let later = list_any (is_called name) (columns_listed (drop (i + 1) ps)) in
    let twice : c.has_in_parts.result ≡ (seen.twice || later) =
    c.has_in_parts.ensures
    ∙ (ap (λ ps. list_any (is_called name) (columns_listed ps)) (take_rest ps (i + 1)) ∙ sym (ap (λ b. b || later) c.if-seen.false)) in
    (λ k. Some (record { first = before + seen.first; twice = twice k }))
    ∙ sym (c.loop-index.invariant.0
    ∙ ap (λ o. behind before o) (found-at name ps i part c.loop-index-test.true c.index-parts-index.is seen here))

pub find_in_parts-width_in-requires : goal.find_in_parts-width_in-requires
find_in_parts-width_in-requires t c =
    ap is_sound c.get-in-loop-index.ensures
    ∙ sound-at c.args.parts.now c.loop-index.index c.index-parts-index.result c.loop-index-test.true c.index-parts-index.is c.requires.sound

pub find_in_parts-overflow_add-before : goal.find_in_parts-overflow_add-before
find_in_parts-overflow_add-before t c =
    let ps = c.args.parts.now in
    let i = c.loop-index.index in
    let part = c.index-parts-index.result in
    omega (
      arith,
      c.requires.short,
      width-at c.args.sought.now.name.now ps i part c.loop-index-test.true c.index-parts-index.is c.loop-index.before c.loop-index.invariant.1,
      c.width_in.ensures,
      ap (λ r. length (columns_in r)) c.get-in-loop-index.ensures,
    )

pub find_in_parts-loop-index-preserved : goal.find_in_parts-loop-index-preserved
find_in_parts-loop-index-preserved t c =
    let name = c.args.sought.now.name.now in
    let ps = c.args.parts.now in
    let i = c.loop-index.index in
    let part = c.index-parts-index.result in
    let before = c.loop-index.before in
    let none : occurrences name (columns_in part.rope) ≡ None =
    ap (λ r. occurrences name (columns_in r)) (sym c.get.ensures) ∙ (sym c.find_among.ensures ∙ c.in_default.is) in
    let wide : c.width_in.result ≡ length (columns_in part.rope) = c.width_in.ensures ∙ ap (λ r. length (columns_in r)) c.get-in-loop-index.ensures in (
      c.loop-index.invariant.0
          ∙ (past-at name ps i part c.loop-index-test.true c.index-parts-index.is before none
          ∙ ap (λ n. behind (before + n) (occurrences name (columns_listed (drop (i + 1) ps)))) (sym wide)),
      ap (λ n. (before + n) + length (columns_listed (drop (i + 1) ps))) wide
          ∙ width-at name ps i part c.loop-index-test.true c.index-parts-index.is before c.loop-index.invariant.1,
    )

pub find_in_parts-returns : goal.find_in_parts-returns
find_in_parts-returns t c =
    let ps = c.args.parts.now in
    sym (c.loop-index.invariant.0
    ∙ ap (λ cs. behind c.loop-index.before (occurrences c.args.sought.now.name.now cs))
    (at-end columns_listed ps c.loop-index.index c.loop-index-test.false ∙ columns_listed-nil))
