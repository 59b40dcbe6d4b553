-- Shapes that are written out, with what the definitions say of them. A comment shows the queries; tables, literals and predicates are numbered
-- from 0 as they come.
use Rattle.std.specs.Prelude.{◌≡◌, ℕ, true, List, [], ◌∷◌, refl}
use Rattle.shapes.specs.Shapes.{Point, column, literal, Kind, holds, fails, differ, Mark, Entry, Shape}
use Rattle.shapes.specs.Tests.{equal, fits, makes_alike}
use Rattle.shapes.specs.Search.{ended, went_on, searched}
use Rattle.shapes.specs.Tried.{search_alike, tries}
use Rattle.shapes.specs.Small.{columns_of, facts_of}

abbrev of : ℕ → ℕ → Entry
of table columns = record { table = table; columns = columns }

abbrev mark : Kind → List Point → Mark
mark kind points = record { kind = kind; points = points }

-- ---- SELECT x.a FROM r x, s y WHERE x.a = y.b, and SELECT v.a FROM s u, r v WHERE u.b = v.a
abbrev joined : Shape
joined = record { entries = of 0 1 ∷ of 1 1 ∷ []; equalities = (column 0 0, column 1 0) ∷ []; marks = []; outputs = column 0 0 ∷ [] }

abbrev swapped : Shape
swapped = record { entries = of 1 1 ∷ of 0 1 ∷ []; equalities = (column 0 0, column 1 0) ∷ []; marks = []; outputs = column 1 0 ∷ [] }

swapped_joins_are_alike : search_alike joined swapped ≡ ended (1 ∷ 0 ∷ []) 3
unfolding search_alike fits makes_alike searched
swapped_joins_are_alike = refl

an_equality_holds_both_ways : equal joined (column 1 0) (column 0 0) ≡ true
an_equality_holds_both_ways = refl

-- ---- SELECT x.a, y.b FROM r x, r y, and SELECT y.a, x.b FROM r x, r y
abbrev straight : Shape
straight = record { entries = of 0 2 ∷ of 0 2 ∷ []; equalities = []; marks = []; outputs = column 0 0 ∷ column 1 1 ∷ [] }

abbrev crossed : Shape
crossed = record { entries = of 0 2 ∷ of 0 2 ∷ []; equalities = []; marks = []; outputs = column 1 0 ∷ column 0 1 ∷ [] }

crossed_outputs_take_four_lists : search_alike straight crossed ≡ ended (1 ∷ 0 ∷ []) 4
unfolding search_alike fits makes_alike searched
crossed_outputs_take_four_lists = refl

-- the same with x.b in place of x.a
other_outputs_are_not_alike : search_alike straight (record straight { outputs = column 0 1 ∷ column 1 1 ∷ [] }) ≡ went_on 4
unfolding search_alike fits makes_alike searched
other_outputs_are_not_alike = refl

-- ---- SELECT x.a FROM r x, r y WHERE x.a = y.a AND x.b < 5, and SELECT v.a FROM r u, r v WHERE v.b < 5 AND u.a = v.a
abbrev bounded : Kind → Point → Point → Shape
bounded kind small output =
    record { entries = of 0 2 ∷ of 0 2 ∷ []; equalities = (column 0 0, column 1 0) ∷ []; marks = mark kind (small ∷ literal 1 ∷ []) ∷ []; outputs = output ∷ [] }

a_bound_moves_with_its_entry : search_alike (bounded (holds 0) (column 0 1) (column 0 0)) (bounded (holds 0) (column 1 1) (column 1 0)) ≡ ended (1 ∷ 0 ∷ []) 4
unfolding search_alike fits makes_alike searched
a_bound_moves_with_its_entry = refl

-- NOT x.b < 5
the_sign_of_a_mark_counts : search_alike (bounded (holds 0) (column 0 1) (column 0 0)) (bounded (fails 0) (column 0 1) (column 0 0)) ≡ went_on 4
unfolding search_alike fits makes_alike searched
the_sign_of_a_mark_counts = refl

-- x.b <= 5
the_symbol_of_a_mark_counts : search_alike (bounded (holds 0) (column 0 1) (column 0 0)) (bounded (holds 2) (column 0 1) (column 0 0)) ≡ went_on 4
unfolding search_alike fits makes_alike searched
the_symbol_of_a_mark_counts = refl

-- ---- SELECT x.a FROM r x, r y WHERE NOT x.a = y.a
abbrev apart : Point → Point → Shape
apart p q = record { entries = of 0 1 ∷ of 0 1 ∷ []; equalities = []; marks = mark differ (p ∷ q ∷ []) ∷ []; outputs = column 0 0 ∷ [] }

inequalities_turn : search_alike (apart (column 0 0) (column 1 0)) (apart (column 1 0) (column 0 0)) ≡ ended (0 ∷ 1 ∷ []) 2
unfolding search_alike fits makes_alike searched
inequalities_turn = refl

-- x.a < y.a and y.a < x.a, where x.a is given out
predicates_do_not_turn :
    search_alike (record (apart (column 0 0) (column 1 0)) { marks = mark (holds 0) (column 0 0 ∷ column 1 0 ∷ []) ∷ [] })
    (record (apart (column 0 0) (column 1 0)) { marks = mark (holds 0) (column 1 0 ∷ column 0 0 ∷ []) ∷ [] }) ≡ went_on 4
unfolding search_alike fits makes_alike searched
predicates_do_not_turn = refl

-- ---- SELECT b FROM r WHERE a = 0, and SELECT b FROM r WHERE a = 1
abbrev fixed : Point → Shape
fixed value = record { entries = of 0 2 ∷ []; equalities = (column 0 0, value) ∷ []; marks = []; outputs = column 0 1 ∷ [] }

literals_stay : search_alike (fixed (literal 0)) (fixed (literal 1)) ≡ went_on 1
unfolding search_alike fits makes_alike searched
literals_stay = refl

-- SELECT a FROM r WHERE 0 = 1, and SELECT a FROM r WHERE 0 = 2: the empty list does not fit, and none is tried
abbrev contradicted : Point → Shape
contradicted value = record { entries = of 0 1 ∷ []; equalities = (literal 0, value) ∷ []; marks = []; outputs = column 0 0 ∷ [] }

other_equal_literals_take_no_list : search_alike (contradicted (literal 1)) (contradicted (literal 2)) ≡ went_on 0
unfolding search_alike fits makes_alike searched
other_equal_literals_take_no_list = refl

-- ---- blocks of other tables, of more entries, and of none
other_tables_are_not_alike : search_alike joined (record joined { entries = of 0 1 ∷ of 0 1 ∷ [] }) ≡ went_on 4
unfolding search_alike fits makes_alike searched
other_tables_are_not_alike = refl

more_entries_take_no_list : search_alike joined (fixed (literal 0)) ≡ went_on 0
unfolding search_alike fits makes_alike searched
more_entries_take_no_list = refl

abbrev value : Point → Shape
value point = record { entries = []; equalities = []; marks = []; outputs = point ∷ [] }

without_entries_the_empty_list_decides : search_alike (value (literal 0)) (value (literal 0)) ≡ ended [] 0
unfolding search_alike fits makes_alike searched
without_entries_the_empty_list_decides = refl

without_entries_it_may_say_no : search_alike (value (literal 0)) (value (literal 1)) ≡ went_on 0
unfolding search_alike fits makes_alike searched
without_entries_it_may_say_no = refl

-- ---- entries in a ring, each b the a of the next: 0, 1, 2 and 2, 1, 0
abbrev link : ℕ → ℕ → Point × Point
link from to = (column from 1, column to 0)

abbrev ring : List (Point × Point) → ℕ → Shape
ring links first = record { entries = of 0 2 ∷ of 0 2 ∷ of 0 2 ∷ []; equalities = links; marks = []; outputs = column first 0 ∷ [] }

rings_of_three_take_twelve_lists :
    search_alike (ring (link 0 1 ∷ link 1 2 ∷ link 2 0 ∷ []) 0) (ring (link 2 1 ∷ link 1 0 ∷ link 0 2 ∷ []) 2) ≡ ended (2 ∷ 1 ∷ 0 ∷ []) 12
unfolding search_alike fits makes_alike searched
rings_of_three_take_twelve_lists = refl

-- ---- numbers
two_entries_take_four_lists_at_most : tries 2 ≡ 4
two_entries_take_four_lists_at_most = refl

five_entries : tries 5 ≡ 325
five_entries = refl

eight_entries : tries 8 ≡ 109600
eight_entries = refl

nine_entries : tries 9 ≡ 986409
nine_entries = refl

columns_of_all_entries : columns_of joined.entries ≡ 2
columns_of_all_entries = refl

equalities_and_marks_count_together : facts_of (bounded (holds 0) (column 0 1) (column 0 0)) ≡ 2
equalities_and_marks_count_together = refl
