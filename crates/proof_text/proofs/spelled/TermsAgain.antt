-- A term or a value that was written is read again.
use Rattle.std.proofs.Common.{◌≡◌, ℕ, zero, suc, ◌+◌, ◌-◌, ◌<◌, ◌≤◌, false, List, [], ◌∷◌, ◌++◌, length, length-append, Ok, refl, ap, ◌∙◌, subst, arith, append_assoc}
use Rattle.std.specs.Prelude.{◌==◌, if◌then◌else◌, codes}
use Rattle.std.specs.Fmt.{decimal}
use Rattle.std.proofs.Math.Dec.{eqb-suc-zero}
use Rattle.std.proofs.lemmas.List.Sums.{sum_by-cons}
use denote.Hole.Carrier.{roll}
use Rattle.data_model.specs.Lists.{Each}
use Rattle.u_terms.specs.declared.term.U.TheOpen as opened
use Rattle.u_terms.specs.declared.term.U.TheOpen.{U-F, Val-F}
use Rattle.u_terms.specs.declared.term.U.TheViews.{out-U, out-Val, roll-U, roll-Val, roll-out-U, roll-out-Val}
use Rattle.u_terms.specs.Syntax.{U, Val, Bound, Free, Lit, Fun, Agg, row_of, constructors}
use Rattle.u_terms.specs.Size.{nodes, value_nodes, list_nodes, depth, value_depth, list_depth}
use Rattle.u_terms.proofs.Sizes.{depth-positive, row_nodes-list, row_depth-list, list_depth-cons}
use Rattle.u_deriv.specs.StepText.{term_text, value_text, first_text, rest_text}
use Rattle.proof_text.specs.Words.{HasWords, ValueHasWords, RowHasWords}
use Rattle.proof_text.specs.Signs.{code}
use Rattle.proof_text.specs.Grammar.{begins_term, begins_value}
use Rattle.proof_text.specs.Reading.{Rest, Reading, ◌>>=◌, sign_at, next, bad, entered, values_at, list_of, term_with, value_with, term_at, value_at}
use Rattle.proof_text.proofs.spelled.NumbersAgain.{Ends, number_again}
use Rattle.proof_text.proofs.reading.NumbersRead.{not_equal}

-- ---- lists of values
-- behind a value
abbrev pub more_text : List Val → List ℕ
more_text [] = codes ")"
more_text (value ∷ values) = codes "," ++ (value_text value ++ more_text values)

-- behind the parenthesis
abbrev pub list_text : List Val → List ℕ
list_text [] = codes ")"
list_text (value ∷ values) = value_text value ++ more_text values

pub rest_text-list : (values : List Val) → rest_text (row_of values) ≡ more_text values
unfolding term_text constructors
rest_text-list [] = refl
rest_text-list (value ∷ values) = ap (λ (text : List ℕ). codes "," ++ (value_text value ++ text)) (rest_text-list values)

pub first_text-list : (values : List Val) → first_text (row_of values) ≡ list_text values
unfolding term_text constructors
first_text-list [] = refl
first_text-list (value ∷ values) = ap (λ (text : List ℕ). value_text value ++ text) (rest_text-list values)

pub words-list : (values : List Val) → RowHasWords (row_of values) ≡ Each ValueHasWords values
unfolding HasWords constructors
words-list [] = refl
words-list (value ∷ values) = ap (λ (P : Type 0). ValueHasWords value × P) (words-list values)

list_nodes-cons : (value : Val) (values : List Val) → list_nodes (value ∷ values) ≡ value_nodes value + list_nodes values
list_nodes-cons value values = sum_by-cons value_nodes value values

-- ---- what holds of each form holds of every term
pub each_form : (P : U → Type 0) → ((form : U-F U Val) → P (roll-U form)) → (term : U) → P term
each_form P k term = subst P (roll-out-U term) (k (out-U term))

pub each_value_form : (P : Val → Type 0) → ((form : Val-F U Val) → P (roll-Val form)) → (value : Val) → P value
each_value_form P k value = subst P (roll-out-Val value) (k (out-Val value))

-- no value begins with a closing parenthesis
form_opens : (form : Val-F U Val) (k : List ℕ) → (code (sign_at (value_text (roll-Val form) ++ k)) == 21) ≡ false
unfolding term_text constructors roll-Val roll
form_opens (opened.Bound place) k = refl
form_opens (opened.Free name) k = refl
form_opens (opened.Lit literal) k = refl
form_opens (opened.Fun symbol values) k = refl
form_opens (opened.Agg aggregate body) k = refl

value_opens : (value : Val) (k : List ℕ) → (code (sign_at (value_text value ++ k)) == 21) ≡ false
value_opens value k = each_value_form (λ w. (code (sign_at (value_text w ++ k)) == 21) ≡ false) (λ form. form_opens form k) value

more_long : (values : List Val) → length values < length (more_text values)
more_long [] = omega arith
more_long (value ∷ values) = omega (arith, length-append (value_text value) (more_text values), more_long values)

-- ---- a node
entered_again : (levels n m byte : ℕ) (text : List ℕ) → n ≡ 1 + m → entered (suc levels) (record { nodes = n; text = byte ∷ text }) ≡ (Ok tt, record { nodes = m; text = text })
entered_again levels n m byte text e =
    let z : n - 1 ≡ m = omega arith in
    rw (not_equal n 0 (λ i. omega (arith, i)), eqb-suc-zero levels, z) refl

two_text : (x y k : List ℕ) → (x ++ (44 ∷ (y ++ 41 ∷ []))) ++ k ≡ x ++ (44 ∷ (y ++ (41 ∷ k)))
two_text x y k = append_assoc x (44 ∷ (y ++ 41 ∷ [])) k ∙ ap (λ (z : List ℕ). x ++ (44 ∷ z)) (append_assoc y (41 ∷ []) k)

one_text : (x k : List ℕ) → (x ++ 41 ∷ []) ++ k ≡ x ++ (41 ∷ k)
one_text x k = append_assoc x (41 ∷ []) k

abbrev TermsAgain : (Rest → Reading U) → ℕ → Type 0
TermsAgain read levels =
    (term : U) (n m : ℕ) (k : List ℕ) → HasWords term → depth term ≤ levels → n ≡ nodes term + m → read (record { nodes = n; text = term_text term ++ k }) ≡ (Ok term, record { nodes = m; text = k })

abbrev ValuesAgain : (Rest → Reading Val) → ℕ → Type 0
ValuesAgain read levels =
    (value : Val) (n m : ℕ) (k : List ℕ) → ValueHasWords value → value_depth value ≤ levels → n ≡ value_nodes value + m → Ends k
    → read (record { nodes = n; text = value_text value ++ k }) ≡ (Ok value, record { nodes = m; text = k })

module _ (levels : ℕ) (term_read : Rest → Reading U) (value_read : Rest → Reading Val) (terms : TermsAgain term_read levels) (values : ValuesAgain value_read levels) where
  -- ---- lists
  behind_again : (others : List Val) (most n m : ℕ) (value : Val) (k : List ℕ) → length others < most → Each ValueHasWords (value ∷ others) → list_depth (value ∷ others) ≤ levels
      → n ≡ list_nodes (value ∷ others) + m
      → values_at value_read most (record { nodes = n; text = value_text value ++ (more_text others ++ k) }) ≡ (Ok (value ∷ others), record { nodes = m; text = k })
  unfolding values_at
  behind_again others zero n m value k h w d e = absurd (omega (arith, h))
  behind_again [] (suc most) n m value k h w d e =
      rw (values value n m (41 ∷ k) w.0 (omega (arith, list_depth-cons value [])) (omega (arith, list_nodes-cons value [])) refl) refl
  behind_again (other ∷ others) (suc most) n m value k h w d e =
      rw (
        append_assoc (value_text other) (more_text others) k,
        values value n (list_nodes (other ∷ others) + m) (44 ∷ (value_text other ++ (more_text others ++ k))) w.0 (omega (arith, list_depth-cons value (other ∷ others))) (omega (arith, list_nodes-cons value (other ∷ others))) refl,
        behind_again others most (list_nodes (other ∷ others) + m) m other k (omega (arith, h)) w.1 (omega (arith, list_depth-cons value (other ∷ others))) refl,
      )
      refl

  list_again : (list : List Val) (n m : ℕ) (k : List ℕ) → Each ValueHasWords list → list_depth list ≤ levels → n ≡ list_nodes list + m
      → list_of value_read (record { nodes = n; text = 40 ∷ (list_text list ++ k) }) ≡ (Ok list, record { nodes = m; text = k })
  list_again [] n m k w d e = let z : n ≡ m = omega (arith, e) in rw z refl
  list_again (value ∷ others) n m k w d e =
      rw (
        append_assoc (value_text value) (more_text others) k,
        value_opens value (more_text others ++ k),
        behind_again others (length (value_text value ++ (more_text others ++ k))) n m value k
            (omega (arith, length-append (value_text value) (more_text others ++ k), length-append (more_text others) k, more_long others)) w d e,
      )
      refl

  -- ---- terms
  abbrev stepped : Rest → Reading U
  stepped rest = if begins_term (next rest) then (entered (suc levels) rest >>= λ e r. term_with term_read value_read (next rest) r) else bad rest

  term_form_again : (form : U-F U Val) (n m : ℕ) (k : List ℕ) → HasWords (roll-U form) → depth (roll-U form) ≤ suc levels → n ≡ nodes (roll-U form) + m
      → stepped (record { nodes = n; text = term_text (roll-U form) ++ k }) ≡ (Ok (roll-U form), record { nodes = m; text = k })
  unfolding term_text HasWords nodes depth constructors roll-U roll
  term_form_again opened.Zero n m k w d e = rw (entered_again levels n m 48 k e) refl
  term_form_again opened.One n m k w d e = rw (entered_again levels n m 49 k e) refl
  term_form_again (opened.Add a b) n m k w d e =
      rw (
        two_text (term_text a) (term_text b) k,
        entered_again levels n (nodes a + (nodes b + m)) 43 (40 ∷ (term_text a ++ (44 ∷ (term_text b ++ (41 ∷ k))))) (omega (arith, e)),
        terms a (nodes a + (nodes b + m)) (nodes b + m) (44 ∷ (term_text b ++ (41 ∷ k))) w.0 (omega (arith, d)) refl,
        terms b (nodes b + m) m (41 ∷ k) w.1 (omega (arith, d)) refl,
      )
      refl
  term_form_again (opened.Mul a b) n m k w d e =
      rw (
        two_text (term_text a) (term_text b) k,
        entered_again levels n (nodes a + (nodes b + m)) 42 (40 ∷ (term_text a ++ (44 ∷ (term_text b ++ (41 ∷ k))))) (omega (arith, e)),
        terms a (nodes a + (nodes b + m)) (nodes b + m) (44 ∷ (term_text b ++ (41 ∷ k))) w.0 (omega (arith, d)) refl,
        terms b (nodes b + m) m (41 ∷ k) w.1 (omega (arith, d)) refl,
      )
      refl
  term_form_again (opened.Squash a) n m k w d e =
      rw (one_text (term_text a) k, entered_again levels n (nodes a + m) 35 (40 ∷ (term_text a ++ (41 ∷ k))) (omega (arith, e)), terms a (nodes a + m) m (41 ∷ k) w (omega (arith, d)) refl) refl
  term_form_again (opened.Not a) n m k w d e =
      rw (one_text (term_text a) k, entered_again levels n (nodes a + m) 33 (40 ∷ (term_text a ++ (41 ∷ k))) (omega (arith, e)), terms a (nodes a + m) m (41 ∷ k) w (omega (arith, d)) refl) refl
  term_form_again (opened.Sum a) n m k w d e =
      rw (one_text (term_text a) k, entered_again levels n (nodes a + m) 83 (40 ∷ (term_text a ++ (41 ∷ k))) (omega (arith, e)), terms a (nodes a + m) m (41 ∷ k) w (omega (arith, d)) refl) refl
  term_form_again (opened.Rel table list) n m k w d e =
      rw (
        first_text-list list,
        append_assoc (decimal table) (40 ∷ list_text list) k,
        entered_again levels n (list_nodes list + m) 82 (decimal table ++ (40 ∷ (list_text list ++ k))) (omega (arith, e, row_nodes-list list)),
        number_again table (list_nodes list + m) (40 ∷ (list_text list ++ k)) w.0 refl,
        list_again list (list_nodes list + m) m k (rw words-list at w.1) (omega (arith, d, row_depth-list list)) refl,
      )
      refl
  term_form_again (opened.Eq a b) n m k w d e =
      rw (
        two_text (value_text a) (value_text b) k,
        entered_again levels n (value_nodes a + (value_nodes b + m)) 61 (40 ∷ (value_text a ++ (44 ∷ (value_text b ++ (41 ∷ k))))) (omega (arith, e)),
        values a (value_nodes a + (value_nodes b + m)) (value_nodes b + m) (44 ∷ (value_text b ++ (41 ∷ k))) w.0 (omega (arith, d)) refl refl,
        values b (value_nodes b + m) m (41 ∷ k) w.1 (omega (arith, d)) refl refl,
      )
      refl
  term_form_again (opened.Pred symbol list) n m k w d e =
      rw (
        first_text-list list,
        append_assoc (decimal symbol) (40 ∷ list_text list) k,
        entered_again levels n (list_nodes list + m) 80 (decimal symbol ++ (40 ∷ (list_text list ++ k))) (omega (arith, e, row_nodes-list list)),
        number_again symbol (list_nodes list + m) (40 ∷ (list_text list ++ k)) w.0 refl,
        list_again list (list_nodes list + m) m k (rw words-list at w.1) (omega (arith, d, row_depth-list list)) refl,
      )
      refl

  -- ---- values
  abbrev value_stepped : Rest → Reading Val
  value_stepped rest = if begins_value (next rest) then (entered (suc levels) rest >>= λ e r. value_with term_read value_read (next rest) r) else bad rest

  value_form_again : (form : Val-F U Val) (n m : ℕ) (k : List ℕ) → ValueHasWords (roll-Val form) → value_depth (roll-Val form) ≤ suc levels → n ≡ value_nodes (roll-Val form) + m → Ends k
      → value_stepped (record { nodes = n; text = value_text (roll-Val form) ++ k }) ≡ (Ok (roll-Val form), record { nodes = m; text = k })
  unfolding term_text HasWords nodes depth constructors roll-Val roll
  value_form_again (opened.Bound place) n m k w d e o = rw (entered_again levels n m 98 (decimal place ++ k) e, number_again place m k w o) refl
  value_form_again (opened.Free name) n m k w d e o = rw (entered_again levels n m 102 (decimal name ++ k) e, number_again name m k w o) refl
  value_form_again (opened.Lit literal) n m k w d e o = rw (entered_again levels n m 99 (decimal literal ++ k) e, number_again literal m k w o) refl
  value_form_again (opened.Fun symbol list) n m k w d e o =
      rw (
        first_text-list list,
        append_assoc (decimal symbol) (40 ∷ list_text list) k,
        entered_again levels n (list_nodes list + m) 70 (decimal symbol ++ (40 ∷ (list_text list ++ k))) (omega (arith, e, row_nodes-list list)),
        number_again symbol (list_nodes list + m) (40 ∷ (list_text list ++ k)) w.0 refl,
        list_again list (list_nodes list + m) m k (rw words-list at w.1) (omega (arith, d, row_depth-list list)) refl,
      )
      refl
  value_form_again (opened.Agg aggregate body) n m k w d e o =
      rw (
        append_assoc (decimal aggregate) (40 ∷ (term_text body ++ 41 ∷ [])) k,
        one_text (term_text body) k,
        entered_again levels n (nodes body + m) 71 (decimal aggregate ++ (40 ∷ (term_text body ++ (41 ∷ k)))) (omega (arith, e)),
        number_again aggregate (nodes body + m) (40 ∷ (term_text body ++ (41 ∷ k))) w.0 refl,
        terms body (nodes body + m) m (41 ∷ k) w.1 (omega (arith, d)) refl,
      )
      refl

value_depth-positive : (value : Val) → 1 ≤ value_depth value
unfolding depth
value_depth-positive (Bound place) = omega arith
value_depth-positive (Free name) = omega arith
value_depth-positive (Lit literal) = omega arith
value_depth-positive (Fun symbol shape list) = omega arith
value_depth-positive (Agg aggregate body) = omega arith

mutual
  unfolding term_at value_at

  pub term_again : (levels : ℕ) → TermsAgain (term_at levels) levels
  term_again zero term n m k w d e = absurd (omega (arith, d, depth-positive term))
  term_again (suc levels) term n m k w d e =
      each_form (λ t. HasWords t → depth t ≤ suc levels → n ≡ nodes t + m → term_at (suc levels) (record { nodes = n; text = term_text t ++ k }) ≡ (Ok t, record { nodes = m; text = k }))
      (λ form w d e. term_form_again levels (term_at levels) (value_at levels) (term_again levels) (value_again levels) form n m k w d e) term w d e

  pub value_again : (levels : ℕ) → ValuesAgain (value_at levels) levels
  value_again zero value n m k w d e o = absurd (omega (arith, d, value_depth-positive value))
  value_again (suc levels) value n m k w d e o =
      each_value_form (λ t. ValueHasWords t → value_depth t ≤ suc levels → n ≡ value_nodes t + m → Ends k → value_at (suc levels) (record { nodes = n; text = value_text t ++ k }) ≡ (Ok t, record { nodes = m; text = k }))
      (λ form w d e o. value_form_again levels (term_at levels) (value_at levels) (term_again levels) (value_again levels) form n m k w d e o) value w d e o

pub values_again : (levels : ℕ) (list : List Val) (n m : ℕ) (k : List ℕ) → Each ValueHasWords list → list_depth list ≤ levels → n ≡ list_nodes list + m
    → list_of (value_at levels) (record { nodes = n; text = 40 ∷ (list_text list ++ k) }) ≡ (Ok list, record { nodes = m; text = k })
values_again levels list n m k w d e = list_again levels (term_at levels) (value_at levels) (term_again levels) (value_again levels) list n m k w d e
