-- What is known of a search while its budget is spent.
use Rattle.std.proofs.Common.{◌≡◌, ◌≢◌, ℕ, zero, suc, ◌+◌, ◌-◌, ◌<◌, ◌≤◌, Bool, true, false, List, [], ◌∷◌, ◌++◌, length, refl, ap, sym, ◌∙◌, subst, arith}
use Rattle.std.proofs.lemmas.List.{length-append}
use Rattle.shapes.specs.Tests.{has, fits}
use Rattle.shapes.specs.Search.{Outcome, ended, went_on, tries_of, counted, after, through, searched}
use Rattle.shapes.specs.Shapes.{Shape}
use Rattle.bag_search.specs.Answers.{outcome, further, choice, Answers}
use Rattle.bag_search.specs.declared.search.Answer.{Answer}
use Rattle.bag_search.specs.declared.search.Answer.TheVariants.{Found, Nothing, Spent}
use Rattle.shapes.proofs.Bounds.{counted-adds}
use Rattle.bag_search.proofs.Wanted.{unfit-further}

counted-counted : (a b : ℕ) (o : Outcome) → counted a (counted b o) ≡ counted (a + b) o
counted-counted a b (ended l c) = ap (ended l) (omega arith)
counted-counted a b (went_on c) = ap went_on (omega arith)

-- the numbers before x are behind, with `count` lists tried
pub record Behind (f : ℕ → Outcome) (width x left budget : ℕ) : Type 0 where
  pub count : ℕ
  pub balance : count + left ≡ budget
  pub is : through f 0 width ≡ counted count (through f x (width - x))

none-counted : (o : Outcome) → counted 0 o ≡ o
none-counted (ended l c) = ap (ended l) (omega arith)
none-counted (went_on c) = ap went_on (omega arith)

pub none_behind : (f : ℕ → Outcome) (width budget : ℕ) → Behind f width 0 budget budget
none_behind f width budget = record { count = 0; balance = omega arith; is = let e : width - 0 ≡ width = omega arith in rw e (sym (none-counted (through f 0 width))) }

through-next : (f : ℕ → Outcome) (width x : ℕ) → x < width → through f x (width - x) ≡ after (f x) (through f (x + 1) (width - (x + 1)))
through-next f width x less = let e : width - x ≡ suc (width - (x + 1)) = omega arith in rw e refl

-- x led to nothing, after some tries
pub one_behind : (f : ℕ → Outcome) (width x left budget more now : ℕ) → x < width → Behind f width x left budget → f x ≡ went_on more → more + now ≡ left
    → Behind f width (x + 1) now budget
one_behind f width x left budget more now less b is spent = record {
  count = b.count + more;
  balance = omega (arith, b.balance);
  is = b.is ∙ ap (counted b.count) (through-next f width x less ∙ ap (λ (o : Outcome). after o (through f (x + 1) (width - (x + 1)))) is) ∙ counted-counted b.count more (through f (x + 1) (width - (x + 1)));
}

pub all_behind : (f : ℕ → Outcome) (width left budget : ℕ) → Behind f width width left budget → through f 0 width ≡ went_on (budget - left)
all_behind f width left budget b =
    let e : width - width ≡ 0 = omega arith in
    let is : through f 0 width ≡ counted b.count (through f width 0) = rw e at b.is in
    is ∙ ap went_on (omega (arith, b.balance))

pub found_now : (f : ℕ → Outcome) (width x left budget more : ℕ) (e : List ℕ) → x < width → (b : Behind f width x left budget) → f x ≡ ended e more
    → through f 0 width ≡ ended e (b.count + more)
found_now f width x left budget more e less b h =
    let next : through f x (width - x) ≡ ended e more = through-next f width x less ∙ ap (λ (o : Outcome). after o (through f (x + 1) (width - (x + 1)))) h in
    b.is ∙ ap (counted b.count) next

tries-more : (a b : Outcome) → tries_of a ≤ tries_of (after a b)
tries-more (ended l c) b = omega arith
tries-more (went_on c) b = omega (arith, counted-adds c b)

spent_now : (f : ℕ → Outcome) (width x left budget : ℕ) → x < width → (b : Behind f width x left budget) → left < tries_of (f x) → budget < tries_of (through f 0 width)
spent_now f width x left budget less b more =
    let total : tries_of (through f 0 width) ≡ b.count + tries_of (through f x (width - x)) = ap tries_of b.is ∙ counted-adds b.count (through f x (width - x)) in
    let next : tries_of (through f x (width - x)) ≡ tries_of (after (f x) (through f (x + 1) (width - (x + 1)))) = ap tries_of (through-next f width x less) in
    omega (arith, total, next, tries-more (f x) (through f (x + 1) (width - (x + 1))), b.balance, more)

module _ (s t : Shape) where
  pub outcome-is : (missing : ℕ) (l : List ℕ) → outcome s t missing l ≡ through (choice s t missing l) 0 (length t.entries)
  unfolding searched
  outcome-is zero l = refl
  outcome-is (suc missing) l = refl

  -- ---- what a turn of the loop answers
  spent-is : (o : Outcome) (budget left : ℕ) (l now : List ℕ) → budget < tries_of o → Answers o budget Spent left l now
  spent-is (ended e c) budget left l now h = h
  spent-is (went_on c) budget left l now h = h

  of-spent : (o : Outcome) (budget left : ℕ) (l now : List ℕ) → Answers o budget Spent left l now → budget < tries_of o
  of-spent (ended e c) budget left l now h = h
  of-spent (went_on c) budget left l now h = h

  module _ (missing : ℕ) (l : List ℕ) (x left budget : ℕ) (less : x < (length t.entries)) (b : Behind (choice s t missing l) (length t.entries) x left budget) where
    skipped : has x l ≡ true → Behind (choice s t missing l) (length t.entries) (x + 1) left budget
    skipped is = one_behind (choice s t missing l) (length t.entries) x left budget 0 left less b (rw is refl) (omega arith)

    choice-fresh : has x l ≡ false → choice s t missing l x ≡ counted 1 (further s t missing (l ++ x ∷ []))
    choice-fresh new = rw new refl

    tries-fresh : has x l ≡ false → tries_of (choice s t missing l x) ≡ 1 + tries_of (further s t missing (l ++ x ∷ []))
    tries-fresh new = ap tries_of (choice-fresh new) ∙ counted-adds 1 (further s t missing (l ++ x ∷ []))

    none_left : has x l ≡ false → left ≡ 0 → (now : List ℕ) → Answers (outcome s t missing l) budget Spent left l now
    none_left new none now =
        rw (outcome-is missing l)
        (spent-is (through (choice s t missing l) 0 (length t.entries)) budget left l now
        (spent_now (choice s t missing l) (length t.entries) x left budget less b (omega (arith, tries-fresh new, none))))

    -- a list that does not fit costs one
    unfit : has x l ≡ false → (one : ℕ) → one + 1 ≡ left → fits s t (l ++ x ∷ []) ≡ false → Behind (choice s t missing l) (length t.entries) (x + 1) one budget
    unfit new one paid misfit =
        one_behind (choice s t missing l) (length t.entries) x left budget 1 one less b (choice-fresh new ∙ ap (counted 1) (unfit-further s t missing (l ++ x ∷ []) misfit)) (omega (arith, paid))

    module _ (new : has x l ≡ false) (one after_one : ℕ) (paid : one + 1 ≡ left) (now : List ℕ) where
      found_by : (o : Outcome) → further s t missing (l ++ x ∷ []) ≡ o → Answers o one Found after_one (l ++ x ∷ []) now → Answers (outcome s t missing l) budget Found after_one l now
      found_by (ended e c) is h =
          let o = found_now (choice s t missing l) (length t.entries) x left budget (1 + c) e less b (choice-fresh new ∙ ap (counted 1) is) in
          rw (outcome-is missing l ∙ o) (omega (arith, h.0, paid, b.balance), h.1)
      found_by (went_on c) is h = absurd h

      turn_found : Answers (further s t missing (l ++ x ∷ [])) one Found after_one (l ++ x ∷ []) now → Answers (outcome s t missing l) budget Found after_one l now
      turn_found h = found_by (further s t missing (l ++ x ∷ [])) refl h

      turn_spent : Answers (further s t missing (l ++ x ∷ [])) one Spent after_one (l ++ x ∷ []) now → Answers (outcome s t missing l) budget Spent after_one l now
      turn_spent h =
          rw (outcome-is missing l)
          (spent-is (through (choice s t missing l) 0 (length t.entries)) budget after_one l now
          (spent_now (choice s t missing l) (length t.entries) x left budget less b
          (omega (arith, tries-fresh new, paid, of-spent (further s t missing (l ++ x ∷ [])) one after_one (l ++ x ∷ []) now h))))

      nothing_by : (o : Outcome) → further s t missing (l ++ x ∷ []) ≡ o → Answers o one Nothing after_one (l ++ x ∷ []) now
          → Behind (choice s t missing l) (length t.entries) (x + 1) after_one budget × (now ≡ l ++ x ∷ [])
      nothing_by (ended e c) is h = absurd h
      nothing_by (went_on c) is h =
          (one_behind (choice s t missing l) (length t.entries) x left budget (1 + c) after_one less b (choice-fresh new ∙ ap (counted 1) is) (omega (arith, h.0, paid)), h.1)

      turn_nothing : Answers (further s t missing (l ++ x ∷ [])) one Nothing after_one (l ++ x ∷ []) now
          → Behind (choice s t missing l) (length t.entries) (x + 1) after_one budget × (now ≡ l ++ x ∷ [])
      turn_nothing h = nothing_by (further s t missing (l ++ x ∷ [])) refl h

  pub all_nothing : (missing : ℕ) (l : List ℕ) (left budget : ℕ) → Behind (choice s t missing l) (length t.entries) (length t.entries) left budget → Answers (outcome s t missing l) budget Nothing left l l
  all_nothing missing l left budget b =
      rw (outcome-is missing l ∙ all_behind (choice s t missing l) (length t.entries) left budget b)
      (let balance : b.count + left ≡ budget = b.balance in omega (arith, balance), refl)

  moved : (m m' one after_one : ℕ) (l l' now : List ℕ) (a a' : Answer) → m ≡ m' → l ≡ l' → a ≡ a' → Answers (further s t m l) one a after_one l now
      → Answers (further s t m' l') one a' after_one l' now
  moved m m' one after_one l l' now a a' em el ea h =
      subst (λ (b : Answer). Answers (further s t m' l') one b after_one l' now) ea
      (subst (λ (k : List ℕ). Answers (further s t m' k) one a after_one k now) el (subst (λ k. Answers (further s t k l) one a after_one l now) em h))

  pub nothing_at_end : (x missing : ℕ) (l now : List ℕ) (left budget : ℕ) → x ≡ (length t.entries) → now ≡ l → Behind (choice s t missing l) (length t.entries) x left budget
      → Answers (outcome s t missing l) budget Nothing left l now
  nothing_at_end x missing l now left budget e same b =
      subst (λ (k : List ℕ). Answers (outcome s t missing l) budget Nothing left l k) (sym same)
      (all_nothing missing l left budget (subst (λ y. Behind (choice s t missing l) (length t.entries) y left budget) e b))

  -- ---- a turn as the loop has it: the list is lent as `held`, and `there` says whether x is in it
  module _ (total : ℕ) (l : List ℕ) (x left budget : ℕ) (less : x < length t.entries) (b : Behind (choice s t (total - length l - 1) l) (length t.entries) x left budget) (held : List ℕ) (held_is : held ≡ l)
      (there : Bool) (there_is : there ≡ has x held) where
    is-there : has x l ≡ there
    is-there = ap (has x) (sym held_is) ∙ sym there_is

    pub passed_over : there ≡ true → Behind (choice s t (total - length l - 1) l) (length t.entries) (x + 1) left budget
    passed_over old = skipped (total - length l - 1) l x left budget less b (is-there ∙ old)

    module _ (new : there ≡ false) where
      pub budget_over : left ≡ 0 → (now : List ℕ) → Answers (outcome s t (total - length l - 1) l) budget Spent left l now
      budget_over none now = none_left (total - length l - 1) l x left budget less b (is-there ∙ new) none now

      module _ (some : left ≢ 0) where
        one_left : left - 1 + 1 ≡ left
        one_left = omega (arith, some)

        pub misfit : fits s t (l ++ x ∷ []) ≡ false → Behind (choice s t (total - length l - 1) l) (length t.entries) (x + 1) (left - 1) budget
        misfit h = unfit (total - length l - 1) l x left budget less b (is-there ∙ new) (left - 1) one_left h

        -- the list with x after it, and what the search from there answers
        module _ (longer : List ℕ) (longer_is : longer ≡ l ++ x ∷ []) (answer : Answer) (after_one : ℕ) (now : List ℕ)
            (h : Answers (further s t (total - length longer) longer) (left - 1) answer after_one longer now) where
          answered : (a : Answer) → answer ≡ a → Answers (further s t (total - length l - 1) (l ++ x ∷ [])) (left - 1) a after_one (l ++ x ∷ []) now
          answered a is =
              moved (total - length longer) (total - length l - 1) (left - 1) after_one longer (l ++ x ∷ []) now answer a
              (omega (arith, ap length longer_is ∙ length-append l (x ∷ []))) longer_is is h

          pub goes_found : answer ≡ Found → Answers (outcome s t (total - length l - 1) l) budget Found after_one l now
          goes_found is = turn_found (total - length l - 1) l x left budget less b (is-there ∙ new) (left - 1) after_one one_left now (answered Found is)

          pub goes_spent : answer ≡ Spent → Answers (outcome s t (total - length l - 1) l) budget Spent after_one l now
          goes_spent is = turn_spent (total - length l - 1) l x left budget less b (is-there ∙ new) (left - 1) after_one one_left now (answered Spent is)

          pub goes_nothing : answer ≡ Nothing → Behind (choice s t (total - length l - 1) l) (length t.entries) (x + 1) after_one budget × (now ≡ l ++ x ∷ [])
          goes_nothing is = turn_nothing (total - length l - 1) l x left budget less b (is-there ∙ new) (left - 1) after_one one_left now (answered Nothing is)
