-- How many links lead from place to place, edge by edge.
use Rattle.std.proofs.Common.{◌≡◌, ℕ, zero, suc, ◌+◌, ◌-◌, ◌^◌, ◌<◌, ◌≤◌, min, Bool, List, [], ◌∷◌, ◌++◌, length, take, inl, inr, refl, ap, sym, ◌∙◌, subst, arith, add-one, eq-eqb}
use Rattle.std.specs.Prelude.{Some, slice_get}
use Rattle.std.proofs.lemmas.Bool.{cases_eq, cases_Bool, ne_eqb}
use Rattle.std.proofs.lemmas.List.{length-take, length_push}
use Rattle.std.proofs.lemmas.List.Sums.{sum_by_push}
use Rattle.std.proofs.lemmas.Option.{same_Some, none-some, get_or_from_slice_get}
use Rattle.u_terms.specs.declared.term.Val.TheVariants as v
use Rattle.u_terms.specs.Syntax.{Val, row_of, constructors}
use Rattle.u_equal.specs.declared.forest.Reason.{Reason}
use Rattle.u_equal.specs.declared.forest.Reason.TheVariants.{Given, Called}
use Rattle.u_equal.specs.declared.chains.Hop.{Hop}
use Rattle.u_equal.specs.declared.link.Link.{Link}
use Rattle.u_equal.specs.declared.link.Link.TheVariants as link
use Rattle.u_equal.specs.Keys.{same_code}
use Rattle.u_equal.specs.Links.{HasCount, HasCountEach, nothing, given_more, call_more, no_list, list_more, told}
use Rattle.u_equal.specs.Joined.{edge_at, label_at, FirstAt, Same, SameEach, State, IsState}
use Rattle.u_equal.specs.LinkCounts.{row_values, arguments, place_in, value_of, sum_of_pairs, links_by, links_between, links_of_edge, links_of_values, links_of_hops, AreNumbers}
use Rattle.u_equal.proofs.products.KeyLaws.{same_code-one, one-same_code}
use Rattle.u_equal.proofs.products.Listed.{at-push}
use Rattle.u_equal.proofs.edges.Labels.{label_at-later, joined_by, before, across, across_turned}

-- ---- places
pub first-place : (values : List Val) (a : Val) (i : ℕ) → FirstAt values a i → place_in values a ≡ i
first-place [] a i h = absurd (none-some a h.here)
first-place (x ∷ values) a zero h = rw (one-same_code a x (sym (same_Some x a h.here))) refl
first-place (x ∷ values) a (suc i) h = elim (cases_Bool (same_code a x)) [
  | inl same ↦ absurd (h.first 0 (omega arith) (ap (λ (y : Val). Some y) (sym (same_code-one a x same))))
  | inr other ↦ rw other (ap suc (first-place values a i (record { here = h.here; first = λ j less. h.first (suc j) (omega (arith, less)) })))
]

-- ---- arguments
pub row_values-list : (xs : List Val) → row_values (row_of xs) ≡ xs
unfolding row_values constructors
row_values-list [] = refl
row_values-list (x ∷ xs) = ap (λ (rest : List Val). x ∷ rest) (row_values-list xs)

pub arguments-Fun : (symbol : ℕ) (xs : List Val) → arguments (v.Fun symbol xs) ≡ xs
unfolding arguments row_values constructors
arguments-Fun symbol xs = row_values-list xs

-- ---- one edge more
module _ (s : State) where
  abbrev l : ℕ → ℕ → ℕ
  l k i = label_at s.edges k i

  pub links-kept : (k i j : ℕ) → l k i ≡ l k j → links_between s (k + 1) i j ≡ links_between s k i j
  unfolding links_between
  links-kept k i j same = rw (add-one k, eq-eqb (l k i) (l k j) same) refl

  pub links-forth : (k i j : ℕ) → (l k i ≡ l k j → ⊥) → l k i ≡ l k (edge_at s.edges k).left
      → links_between s (k + 1) i j ≡ links_between s k i (edge_at s.edges k).left + links_of_edge s k + links_between s k (edge_at s.edges k).right j
  unfolding links_between
  links-forth k i j apart left = rw (add-one k, ne_eqb (l k i) (l k j) apart, eq-eqb (l k i) (l k (edge_at s.edges k).left) left) refl

  pub links-back : (k i j : ℕ) → (l k i ≡ l k j → ⊥) → (l k i ≡ l k (edge_at s.edges k).left → ⊥)
      → links_between s (k + 1) i j ≡ links_between s k i (edge_at s.edges k).right + links_of_edge s k + links_between s k (edge_at s.edges k).left j
  unfolding links_between
  links-back k i j apart left = rw (add-one k, ne_eqb (l k i) (l k j) apart, ne_eqb (l k i) (l k (edge_at s.edges k).left) left) refl

  pub links-none : (i j : ℕ) → links_between s 0 i j ≡ 0
  unfolding links_between
  links-none i j = refl

  -- edges that come after two places were joined add none
  pub links-later : (k d i j : ℕ) → l k i ≡ l k j → links_between s (k + d) i j ≡ links_between s k i j
  links-later k zero i j same = ap (λ m. links_between s m i j) (omega arith)
  links-later k (suc d) i j same =
      let e : links_between s (k + suc d) i j ≡ links_between s (k + d + 1) i j = ap (λ m. links_between s m i j) (omega arith) in
      e ∙ links-kept (k + d) i j (label_at-later s.edges k (k + d) i j (omega arith) same) ∙ links-later k d i j same

  pub links-itself : (k i : ℕ) → links_between s k i i ≡ 0
  links-itself zero i = links-none i i
  links-itself (suc k) i = let e : links_between s (suc k) i i ≡ links_between s (k + 1) i i = ap (λ m. links_between s m i i) (omega arith) in e ∙ links-kept k i i refl ∙ links-itself k i

  -- ---- as many back as forth
  both-more : (k : ℕ) → IsState s → k < length s.edges → ((i j : ℕ) → l k i ≡ l k j → links_between s k i j ≡ links_between s k j i)
      → (i j : ℕ) → l (k + 1) i ≡ l (k + 1) j → links_between s (k + 1) i j ≡ links_between s (k + 1) j i
  both-more k state within h i j same = elim (cases_eq (l k i) (l k j)) [
    | inl joined ↦ links-kept k i j joined ∙ h i j joined ∙ sym (links-kept k j i (sym joined))
    | inr apart ↦ elim (joined_by s.edges k i j same) [
      | before joined ↦ absurd (apart joined)
      | across at_left at_right ↦
          let there = links-forth k i j apart at_left in
          let again = links-back k j i (λ e. apart (sym e)) (λ e. apart (at_left ∙ sym e)) in
          let one = h i (edge_at s.edges k).left at_left in
          let two = h (edge_at s.edges k).right j (sym at_right) in
          omega (arith, there, again, one, two)
      | across_turned at_right at_left ↦
          let there = links-back k i j apart (λ e. apart (e ∙ sym at_left)) in
          let again = links-forth k j i (λ e. apart (sym e)) at_left in
          let one = h i (edge_at s.edges k).right at_right in
          let two = h (edge_at s.edges k).left j (sym at_left) in
          omega (arith, there, again, one, two)
    ]
  ]

  pub links-both : IsState s → (k : ℕ) → k ≤ length s.edges → (i j : ℕ) → l k i ≡ l k j → links_between s k i j ≡ links_between s k j i
  links-both state zero within i j same = links-none i j ∙ sym (links-none j i)
  links-both state (suc k) within i j same =
      let more = both-more k state (omega (arith, within)) (links-both state k (omega (arith, within))) in
      subst (λ m. (i j : ℕ) → l m i ≡ l m j → links_between s m i j ≡ links_between s m j i) (omega arith) more i j same

  -- ---- values
  pub links-at : (k : ℕ) (a b : Val) (i j : ℕ) → FirstAt s.values a i → FirstAt s.values b j → links_of_values s k a b ≡ links_between s k i j
  links-at k a b i j at_a at_b =
      ap (λ m. links_between s k m (place_in s.values b)) (first-place s.values a i at_a) ∙ ap (λ m. links_between s k i m) (first-place s.values b j at_b)

  pub links-same : (k : ℕ) (a b : Val) → a ≡ b → links_of_values s k a b ≡ 0
  links-same k a b same = ap (λ (x : Val). links_of_values s k a x) (sym same) ∙ links-itself k (place_in s.values a)

  pub values-both : IsState s → (k : ℕ) → k ≤ length s.edges → (a b : Val) → Same s.values (label_at s.edges k) a b → links_of_values s k a b ≡ links_of_values s k b a
  values-both state k within a b (inl same) = links-same k a b same ∙ sym (links-same k b a (sym same))
  values-both state k within a b (inr j) =
      links-at k a b j.left j.right j.is_left j.is_right ∙ links-both state k within j.left j.right j.joined ∙ sym (links-at k b a j.right j.left j.is_right j.is_left)

-- ---- over the arguments of two calls
pairs-both : (f : Val → Val → ℕ) (xs ys : List Val) → ((k : ℕ) (a b : Val) → slice_get xs k ≡ Some a → slice_get ys k ≡ Some b → f a b ≡ f b a) → sum_of_pairs f xs ys ≡ sum_of_pairs f ys xs
pairs-both f [] [] each = refl
pairs-both f [] (y ∷ ys) each = refl
pairs-both f (x ∷ xs) [] each = refl
pairs-both f (x ∷ xs) (y ∷ ys) each =
    let one = each 0 x y refl refl in
    let rest = pairs-both f xs ys (λ k a b. each (suc k) a b) in
    omega (arith, one, rest)

pub pairs-more : (f : Val → Val → ℕ) (xs ys : List Val) (x y : Val) → length xs ≡ length ys → sum_of_pairs f (xs ++ x ∷ []) (ys ++ y ∷ []) ≡ sum_of_pairs f xs ys + f x y
pairs-more f [] [] x y long = omega arith
pairs-more f [] (b ∷ ys) x y long = absurd (omega (arith, long))
pairs-more f (a ∷ xs) [] x y long = absurd (omega (arith, long))
pairs-more f (a ∷ xs) (b ∷ ys) x y long = let rest = pairs-more f xs ys x y (omega (arith, long)) in omega (arith, rest)

pub same-both : (s : State) → IsState s → (k : ℕ) → k ≤ length s.edges → (xs ys : List Val) → SameEach s.values (label_at s.edges k) xs ys
    → sum_of_pairs (links_of_values s k) xs ys ≡ sum_of_pairs (links_of_values s k) ys xs
same-both s state k within xs ys h = pairs-both (links_of_values s k) xs ys (λ m a b at_a at_b. values-both s state k within a b (h.each m a b at_a at_b))

-- ---- edges
pub edge-given : (s : State) (k factor : ℕ) (turned : Bool) → (edge_at s.edges k).reason ≡ Given factor turned → links_of_edge s k ≡ 1
edge-given s k factor turned is = ap (λ (r : Reason). links_by s.values (links_between s k) (edge_at s.edges k) r) is

pub edge-called : (s : State) (k : ℕ) (a b : Val) → (edge_at s.edges k).reason ≡ Called → slice_get s.values (edge_at s.edges k).left ≡ Some a → slice_get s.values (edge_at s.edges k).right ≡ Some b
    → links_of_edge s k ≡ 1 + sum_of_pairs (links_of_values s k) (arguments a) (arguments b)
edge-called s k a b is at_a at_b =
    ap (λ (r : Reason). links_by s.values (links_between s k) (edge_at s.edges k) r) is
    ∙ ap (λ (x : Val). 1 + sum_of_pairs (links_of_values s k) (arguments x) (arguments (value_of s.values (edge_at s.edges k).right))) (get_or_from_slice_get s.values (edge_at s.edges k).left a (v.Bound 0) at_a)
    ∙ ap (λ (x : Val). 1 + sum_of_pairs (links_of_values s k) (arguments a) (arguments x)) (get_or_from_slice_get s.values (edge_at s.edges k).right b (v.Bound 0) at_b)

-- the arguments as code finds them
pub pairs-found : (f : Val → Val → ℕ) (a b : Val) (i j : ℕ) (xs ys : List Val) → a ≡ v.Fun i xs → b ≡ v.Fun j ys → sum_of_pairs f xs ys ≡ sum_of_pairs f (arguments a) (arguments b)
pairs-found f a b i j xs ys is_a is_b =
    ap (λ (as' : List Val). sum_of_pairs f as' ys) (sym (ap arguments is_a ∙ arguments-Fun i xs)) ∙ ap (λ (bs : List Val). sum_of_pairs f (arguments a) bs) (sym (ap arguments is_b ∙ arguments-Fun j ys))

-- ---- numbers of links put together
pub count-through : (xs ys : List Link) (m n : ℕ) → HasCount xs m → HasCount ys n → HasCount (xs ++ ys) (m + n)
count-through xs ys m n nothing k = subst (λ t. HasCount ys t) (omega arith) k
count-through xs ys m n (given_more factor turned rest r h) k =
    subst (λ t. HasCount (link.Given factor turned ∷ (rest ++ ys)) t) (omega arith) (given_more factor turned (rest ++ ys) (r + n) (count-through rest ys r n h k))
count-through xs ys m n (call_more pairs rest p r each h) k =
    subst (λ t. HasCount (link.Call pairs ∷ (rest ++ ys)) t) (omega arith) (call_more pairs (rest ++ ys) p (r + n) each (count-through rest ys r n h k))

pub each-count-more : (pairs : List (List Link)) (links : List Link) (m n : ℕ) → HasCountEach pairs m → HasCount links n → HasCountEach (pairs ++ links ∷ []) (m + n)
each-count-more pairs links m n no_list k = subst (λ t. HasCountEach (links ∷ []) t) (omega arith) (list_more links [] n 0 k no_list)
each-count-more pairs links m n (list_more first rest p r h hs) k =
    subst (λ t. HasCountEach (first ∷ (rest ++ links ∷ [])) t) (omega arith) (list_more first (rest ++ links ∷ []) p (r + n) h (each-count-more rest links r n hs k))

pub one-given : (factor : ℕ) (turned : Bool) → HasCount (link.Given factor turned ∷ []) 1
one-given factor turned = given_more factor turned [] 0 nothing

pub one-call : (pairs : List (List Link)) (m : ℕ) → HasCountEach pairs m → HasCount (link.Call pairs ∷ []) (1 + m)
one-call pairs m each = subst (λ t. HasCount (link.Call pairs ∷ []) t) (omega arith) (call_more pairs [] m 0 each nothing)

-- ---- loops
pub same-taken : {X : Type 0} (k : ℕ) (xs ys : List X) → length xs ≡ length ys → length (take k xs) ≡ length (take k ys)
same-taken k xs ys long = let a = length-take k xs in let b = length-take k ys in omega (arith, long, a, b)

pub pairs-number : (f : Val → Val → ℕ) (xs ys xs_after ys_after : List Val) (x y : Val) → xs_after ≡ xs ++ x ∷ [] → ys_after ≡ ys ++ y ∷ [] → length xs ≡ length ys
    → sum_of_pairs f xs ys + f x y ≡ sum_of_pairs f xs_after ys_after
pairs-number f xs ys xs_after ys_after x y is_x is_y long =
    sym (pairs-more f xs ys x y long) ∙ ap (λ (as' : List Val). sum_of_pairs f as' (ys ++ y ∷ [])) (sym is_x) ∙ ap (λ (bs : List Val). sum_of_pairs f xs_after bs) (sym is_y)

pub pairs-counted : (f : Val → Val → ℕ) (xs ys xs_after ys_after : List Val) (x y : Val) (pairs pairs_after : List (List Link)) (links : List Link) → xs_after ≡ xs ++ x ∷ [] → ys_after ≡ ys ++ y ∷ []
    → length xs ≡ length ys → pairs_after ≡ pairs ++ links ∷ [] → HasCountEach pairs (sum_of_pairs f xs ys) → HasCount links (f x y) → HasCountEach pairs_after (sum_of_pairs f xs_after ys_after)
pairs-counted f xs ys xs_after ys_after x y pairs pairs_after links is_x is_y long is each one =
    subst (λ n. HasCountEach pairs_after n) (pairs-number f xs ys xs_after ys_after x y is_x is_y long)
    (subst (λ ps. HasCountEach ps (sum_of_pairs f xs ys + f x y)) (sym is) (each-count-more pairs links (sum_of_pairs f xs ys) (f x y) each one))

pub hops-counted : (s : State) (hops hops_after : List Hop) (hop : Hop) (links links_after : List Link) (l : Link) → hops_after ≡ hops ++ hop ∷ [] → links_after ≡ links ++ l ∷ []
    → HasCount links (links_of_hops s hops) → HasCount (l ∷ []) (links_of_edge s hop.time) → HasCount links_after (links_of_hops s hops_after)
hops-counted s hops hops_after hop links links_after l is_hops is_links all one =
    let number : links_of_hops s hops + links_of_edge s hop.time ≡ links_of_hops s hops_after =
    sym (sum_by_push (λ (h : Hop). links_of_edge s h.time) hops hop) ∙ ap (links_of_hops s) (sym is_hops) in
    subst (λ n. HasCount links_after n) number
    (subst (λ ls. HasCount ls (links_of_hops s hops + links_of_edge s hop.time)) (sym is_links) (count-through links (l ∷ []) (links_of_hops s hops) (links_of_edge s hop.time) all one))

-- ---- as a u64 tells them
pub told-sum : (a b x y : ℕ) → x ≡ told a → y ≡ told b → min (x + y) (2 ^ 64 - 1) ≡ told (a + b)
told-sum a b x y is_x is_y = omega (arith, is_x, is_y)

pub told-zero : told 0 ≡ 0
told-zero = omega arith

-- one edge more
pub numbers-none : (s : State) (numbers : List ℕ) → numbers ≡ [] → AreNumbers s 0 numbers
numbers-none s numbers none = record {
  within = omega arith;
  long = ap length none;
  each = λ time number at. absurd (none-some number (subst (λ (ns : List ℕ). slice_get ns time ≡ Some number) none at));
}

pub numbers-more : (s : State) (k number : ℕ) (numbers after : List ℕ) → AreNumbers s k numbers → k < length s.edges → number ≡ told (links_of_edge s k) → after ≡ numbers ++ number ∷ [] → AreNumbers s (k + 1) after
numbers-more s k number numbers after h within is pushed = record {
  within = omega (arith, within);
  long = ap length pushed ∙ length_push numbers number ∙ ap (λ n. n + 1) h.long;
  each = λ time m at. elim (at-push numbers number m time (subst (λ (ns : List ℕ). slice_get ns time ≡ Some m) pushed at)) [
    | inl here ↦ h.each time m here
    | inr last ↦ sym last.1 ∙ is ∙ ap (λ t. told (links_of_edge s t)) (sym h.long ∙ sym last.0)
  ];
}

pub numbers-long : (s : State) (k : ℕ) (numbers : List ℕ) → AreNumbers s k numbers → AreNumbers s (length numbers) numbers
numbers-long s k numbers h = subst (λ n. AreNumbers s n numbers) (sym h.long) h
