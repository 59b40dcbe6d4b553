-- No bytes are the text of two lists of steps, whatever the size of their arguments.
use Rattle.std.proofs.Common.{◌≡◌, ℕ, zero, suc, ◌+◌, ◌^◌, ◌<◌, Bool, true, false, List, [], ◌∷◌, ◌++◌, length, length-append, drop, Ok, refl, sym, ap, ◌∙◌, subst, arith, append_assoc}
use Rattle.std.specs.Prelude.{◌==◌, codes}
use Rattle.std.specs.Fmt.{decimal}
use Rattle.std.specs.List.{flat_map}
use Rattle.std.proofs.lemmas.List.{append_cancel_left}
use denote.Hole.Carrier.{roll}
use Rattle.data_model.specs.Lists.{Each}
use Rattle.u_terms.specs.Syntax.{U, Val}
use Rattle.u_terms.specs.Size.{nodes, value_nodes, list_nodes, depth, value_depth, list_depth}
use Rattle.u_rules.specs.declared.rule.Rule.{Rule}
use Rattle.u_rules.specs.declared.rule.Rule.TheVariants as rule
use Rattle.u_rules.specs.declared.rule.Arg.{Arg}
use Rattle.u_rules.specs.declared.rule.Arg.TheVariants as arg
use Rattle.u_deriv.specs.declared.run.Run.{Run}
use Rattle.u_deriv.specs.declared.step.Step.{Step, out-Step, roll-Step}
use Rattle.u_deriv.specs.declared.step.Step.TheViews.{roll-out-Step}
use Rattle.u_deriv.specs.declared.step.Step.TheBlock.{hidden-the_row-Step-0}
use Rattle.u_deriv.specs.declared.step.Step.TheOpen.{Step-F}
use Rattle.u_deriv.specs.StepHeight.{step_constructors}
use Rattle.u_deriv.specs.StepText.{term_text, value_text, run_text, direction_text, rule_text, argument_text, arguments_text, head_text, tail_text, newline, step_text, row_text, steps_text}
use Rattle.proof_text.specs.declared.kinds.Kind.{Kind}
use Rattle.proof_text.specs.declared.kinds.Kind.TheVariants as kind
use Rattle.proof_text.specs.declared.path.Last.TheVariants as last
use Rattle.proof_text.specs.Signs.{code}
use Rattle.proof_text.specs.RuleNames.{names, kinds_of, has_inner}
use Rattle.proof_text.specs.Words.{HasWords, ValueHasWords, ArgumentHasWords}
use Rattle.proof_text.specs.Written.{IsOf, AreOf, HasLine, end_text, line_text, IsWritable, AreWritable, HasInner, proof_text, ProofText}
use Rattle.proof_text.specs.Reading.{Rest, Reading, sign_at, number_at, term_at, value_at, list_of, runs_at, direction_at, rule_at}
use Rattle.proof_text.proofs.spelled.NumbersAgain.{Ends, number_again}
use Rattle.proof_text.proofs.spelled.TermsAgain.{list_text, first_text-list, term_again, value_again, values_again}
use Rattle.proof_text.proofs.spelled.LinesAgain.{apart_all, runs_again, direction_again, rule_again, arguments_end, end_ends, line_parts}

-- ---- a reading has one outcome
same_read : {A : Type 0} (a b : A) (x y : Rest) (reading : Reading A) → reading ≡ (Ok a, x) → reading ≡ (Ok b, y) → (a ≡ b) × (x.text ≡ y.text)
same_read {A = A} a b x y reading e i =
    let o : Ok a ≡ Ok b = ap (λ (z : Reading A). z.0) (sym e ∙ i) in
    let s : a ≡ b = cc in
    (s, ap (λ (z : Reading A). z.1.text) (sym e ∙ i))

behind : (c : ℕ) (x y : List ℕ) → c ∷ x ≡ c ∷ y → x ≡ y
behind c x y e = ap (drop 1) e

-- ---- arguments
number_once : (m n : ℕ) (x y : List ℕ) → m < 2 ^ 32 → n < 2 ^ 32 → Ends x → Ends y → decimal m ++ x ≡ decimal n ++ y → (m ≡ n) × (x ≡ y)
number_once m n x y v w d e h =
    let i = number_again m 0 x v d in
    same_read m n (record { nodes = 0; text = x }) (record { nodes = 0; text = y }) (number_at (record { nodes = 0; text = decimal n ++ y }))
    (subst (λ (t : List ℕ). number_at (record { nodes = 0; text = t }) ≡ (Ok m, record { nodes = 0; text = x })) h i) (number_again n 0 y w e)

term_once : (a b : U) (x y : List ℕ) → HasWords a → HasWords b → term_text a ++ x ≡ term_text b ++ y → (a ≡ b) × (x ≡ y)
term_once a b x y v w h =
    let levels : ℕ = depth a + depth b in
    let most : ℕ = nodes a + nodes b in
    let i = term_again levels a most (nodes b) x v (omega arith) refl in
    same_read a b (record { nodes = nodes b; text = x }) (record { nodes = nodes a; text = y }) (term_at levels (record { nodes = most; text = term_text b ++ y }))
    (subst (λ (t : List ℕ). term_at levels (record { nodes = most; text = t }) ≡ (Ok a, record { nodes = nodes b; text = x })) h i) (term_again levels b most (nodes a) y w (omega arith) (omega arith))

value_once : (a b : Val) (x y : List ℕ) → ValueHasWords a → ValueHasWords b → Ends x → Ends y → value_text a ++ x ≡ value_text b ++ y → (a ≡ b) × (x ≡ y)
value_once a b x y v w d e h =
    let levels : ℕ = value_depth a + value_depth b in
    let most : ℕ = value_nodes a + value_nodes b in
    let i = value_again levels a most (value_nodes b) x v (omega arith) refl d in
    same_read a b (record { nodes = value_nodes b; text = x }) (record { nodes = value_nodes a; text = y }) (value_at levels (record { nodes = most; text = value_text b ++ y }))
    (subst (λ (t : List ℕ). value_at levels (record { nodes = most; text = t }) ≡ (Ok a, record { nodes = value_nodes b; text = x })) h i) (value_again levels b most (value_nodes a) y w (omega arith) (omega arith) e)

list_once : (a b : List Val) (x y : List ℕ) → Each ValueHasWords a → Each ValueHasWords b → 40 ∷ (list_text a ++ x) ≡ 40 ∷ (list_text b ++ y) → (a ≡ b) × (x ≡ y)
list_once a b x y v w h =
    let levels : ℕ = list_depth a + list_depth b in
    let most : ℕ = list_nodes a + list_nodes b in
    let i = values_again levels a most (list_nodes b) x v (omega arith) refl in
    same_read a b (record { nodes = list_nodes b; text = x }) (record { nodes = list_nodes a; text = y }) (list_of (value_at levels) (record { nodes = most; text = 40 ∷ (list_text b ++ y) }))
    (subst (λ (t : List ℕ). list_of (value_at levels) (record { nodes = most; text = t }) ≡ (Ok a, record { nodes = list_nodes b; text = x })) h i) (values_again levels b most (list_nodes a) y w (omega arith) (omega arith))

argument_once : (k : Kind) (a b : Arg) (x y : List ℕ) → IsOf k a → IsOf k b → ArgumentHasWords a → ArgumentHasWords b → Ends x → Ends y → argument_text a ++ x ≡ argument_text b ++ y → (a ≡ b) × (x ≡ y)
argument_once kind.Term (arg.Term a) (arg.Term b) x y o p v w d e h = let (s, t) = term_once a b x y v w h in (ap (λ (z : U). arg.Term z) s, t)
argument_once kind.Body (arg.Body a) (arg.Body b) x y o p v w d e h = let (s, t) = term_once a b x y v w h in (ap (λ (z : U). arg.Body z) s, t)
argument_once kind.Value (arg.Value a) (arg.Value b) x y o p v w d e h = let (s, t) = value_once a b x y v w d e h in (ap (λ (z : Val). arg.Value z) s, t)
argument_once kind.Values (arg.Values a) (arg.Values b) x y o p v w d e h =
    let i : 40 ∷ (list_text a ++ x) ≡ 40 ∷ (list_text b ++ y) = ap (λ (z : List ℕ). 40 ∷ (z ++ x)) (sym (first_text-list a)) ∙ h ∙ ap (λ (z : List ℕ). 40 ∷ (z ++ y)) (first_text-list b) in
    let (s, t) = list_once a b x y v w i in
    (ap (λ (z : List Val). arg.Values z) s, t)
argument_once kind.Num (arg.Num a) (arg.Num b) x y o p v w d e h = let (s, t) = number_once a b x y v w d e h in (ap (λ (z : ℕ). arg.Num z) s, t)
argument_once kind.Term (arg.Term a) b x y o p v w d e h = absurd p
argument_once kind.Body (arg.Body a) b x y o p v w d e h = absurd p
argument_once kind.Value (arg.Value a) b x y o p v w d e h = absurd p
argument_once kind.Values (arg.Values a) b x y o p v w d e h = absurd p
argument_once kind.Num (arg.Num a) b x y o p v w d e h = absurd p
argument_once k a b x y o p v w d e h = absurd o

arguments_once : (ks : List Kind) (xs bs : List Arg) (x y : List ℕ) → AreOf ks xs → AreOf ks bs → Each ArgumentHasWords xs → Each ArgumentHasWords bs → Ends x → Ends y → arguments_text xs ++ x ≡ arguments_text bs ++ y → (xs ≡ bs) × (x ≡ y)
arguments_once [] [] [] x y o p v w d e h = (refl, h)
arguments_once [] [] (b ∷ bs) x y o p v w d e h = absurd p
arguments_once [] (a ∷ xs) bs x y o p v w d e h = absurd o
arguments_once (k ∷ ks) [] bs x y o p v w d e h = absurd o
arguments_once (k ∷ ks) (a ∷ xs) [] x y o p v w d e h = absurd p
arguments_once (k ∷ ks) (a ∷ xs) (b ∷ bs) x y o p v w d e h =
    let i : argument_text a ++ (arguments_text xs ++ x) ≡ argument_text b ++ (arguments_text bs ++ y) =
    sym (append_assoc (argument_text a) (arguments_text xs) x) ∙ behind 32 ((argument_text a ++ arguments_text xs) ++ x) ((argument_text b ++ arguments_text bs) ++ y) h ∙ append_assoc (argument_text b) (arguments_text bs) y in
    let (s, t) = argument_once k a b (arguments_text xs ++ x) (arguments_text bs ++ y) o.0 p.0 v.0 w.0 (arguments_end xs x d) (arguments_end bs y e) i in
    let (s', t') = arguments_once ks xs bs x y o.1 p.1 v.1 w.1 d e t in
    (ap (λ (z : Arg). z ∷ xs) s ∙ ap (λ (z : List Arg). b ∷ z) s', t')

-- ---- lines
pub record SameLine (p p' : List Run) (f f' : Bool) (q q' : Rule) (xs bs : List Arg) (x y : List ℕ) : Type 0 where
  pub path : p ≡ p'
  pub forward : f ≡ f'
  pub rule : q ≡ q'
  pub args : xs ≡ bs
  pub rest : x ≡ y

line_once : (p p' : List Run) (f f' : Bool) (q q' : Rule) (xs bs : List Arg) (x y : List ℕ) → HasLine p q xs → HasLine p' q' bs → line_text p f q xs ++ x ≡ line_text p' f' q' bs ++ y → SameLine p p' f f' q q' xs bs x y
line_once p p' f f' q q' xs bs x y l m h =
    let ends : List ℕ = arguments_text xs ++ (end_text (has_inner q) ++ x) in
    let ends' : List ℕ = arguments_text bs ++ (end_text (has_inner q') ++ y) in
    let h1 : flat_map run_text p ++ (32 ∷ (direction_text f ++ (32 ∷ (rule_text q ++ ends)))) ≡ flat_map run_text p' ++ (32 ∷ (direction_text f' ++ (32 ∷ (rule_text q' ++ ends')))) =
    behind 47 (flat_map run_text p ++ (32 ∷ (direction_text f ++ (32 ∷ (rule_text q ++ ends))))) (flat_map run_text p' ++ (32 ∷ (direction_text f' ++ (32 ∷ (rule_text q' ++ ends')))))
    (sym (line_parts p f q xs x) ∙ h ∙ line_parts p' f' q' bs y) in
    let most : ℕ = length p + length p' in
    let (sp, t1) = same_read p p' (record { nodes = 0; text = 32 ∷ (direction_text f ++ (32 ∷ (rule_text q ++ ends))) }) (record { nodes = 0; text = 32 ∷ (direction_text f' ++ (32 ∷ (rule_text q' ++ ends'))) })
    (runs_at most last.Other (record { nodes = 0; text = flat_map run_text p' ++ (32 ∷ (direction_text f' ++ (32 ∷ (rule_text q' ++ ends')))) }))
    (subst (λ (t : List ℕ). runs_at most last.Other (record { nodes = 0; text = t }) ≡ (Ok p, record { nodes = 0; text = 32 ∷ (direction_text f ++ (32 ∷ (rule_text q ++ ends))) })) h1
    (runs_again p most 0 last.Other (direction_text f ++ (32 ∷ (rule_text q ++ ends))) (omega arith) l.turns (apart_all p l.normal)))
    (runs_again p' most 0 last.Other (direction_text f' ++ (32 ∷ (rule_text q' ++ ends'))) (omega arith) m.turns (apart_all p' m.normal)) in
    let h2 = behind 32 (direction_text f ++ (32 ∷ (rule_text q ++ ends))) (direction_text f' ++ (32 ∷ (rule_text q' ++ ends'))) t1 in
    let (sf, t2) = same_read f f' (record { nodes = 0; text = 32 ∷ (rule_text q ++ ends) }) (record { nodes = 0; text = 32 ∷ (rule_text q' ++ ends') })
    (direction_at (record { nodes = 0; text = direction_text f' ++ (32 ∷ (rule_text q' ++ ends')) }))
    (subst (λ (t : List ℕ). direction_at (record { nodes = 0; text = t }) ≡ (Ok f, record { nodes = 0; text = 32 ∷ (rule_text q ++ ends) })) h2 (direction_again f 0 (32 ∷ (rule_text q ++ ends))))
    (direction_again f' 0 (32 ∷ (rule_text q' ++ ends'))) in
    let h3 = behind 32 (rule_text q ++ ends) (rule_text q' ++ ends') t2 in
    let (sq, t3) = same_read q q' (record { nodes = 0; text = ends }) (record { nodes = 0; text = ends' })
    (rule_at names (record { nodes = 0; text = rule_text q' ++ ends' }))
    (subst (λ (t : List ℕ). rule_at names (record { nodes = 0; text = t }) ≡ (Ok q, record { nodes = 0; text = ends })) h3 (rule_again q 0 ends)) (rule_again q' 0 ends') in
    let (sa, t4) = arguments_once (kinds_of q) xs bs (end_text (has_inner q) ++ x) (end_text (has_inner q') ++ y) l.kinds (subst (λ (z : Rule). AreOf (kinds_of z) bs) (sym sq) m.kinds) l.words m.words
    (end_ends (has_inner q) x) (end_ends (has_inner q') y) t3 in
    let t5 : end_text (has_inner q) ++ x ≡ end_text (has_inner q) ++ y = subst (λ (z : Rule). end_text (has_inner q) ++ x ≡ end_text (has_inner z) ++ y) (sym sq) t4 in
    record { path = sp; forward = sf; rule = sq; args = sa; rest = append_cancel_left (end_text (has_inner q)) x y t5 }

-- ---- steps
-- the inner steps and the line that ends them
abbrev pub inner_text : Bool → List ℕ → List ℕ
inner_text true inner = inner ++ (codes "}" ++ newline)
inner_text false inner = []

pub tail_parts : (q : Rule) (inner : List ℕ) → tail_text q inner ≡ end_text (has_inner q) ++ inner_text (has_inner q) inner
tail_parts rule.SqFix inner = refl
tail_parts _ inner = refl

pub rows_text : (l : List Step) → row_text (hidden-the_row-Step-0 l) ≡ steps_text l
unfolding step_text step_constructors
rows_text [] = refl
rows_text (s ∷ l) = ap (λ (z : List ℕ). step_text s ++ z) (rows_text l)

pub rows_writable : (l : List Step) → AreWritable (hidden-the_row-Step-0 l) → Each IsWritable l
unfolding IsWritable step_constructors
rows_writable [] w = tt
rows_writable (s ∷ l) w = (w.0, rows_writable l w.1)

pub rows_none : (l : List Step) → HasInner false (hidden-the_row-Step-0 l) → l ≡ []
unfolding IsWritable step_constructors
rows_none [] w = refl
rows_none (s ∷ l) w = absurd w

abbrev pub line_of_step : Step-F Step → List ℕ
line_of_step d = line_text d.path d.forward d.rule d.args

form_text : (d : Step-F Step) → step_text (roll-Step d) ≡ line_of_step d ++ inner_text (has_inner d.rule) (steps_text d.inner)
unfolding step_text step_constructors roll-Step roll
form_text d =
    ap (λ (z : List ℕ). head_text d.path d.forward d.rule d.args ++ tail_text d.rule z) (rows_text d.inner)
    ∙ ap (λ (z : List ℕ). head_text d.path d.forward d.rule d.args ++ z) (tail_parts d.rule (steps_text d.inner))
    ∙ sym (append_assoc (head_text d.path d.forward d.rule d.args) (end_text (has_inner d.rule)) (inner_text (has_inner d.rule) (steps_text d.inner)))

pub record Parts (d : Step-F Step) : Type 0 where
  pub line : HasLine d.path d.rule d.args
  pub none : has_inner d.rule ≡ false → d.inner ≡ []
  pub inner : Each IsWritable d.inner

form_parts : (d : Step-F Step) → IsWritable (roll-Step d) → Parts d
unfolding IsWritable step_constructors roll-Step roll
form_parts d w = record {
  line = w.0;
  none = λ e. rows_none d.inner (subst (λ b. HasInner b (hidden-the_row-Step-0 d.inner)) e w.1);
  inner = rows_writable d.inner w.2;
}

pub text_parts : (s : Step) → step_text s ≡ line_of_step (out-Step s) ++ inner_text (has_inner (out-Step s).rule) (steps_text (out-Step s).inner)
text_parts s = subst (λ z. step_text z ≡ line_of_step (out-Step s) ++ inner_text (has_inner (out-Step s).rule) (steps_text (out-Step s).inner)) (roll-out-Step s) (form_text (out-Step s))

pub parts_of : (s : Step) → IsWritable s → Parts (out-Step s)
parts_of s w = form_parts (out-Step s) (subst IsWritable (sym (roll-out-Step s)) w)

-- what stands in front is no step
abbrev NoStep : List ℕ → Type 0
NoStep text = (code (sign_at text) == 25) ≡ false

step_first : (s : Step) (k : List ℕ) → (code (sign_at (step_text s ++ k)) == 25) ≡ true
step_first s k = rw (text_parts s) refl

abbrev behind_line : Step → List Step → List ℕ → List ℕ
behind_line s l r = inner_text (has_inner (out-Step s).rule) (steps_text (out-Step s).inner) ++ (steps_text l ++ r)

first_text : (s : Step) (l : List Step) (r : List ℕ) → (step_text s ++ steps_text l) ++ r ≡ line_of_step (out-Step s) ++ behind_line s l r
first_text s l r =
    append_assoc (step_text s) (steps_text l) r ∙ ap (λ (z : List ℕ). z ++ (steps_text l ++ r)) (text_parts s)
    ∙ append_assoc (line_of_step (out-Step s)) (inner_text (has_inner (out-Step s).rule) (steps_text (out-Step s).inner)) (steps_text l ++ r)

line_long : (d : Step-F Step) (k : List ℕ) → length k < length (line_of_step d ++ k)
line_long d k = omega (arith, length-append (line_of_step d) k)

same_step : (s t : Step) → (out-Step s).path ≡ (out-Step t).path → (out-Step s).forward ≡ (out-Step t).forward → (out-Step s).rule ≡ (out-Step t).rule → (out-Step s).args ≡ (out-Step t).args → (out-Step s).inner ≡ (out-Step t).inner → s ≡ t
same_step s t p f q a l =
    sym (roll-out-Step s)
    ∙ (λ i. roll-Step (record { path = p i; forward = f i; rule = q i; args = a i; inner = l i }))
    ∙ roll-out-Step t

steps_once : (n : ℕ) (xs ys : List Step) (r s : List ℕ) → length (steps_text xs ++ r) < n → Each IsWritable xs → Each IsWritable ys → NoStep r → NoStep s → steps_text xs ++ r ≡ steps_text ys ++ s → (xs ≡ ys) × (r ≡ s)
steps_once zero xs ys r s h v w o p e = absurd (omega (arith, h))
steps_once (suc n) [] [] r s h v w o p e = (refl, e)
steps_once (suc n) [] (y ∷ ys) r s h v w o p e =
    let i : (code (sign_at (step_text y ++ (steps_text ys ++ s))) == 25) ≡ false = subst NoStep (e ∙ append_assoc (step_text y) (steps_text ys) s) o in
    let j = step_first y (steps_text ys ++ s) in
    cc
steps_once (suc n) (x ∷ xs) [] r s h v w o p e =
    let i : (code (sign_at (step_text x ++ (steps_text xs ++ r))) == 25) ≡ false = subst NoStep (sym e ∙ append_assoc (step_text x) (steps_text xs) r) p in
    let j = step_first x (steps_text xs ++ r) in
    cc
steps_once (suc n) (x ∷ xs) (y ∷ ys) r s h v w o p e =
    let dx = out-Step x in
    let dy = out-Step y in
    let px = parts_of x v.0 in
    let py = parts_of y w.0 in
    let i : line_of_step dx ++ behind_line x xs r ≡ line_of_step dy ++ behind_line y ys s = sym (first_text x xs r) ∙ e ∙ first_text y ys s in
    let l = line_once dx.path dy.path dx.forward dy.forward dx.rule dy.rule dx.args dy.args (behind_line x xs r) (behind_line y ys s) px.line py.line i in
    let shorter : length (behind_line x xs r) < n = omega (arith, line_long dx (behind_line x xs r), ap length (first_text x xs r), h) in
    let rest : inner_text (has_inner dx.rule) (steps_text dx.inner) ++ (steps_text xs ++ r) ≡ inner_text (has_inner dx.rule) (steps_text dy.inner) ++ (steps_text ys ++ s) =
    subst (λ (z : Rule). behind_line x xs r ≡ inner_text (has_inner z) (steps_text dy.inner) ++ (steps_text ys ++ s)) (sym l.rule) l.rest in
    let none : has_inner dx.rule ≡ false → dy.inner ≡ [] = λ z. py.none (subst (λ (q : Rule). has_inner q ≡ false) l.rule z) in
    finish (has_inner dx.rule) refl shorter rest px.none none
    (λ t u h v w e o p. steps_once n dx.inner dy.inner t u h px.inner py.inner o p e)
    (λ h e. steps_once n xs ys r s h v.1 w.1 o p e)
    (λ z a. (ap (λ (y : Step). y ∷ xs) (same_step x y l.path l.forward l.rule l.args z) ∙ ap (λ (t : List Step). y ∷ t) a.0, a.1))
  where
    finish : (b : Bool) → has_inner (out-Step x).rule ≡ b → length (inner_text b (steps_text (out-Step x).inner) ++ (steps_text xs ++ r)) < n
        → inner_text b (steps_text (out-Step x).inner) ++ (steps_text xs ++ r) ≡ inner_text b (steps_text (out-Step y).inner) ++ (steps_text ys ++ s)
        → (has_inner (out-Step x).rule ≡ false → (out-Step x).inner ≡ []) → (has_inner (out-Step x).rule ≡ false → (out-Step y).inner ≡ [])
        → ((t u : List ℕ) → length (steps_text (out-Step x).inner ++ t) < n → Unit {0} → Unit {0} → steps_text (out-Step x).inner ++ t ≡ steps_text (out-Step y).inner ++ u → NoStep t → NoStep u → ((out-Step x).inner ≡ (out-Step y).inner) × (t ≡ u))
        → (length (steps_text xs ++ r) < n → steps_text xs ++ r ≡ steps_text ys ++ s → (xs ≡ ys) × (r ≡ s))
        → ((out-Step x).inner ≡ (out-Step y).inner → (xs ≡ ys) × (r ≡ s) → (x ∷ xs ≡ y ∷ ys) × (r ≡ s))
        → (x ∷ xs ≡ y ∷ ys) × (r ≡ s)
    finish false b h e f g inner others whole = whole (f b ∙ sym (g b)) (others h e)
    finish true b h e f g inner others whole =
        let t : List ℕ = 125 ∷ (10 ∷ (steps_text xs ++ r)) in
        let u : List ℕ = 125 ∷ (10 ∷ (steps_text ys ++ s)) in
        let i : steps_text (out-Step x).inner ++ t ≡ steps_text (out-Step y).inner ++ u =
        sym (append_assoc (steps_text (out-Step x).inner) (125 ∷ (10 ∷ [])) (steps_text xs ++ r)) ∙ e ∙ append_assoc (steps_text (out-Step y).inner) (125 ∷ (10 ∷ [])) (steps_text ys ++ s) in
        let long = ap length (append_assoc (steps_text (out-Step x).inner) (125 ∷ (10 ∷ [])) (steps_text xs ++ r)) in
        let a = inner t u (omega (arith, h, long)) tt tt i refl refl in
        let j : steps_text xs ++ r ≡ steps_text ys ++ s = ap (drop 2) a.1 in
        whole a.0 (others (omega (arith, h, long, length-append (steps_text (out-Step x).inner) t)) j)

pub one_text : (bytes : List ℕ) (outs width : ℕ) (xs ys : List Step) → ProofText bytes outs xs → ProofText bytes width ys → (outs ≡ width) × (xs ≡ ys)
one_text bytes outs width xs ys a b =
    let e : proof_text outs xs ≡ proof_text width ys = sym a.spelled ∙ b.spelled in
    let behind_outs : List ℕ = newline ++ (steps_text xs ++ (codes "end" ++ newline)) in
    let behind_width : List ℕ = newline ++ (steps_text ys ++ (codes "end" ++ newline)) in
    let i : decimal outs ++ behind_outs ≡ decimal width ++ behind_width = append_cancel_left (codes "udp-proof 1" ++ (newline ++ codes "outs ")) (decimal outs ++ behind_outs) (decimal width ++ behind_width) e in
    let (same, rest) = number_once outs width behind_outs behind_width a.word b.word refl refl i in
    let j : steps_text xs ++ (codes "end" ++ newline) ≡ steps_text ys ++ (codes "end" ++ newline) = behind 10 (steps_text xs ++ (codes "end" ++ newline)) (steps_text ys ++ (codes "end" ++ newline)) rest in
    (same, (steps_once (suc (length (steps_text xs ++ (codes "end" ++ newline)))) xs ys (codes "end" ++ newline) (codes "end" ++ newline) (omega arith) a.writable b.writable refl refl j).0)
