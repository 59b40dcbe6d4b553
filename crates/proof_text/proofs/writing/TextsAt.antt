-- The text of lists and of steps as code writes it, and that it is one that may be written.
use Rattle.std.proofs.Common.{◌≡◌, ℕ, zero, suc, ◌+◌, ◌^◌, ◌<◌, ◌≤◌, Bool, true, false, List, [], ◌∷◌, ◌++◌, length, take, get_or, refl, sym, ap, ◌∙◌, subst, arith, append_assoc, append-nil}
use Rattle.std.specs.Prelude.{codes}
use Rattle.std.specs.Fmt.{decimal}
use Rattle.std.specs.List.{flat_map}
use Rattle.std.proofs.lemmas.List.{take_all}
use denote.Hole.Carrier.{roll}
use Rattle.data_model.specs.Lists.{Each}
use Rattle.u_terms.specs.declared.term.U.TheVariants as u
use Rattle.u_terms.specs.declared.term.Val.TheVariants as v
use Rattle.u_terms.specs.Syntax.{U, Val, constructors}
use Rattle.u_rules.specs.declared.rule.Arg.{Arg}
use Rattle.u_deriv.specs.declared.run.Run.{Run}
use Rattle.u_rules.specs.declared.rule.Arg.TheVariants.{Values}
use Rattle.u_deriv.specs.declared.step.Step.{Step, out-Step, roll-Step}
use Rattle.u_deriv.specs.declared.step.Step.TheViews.{roll-out-Step}
use Rattle.u_deriv.specs.declared.step.Step.TheBlock.{hidden-the_row-Step-0}
use Rattle.u_deriv.specs.declared.step.Step.TheOpen.{Step-F}
use Rattle.u_deriv.specs.StepHeight.{step_constructors}
use Rattle.u_deriv.specs.StepText.{term_text, value_text, argument_text, arguments_text, direction_text, head_text, rule_text, run_text, newline, step_text, steps_text}
use Rattle.proof_text.specs.RuleNames.{kinds_of, has_inner}
use Rattle.proof_text.specs.Words.{HasWords, ValueHasWords}
use Rattle.proof_text.specs.Written.{AreOf, HasLine, SaysStep, HasInner, IsWritable, AreWritable, FitsRule, FitRules, end_text}
use Rattle.proof_text.proofs.spelled.TermsAgain.{more_text, first_text-list, words-list}
use Rattle.proof_text.proofs.spelled.OneText.{inner_text, rows_none, text_parts}

-- ---- lists
-- one more
flat_map-then : {A : Type 0} (f : A → List ℕ) (xs : List A) (i j : ℕ) (d x : A) → j ≡ i + 1 → x ≡ get_or xs i d → i < length xs → flat_map f (take i xs) ++ f x ≡ flat_map f (take j xs)
flat_map-then f [] i j d x k e h = absurd (omega (arith, h))
flat_map-then f (y ∷ ys) zero j d x k e h = let s : j ≡ suc zero = omega (arith, k) in rw (s, e) (sym (append-nil (f y)))
flat_map-then f (y ∷ ys) (suc i) j d x k e h =
    let s : j ≡ suc (i + 1) = omega (arith, k) in
    rw s (append_assoc (f y) (flat_map f (take i ys)) (f x) ∙ ap (λ (z : List ℕ). f y ++ z) (flat_map-then f ys i (i + 1) d x refl e (omega (arith, h))))

pub flat_map-next : {A : Type 0} (f : A → List ℕ) (xs : List A) (i : ℕ) (d x : A) → x ≡ get_or xs i d → i < length xs → flat_map f (take i xs) ++ f x ≡ flat_map f (take (i + 1) xs)
flat_map-next f xs i d x e h = flat_map-then f xs i (i + 1) d x refl e h

each-then : {A : Type 0} (P : A → Type 0) (xs : List A) (i j : ℕ) (d x : A) → j ≡ i + 1 → x ≡ get_or xs i d → i < length xs → Each P (take i xs) → P x → Each P (take j xs)
each-then P [] i j d x k e h s p = absurd (omega (arith, h))
each-then P (y ∷ ys) zero j d x k e h s p = let n : j ≡ suc zero = omega (arith, k) in rw n (subst P e p, tt)
each-then P (y ∷ ys) (suc i) j d x k e h s p =
    let n : j ≡ suc (i + 1) = omega (arith, k) in
    rw n (s.0, each-then P ys i (i + 1) d x refl e (omega (arith, h)) s.1 p)

pub each-next : {A : Type 0} (P : A → Type 0) (xs : List A) (i : ℕ) (d x : A) → x ≡ get_or xs i d → i < length xs → Each P (take i xs) → P x → Each P (take (i + 1) xs)
each-next P xs i d x e h s p = each-then P xs i (i + 1) d x refl e h s p

-- ---- values
abbrev pub behind_comma : Val → List ℕ
behind_comma value = codes "," ++ value_text value

more_text-others : (others : List Val) → more_text others ≡ flat_map behind_comma others ++ codes ")"
more_text-others [] = refl
more_text-others (value ∷ others) =
    ap (λ (z : List ℕ). codes "," ++ (value_text value ++ z)) (more_text-others others)
    ∙ ap (λ (z : List ℕ). codes "," ++ z) (sym (append_assoc (value_text value) (flat_map behind_comma others) (codes ")")))

-- what stands before the value at a place
abbrev pub opening_at : ℕ → List ℕ
opening_at zero = codes "("
opening_at (suc i) = codes ","

-- values, each with what stands before it
abbrev pub opened_values : List Val → List ℕ
opened_values [] = []
opened_values (value ∷ values) = codes "(" ++ (value_text value ++ flat_map behind_comma values)

opened-then : (xs : List Val) (i j : ℕ) (d x : Val) → j ≡ i + 1 → x ≡ get_or xs i d → i < length xs → opened_values (take i xs) ++ (opening_at i ++ value_text x) ≡ opened_values (take j xs)
opened-then [] i j d x k e h = absurd (omega (arith, h))
opened-then (y ∷ ys) zero j d x k e h =
    let s : j ≡ suc zero = omega (arith, k) in
    rw (s, e) (ap (λ (z : List ℕ). codes "(" ++ z) (sym (append-nil (value_text y))))
opened-then (y ∷ ys) (suc i) j d x k e h =
    let s : j ≡ suc (i + 1) = omega (arith, k) in
    rw s (
    ap (λ (z : List ℕ). codes "(" ++ z)
    (append_assoc (value_text y) (flat_map behind_comma (take i ys)) (behind_comma x)
    ∙ ap (λ (z : List ℕ). value_text y ++ z) (flat_map-next behind_comma ys i d x e (omega (arith, h)))))

pub opened-next : (xs : List Val) (i : ℕ) (prefix : List ℕ) (d x : Val) → prefix ≡ opening_at i → x ≡ get_or xs i d → i < length xs → opened_values (take i xs) ++ (prefix ++ value_text x) ≡ opened_values (take (i + 1) xs)
opened-next xs i prefix d x f e h = rw f (opened-then xs i (i + 1) d x refl e h)

pub opening-next : (i : ℕ) → codes "," ≡ opening_at (i + 1)
opening-next i = let s : i + 1 ≡ suc i = omega arith in rw s refl

pub no_values : (xs : List Val) → length xs ≡ 0 → codes "()" ≡ argument_text (Values xs)
unfolding term_text constructors
no_values [] e = refl
no_values (x ∷ xs) e = absurd (omega (arith, e))

pub closed_values : (xs : List Val) → (length xs ≡ 0 → ⊥) → opened_values xs ++ codes ")" ≡ argument_text (Values xs)
closed_values [] h = absurd (h refl)
closed_values (x ∷ xs) h =
    ap (λ (z : List ℕ). codes "(" ++ z)
    (append_assoc (value_text x) (flat_map behind_comma xs) (codes ")")
    ∙ ap (λ (z : List ℕ). value_text x ++ z) (sym (more_text-others xs))
    ∙ sym (first_text-list (x ∷ xs)))

pub all-values : (xs : List Val) (i : ℕ) → length xs ≤ i → (length xs ≡ 0 → ⊥) → opened_values (take i xs) ++ codes ")" ≡ argument_text (Values xs)
all-values xs i h some = rw (take_all i xs h) (closed_values xs some)

-- ---- terms
pub text-Zero : (t : U) → t ≡ u.Zero → codes "0" ≡ term_text t
unfolding term_text constructors
text-Zero t e = rw e refl

pub text-One : (t : U) → t ≡ u.One → codes "1" ≡ term_text t
unfolding term_text constructors
text-One t e = rw e refl

pub text-Add : (t a b x y : U) → t ≡ u.Add a b → x ≡ a → y ≡ b → (codes "+(" ++ (term_text x ++ codes ",")) ++ (term_text y ++ codes ")") ≡ term_text t
unfolding term_text constructors
text-Add t a b x y e p q = rw (e, p, q) (ap (λ (z : List ℕ). codes "+(" ++ z) (append_assoc (term_text a) (codes ",") (term_text b ++ codes ")")))

pub text-Mul : (t a b x y : U) → t ≡ u.Mul a b → x ≡ a → y ≡ b → (codes "*(" ++ (term_text x ++ codes ",")) ++ (term_text y ++ codes ")") ≡ term_text t
unfolding term_text constructors
text-Mul t a b x y e p q = rw (e, p, q) (ap (λ (z : List ℕ). codes "*(" ++ z) (append_assoc (term_text a) (codes ",") (term_text b ++ codes ")")))

pub text-Squash : (t a x : U) → t ≡ u.Squash a → x ≡ a → codes "#(" ++ (term_text x ++ codes ")") ≡ term_text t
unfolding term_text constructors
text-Squash t a x e p = rw (e, p) refl

pub text-Not : (t a x : U) → t ≡ u.Not a → x ≡ a → codes "!(" ++ (term_text x ++ codes ")") ≡ term_text t
unfolding term_text constructors
text-Not t a x e p = rw (e, p) refl

pub text-Sum : (t a x : U) → t ≡ u.Sum a → x ≡ a → codes "S(" ++ (term_text x ++ codes ")") ≡ term_text t
unfolding term_text constructors
text-Sum t a x e p = rw (e, p) refl

pub text-Eq : (t : U) (a b : Val) → t ≡ u.Eq a b → codes "=(" ++ (value_text a ++ (codes "," ++ (value_text b ++ codes ")"))) ≡ term_text t
unfolding term_text constructors
text-Eq t a b e = rw e refl

pub text-Rel : (t : U) (n : ℕ) (vs xs : List Val) → t ≡ u.Rel n vs → xs ≡ vs → (codes "R" ++ decimal n) ++ argument_text (Values xs) ≡ term_text t
unfolding term_text constructors
text-Rel t n vs xs e p = rw (e, p) refl

pub text-Pred : (t : U) (n : ℕ) (vs xs : List Val) → t ≡ u.Pred n vs → xs ≡ vs → (codes "P" ++ decimal n) ++ argument_text (Values xs) ≡ term_text t
unfolding term_text constructors
text-Pred t n vs xs e p = rw (e, p) refl

pub text-Bound : (t : Val) (n : ℕ) → t ≡ v.Bound n → codes "b" ++ decimal n ≡ value_text t
unfolding term_text constructors
text-Bound t n e = rw e refl

pub text-Free : (t : Val) (n : ℕ) → t ≡ v.Free n → codes "f" ++ decimal n ≡ value_text t
unfolding term_text constructors
text-Free t n e = rw e refl

pub text-Lit : (t : Val) (n : ℕ) → t ≡ v.Lit n → codes "c" ++ decimal n ≡ value_text t
unfolding term_text constructors
text-Lit t n e = rw e refl

pub text-Fun : (t : Val) (n : ℕ) (vs xs : List Val) → t ≡ v.Fun n vs → xs ≡ vs → (codes "F" ++ decimal n) ++ argument_text (Values xs) ≡ value_text t
unfolding term_text constructors
text-Fun t n vs xs e p = rw (e, p) refl

pub text-Agg : (t : Val) (n : ℕ) (body x : U) → t ≡ v.Agg n body → x ≡ body → (codes "G" ++ decimal n) ++ (codes "(" ++ (term_text x ++ codes ")")) ≡ value_text t
unfolding term_text constructors
text-Agg t n body x e p = rw (e, p) refl

-- ---- words
pub words-Zero : (t : U) → t ≡ u.Zero → HasWords t
unfolding HasWords constructors
words-Zero t e = subst HasWords (sym e) tt

pub words-One : (t : U) → t ≡ u.One → HasWords t
unfolding HasWords constructors
words-One t e = subst HasWords (sym e) tt

pub words-Add : (t a b x y : U) → t ≡ u.Add a b → x ≡ a → y ≡ b → HasWords x → HasWords y → HasWords t
unfolding HasWords constructors
words-Add t a b x y e p q v w = subst HasWords (sym e) (subst HasWords p v, subst HasWords q w)

pub words-Mul : (t a b x y : U) → t ≡ u.Mul a b → x ≡ a → y ≡ b → HasWords x → HasWords y → HasWords t
unfolding HasWords constructors
words-Mul t a b x y e p q v w = subst HasWords (sym e) (subst HasWords p v, subst HasWords q w)

pub words-Squash : (t a x : U) → t ≡ u.Squash a → x ≡ a → HasWords x → HasWords t
unfolding HasWords constructors
words-Squash t a x e p v = subst HasWords (sym e) (subst HasWords p v)

pub words-Not : (t a x : U) → t ≡ u.Not a → x ≡ a → HasWords x → HasWords t
unfolding HasWords constructors
words-Not t a x e p v = subst HasWords (sym e) (subst HasWords p v)

pub words-Sum : (t a x : U) → t ≡ u.Sum a → x ≡ a → HasWords x → HasWords t
unfolding HasWords constructors
words-Sum t a x e p v = subst HasWords (sym e) (subst HasWords p v)

pub words-Eq : (t : U) (a b : Val) → t ≡ u.Eq a b → ValueHasWords a → ValueHasWords b → HasWords t
unfolding HasWords constructors
words-Eq t a b e v w = subst HasWords (sym e) (v, w)

pub words-Rel : (t : U) (n : ℕ) (vs xs : List Val) → t ≡ u.Rel n vs → xs ≡ vs → n < 2 ^ 32 → Each ValueHasWords xs → HasWords t
unfolding HasWords constructors
words-Rel t n vs xs e p w h = subst HasWords (sym e) (w, subst (λ (P : Type 0). P) (sym (words-list vs)) (subst (Each ValueHasWords) p h))

pub words-Pred : (t : U) (n : ℕ) (vs xs : List Val) → t ≡ u.Pred n vs → xs ≡ vs → n < 2 ^ 32 → Each ValueHasWords xs → HasWords t
unfolding HasWords constructors
words-Pred t n vs xs e p w h = subst HasWords (sym e) (w, subst (λ (P : Type 0). P) (sym (words-list vs)) (subst (Each ValueHasWords) p h))

pub words-Bound : (t : Val) (n : ℕ) → t ≡ v.Bound n → n < 2 ^ 32 → ValueHasWords t
unfolding HasWords constructors
words-Bound t n e w = subst ValueHasWords (sym e) w

pub words-Free : (t : Val) (n : ℕ) → t ≡ v.Free n → n < 2 ^ 32 → ValueHasWords t
unfolding HasWords constructors
words-Free t n e w = subst ValueHasWords (sym e) w

pub words-Lit : (t : Val) (n : ℕ) → t ≡ v.Lit n → n < 2 ^ 32 → ValueHasWords t
unfolding HasWords constructors
words-Lit t n e w = subst ValueHasWords (sym e) w

pub words-Fun : (t : Val) (n : ℕ) (vs xs : List Val) → t ≡ v.Fun n vs → xs ≡ vs → n < 2 ^ 32 → Each ValueHasWords xs → ValueHasWords t
unfolding HasWords constructors
words-Fun t n vs xs e p w h = subst ValueHasWords (sym e) (w, subst (λ (P : Type 0). P) (sym (words-list vs)) (subst (Each ValueHasWords) p h))

pub words-Agg : (t : Val) (n : ℕ) (body x : U) → t ≡ v.Agg n body → x ≡ body → n < 2 ^ 32 → HasWords x → ValueHasWords t
unfolding HasWords constructors
words-Agg t n body x e p w h = subst ValueHasWords (sym e) (w, subst HasWords p h)

-- ---- arguments
abbrev pub behind_space : Arg → List ℕ
behind_space argument = codes " " ++ argument_text argument

-- ---- steps
abbrev pub head_of : Step → List ℕ
head_of s = head_text (out-Step s).path (out-Step s).forward (out-Step s).rule (out-Step s).args

shut : (b : Bool) (x inner : List ℕ) → b ≡ false → (x ++ end_text b) ++ inner_text b inner ≡ x ++ newline
shut false x inner h = append-nil (x ++ newline)
shut true x inner h = cc

opened : (b : Bool) (x inner : List ℕ) → b ≡ true → (x ++ end_text b) ++ inner_text b inner ≡ x ++ (codes " {\n" ++ (inner ++ codes "}\n"))
opened true x inner h = append_assoc x (codes " {\n") (inner ++ codes "}\n")
opened false x inner h = cc

text-whole : (s : Step) → has_inner (out-Step s).rule ≡ false → step_text s ≡ head_of s ++ codes "\n"
text-whole s h = text_parts s ∙ shut (has_inner (out-Step s).rule) (head_of s) (steps_text (out-Step s).inner) h

text-opens : (s : Step) → has_inner (out-Step s).rule ≡ true → step_text s ≡ head_of s ++ (codes " {\n" ++ (steps_text (out-Step s).inner ++ codes "}\n"))
text-opens s h = text_parts s ∙ opened (has_inner (out-Step s).rule) (head_of s) (steps_text (out-Step s).inner) h

pub whole-parts : (s : Step) → has_inner (out-Step s).rule ≡ false → head_of s ++ codes "\n" ≡ step_text s
whole-parts s h = sym (text-whole s h)

pub opens-parts : (s : Step) (inner : List Step) → inner ≡ (out-Step s).inner → has_inner (out-Step s).rule ≡ true → head_of s ++ (codes " {\n" ++ (steps_text inner ++ codes "}\n")) ≡ step_text s
opens-parts s inner e h = rw e (sym (text-opens s h))

pub head-parts : (s : Step) (runs : List Run) (sign name : List ℕ) (args : List Arg) → runs ≡ (out-Step s).path → sign ≡ codes " " ++ (direction_text (out-Step s).forward ++ codes " ")
    → name ≡ rule_text (out-Step s).rule → args ≡ (out-Step s).args → codes "/" ++ (flat_map run_text runs ++ (sign ++ (name ++ arguments_text args))) ≡ head_of s
head-parts s runs sign name args e i j k =
    let d = out-Step s in
    rw (e, i, j, k)
    (ap (λ (z : List ℕ). codes "/" ++ (flat_map run_text d.path ++ (codes " " ++ z))) (append_assoc (direction_text d.forward) (codes " ") (rule_text d.rule ++ arguments_text d.args)))

-- ---- what fits may be written
pub record Fits (d : Step-F Step) : Type 0 where
  pub kinds : AreOf (kinds_of d.rule) d.args
  pub none : has_inner d.rule ≡ false → d.inner ≡ []
  pub inner : Each FitsRule d.inner

rows_fit : (l : List Step) → FitRules (hidden-the_row-Step-0 l) → Each FitsRule l
unfolding FitsRule step_constructors
rows_fit [] w = tt
rows_fit (s ∷ l) w = (w.0, rows_fit l w.1)

form_fits : (d : Step-F Step) → FitsRule (roll-Step d) → Fits d
unfolding FitsRule step_constructors roll-Step roll
form_fits d w = record {
  kinds = w.0;
  none = λ e. rows_none d.inner (subst (λ b. HasInner b (hidden-the_row-Step-0 d.inner)) e w.1);
  inner = rows_fit d.inner w.2;
}

pub fits_of : (s : Step) → FitsRule s → Fits (out-Step s)
fits_of s w = form_fits (out-Step s) (subst FitsRule (sym (roll-out-Step s)) w)

rows_inner : (b : Bool) (l : List Step) → (b ≡ false → l ≡ []) → HasInner b (hidden-the_row-Step-0 l)
unfolding IsWritable step_constructors
rows_inner true l h = tt
rows_inner false [] h = tt
rows_inner false (s ∷ l) h = let e = h refl in cc

rows_written : (l : List Step) → Each IsWritable l → AreWritable (hidden-the_row-Step-0 l)
unfolding IsWritable step_constructors
rows_written [] w = tt
rows_written (s ∷ l) w = (w.0, rows_written l w.1)

form_writable : (d : Step-F Step) → HasLine d.path d.rule d.args → (has_inner d.rule ≡ false → d.inner ≡ []) → Each IsWritable d.inner → IsWritable (roll-Step d)
unfolding IsWritable step_constructors roll-Step roll
form_writable d l n w = (l, rows_inner (has_inner d.rule) d.inner n, rows_written d.inner w)

pub writable : (s : Step) → HasLine (out-Step s).path (out-Step s).rule (out-Step s).args → (has_inner (out-Step s).rule ≡ false → (out-Step s).inner ≡ []) → Each IsWritable (out-Step s).inner → IsWritable s
writable s l n w = subst IsWritable (roll-out-Step s) (form_writable (out-Step s) l n w)

-- the other way round
rows_fitting : (l : List Step) → Each FitsRule l → FitRules (hidden-the_row-Step-0 l)
unfolding FitsRule step_constructors
rows_fitting [] w = tt
rows_fitting (s ∷ l) w = (w.0, rows_fitting l w.1)

pub fits_form : (d : Step-F Step) → Fits d → FitsRule (roll-Step d)
unfolding FitsRule step_constructors roll-Step roll
fits_form d h = (h.kinds, rows_inner (has_inner d.rule) d.inner h.none, rows_fitting d.inner h.inner)

pub fits : (s : Step) → Fits (out-Step s) → FitsRule s
fits s h = subst FitsRule (roll-out-Step s) (fits_form (out-Step s) h)

pub each-more : {A : Type 0} (P : A → Type 0) (xs : List A) (x : A) → Each P xs → P x → Each P (xs ++ x ∷ [])
each-more P [] x h p = (p, tt)
each-more P (y ∷ ys) x h p = (h.0, each-more P ys x h.1 p)

-- what is read of a line fits
pub fits_said : (inner : Bool) (s : Step) → SaysStep inner (out-Step s) → FitsRule s
fits_said inner s h = fits s (record { kinds = h.parts.kinds; none = λ e. h.none; inner = subst (Each FitsRule) (sym h.none) tt })
