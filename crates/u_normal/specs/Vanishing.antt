-- Terms of which sums and products with 0 leave nothing. Contracts of private functions alone cite this.
use Rattle.u_terms.specs.Syntax.{U, Zero, Add, Mul, Sum}

-- 0; a sum whose parts both vanish; a product of which one part does; a sum over all values whose body does
pub data Vanishes : U → Type 0 where
  zero_vanishes : Vanishes Zero
  sum_vanishes : {a b : U} → Vanishes a → Vanishes b → Vanishes (Add a b)
  left_vanishes : {a b : U} → Vanishes a → Vanishes (Mul a b)
  right_vanishes : {a b : U} → Vanishes b → Vanishes (Mul a b)
  body_vanishes : {body : U} → Vanishes body → Vanishes (Sum body)
