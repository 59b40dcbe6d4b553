use Rattle.shape_entails.proofs.Apart.{left-gives, right-gives}
use Rattle.shape_entails.proofs.laws.each_entails_what_the_other_has_beside.Goals as goal

pub returns-clause-right : goal.returns-clause-right
returns-clause-right c = right-gives

pub returns-clause-left : goal.returns-clause-left
returns-clause-left c = left-gives
