use Rattle.shape_entails.proofs.Turned.{turned-all, turned-once, turned-still}
use Rattle.shape_entails.proofs.laws.turns_go_on.Goals as goal

pub returns-clause-still : goal.returns-clause-still
returns-clause-still c = turned-still

pub returns-clause-turned : goal.returns-clause-turned
returns-clause-turned c = turned-once

pub returns-clause-all : goal.returns-clause-all
returns-clause-all c = turned-all
