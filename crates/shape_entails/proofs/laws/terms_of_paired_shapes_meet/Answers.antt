use Rattle.shape_entails.proofs.Meeting.{begin, end, go-still, go-turned}
use Rattle.shape_entails.proofs.laws.terms_of_paired_shapes_meet.Goals as goal

pub returns-clause-begin : goal.returns-clause-begin
returns-clause-begin c = begin

pub returns-clause-still : goal.returns-clause-still
returns-clause-still c = go-still

pub returns-clause-turned : goal.returns-clause-turned
returns-clause-turned c = go-turned

pub returns-clause-end : goal.returns-clause-end
returns-clause-end c = end
