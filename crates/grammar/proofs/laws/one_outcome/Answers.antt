use Rattle.grammar.proofs.readers.Predictions.{read_once, refused_once, passed_once, read_or_refused, read_or_passed, refused_or_passed}
use Rattle.grammar.proofs.laws.one_outcome.Goals as goal

pub returns-clause-read_once : goal.returns-clause-read_once
returns-clause-read_once g c n levels ts rest other v w = read_once g.G.Predictive.grammar n levels ts v w rest other

pub returns-clause-refused_once : goal.returns-clause-refused_once
returns-clause-refused_once g c n levels ts rest other = refused_once g.G.Predictive.grammar n levels ts rest other

pub returns-clause-passed_once : goal.returns-clause-passed_once
returns-clause-passed_once g c n levels ts rest other = passed_once g.G.Predictive.grammar n levels ts rest other

pub returns-clause-read_or_refused : goal.returns-clause-read_or_refused
returns-clause-read_or_refused g c n levels ts rest other v = read_or_refused g.G.Predictive.grammar n levels ts v rest other

pub returns-clause-read_or_passed : goal.returns-clause-read_or_passed
returns-clause-read_or_passed g c n levels ts rest other v = read_or_passed g.G.Predictive.grammar n levels ts v rest other

pub returns-clause-refused_or_passed : goal.returns-clause-refused_or_passed
returns-clause-refused_or_passed g c n levels ts rest other = refused_or_passed g.G.Predictive.grammar n levels ts rest other
