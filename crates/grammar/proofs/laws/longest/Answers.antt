use Rattle.grammar.proofs.readers.Longest.{took_longest, failed_longest}
use Rattle.grammar.proofs.laws.longest.Goals as goal

pub returns-clause-read : goal.returns-clause-read
returns-clause-read g c = took_longest g.G.Grammar.kind g.G.Grammar.rules

pub returns-clause-refused : goal.returns-clause-refused
returns-clause-refused g c = failed_longest g.G.Grammar.kind g.G.Grammar.rules
