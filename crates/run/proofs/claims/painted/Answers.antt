-- Both chips say what they paint.
use Rattle.tlc34058.proofs.Painted as tlc34058
use Rattle.hd153129.proofs.Painted as hd153129
use Rattle.run.proofs.claims.painted.Goals as goal

pub returns-clause-tlc34058 : goal.returns-clause-tlc34058
returns-clause-tlc34058 c = tlc34058.says-painted

pub returns-clause-hd153129 : goal.returns-clause-hd153129
returns-clause-hd153129 c = hd153129.says-painted
