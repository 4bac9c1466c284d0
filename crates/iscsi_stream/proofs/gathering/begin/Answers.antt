-- Searched for, since a wrong body breaks these goals: 01-begin.names_later_place.
use Rattle.std.proofs.Common.{rules}
use Rattle.iscsi_stream.proofs.gathering.begin.Goals as goal

pub returns-in-Err-clause-err : goal.returns-in-Err-clause-err
returns-in-Err-clause-err c = search rules
