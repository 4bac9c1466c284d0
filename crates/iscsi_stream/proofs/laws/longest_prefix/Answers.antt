use Rattle.std.proofs.Common.{sym, ◌∙◌}
use Rattle.iscsi_stream.specs.Segment.{no_login}
use Rattle.iscsi_stream.proofs.OneMeaningLaw.{longest}
use Rattle.iscsi_stream.proofs.laws.longest_prefix.Goals as goal

pub returns : goal.returns
returns c limit stream given rest p q ms ns s e r = longest limit no_login given ms rest p ns q s.reaches.reads s.no_more r (sym s.reaches.whole ∙ e)
