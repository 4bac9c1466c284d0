use Rattle.std.proofs.Common.{sym, ◌∙◌}
use Rattle.iscsi_stream.specs.Segment.{no_login}
use Rattle.iscsi_stream.proofs.OneMeaningLaw.{same_split}
use Rattle.iscsi_stream.proofs.laws.one_split.Goals as goal

pub returns : goal.returns
returns c limit stream ms ns a b x y p q = same_split limit no_login a ms b x ns y p.reaches.reads p.no_more q.reaches.reads q.no_more (sym p.reaches.whole ∙
    q.reaches.whole)
