use Rattle.std.proofs.Common.{List, ℕ, sym, ap, subst}
use Rattle.iscsi_stream.specs.Segment.{no_login}
use Rattle.iscsi_stream.specs.Stream.{longest_segment, ReadsAs}
use Rattle.iscsi_stream.specs.Canonical.{canon}
use Rattle.iscsi_stream.proofs.OneMeaningLaw.{canon_again, one_meaning}
use Rattle.iscsi_stream.proofs.laws.same_meaning.Goals as goal

pub returns : goal.returns
returns c s t ms ns s_bytes t_bytes p q =
    let first = canon_again longest_segment no_login s ms s_bytes p in
    let second = canon_again longest_segment no_login t ns t_bytes q in (
      λ e. ap canon e,
      λ e. one_meaning longest_segment no_login (canon ms) ms ns first (subst (λ (x : List ℕ). ReadsAs longest_segment no_login x ns) (sym e) second),
    )
