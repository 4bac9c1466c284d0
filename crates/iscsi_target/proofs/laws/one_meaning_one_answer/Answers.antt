use Rattle.std.proofs.Common.{List, ℕ, ap, sym, subst}
use Rattle.iscsi_stream.specs.Segment.{no_login}
use Rattle.iscsi_stream.specs.Stream.{Message, longest_segment, ReadsAs}
use Rattle.iscsi_stream.specs.Canonical.{canon}
use Rattle.iscsi_stream.proofs.OneMeaningLaw.{canon_again, one_meaning}
use Rattle.iscsi_target.specs.State.{opening_machine}
use Rattle.iscsi_target.specs.Machine.{answers}
use Rattle.iscsi_target.proofs.laws.one_meaning_one_answer.Goals as goal

pub returns : goal.returns
returns c = record {
  streams = λ protected settings n disk s t ms ns s_bytes t_bytes p q e.
      let first : ReadsAs longest_segment no_login (canon ms) ms = canon_again longest_segment no_login s ms s_bytes p in
      let second : ReadsAs longest_segment no_login (canon ns) ns = canon_again longest_segment no_login t ns t_bytes q in
      ap (λ (xs : List Message). answers protected (opening_machine settings n) disk xs)
      (one_meaning longest_segment no_login (canon ms) ms ns first (subst (λ (x : List ℕ). ReadsAs longest_segment no_login x ns) (sym e) second));
  canonical = λ protected settings n disk stream ms ns bytes p q.
      ap (λ (xs : List Message). answers protected (opening_machine settings n) disk xs)
      (one_meaning longest_segment no_login (canon ms) ns ms q (canon_again longest_segment no_login stream ms bytes p));
}
