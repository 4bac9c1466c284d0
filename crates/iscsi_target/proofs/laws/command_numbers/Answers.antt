use Rattle.std.proofs.Common.{subst}
use Rattle.iscsi_pdu.specs.declared.head.Head.{Head}
use Rattle.iscsi_target.specs.Laws.{FitsNumber, login_cmd_sn}
use Rattle.iscsi_stream.specs.Segment.{no_login}
use Rattle.iscsi_stream.specs.Stream.{longest_segment}
use Rattle.iscsi_target.proofs.Steps.NumberLaws.{first_numbers}
use Rattle.iscsi_target.proofs.Answers.StreamNumberLemmas.{stream_numbers}
use Rattle.iscsi_target.proofs.laws.command_numbers.Goals as goal

pub returns : goal.returns
returns c = record {
  count_on = λ protected settings n disk first ms request k all.
      first_numbers protected settings n disk first ms request k (subst (λ (h : Head). FitsNumber (login_cmd_sn h)) k all.0.login) all.1;
  streams = λ stream ms bytes p. stream_numbers longest_segment no_login stream ms bytes p;
}
