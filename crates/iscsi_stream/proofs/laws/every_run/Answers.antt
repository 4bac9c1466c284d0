use Rattle.std.proofs.Common.{ℕ, subst}
use Rattle.iscsi_stream.specs.Segment.{no_login}
use Rattle.iscsi_stream.specs.Stream.{SplitsStream}
use Rattle.iscsi_stream.specs.Framing.{IsBegun}
use Rattle.iscsi_stream.specs.Runs.{call_bytes, messages_of}
use Rattle.iscsi_stream.proofs.TakingLemmas.{splits_taken}
use Rattle.iscsi_stream.proofs.ReadyLemmas.{unready_of}
use Rattle.iscsi_stream.proofs.RunLaws.{from_opening, limit_kept}
use Rattle.iscsi_stream.proofs.laws.every_run.Goals as goal

pub returns : goal.returns
returns c limit calls v runs unready =
    let t = from_opening limit calls v runs in
    let same = limit_kept _ calls v runs in
    let splits = splits_taken (call_bytes calls) (messages_of no_login calls) v t (unready_of v.failed v.held t.live unready) in (
      t.given,
      t.rest,
      subst (λ (n : ℕ). SplitsStream n (call_bytes calls) (messages_of no_login calls) t.given t.rest) same splits,
      subst (λ (n : ℕ). IsBegun n t.rest) same t.begun,
      t.place,
    )
