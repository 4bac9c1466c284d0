use Rattle.std.proofs.Common.{ap, ◌∙◌, arith}
use Rattle.iscsi_login.specs.declared.preferences.Preferences.{Preferences}
use Rattle.iscsi_stream.specs.Framing.{Framing, is_ready}
use Rattle.iscsi_stream.proofs.ReadyLemmas.{not_whole-nil}
use Rattle.iscsi_target_session.specs.Session.{target_limit}
use Rattle.iscsi_target.specs.State.{Machine}
use Rattle.iscsi_target.specs.Feed.{TargetConnection}
use Rattle.iscsi_target.proofs.target.Target.new.Goals as goal

pub invariant_of-result : goal.invariant_of-result
invariant_of-result c =
    let a = ap (λ (v : Framing). v.limit) c.new.ensures in
    let e = ap (λ (s : Machine). target_limit s.session.settings) c.new-machine.ensures in
    let p = ap (λ (x : Preferences). x.max_recv) c.preferences.ensures.preferences in
    let v = ap (λ (x : TargetConnection). x.framing.limit) c.new-2.ensures in
    let s = ap (λ (x : TargetConnection). target_limit x.machine.session.settings) c.new-2.ensures in (
      omega (arith, v, s, a, c.max-limit.ensures, e, p),
      ap (λ (x : TargetConnection). is_ready x.framing) c.new-2.ensures ∙ ap is_ready c.new.ensures ∙ not_whole-nil,
    )
