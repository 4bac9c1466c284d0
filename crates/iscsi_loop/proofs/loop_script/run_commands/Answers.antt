use Rattle.std.proofs.Common.{◌≡◌, [], ◌∷◌, ◌++◌, List, length, map, refl, sym, ap, subst, ◌∙◌, arith}
use Rattle.std.proofs.lemmas.Result.{err_from_is_err_and}
use Rattle.std.specs.Vec.Iter.{into_iter_items}
use Rattle.iscsi_loop.specs.declared.command.Command.{Command}
use Rattle.iscsi_loop.specs.Commands.{is_logout, command_request}
use Rattle.iscsi_loop.specs.Looping.{up_to_logout}
use Rattle.iscsi_loop.specs.inner.Script.{AreCommandsInRange}
use Rattle.iscsi_loop.proofs.BlameLemmas.{open_front}
use Rattle.iscsi_loop.proofs.HistoryLemmas.{DoneSoFar, done_none, done_more, done_all, done_stops, goes_on, ends_at, left_at, left_by}
use Rattle.scsi_disk.specs.Sparse.{extents_disk}
use Rattle.iscsi_loop.specs.inner.LoopPairs.{ends_of}
use Rattle.iscsi_loop.proofs.OnDiskLaw.{OnDiskSoFar, on_none, on_more, on_stops, on_all}
use Rattle.iscsi_loop.proofs.loop_script.run_commands.Goals as goal

nothing_left : (commands : List Command) → length commands ≡ 0 → up_to_logout commands ≡ []
nothing_left [] none = refl
nothing_left (command ∷ commands) none = absurd (omega arith)

pub loop-command-init : goal.loop-command-init
loop-command-init g c =
    let gives = c.into_iter-command-iterator.ensures.into_iter_gives in (
      subst (λ (cs : List Command). DoneSoFar c.args.commands.items cs c.args.ends.now.initiator.machine (g.W.Write.contents c.args.w.now)
          (g.W.Write.contents c.args.w.now)) (sym gives.0)
          (done_none c.args.commands.items c.args.ends.now.initiator.machine (g.W.Write.contents c.args.w.now) c.requires.begins),
      omega (arith, gives.1, ap length gives.0, c.args.commands.ok.0),
      λ faithful blocks one. subst
          (λ (cs : List Command). OnDiskSoFar blocks c.args.commands.items cs (ends_of c.args.ends.now.initiator c.args.ends.now.target
          (extents_disk c.args.ends.now.store) [] [])
          (g.W.Write.contents c.args.w.now) (g.W.Write.contents c.args.w.now)) (sym gives.0)
          (on_none blocks c.args.commands.items (ends_of c.args.ends.now.initiator c.args.ends.now.target (extents_disk c.args.ends.now.store) [] [])
          (g.W.Write.contents c.args.w.now) one),
      λ ranges. subst AreCommandsInRange (sym gives.0) ranges,
    )

pub returns-in_err-run_command-clause-err : goal.returns-in_err-run_command-clause-err
returns-in_err-run_command-clause-err g c =
    let p = err_from_is_err_and c.from_residual.result c.from_residual.ensures.1 in
    let at = c.loop-command in
    rw (p.1, p.2) (done_stops _ c.args.commands.items (into_iter_items at.command-iterator)
    (into_iter_items c.next.new.self) c.in-Some.command at.ends.initiator.machine c.run_command.new.ends.initiator.machine (g.W.Write.contents c.args.w.now)
    (g.W.Write.contents at.w) (g.W.Write.contents c.run_command.new.w) at.invariant.0 c.in-Some.ensures.steps.0 c.in_err-run_command.ensures.err)

pub returns-in_err-run_command-clause-served : goal.returns-in_err-run_command-clause-served
returns-in_err-run_command-clause-served g c = λ faithful blocks one.
    let p = err_from_is_err_and c.from_residual.result c.from_residual.ensures.1 in
    let at = c.loop-command in
    let after = c.run_command.new.ends in
    rw p.1 (on_stops p.0 blocks c.args.commands.items (into_iter_items at.command-iterator) (into_iter_items c.next.new.self) c.in-Some.command
    (ends_of at.ends.initiator at.ends.target (extents_disk at.ends.store) [] []) (ends_of after.initiator after.target (extents_disk after.store) [] [])
    (g.W.Write.contents c.args.w.now) (g.W.Write.contents at.w) (g.W.Write.contents c.run_command.new.w)
    (at.invariant.2 faithful blocks one) c.in-Some.ensures.steps.0
    (λ past before. c.in_err-run_command.ensures.served faithful blocks past before))

pub returns-then-is_logout-clause-served : goal.returns-then-is_logout-clause-served
returns-then-is_logout-clause-served g c = λ faithful blocks one.
    let at = c.loop-command in
    let x = c.in-Some.command in
    let more = into_iter_items c.next.new.self in
    let after = c.run_command.new.ends in
    let here = ends_of after.initiator after.target (extents_disk after.store) [] [] in
    on_all blocks c.args.commands.items [] here (g.W.Write.contents c.args.w.now) (g.W.Write.contents c.run_command.new.w)
    (on_more blocks c.args.commands.items (into_iter_items at.command-iterator) more x
    (ends_of at.ends.initiator at.ends.target (extents_disk at.ends.store) [] [])
    here
    (g.W.Write.contents c.args.w.now) (g.W.Write.contents at.w) (g.W.Write.contents c.run_command.new.w)
    (at.invariant.2 faithful blocks one) c.in-Some.ensures.steps.0
    (λ past before. c.in_ok-run_command.ensures.served faithful blocks past before) []
    (ends_at x more (sym c.is_logout-is_logout.ensures ∙ c.if-is_logout.true))) refl

pub returns-then-is_logout-clause-runs : goal.returns-then-is_logout-clause-runs
returns-then-is_logout-clause-runs g c =
    let at = c.loop-command in
    let x = c.in-Some.command in
    let more = into_iter_items c.next.new.self in
    let ok = c.in_ok-run_command.ensures.ok in
    done_all c.args.commands.items [] c.run_command.new.ends.initiator.machine (g.W.Write.contents c.args.w.now) (g.W.Write.contents c.run_command.new.w)
    (done_more c.args.commands.items (into_iter_items at.command-iterator) more x at.ends.initiator.machine c.run_command.new.ends.initiator.machine ok.0
    (g.W.Write.contents c.args.w.now) (g.W.Write.contents at.w) (g.W.Write.contents c.run_command.new.w) at.invariant.0
    c.in-Some.ensures.steps.0 ok.1 ok.2 [] (ends_at x more (sym c.is_logout-is_logout.ensures ∙ c.if-is_logout.true))) refl

pub loop-command-preserved : goal.loop-command-preserved
loop-command-preserved g c =
    let at = c.loop-command in
    let x = c.in-Some.command in
    let more = into_iter_items c.next.new.self in
    let steps : into_iter_items at.command-iterator ≡ x ∷ more = c.in-Some.ensures.steps.0 in
    let ok = c.in_ok-run_command.ensures.ok in (
      done_more c.args.commands.items (into_iter_items at.command-iterator) more x at.ends.initiator.machine c.run_command.new.ends.initiator.machine ok.0
          (g.W.Write.contents c.args.w.now) (g.W.Write.contents at.w) (g.W.Write.contents c.run_command.new.w) at.invariant.0
          steps ok.1 ok.2 more (goes_on x more (sym c.is_logout-is_logout.ensures ∙ c.if-is_logout.false)),
      let was = at.invariant.1 in
          let gone = c.in-Some.ensures.steps.1 in
          let short = ap length steps in
          omega arith,
      λ faithful blocks one.
          let after = c.run_command.new.ends in
          on_more blocks c.args.commands.items (into_iter_items at.command-iterator) more x
          (ends_of at.ends.initiator at.ends.target (extents_disk at.ends.store) [] [])
          (ends_of after.initiator after.target (extents_disk after.store) [] []) (g.W.Write.contents c.args.w.now) (g.W.Write.contents at.w)
          (g.W.Write.contents c.run_command.new.w)
          (at.invariant.2 faithful blocks one) steps (λ past before. c.in_ok-run_command.ensures.served faithful blocks past before) more
          (goes_on x more (sym c.is_logout-is_logout.ensures ∙ c.if-is_logout.false)),
      λ ranges. (subst AreCommandsInRange steps (at.invariant.3 ranges)).1,
    )

pub returns-clause-runs : goal.returns-clause-runs
returns-clause-runs g c =
    let at = c.loop-command in
    let none = c.in-None.ensures.steps in
    done_all c.args.commands.items (into_iter_items at.command-iterator) at.ends.initiator.machine (g.W.Write.contents c.args.w.now)
    (g.W.Write.contents at.w) at.invariant.0 (nothing_left (into_iter_items at.command-iterator) (sym at.invariant.1 ∙ none.0))

pub returns-clause-served : goal.returns-clause-served
returns-clause-served g c = λ faithful blocks one.
    let at = c.loop-command in
    let none = c.in-None.ensures.steps in
    on_all blocks c.args.commands.items (into_iter_items at.command-iterator) (ends_of at.ends.initiator at.ends.target (extents_disk at.ends.store) [] [])
    (g.W.Write.contents c.args.w.now) (g.W.Write.contents at.w) (at.invariant.2 faithful blocks one)
    (nothing_left (into_iter_items at.command-iterator) (sym at.invariant.1 ∙ none.0))

pub returns-in_err-run_command-clause-blameless : goal.returns-in_err-run_command-clause-blameless
returns-in_err-run_command-clause-blameless g c = λ faithful blocks one ranges.
    let p = err_from_is_err_and c.from_residual.result c.from_residual.ensures.1 in
    let at = c.loop-command in
    let x = c.in-Some.command in
    let more = into_iter_items c.next.new.self in
    let steps : into_iter_items at.command-iterator ≡ x ∷ more = c.in-Some.ensures.steps.0 in
    let d = at.invariant.2 faithful blocks one in
    let left : List Command = up_to_logout (left_by (is_logout x) more) in
    let runs : up_to_logout c.args.commands.items ≡ d.front ++ x ∷ left =
    d.runs ∙ ap (λ (cs : List Command). d.front ++ up_to_logout cs) steps
    ∙ ap (λ (cs : List Command). d.front ++ cs) (left_at (is_logout x) x more refl) in
    rw (p.1, p.2) (c.in_err-run_command.ensures.blameless faithful blocks (map command_request d.front)
    (d.one, open_front c.args.commands.items d.front left x runs) (subst AreCommandsInRange steps (at.invariant.3 ranges)).0)

pub returns-then-is_logout-clause-stands : goal.returns-then-is_logout-clause-stands
returns-then-is_logout-clause-stands g c = λ faithful blocks one.
    let at = c.loop-command in
    let x = c.in-Some.command in
    let more = into_iter_items c.next.new.self in
    let after = c.run_command.new.ends in
    let next = on_more blocks c.args.commands.items (into_iter_items at.command-iterator) more x
    (ends_of at.ends.initiator at.ends.target (extents_disk at.ends.store) [] [])
    (ends_of after.initiator after.target (extents_disk after.store) [] [])
    (g.W.Write.contents c.args.w.now) (g.W.Write.contents at.w) (g.W.Write.contents c.run_command.new.w)
    (at.invariant.2 faithful blocks one) c.in-Some.ensures.steps.0
    (λ past before. c.in_ok-run_command.ensures.served faithful blocks past before) []
    (ends_at x more (sym c.is_logout-is_logout.ensures ∙ c.if-is_logout.true)) in
    (map command_request next.front, next.one)

pub returns-clause-stands : goal.returns-clause-stands
returns-clause-stands g c = λ faithful blocks one.
    let d = c.loop-command.invariant.2 faithful blocks one in
    (map command_request d.front, d.one)
