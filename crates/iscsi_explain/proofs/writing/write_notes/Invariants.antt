use Rattle.iscsi_explain.proofs.Noting.{Noted}
use Rattle.iscsi_explain.proofs.writing.write_notes.Given as goal

abbrev pub invariant-loop-note : goal.invariant-loop-note
invariant-loop-note l = Noted l.initial.out.items l.out.items
