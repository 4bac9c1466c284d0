-- A store that refuses writes keeps its blocks, whatever comes.
use Rattle.std.proofs.Common.{◌≡◌, ◌∙◌, inl, inr, true, List, [], ◌∷◌, ap}
use Rattle.scsi_disk.specs.Disk.{Disk}
use Rattle.scsi_disk.specs.Effect.{Effect}
use Rattle.scsi_disk.specs.Plan.{plan_of}
use Rattle.scsi_disk.proofs.ProtectedLemmas.{works_keep, fails_keep}
use Rattle.iscsi_stream.specs.Pieces.{piece_data}
use Rattle.iscsi_target.specs.State.{Execution}
use Rattle.iscsi_target.specs.Laws.{ExecutionsLead, MayLeave}

left_keeps : (e : Execution) (after : Effect) → MayLeave true e after → after.disk ≡ e.disk
left_keeps e after (inl is) = ap (λ (x : Effect). x.disk) is ∙ works_keep (plan_of e.order e.disk.count) e.disk e.order (piece_data e.pieces)
left_keeps e after (inr f) = fails_keep (plan_of e.order e.disk.count) e.disk e.order (piece_data e.pieces) after f

pub leads_keep : (disk last : Disk) (es : List Execution) → ExecutionsLead true disk es last → last ≡ disk
unfolding ExecutionsLead
leads_keep disk last [] l = l
leads_keep disk last (e ∷ es) l = leads_keep l.0.disk last es l.3 ∙ left_keeps e l.0 l.2 ∙ l.1
