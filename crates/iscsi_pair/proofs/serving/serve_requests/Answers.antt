use Rattle.std.proofs.Common.{◌∙◌, List, ap, subst}
use Rattle.scsi_disk.specs.Disk.{disk_of}
use Rattle.iscsi_initiator.specs.declared.request.Done.{Done}
use Rattle.iscsi_pair.specs.World.{World, Opening, new_pair}
use Rattle.iscsi_pair.specs.Outcomes.{GivesOutcomes, opening_of}
use Rattle.iscsi_pair.specs.Served.{IsNormal}
use Rattle.iscsi_pair.proofs.Lists.ServingLemmas.{AreServed, HasServed, served_on_disk}
use Rattle.iscsi_pair.proofs.serving.serve_requests.Goals as goal

pub returns-in-Err-clause-served : goal.returns-in-Err-clause-served
returns-in-Err-clause-served c = λ suits normal can.
    (let o : Opening = opening_of c.args.configs.0 c.args.configs.1 c.args.first_statsn c.args.store in
    let n : IsNormal o = record { opening = c.in-Ok.ensures.in_range; suits = suits; session = normal } in
    c.in-Err.ensures.served o c.in-Ok.ensures.opening n can)

pub returns-in-Ok-served : goal.returns-in-Ok-served
returns-in-Ok-served c =
    let o : Opening = opening_of c.args.configs.0 c.args.configs.1 c.args.first_statsn c.args.store in
    let last : World = c.serve_all-served.new.pair in
    let outcomes : List Done = c.in-Ok-served.outcomes.items in
    let given = c.in-Ok-served.ensures.gives in
    let gives : GivesOutcomes (new_pair o) given.0 last outcomes =
    subst (λ (w : World). GivesOutcomes w given.0 last outcomes) c.in-Ok.ensures.opening given.2 in
    let idle = c.in-Ok-served.ensures.idle in
    let h : HasServed (new_pair o) c.args.requests.items last outcomes =
    record { events = given.0; gives = gives; requests = given.1; idle = idle; none_left = c.in-Ok-served.ensures.none_left } in
    record {
      on_disk = λ suits normal served.
          (let a : AreServed o c.args.requests.items last outcomes =
          served_on_disk o c.args.requests.items last outcomes c.in-Ok.ensures.in_range h suits normal served in
          (a.outcomes_are, ap disk_of c.into_store-store.ensures.store ∙ a.disk_is));
      ran = (given.0, given.1, record { world = last; gives = gives; idle = idle; blocks_are = c.into_store-store.ensures.store });
      served = λ suits normal can. tt;
    }
