use Rattle.iscsi_event_loop_tests.proofs.uses.serve.Goals as goal

pub returns : goal.returns
returns g c =
    let s = c.serve_at_once.ensures.served in
    record { blocks = (s, λ same. c.one_disk_of_all.ensures.follows _ _ _ _ _ s same) }
