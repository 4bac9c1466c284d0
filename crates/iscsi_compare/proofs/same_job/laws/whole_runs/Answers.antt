use Rattle.iscsi_compare.proofs.WholeStreamsLaw.{rest_of}
use Rattle.iscsi_compare.proofs.WholeRunsLaw.{same_whole_runs, other_whole_runs, no_run_refused}
use Rattle.iscsi_compare.proofs.same_job.laws.whole_runs.Goals as goal

pub returns-clause-same : goal.returns-clause-same
returns-clause-same c s t ms ns left other_left first second gave other_gave p q agree =
    same_whole_runs s t ms ns first second (rest_of s left first gave) (rest_of t other_left second other_gave) p q agree

pub returns-clause-differ : goal.returns-clause-differ
returns-clause-differ c s t ms ns left other_left first second place other_place gave other_gave p q part =
    other_whole_runs s t ms ns first second place other_place (rest_of s left first gave) (rest_of t other_left second other_gave) p q part

pub returns-clause-no_fault : goal.returns-clause-no_fault
returns-clause-no_fault c s t ms ns left other_left first second which f gave other_gave p q fails =
    no_run_refused which f s t ms ns first second (rest_of s left first gave) (rest_of t other_left second other_gave) p q fails
