use Rattle.iscsi_tool.proofs.running.run_read.Goals as goal

pub returns-in-Ok-clause-runs : goal.returns-in-Ok-clause-runs
returns-in-Ok-clause-runs g c = rw c.in-Ok.is (let runs = c.run_words.ensures.runs in rw c.as_slice.ensures.value at runs)
