use Rattle.capture_file.proofs.Broken.{asks}
use Rattle.capture_file.proofs.laws.a_step_asks_for_no_more_than_a_record.Goals as goal

pub returns : goal.returns
returns c = asks
