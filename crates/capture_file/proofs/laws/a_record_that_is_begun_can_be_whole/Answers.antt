use Rattle.capture_file.proofs.Broken.{can_be_whole}
use Rattle.capture_file.proofs.laws.a_record_that_is_begun_can_be_whole.Goals as goal

pub returns : goal.returns
returns c = can_be_whole
