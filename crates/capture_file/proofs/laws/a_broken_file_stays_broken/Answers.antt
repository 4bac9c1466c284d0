use Rattle.capture_file.proofs.Broken.{excludes, stays}
use Rattle.capture_file.proofs.laws.a_broken_file_stays_broken.Goals as goal

pub returns : goal.returns
returns c = record { stays = stays; excludes = excludes }
