use Rattle.iscsi_pair.proofs.Lists.ListsAreServedLaw.{serves_all, serves_to_end}
use Rattle.iscsi_pair.proofs.laws.lists_are_served.Goals as goal

pub returns : goal.returns
returns c = record { served = λ o all n a. serves_all o all n a; ended = λ o past n a. serves_to_end o past n a }
