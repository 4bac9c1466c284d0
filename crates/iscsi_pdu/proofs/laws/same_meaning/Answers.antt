use Rattle.std.proofs.Common.{refl}
use Rattle.iscsi_pdu.specs.Meaning.{whole}
use Rattle.iscsi_pdu.proofs.HeaderLemmas.{again-means, whole-same}
use Rattle.iscsi_pdu.proofs.laws.same_meaning.Goals as goal

pub returns : goal.returns
returns c a b g h x y left right m n = (
  λ e. rw (e.0, e.1) refl,
  λ e. whole-same (whole g x) (whole h y) g h x y (again-means a g x left m)
      (again-means b h y right n) e,
)
