use Rattle.std.proofs.Common.{ap}
use Rattle.iscsi_stream.specs.Canonical.{canon}
use Rattle.iscsi_compare.proofs.WholeStreamsLaw.{agree_means, means_agree, same_forms}
use Rattle.iscsi_compare.proofs.laws.same_meaning.Goals as goal

pub returns-clause-meanings : goal.returns-clause-meanings
returns-clause-meanings c first second ms ns end other_end p q = (agree_means first second ms ns p q, means_agree first second ms ns end other_end p q)

pub returns-clause-forms : goal.returns-clause-forms
returns-clause-forms c first second ms ns bytes other_bytes end other_end p q = (
  λ agree. ap canon (agree_means first second ms ns p q agree),
  λ e. means_agree first second ms ns end other_end p q
      (same_forms first.read second.read ms ns bytes other_bytes p q e),
)
