use Rattle.std.proofs.Common.{[], ◌∷◌, ◌++◌, sym, subst}
use Rattle.iscsi_stream.specs.Framing.{Framing, message_of}
use Rattle.iscsi_compare.specs.inner.Inside.{PdusGivenUp, pending}
use Rattle.iscsi_compare.proofs.SideLemmas.{read_given, taken_fuel}
use Rattle.iscsi_compare.proofs.side.Side.take.Goals as goal

pub returns-clause-taken : goal.returns-clause-taken
returns-clause-taken c read ms head segment r ready means =
    let s = c.args.self.now in
    subst (λ (v : Framing). PdusGivenUp read (ms ++ message_of s.framer head segment ∷ []) v (pending s) s.reads)
    (sym (c.take.ensures.taken head segment ready means)) (read_given read ms s.framer (pending s) s.reads head segment r means)

pub returns-clause-fuel : goal.returns-clause-fuel
returns-clause-fuel c head segment ready means = taken_fuel c.args.self.now c.take.new.self head segment means (c.take.ensures.taken head segment ready means)
