use Rattle.std.proofs.Common.{◌++◌, take, inl, refl}
use Rattle.std.proofs.KnownBytes.{Consumes-trans}
use Rattle.std.proofs.lemmas.Result.{err_from_is_err_and}
use Rattle.iscsi_stream.proofs.io.read_within.Goals as goal

pub returns-in_err-extend_from_slice-clause-err : goal.returns-in_err-extend_from_slice-clause-err
returns-in_err-extend_from_slice-clause-err g c =
    let p = err_from_is_err_and c.from_residual-in_err-extend_from_slice.result c.from_residual-in_err-extend_from_slice.ensures.1 in
    let piece = take c.in-Some.n c.next.new.buffer in
    let read = rw c.in-Some.is at c.in_ok-n.ensures.piece in
    rw (p.1, p.2) (inl refl, (c.loop-bytes.bytes.items ++ piece, Consumes-trans _ _ _ c.loop-bytes.bytes.items piece c.loop-bytes.invariant.0 read.2))
