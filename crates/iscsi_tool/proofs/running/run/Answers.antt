use Rattle.std.proofs.Common.{[], Err, refl}
use Rattle.std.proofs.KnownBytes.{Consumes-nil}
use Rattle.iscsi_tool.proofs.running.run.Goals as goal

pub returns-in-Err : goal.returns-in-Err
returns-in-Err g c =
    let told = c.unasked.ensures.tells in
    record {
      runs = (
        [],
        told.0,
        Consumes-nil (g.R.Read.remaining c.args.r.now),
        told.1,
        (Err c.in-Err.fault, c.in-Err.ensures.unasked, tt, (told.2, refl)),
      );
    }
