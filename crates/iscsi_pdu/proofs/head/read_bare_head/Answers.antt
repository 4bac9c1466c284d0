use Rattle.std.proofs.Common.{rules}
use Rattle.std.specs.Prelude.{IfSome}
use Rattle.iscsi_pdu.specs.Meaning.{IsHeader}
use Rattle.iscsi_pdu.proofs.HeaderLemmas.{only_bare, fits_bare}
use Rattle.iscsi_pdu.proofs.head.read_bare_head.Goals as goal

pub returns-clause-only : goal.returns-clause-only
returns-clause-only c =
    let means : IfSome c.read.result (λ h. IsHeader c.args.bytes.now h 0) = search rules in
    only_bare c.args.bytes.now c.read.result _ c.read.ensures means

pub returns-clause-fits : goal.returns-clause-fits
returns-clause-fits c =
    let means : IfSome c.read.result (λ h. IsHeader c.args.bytes.now h 0) = search rules in
    fits_bare c.args.bytes.now c.read.result c.fits-bytes means
