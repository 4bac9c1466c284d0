use Rattle.std.proofs.Common.{length, arith, refl}
use Rattle.iscsi_pdu.specs.Meaning.{header, padding}
use Rattle.iscsi_stream.proofs.PaddingLemmas.{appended}
use Rattle.iscsi_stream.proofs.canonical_form.append_bytes.Goals as goal

pub returns-clause-ok : goal.returns-clause-ok
returns-clause-ok c =
    let bytes = c.args.bytes.now in
    appended c.args.out.now.items c.append_head.new.out.items c.extend_from_slice.new.self.items c.extend_from_slice-2.new.self.items
    (header c.args.head.now (length bytes)) bytes (header c.args.head.now (length bytes)) c.pad-padding.result (padding (length bytes))
    (rw c.in_ok-reserve.ensures.items at c.in_ok-append_head.ensures.ok) c.in_ok-extend_from_slice.ensures.items
    c.in_ok-extend_from_slice-2.ensures.items refl c.pad-padding.ensures (omega (arith, c.pad-padding.ensures))
