use Rattle.std.proofs.Common.{length, arith}
use Rattle.iscsi_text.specs.Canonical.{canonical_text}
use Rattle.iscsi_pdu.specs.Meaning.{header, padding}
use Rattle.iscsi_stream.proofs.PaddingLemmas.{appended}
use Rattle.iscsi_stream.proofs.canonical_form.append_text.Goals as goal

pub returns-clause-ok : goal.returns-clause-ok
returns-clause-ok c =
    let bytes = canonical_text c.args.text.now in
    appended c.args.out.now.items c.extend_from_slice.new.self.items c.write.new.out.items c.extend_from_slice-2.new.self.items
    (header c.args.head.now (length bytes)) bytes c.write_head.result c.pad-padding.result (padding (length bytes))
    (rw c.in_ok-reserve.ensures.items at c.in_ok-extend_from_slice.ensures.items) c.in_ok-write.ensures.ok c.in_ok-extend_from_slice-2.ensures.items
    (rw c.canonical_len-len.ensures.len at c.write_head.ensures.canonical) (rw c.canonical_len-len.ensures.len at c.pad-padding.ensures)
    (omega (arith, c.pad-padding.ensures))
