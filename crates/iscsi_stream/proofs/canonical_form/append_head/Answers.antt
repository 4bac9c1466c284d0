use Rattle.std.proofs.Common.{◌∙◌, ap, length, replicate, refl, rules}
use Rattle.iscsi_pdu.specs.Meaning.{header}
use Rattle.iscsi_pdu.proofs.HeaderLemmas.{header-size}
use Rattle.iscsi_stream.proofs.PaddingLemmas.{over_last}
use Rattle.iscsi_stream.proofs.canonical_form.append_head.Goals as goal

pub returns-in-Some-clause-ok : goal.returns-in-Some-clause-ok
returns-in-Some-clause-ok c =
    over_last 48 c.extend_from_slice.new.self.len c.args.out.now.items (replicate 48 0) c.deref_mut.result.now c.extend_from_slice.new.self.items
    (header c.args.head.now c.args.len) c.put_head.new.out c.in_ok-extend_from_slice.ensures.items c.deref_mut.ensures.value refl
    (ap length c.put_head.ensures.canonical ∙ header-size c.args.head.now c.args.len c.put_head.ensures.room c.put_head.ensures.block c.requires.short)
    c.put_head.ensures.canonical (search rules)
