use Rattle.iscsi_text.specs.Value.{typed}
use Rattle.iscsi_text.proofs.ReadInvariant.{bad_key, reads_pair}
use Rattle.iscsi_text.proofs.text.read.read_entry.Goals as goal

pub returns-then-not-is_key-clause-fault : goal.returns-then-not-is_key-clause-fault
returns-then-not-is_key-clause-fault c =
    bad_key c.args.rest.now c.in-Some.entry.now c.in-Some.more.now c.in-Some-split_at_byte.key.now c.in-Some-split_at_byte.value.now c.args.at
    c.in-Some.ensures.found c.in-Some-split_at_byte.ensures.found
    (λ is_key. let yes = c.is_key.ensures.1 is_key in cc (yes, c.if-not-is_key.true))

pub returns-clause-found : goal.returns-clause-found
returns-clause-found c =
    reads_pair c.args.rest.now c.in-Some.entry.now c.in-Some.more.now c.in-Some-split_at_byte.key.now c.in-Some-split_at_byte.value.now
    (typed c.read-value.result) c.in-Some.ensures.found c.in-Some-split_at_byte.ensures.found
    (c.is_key.ensures.0 c.if-not-is_key.false) (rw c.key_kind.ensures.kind at c.read-value.ensures)
