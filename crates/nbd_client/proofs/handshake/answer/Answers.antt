use Rattle.std.proofs.Common.{◌≡◌, sym, ap, ◌∙◌, rules}
use Rattle.std.proofs.lemmas.List.{take_at}
use Rattle.nbd_wire.specs.Handshake.{info_at}
use Rattle.nbd_client.proofs.HeardLemmas.{hears_answer}
use Rattle.nbd_client.proofs.handshake.answer.Goals as goal

pub returns-in-1-clause-said : goal.returns-in-1-clause-said
returns-in-1-clause-said g c =
    hears_answer _ _ _ c.read_exact.new.buf c.read_exact-2.new.buf c.in-Ok.head _ c.in_ok-read_exact.ensures.bytes
    c.in_ok-read_exact-2.ensures.bytes (search rules) (search rules) (search rules) (search rules) (search rules)

pub returns-in-Ok-read_info-clause-said : goal.returns-in-Ok-read_info-clause-said
returns-in-Ok-read_info-clause-said g c =
    let same : c.deref.result.now ≡ c.read_exact-2.new.buf =
    c.deref.ensures.value ∙ take_at c.read_exact-2.new.buf _ c.resize.new.self.len (search rules) in
    hears_answer _ _ _ c.read_exact.new.buf c.read_exact-2.new.buf c.in-Ok.head _ c.in_ok-read_exact.ensures.bytes
    c.in_ok-read_exact-2.ensures.bytes (search rules) (search rules) (search rules) (search rules)
    (search rules, sym (ap info_at same) ∙ sym c.read_info.ensures ∙ c.in-Ok-read_info.is)
