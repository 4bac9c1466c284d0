use Rattle.std.proofs.Common.{arith, take, rules, ◌≡◌, false}
use Rattle.hex.specs.Hex.{IsBytes}
use Rattle.iscsi_tool.proofs.SpellingLemmas.{marked_grows, bytes_front}
use Rattle.iscsi_tool.proofs.hex_writer.HexWriterWrite.write.Goals as goal

pub returns-clause-bytes : goal.returns-clause-bytes
returns-clause-bytes g c =
    let fits : IsBytes c.args.buf.now = λ i. let f = c.type_inv.buf i in omega arith in
    let whole : c.args.self.now.is_cut ≡ false = search rules in
    rw whole (marked_grows _ _ (take c.in_ok-written.written c.args.buf.now) (bytes_front _ _ fits) c.in_ok-written.ensures.ok)
