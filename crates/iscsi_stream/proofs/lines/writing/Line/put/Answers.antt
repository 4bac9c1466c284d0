use Rattle.iscsi_stream.proofs.LineLemmas.{kept}
use Rattle.iscsi_stream.proofs.lines.writing.Line.put.Goals as goal

pub invariant_of-self : goal.invariant_of-self
invariant_of-self c = record {
  one = kept (λ v. v.items) c.try_extend_from_slice.result c.args.self.now.text c.try_extend_from_slice.new.self c.args.bytes.now
      c.try_extend_from_slice.ensures.ok c.try_extend_from_slice.ensures.err c.args.self.now.one c.requires;
}
