use Rattle.std.proofs.Common.{rules, ap, subst}
use Rattle.iscsi_tool.specs.inner.Spelling.{LineEndWritten}
use Rattle.iscsi_tool.specs.declared.hex_writer.LentWriter.{LentWriter}
use Rattle.iscsi_tool.proofs.AnsweredLemmas.{spells}
use Rattle.iscsi_tool.proofs.SpellingLemmas.{through_lent}
use Rattle.std.specs.Io.KnownBytes.{Appends}
use Rattle.iscsi_tool.proofs.answering.answer_digits.Goals as goal

pub returns : goal.returns
returns g c =
    let held = g.W.Write.contents in
    let s = c.answer-outcome.ensures.answers in
    let f = c.finish.ensures.finishes in
    let after = c.answer-outcome.new.w in
    let begin = ap (λ (l : LentWriter g.row.W.Denot). held l.writer.now) c.new-digits.ensures.inner in
    let more = subst (λ (l : LentWriter g.row.W.Denot). Appends (held l.writer.now) (held c.finish.new.w) f.0) c.into_inner-writer.ensures f.1 in
    let cut = subst (λ b. LineEndWritten c.answer-outcome.result b c.finish.result f.0) c.is_cut-is_cut.ensures f.2 in
    record {
      spells = (
        _,
        through_lent held c.new-digits.result after _ _ (held c.finish.new.w) s.1 f.0 s.4 c.new-digits.ensures.whole begin s.3
            (λ h. search rules) more,
        spells c.args.blocks c.args.bytes.now s.0 c.answer-outcome.new.r.now s.1 f.0 c.answer-outcome.result c.finish.result
            after.is_cut (held after.inner.writer.now) s.2 s.5 c.answer-outcome.ensures.end c.answer-outcome.ensures.cut cut,
      );
    }
