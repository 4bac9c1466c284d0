use Rattle.std.proofs.Common.{◌+◌, length, ap, ◌∙◌, arith, rules}
use Rattle.std.specs.Prelude.{Some}
use Rattle.iscsi_stream.specs.Segment.{Text}
use Rattle.iscsi_target_session.specs.Session.{Session}
use Rattle.iscsi_target_session.specs.LoginText.{out_of_resources}
use Rattle.iscsi_target_session.specs.Login.{refuse, whole_text, segment_taken}
use Rattle.iscsi_target_session.proofs.LoginLemmas.{replied_as, text_too_long, text_taken, not_past}
use Rattle.iscsi_target_session.proofs.session.Session.take_text.Goals as goal

pub returns-then-is_past_limit : goal.returns-then-is_past_limit
returns-then-is_past_limit c = record {
  ok = let past = c.is_past_limit.ensures.0 c.if-is_past_limit.true in
      replied_as c.refuse.result (refuse c.args.self.now c.args.request.now out_of_resources)
      (segment_taken c.args.self.now c.args.request.now (Text c.args.text.now)) c.refuse.new.self c.args.out.now.items c.refuse.new.out.items
      (text_too_long c.args.self.now c.args.request.now c.args.text.now (omega (arith, past, c.canonical_len.ensures.len))) c.refuse.ensures.ok;
  err = search rules;
  unwritten = search rules;
}

pub returns : goal.returns
returns c = record {
  ok = let within = not_past c.is_past_limit.result (length c.args.self.now.gathered
      + c.canonical_len.result) 16384 c.is_past_limit.ensures c.if-is_past_limit.false in
      replied_as c.answer_text.result (whole_text c.clear_gathered.new.self c.args.request.now (Some c.args.text.now))
      (segment_taken c.args.self.now c.args.request.now (Text c.args.text.now)) c.answer_text.new.self c.args.out.now.items c.answer_text.new.out.items
      (ap (λ (m : Session). whole_text m c.args.request.now (Some c.args.text.now)) c.clear_gathered.ensures
      ∙ text_taken c.args.self.now c.args.request.now c.args.text.now (omega (arith, within, c.canonical_len.ensures.len)) c.requires.whole)
      c.answer_text.ensures.ok;
  err = search rules;
  unwritten = search rules;
}
