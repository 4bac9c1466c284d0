use Rattle.std.proofs.Common.{◌≡◌, ◌+◌, [], ◌++◌, length, sym, ap, ◌∙◌, rules}
use Rattle.std.specs.Prelude.{Some, None}
use Rattle.iscsi_text.specs.Reading.{text_in}
use Rattle.iscsi_stream.specs.Segment.{Bytes}
use Rattle.iscsi_target_session.specs.Session.{Session}
use Rattle.iscsi_target_session.specs.LoginText.{out_of_resources, initiator_error}
use Rattle.iscsi_target_session.specs.Login.{refuse, whole_text, segment_taken, gather, login_response_to}
use Rattle.iscsi_target_session.proofs.LoginLemmas.{replied_as, bytes_too_long, bytes_gathered, bytes_whole, gathered_answer, not_past}
use Rattle.iscsi_target_session.proofs.session.Session.take_bytes.Goals as goal

pub returns-then-is_past_limit : goal.returns-then-is_past_limit
returns-then-is_past_limit c = record {
  ok = replied_as c.refuse.result (refuse c.args.self.now c.args.request.now out_of_resources)
      (segment_taken c.args.self.now c.args.request.now (Bytes c.args.bytes.now)) c.refuse.new.self c.args.out.now.items c.refuse.new.out.items
      (bytes_too_long c.args.self.now c.args.request.now c.args.bytes.now (c.is_past_limit.ensures.0 c.if-is_past_limit.true)) c.refuse.ensures.ok;
  err = search rules;
  unwritten = search rules;
}

pub returns-then-request : goal.returns-then-request
returns-then-request c = record {
  ok = let within = not_past c.is_past_limit.result (length c.args.self.now.gathered
      + length c.args.bytes.now) 16384 c.is_past_limit.ensures c.if-is_past_limit.false in
      let mid : c.gather.new.self ≡ record c.args.self.now { gathered = c.args.self.now.gathered ++ c.args.bytes.now } = c.in_ok-gather.ensures.ok in
      replied_as c.answer.result (gather c.args.self.now c.args.request.now c.args.bytes.now)
      (segment_taken c.args.self.now c.args.request.now (Bytes c.args.bytes.now)) c.answer.new.self c.args.out.now.items c.answer.new.out.items
      (bytes_gathered c.args.self.now c.args.request.now c.args.bytes.now within c.if-request.true)
      (gathered_answer c.answer.result c.args.self.now c.gather.new.self c.args.request.now c.args.bytes.now c.response-response.result c.answer.new.self
      c.args.out.now.items c.answer.new.out.items mid (c.response-response.ensures
      ∙ ap (λ (m : Session). login_response_to m c.args.request.now) mid) c.answer.ensures.ok);
  err = search rules;
  unwritten = search rules;
}

pub returns-in-Some : goal.returns-in-Some
returns-in-Some c = record {
  ok = let within = not_past c.is_past_limit.result (length c.args.self.now.gathered
      + length c.args.bytes.now) 16384 c.is_past_limit.ensures c.if-is_past_limit.false in
      let mid : c.gather.new.self ≡ record c.args.self.now { gathered = c.args.self.now.gathered ++ c.args.bytes.now } = c.in_ok-gather.ensures.ok in
      let none : c.take_gathered-gathered.new.self ≡ record c.args.self.now { gathered = [] } = c.take_gathered-gathered.ensures.none
      ∙ ap (λ (m : Session). record m { gathered = [] }) mid in
      let read : c.deref.result.now ≡ c.args.self.now.gathered ++ c.args.bytes.now = c.deref.ensures.value ∙ c.take_gathered-gathered.ensures.bytes
      ∙ ap (λ (m : Session). m.gathered) mid in
      replied_as c.answer_text.result (whole_text c.take_gathered-gathered.new.self c.args.request.now (Some c.in-Some.text))
      (segment_taken c.args.self.now c.args.request.now (Bytes c.args.bytes.now)) c.answer_text.new.self c.args.out.now.items c.answer_text.new.out.items
      (ap (λ (m : Session). whole_text m c.args.request.now (Some c.in-Some.text)) none
      ∙ bytes_whole c.args.self.now c.args.request.now c.args.bytes.now (Some c.in-Some.text) within c.if-request.false (sym c.in-Some.is
      ∙ c.in_ok-text.ensures.means ∙ ap text_in read)) c.answer_text.ensures.ok;
  err = search rules;
  unwritten = search rules;
}

pub returns : goal.returns
returns c = record {
  ok = let within = not_past c.is_past_limit.result (length c.args.self.now.gathered
      + length c.args.bytes.now) 16384 c.is_past_limit.ensures c.if-is_past_limit.false in
      let mid : c.gather.new.self ≡ record c.args.self.now { gathered = c.args.self.now.gathered ++ c.args.bytes.now } = c.in_ok-gather.ensures.ok in
      let none : c.take_gathered-gathered.new.self ≡ record c.args.self.now { gathered = [] } = c.take_gathered-gathered.ensures.none
      ∙ ap (λ (m : Session). record m { gathered = [] }) mid in
      let read : c.deref.result.now ≡ c.args.self.now.gathered ++ c.args.bytes.now = c.deref.ensures.value ∙ c.take_gathered-gathered.ensures.bytes
      ∙ ap (λ (m : Session). m.gathered) mid in
      replied_as c.refuse-in-None.result (refuse c.take_gathered-gathered.new.self c.args.request.now initiator_error)
      (segment_taken c.args.self.now c.args.request.now (Bytes c.args.bytes.now)) c.refuse-in-None.new.self c.args.out.now.items
      c.refuse-in-None.new.out.items
      (ap (λ (m : Session). refuse m c.args.request.now initiator_error) none ∙ bytes_whole c.args.self.now c.args.request.now c.args.bytes.now None within
      c.if-request.false (sym c.in-None.is ∙ c.in_ok-text.ensures.means ∙ ap text_in read)) c.refuse-in-None.ensures.ok;
  err = search rules;
  unwritten = search rules;
}
