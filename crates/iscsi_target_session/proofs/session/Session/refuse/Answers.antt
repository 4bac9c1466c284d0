use Rattle.std.proofs.Common.{ap, rules}
use Rattle.iscsi_pdu.specs.declared.head.login_response.LoginResponse.{LoginResponse as Response}
use Rattle.iscsi_target_session.proofs.LoginLemmas.{refused}
use Rattle.iscsi_target_session.proofs.session.Session.refuse.Goals as goal

pub returns : goal.returns
returns c = record {
  ok = refused c.args.self.now c.args.request.now c.args.why (record c.response.result { status_class = c.args.why.class; status_detail = c.args.why.detail })
      c.close.new.self c.args.out.now.items c.write_pdu.new.out.items
      (ap (λ (h : Response). record h { status_class = c.args.why.class; status_detail = c.args.why.detail }) c.response.ensures) c.close.ensures
      c.in_ok-write_pdu.ensures.ok;
  err = search rules;
  unwritten = search rules;
}
