use Rattle.std.proofs.Common.{sym, ◌∙◌}
use Rattle.iscsi_target.proofs.Turns.DispatchLemmas.{rules_are, refused_tag, refused_rules, not_refused}
use Rattle.iscsi_target.proofs.machine.Machine.refusal.Goals as goal

pub returns-then-has_tag : goal.returns-then-has_tag
returns-then-has_tag c = sym (refused_tag c.args.self.now c.args.received.now c.args.request.now (sym c.has_tag.ensures ∙ c.if-has_tag.true))

pub returns-then-breaks_rules : goal.returns-then-breaks_rules
returns-then-breaks_rules c =
    let same = rules_are c.args.self.now.session.held c.received.inside.continued c.received.inside.pdu.head c.received.inside.pdu.bytes.now
    c.args.received.now c.received.view_is c.args.request.now c.requires in
    sym (refused_rules c.args.self.now c.args.received.now c.args.request.now (sym c.has_tag.ensures ∙ c.if-has_tag.false)
    (same ∙ sym c.breaks_rules.ensures ∙ c.if-breaks_rules.true))

pub returns : goal.returns
returns c =
    let same = rules_are c.args.self.now.session.held c.received.inside.continued c.received.inside.pdu.head c.received.inside.pdu.bytes.now
    c.args.received.now c.received.view_is c.args.request.now c.requires in
    sym (not_refused c.args.self.now c.args.received.now c.args.request.now (sym c.has_tag.ensures ∙ c.if-has_tag.false)
    (same ∙ sym c.breaks_rules.ensures ∙ c.if-breaks_rules.false))
