use Rattle.std.proofs.Common.{◌∙◌}
use Rattle.iscsi_target_session.specs.LoginText.{login_value}
use Rattle.iscsi_text.specs.Reading.{has_key}
use Rattle.iscsi_target_session.proofs.TextReadingLemmas.{is_there}
use Rattle.iscsi_target_session.proofs.LoginTextLemmas.{has_key_is}
use Rattle.iscsi_target_session.proofs.session.login_text.has_key.Goals as goal

pub returns : goal.returns
returns c = c.is_some.ensures ∙ is_there c.value_of.result (login_value c.args.key.now c.args.text.now)
    (has_key c.args.key.now c.args.text.now) c.value_of.ensures (has_key_is c.args.key.now c.args.text.now)
