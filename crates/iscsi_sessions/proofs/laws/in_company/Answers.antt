use Rattle.iscsi_sessions.proofs.CompanyLemmas.{over_data_in, over_in_order, over_keeps, over_status, over_tags, session_answers}
use Rattle.iscsi_sessions.proofs.CompanyNumberLemmas.{over_commands}
use Rattle.iscsi_sessions.proofs.laws.in_company.Goals as goal

pub returns : goal.returns
returns c = record {
  session = session_answers;
  order = over_in_order;
  answered = over_tags;
  commands = over_commands;
  status = over_status;
  data_in = over_data_in;
  writes = λ protected settings n disk now gs m all. (over_keeps protected settings n disk now gs m all).tiled;
  modest = λ protected settings n disk now gs m all. (over_keeps protected settings n disk now gs m all).modest;
}
