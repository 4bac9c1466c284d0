use Rattle.iscsi_target.proofs.Rows.LoginRows.{login_in_two_requests, login_leads}
use Rattle.iscsi_target.proofs.Rows.SessionRows.{write_in_bursts}
use Rattle.iscsi_target.proofs.Rows.ManyKeysRow.{too_many_keys}
use Rattle.iscsi_target.proofs.laws.worked_sessions.Goals as goal

pub returns : goal.returns
returns c =
    let many = too_many_keys in
    record { login = login_in_two_requests; leads = login_leads; write = write_in_bursts }
