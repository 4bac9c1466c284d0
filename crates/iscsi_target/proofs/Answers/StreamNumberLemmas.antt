-- Each CmdSN in a stream of bytes is a number of 32 bits.
use Rattle.std.proofs.Common.{◌<◌, ℕ, ◌^◌, List, [], ◌∷◌, Bool, true, false, take, subst}
use Rattle.std.specs.List.{AllByRecursion}
use Rattle.scsi_cdb.specs.Layout.{HaveRoom}
use Rattle.iscsi_pdu.specs.declared.head.Head.{Head}
use Rattle.iscsi_pdu.specs.declared.head.Head.TheVariants.{NopOut, ScsiCommand, TaskRequest, LoginRequest, TextRequest, LogoutRequest}
use Rattle.iscsi_pdu.specs.Meaning.{rows, AreBytes}
use Rattle.iscsi_pdu.proofs.HeaderLemmas.{IsHeader-room}
use Rattle.iscsi_stream.specs.declared.logins.Logins.{Logins}
use Rattle.iscsi_stream.specs.Segment.{logins_after}
use Rattle.iscsi_stream.specs.Stream.{Message, ReadsAs}
use Rattle.iscsi_stream.proofs.HeadLemmas.{AreBytes-take}
use Rattle.iscsi_stream.proofs.OneMeaningLaw.{AreBytes-front, AreBytes-back}
use Rattle.iscsi_target.specs.Laws.{FitsNumber, cmd_sn_if, cmd_sn_of, login_cmd_sn, HasCmdSn}

fits_if : (i : Bool) (n : ℕ) → n < 2 ^ 32 → FitsNumber (cmd_sn_if i n)
fits_if true n lt = tt
fits_if false n lt = lt

request_fits : (head : Head) → HaveRoom (rows head) → FitsNumber (cmd_sn_of head)
request_fits (NopOut h) r = fits_if h.immediate h.cmd_sn r.1.1.1.1.0.1
request_fits (ScsiCommand h) r = fits_if h.immediate h.cmd_sn r.1.1.1.1.1.1.1.1.0.1
request_fits (TaskRequest h) r = fits_if h.immediate h.cmd_sn r.1.1.1.1.1.0.1
request_fits (TextRequest h) r = fits_if h.immediate h.cmd_sn r.1.1.1.1.1.1.0.1
request_fits (LogoutRequest h) r = fits_if h.immediate h.cmd_sn r.1.1.1.1.0.1
request_fits _ r = tt

login_fits : (head : Head) → HaveRoom (rows head) → FitsNumber (login_cmd_sn head)
login_fits (LoginRequest h) r = r.1.1.1.1.1.1.1.1.1.1.0.1
login_fits _ r = tt

pub stream_numbers : (limit : ℕ) (logins : Logins) (stream : List ℕ) (ms : List Message) → AreBytes stream → ReadsAs limit logins stream ms →
    AllByRecursion HasCmdSn ms
unfolding ReadsAs
stream_numbers limit logins stream [] bytes p = tt
stream_numbers limit logins stream (m ∷ ms) bytes p =
    let b = p.0 in
    let both = subst AreBytes b.whole bytes in
    let room : HaveRoom (rows m.head) = IsHeader-room (take 48 b.bytes) m.head _ (AreBytes-take 48 b.bytes (AreBytes-front b.bytes b.rest both))
    b.means.header in (
      record { request = request_fits m.head room; login = login_fits m.head room },
      stream_numbers limit (logins_after logins m.head) b.rest ms (AreBytes-back b.bytes b.rest both) p.1,
    )
