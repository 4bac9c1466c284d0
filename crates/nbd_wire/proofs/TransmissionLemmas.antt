-- A request and a simple reply are read from their bytes.
use Rattle.std.proofs.Common.{◌≡◌, ◌<◌, ◌^◌, ℕ, Ok, refl}
use Rattle.std.proofs.lemmas.Nat.{from_be_bytes-to_be_bytes_4, from_be_bytes-to_be_bytes_8}
use Rattle.nbd_wire.specs.declared.reply.SimpleReply.{SimpleReply}
use Rattle.nbd_wire.specs.declared.request.Command.{Command}
use Rattle.nbd_wire.specs.declared.request.Command.TheVariants.{Read, Write, Flush, WriteZeroes}
use Rattle.nbd_wire.specs.declared.request.Request.{Request}
use Rattle.nbd_wire.specs.Transmission.{is_command, nbd_command, reply_bytes, request_at, request_bytes, simple_reply_at}

request_of : (command : Command) (cookie offset size : ℕ) → cookie < 2 ^ 64 → offset < 2 ^ 64 → size < 2 ^ 32
    → (let r : Request = record { command = command; cookie = cookie; offset = offset; length = size } in request_at (request_bytes r) ≡ Ok r)
unfolding request_bytes request_at is_command nbd_command
request_of Read cookie offset size c o n = rw (
  from_be_bytes-to_be_bytes_8 cookie c,
  from_be_bytes-to_be_bytes_8 offset o,
  from_be_bytes-to_be_bytes_4 size
      n,
) refl
request_of Write cookie offset size c o n = rw (
  from_be_bytes-to_be_bytes_8 cookie c,
  from_be_bytes-to_be_bytes_8 offset o,
  from_be_bytes-to_be_bytes_4 size
      n,
) refl
request_of Flush cookie offset size c o n = rw (
  from_be_bytes-to_be_bytes_8 cookie c,
  from_be_bytes-to_be_bytes_8 offset o,
  from_be_bytes-to_be_bytes_4 size
      n,
) refl
request_of WriteZeroes cookie offset size c o n = rw (
  from_be_bytes-to_be_bytes_8 cookie c,
  from_be_bytes-to_be_bytes_8 offset o,
  from_be_bytes-to_be_bytes_4 size
      n,
) refl

pub request_again : (r : Request) → r.cookie < 2 ^ 64 → r.offset < 2 ^ 64 → r.length < 2 ^ 32 → request_at (request_bytes r) ≡ Ok r
request_again r = request_of r.command r.cookie r.offset r.length

pub reply_again : (r : SimpleReply) → r.error < 2 ^ 32 → r.cookie < 2 ^ 64 → simple_reply_at (reply_bytes r) ≡ Ok r
unfolding reply_bytes simple_reply_at
reply_again r error cookie =
    rw (from_be_bytes-to_be_bytes_4 r.error error, from_be_bytes-to_be_bytes_8 r.cookie cookie) refl
