use Rattle.std.proofs.Common.{◌≡◌, ◌-◌}
use Rattle.capture_file.specs.Internet.{tcp_at}
use Rattle.capture_file.proofs.network.tcp_behind.Given as goal

-- what is due from here on is what was due at the beginning
abbrev pub invariant-loop : goal.invariant-loop
invariant-loop l = tcp_at (8 - l.counter) l.next l.at l.packet ≡ tcp_at 8 l.fn.first 40 l.packet
