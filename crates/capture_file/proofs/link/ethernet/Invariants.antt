use Rattle.std.proofs.Common.{◌≡◌, ◌-◌}
use Rattle.capture_file.specs.Links.{behind_tags}
use Rattle.capture_file.proofs.link.ethernet.Given as goal

-- what is due from here on is what was due at the beginning
abbrev pub invariant-loop : goal.invariant-loop
invariant-loop l = behind_tags (5 - l.counter) l.at l.packet ≡ behind_tags 5 12 l.packet
