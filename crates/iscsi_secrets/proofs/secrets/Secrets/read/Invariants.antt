-- What the lines from here on make of the secrets is what the whole text makes.
use Rattle.std.proofs.Common.{◌≡◌, ◌+◌, drop, map}
use Rattle.iscsi_secrets.specs.Secrets.{nobody, with_lines}
use Rattle.iscsi_secrets.proofs.secrets.Secrets.read.Given as goal

abbrev pub invariant-loop-n : goal.invariant-loop-n
invariant-loop-n l = with_lines (l.n + 1) l.secrets (map (λ line. line.now) (drop l.n l.lines.items))
    ≡ with_lines 1 nobody (map (λ line. line.now) l.lines.items)
