use Rattle.std.proofs.Common.{◌≡◌, ℕ, ◌-◌, length, take, min, arith}
use Rattle.iscsi_stream.specs.declared.fault.StreamFault.{StreamFault}
use Rattle.iscsi_stream.specs.Framing.{FramerTakes, FramerFeedFails}
use Rattle.iscsi_stream.specs.Headers.{TakesHeader}
use Rattle.iscsi_stream.proofs.SkippingLemmas.{takes_header, fails_header, if_err, if_ok}
use Rattle.iscsi_stream.proofs.framer.Framer.feed_header.Goals as goal

-- as many bytes as the header lacks
lacking : (c : goal.After-feed) → c.min.result ≡ min (length c.args.piece.now) (48 - length c.args.self.now.held)
lacking c = omega (arith, c.min.ensures, c.saturating_sub-lacking.ensures, c.held.ensures.value)

pub returns-clause-ok : goal.returns-clause-ok
returns-clause-ok c =
    if_ok (λ (n : ℕ). FramerTakes c.args.self.now (take c.min.result c.args.piece.now) n c.feed.new.self)
    (λ (n : ℕ). TakesHeader c.args.self.now c.args.piece.now n c.feed.new.self) c.feed.result
    (λ n t. takes_header c.args.self.now c.min.result n c.args.piece.now c.feed.new.self (lacking c) t) c.feed.ensures.ok

pub returns-clause-err : goal.returns-clause-err
returns-clause-err c =
    if_err (FramerFeedFails c.args.self.now (take c.min.result c.args.piece.now)) (FramerFeedFails c.args.self.now c.args.piece.now) c.feed.result
    (λ (e : StreamFault) f. fails_header c.args.self.now c.args.piece.now c.min.result e f) c.feed.ensures.err
