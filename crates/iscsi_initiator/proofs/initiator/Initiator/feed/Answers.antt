use Rattle.std.proofs.Common.{sym, ◌∙◌, rules}
use Rattle.iscsi_initiator.specs.inner.Inside.{initiator_connection}
use Rattle.iscsi_initiator.proofs.ReceivingLemmas.{fed_as, fed_cut}
use Rattle.iscsi_initiator.proofs.initiator.Initiator.feed.Goals as goal

pub returns-then-has_run_out : goal.returns-then-has_run_out
returns-then-has_run_out c =
    rw (← c.self.view_is) record {
      feeds = fed_cut c.feed_all-result.result (initiator_connection c.self.inside.session c.self.inside.framer) c.args.piece.now
          (initiator_connection c.feed_all-result.new.session c.feed_all-result.new.framer) c.args.out.now.items c.feed_all-result.new.out.items
          c.truncate.new.self.items
          (sym c.has_run_out.ensures ∙ c.if-has_run_out.true) (search rules) c.feed_all-result.ensures.fed;
    }

pub returns : goal.returns
returns c =
    rw (← c.self.view_is) record {
      feeds = fed_as c.feed_all-result.result (initiator_connection c.self.inside.session c.self.inside.framer) c.args.piece.now
          (initiator_connection c.feed_all-result.new.session c.feed_all-result.new.framer) c.args.out.now.items c.feed_all-result.new.out.items
          (sym c.has_run_out.ensures ∙ c.if-has_run_out.false) c.feed_all-result.ensures.fed;
    }
