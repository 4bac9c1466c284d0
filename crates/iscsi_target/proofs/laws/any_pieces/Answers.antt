use Rattle.std.proofs.Common.{List, ℕ, sym, subst, ◌∙◌, arith}
use Rattle.iscsi_stream.specs.Stream.{SplitsStream, longest_segment}
use Rattle.iscsi_target.proofs.Feed.FedStreamLemmas.{fed_stream}
use Rattle.iscsi_target.proofs.Feed.FeedingLemmas.{fed_any, fed_holds, same_session}
use Rattle.iscsi_target.proofs.laws.any_pieces.Goals as goal

pub returns : goal.returns
returns c = record {
  meets = λ protected settings n store after pieces target written ms. fed_stream protected settings n store pieces target after written ms;
  writes = λ protected settings n store after pieces target written ms given rest p. fed_any protected settings n store pieces target
      after written ms given rest
      (omega (arith, p.max_recv.1));
  holds = λ protected settings n store after pieces target written ms given rest p. fed_holds protected settings n store pieces target
      after written ms given rest
      (omega (arith, p.max_recv.1));
  alike = λ protected settings n store first second pieces others a b written rewritten ms given rest p s e f g.
      let t = subst (λ (x : List ℕ). SplitsStream longest_segment x ms given rest) (sym e) s in
      let one = fed_any protected settings n store pieces a first written ms given rest (omega (arith, p.max_recv.1)) f s in
      let two = fed_any protected settings n store others b second rewritten ms given rest (omega (arith, p.max_recv.1)) g t in (
        two.output_is ∙ sym one.output_is,
        two.disk_is ∙ sym one.disk_is,
        same_session protected settings n store.disk ms rest rest a.machine b.machine (λ r. r, λ r. r)
            (fed_holds protected settings n store pieces a first written ms given rest (omega (arith, p.max_recv.1)) f s)
            (fed_holds protected settings n store others b second rewritten ms given rest (omega (arith, p.max_recv.1)) g t),
      );
}
