use Rattle.std.proofs.Common.{List, ℕ, sym, subst, ◌∙◌}
use Rattle.iscsi_stream.specs.Segment.{no_login}
use Rattle.iscsi_stream.specs.Stream.{longest_segment, ReadsAs}
use Rattle.iscsi_stream.proofs.OneMeaningLaw.{canon_again}
use Rattle.iscsi_target.specs.Feed.{TargetReaches, beginning, stream_of}
use Rattle.iscsi_target.proofs.Feed.FedStreamLemmas.{fed_stream}
use Rattle.iscsi_target.proofs.laws.canonical_form.Goals as goal

pub returns : goal.returns
returns c = record {
  same = λ protected settings n store first second pieces others a b written rewritten ms bytes p e f g.
      let q : ReadsAs longest_segment no_login (stream_of others) ms =
      subst (λ (x : List ℕ). ReadsAs longest_segment no_login x ms) (sym e) (canon_again longest_segment no_login (stream_of pieces) ms bytes p) in
      let x : TargetReaches protected (beginning settings n store.disk) ms a first.disk written =
      fed_stream protected settings n store pieces a first written ms f p in
      let y : TargetReaches protected (beginning settings n store.disk) ms b second.disk rewritten = fed_stream protected settings n store others b
      second rewritten ms g q in
      (y.output_is ∙ sym x.output_is, y.disk_is ∙ sym x.disk_is, y.machine ∙ sym x.machine);
}
