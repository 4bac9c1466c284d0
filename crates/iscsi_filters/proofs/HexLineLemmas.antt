-- The line that is due for a stream that cannot be read.
use Rattle.std.proofs.Common.{◌≡◌, ℕ, List, [], ◌++◌, Result, Err, sym, ap, subst, ◌∙◌, append-nil}
use Rattle.iscsi_stream.specs.declared.fault.StreamFault.{StreamFault}
use Rattle.iscsi_stream.specs.declared.fault.StreamFault.TheVariants as stream
use Rattle.iscsi_stream.specs.declared.fault.ToolFault.{ToolFault}
use Rattle.iscsi_stream.specs.declared.fault.ToolFault.TheVariants as tool
use Rattle.iscsi_stream.specs.declared.counts.Counts.{Counts}
use Rattle.iscsi_stream.specs.Stream.{BeginsWithPdus, SplitsStream, longest_segment}
use Rattle.iscsi_stream.specs.Normalising.{IsCanonical, WritesUntil, AtEnd}
use Rattle.iscsi_stream.proofs.OneMeaningLaw.{splits_more}
use Rattle.iscsi_filters.specs.declared.work.Content.TheVariants as content
use Rattle.iscsi_filters.specs.HexText.{hex_line}
use Rattle.iscsi_filters.specs.Filters.{IsDueLine}

all_read : (source read rest : List ℕ) → source ≡ read ++ rest → rest ≡ [] → source ≡ read
all_read source read rest parts none = parts ∙ ap (λ (x : List ℕ). read ++ x) none ∙ append-nil read

pub stream_fails : (f : StreamFault) (source read rest out written line : List ℕ) → source ≡ read ++ rest →
    (let r : Result Counts ToolFault = Err (tool.Stream f) in AtEnd r (rest ≡ [])) → out ≡ written → line ≡ hex_line out
    → WritesUntil IsCanonical (tool.Stream f) read written → IsDueLine content.Stream source (Err (tool.Stream f)) line
stream_fails stream.NoMemory source read rest out written line parts end same is m = absurd m.4.2
stream_fails (stream.Head f place) source read rest out written line parts end same is m =
    let more = splits_more longest_segment read rest m.0 m.1 m.2 f (record { reaches = m.3; no_more = m.4.0 }) m.4.2.0 m.4.2.1 in
    let s = subst (λ (x : List ℕ). SplitsStream longest_segment x m.0 m.1 (m.2 ++ rest)) (sym parts) more.0 in
    record {
      due = written;
      is_due = (
        m.0,
        m.1,
        m.2 ++ rest,
        s.reaches,
        (s.no_more, m.4.1, (more.1, more.2, m.4.2.2)),
      );
      spelled = is ∙ ap hex_line same;
    }
stream_fails (stream.OverLimit place) source read rest out written line parts end same is m = absurd m.4.2
stream_fails (stream.Truncated place) source read rest out written line parts end same is m = record {
  due = written;
  is_due = (
    m.0,
    m.1,
    m.2,
    subst (λ (x : List ℕ). BeginsWithPdus longest_segment x m.0 m.1 m.2) (sym (all_read source read rest parts end)) m.3,
    m.4,
  );
  spelled = is ∙ ap hex_line same;
}
stream_fails stream.Failed source read rest out written line parts end same is m = absurd m.4.2
