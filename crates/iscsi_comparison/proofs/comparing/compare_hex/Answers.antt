use Rattle.std.proofs.Common.{◌≡◌, List, ℕ, [], Option, Some, Err, refl, ap, subst, inl, inr}
use Rattle.std.proofs.KnownBytes.{Consumes-nil, Appends-nil}
use Rattle.iscsi_compare.specs.Comparing.{ReadInput, GaveInput}
use Rattle.iscsi_compare.specs.inner.Comparing.{input_of}
use Rattle.iscsi_comparison.specs.declared.comparing.ComparisonFault.{ComparisonFault}
use Rattle.iscsi_comparison.specs.declared.comparing.Sameness.{Sameness}
use Rattle.iscsi_comparison.specs.Comparisons.{ComparisonOutcome, ComparesBytes, ComparesWhole}
use Rattle.iscsi_comparison.proofs.comparing.compare_hex.Goals as goal

whole : (sameness : Sameness) (outcome : ComparisonOutcome) (bytes other_bytes source other_source written : List ℕ) {left other_left : Option (List ℕ)}
    (first second : ReadInput) → source ≡ bytes → other_source ≡ other_bytes → GaveInput (Some source) left first
    → GaveInput (Some other_source) other_left second
    → ComparesBytes sameness outcome first second written → ComparesWhole sameness outcome bytes other_bytes written
whole sameness outcome bytes other_bytes source other_source written {left = left} {other_left = other_left} first second e f gave other_gave compares =
    record {
      first = first;
      second = second;
      left = left;
      other_left = other_left;
      gave = subst (λ (s : List ℕ). GaveInput (Some s) left first) e gave;
      other_gave = subst (λ (s : List ℕ). GaveInput (Some s) other_left second) f other_gave;
      compares = compares;
    }

pub returns-in-Err : goal.returns-in-Err
returns-in-Err g c =
    let e = c.in-Err.ensures.err in
    let x : ReadInput = input_of e.0 (g.R.Read.remaining c.read_bytes.new.r) in
    let y : ReadInput = input_of [] (g.Q.Read.remaining c.args.other.now) in
    record {
      compares = (
        x,
        y,
        [],
        (e.1, refl),
        (Consumes-nil (g.Q.Read.remaining c.args.other.now), refl),
        Appends-nil (g.W.Write.contents c.args.w.now),
        inl (record {
          reason = c.in-Err.fault;
          fails = e.2;
          is_read = e.3;
          outcome_is = ap (λ (f : ComparisonFault). let r : ComparisonOutcome = Err f in r) c.input_fault.ensures;
          none = refl;
        }),
      );
    }

pub returns-in-Err-read_bytes : goal.returns-in-Err-read_bytes
returns-in-Err-read_bytes g c =
    let o = c.in-Ok.ensures.ok in
    let e = c.in-Err-read_bytes.ensures.err in
    let x : ReadInput = input_of o.0 (g.R.Read.remaining c.read_bytes.new.r) in
    let y : ReadInput = input_of e.0 (g.Q.Read.remaining c.read_bytes-2.new.r) in
    record {
      compares = (
        x,
        y,
        [],
        (o.1, refl),
        (e.1, refl),
        Appends-nil (g.W.Write.contents c.args.w.now),
        inr (inl (record {
          reason = c.in-Err-read_bytes.fault;
          fails = e.2;
          is_read = e.3;
          outcome_is =
              ap (λ (f : ComparisonFault). let r : ComparisonOutcome = Err f in r) c.input_fault-in-Err-read_bytes.ensures;
          none = refl;
        })),
      );
    }

pub returns : goal.returns
returns g c =
    let o = c.in-Ok.ensures.ok in
    let p = c.in-Ok-read_bytes.ensures.ok in
    let j = c.compare_bytes.ensures.compares in
    let x : ReadInput = input_of o.0 (g.R.Read.remaining c.read_bytes.new.r) in
    let y : ReadInput = input_of p.0 (g.Q.Read.remaining c.read_bytes-2.new.r) in
    let bytes = c.in-Ok.bytes.items in
    let other_bytes = c.in-Ok-read_bytes.bytes.items in
    record {
      compares = (
        x,
        y,
        j.2,
        (o.1, refl),
        (p.1, refl),
        j.5,
        inr (inr (record {
          ended = o.2;
          other_ended = p.2;
          bytes = bytes;
          other_bytes = other_bytes;
          bytes_of = o.3;
          other_bytes_of = p.3;
          compares = whole c.args.sameness c.compare_bytes.result bytes other_bytes c.as_slice-source.result.now c.as_slice-other_source.result.now j.2 j.0 j.1
              c.as_slice-source.ensures.value c.as_slice-other_source.ensures.value j.3 j.4 j.6;
        })),
      );
    }
