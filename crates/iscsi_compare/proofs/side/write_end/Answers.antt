use Rattle.std.proofs.Common.{List, ℕ, [], ◌∷◌, ◌++◌, refl, sym, ap, ◌∙◌, append_assoc, arith}
use Rattle.std.proofs.lemmas.List.{length-append}
use Rattle.iscsi_stream.proofs.LineLemmas.{no_end-append, no_end-decimal}
use Rattle.iscsi_compare.proofs.side.write_end.Goals as goal

pub returns : goal.returns
returns c =
    let out = c.args.out.now.items in
    let place = c.as_bytes.result.now in
    let end : List ℕ = 32 ∷ 101 ∷ 110 ∷ 100 ∷ [] in
    let feed : List ℕ = 10 ∷ [] in
    record {
      line = (
        (place ++ end) ++ feed,
        record {
          text = place ++ end;
          ended = refl;
          one = no_end-append place end
              (no_end-decimal c.args.place place c.ranges.place.fits (c.as_bytes.ensures.value ∙ c.format.ensures.text)) refl;
          short = omega (
            arith,
            length-append (place ++ end) feed,
            length-append place end,
            c.as_bytes.ensures.len,
            c.format.ensures.short,
          );
        },
        c.in_ok-extend_from_slice-2.ensures.items ∙ ap (λ (x : List ℕ). x ++ (end ++ feed)) c.in_ok-extend_from_slice.ensures.items
            ∙ append_assoc out place (end ++ feed) ∙ ap (λ (x : List ℕ). out ++ x) (sym (append_assoc place end feed)),
      );
    }
