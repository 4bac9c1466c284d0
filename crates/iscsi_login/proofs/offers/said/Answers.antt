use Rattle.std.proofs.Common.{◌≡◌, ◌-◌, length, take, sym, ap, ◌∙◌}
use Rattle.std.proofs.lemmas.List.{take-map, length-map}
use Rattle.iscsi_text.specs.Shown.{shown, all_shown}
use Rattle.iscsi_text.specs.declared.negotiated.Session.TheVariants.{Discovery}
use Rattle.iscsi_login.specs.inner.Inside.{sent_pairs}
use Rattle.iscsi_login.proofs.offers.said.Goals as goal

pub returns-in-Discovery : goal.returns-in-Discovery
returns-in-Discovery c =
    let pairs = c.args.pairs.now in
    let session : c.args.session ≡ Discovery = c.in-Discovery.is in
    let count : c.saturating_sub.result ≡ length (all_shown pairs) - 1 = c.saturating_sub.ensures ∙ ap (λ n. n - 1) (sym (length-map pairs shown)) in
    sym (take-map shown c.saturating_sub.result pairs) ∙ ap (λ n. take n (all_shown pairs)) count ∙ ap (λ s. sent_pairs s (all_shown pairs)) (sym session)
