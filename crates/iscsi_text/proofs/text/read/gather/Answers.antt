use Rattle.std.proofs.Common.{[], ◌∷◌, Some, None, sym, subst}
use Rattle.std.proofs.lemmas.List.{append-nil, map-append}
use Rattle.iscsi_text.specs.Shown.{shown, all_shown}
use Rattle.iscsi_text.specs.inner.Inside.{GathersTo}
use Rattle.iscsi_text.proofs.ReadInvariant.{gathers_more}
use Rattle.iscsi_text.proofs.text.read.gather.Goals as goal

pub loop-rest-preserved-in_ok-push-in-Ok : goal.loop-rest-preserved-in_ok-push-in-Ok
loop-rest-preserved-in_ok-push-in-Ok c =
    let items = c.loop-rest.pairs.items in
    let more = c.in-Ok.more.now in
    let one = gathers_more c.args.bytes.now c.loop-rest.rest.now more (all_shown items) (Some (shown c.in-Some.pair)) c.loop-rest.invariant
    (rw c.in-Some.is at c.in-Ok.ensures.found) in
    subst (λ ps. GathersTo c.args.bytes.now more (all_shown ps)) (sym c.in_ok-push-in-Ok.ensures.items)
    (subst (GathersTo c.args.bytes.now more) (sym (map-append shown items (c.in-Some.pair ∷ []))) one)

pub loop-rest-preserved : goal.loop-rest-preserved
loop-rest-preserved c =
    let pairs = all_shown c.loop-rest.pairs.items in
    let more = c.in-Ok.more.now in
    subst (GathersTo c.args.bytes.now more) (append-nil pairs)
    (gathers_more c.args.bytes.now c.loop-rest.rest.now more pairs None c.loop-rest.invariant (rw c.in_default.is at c.in-Ok.ensures.found))
