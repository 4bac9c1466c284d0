use Rattle.std.proofs.Common.{Some, sym, ap, ◌∙◌}
use Rattle.iscsi_text.specs.Negotiated.{kind_by}
use Rattle.iscsi_text.proofs.KnownKeyLemmas.{negotiated_kind, other_kind}
use Rattle.iscsi_text.proofs.key.key_kind.Goals as goal

pub returns-in-Some : goal.returns-in-Some
returns-in-Some c = record {
  kind = ap Some (c.kind.ensures ∙ ap kind_by c.rule.ensures.rule) ∙ negotiated_kind c.args.key.now c.in-Some.negotiated (sym c.in-Some.ensures.key);
}

pub returns-in-None : goal.returns-in-None
returns-in-None c = record { kind = c.kind_among.ensures ∙ other_kind c.args.key.now (sym c.in-None.ensures.key) }
