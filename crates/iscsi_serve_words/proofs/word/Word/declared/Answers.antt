use Rattle.std.proofs.Common.{List, ℕ, Option, subst, sym, true}
use Rattle.std.specs.Prelude.{is_none}
use Rattle.std.specs.Borrow.{Bor}
use Rattle.std.proofs.lemmas.Result.{IfOk-weaker}
use Rattle.clap.specs.declared.builder.arg.ArgPredicate.TheVariants as predicate
use Rattle.iscsi_serve_words.specs.Rows.{IsWord, rule_of_kind}
use Rattle.iscsi_serve_words.proofs.RowLemmas.{beside_another}
use Rattle.iscsi_serve_words.proofs.word.Word.declared.Goals as goal

pub returns-in-Some : goal.returns-in-Some
returns-in-Some c =
    let kind = rule_of_kind c.args.self.now.name.now c.args.self.now.kind in
    record {
      word = IfOk-weaker c.requires_arg.result _ _ (λ new h.
          subst (λ (o : Option (Bor (List ℕ))). IsWord (record kind { is_free = is_none o }) new) (sym c.in-Some.is)
          (beside_another (record kind { is_free = true }) _ new (predicate.IsPresent, c.in-Some.name) c.alone-word.ensures.word h)) c.requires_arg.ensures;
    }
