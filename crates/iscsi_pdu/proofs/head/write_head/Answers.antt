use Rattle.std.proofs.Common.{List, ℕ, sym, subst}
use Rattle.iscsi_pdu.specs.Meaning.{IsHeader}
use Rattle.iscsi_pdu.proofs.HeaderLemmas.{header-means}
use Rattle.iscsi_pdu.proofs.head.write_head.Goals as goal

pub returns-clause-back : goal.returns-clause-back
returns-clause-back c = λ login. subst (λ (b : List ℕ). IsHeader b c.args.head.now c.args.len) (sym c.put_head.ensures.canonical)
    (header-means c.args.head.now c.args.len c.put_head.ensures.room c.put_head.ensures.block c.requires.short login)
