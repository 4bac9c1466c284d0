use Rattle.std.proofs.Common.{ℕ, ◌≤◌, List, arith, sym, ap, subst, ◌∙◌}
use Rattle.iscsi_pdu.specs.declared.head.Head.{Head}
use Rattle.iscsi_pdu.specs.Meaning.{header, opcode, is_login, IsHeader}
use Rattle.iscsi_pdu.proofs.HeaderLemmas.{IsHeader-unique, OnTrue-always}
use Rattle.iscsi_compare.proofs.same_job.heads.is_same_head.Goals as goal

pub returns : goal.returns
returns c =
    let none : 0 ≤ 8192 = omega arith in
    let first = c.write_head.ensures.back (OnTrue-always (is_login (opcode c.args.mine.now)) (0 ≤ 8192) none) in
    let second = c.write_head-2.ensures.back (OnTrue-always (is_login (opcode c.args.other.now)) (0 ≤ 8192) none) in
    record {
      so = λ e. (IsHeader-unique c.write_head-2.result c.args.mine.now c.args.other.now 0 0 (subst (λ (b : List ℕ). IsHeader b c.args.mine.now 0)
          (c.is_same_header.ensures.so e) first) second).0;
      not_so = λ e same. c.is_same_header.ensures.not_so e (c.write_head.ensures.canonical ∙ ap (λ (h : Head). header h 0) same
          ∙ sym c.write_head-2.ensures.canonical);
    }
