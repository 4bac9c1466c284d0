-- Two whole texts mean the same where their canonical texts are equal.
use Rattle.std.proofs.Common.{◌≡◌, ℕ, Bool, true, false, List, sym, ap, ◌∙◌}
use Rattle.std.specs.Prelude.{Option, Some, None, not, ◌&&◌, IfOk, Result, Ok, Err}
use Rattle.iscsi_text.specs.Text.{Pairs}
use Rattle.iscsi_text.specs.Canonical.{canonical_text}
use Rattle.iscsi_text.specs.Reading.{text_in}
use Rattle.iscsi_text.proofs.TextLaws.{canonical_read}
use Rattle.iscsi_pdu.specs.declared.head.Head.{Head}
use Rattle.iscsi_stream.specs.Segment.{Text, is_last_login_pdu, text_or_bytes, segment_if, segment_of}
use Rattle.iscsi_compare.specs.inner.SameJobLearning.{AnswersTruly}

read_as : (r : Option Pairs) (b : List ℕ) (p : Pairs) → text_in b ≡ r → Text p ≡ text_or_bytes r b → text_in b ≡ Some p
read_as None b p is e = cc
read_as (Some q) b p is e = cc

read_if : (whole : Bool) (b : List ℕ) (p : Pairs) → Text p ≡ segment_if whole b → text_in b ≡ Some p
read_if true b p e = read_as (text_in b) b p (let same : text_in b ≡ text_in b = λ i. text_in b in same) e
read_if false b p e = cc

read_of : (c : Bool) (h : Head) (b : List ℕ) (p : Pairs) → Text p ≡ segment_of c h b → text_in b ≡ Some p
unfolding segment_of
read_of c h b p e = read_if (not c && is_last_login_pdu h) b p e

inside : (p q : Pairs) → Some p ≡ Some q → p ≡ q
inside p q e = cc

inside_text : (p q : Pairs) → Text p ≡ Text q → p ≡ q
inside_text p q e = cc

pub same_texts : (c d : Bool) (g h : Head) (a b : List ℕ) (p q : Pairs) (answer : Bool) → Text p ≡ segment_of c g a → Text q ≡ segment_of d h b →
    AnswersTruly (canonical_text p ≡ canonical_text q) answer
    → AnswersTruly (segment_of c g a ≡ segment_of d h b) answer
same_texts c d g h a b p q answer m n l = record {
  so = λ e.
      let same = inside p q (sym (canonical_read a p (read_of c g a p m)) ∙ ap text_in (l.so e) ∙ canonical_read b q (read_of d h b q n)) in
      sym m ∙ ap Text same ∙ n;
  not_so = λ e same. l.not_so e (ap canonical_text (inside_text p q (m ∙ same ∙ sym n)));
}

pub same_texts_if : (c d : Bool) (g h : Head) (a b : List ℕ) (p q : Pairs) (r s : Option Pairs) {E : Type 0} (result : Result Bool E) → text_or_bytes r a
    ≡ segment_of c g a → text_or_bytes s b ≡ segment_of d h b
    → r ≡ Some p → s ≡ Some q → IfOk result (AnswersTruly (canonical_text p ≡ canonical_text q))
    → IfOk result (AnswersTruly (segment_of c g a ≡ segment_of d h b))
same_texts_if c d g h a b p q r s (Ok answer) m n e f l =
    same_texts c d g h a b p q answer (sym (ap (λ x. text_or_bytes x a) e) ∙ m) (sym (ap (λ x. text_or_bytes x b) f) ∙ n) l
same_texts_if c d g h a b p q r s (Err x) m n e f l = tt
