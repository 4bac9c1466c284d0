-- What stands next in two streams.
use Rattle.std.proofs.Common.{◌≡◌, ℕ, Bool, true, false, List, refl, sym, ap, subst}
use Rattle.std.specs.Prelude.{Some, None, option_map, Result, Ok, Err, IfOk}
use Rattle.iscsi_pdu.specs.declared.head.Head.{Head}
use Rattle.iscsi_pdu.specs.Meaning.{Means}
use Rattle.iscsi_stream.specs.Segment.{continues}
use Rattle.iscsi_stream.specs.Stream.{Message, message}
use Rattle.iscsi_stream.specs.Framing.{Framing, is_ready, message_of}
use Rattle.iscsi_compare.specs.declared.same_job.renaming.Renaming.{Renaming}
use Rattle.iscsi_compare.specs.SameJob.{Renumbering, renumbered_message}
use Rattle.iscsi_compare.specs.inner.SameJobLearning.{LearnsAnswer}
use Rattle.iscsi_compare.specs.inner.SameJobJudge.{AllowsRenumbering, NextIs, LearnsNext}
use Rattle.iscsi_compare.proofs.RenamingLemmas.{apart}

next_some : (v : Framing) (h : Head) (d : List ℕ) → is_ready v ≡ true → Means v.held h d → NextIs (is_ready v) v (Some (message_of v h d))
next_some v h d ready means = subst (λ (b : Bool). NextIs b v (Some (message_of v h d))) (sym ready) (h, d, means, refl)

next_none : (v : Framing) → is_ready v ≡ false → NextIs (is_ready v) v None
next_none v unready = subst (λ (b : Bool). NextIs b v None) (sym unready) refl

pub unready_of : (b : Bool) → (b ≡ true → false ≡ true) → b ≡ false
unready_of true h = sym (h refl)
unready_of false h = refl

pub inside : {A : Type 0} (x y : A) → Some x ≡ Some y → x ≡ y
inside x y e = cc

learns_some : (Old New : Renumbering → Type 0) (m n : Message) (answer : Bool) → LearnsAnswer Old New (λ r. renumbered_message r m ≡ n) answer →
    LearnsAnswer Old New (λ r. option_map (renumbered_message r) (Some m) ≡ Some n) answer
learns_some Old New m n answer l = record {
  less = l.less;
  kept = λ r old e. l.kept r old (inside (renumbered_message r m) n e);
  said = λ a r new. ap Some (l.said a r new);
  none = λ a r old e. l.none a r old (inside (renumbered_message r m) n e);
}

pub both_next : (old new : Renaming) (v w : Framing) (g h : Head) (a b : List ℕ) (c d : Bool) {E : Type 0} (result : Result Bool E) → is_ready v ≡ true →
    is_ready w ≡ true → Means v.held g a → Means w.held h b
    → c ≡ continues v.logins g → d ≡ continues w.logins h → IfOk result (LearnsAnswer (AllowsRenumbering old) (AllowsRenumbering new)
    (λ r. renumbered_message r (message c g a) ≡ message d h b)) → IfOk result (LearnsNext old new v w)
both_next old new v w g h a b c d (Ok answer) ready other_ready means other_means e f l = record {
  next = Some (message_of v g a);
  other_next = Some (message_of w h b);
  next_is = next_some v g a ready means;
  other_next_is = next_some w h b other_ready other_means;
  learns = learns_some (AllowsRenumbering old) (AllowsRenumbering new) (message_of v g a) (message_of w h b) answer
      (subst (λ (x : Bool). LearnsAnswer (AllowsRenumbering old) (AllowsRenumbering new) (λ r. renumbered_message r (message x g a) ≡ message_of w h b) answer)
      e
      (subst (λ (x : Bool). LearnsAnswer (AllowsRenumbering old) (AllowsRenumbering new) (λ r. renumbered_message r (message c g a) ≡ message x h b) answer) f
      l));
}
both_next old new v w g h a b c d (Err x) ready other_ready means other_means e f l = tt

pub first_next : (known : Renaming) (v w : Framing) (g : Head) (a : List ℕ) → is_ready v ≡ true → Means v.held g a → is_ready w ≡ false →
    LearnsNext known known v w false
first_next known v w g a ready means unready = record {
  next = Some (message_of v g a);
  other_next = None;
  next_is = next_some v g a ready means;
  other_next_is = next_none w unready;
  learns = record {
    less = λ r p. p;
    kept = λ r p e. p;
    said = λ e. apart e refl;
    none = λ e r p q. absurd cc;
  };
}

pub second_next : (known : Renaming) (v w : Framing) (h : Head) (b : List ℕ) → is_ready v ≡ false → is_ready w ≡ true → Means w.held h b →
    LearnsNext known known v w false
second_next known v w h b unready ready means = record {
  next = None;
  other_next = Some (message_of w h b);
  next_is = next_none v unready;
  other_next_is = next_some w h b ready means;
  learns = record {
    less = λ r p. p;
    kept = λ r p e. p;
    said = λ e. apart e refl;
    none = λ e r p q. absurd cc;
  };
}
