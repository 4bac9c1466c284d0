-- What passing a piece of a stream on leaves.
use Rattle.std.proofs.Common.{◌≡◌, ℕ, ◌-◌, false, List, [], ◌∷◌, ◌++◌, length, take, drop, refl, sym, ap, subst, ◌∙◌, append-nil, append_assoc}
use Rattle.std.proofs.lemmas.List.{take-append-drop, take_rest}
use Rattle.iscsi_pdu.specs.declared.head.Head.{Head}
use Rattle.iscsi_pdu.specs.Meaning.{Means}
use Rattle.iscsi_stream.specs.Stream.{Message}
use Rattle.iscsi_stream.specs.Framing.{Framing, is_ready, FramerTakes, FramerMoves, pdu_given_up, message_of}
use Rattle.iscsi_stream.proofs.PassingLemmas.{unready_after}
use Rattle.iscsi_stream.proofs.TakingLemmas.{moves_none, moves_fed, moves_gave, moves_then, taken_at}
use Rattle.iscsi_explain.specs.declared.form.Form.{Form}
use Rattle.iscsi_explain.specs.Forms.{IsPduEntry}
use Rattle.iscsi_explain.specs.Showing.{AreEntries, PassesEntries}

pub entries_append : (form : Form) (ms ns : List Message) (a b : List ℕ) → AreEntries form ms a
    → AreEntries form ns b → AreEntries form (ms ++ ns) (a ++ b)
entries_append form [] ns a b none more = rw none more
entries_append form (m ∷ ms) ns a b entries more = (
  entries.0,
  entries.1 ++ b,
  entries.2,
  ap (λ (x : List ℕ). x ++ b) entries.3 ∙ append_assoc entries.0 entries.1 b,
  entries_append form ms ns entries.1 b entries.4 more,
)

pub pass_none : (form : Form) (v : Framing) (out : List ℕ) → is_ready v ≡ false
    → PassesEntries form v v out out [] []
pass_none form v out unready = record {
  moves = moves_none v;
  limit = refl;
  unready = unready;
  out = [];
  entries = refl;
  appended = sym (append-nil out);
}

pub pass_one : (form : Form) (v w : Framing) (h : Head) (d before after entry : List ℕ)
    → Means v.held h d → w ≡ pdu_given_up v h → after ≡ before ++ entry → IsPduEntry form entry
    → PassesEntries form v w before after [] (message_of v h d ∷ [])
pass_one form v w h d before after entry means is appended is_entry =
    let m = message_of v h d in
    record {
      moves = subst (λ (x : Framing). FramerMoves v x [] (m ∷ [])) (sym is) (moves_gave v h d means);
      limit = ap (λ (x : Framing). x.limit) is;
      unready = ap is_ready is ∙ unready_after v h;
      out = entry;
      entries = (entry, [], is_entry, sym (append-nil entry), refl);
      appended = appended;
    }

pub passes_then : (form : Form) (u v w : Framing) (x y : List ℕ) (ms ns : List Message) (a b c : List ℕ)
    → PassesEntries form u v a b x ms → PassesEntries form v w b c y ns → PassesEntries form u w a c (x ++ y) (ms ++ ns)
passes_then form u v w x y ms ns a b c p q = record {
  moves = moves_then u v w x y ms ns p.moves q.moves;
  limit = q.limit ∙ p.limit;
  unready = q.unready;
  out = p.out ++ q.out;
  entries = entries_append form ms ns p.out q.out p.entries q.entries;
  appended = q.appended ∙ ap (λ (z : List ℕ). z ++ q.out) p.appended ∙ append_assoc a p.out q.out;
}

-- a part of a piece is passed on
pub record UpTo (form : Form) (piece rest : List ℕ) (old new : Framing) (before after : List ℕ)
    : Type 0 where
  pub begun : List ℕ
  pub more : List Message
  pub parts : piece ≡ begun ++ rest
  pub passes : PassesEntries form old new before after begun more

pub up_to_more : (form : Form) (piece rest : List ℕ) (old v u w : Framing) (a b c : List ℕ) (taken : ℕ)
    (more : List Message) → UpTo form piece rest old v a b → FramerTakes v rest taken u
    → PassesEntries form u w b c [] more
    → UpTo form piece (take (length rest - taken) (drop taken rest)) old w a c
up_to_more form piece rest old v u w a b c taken more upto takes one = record {
  begun = upto.begun ++ take taken rest;
  more = upto.more ++ more;
  parts = upto.parts ∙ ap (λ (x : List ℕ). upto.begun ++ x) (sym (take-append-drop taken rest)
      ∙ ap (λ (x : List ℕ). take taken rest ++ x) (sym (take_rest rest taken))) ∙
      sym (append_assoc upto.begun (take taken rest) (take (length rest - taken) (drop taken rest)));
  passes = passes_then form old v w upto.begun (take taken rest) upto.more more a b c upto.passes (record {
    moves = λ s ms t. taken_at ((s ++ take taken rest) ++ []) (s ++ take taken rest) ((ms ++ []) ++ more) (ms ++ more) w
        (append-nil (s ++ take taken rest)) (ap (λ (x : List Message). x ++ more) (append-nil ms))
        (one.moves (s ++ take taken rest) (ms ++ []) (moves_fed v rest taken u takes s ms t));
    limit = one.limit ∙ ap (λ (x : Framing). x.limit) takes.gathered;
    unready = one.unready;
    out = one.out;
    entries = one.entries;
    appended = one.appended;
  });
}
