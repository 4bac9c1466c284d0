-- What a segment means, by the reading of its text.
use Rattle.std.proofs.Common.{◌≡◌, ℕ, Bool, true, false, List, Option, Result, Ok, Err, refl, sym}
use Rattle.std.specs.Prelude.{not, ◌&&◌, IfOk}
use Rattle.iscsi_text.specs.Text.{Pairs}
use Rattle.iscsi_text.specs.Reading.{text_in}
use Rattle.iscsi_pdu.specs.declared.head.Head.{Head}
use Rattle.iscsi_stream.specs.Segment.{Bytes, is_last_login_pdu, text_or_bytes, segment_of}

-- a PDU without a whole text
pub segment_plain : (c : Bool) (h : Head) (d : List ℕ) → (not c && is_last_login_pdu h) ≡ false → Bytes d ≡ segment_of c h d
unfolding segment_of
segment_plain c h d none = rw none refl

-- a PDU with one
pub segment_whole : (c : Bool) (h : Head) (d : List ℕ) (r : Option Pairs) → c ≡ false → is_last_login_pdu h ≡ true → text_in d ≡ r → text_or_bytes r d
    ≡ segment_of c h d
unfolding segment_of
segment_whole c h d r first last read = rw (first, last, read) refl

-- a segment that was read as a text, if it is one
pub segment_read : {E : Type 0} (c : Bool) (h : Head) (d : List ℕ) (r : Result (Option Pairs) E) → c ≡ false → is_last_login_pdu h ≡ true →
    IfOk r (λ text. text ≡ text_in d)
    → IfOk r (λ text. text_or_bytes text d ≡ segment_of c h d)
segment_read c h d (Ok text) first last means = segment_whole c h d text first last (sym means)
segment_read c h d (Err e) first last means = tt

-- a PDU that continues another, or is continued, has no whole text
pub none_whole : ((c last : Bool) → c ≡ true → (not c && last) ≡ false) × ((c last : Bool) → last ≡ false → (not c && last) ≡ false)
none_whole = (
  λ c last e. rw e refl,
  λ c last e. elim c as (λ b. (not b && last) ≡ false) [ true ↦ refl | false ↦ e ],
)
