-- The answer to a Text Request (RFC 7143, sections 6.4, 11.10, 11.11 and appendix C).
use Rattle.std.specs.Prelude.{ℕ, Bool, true, false, not, ◌==◌, ◌||◌, ◌&&◌, ◌++◌, nat_lt, if◌then◌else◌, List, [], ◌∷◌, length, Option, Some, None, is_some, codes}
use Rattle.std.specs.Str.{bytes_eq}
use Rattle.iscsi_text.specs.Key.{is_among, kind_of}
use Rattle.iscsi_text.specs.Value.{Typed}
use Rattle.iscsi_text.specs.Value as values
use Rattle.iscsi_text.specs.Text.{Pairs}
use Rattle.iscsi_text.specs.Numeral.{canonical_number}
use Rattle.iscsi_text.specs.Canonical.{canonical_text}
use Rattle.iscsi_text.specs.Reading.{text_in, in_order, has_key}
use Rattle.iscsi_pdu.specs.declared.head.text_request.TextRequest.{TextRequest}
use Rattle.iscsi_pdu.specs.declared.head.Head.{Head}
use Rattle.iscsi_pdu.specs.declared.head.Head.TheVariants as heads
use Rattle.iscsi_stream.specs.Stream.{Message}
use Rattle.iscsi_target_session.specs.Configured.{TargetSettings}
use Rattle.iscsi_target_session.specs.Session.{Session, Reply, send_response, max_cmd_sn_with}
use Rattle.iscsi_pdu.specs.Fields.{reserved_tag}
use Rattle.iscsi_target_session.specs.Rejecting.{reject_and_close}
use Rattle.iscsi_pdu.specs.Rules.{text_at_fault}
use Rattle.iscsi_target_session.specs.LoginText.{login_value}

-- ---- the text

-- All targets are asked for, or the one of this session, or this one by its name (appendix C). A
-- discovery session takes each of these too (own rule).
abbrev pub asks_for : List ℕ → Option Typed → Bool
asks_for name (Some (values.Plain asked)) = is_among (codes "All" ∷ [] ∷ name ∷ []) asked
asks_for name _ = false

-- The text asks for this target (appendix C).
abbrev pub is_asked : List ℕ → Pairs → Bool
is_asked name pairs = asks_for name (login_value (codes "SendTargets") pairs)

-- The word that answers a key outside a login (section 6.2; own rule).
abbrev pub word_for : List ℕ → List ℕ
word_for key = if is_some (kind_of key) then codes "Reject" else codes "NotUnderstood"

-- The answer to a key, whatever its value. `SendTargets` has none of its own, and where it is
-- answered by the target's name, that stands in place of an answer to `TargetName` (own rule).
abbrev pub reply_to : Bool → List ℕ → Pairs
reply_to asked key =
    if bytes_eq key (codes "SendTargets") then []
    else if asked && bytes_eq key (codes "TargetName") then []
    else (key, values.Plain (word_for key)) ∷ []

-- The answers to the keys of a text, one for a key that stands again (section 6.2; own rule).
abbrev pub replies : Bool → Pairs → Pairs
replies asked [] = []
replies asked (p ∷ pairs) =
    if has_key p.0 pairs then replies asked pairs else reply_to asked p.0 ++ replies asked pairs

-- The target's name, where it is asked for (appendix C).
abbrev pub name_if : Bool → List ℕ → Pairs
name_if true name = (codes "TargetName", values.Plain name) ∷ []
name_if false name = []

-- The answer to a text, in the order of its keys (section 6.2; the order is own rule).
abbrev pub reply_pairs : List ℕ → Pairs → Pairs
reply_pairs name pairs =
    in_order (name_if (is_asked name pairs) name ++ replies (is_asked name pairs) pairs)

-- The address of a portal, where it is told, and behind a comma the tag of its group (section 13.8).
abbrev pub address_if : Option (List ℕ) → ℕ → Pairs
address_if None group = []
address_if (Some portal) group =
    (codes "TargetAddress", values.Plain (portal ++ codes "," ++ canonical_number group)) ∷ []

-- The address of the target's portal, where it is told (section 13.8).
abbrev pub address_text : TargetSettings → List ℕ
address_text settings = canonical_text (address_if settings.extras.portal settings.group)

-- The target's name and, where it is told, the address of its portal behind it (appendix C). Not by
-- the order of keys: initiators want the name first.
abbrev pub announced : TargetSettings → List ℕ
announced settings = canonical_text (name_if true settings.name) ++ address_text settings

-- The text that answers a text: what is announced stands in front (appendix C; the order is own
-- rule).
unfoldable pub reply_text : TargetSettings → Pairs → List ℕ
reply_text settings pairs =
    if is_some settings.extras.portal && is_asked settings.name pairs
    then announced settings ++ canonical_text (in_order (replies true pairs))
    else canonical_text (reply_pairs settings.name pairs)

-- ---- the request

-- The head of the answer, which is whole (section 11.11).
abbrev pub text_head : Session → ℕ → TextRequest → Head
text_head s waiting h = heads.TextResponse (record {
  is_final = true;
  continues = false;
  lun = None;
  initiator_task_tag = h.initiator_task_tag;
  target_transfer_tag = reserved_tag;
  stat_sn = s.stat_sn;
  exp_cmd_sn = s.exp_cmd_sn;
  max_cmd_sn = max_cmd_sn_with s waiting;
})

-- The answer has at most as many bytes as the initiator takes in one segment (section 13.12; that a
-- longer one closes the session is own rule).
abbrev pub text_reply : Session → ℕ → Message → TextRequest → List ℕ → Reply
text_reply s waiting m h text =
    if nat_lt s.held.initiator_max_recv (length text) then reject_and_close s waiting text_at_fault m
    else send_response s (text_head s waiting h) text

-- The segment is a text, or not (section 6.1).
abbrev pub text_reply_to : Session → ℕ → Message → TextRequest → Option Pairs → Reply
text_reply_to s waiting m h None = reject_and_close s waiting text_at_fault m
text_reply_to s waiting m h (Some pairs) =
    text_reply s waiting m h (reply_text s.settings pairs)

-- A Text Request, which has to be whole (section 11.10; own rule).
abbrev pub on_text_request : Session → ℕ → Message → TextRequest → List ℕ → Reply
on_text_request s waiting m h bytes =
    if not h.is_final || (h.continues || not (h.target_transfer_tag == reserved_tag))
    then reject_and_close s waiting text_at_fault m
    else text_reply_to s waiting m h (text_in bytes)
