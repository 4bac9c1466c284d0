-- Messages that stand at the front of a stream, and login PDUs that are read as what they were written for.
use Rattle.std.proofs.Common.{◌≡◌, ◌<◌, ◌≤◌, ℕ, false, List, ◌∷◌, ◌++◌, length, Some, refl, sym, ap, ◌∙◌, subst, append_assoc, arith}
use Rattle.std.specs.Prelude.{not, ◌&&◌, ◌==◌, is_some, IfSome, ◌^◌}
use Rattle.iscsi_text.specs.Text.{Pairs}
use Rattle.iscsi_text.specs.Canonical.{canonical_text}
use Rattle.iscsi_text.specs.Reading.{text_in}
use Rattle.iscsi_pdu.specs.declared.head.Head.{Head}
use Rattle.iscsi_pdu.specs.declared.head.Head.TheVariants as heads
use Rattle.iscsi_pdu.specs.declared.head.login_request.LoginRequest.{LoginRequest}
use Rattle.iscsi_pdu.specs.declared.head.login_response.LoginResponse.{LoginResponse}
use Rattle.iscsi_pdu.specs.Meaning.{Means, IsWritable}
use Rattle.iscsi_pdu.proofs.HeaderLemmas.{writable-means}
use Rattle.iscsi_stream.specs.declared.logins.Logins.{Logins}
use Rattle.iscsi_stream.specs.Segment.{Text, Bytes, continues, logins_after, segment_of, segment_bytes}
use Rattle.iscsi_stream.specs.Stream.{Message, ReadsAs}
use Rattle.iscsi_stream.specs.Canonical.{canonical_bytes}
use Rattle.iscsi_stream.proofs.OneMeaningLaw.{same_begin, same_message}
use Rattle.iscsi_stream.proofs.SegmentLemmas.{segment_plain, segment_whole}

-- ---- the front of a stream

-- The canonical form of the message means it behind login PDUs that said this.
pub record Readable (logins : Logins) (m : Message) : Type 0 where
  pub means : Means (canonical_bytes m) m.head (segment_bytes m.segment)
  pub meaning : m.segment ≡ segment_of (continues logins m.head) m.head (segment_bytes m.segment)

-- the message stands at the front of what was read: of that, these are read behind it
pub record IsFirst (limit : ℕ) (logins : Logins) (x y : List ℕ) (r : Message) (ts : List Message) : Type 0 where
  pub given : List ℕ
  pub reads : ReadsAs limit (logins_after logins r.head) given ts
  pub rest : given ++ x ≡ y

pub first_is : (limit : ℕ) (logins : Logins) (given x y : List ℕ) (t r : Message) (ts : List Message) → Readable logins r → ReadsAs limit logins given (t ∷ ts)
    → given ++ x ≡ canonical_bytes r ++ y
    → (t ≡ r) × IsFirst limit logins x y r ts
unfolding ReadsAs
first_is limit logins given x y t r ts m p e =
    let b = p.0 in
    let whole : b.bytes ++ (b.rest ++ x) ≡ canonical_bytes r ++ y = sym (append_assoc b.bytes b.rest x) ∙ ap (λ (z : List ℕ). z ++ x) (sym b.whole) ∙ e in
    let same = same_begin b.bytes (b.rest ++ x) (canonical_bytes r) y t.head r.head b.segment (segment_bytes r.segment) whole b.means m.means in
    let segment : t.segment ≡ r.segment =
    b.meaning ∙ ap (λ (h : Head). segment_of (continues logins h) h b.segment) same.head ∙ ap (segment_of (continues logins r.head) r.head) same.segment
    ∙ sym m.meaning in (
      same_message t r same.head segment,
      record {
        given = b.rest;
        reads = subst (λ (h : Head). ReadsAs limit (logins_after logins h) b.rest ts) same.head p.1;
        rest = same.rest;
      },
    )

-- ---- login PDUs

-- the fields of a Login Request have room in the header
pub record RequestFits (h : LoginRequest) : Type 0 where
  pub current_stage : h.current_stage ≤ 3
  pub has_next : is_some h.next_stage ≡ h.transits
  pub next_stage : IfSome h.next_stage (λ n. n ≤ 3)
  pub version_max : h.version_max < 256
  pub version_min : h.version_min < 256
  pub isid : length h.isid ≡ 6
  pub tsih : h.tsih < 2 ^ 16
  pub initiator_task_tag : h.initiator_task_tag < 2 ^ 32
  pub connection_id : h.connection_id < 2 ^ 16
  pub cmd_sn : h.cmd_sn < 2 ^ 32
  pub exp_stat_sn : h.exp_stat_sn < 2 ^ 32

-- the fields of a Login Response have room in the header
pub record ResponseFits (h : LoginResponse) : Type 0 where
  pub current_stage : h.current_stage ≤ 3
  pub has_next : is_some h.next_stage ≡ h.transits
  pub next_stage : IfSome h.next_stage (λ n. n ≤ 3)
  pub version_max : h.version_max < 256
  pub version_active : h.version_active < 256
  pub isid : length h.isid ≡ 6
  pub tsih : h.tsih < 2 ^ 16
  pub initiator_task_tag : h.initiator_task_tag < 2 ^ 32
  pub has_stat_sn : is_some h.stat_sn ≡ (h.status_class == 0)
  pub stat_sn : IfSome h.stat_sn (λ n. n < 2 ^ 32)
  pub exp_cmd_sn : h.exp_cmd_sn < 2 ^ 32
  pub max_cmd_sn : h.max_cmd_sn < 2 ^ 32
  pub status_class : h.status_class < 256
  pub status_detail : h.status_detail < 256

request_writable : (h : LoginRequest) (n : ℕ) → RequestFits h → n ≤ 8192 → IsWritable (heads.LoginRequest h) n
request_writable h n f le = record {
  fits = record {
    filled = (refl, (refl, ((refl, f.current_stage), ((f.has_next, f.next_stage), (refl, (refl, (refl, (refl, (refl, (refl, (refl, (refl, tt))))))))))));
    block = tt;
  };
  room = (
    refl,
    (
      refl,
      (
        (refl, f.current_stage),
        (
          (f.has_next, f.next_stage),
          (
            (refl, f.version_max),
            (
              (refl, f.version_min),
              (
                (refl, f.isid),
                ((refl, f.tsih), ((refl, f.initiator_task_tag), ((refl, f.connection_id), ((refl, f.cmd_sn), ((refl, f.exp_stat_sn), tt))))),
              ),
            ),
          ),
        ),
      ),
    ),
  );
  block_room = tt;
  short = omega (arith, le);
  login = le;
}

response_writable : (h : LoginResponse) (n : ℕ) → ResponseFits h → n ≤ 8192 → IsWritable (heads.LoginResponse h) n
response_writable h n f le = record {
  fits = record {
    filled = (
      refl,
      (
        refl,
        (
          (refl, f.current_stage),
          (
            (f.has_next, f.next_stage),
            (refl, (refl, (refl, (refl, (refl, (f.has_stat_sn, (refl, (refl, (refl, (refl, tt)))))))))),
          ),
        ),
      ),
    );
    block = tt;
  };
  room = (
    refl,
    (
      refl,
      (
        (refl, f.current_stage),
        (
          (f.has_next, f.next_stage),
          (
            (refl, f.version_max),
            (
              (refl, f.version_active),
              (
                (refl, f.isid),
                (
                  (refl, f.tsih),
                  (
                    (refl, f.initiator_task_tag),
                    (
                      (f.has_stat_sn, f.stat_sn),
                      ((refl, f.exp_cmd_sn), ((refl, f.max_cmd_sn), ((refl, f.status_class), ((refl, f.status_detail), tt)))),
                    ),
                  ),
                ),
              ),
            ),
          ),
        ),
      ),
    ),
  );
  block_room = tt;
  short = omega (arith, le);
  login = le;
}

-- the message with this head and this text
abbrev pub saying : Head → Pairs → Message
saying head pairs = record { head = head; segment = Text pairs }

-- an answer is read as it was written
pub response_readable : (logins : Logins) (h : LoginResponse) (pairs : Pairs) → logins.response ≡ false → h.continues ≡ false → ResponseFits h
    → length (canonical_text pairs) ≤ 8192
    → text_in (canonical_text pairs) ≡ Some pairs → Readable logins (saying (heads.LoginResponse h) pairs)
unfolding segment_bytes continues
response_readable logins h pairs first last f le read = record {
  means = writable-means (heads.LoginResponse h) (canonical_text pairs) (response_writable h (length (canonical_text pairs)) f le);
  meaning = segment_whole logins.response (heads.LoginResponse h) (canonical_text pairs) (Some pairs) first (ap not last) read;
}

-- a text that goes whole is read as it was written
pub request_readable : (logins : Logins) (h : LoginRequest) (pairs : Pairs) → logins.request ≡ false → h.continues ≡ false → RequestFits h
    → length (canonical_text pairs) ≤ 8192
    → text_in (canonical_text pairs) ≡ Some pairs → Readable logins (saying (heads.LoginRequest h) pairs)
unfolding segment_bytes continues
request_readable logins h pairs first last f le read = record {
  means = writable-means (heads.LoginRequest h) (canonical_text pairs) (request_writable h (length (canonical_text pairs)) f le);
  meaning = segment_whole logins.request (heads.LoginRequest h) (canonical_text pairs) (Some pairs) first (ap not last) read;
}

-- a part of a text is read as it was written
pub part_readable : (logins : Logins) (h : LoginRequest) (bytes : List ℕ) → (not logins.request && not h.continues) ≡ false → RequestFits h
    → length bytes ≤ 8192
    → Readable logins (record { head = heads.LoginRequest h; segment = Bytes bytes })
unfolding segment_bytes continues
part_readable logins h bytes part f le = record {
  means = writable-means (heads.LoginRequest h) bytes (request_writable h (length bytes) f le);
  meaning = segment_plain logins.request (heads.LoginRequest h) bytes part;
}
