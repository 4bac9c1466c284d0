-- A header has one head, and the canonical header of a head has that head.
use Rattle.std.proofs.Common.{◌≡◌, ℕ, ◌+◌, ◌-◌, ◌^◌, ◌<◌, ◌≤◌, slice_range, Bool, true, false, ltb, List, [], ◌∷◌, ◌++◌, length, get_or, take, drop, replicate}
use Rattle.std.proofs.Common.{Some, None, Result, Ok, Err, refl, sym, ap, subst, ◌∙◌, arith, rules, inl, inr, length-take, length-append, append_assoc, lit<}
use Rattle.std.specs.Prelude.{◌&&◌, IfOk, IfSome, MatchOption, Option}
use Rattle.std.specs.Result.{result_err}
use Rattle.std.specs.Bool.{OnTrue}
use Rattle.std.proofs.lemmas.Bool.{cases_lt, le-ltb}
use Rattle.std.proofs.lemmas.List.{get_or-take, get_or-drop, get_or_past, take_at, drop_at, length-replicate}
use Rattle.scsi_cdb.specs.Layout.{Row, RowsHold, HaveRoom, put_all, bits_at, number_at, part}
use Rattle.scsi_cdb.proofs.LayoutLemmas.{is_table, put_all-holds, length-put_all, Hold-room, HaveRoom-filled}
use Rattle.scsi_cdb.specs.Blocks as cdb
use Rattle.scsi_cdb.proofs.RecordLemmas as records
use Rattle.iscsi_pdu.specs.declared.head.Head.{Head}
use Rattle.iscsi_pdu.specs.declared.head.Head.TheVariants.{NopOut, ScsiCommand, TaskRequest, LoginRequest, TextRequest, DataOut, LogoutRequest, NopIn}
use Rattle.iscsi_pdu.specs.declared.head.Head.TheVariants.{ScsiResponse, TaskResponse, LoginResponse, TextResponse, DataIn, LogoutResponse, ReadyToTransfer}
use Rattle.iscsi_pdu.specs.declared.head.Head.TheVariants.{AsyncMessage, Reject}
use Rattle.iscsi_pdu.specs.declared.head.HeadFault.{HeadFault}
use Rattle.iscsi_pdu.specs.Meaning.{opcode, rows, ones, blocks, frame, header, is_login, is_opcode, head_fault, HeadFits, FitsBlock, HasBlock, HasBlockRoom}
use Rattle.iscsi_pdu.specs.Meaning.{ReadsBlock, IsHeader, IsWritable, Means, whole, padding}
use Rattle.iscsi_pdu.proofs.OneHeadLaw.{nop_out-unique, scsi_command-unique, task_request-unique, login_request-unique, text_request-unique, data_out-unique}
use Rattle.iscsi_pdu.proofs.OneHeadLaw.{logout_request-unique, nop_in-unique, scsi_response-unique, task_response-unique, login_response-unique}
use Rattle.iscsi_pdu.proofs.OneHeadLaw.{text_response-unique, data_in-unique, logout_response-unique, ready_to_transfer-unique, async_message-unique}
use Rattle.iscsi_pdu.proofs.OneHeadLaw.{reject-unique}

-- ---- a header has one head

kind-unique : (b : List ℕ) (x y : Head) → opcode x ≡ opcode y → RowsHold b (rows x) → RowsHold b (rows y) → HasBlock b x → HasBlock b y → x ≡ y
kind-unique b (NopOut x) (NopOut y) e p q m n = ap NopOut (nop_out-unique b x y p q)
kind-unique b (ScsiCommand x) (ScsiCommand y) e p q m n = ap ScsiCommand (scsi_command-unique b x y p q
    (records.IsRecord-unique (part 32 47 b) x.cdb y.cdb m n))
kind-unique b (TaskRequest x) (TaskRequest y) e p q m n = ap TaskRequest (task_request-unique b x y p q)
kind-unique b (LoginRequest x) (LoginRequest y) e p q m n = ap LoginRequest (login_request-unique b x y p q)
kind-unique b (TextRequest x) (TextRequest y) e p q m n = ap TextRequest (text_request-unique b x y p q)
kind-unique b (DataOut x) (DataOut y) e p q m n = ap DataOut (data_out-unique b x y p q)
kind-unique b (LogoutRequest x) (LogoutRequest y) e p q m n = ap LogoutRequest (logout_request-unique b x y p q)
kind-unique b (NopIn x) (NopIn y) e p q m n = ap NopIn (nop_in-unique b x y p q)
kind-unique b (ScsiResponse x) (ScsiResponse y) e p q m n = ap ScsiResponse (scsi_response-unique b x y p q)
kind-unique b (TaskResponse x) (TaskResponse y) e p q m n = ap TaskResponse (task_response-unique b x y p q)
kind-unique b (LoginResponse x) (LoginResponse y) e p q m n = ap LoginResponse (login_response-unique b x y p q)
kind-unique b (TextResponse x) (TextResponse y) e p q m n = ap TextResponse (text_response-unique b x y p q)
kind-unique b (DataIn x) (DataIn y) e p q m n = ap DataIn (data_in-unique b x y p q)
kind-unique b (LogoutResponse x) (LogoutResponse y) e p q m n = ap LogoutResponse (logout_response-unique b x y p q)
kind-unique b (ReadyToTransfer x) (ReadyToTransfer y) e p q m n = ap ReadyToTransfer (ready_to_transfer-unique b x y p q)
kind-unique b (AsyncMessage x) (AsyncMessage y) e p q m n = ap AsyncMessage (async_message-unique b x y p q)
kind-unique b (Reject x) (Reject y) e p q m n = ap Reject (reject-unique b x y p q)
kind-unique b _ _ e p q m n = absurd (omega arith)

same_some : (x y z : ℕ) → Some x ≡ Some z → Some y ≡ Some z → x ≡ y
same_some x y z p q = cc

pub IsHeader-unique : (b : List ℕ) (x y : Head) (m n : ℕ) → IsHeader b x m → IsHeader b y n → (x ≡ y) × (m ≡ n)
IsHeader-unique b x y m n p q = (
  kind-unique b x y (same_some (opcode x) (opcode y) (bits_at 0 63 b) p.frame.0 q.frame.0) p.rows q.rows p.block q.block,
  same_some m n (number_at 5 7 b) p.frame.1.1.0 q.frame.1.1.0,
)

-- ---- the canonical header

pub put_all-append : (xs ys : List Row) (b : List ℕ) → put_all (xs ++ ys) b ≡ put_all ys (put_all xs b)
put_all-append [] ys b = refl
put_all-append (x ∷ xs) ys b = put_all-append xs ys _

pub HaveRoom-append : (xs ys : List Row) → HaveRoom xs → HaveRoom ys → HaveRoom (xs ++ ys)
HaveRoom-append [] ys p q = q
HaveRoom-append (x ∷ xs) ys p q = (p.0, HaveRoom-append xs ys p.1 q)

pub Hold-first : (xs ys : List Row) (b : List ℕ) → RowsHold b (xs ++ ys) → RowsHold b xs
Hold-first [] ys b h = tt
Hold-first (x ∷ xs) ys b h = (h.0, Hold-first xs ys b h.1)

Hold-second : (xs ys : List Row) (b : List ℕ) → RowsHold b (xs ++ ys) → RowsHold b ys
Hold-second [] ys b h = h
Hold-second (x ∷ xs) ys b h = Hold-second xs ys b h.1

unfoldable pub all_rows : Head → ℕ → List Row
all_rows h len = ones h ++ (frame (opcode h) len ++ (rows h ++ blocks h))

-- no two rows of a kind, its ones and the frame included, have a bit in common
pub all_rows-table : (h : Head) (len : ℕ) → is_table 48 (all_rows h len) ≡ true
unfolding all_rows lib.Count.ones lib.Count.count_trailing_zeros
all_rows-table (NopOut _) len = refl
all_rows-table _ len = refl

rows-table : (h : Head) → is_table 48 (rows h) ≡ true
unfolding lib.Count.ones lib.Count.count_trailing_zeros
rows-table (NopOut _) = refl
rows-table _ = refl

pub ones-room : (h : Head) → HaveRoom (ones h)
ones-room (NopOut _) = search rules
ones-room _ = search rules

pub opcode-small : (h : Head) → opcode h ≤ 63
opcode-small (NopOut _) = omega arith
opcode-small _ = omega arith

pub blocks-room : (h : Head) → ReadsBlock h → HaveRoom (blocks h)
blocks-room (ScsiCommand h) reads = ((refl, reads.size), tt)
blocks-room _ reads = tt

blocks-has : (b : List ℕ) (h : Head) → ReadsBlock h → RowsHold b (blocks h) → HasBlock b h
blocks-has b (ScsiCommand h) reads held =
    let e : cdb.canonical h.cdb ≡ part 32 47 b = cc (held.0) in
    subst (λ (x : List ℕ). cdb.IsRecord x h.cdb) e reads
blocks-has b _ reads held = tt

-- the rows have room
all-room : (h : Head) (len : ℕ) → HaveRoom (rows h) → ReadsBlock h → len < 2 ^ 24 → HaveRoom (all_rows h len)
unfolding all_rows
all-room h len own reads short =
    HaveRoom-append (ones h) _ (ones-room h)
    (HaveRoom-append (frame (opcode h) len) (rows h ++ blocks h) ((refl, opcode-small h), ((refl, lit< tt), ((refl, short), tt)))
    (HaveRoom-append (rows h) (blocks h) own (blocks-room h reads)))

-- they are written in three steps
all-same : (h : Head) (len : ℕ) → put_all (all_rows h len) (replicate 48 0) ≡ header h len
unfolding all_rows header
all-same h len =
    put_all-append (ones h) (frame (opcode h) len ++ (rows h ++ blocks h)) (replicate 48 0)
    ∙ put_all-append (frame (opcode h) len) (rows h ++ blocks h) (put_all (ones h) (replicate 48 0))

-- the canonical header has 48 bytes
pub header-size : (h : Head) (len : ℕ) → HaveRoom (rows h) → ReadsBlock h → len < 2 ^ 24 → length (header h len) ≡ 48
header-size h len own reads short =
    ap length (sym (all-same h len)) ∙ length-put_all 48 (all_rows h len) (replicate 48 0) refl (all_rows-table h len) (all-room h len own reads short)

-- The canonical header of a head has that head.
pub header-means : (h : Head) (len : ℕ) → HaveRoom (rows h) → ReadsBlock h → len < 2 ^ 24 → OnTrue (is_login (opcode h)) (len ≤ 8192) →
    IsHeader (header h len) h len
unfolding all_rows header
header-means h len own reads short login =
    let fields = rows h ++ blocks h in
    let zeros : List ℕ = replicate 48 0 in
    let room : HaveRoom (all_rows h len) = all-room h len own reads short in
    let same : put_all (all_rows h len) zeros ≡ header h len = all-same h len in
    let held : RowsHold (header h len) (all_rows h len) = subst (λ (b : List ℕ). RowsHold b (all_rows h len)) same
    (put_all-holds 48 (all_rows h len) zeros refl (all_rows-table h len) room) in
    let after = Hold-second (ones h) (frame (opcode h) len ++ fields) (header h len) held in
    let last = Hold-second (frame (opcode h) len) fields (header h len) after in
    record {
      size = header-size h len own reads short;
      frame = Hold-first (frame (opcode h) len) fields (header h len) after;
      rows = Hold-first (rows h) (blocks h) (header h len) last;
      block = blocks-has (header h len) h reads (Hold-second (rows h) (blocks h) (header h len) last);
      login = login;
    }

-- ---- what is read fits the table

part-bytes : (b : List ℕ) (first last : ℕ) → ((k : ℕ) → get_or b k 0 < 256) → (k : ℕ) → get_or (part first last b) k 0 < 256
unfolding part
part-bytes b first last bytes k =
    elim (cases_lt k (last + 1 - first)) [
      | inl lt ↦ rw (get_or-take (last + 1 - first) (drop first b) k 0 lt, get_or-drop first b k 0) (bytes (first + k))
      | inr le ↦ rw (get_or_past (take (last + 1 - first) (drop first b)) k 0 (omega (arith, length-take (last + 1 - first) (drop first b)))) (omega arith)
    ]

HasBlock-fits : (b : List ℕ) (h : Head) → ((k : ℕ) → get_or b k 0 < 256) → HasBlock b h → FitsBlock h
HasBlock-fits b (ScsiCommand h) bytes has = records.IsRecord-fits (part 32 47 b) h.cdb (part-bytes b 32 47 bytes) has
HasBlock-fits b _ bytes has = tt

-- each field of a head that bytes have has room
pub IsHeader-room : (b : List ℕ) (h : Head) (len : ℕ) → ((k : ℕ) → get_or b k 0 < 256) → IsHeader b h len → HaveRoom (rows h)
IsHeader-room b h len bytes r = Hold-room (rows h) 48 b bytes r.size (rows-table h) r.rows

HasBlock-reads : (b : List ℕ) (h : Head) → ((k : ℕ) → get_or b k 0 < 256) → HasBlock b h → ReadsBlock h
HasBlock-reads b (ScsiCommand h) bytes has = records.IsRecord-reads (part 32 47 b) h.cdb (part-bytes b 32 47 bytes) has
HasBlock-reads b _ bytes has = tt

pub IsHeader-reads : (b : List ℕ) (h : Head) (len : ℕ) → ((k : ℕ) → get_or b k 0 < 256) → IsHeader b h len → ReadsBlock h
IsHeader-reads b h len bytes r = HasBlock-reads b h bytes r.block

pub IsHeader-fits : (b : List ℕ) (h : Head) (len : ℕ) → ((k : ℕ) → get_or b k 0 < 256) → IsHeader b h len → HeadFits h
IsHeader-fits b h len bytes r = record { filled = HaveRoom-filled (rows h) (IsHeader-room b h len bytes r); block = HasBlock-fits b h bytes r.block }

-- ---- refusals

opcode-listed : (h : Head) → is_opcode (opcode h) ≡ true
opcode-listed (NopOut _) = refl
opcode-listed _ = refl

pub OnTrue-always : (b : Bool) (P : Type 0) → P → OnTrue b P
OnTrue-always true P p = p
OnTrue-always false P p = tt

login-fits : (b : Bool) (len : ℕ) → OnTrue b (len ≤ 8192) → (b && ltb 8192 len) ≡ false
login-fits true len le = le-ltb 8192 len le
login-fits false len le = refl

-- bytes that have a head have no fault
pub IsHeader-faultless : (b : List ℕ) (h : Head) (len : ℕ) → IsHeader b h len → head_fault b ≡ None
IsHeader-faultless b h len r =
    let op : bits_at 0 63 b ≡ opcode h = cc (r.frame.0) in
    let four : number_at 4 4 b ≡ 0 = cc (r.frame.1.0) in
    let size : number_at 5 7 b ≡ len = cc (r.frame.1.1.0) in
    rw (op, opcode-listed h, four, size, login-fits (is_login (opcode h)) len r.login) refl

-- what a reader answered, by its two clauses, is every head that the bytes have
pub only_answer : (b : List ℕ) (r : Result (Head × ℕ) HeadFault) → IfOk r (λ x. IsHeader b x.0 x.1) → result_err r ≡ head_fault b → (h : Head) (len : ℕ) →
    IsHeader b h len → r ≡ Ok (h, len)
only_answer b (Ok x) means fault h len header =
    let same = IsHeader-unique b x.0 h x.1 len means header in
    rw (← same.0, ← same.1) refl
only_answer b (Err f) means fault h len header =
    let none = IsHeader-faultless b h len header in
    absurd (cc)

pub fits_answer : (b : List ℕ) (r : Result (Head × ℕ) HeadFault) → ((k : ℕ) → get_or b k 0 < 256) → IfOk r (λ x. IsHeader b x.0 x.1)
    → IfOk r (λ x. HeadFits x.0)
fits_answer b (Ok x) bytes means = IsHeader-fits b x.0 x.1 bytes means
fits_answer b (Err f) bytes means = tt

-- the same of a reader of headers that say no segment
pub only_bare : (b : List ℕ) (r : Option Head) (P : Head → Type 0) → MatchOption r (is_opcode (bits_at 0 63 b) ≡ false) P →
    IfSome r (λ h. IsHeader b h 0) → (h : Head) → IsHeader b h 0 → r ≡ Some h
only_bare b (Some x) P read means h header = ap Some (IsHeader-unique b x h 0 0 means header).0
only_bare b None P read means h header =
    let op : bits_at 0 63 b ≡ opcode h = cc (header.frame.0) in
    let listed : is_opcode (bits_at 0 63 b) ≡ true = ap is_opcode op ∙ opcode-listed h in
    absurd (cc)

pub fits_bare : (b : List ℕ) (r : Option Head) → ((k : ℕ) → get_or b k 0 < 256) → IfSome r (λ h. IsHeader b h 0) → IfSome r (λ h. HeadFits h)
fits_bare b (Some h) bytes means = IsHeader-fits b h 0 bytes means
fits_bare b None bytes means = tt

frame-table : (op len : ℕ) → is_table 48 (frame op len) ≡ true
unfolding lib.Count.ones lib.Count.count_trailing_zeros
frame-table op len = refl

pub IsHeader-short : (b : List ℕ) (h : Head) (len : ℕ) → ((k : ℕ) → get_or b k 0 < 256) → IsHeader b h len → len < 2 ^ 24
IsHeader-short b h len bytes r = (Hold-room (frame (opcode h) len) 48 b bytes r.size (frame-table (opcode h) len) r.frame).1.1.0.1

pub short_answer : (b : List ℕ) (r : Result (Head × ℕ) HeadFault) → ((k : ℕ) → get_or b k 0 < 256) → IfOk r (λ x. IsHeader b x.0 x.1) →
    IfOk r (λ x. x.1 < 2 ^ 24)
short_answer b (Ok x) bytes means = IsHeader-short b x.0 x.1 bytes means
short_answer b (Err f) bytes means = tt

-- ---- whole bytes

-- whole bytes have one head and one segment
pub Means-unique : (b : List ℕ) (x y : Head) (c d : List ℕ) → Means b x c → Means b y d → (x ≡ y) × (c ≡ d)
Means-unique b x y c d p q =
    let same = IsHeader-unique (take 48 b) x y (length c) (length d) p.header q.header in
    (same.0, p.data_is ∙ ap (λ (n : ℕ). slice_range b 48 (48 + n)) same.1 ∙ sym q.data_is)

-- The canonical bytes of a head and its segment mean them.
pub whole-means : (h : Head) (d : List ℕ) → HaveRoom (rows h) → ReadsBlock h → length d < 2 ^ 24 → OnTrue (is_login (opcode h)) (length d ≤ 8192) →
    Means (whole h d) h d
unfolding whole
whole-means h d own reads short login =
    let r = header-means h (length d) own reads short login in
    let front : List ℕ = header h (length d) in
    let rest : List ℕ = replicate (padding (length d)) 0 in
    record {
      size = omega (arith, r.size, length-append front d, length-append (front ++ d) rest, length-replicate {A = ℕ} (padding (length d)) 0);
      header = rw (append_assoc front d rest, take_at front (d ++ rest) 48 r.size) r;
      data_is = sym (ap (λ (x : List ℕ). slice_range x 48 (48 + length d)) (append_assoc front d rest)
          ∙ ap (take (48 + length d - 48)) (drop_at front (d ++ rest) 48 r.size) ∙ take_at d rest (48 + length d - 48) (omega arith));
    }

-- ---- whole bytes and what can be written

take-bytes : (b : List ℕ) (n : ℕ) → ((k : ℕ) → get_or b k 0 < 256) → (k : ℕ) → get_or (take n b) k 0 < 256
take-bytes b n bytes k =
    elim (cases_lt k n) [
      | inl lt ↦ rw (get_or-take n b k 0 lt) (bytes k)
      | inr le ↦ rw (get_or_past (take n b) k 0 (omega (arith, length-take n b))) (omega arith)
    ]

HasBlock-room : (b : List ℕ) (h : Head) → ((k : ℕ) → get_or b k 0 < 256) → HasBlock b h → HasBlockRoom h
HasBlock-room b (ScsiCommand h) bytes has = records.IsRecord-room (part 32 47 b) h.cdb (part-bytes b 32 47 bytes) has
HasBlock-room b _ bytes has = tt

pub room-reads : (h : Head) → FitsBlock h → HasBlockRoom h → ReadsBlock h
room-reads (ScsiCommand h) fits room = records.canonical-means h.cdb room fits.unlisted
room-reads _ fits room = tt

-- what bytes mean can be written
pub Means-writable : (b : List ℕ) (h : Head) (d : List ℕ) → ((k : ℕ) → get_or b k 0 < 256) → Means b h d → IsWritable h (length d)
Means-writable b h d bytes m =
    let front = take-bytes b 48 bytes in
    record {
      fits = IsHeader-fits (take 48 b) h (length d) front m.header;
      room = IsHeader-room (take 48 b) h (length d) front m.header;
      block_room = HasBlock-room (take 48 b) h front m.header.block;
      short = IsHeader-short (take 48 b) h (length d) front m.header;
      login = m.header.login;
    }

-- the canonical bytes of what can be written mean it
pub writable-means : (h : Head) (d : List ℕ) → IsWritable h (length d) → Means (whole h d) h d
writable-means h d w = whole-means h d w.room (room-reads h w.fits.block w.block_room) w.short w.login

-- the canonical bytes of what bytes mean again mean it
pub again-means : (b : List ℕ) (h : Head) (d : List ℕ) → ((k : ℕ) → get_or b k 0 < 256) → Means b h d → Means (whole h d) h d
again-means b h d bytes m = writable-means h d (Means-writable b h d bytes m)

-- two whole PDUs with equal canonical bytes mean the same
pub whole-same : (a b : List ℕ) (g h : Head) (c d : List ℕ) → Means a g c → Means b h d → a ≡ b → (g ≡ h) × (c ≡ d)
whole-same a b g h c d m n e = Means-unique b g h c d (subst (λ (x : List ℕ). Means x g c) e m) n
