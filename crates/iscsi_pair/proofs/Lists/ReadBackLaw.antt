-- What is written is read, and two ends that suit each other.
use Rattle.std.specs.Prelude.{All, Option, Some, None, bit_and, codes, if◌then◌else◌, is_some, min, nat_le, nat_lt, not, ◌&&◌, ◌||◌, ◌==◌, ◌<◌}
use Rattle.std.proofs.Common.{◌≡◌, ◌≤◌, inl, inr, ℕ, ◌+◌, ◌*◌, ◌/◌, Bool, true, false, List, [], ◌∷◌, length, take, refl, ap, ◌∙◌, subst, arith}
use Rattle.std.proofs.lemmas.Bool.{eq-eqb, le-ltb, leb-true, ltb-true, ne_eqb}
use Rattle.std.proofs.lemmas.List.{take_all}
use Rattle.std.proofs.lemmas.List.Elements.{All-cons, All-nil}
use Rattle.scsi_cdb.specs.Layout.{number_at, bits_at}
use Rattle.scsi_cdb.specs.declared.cdb.Cdb.{Cdb}
use Rattle.scsi_cdb.specs.declared.cdb.Cdb.TheVariants.{Read10, Write10}
use Rattle.scsi_cdb.specs.declared.cdb.Transfer10.{Transfer10}
use Rattle.scsi_cdb.specs.declared.cdb.Transfer16.{Transfer16}
use Rattle.scsi_cdb.specs.declared.residual.Residual.{Residual}
use Rattle.scsi_cdb.specs.declared.residual.Residual.TheVariants.{Exact}
use Rattle.scsi_cdb.specs.Blocks.{record_of}
use Rattle.scsi_disk.specs.Disk.{Disk, disk_of, joined_blocks, disk_written}
use Rattle.scsi_disk.specs.Effect.{Effect, disk_by, effect, outcome_by, residual_of}
use Rattle.scsi_disk.specs.Plan.{plan_of}
use Rattle.scsi_disk.specs.declared.deed.Deed.TheVariants.{Write}
use Rattle.scsi_disk.specs.declared.order.Order.{Order}
use Rattle.scsi_disk.specs.declared.order.Plan.{Plan}
use Rattle.scsi_disk.specs.declared.order.Plan.TheVariants.{Take, Give}
use Rattle.scsi_unit.specs.LogicalUnit.{LogicalUnit}
use Rattle.scsi_unit.specs.Deeds.{as_write}
use Rattle.iscsi_target.specs.Execution.{as_told}
use Rattle.iscsi_pdu.specs.Meaning.{AreBytes}
use Rattle.iscsi_login.specs.Name.{IsName}
use Rattle.iscsi_login.specs.Negotiation.{ArePreferencesInRange, standard_preferences}
use Rattle.iscsi_initiator.specs.declared.request.Done.TheVariants as done
use Rattle.iscsi_initiator.specs.declared.request.Request.{Request}
use Rattle.iscsi_initiator.specs.declared.request.Request.TheVariants as requests
use Rattle.iscsi_pair.specs.World.{Opening}
use Rattle.iscsi_pair.specs.LocalDisk.{effect_here, local, local_outcomes, reading_order, reported, writing_order}
use Rattle.iscsi_pair.specs.Served.{IsNormal, SomeRunServes, disk_outcomes}
use Rattle.iscsi_pair.specs.Example.{NameSame, first_read, first_written, good_done, standard_opening}
use Rattle.iscsi_pair.proofs.Lists.BlockLemmas.{joined_back}
use Rattle.iscsi_pair.proofs.Lists.ListsAreServedLaw.{serves_all}
use Rattle.iscsi_stream.proofs.CanonBytesLaw.{cons_bytes}
use Rattle.iscsi_stream.proofs.ReadyLemmas.{and_left, and_right}

-- ---- the orders

abbrev a_write : Transfer10 → Order
a_write t = record { cdb = Write10 t; lun = 0; read = false; write = true; expected = 512 * t.blocks; deed = Write }

abbrev a_read : Transfer10 → Order
a_read t = record { cdb = Read10 t; lun = 0; read = true; write = false; expected = 512 * t.blocks; deed = Write }

-- n bytes are some
not_none : (n : ℕ) → 0 < n → not (512 * n == 0) ≡ true
not_none n some = ap not (ne_eqb (512 * n) 0 (λ none. omega (arith, some, none)))

write_order : (c : Opening) (write_cdb read_cdb bytes : List ℕ) → (p : NameSame c write_cdb read_cdb bytes) → writing_order 0 write_cdb bytes ≡ a_write p.named
write_order c write_cdb read_cdb bytes p =
    ap (λ (x : Cdb). (let order : Order = record { cdb = x; lun = 0; read = false; write = not (length bytes == 0); expected = length bytes; deed = Write }
    in order))
    p.writes
    ∙ ap (λ (n : ℕ). (let order : Order = record { cdb = Write10 p.named; lun = 0; read = false; write = not (n == 0); expected = n; deed = Write }
    in order)) p.size
    ∙ ap (λ (b : Bool). (let order : Order = record {
      cdb = Write10 p.named;
      lun = 0;
      read = false;
      write = b;
      expected = 512 * p.named.blocks;
      deed = Write;
    } in order))
    (not_none p.named.blocks p.some)

read_order : (c : Opening) (write_cdb read_cdb bytes : List ℕ) → (p : NameSame c write_cdb read_cdb bytes)
    → reading_order 0 read_cdb (length bytes) ≡ a_read p.named
read_order c write_cdb read_cdb bytes p =
    ap (λ (x : Cdb). (let order : Order = record { cdb = x; lun = 0; read = not (length bytes == 0); write = false; expected = length bytes; deed = Write }
    in order)) p.reads
    ∙ ap (λ (n : ℕ). (let order : Order = record { cdb = Read10 p.named; lun = 0; read = not (n == 0); write = false; expected = n; deed = Write }
    in order)) p.size
    ∙ ap (λ (b : Bool). (let order : Order = record {
      cdb = Read10 p.named;
      lun = 0;
      read = b;
      write = false;
      expected = 512 * p.named.blocks;
      deed = Write;
    } in order))
    (not_none p.named.blocks p.some)

-- what no disk of n blocks refuses
record AreFine (t : Transfer10) (n : ℕ) : Type 0 where
  plain : bit_and t.options 0xe0 ≡ 0
  few : nat_lt 8192 t.blocks ≡ false
  inside : nat_lt n (t.logical_block_address + t.blocks) ≡ false
  none : nat_lt n 0 ≡ false

are_fine : (c : Opening) (write_cdb read_cdb bytes : List ℕ) → (p : NameSame c write_cdb read_cdb bytes) → AreFine p.named (length c.blocks / 512)
are_fine c write_cdb read_cdb bytes p = record {
  plain = p.plain;
  few = le-ltb 8192 p.named.blocks p.few;
  inside = le-ltb (length c.blocks / 512) (p.named.logical_block_address + p.named.blocks) p.inside;
  none = le-ltb (length c.blocks / 512) 0 (omega arith);
}

-- the one is taken, and the other given
write_plan : (t : Transfer10) (n : ℕ) → AreFine t n → plan_of (a_write t) n ≡ Take (512 * t.blocks)
write_plan t n f =
    (let same : (512 * t.blocks == 512 * t.blocks) ≡ true = eq-eqb (512 * t.blocks) (512 * t.blocks) refl in rw (f.plain, f.few, f.inside, same, f.none) refl)

read_plan : (t : Transfer10) (n : ℕ) → AreFine t n → plan_of (a_read t) n ≡ Give (512 * t.blocks)
read_plan t n f = rw (f.plain, f.few, f.inside, f.none) (ap Give (let least : min (512 * t.blocks) (512 * t.blocks) ≡ 512 * t.blocks = omega arith in least))

-- as many bytes as were expected
none_over : (n : ℕ) → residual_of n n ≡ Exact
none_over n = (let same : nat_lt n n ≡ false = le-ltb n n (omega arith) in rw same refl)

-- no unit takes a READ or a WRITE for another command, or answers it of itself
write_here : (unit : Option LogicalUnit) (disk : Disk) (t : Transfer10) (bytes : List ℕ)
    → effect_here unit disk (a_write t) bytes ≡ effect false disk (a_write t) bytes
write_here None disk t bytes = refl
write_here (Some unit) disk t bytes = refl

read_here : (unit : Option LogicalUnit) (disk : Disk) (t : Transfer10) → effect_here unit disk (a_read t) [] ≡ effect false disk (a_read t) []
read_here None disk t = refl
read_here (Some unit) disk t = refl

-- the write is told to be good, and leaves its bytes
write_outcome : (most : ℕ) (c : Opening) (write_cdb read_cdb bytes : List ℕ) → NameSame c write_cdb read_cdb bytes
    → (local most c.target.extras.unit (disk_of c.blocks) (requests.Out 0 write_cdb bytes)).outcome ≡ good_done []
write_outcome most c write_cdb read_cdb bytes p =
    let disk : Disk = disk_of c.blocks in
    let unit : Option LogicalUnit = c.target.extras.unit in
    ap (λ (x : Order). reported (effect_here unit disk x bytes).outcome) (write_order c write_cdb read_cdb bytes p)
    ∙ ap (λ (x : Effect). reported x.outcome) (write_here unit disk p.named bytes)
    ∙ ap (λ (x : Plan). reported (outcome_by x disk (a_write p.named) bytes)) (write_plan p.named (length c.blocks / 512) (are_fine c write_cdb read_cdb bytes p))
    ∙ ap (λ (x : Residual). done.Command 0 0x00 [] [] x) (none_over (512 * p.named.blocks))

write_disk : (most : ℕ) (c : Opening) (write_cdb read_cdb bytes : List ℕ) → (p : NameSame c write_cdb read_cdb bytes)
    → (local most c.target.extras.unit (disk_of c.blocks) (requests.Out 0 write_cdb bytes)).disk
    ≡ disk_written p.named.logical_block_address bytes (disk_of c.blocks)
write_disk most c write_cdb read_cdb bytes p =
    let disk : Disk = disk_of c.blocks in
    let unit : Option LogicalUnit = c.target.extras.unit in
    ap (λ (x : Order). (effect_here unit disk x bytes).disk) (write_order c write_cdb read_cdb bytes p)
    ∙ ap (λ (x : Effect). x.disk) (write_here unit disk p.named bytes)
    ∙ ap (λ (x : Plan). disk_by x disk (a_write p.named) bytes) (write_plan p.named (length c.blocks / 512) (are_fine c write_cdb read_cdb bytes p))

-- the read gives them
read_outcome : (most : ℕ) (c : Opening) (write_cdb read_cdb bytes : List ℕ) → (p : NameSame c write_cdb read_cdb bytes)
    → (local most c.target.extras.unit (disk_written p.named.logical_block_address bytes (disk_of c.blocks))
    (requests.In 0 read_cdb (length bytes))).outcome ≡ good_done bytes
read_outcome most c write_cdb read_cdb bytes p =
    let first : ℕ = p.named.logical_block_address in
    let disk : Disk = disk_written first bytes (disk_of c.blocks) in
    let unit : Option LogicalUnit = c.target.extras.unit in
    let size : ℕ = 512 * p.named.blocks in
    let all : take size (joined_blocks disk.block first p.named.blocks) ≡ bytes =
    ap (take size) (joined_back c.blocks bytes first p.named.blocks p.size p.inside) ∙ take_all size bytes (let same = p.size in omega (arith, same)) in
    ap (λ (x : Order). reported (effect_here unit disk x []).outcome) (read_order c write_cdb read_cdb bytes p)
    ∙ ap (λ (x : Effect). reported x.outcome) (read_here unit disk p.named)
    ∙ ap (λ (x : Plan). reported (outcome_by x disk (a_read p.named) [])) (read_plan p.named (length c.blocks / 512) (are_fine c write_cdb read_cdb bytes p))
    ∙ ap (λ (x : Residual). done.Command 0 0x00 [] (take size (joined_blocks disk.block first p.named.blocks)) x) (none_over size)
    ∙ ap good_done all

-- both outcomes
outcomes_are : (c : Opening) (write_cdb read_cdb bytes : List ℕ) → NameSame c write_cdb read_cdb bytes
    → disk_outcomes c (requests.Out 0 write_cdb bytes ∷ requests.In 0 read_cdb (length bytes) ∷ []) ≡ good_done [] ∷ good_done bytes ∷ []
unfolding local_outcomes
outcomes_are c write_cdb read_cdb bytes p =
    let most : ℕ = c.initiator.proposal.prefs.max_recv in
    let disk : Disk = disk_of c.blocks in
    let unit : Option LogicalUnit = c.target.extras.unit in
    let wrote : (local most unit disk (requests.Out 0 write_cdb bytes)).outcome ≡ good_done [] = write_outcome most c write_cdb read_cdb bytes p in
    let gave : (local most unit (local most unit disk (requests.Out 0 write_cdb bytes)).disk (requests.In 0 read_cdb (length bytes))).outcome
    ≡ good_done bytes =
    ap (λ (d : Disk). (local most unit d (requests.In 0 read_cdb (length bytes))).outcome) (write_disk most c write_cdb read_cdb bytes p)
    ∙ read_outcome most c write_cdb read_cdb bytes p in
    λ j. wrote j ∷ gave j ∷ []

-- some run serves both
pub reads_back : (c : Opening) (write_cdb read_cdb bytes : List ℕ) → IsNormal c → NameSame c write_cdb read_cdb bytes
    → SomeRunServes c (requests.Out 0 write_cdb bytes ∷ requests.In 0 read_cdb (length bytes) ∷ []) (good_done [] ∷ good_done bytes ∷ [])
reads_back c write_cdb read_cdb bytes o p =
    let all : List Request = requests.Out 0 write_cdb bytes ∷ requests.In 0 read_cdb (length bytes) ∷ [] in
    let most : length bytes ≤ 4194304 = (let few = p.few in let size = p.size in omega (arith, few, size)) in
    subst (SomeRunServes c all) (outcomes_are c write_cdb read_cdb bytes p) (serves_all c all o ((p.write_room, most), ((p.read_room, most), tt)))

-- ---- the first block

abbrev are_bytes : List ℕ → Bool
are_bytes [] = true
are_bytes (x ∷ xs) = nat_lt x 256 && are_bytes xs

bytes_are : (b : List ℕ) → are_bytes b ≡ true → AreBytes b
bytes_are [] e = λ i. omega arith
bytes_are (x ∷ xs) e = cons_bytes x xs (ltb-true x 256 (and_left (nat_lt x 256) (are_bytes xs) e)) (bytes_are xs (and_right (nat_lt x 256) (are_bytes xs) e))

abbrev first_block : Transfer10
first_block = record { options = 0; logical_block_address = 0; group_number = 0; blocks = 1; control = 0 }

write_is : record_of first_written ≡ Write10 first_block
unfolding record_of number_at bits_at
write_is = refl

read_is : record_of first_read ≡ Read10 first_block
unfolding record_of number_at bits_at
read_is = refl

pub first_same : (c : Opening) (bytes : List ℕ) → 512 ≤ length c.blocks → length bytes ≡ 512 → NameSame c first_written first_read bytes
first_same c bytes some e = record {
  named = first_block;
  writes = write_is;
  reads = read_is;
  plain = refl;
  some = omega arith;
  few = omega arith;
  inside = omega (arith, some);
  size = e;
  write_room = (omega arith, refl, bytes_are first_written refl);
  read_room = (omega arith, refl, bytes_are first_read refl);
}

-- ---- two ends that suit each other

abbrev are_named : List ℕ → Bool
are_named [] = true
are_named (x ∷ xs) = (nat_le 0x21 x && nat_le x 0x7e) && are_named xs

each_named : (name : List ℕ) → are_named name ≡ true → All (λ (byte : ℕ). (0x21 ≤ byte) × (byte ≤ 0x7e)) name
each_named [] e = All-nil (λ (byte : ℕ). (0x21 ≤ byte) × (byte ≤ 0x7e))
each_named (x ∷ xs) e =
    let here : (nat_le 0x21 x && nat_le x 0x7e) ≡ true = and_left (nat_le 0x21 x && nat_le x 0x7e) (are_named xs) e in
    All-cons (λ (byte : ℕ). (0x21 ≤ byte) × (byte ≤ 0x7e)) x xs
    (leb-true 0x21 x (and_left (nat_le 0x21 x) (nat_le x 0x7e) here), leb-true x 0x7e (and_right (nat_le 0x21 x) (nat_le x 0x7e) here))
    (each_named xs (and_right (nat_le 0x21 x && nat_le x 0x7e) (are_named xs) e))

a_name : (name : List ℕ) → nat_lt 0 (length name) ≡ true → nat_le (length name) 223 ≡ true → are_named name ≡ true → IsName name
a_name name some few each = record { some = ltb-true 0 (length name) some; few = leb-true (length name) 223 few; each = each_named name each }

pub standard_normal : (blocks : List ℕ) → IsNormal (standard_opening blocks)
standard_normal blocks = record {
  opening = record {
    initiator = record {
      names = record {
        initiator = a_name (codes "iqn.2026-01.example:host") refl refl refl;
        target = a_name (codes "iqn.2026-01.example:disk") refl refl refl;
      };
      in_range = record { preferences = ranges; start = tt; least = omega arith; most = omega arith };
    };
    isid = refl;
    cmd_sn = omega arith;
    preferences = ranges;
    group = omega arith;
    tsih = omega arith;
    stat_sn = omega arith;
  };
  suits = record { name = inr refl; auth = inl refl; access = refl; chap = refl };
  session = refl;
}
  where
    ranges : ArePreferencesInRange standard_preferences
    ranges = record {
      max_burst = (omega arith, omega arith);
      first_burst = (omega arith, omega arith);
      time2wait = (omega arith, omega arith);
      time2retain = (omega arith, omega arith);
      max_recv = (omega arith, omega arith);
    }
