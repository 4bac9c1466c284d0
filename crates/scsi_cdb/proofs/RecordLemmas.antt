-- Records of descriptor blocks.
use Rattle.std.proofs.Common.{◌≡◌, ℕ, Bool, true, false, List, Some, length, refl, sym, ap, ◌∙◌, arith, ◌⊎◌, inl, inr, get_or, ◌<◌, replicate, subst}
use Rattle.std.specs.Prelude.{◌↔◌, if◌then◌else◌, ◌&&◌, ◌||◌, ◌==◌}
use Rattle.std.proofs.lemmas.Bool.{both_ways, eqb-true, eqb-false, ne_eqb, and_parts}
use Rattle.std.proofs.lemmas.List.{take_all}
use Rattle.scsi_cdb.specs.declared.cdb.Cdb.{Cdb}
use Rattle.scsi_cdb.specs.declared.cdb.Cdb.TheVariants.{TestUnitReady, Inquiry, Capacity10, Read10, Write10, SyncCache10, Read16, Write16, Capacity16}
use Rattle.scsi_cdb.specs.declared.cdb.Cdb.TheVariants.{ReportLuns, Unknown}
use Rattle.scsi_cdb.specs.declared.cdb.Transfer10.{Transfer10}
use Rattle.scsi_cdb.specs.declared.cdb.Transfer16.{Transfer16}
use Rattle.scsi_cdb.specs.declared.cdb.Synchronize10.{Synchronize10}
use Rattle.scsi_cdb.specs.Layout.{RowsHold, HaveRoom, part, number_at, bits_at}
use Rattle.scsi_cdb.specs.Blocks.{IsRecord, IsUnlisted, CdbFits, canonical, cdb_rows, is_block_listed, record_by, record_of, transfer10, transfer16, synchronize10}
use Rattle.scsi_cdb.proofs.LayoutLemmas.{is_table, put_all-holds, length-put_all, Hold-room, HaveRoom-filled}

pub part-whole : (b : List ℕ) → length b ≡ 16 → part 0 15 b ≡ b
unfolding part
part-whole b len = take_all 16 b (omega arith)

pub is_unknown : (b : List ℕ) → length b ≡ 16 → is_block_listed b ≡ false → IsRecord b (Unknown b)
is_unknown b len unlisted = record { size = len; rows = (rw (part-whole b len) refl, tt); unlisted = unlisted }

-- ---- a block has one record

transfer10-unique : (b : List ℕ) (x y : Transfer10) → RowsHold b (transfer10 x) → RowsHold b (transfer10 y) → x ≡ y
transfer10-unique b x y p q = let e : ◌≡◌ {A = Transfer10} (record x { logical_block_address = x.logical_block_address })
    (record y { logical_block_address = y.logical_block_address }) = cc in e

transfer16-unique : (b : List ℕ) (x y : Transfer16) → RowsHold b (transfer16 x) → RowsHold b (transfer16 y) → x ≡ y
transfer16-unique b x y p q = let e : ◌≡◌ {A = Transfer16} (record x { logical_block_address = x.logical_block_address })
    (record y { logical_block_address = y.logical_block_address }) = cc in e

synchronize10-unique : (b : List ℕ) (x y : Synchronize10) → RowsHold b (synchronize10 x) → RowsHold b (synchronize10 y) → x ≡ y
synchronize10-unique b x y p q = let e : ◌≡◌ {A = Synchronize10} (record x { logical_block_address = x.logical_block_address })
    (record y { logical_block_address = y.logical_block_address }) = cc in e

-- a record other than Unknown
abbrev IsNamed : Cdb → Type 0
IsNamed (Unknown x) = ⊥
IsNamed _ = Unit {0}

abbrev code_of : Cdb → ℕ
code_of (TestUnitReady _) = 0x00
code_of (Inquiry _ _ _ _) = 0x12
code_of (Capacity10 _) = 0x25
code_of (Read10 _) = 0x28
code_of (Write10 _) = 0x2a
code_of (SyncCache10 _) = 0x35
code_of (Read16 _) = 0x88
code_of (Write16 _) = 0x8a
code_of (Capacity16 _ _) = 0x9e
code_of (ReportLuns _ _ _) = 0xa0
code_of (Unknown _) = 0

rows-code : (b : List ℕ) (c : Cdb) → IsNamed c → RowsHold b (cdb_rows c) → code_of c ≡ number_at 0 0 b
rows-code b (Unknown _) n p = absurd n
rows-code b _ n p = cc

rows-same : (b : List ℕ) (c d : Cdb) → IsNamed c → IsNamed d → code_of c ≡ code_of d → RowsHold b (cdb_rows c) → RowsHold b (cdb_rows d) → c ≡ d
rows-same b (TestUnitReady x) (TestUnitReady y) m n e p q = cc
rows-same b (Inquiry x1 x2 x3 x4) (Inquiry y1 y2 y3 y4) m n e p q = cc
rows-same b (Capacity10 x) (Capacity10 y) m n e p q = cc
rows-same b (Read10 x) (Read10 y) m n e p q = ap Read10 (transfer10-unique b x y p.1 q.1)
rows-same b (Write10 x) (Write10 y) m n e p q = ap Write10 (transfer10-unique b x y p.1 q.1)
rows-same b (SyncCache10 x) (SyncCache10 y) m n e p q = ap SyncCache10 (synchronize10-unique b x y p.1 q.1)
rows-same b (Read16 x) (Read16 y) m n e p q = ap Read16 (transfer16-unique b x y p.1 q.1)
rows-same b (Write16 x) (Write16 y) m n e p q = ap Write16 (transfer16-unique b x y p.1 q.1)
rows-same b (Capacity16 x1 x2) (Capacity16 y1 y2) m n e p q = cc
rows-same b (ReportLuns x1 x2 x3) (ReportLuns y1 y2 y3) m n e p q = cc
rows-same b (Unknown x) d m n e p q = absurd m
rows-same b c (Unknown y) m n e p q = absurd n
rows-same b _ _ m n e p q = absurd (omega arith)

rows-unique : (b : List ℕ) (c d : Cdb) → IsNamed c → IsNamed d → RowsHold b (cdb_rows c) → RowsHold b (cdb_rows d) → c ≡ d
rows-unique b c d m n p q = rows-same b c d m n (rows-code b c m p ∙ sym (rows-code b d n q)) p q

-- what holds in a block says whether it is listed
listed : (b : List ℕ) (c : Cdb) → IsRecord b c → (is_block_listed b ≡ true) × IsNamed c ⊎ (is_block_listed b ≡ false) × (c ≡ Unknown b)
listed b (Unknown x) r =
    let e : x ≡ b = cc (r.rows.0, part-whole b r.size) in
    inr (rw (← e) r.unlisted, ap Unknown e)
listed b (Capacity16 x y) r =
    let e : number_at 0 0 b ≡ 0x9e = cc (r.rows.0) in
    let f : bits_at 1 31 b ≡ 16 = cc (r.rows.1.0) in
    inl (rw (e, f) refl, tt)
listed b (TestUnitReady _) r = let e : number_at 0 0 b ≡ 0x00 = cc (r.rows.0) in inl (rw e refl, tt)
listed b (Inquiry _ _ _ _) r = let e : number_at 0 0 b ≡ 0x12 = cc (r.rows.0) in inl (rw e refl, tt)
listed b (Capacity10 _) r = let e : number_at 0 0 b ≡ 0x25 = cc (r.rows.0) in inl (rw e refl, tt)
listed b (Read10 _) r = let e : number_at 0 0 b ≡ 0x28 = cc (r.rows.0) in inl (rw e refl, tt)
listed b (Write10 _) r = let e : number_at 0 0 b ≡ 0x2a = cc (r.rows.0) in inl (rw e refl, tt)
listed b (SyncCache10 _) r = let e : number_at 0 0 b ≡ 0x35 = cc (r.rows.0) in inl (rw e refl, tt)
listed b (Read16 _) r = let e : number_at 0 0 b ≡ 0x88 = cc (r.rows.0) in inl (rw e refl, tt)
listed b (Write16 _) r = let e : number_at 0 0 b ≡ 0x8a = cc (r.rows.0) in inl (rw e refl, tt)
listed b (ReportLuns _ _ _) r = let e : number_at 0 0 b ≡ 0xa0 = cc (r.rows.0) in inl (rw e refl, tt)

pub IsRecord-unique : (b : List ℕ) (c d : Cdb) → IsRecord b c → IsRecord b d → c ≡ d
IsRecord-unique b c d p q =
    elim (listed b c p) [
      | inl x ↦ elim (listed b d q) [
        | inl y ↦ rows-unique b c d x.1 y.1 p.rows q.rows
        | inr y ↦ absurd (both_ways _ y.0 x.0)
      ]
      | inr x ↦ elim (listed b d q) [
        | inl y ↦ absurd (both_ways _ x.0 y.0)
        | inr y ↦ x.1 ∙ sym y.1
      ]
    ]

-- ---- the canonical spelling

rows-table : (c : Cdb) → is_table 16 (cdb_rows c) ≡ true
unfolding lib.Count.ones lib.Count.count_trailing_zeros
rows-table (TestUnitReady _) = refl
rows-table (Inquiry _ _ _ _) = refl
rows-table (Capacity10 _) = refl
rows-table (Read10 _) = refl
rows-table (Write10 _) = refl
rows-table (SyncCache10 _) = refl
rows-table (Read16 _) = refl
rows-table (Write16 _) = refl
rows-table (Capacity16 _ _) = refl
rows-table (ReportLuns _ _ _) = refl
rows-table (Unknown _) = refl

-- The canonical spelling of a record that fits the table means the record.
pub canonical-means : (c : Cdb) → HaveRoom (cdb_rows c) → IsUnlisted c → IsRecord (canonical c) c
canonical-means c room unlisted = record {
  size = length-put_all 16 (cdb_rows c) (replicate 16 0) refl (rows-table c) room;
  rows = put_all-holds 16 (cdb_rows c) (replicate 16 0) refl (rows-table c) room;
  unlisted = unlisted;
}

-- Each field of a record that bytes mean has room.
pub IsRecord-room : (b : List ℕ) (c : Cdb) → ((k : ℕ) → get_or b k 0 < 256) → IsRecord b c → HaveRoom (cdb_rows c)
IsRecord-room b c bytes r = Hold-room (cdb_rows c) 16 b bytes r.size (rows-table c) r.rows

-- A record that bytes mean fits the table.
pub IsRecord-fits : (b : List ℕ) (c : Cdb) → ((k : ℕ) → get_or b k 0 < 256) → IsRecord b c → CdbFits c
IsRecord-fits b c bytes r = record { filled = HaveRoom-filled (cdb_rows c) (IsRecord-room b c bytes r); unlisted = r.unlisted }

-- The canonical spelling of a record is that of no other.
pub canonical-is_one : (b : List ℕ) (c d : Cdb) → HaveRoom (cdb_rows c) → IsUnlisted c → b ≡ canonical c → IsRecord b d ↔ (d ≡ c)
canonical-is_one b c d room unlisted e =
    let r : IsRecord b c = subst (λ (x : List ℕ). IsRecord x c) (sym e) (canonical-means c room unlisted) in
    (λ s. IsRecord-unique b d c s r, λ s. subst (λ (x : Cdb). IsRecord b x) (sym s) r)

-- A record that bytes mean is read back from its canonical spelling.
pub IsRecord-reads : (b : List ℕ) (c : Cdb) → ((k : ℕ) → get_or b k 0 < 256) → IsRecord b c → IsRecord (canonical c) c
IsRecord-reads b c bytes r = canonical-means c (IsRecord-room b c bytes r) r.unlisted

-- ---- the record is computed

by_test : (b : List ℕ) (t : Bool) (x y : Cdb) → (t ≡ true → IsRecord b x) → (t ≡ false → IsRecord b y) → IsRecord b (if t then x else y)
by_test b true x y p q = p refl
by_test b false x y p q = q refl

-- the operation code stands in byte 0
coded : (b : List ℕ) (code c : ℕ) → number_at 0 0 b ≡ code → (code == c) ≡ true → Some c ≡ Some (number_at 0 0 b)
coded b code c e t = ap (λ (n : ℕ). Some n) (sym (e ∙ eqb-true code c t))

or_false : (x y : Bool) → x ≡ false → y ≡ false → (x || y) ≡ false
or_false true y e f = e
or_false false y e f = f

other : (b : List ℕ) (code c : ℕ) → number_at 0 0 b ≡ code → (code == c) ≡ false → (c == number_at 0 0 b) ≡ false
other b code c e t = ne_eqb c (number_at 0 0 b) (λ q. eqb-false code c t (sym (q ∙ e)))

by_code : (b : List ℕ) (code : ℕ) → length b ≡ 16 → number_at 0 0 b ≡ code → IsRecord b (record_by code b)
by_code b code len e =
    by_test b (code == 0x00) _ _ (λ t. record { size = len; rows = (coded b code 0x00 e t, (refl, tt)); unlisted = tt }) (λ f0.
    by_test b (code == 0x12) _ _ (λ t. record { size = len; rows = (coded b code 0x12 e t, (refl, (refl, (refl, (refl, tt))))); unlisted = tt }) (λ f1.
    by_test b (code == 0x25) _ _ (λ t. record { size = len; rows = (coded b code 0x25 e t, (refl, tt)); unlisted = tt }) (λ f2.
    by_test b (code == 0x28) _ _ (λ t. record { size = len; rows = (coded b code 0x28 e t, (refl, (refl, (refl, (refl, (refl, tt)))))); unlisted = tt }) (λ f3.
    by_test b (code == 0x2a) _ _ (λ t. record { size = len; rows = (coded b code 0x2a e t, (refl, (refl, (refl, (refl, (refl, tt)))))); unlisted = tt }) (λ f4.
    by_test b (code == 0x35) _ _ (λ t. record { size = len; rows = (coded b code 0x35 e t, (refl, (refl, (refl, (refl, (refl, tt)))))); unlisted = tt }) (λ f9.
    by_test b (code == 0x88) _ _ (λ t. record { size = len; rows = (coded b code 0x88 e t, (refl, (refl, (refl, (refl, (refl, tt)))))); unlisted = tt }) (λ f5.
    by_test b (code == 0x8a) _ _ (λ t. record { size = len; rows = (coded b code 0x8a e t, (refl, (refl, (refl, (refl, (refl, tt)))))); unlisted = tt }) (λ f6.
    by_test b (code == 0x9e && bits_at 1 0x1f b == 0x10) _ _
    (λ t. record {
      size = len;
      rows = (
        coded b code 0x9e e (and_parts _ _ t).0,
        (
          ap (λ (n : ℕ). Some n)
              (sym (eqb-true (bits_at 1 0x1f b) 0x10 (and_parts _ _ t).1)),
          (refl, (refl, tt)),
        ),
      );
      unlisted = tt;
    }) (λ f7.
    by_test b (code == 0xa0) _ _ (λ t. record { size = len; rows = (coded b code 0xa0 e t, (refl, (refl, (refl, tt)))); unlisted = tt }) (λ f8.
    record {
      size = len;
      rows = (refl, tt);
      unlisted =
          subst (λ (x : List ℕ). is_block_listed x ≡ false) (sym (part-whole b len))
          (or_false _ _
          (or_false _ _ (other b code 0x00 e f0) (or_false _ _ (other b code 0x12 e f1)
          (or_false _ _ (other b code 0x25 e f2) (or_false _ _ (other b code 0x28 e f3)
          (or_false _ _ (other b code 0x2a e f4) (or_false _ _ (other b code 0x35 e f9)
          (or_false _ _ (other b code 0x88 e f5) (or_false _ _ (other b code 0x8a e f6) (or_false _ _ (other b code 0xa0 e f8) refl)))))))))
          (subst (λ (n : ℕ). (n == 0x9e && bits_at 1 0x1f b == 0x10) ≡ false) (sym e) f7));
    }))))))))))

-- 16 bytes mean the record that is computed
pub record_is : (b : List ℕ) → length b ≡ 16 → IsRecord b (record_of b)
unfolding record_of
record_is b len = by_code b (number_at 0 0 b) len refl
