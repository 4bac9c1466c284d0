-- Bytes behind bytes, and the bytes of one read.
use Rattle.std.proofs.Common.{◌≡◌, drop, take-append-drop, ℕ, Bool, true, List, [], ◌∷◌, ◌++◌, length, take, Option}
use Rattle.std.proofs.Common.{Err, refl, sym, ap, subst, ◌∙◌, arith, append-nil, append_assoc}
use Rattle.std.specs.Io.KnownBytes.{Appends}
use Rattle.scsi_disk.specs.Disk.{Disk}
use Rattle.iscsi_pdu.specs.Meaning.{AreBytes}
use Rattle.iscsi_stream.proofs.TakingLemmas.{taken_more}
use Rattle.iscsi_target.specs.declared.fault.TargetFault.TheVariants as faults
use Rattle.iscsi_target_session.specs.Configured.{TargetSettings}
use Rattle.iscsi_target.specs.Machine.{is_machine_closed}
use Rattle.iscsi_target.specs.Feed.{TargetConnection, Store}
use Rattle.iscsi_serve.specs.declared.session_fault.SessionFault.{SessionFault}
use Rattle.iscsi_serve.specs.declared.session_fault.SessionFault.TheVariants as session
use Rattle.iscsi_serve.specs.Session.{ServesFirstPdus, ServesFront, IsSessionOver, SessionEndsBy}
use Rattle.iscsi_serve.specs.inner.SessionSteps.{ServedUpTo, ServedTarget, service, ServiceGoesOn, BytesCloseSession, TellsSessionEnd, SendsFrontAlone, ServiceRanOut, SessionFaultLeaves, HoldsBack, StoreSynced}
use Rattle.iscsi_serve.proofs.SyncedLemmas.{written_out, held_front, front_out, rest_dropped}

-- ---- bytes after bytes

pub goes_then : (protected : Bool) (old mid new : ServedTarget) (a b : List ℕ) → ServiceGoesOn protected old a mid → ServiceGoesOn protected mid b new
    → ServiceGoesOn protected old (a ++ b) new
goes_then protected old mid new a b p q = λ settings first stream start up.
    subst (λ (x : List ℕ). ServedUpTo protected settings first x start new) (append_assoc stream a b)
    (q settings first (stream ++ a) start (p settings first stream start up))

loses_then : (protected : Bool) (old mid new : ServedTarget) (a b : List ℕ) → ServiceGoesOn protected old a mid → SendsFrontAlone protected mid b new
    → SendsFrontAlone protected old (a ++ b) new
loses_then protected old mid new a b p q = λ settings first stream start up.
    let l = q settings first (stream ++ a) start (p settings first stream start up) in (
      l.0,
      l.1,
      l.2,
      l.3,
      λ range h. subst (λ (x : List ℕ). ServesFront protected settings first.disk x new.store.disk l.0) (append_assoc stream a b) (l.4 range h),
    )

tells_then : (protected : Bool) (old mid : ServedTarget) (a b : List ℕ) (fault : SessionFault) (after : Store) → ServiceGoesOn protected old a mid
    → TellsSessionEnd protected mid b fault after →
    TellsSessionEnd protected old (a ++ b) fault after
tells_then protected old mid a b fault after p q = λ settings first stream start up h.
    subst (λ (x : List ℕ). SessionEndsBy protected settings first.disk (Err fault) x) (append_assoc stream a b)
    (q settings first (stream ++ a) start (p settings first stream start up) h)

runs_out_then : (protected : Bool) (old mid new : ServedTarget) (a b : List ℕ) → ServiceGoesOn protected old a mid → ServiceRanOut protected mid b new
    → ServiceRanOut protected old (a ++ b) new
runs_out_then protected old mid new a b p q = λ settings first stream start up.
    let l = q settings first (stream ++ a) start (p settings first stream start up) in
    (l.0, l.1, l.2, l.3, λ h. subst (λ (x : List ℕ). ServesFirstPdus protected settings first.disk x new.store.disk l.0) (append_assoc stream a b) (l.4 h))

pub breaks_then : (protected : Bool) (old mid new : ServedTarget) (a b : List ℕ) (fault : SessionFault) → ServiceGoesOn protected old a mid
    → SessionFaultLeaves protected mid b fault new
    → SessionFaultLeaves protected old (a ++ b) fault new
breaks_then protected old mid new a b session.NoMemory p q = runs_out_then protected old mid new a b p q
breaks_then protected old mid new a b (session.Target faults.NoMemory) p q = q
breaks_then protected old mid new a b (session.Target (faults.Stream fault)) p q =
    (goes_then protected old mid new a b p q.0, tells_then protected old mid a b (session.Target (faults.Stream fault)) new.store p q.1, q.2)
breaks_then protected old mid new a b (session.Target (faults.Protocol rule)) p q =
    (goes_then protected old mid new a b p q.0, tells_then protected old mid a b (session.Target (faults.Protocol rule)) new.store p q.1)
breaks_then protected old mid new a b (session.Target faults.Closed) p q = q
breaks_then protected old mid new a b session.Read p q = q
breaks_then protected old mid new a b session.Sync p q = loses_then protected old mid new a b p q
breaks_then protected old mid new a b session.Write p q = loses_then protected old mid new a b p q

is_over_more : (protected : Bool) (settings : TargetSettings) (disk : Disk) (read more : List ℕ) → IsSessionOver protected settings disk read
    → IsSessionOver protected settings disk (read ++ more)
is_over_more protected settings disk read more o = (
  record {
    messages = o.0.messages;
    given = o.0.given;
    rest = o.0.rest ++ more;
    whole = ap (λ (x : List ℕ). x ++ more) o.0.whole ∙ append_assoc o.0.given o.0.rest more;
    reads = o.0.reads;
  },
  o.1,
  o.2,
)

-- no bytes change nothing
pub goes_none : (protected : Bool) (s : ServedTarget) → ServiceGoesOn protected s [] s
goes_none protected s = λ settings first stream start up. subst (λ (x : List ℕ). ServedUpTo protected settings first x start s)
    (sym (append-nil stream)) up

-- the store is synced, and the answers that wait are written
pub goes_written : (protected : Bool) (old : ServedTarget) (bytes : List ℕ) (target : TargetConnection) (store after : Store)
    (contents now : Option (List ℕ)) (waiting : List ℕ)
    → ServiceGoesOn protected old bytes (service target store contents waiting) → StoreSynced store after → AreBytes waiting → Appends contents now waiting
    → ServiceGoesOn protected old bytes (service target after now [])
goes_written protected old bytes target store after contents now waiting p s are wrote = λ settings first stream start up.
    written_out protected settings first (stream ++ bytes) target store after start contents now waiting (p settings first stream start up) s are wrote

-- they are held back
pub breaks_held : (protected : Bool) (old new : ServedTarget) (bytes : List ℕ) (fault : SessionFault) (contents now : Option (List ℕ)) (waiting : List ℕ)
    → HoldsBack fault contents now waiting → SendsFrontAlone protected old bytes new → SessionFaultLeaves protected old bytes fault new
breaks_held protected old new bytes session.Sync contents now waiting held lost = lost
breaks_held protected old new bytes session.Write contents now waiting held lost = lost
breaks_held protected old new bytes session.Read contents now waiting held lost = absurd held
breaks_held protected old new bytes (session.Target fault) contents now waiting held lost = absurd held
breaks_held protected old new bytes session.NoMemory contents now waiting held lost = absurd held

-- ---- a piece

-- the bytes of a piece before the rest were served
pub record PieceUpTo (protected : Bool) (old : ServedTarget) (piece rest : List ℕ) (new : ServedTarget) : Type 0 where
  pub front : List ℕ
  pub parts : piece ≡ front ++ rest
  pub goes : ServiceGoesOn protected old front new

pub piece_start : (protected : Bool) (s : ServedTarget) (piece : List ℕ) → PieceUpTo protected s piece piece s
piece_start protected s piece = record { front = []; parts = refl; goes = goes_none protected s }

pub piece_next : (protected : Bool) (old mid new : ServedTarget) (piece rest : List ℕ) (n : ℕ) → PieceUpTo protected old piece rest mid
    → ServiceGoesOn protected mid (take n rest) new →
    PieceUpTo protected old piece (drop n rest) new
piece_next protected old mid new piece rest n p q = record {
  front = p.front ++ take n rest;
  parts = taken_more piece p.front rest n p.parts;
  goes = goes_then protected old mid new p.front (take n rest) p.goes q;
}

pub piece_breaks : (protected : Bool) (old mid new : ServedTarget) (piece rest : List ℕ) (fault : SessionFault) → PieceUpTo protected old piece rest mid
    → SessionFaultLeaves protected mid rest fault new →
    SessionFaultLeaves protected old piece fault new
piece_breaks protected old mid new piece rest fault p q = subst (λ (x : List ℕ). SessionFaultLeaves protected old x fault new) (sym p.parts)
    (breaks_then protected old mid new p.front rest fault p.goes q)

pub piece_lost : (protected : Bool) (old : ServedTarget) (piece rest : List ℕ) (target : TargetConnection) (store after : Store)
    (contents now : Option (List ℕ)) (waiting : List ℕ)
    (fault : SessionFault)
    → PieceUpTo protected old piece rest (service target store contents waiting) → StoreSynced store after → AreBytes waiting
    → HoldsBack fault contents now waiting →
    SessionFaultLeaves protected old piece fault (service target after now [])
piece_lost protected old piece rest target store after contents now waiting fault p s are held =
    breaks_held protected old (service target after now []) piece fault contents now waiting held (λ settings first stream start up.
    let o = front_out protected settings first (stream ++ p.front) rest target store after start contents now waiting
    (p.goes settings first stream start up) s are
    (held_front fault contents now waiting held) in (
      o.0,
      o.1,
      o.2,
      o.3,
      λ range h. subst (λ (x : List ℕ). ServesFront protected settings first.disk x after.disk o.0)
          (append_assoc stream p.front rest ∙ ap (λ (x : List ℕ). stream ++ x) (sym p.parts)) (o.4 range h),
    ))

-- the whole piece was served, and the answers that waited were written
pub piece_done : (protected : Bool) (old : ServedTarget) (piece rest : List ℕ) (target : TargetConnection) (store after : Store)
    (contents now : Option (List ℕ)) (waiting : List ℕ)
    → PieceUpTo protected old piece rest (service target store contents waiting) → length rest ≡ 0 → StoreSynced store after → AreBytes waiting →
    Appends contents now waiting → ServiceGoesOn protected old piece (service target after now [])
piece_done protected old piece [] target store after contents now waiting p none s are wrote =
    subst (λ (x : List ℕ). ServiceGoesOn protected old x (service target after now [])) (sym (p.parts ∙ append-nil p.front))
    (goes_written protected old p.front target store after contents now waiting p.goes s are wrote)
piece_done protected old piece (b ∷ rest) target store after contents now waiting p none s are wrote = absurd (omega (arith, none))

-- the session is over, and the rest of the piece is dropped
pub piece_over : (protected : Bool) (old : ServedTarget) (piece rest : List ℕ) (target : TargetConnection) (store after : Store)
    (contents now : Option (List ℕ)) (waiting : List ℕ)
    → PieceUpTo protected old piece rest (service target store contents waiting) → is_machine_closed target.machine ≡ true → StoreSynced store after
    → AreBytes waiting →
    Appends contents now waiting → ServiceGoesOn protected old piece (service target after now [])
piece_over protected old piece rest target store after contents now waiting p over s are wrote =
    goes_written protected old piece target store after contents now waiting
    (subst (λ (x : List ℕ). ServiceGoesOn protected old x (service target store contents waiting)) (sym p.parts)
    (goes_then protected old (service target store contents waiting) (service target store contents waiting) p.front rest p.goes
    (λ settings first stream start up. rest_dropped protected settings first stream target store start contents waiting rest over up))) s are wrote

pub piece_closes : (protected : Bool) (old mid : ServedTarget) (piece rest : List ℕ) (n : ℕ) (after : Store) → PieceUpTo protected old piece rest mid
    → BytesCloseSession protected mid (take n rest) after →
    BytesCloseSession protected old piece after
piece_closes protected old mid piece rest n after p q = λ settings first stream start up h.
    let ended : IsSessionOver protected settings first.disk (((stream ++ p.front) ++ take n rest) ++ drop n rest) =
    is_over_more protected settings first.disk ((stream ++ p.front) ++ take n rest) (drop n rest)
    (q settings first (stream ++ p.front) start (p.goes settings first stream start up) h) in
    let all : ((stream ++ p.front) ++ take n rest) ++ drop n rest ≡ stream ++ piece =
    append_assoc (stream ++ p.front) (take n rest) (drop n rest) ∙ ap (λ (x : List ℕ). (stream ++ p.front) ++ x) (take-append-drop n rest)
    ∙ append_assoc stream p.front rest ∙ ap (λ (x : List ℕ). stream ++ x) (sym p.parts) in
    subst (λ (x : List ℕ). IsSessionOver protected settings first.disk x) all ended
