-- What a loop writes, command by command, where its ends are one local disk.
use Rattle.std.specs.Prelude.{IfErr, OnOk}
use Rattle.std.specs.Io.KnownBytes.{Appends}
use Rattle.std.proofs.Common.{◌≡◌, inr, ℕ, min, List, [], ◌∷◌, ◌++◌, length, map, take, Option, None, Result, Ok, Err, refl, sym, ap, ◌∙◌, subst, append_assoc}
use Rattle.std.proofs.Common.{append-nil, arith}
use Rattle.std.proofs.KnownBytes.{Appends-trans, Appends-nil}
use Rattle.std.proofs.lemmas.List.{map-append, take-append-le, take_all, take_min}
use Rattle.std.proofs.lemmas.List.Concat.{flat_map-append, flat_map-cons}
use Rattle.scsi_disk.specs.Disk.{Disk, disk_of}
use Rattle.iscsi_stream.specs.Normalising.{WroteFront}
use Rattle.iscsi_initiator.specs.declared.request.Done.{Done}
use Rattle.iscsi_initiator.specs.declared.request.Request.{Request}
use Rattle.iscsi_pair.specs.LocalDisk.{local, local_disk, local_outcomes}
use Rattle.iscsi_pair.proofs.Request.OneRequestLaw.{outcomes_more}
use Rattle.iscsi_loop.specs.declared.command.Command.{Command}
use Rattle.iscsi_serving.specs.declared.fault.ServeFault.{ServeFault}
use Rattle.iscsi_serving.specs.declared.fault.ServeFault.TheVariants as serve
use Rattle.iscsi_loop.specs.Commands.{is_logout, command_request}
use Rattle.iscsi_loop.specs.Reports.{report}
use Rattle.iscsi_loop.specs.Script.{IsScript}
use Rattle.iscsi_loop.specs.Looping.{initiator_settings, reports, transcript, up_to_logout}
use Rattle.iscsi_loop.specs.LoopPairs.{LoopsOnDisk, command_outcomes, loop_opening}
use Rattle.iscsi_loop.specs.inner.LoopPairs.{AreOneDisk, BothEnds, PerformsOnDisk, WritesLine, WritesOnDisk, asked, outcome_on}
use Rattle.iscsi_loop.specs.LoopPairs.{outcomes_on}
use Rattle.iscsi_loop.proofs.HistoryLemmas.{front_then, left_at, left_by, login_line}

-- ---- one command

-- nothing of its line is written
pub no_line : (fault : ServeFault) (blocks : ℕ) (past : List Request) (request : Request) (ends : BothEnds) (contents : Option (List ℕ))
    → WritesLine (Err fault) (asked blocks past request) ends contents contents
no_line fault blocks past request ends contents = (0, Appends-nil contents)

-- its line is written, or a front of it
pub line_written : (result : Result (Unit {0}) ServeFault) (blocks : ℕ) (past : List Request) (request : Request) (done : Done) (old new : BothEnds)
    (contents_old contents_new : Option (List ℕ))
    → PerformsOnDisk old request done new → AreOneDisk blocks past old → OnOk result (Appends contents_old contents_new (report done))
    → IfErr result (λ fault. (fault ≡ serve.Write) × WroteFront contents_old contents_new (report done))
    → WritesLine result (asked blocks past request) new contents_old contents_new
line_written (Ok unit) blocks past request done old new contents_old contents_new p one ok err =
    let now = p blocks past one in
    (now.1, subst (λ (d : Done). Appends contents_old contents_new (report d)) now.0 ok)
line_written (Err fault) blocks past request done old new contents_old contents_new p one ok err =
    subst (λ (d : Done). WroteFront contents_old contents_new (report d)) (p blocks past one).0 err.1

-- ---- one after the other

-- outcomes in two parts
parts : (most : ℕ) (disk : Disk) (front back : List Request)
    → local_outcomes most None disk (front ++ back) ≡ local_outcomes most None disk front ++ local_outcomes most None (local_disk most None disk front) back
unfolding local_outcomes local_disk
parts most disk [] back = refl
parts most disk (request ∷ front) back = ap (λ (x : List Done). (local most None disk request).outcome ∷ x)
    (parts most (local most None disk request).disk front back)

-- the first commands were done, and their lines written
pub record OnDiskSoFar (blocks : ℕ) (all rest : List Command) (ends : BothEnds) (contents_old contents_new : Option (List ℕ)) : Type 0 where
  pub front : List Command
  pub one : AreOneDisk blocks (map command_request front) ends
  pub runs : up_to_logout all ≡ front ++ up_to_logout rest
  pub written : Appends contents_old contents_new (reports (outcomes_on blocks (map command_request front)))

pub on_none : (blocks : ℕ) (all : List Command) (ends : BothEnds) (contents : Option (List ℕ)) → AreOneDisk blocks [] ends →
    OnDiskSoFar blocks all all ends contents contents
unfolding local_outcomes
on_none blocks all ends contents one = record { front = []; one = one; runs = refl; written = Appends-nil contents }

-- a command and its line
pub on_more : (blocks : ℕ) (all rest more : List Command) (command : Command) (old new : BothEnds) (contents_old contents_now contents_new : Option (List ℕ))
    → OnDiskSoFar blocks all rest old contents_old contents_now → rest ≡ command ∷ more
    → ((past : List Request) → AreOneDisk blocks past old → WritesLine (Ok tt) (asked blocks past (command_request command)) new contents_now contents_new)
    → (left : List Command) → up_to_logout (command ∷ more) ≡ command ∷ up_to_logout left → OnDiskSoFar blocks all left new contents_old contents_new
on_more blocks all rest more command old new contents_old contents_now contents_new d is does left first =
    let past : List Request = map command_request d.front in
    let next : Done = outcome_on blocks past (command_request command) in
    let w = does past d.one in
    let both : map command_request (d.front ++ command ∷ []) ≡ past ++ command_request command ∷ [] = map-append command_request d.front (command ∷ []) in
    let each : outcomes_on blocks (past ++ command_request command ∷ []) ≡ outcomes_on blocks past ++ next ∷ [] =
    outcomes_more initiator_settings.proposal.prefs.max_recv None (disk_of (loop_opening blocks).blocks) past (command_request command) in
    let lines : reports (outcomes_on blocks (map command_request (d.front ++ command ∷ []))) ≡ reports (outcomes_on blocks past) ++ report next =
    ap (λ (rs : List Request). reports (outcomes_on blocks rs)) both ∙ ap reports each ∙ flat_map-append report (outcomes_on blocks past) (next ∷ [])
    ∙ ap (λ (x : List ℕ). reports (outcomes_on blocks past) ++ x) (append-nil (report next)) in
    record {
      front = d.front ++ command ∷ [];
      one = subst (λ (rs : List Request). AreOneDisk blocks rs new) (sym both) w.0;
      runs = d.runs ∙ ap (λ (cs : List Command). d.front ++ up_to_logout cs) is ∙ ap (λ (cs : List Command). d.front ++ cs) first
          ∙ sym (append_assoc d.front (command ∷ []) (up_to_logout left));
      written = subst (λ (x : List ℕ). Appends contents_old contents_new x) (sym lines)
          (Appends-trans contents_old contents_now contents_new (reports (outcomes_on blocks past)) (report next) d.written w.1);
    }

-- a front of bytes is one of more of them
front_more : (a b : Option (List ℕ)) (xs ys : List ℕ) → WroteFront a b xs → WroteFront a b (xs ++ ys)
front_more a b xs ys w =
    let k : ℕ = min w.0 (length xs) in
    let same : take k (xs ++ ys) ≡ take w.0 xs = take-append-le k xs ys (omega arith) ∙ take_min w.0 xs in
    (k, subst (λ (x : List ℕ). Appends a b x) (sym same) w.1)

-- a fault of the next command
pub on_stops : (fault : ServeFault) (blocks : ℕ) (all rest more : List Command) (command : Command) (old new : BothEnds)
    (contents_old contents_now contents_new : Option (List ℕ))
    → OnDiskSoFar blocks all rest old contents_old contents_now → rest ≡ command ∷ more
    → ((past : List Request) → AreOneDisk blocks past old → WritesLine (Err fault) (asked blocks past (command_request command)) new contents_now contents_new)
    → WritesOnDisk blocks all (Err fault) contents_old contents_new
unfolding local_outcomes
on_stops fault blocks all rest more command old new contents_old contents_now contents_new d is does =
    let most : ℕ = initiator_settings.proposal.prefs.max_recv in
    let disk : Disk = disk_of (loop_opening blocks).blocks in
    let past : List Request = map command_request d.front in
    let left : List Command = left_by (is_logout command) more in
    let later : List Request = map command_request (up_to_logout left) in
    let next : Done = outcome_on blocks past (command_request command) in
    let tail : List Done = local_outcomes most None (local most None (local_disk most None disk past) (command_request command)).disk later in
    let whole : up_to_logout all ≡ d.front ++ command ∷ up_to_logout left =
    d.runs ∙ ap (λ (cs : List Command). d.front ++ up_to_logout cs) is
    ∙ ap (λ (cs : List Command). d.front ++ cs) (left_at (is_logout command) command more refl) in
    let asked : map command_request (up_to_logout all) ≡ past ++ command_request command ∷ later =
    ap (λ (cs : List Command). map command_request cs) whole ∙ map-append command_request d.front (command ∷ up_to_logout left) in
    let lines : reports (command_outcomes blocks all) ≡ reports (outcomes_on blocks past) ++ (report next ++ reports tail) =
    ap (λ (rs : List Request). reports (outcomes_on blocks rs)) asked
    ∙ ap reports (parts most disk past (command_request command ∷ later))
    ∙ flat_map-append report (outcomes_on blocks past) (next ∷ tail)
    ∙ ap (λ (x : List ℕ). reports (outcomes_on blocks past) ++ x) (flat_map-cons report next tail) in
    subst (λ (x : List ℕ). WroteFront contents_old contents_new x) (sym lines)
    (front_then contents_old contents_now contents_new (reports (outcomes_on blocks past)) (report next ++ reports tail) d.written
    (front_more contents_now contents_new (report next) (reports tail) (does past d.one)))

-- no command is left to be done
pub on_all : (blocks : ℕ) (all rest : List Command) (ends : BothEnds) (contents_old contents_new : Option (List ℕ))
    → OnDiskSoFar blocks all rest ends contents_old contents_new → up_to_logout rest ≡ [] → WritesOnDisk blocks all (Ok tt) contents_old contents_new
on_all blocks all rest ends contents_old contents_new d none =
    let runs : up_to_logout all ≡ d.front = d.runs ∙ ap (λ (cs : List Command). d.front ++ cs) none ∙ append-nil d.front in
    subst (λ (cs : List Command). Appends contents_old contents_new (reports (outcomes_on blocks (map command_request cs)))) (sym runs) d.written

-- ---- the ends of a loop

-- what is written, and that it is what one local disk leads to
abbrev pub LeavesOnDisk : ℕ → Result (Unit {0}) ServeFault → List ℕ → Option (List ℕ) → Option (List ℕ) → Type 0
LeavesOnDisk blocks result script contents_old contents_new = (written : List ℕ) × Appends contents_old contents_new written
    × LoopsOnDisk blocks result script written

-- the line of the login was written in part
pub login_stops_on : (fault : ServeFault) (blocks : ℕ) (script : List ℕ) (commands : List Command) (contents_old contents_new : Option (List ℕ))
    → IsScript script commands → WroteFront contents_old contents_new login_line → LeavesOnDisk blocks (Err fault) script contents_old contents_new
login_stops_on fault blocks script commands contents_old contents_new is line =
    let outcomes : List Done = command_outcomes blocks commands in
    let w : WroteFront contents_old contents_new (transcript outcomes) = front_more contents_old contents_new login_line (reports outcomes) line in
    (take w.0 (transcript outcomes), w.1, inr (commands, is, (w.0, refl)))

-- a command failed
pub commands_stop_on : (fault : ServeFault) (blocks : ℕ) (script : List ℕ) (commands : List Command) (contents_old contents_now contents_new : Option (List ℕ))
    → IsScript script commands → Appends contents_old contents_now login_line → WritesOnDisk blocks commands (Err fault) contents_now contents_new
    → LeavesOnDisk blocks (Err fault) script contents_old contents_new
commands_stop_on fault blocks script commands contents_old contents_now contents_new is line s =
    let outcomes : List Done = command_outcomes blocks commands in
    let w : WroteFront contents_old contents_new (transcript outcomes) = front_then contents_old contents_now contents_new login_line (reports outcomes) line s
    in
    (take w.0 (transcript outcomes), w.1, inr (commands, is, (w.0, refl)))

-- all commands are done, and the connection is closed
pub commands_end_on : (result : Result (Unit {0}) ServeFault) (blocks : ℕ) (script : List ℕ) (commands : List Command)
    (contents_old contents_now contents_new : Option (List ℕ))
    → IsScript script commands → Appends contents_old contents_now login_line → WritesOnDisk blocks commands (Ok tt) contents_now contents_new
    → LeavesOnDisk blocks result script contents_old contents_new
commands_end_on (Ok done) blocks script commands contents_old contents_now contents_new is line s =
    let outcomes : List Done = command_outcomes blocks commands in
    (transcript outcomes, Appends-trans contents_old contents_now contents_new login_line (reports outcomes) line s, (commands, is, refl))
commands_end_on (Err fault) blocks script commands contents_old contents_now contents_new is line s =
    let outcomes : List Done = command_outcomes blocks commands in
    let n : ℕ = length (transcript outcomes) in (
      transcript outcomes,
      Appends-trans contents_old contents_now contents_new login_line (reports outcomes) line s,
      inr (commands, is, (n, sym (take_all n (transcript outcomes) (omega arith)))),
    )
