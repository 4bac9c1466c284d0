-- What REPORT SUPPORTED OPERATION CODES gives is short.
use Rattle.std.proofs.Common.{◌≡◌, ◌≤◌, ℕ, Bool, true, false, List, [], ◌∷◌, length, take, Option, Some, None, refl, arith}
use Rattle.std.specs.Prelude.{◌==◌, ◌&&◌, nat_le, if◌then◌else◌, IfSome, option_map}
use Rattle.std.specs.List.{find, list_all, list_any}
use Rattle.std.proofs.lemmas.Bool.{cond_both, false≢true, leb-true}
use Rattle.std.proofs.lemmas.List.{length-append, length-take}
use Rattle.scsi_cdb.specs.Layout.{bits_at, is_set, number_at}
use Rattle.scsi_unit.specs.Supported.{all_commands, asked_command, commands_told, has_action, has_actions, has_no_action, no_timeouts, one_command, supported}
use Rattle.scsi_unit.specs.declared.supported.SupportedCommand.{SupportedCommand}

all_few : (timeouts thin : Bool) → length (all_commands timeouts (supported thin)) ≤ 664
all_few false false = omega arith
all_few false true = omega arith
all_few true false = omega arith
all_few true true = omega arith

abbrev is_short : SupportedCommand → Bool
is_short row = nat_le row.length 16

abbrev HasShort : Option SupportedCommand → Type 0
HasShort found = IfSome found (λ row. is_short row ≡ true)

both : (a b : Bool) → (a && b) ≡ true → (a ≡ true) × (b ≡ true)
both true b e = (refl, e)
both false b e = absurd (false≢true e)

found_short : (test : SupportedCommand → Bool) (rows : List SupportedCommand) → list_all is_short rows ≡ true → HasShort (find test rows)
found_short test [] e = tt
found_short test (row ∷ rows) e =
    let each = both (is_short row) (list_all is_short rows) e in
    cond_both (test row) (Some row) (find test rows) HasShort (λ f. each.0) (λ f. found_short test rows each.1)

all_short : (thin : Bool) → list_all is_short (supported thin) ≡ true
all_short true = refl
all_short false = refl

one_few : (timeouts : Bool) (found : Option SupportedCommand) → HasShort found → length (one_command timeouts found) ≤ 664
one_few timeouts None short = omega arith
one_few true (Some row) short =
    omega (arith, length-append (take row.length row.usage) (no_timeouts true), length-take row.length row.usage, leb-true row.length 16 short)
one_few false (Some row) short =
    omega (arith, length-append (take row.length row.usage) (no_timeouts false), length-take row.length row.usage, leb-true row.length 16 short)

abbrev AskShort : Option (Option SupportedCommand) → Type 0
AskShort asked = IfSome asked HasShort

asked_short : (option code action : ℕ) (thin : Bool) → AskShort (asked_command option code action (supported thin))
asked_short option code action thin =
    let rows : List SupportedCommand = supported thin in
    cond_both (option == 1) _ _ AskShort
    (λ e. cond_both (list_any (has_actions code) rows) None (Some (find (has_action code 0) rows)) AskShort (λ f. tt)
    (λ f. found_short (has_action code 0) rows (all_short thin))) (λ e.
    cond_both (option == 2) _ _ AskShort
    (λ e. cond_both (list_any (has_no_action code) rows) None (Some (find (has_action code action) rows)) AskShort (λ f. tt)
    (λ f. found_short (has_action code action) rows (all_short thin))) (λ e.
    cond_both (option == 3) (Some (find (has_action code action) rows)) None AskShort
    (λ e. found_short (has_action code action) rows (all_short thin)) (λ e. tt)))

abbrev pub AreShort : Option (List ℕ) → Type 0
AreShort told = IfSome told (λ bytes. length bytes ≤ 664)

told_short : (timeouts : Bool) (asked : Option (Option SupportedCommand)) → AskShort asked → AreShort (option_map (one_command timeouts) asked)
told_short timeouts None short = tt
told_short timeouts (Some found) short = one_few timeouts found short

pub commands_short : (thin : Bool) (block : List ℕ) → AreShort (commands_told thin block)
commands_short thin block =
    let timeouts : Bool = is_set 2 0x80 block in
    let asked : Option (Option SupportedCommand) =
    asked_command (bits_at 2 0x07 block) (number_at 3 3 block) (number_at 4 5 block) (supported thin) in
    cond_both (bits_at 2 0x07 block == 0) (Some (all_commands timeouts (supported thin))) (option_map (one_command timeouts) asked) AreShort
    (λ e. all_few timeouts thin)
    (λ e. told_short timeouts asked (asked_short (bits_at 2 0x07 block) (number_at 3 3 block) (number_at 4 5 block) thin))
