use Rattle.std.proofs.Common.{◌≡◌, ◌-◌, length, Some, ap, sym, ◌∙◌}
use Rattle.std.specs.List.{slice_get}
use Rattle.std.specs.Prelude.{option_copied}
use Rattle.iscsi_job_text.proofs.EntryLemmas.{last_line_end}
use Rattle.iscsi_job_text.proofs.entry_writing.ends_line.Goals as goal

pub returns-in-Some : goal.returns-in-Some
returns-in-Some c =
    let last : Some c.in-Some.byte.now ≡ slice_get c.args.text.now (length c.args.text.now - 1) = ap option_copied (sym c.in-Some.is) ∙ c.last.ensures.value in
    last_line_end c.args.text.now c.in-Some.byte.now last
