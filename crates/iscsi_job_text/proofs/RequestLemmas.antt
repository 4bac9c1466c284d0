-- Requests that are read one after another.
use Rattle.std.specs.Prelude.{◌==◌, not}
use Rattle.std.proofs.Common.{◌≡◌, ℕ, Bool, IfSome, true, false, List, ◌++◌, Option, Some, None, refl, sym, ap, ◌∙◌}
use Rattle.std.proofs.lemmas.Option.{none-some}
use Rattle.iscsi_job_text.specs.declared.entry.Entry.{Entry}
use Rattle.iscsi_job_text.specs.Entries.{PendingEntry}
use Rattle.iscsi_job_text.specs.Taking.{LineTaken, taken}
use Rattle.iscsi_job_text.specs.Jobs.{job_lines, requests_from, with_finished}
use Rattle.iscsi_job_text.specs.Reading.{JobHeld, LinesHeld, ReadsLine, ReadsRequest, job_held, requests_left}
use Rattle.iscsi_job_text.proofs.JobLemmas.{behind_line}
use Rattle.iscsi_job_text.proofs.LineLemmas.{false_true, same_bytes}

-- the requests that are still to come are those that there were
pub record StillToCome (old now : JobHeld) (left : List ℕ) (known : Option (List ℕ)) : Type 0 where
  pub rest : List ℕ
  pub is : known ≡ Some rest
  pub same : requests_left old left ≡ requests_left now rest

-- what was read of them
pub record OneRead (old now : JobHeld) (left : List ℕ) (known : Option (List ℕ)) (found : Option Entry) : Type 0 where
  pub rest : List ℕ
  pub is : known ≡ Some rest
  pub next : requests_left old left ≡ with_finished found (requests_left now rest)

twice : (b : Bool) → not (not b) ≡ b
twice true = refl
twice false = refl

-- a line was read and taken
line_read : (lines now : LinesHeld) (p q : Option PendingEntry) (left : List ℕ) (known : Option (List ℕ)) (found : Option Entry)
    → ReadsLine lines now left known true → taken (now.count == 1) p now.line ≡ Some (record { finished = found; pending = q })
    → OneRead (job_held lines p) (job_held now q) left known found
line_read lines now p q left known found reads takes = record {
  rest = reads.rest;
  is = reads.known;
  next =
      ap (λ (first : Bool). requests_from first p (job_lines (lines.ahead ++ left))) (twice (lines.count == 0) ∙ sym (reads.first refl))
      ∙ ap (requests_from (now.count == 1) p) (reads.more refl)
      ∙ ap (λ (it : Option LineTaken). behind_line it behind) takes
      ∙ ap (λ (first : Bool). with_finished found (requests_from first q behind)) (sym (twice (now.count == 0) ∙ reads.some refl));
}
  where
    behind : List (List ℕ)
    behind = job_lines (now.ahead ++ reads.rest)

-- and nothing was lost before it
pub request_read : (old : JobHeld) (lines now : LinesHeld) (p q : Option PendingEntry) (left : List ℕ) (known more : Option (List ℕ)) (found : Option Entry) (is_more : Bool)
    → is_more ≡ true → IfSome known (λ left. ReadsLine lines now left more is_more) → taken (now.count == 1) p now.line ≡ Some (record { finished = found; pending = q })
    → StillToCome old (job_held lines p) left known → OneRead old (job_held now q) left more found
request_read old lines now p q left None more found is_more is reads takes so_far = absurd (none-some so_far.rest so_far.is)
request_read old lines now p q left (Some rest) more found false is reads takes so_far = absurd (false_true is)
request_read old lines now p q left (Some rest) more found true is reads takes so_far =
    let one = line_read lines now p q rest more found reads takes in
    record {
      rest = one.rest;
      is = one.is;
      next = so_far.same ∙ ap (requests_left (job_held lines p)) (sym (same_bytes so_far.is)) ∙ one.next;
    }

-- a line finished no request
pub goes_on : (old now : JobHeld) (left : List ℕ) (known : Option (List ℕ)) → OneRead old now left known None → StillToCome old now left known
goes_on old now left known one = record { rest = one.rest; is = one.is; same = one.next }

-- a line finished one
pub finishes : (old now : JobHeld) (left : List ℕ) (known : Option (List ℕ)) (entry : Entry) → OneRead old now left known (Some entry) → ReadsRequest old now left known (Some entry)
finishes old now left known entry one = record { rest = one.rest; known = one.is; next = one.next; end = λ (e : Some entry ≡ None). absurd (none-some entry (sym e)) }
