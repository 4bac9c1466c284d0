-- Which comparison the words of a program ask for, and how the program ends.
use Rattle.std.specs.Prelude.{◌≡◌, ℕ, Bool, true, false, List, [], ◌∷◌, Option, Some, None, Ok, Err, codes, fold, option_map, not, ◌&&◌, ◌==◌, if◌then◌else◌}
use Rattle.std.specs.Str.{bytes_eq}
use Rattle.iscsi_compare.specs.declared.verdict.Verdict.TheVariants as verdict
use Rattle.iscsi_comparison.specs.declared.comparing.Sameness.{Sameness}
use Rattle.iscsi_comparison.specs.declared.comparing.Sameness.TheVariants.{Meaning, Job}
use Rattle.iscsi_comparison.specs.declared.files.Comparison.{Comparison}
use Rattle.iscsi_comparison.specs.declared.program.Said.{Said}
use Rattle.iscsi_comparison.specs.Comparisons.{ComparisonOutcome, RunsFiles, comparison_exit_status}

-- ---- the words

-- What the words behind `compare` say: the names of one or two files, and the two options.
pub record ComparisonWords : Type 0 where
  pub first : Option (List ℕ)
  pub second : Option (List ℕ)
  pub sameness : Sameness
  pub hex : Bool

-- what no word says
abbrev pub no_words : ComparisonWords
no_words = record { first = None; second = None; sameness = Meaning; hex = false }

-- whether two streams have to have one meaning
abbrev pub is_of_meaning : Sameness → Bool
is_of_meaning Meaning = true
is_of_meaning Job = false

-- the word begins with a minus sign
abbrev pub is_option : List ℕ → Bool
is_option (byte ∷ rest) = byte == 45
is_option [] = false

-- a name more: that of the first file or of the second one
abbrev pub with_name : ComparisonWords → Option (List ℕ) → Option (List ℕ) → List ℕ → Option ComparisonWords
with_name said None second word = Some (record said { first = Some word })
with_name said (Some first) None word = Some (record said { second = Some word })
with_name said (Some first) (Some second) word = None

-- one word more: an option that was not there, or a name
abbrev pub said_with : ComparisonWords → List ℕ → Option ComparisonWords
said_with said word =
    if bytes_eq word (codes "--hex") && not said.hex then Some (record said { hex = true })
    else if bytes_eq word (codes "--same-job") && is_of_meaning said.sameness
    then Some (record said { sameness = Job })
    else if is_option word then None
    else with_name said said.first said.second word

-- one word more, unless one before it was refused
abbrev pub with_word : Option ComparisonWords → List ℕ → Option ComparisonWords
with_word None word = None
with_word (Some said) word = said_with said word

-- what was said, if it names a file
abbrev pub if_named : Option ComparisonWords → Option ComparisonWords
if_named None = None
if_named (Some said) = option_map (λ first. said) said.first

-- The comparison that words ask for: `compare`, the names of one or two files, and `--hex` and
-- `--same-job`, each at most once and anywhere behind the first word.
abbrev pub comparison_asked : List (List ℕ) → Option ComparisonWords
comparison_asked [] = None
comparison_asked (word ∷ others) =
    if bytes_eq word (codes "compare") then if_named (fold with_word (Some no_words) others) else None

-- what the words said that were read so far
abbrev pub words_said : Said → ComparisonWords
words_said said = record {
  first = option_map (λ name. name.now) said.first;
  second = option_map (λ name. name.now) said.second;
  sameness = said.sameness;
  hex = said.hex;
}

-- what words say that ask for a comparison
abbrev pub words_of_comparison : Comparison → ComparisonWords
words_of_comparison comparison = record {
  first = Some comparison.first.now;
  second = option_map (λ name. name.now) comparison.second;
  sameness = comparison.sameness;
  hex = comparison.hex;
}

-- ---- the run

-- The exit status of a comparison: 0 if two streams are the same, 1 if they differ.
abbrev pub comparison_status : ComparisonOutcome → ℕ
comparison_status (Ok verdict.Same) = 0
comparison_status (Ok (verdict.Differ place other)) = 1
comparison_status (Err fault) = comparison_exit_status fault

-- The comparison ran and ended with this status, or there was none, and nothing was read and written.
abbrev pub EndsWith : Option Comparison → ℕ → List ℕ → Option (List ℕ) → List ℕ → Type 0
EndsWith (Some comparison) status read left written =
    (said : ComparisonOutcome) × RunsFiles comparison said read left written
    × (status ≡ comparison_status said)
EndsWith None status read left written = (status ≡ 2) × (read ≡ []) × (written ≡ [])

-- The comparison that was asked for ended so.
abbrev pub RunsComparison : Option ComparisonWords → ℕ → List ℕ → Option (List ℕ) → List ℕ → Type 0
RunsComparison asked status read left written = (comparison : Option Comparison)
    × (option_map words_of_comparison comparison ≡ asked) × EndsWith comparison status read left written
