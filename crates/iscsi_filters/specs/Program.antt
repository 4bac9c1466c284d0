-- Which filter the words of a program ask for, and how the program ends.
use Rattle.std.specs.Prelude.{◌≡◌, ℕ, true, false, List, [], ◌∷◌, Option, Some, None, codes, fold, if◌then◌else◌}
use Rattle.std.specs.Str.{bytes_eq}
use Rattle.iscsi_filters.specs.declared.program.StreamFilter.{StreamFilter}
use Rattle.iscsi_filters.specs.declared.work.StreamWork.{StreamWork}
use Rattle.iscsi_filters.specs.declared.work.StreamWork.TheVariants.{Show, Normalise, Text}
use Rattle.iscsi_filters.specs.Filters.{DoesWork, FilterOutcome, work_status}

-- The filter of bytes that the first word names.
abbrev pub filter_named : List ℕ → Option StreamFilter
filter_named word =
    if bytes_eq word (codes "show") then Some (record { work = Show; hex = false })
    else if bytes_eq word (codes "normalise") then Some (record { work = Normalise; hex = false })
    else None

-- A filter of hex text, unless it is one.
abbrev pub of_hex : StreamFilter → Option StreamFilter
of_hex filter = if filter.hex then None else Some (record filter { hex = true })

-- What normalises a text; what shows a stream, or normalises a text, takes the word no more.
abbrev pub of_text : StreamFilter → StreamWork → Option StreamFilter
of_text filter Normalise = Some (record filter { work = Text })
of_text filter _ = None

-- The filter with one word more.
abbrev pub filter_with : Option StreamFilter → List ℕ → Option StreamFilter
filter_with None word = None
filter_with (Some filter) word =
    if bytes_eq word (codes "--hex") then of_hex filter
    else if bytes_eq word (codes "--text") then of_text filter filter.work
    else None

-- The filter that words ask for; with no words the hex text of a stream is normalised.
abbrev pub filter_asked : List (List ℕ) → Option StreamFilter
filter_asked [] = Some (record { work = Normalise; hex = true })
filter_asked (first ∷ others) = fold filter_with (filter_named first) others

-- The filter that was asked for ran and ended with this status, or nothing was read and written.
abbrev pub RunsFilter : Option StreamFilter → ℕ → List ℕ → List ℕ → Type 0
RunsFilter (Some filter) status read written = (said : FilterOutcome)
    × DoesWork filter.work filter.hex said read written × (status ≡ work_status said)
RunsFilter None status read written = (status ≡ 2) × (read ≡ []) × (written ≡ [])
