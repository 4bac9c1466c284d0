-- What is written of a PDU in each form.
use Rattle.std.specs.Prelude.{◌≡◌, ℕ, ◌&&◌, nat_lt, not, if◌then◌else◌, List, [], ◌∷◌, ◌++◌, map}
use Rattle.json.specs.Print.{print}
use Rattle.json.specs.Lex.{tokens}
use Rattle.iscsi_stream.specs.Shown.{IsShownLine}
use Rattle.iscsi_explain.specs.declared.form.Form.{Form}
use Rattle.iscsi_explain.specs.declared.form.Form.TheVariants as forms

-- a byte that can be printed: the space up to ~ as it is, each other one as ?
abbrev pub printable : ℕ → ℕ
printable byte = if not (nat_lt byte 32) && nat_lt byte 127 then byte else 63

-- the line of a note: four spaces, the text as far as it can be printed, and a line end
abbrev pub note : List ℕ → List ℕ
note text = 32 ∷ 32 ∷ 32 ∷ 32 ∷ (map printable text ++ 10 ∷ [])

-- the lines of notes, one after another
abbrev pub notes_from : List (List ℕ) → List ℕ
notes_from [] = []
notes_from (text ∷ texts) = note text ++ notes_from texts

-- The line of a PDU, with what a capture says at its end of bytes that are missing.
pub record IsEntryLine (line : List ℕ) : Type 0 where
  pub text : List ℕ
  pub end : List ℕ
  pub is_line : IsShownLine (text ++ 10 ∷ [])
  pub whole : line ≡ text ++ (map printable end ++ 10 ∷ [])

-- The line of a PDU stands there, with what a capture says of it before it and these notes under it.
-- So the lines of notes are those that begin with a space.
pub record IsText (texts : List (List ℕ)) (entry : List ℕ) : Type 0 where
  pub front : List ℕ
  pub line : List ℕ
  pub is_line : IsEntryLine line
  pub whole : entry ≡ map printable front ++ (line ++ notes_from texts)

-- JSON text without spaces between its tokens (RFC 8259)
abbrev pub IsObject : List ℕ → Type 0
IsObject text = text ≡ print (tokens text)

-- what is written of one PDU
abbrev pub IsPduEntry : Form → List ℕ → Type 0
IsPduEntry forms.Line entry = IsText [] entry
IsPduEntry forms.Explained entry = (texts : List (List ℕ)) × IsText texts entry
IsPduEntry forms.Json entry = (text : List ℕ) × IsObject text × (entry ≡ text ++ 10 ∷ [])
IsPduEntry forms.ExplainedJson entry = (text : List ℕ) × IsObject text × (entry ≡ text ++ 10 ∷ [])

-- what is written of a remark: in the forms of lines nothing, since it is told elsewhere
abbrev pub IsRemarkEntry : Form → List ℕ → Type 0
IsRemarkEntry forms.Line entry = entry ≡ []
IsRemarkEntry forms.Explained entry = entry ≡ []
IsRemarkEntry forms.Json entry = (text : List ℕ) × IsObject text × (entry ≡ text ++ 10 ∷ [])
IsRemarkEntry forms.ExplainedJson entry = (text : List ℕ) × IsObject text × (entry ≡ text ++ 10 ∷ [])
