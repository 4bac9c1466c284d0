-- The exit status of words that ask for no job.
use Rattle.std.specs.Prelude.{ℕ}
use Rattle.iscsi_serve_words.specs.declared.command_line.LineFault.{LineFault}
use Rattle.iscsi_serve_words.specs.declared.command_line.LineFault.TheVariants as line

-- The exit status of words that ask for no job: 2, 0 if they ask for help, and 3 for memory.
abbrev pub words_status : LineFault → ℕ
words_status line.NoMemory = 3
words_status (line.Usage text) = 2
words_status (line.Help text) = 0
