-- The words of a command, as clap's parse reads them.
use Rattle.std.specs.Prelude.{◌≡◌, false, true, List, [], ◌∷◌, ◌++◌, Some, map, flat_map, is_none, unwrap_or, option_map, codes}
use Rattle.clap.specs.Words.{App, Row, Rule, Shape, Text, app_of, new_app, new_rule, rule_of, subcommand_of, with_subcommand}
use Rattle.clap.specs.Simple.{new_shape, on_top}
use Rattle.clap.specs.declared.builder.action.ArgAction.TheVariants.{Append, Set, SetTrue}
use Rattle.clap.specs.declared.builder.arg.Arg.{Arg}
use Rattle.clap.specs.declared.builder.command.Command.{Command}
use Rattle.clap.specs.declared.builder.command.Command.TheViews.{out-Command as fields_of}
use Rattle.iscsi_serve_words.specs.declared.command_row.CommandRow.{CommandRow}
use Rattle.iscsi_serve_words.specs.declared.word.Word.{Word}
use Rattle.iscsi_serve_words.specs.declared.word.WordKind.{WordKind}
use Rattle.iscsi_serve_words.specs.declared.word.WordKind.TheVariants as kind

-- ---- what tables are to clap

-- A word of this name and kind: a flag, `--name VALUE`, or the name of a file.
abbrev pub rule_of_kind : Text → WordKind → Rule
rule_of_kind name kind.Flag = record (new_rule name) { long = Some name; action = Some SetTrue }
rule_of_kind name (kind.Value value) = record (new_rule name) {
  long = Some name;
  value_names = 1;
  action = Some Set;
}
rule_of_kind name (kind.NeededValue value) = record (new_rule name) {
  long = Some name;
  value_names = 1;
  action = Some Set;
  required = true;
}
rule_of_kind name (kind.Values value) = record (new_rule name) {
  long = Some name;
  value_names = 1;
  action = Some Append;
}
rule_of_kind name kind.File = record (new_rule name) { action = Some Set }
rule_of_kind name kind.NeededFile = record (new_rule name) { action = Some Set; required = true }

-- A word of a table. One that wants another one beside it has a rule on it.
abbrev pub rule_of_word : Word → Rule
rule_of_word word = record (rule_of_kind word.name.now word.kind) { is_free = is_none word.beside }

-- A command of a table, without its words.
abbrev pub bare_row : CommandRow → Shape
bare_row row = record (new_shape row.name.now) { disable_version_flag = true }

-- A command of a table.
abbrev pub shape_of_row : CommandRow → Shape
shape_of_row row = record (bare_row row) {
  rules = flat_map (λ words. map rule_of_word words.now) row.words.now;
}

-- The program, without its commands. Its first word is no name of a program.
abbrev pub bare_program : App
bare_program = on_top (λ top. record top {
  no_binary_name = true;
  disable_version_flag = true;
  subcommand_required = true;
}) (new_app (codes "lanthovur"))

-- A word of `serve` with a value, one that may stand there several times, and a flag.
abbrev pub value_word : Text → Rule
value_word name = record (new_rule name) { long = Some name; value_names = 1; action = Some Set }

abbrev pub values_word : Text → Rule
values_word name = record (new_rule name) { long = Some name; value_names = 1; action = Some Append }

abbrev pub flag_word : Text → Rule
flag_word name = record (new_rule name) { long = Some name; action = Some SetTrue }

-- The word wants another one beside it.
abbrev pub wants_another : Rule → Rule
wants_another rule = record rule { is_free = false }

-- The words of `serve`.
unfoldable pub serve_words : List Rule
serve_words =
    value_word (codes "size")
    ∷ value_word (codes "blocks")
    ∷ value_word (codes "file")
    ∷ wants_another (flag_word (codes "create"))
    ∷ value_word (codes "nbd")
    ∷ flag_word (codes "read-only")
    ∷ value_word (codes "serial")
    ∷ flag_word (codes "thin")
    ∷ flag_word (codes "write-back")
    ∷ value_word (codes "memory")
    ∷ value_word (codes "port")
    ∷ value_word (codes "listen")
    ∷ value_word (codes "portal")
    ∷ value_word (codes "name")
    ∷ values_word (codes "initiator")
    ∷ value_word (codes "chap")
    ∷ value_word (codes "at-once")
    ∷ value_word (codes "sessions")
    ∷ value_word (codes "logins")
    ∷ value_word (codes "idle")
    ∷ value_word (codes "login-within")
    ∷ flag_word (codes "print-port")
    ∷ flag_word (codes "quiet")
    ∷ value_word (codes "segment")
    ∷ value_word (codes "burst")
    ∷ value_word (codes "first-burst")
    ∷ value_word (codes "data-in")
    ∷ flag_word (codes "plain")
    ∷ []

-- The command `serve`, with its words.
abbrev pub serve_shape : Shape
serve_shape = record (new_shape (codes "serve")) {
  rules = serve_words;
  disable_version_flag = true;
}

-- The program whose only command is `serve`.
abbrev pub serve_program : App
serve_program = with_subcommand bare_program serve_shape

-- ---- what words give

-- What the words of a command line give whose first word is `serve`: a row for each word of `serve`, with
-- the values that stand there.
abbrev pub serve_rows : List Text → List Row
serve_rows words = unwrap_or (option_map (λ entered. entered.1) (subcommand_of serve_program words)) []

-- ---- what is built

-- An argument that is read so, and that no other command has.
pub record IsWord (rule : Rule) (arg : Arg) : Type 0 where
  pub rule_is : rule_of arg ≡ rule
  pub own : arg.global ≡ false

-- A command that is read so, and no argument of which another command has.
pub record IsCommand (app : App) (command : Command) : Type 0 where
  pub app_is : app_of command ≡ app
  pub own : (fields_of command).has_globals ≡ false

-- The command with these words more.
abbrev pub with_rules : List Rule → App → App
with_rules rules = on_top (λ top. record top { rules = top.rules ++ rules })

-- A command with these words more.
pub record AddsRules (rules : List Rule) (old new : Command) : Type 0 where
  pub app_is : app_of new ≡ with_rules rules (app_of old)
  pub own : (fields_of new).has_globals ≡ (fields_of old).has_globals

-- A command that is read as another one.
pub record IsReadAs (old new : Command) : Type 0 where
  pub app_is : app_of new ≡ app_of old
  pub own : (fields_of new).has_globals ≡ (fields_of old).has_globals
