-- What the words of `serve` say of who may come, where, and of what may change.
use Rattle.std.specs.Prelude.{◌≡◌, Bool, true, false, List, [], ◌∷◌, Option, Some, None, option_map, unwrap_or, codes}
use Rattle.std.specs.Net.Addr.{ipv4_octets}
use Rattle.std.specs.Net.Grammar.{IsIpText}
use Rattle.std.specs.declared.net.IpAddr.{IpAddr}
use Rattle.std.specs.declared.net.IpAddr.TheVariants as ip
use Rattle.clap.specs.Words.{Row, Text, all_of, first_of, found_of, one_of, rows_of}
use Rattle.clap.specs.declared.parser.matches.ArgMatches.{ArgMatches}
use Rattle.iscsi_options.specs.declared.options.UnitOptions.{UnitOptions}
use Rattle.iscsi_serve_words.specs.Rows.{serve_rows}
use Rattle.iscsi_serve_words.specs.declared.serve_words.ServeJob.{ServeJob}
use Rattle.iscsi_serve_words.specs.declared.serve_words.Service.{Service}
use Rattle.iscsi_serve_words.specs.declared.serve_words.Service.TheVariants as service
use Rattle.iscsi_serve_words.specs.declared.storage.Origin.{Origin}
use Rattle.iscsi_serve_words.specs.declared.storage.Origin.TheVariants as origin
use Rattle.iscsi_serve_words.specs.declared.storage.Storage.{Storage}
use Rattle.iscsi_serve_words.specs.declared.storage.Storage.TheVariants as storage

-- The rows of the words that clap read.
abbrev pub rows_in : ArgMatches → List Row
rows_in matches = rows_of (found_of matches)

-- A flag is `true` where its word stands, and `false` where it doesn't.
pub record IsFlag (said : Option Text) (flag : Bool) : Type 0 where
  pub there : said ≡ Some (codes "true") → flag ≡ true
  pub absent : said ≡ Some (codes "false") → flag ≡ false
  pub unknown : said ≡ None → flag ≡ false

-- The address is the one that is said, or else 127.0.0.1.
abbrev pub IsListen : Option Text → IpAddr → Type 0
IsListen (Some text) address = IsIpText text address
IsListen None (ip.V4 address) = ipv4_octets address ≡ 127 ∷ 0 ∷ 0 ∷ 1 ∷ []
IsListen None (ip.V6 address) = ⊥

-- A disk that tells of itself whether it takes writes tells what was said.
abbrev pub TellsOf : Option Text → Option UnitOptions → Type 0
TellsOf said (Some unit) = IsFlag said unit.write_protected
TellsOf said None = Unit {0}

-- The file that a disk is kept in.
abbrev pub file_of : Storage → Option Text
file_of (storage.Image image) = Some image.path.now
file_of _ = None

-- An image is made.
abbrev pub is_made : Origin → Bool
is_made (origin.New blocks) = true
is_made (origin.Found blocks) = false

-- An image is made where that is said.
abbrev pub IsMade : Option Text → Storage → Type 0
IsMade said (storage.Image image) = IsFlag said (is_made image.origin)
IsMade said _ = Unit {0}

-- The image is that of `--file`, and made where `--create` stands.
pub record SaysStorage (rows : List Row) (kept : Storage) : Type 0 where
  pub file : file_of kept ≡ first_of (codes "file") rows
  pub create : IsMade (one_of (codes "create") rows) kept

-- A service of several sessions listens where the words say. One in turn is local, whatever they say.
abbrev pub Listens : List Row → Service → Type 0
Listens rows (service.AtOnce options) = IsListen (first_of (codes "listen") rows) options.listen
    × TellsOf (one_of (codes "read-only") rows) options.unit
Listens rows (service.InTurn options) = IsListen None options.listen

-- The job is what rows of words say: the file of secrets is that of `--chap`, no block changes where
-- `--read-only` stands, the image is that of `--file`, and made where `--create` stands. The service
-- listens at the address of `--listen`.
pub record SaysServe (rows : List Row) (job : ServeJob) : Type 0 where
  pub chap : option_map (λ path. path.now) job.secrets ≡ first_of (codes "chap") rows
  pub read_only : IsFlag (one_of (codes "read-only") rows) job.read_only
  pub storage : SaysStorage rows job.storage
  pub service : Listens rows job.service

-- The names of the initiators that `--initiator` lists.
abbrev pub said_names : List Row → List Text
said_names rows = unwrap_or (all_of (codes "initiator") rows) []

-- The job is what the words of a command line say whose first word is `serve`.
abbrev pub SaysJob : List Text → ServeJob → Type 0
SaysJob words job = SaysServe (serve_rows words) job
