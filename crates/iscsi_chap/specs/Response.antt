-- The response to a challenge (RFC 1994, section 4.1; RFC 7143, section 12.1.3).
use Rattle.std.specs.Prelude.{ℕ, List, ◌∷◌, ◌++◌, Option, Some, None, if◌then◌else◌, codes}
use Rattle.std.specs.Str.{bytes_eq}
use Rattle.md5.specs.Md5.{md5}
use Rattle.sha2.specs.Sha256.{sha256}
use Rattle.iscsi_chap.specs.declared.algorithm.Algorithm.{Algorithm}
use Rattle.iscsi_chap.specs.declared.algorithm.Algorithm.TheVariants.{Md5, Sha256}
use Rattle.iscsi_chap.specs.declared.responding.Response.{Response}
use Rattle.iscsi_chap.specs.declared.responding.Response.TheVariants as responses

-- The number of an algorithm, as CHAP_A writes it (section 12.1.3; IANA's registry of CHAP
-- algorithms).
abbrev pub algorithm_name : Algorithm → List ℕ
algorithm_name Md5 = codes "5"
algorithm_name Sha256 = codes "7"

-- The algorithm that an item of CHAP_A names, if it is known; by its bytes (own rule).
abbrev pub algorithm_named : List ℕ → Option Algorithm
algorithm_named item =
    if bytes_eq item (codes "5") then Some Md5
    else if bytes_eq item (codes "7") then Some Sha256
    else None

-- What is hashed: the identifier, the secret and the challenge (RFC 1994, section 4.1).
abbrev pub hashed : ℕ → List ℕ → List ℕ → List ℕ
hashed identifier secret challenge = identifier ∷ secret ++ challenge

-- The response of an algorithm: the digest of what is hashed, by MD5 or by SHA-256 (section 12.1.3).
abbrev pub due_response : Algorithm → ℕ → List ℕ → List ℕ → Response
due_response Md5 identifier secret challenge =
    responses.Md5 (md5 (hashed identifier secret challenge))
due_response Sha256 identifier secret challenge =
    responses.Sha256 (sha256 (hashed identifier secret challenge))

-- The bytes of a digest.
abbrev pub digest_in : Response → List ℕ
digest_in (responses.Md5 digest) = digest
digest_in (responses.Sha256 digest) = digest

-- The bytes of the response.
abbrev pub chap_response : Algorithm → ℕ → List ℕ → List ℕ → List ℕ
chap_response algorithm identifier secret challenge =
    digest_in (due_response algorithm identifier secret challenge)
