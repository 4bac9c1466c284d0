-- The serial number of an image or an export that is given none (own rule).
use Rattle.std.specs.Prelude.{ℕ, List, ◌∷◌, ◌++◌, take}
use Rattle.hex.specs.Hex.{encode_lower}
use Rattle.md5.specs.Md5.{md5}

-- 16 hex digits of a digest of the target's name and of the place where the disk is kept.
abbrev pub serial_digits : List ℕ → List ℕ → List ℕ
serial_digits name place = encode_lower (take 8 (md5 (name ++ (0x00 ∷ place))))
