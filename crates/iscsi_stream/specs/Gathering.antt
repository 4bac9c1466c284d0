-- What a framer's `Model` shows of its header, its segment and its padding.
use Rattle.std.specs.Prelude.{ℕ, List, ◌++◌, take, replicate}
use Rattle.iscsi_stream.specs.declared.gathering.Stage.{Stage}
use Rattle.iscsi_stream.specs.declared.gathering.Stage.TheVariants.{Header, Body}

-- the bytes gathered, with those of the padding as 0
abbrev pub gathered : List ℕ → List ℕ → Stage → List ℕ
gathered header segment (Header filled) = take filled header
gathered header segment (Body head len padded) = header ++ (segment ++ replicate padded 0)
