-- What functions on the offered pairs see (RFC 7143, section 13.4). No public contract names it.
use Rattle.std.specs.Prelude.{ℕ, ◌-◌, Bool, true, not, ◌&&◌, List, [], ◌∷◌, length, take}
use Rattle.std.specs.List.{list_all}
use Rattle.std.specs.Str.{bytes_eq}
use Rattle.iscsi_text.specs.Text.{Pairs}
use Rattle.iscsi_text.specs.declared.negotiated.Session.{Session}
use Rattle.iscsi_text.specs.declared.negotiated.Session.TheVariants.{Normal, Discovery}

-- Without the last pair, the target's name, in a discovery session (section 13.4).
abbrev pub sent_pairs : Session → Pairs → Pairs
sent_pairs Normal pairs = pairs
sent_pairs Discovery pairs = take (length pairs - 1) pairs

-- No pair has this key (section 6.1).
abbrev pub is_new : List ℕ → Pairs → Bool
is_new key pairs = list_all (λ p. not (bytes_eq p.0 key)) pairs

-- No two pairs have the same key (section 6.1).
abbrev pub all_new : Pairs → Bool
all_new [] = true
all_new (p ∷ pairs) = is_new p.0 pairs && all_new pairs
