-- What one side says in a handshake, the other reads.
use Rattle.std.proofs.Common.{◌≡◌, ◌≤◌, ◌<◌, ◌^◌, ℕ, Bool, true, false, List, length, Ok, refl, arith}
use Rattle.std.proofs.lemmas.List.{take_at}
use Rattle.std.proofs.lemmas.Nat.{from_be_bytes-to_be_bytes_2, from_be_bytes-to_be_bytes_4, from_be_bytes-to_be_bytes_8}
use Rattle.nbd_wire.specs.declared.greeting.Greeting.{Greeting}
use Rattle.nbd_wire.specs.declared.information.BlockSizes.{BlockSizes}
use Rattle.nbd_wire.specs.declared.information.Export.{Export}
use Rattle.nbd_wire.specs.declared.information.Info.TheVariants as info
use Rattle.nbd_wire.specs.declared.option.OptionHead.{OptionHead}
use Rattle.nbd_wire.specs.Handshake.{greeting_bytes, greeting_at, go_head, block_size_asked, go_bytes, go_name, option_head_bytes, option_head_at, export_bytes, block_sizes_bytes, info_at}

greeting_with : (no_zeroes : Bool)
    → (let g : Greeting = record { no_zeroes = no_zeroes } in greeting_at (greeting_bytes g) ≡ Ok g)
unfolding greeting_bytes greeting_at
greeting_with true = refl
greeting_with false = refl

pub greeting_again : (g : Greeting) → greeting_at (greeting_bytes g) ≡ Ok g
greeting_again g = greeting_with g.no_zeroes

pub go_again : (name : List ℕ) → length name ≤ 4096 → go_name (go_bytes name) ≡ name
unfolding go_name go_head
go_again name short =
    let low : length name < 2 ^ 32 = omega arith in
    rw (from_be_bytes-to_be_bytes_4 (length name) low) (take_at name block_size_asked (length name) refl)

pub option_head_again : (head : OptionHead) → head.option < 2 ^ 32 → head.answer < 2 ^ 32 → head.length < 2 ^ 32
    → option_head_at (option_head_bytes head) ≡ Ok head
unfolding option_head_bytes option_head_at
option_head_again head option answer size =
    rw (from_be_bytes-to_be_bytes_4 head.option option, from_be_bytes-to_be_bytes_4 head.answer answer, from_be_bytes-to_be_bytes_4 head.length size) refl

pub export_again : (export : Export) → export.size < 2 ^ 64 → export.flags < 2 ^ 16
    → info_at (export_bytes export) ≡ Ok (info.Export export)
unfolding export_bytes info_at
export_again export size flags =
    rw (from_be_bytes-to_be_bytes_8 export.size size, from_be_bytes-to_be_bytes_2 export.flags flags) refl

pub block_sizes_again : (sizes : BlockSizes) → sizes.minimum < 2 ^ 32 → sizes.preferred < 2 ^ 32 → sizes.maximum < 2 ^ 32
    → info_at (block_sizes_bytes sizes) ≡ Ok (info.BlockSizes sizes)
unfolding block_sizes_bytes info_at
block_sizes_again sizes low mid high =
    rw (from_be_bytes-to_be_bytes_4 sizes.minimum low, from_be_bytes-to_be_bytes_4 sizes.preferred mid, from_be_bytes-to_be_bytes_4 sizes.maximum high) refl
