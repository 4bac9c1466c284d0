-- One step along a chain of headers: of n there can be, this many were seen.
use Rattle.std.proofs.Common.{◌≡◌, ◌≢◌, ◌<◌, ◌≤◌, ℕ, zero, suc, ◌+◌, ◌-◌, List, length, true, false, ap, refl, ◌∙◌, arith, Ok}
use Rattle.std.specs.Prelude.{None, Some, if◌then◌else◌, ◌==◌}
use Rattle.capture_file.specs.declared.numbers.Order.TheVariants.{Big}
use Rattle.capture_file.specs.Numbers.{ordered_number}
use Rattle.capture_file.specs.Layers.{onward}
use Rattle.capture_file.specs.Internet.{behind_extension, tcp_at}
use Rattle.capture_file.specs.Links.{behind_kind, behind_tags, is_ip, is_vlan_tag}

tag_one : (kinds at : ℕ) (packet : List ℕ)
    → behind_tags (suc kinds) at packet ≡ behind_kind at packet (behind_tags kinds (at + 4) packet)
unfolding behind_tags
tag_one kinds at packet = refl

pub tag_step : (n seen at : ℕ) (packet : List ℕ) → seen < n
    → behind_tags (n - seen) at packet ≡ behind_kind at packet (behind_tags (n - (seen + 1)) (at + 4) packet)
tag_step n seen at packet h =
    let e : n - seen ≡ suc (n - (seen + 1)) = omega arith in
    ap (λ (k : ℕ). behind_tags k at packet) e ∙ tag_one (n - (seen + 1)) at packet

pub tag_end : (n seen at : ℕ) (packet : List ℕ) → seen ≡ n → behind_tags (n - seen) at packet ≡ Ok None
unfolding behind_tags
tag_end n seen at packet h =
    let e : n - seen ≡ zero = omega arith in
    ap (λ (k : ℕ). behind_tags k at packet) e

pub tag_more : (n seen at : ℕ) (packet : List ℕ) → seen < n → at + 2 ≤ length packet
    → is_ip (ordered_number Big 2 at packet) ≡ false → is_vlan_tag (ordered_number Big 2 at packet) ≡ true
    → behind_tags (n - (seen + 1)) (at + 4) packet ≡ behind_tags (n - seen) at packet
tag_more n seen at packet h there ip tag = grind (arith, tag_step n seen at packet h)

-- of VLAN tags
pub ruleset tags = (tag_step, tag_more, tag_end)

header_one : (headers kind at : ℕ) (packet : List ℕ)
    → tcp_at (suc headers) kind at packet ≡ (if kind == 6 then Ok (Some at)
    else onward (λ (next : ℕ × ℕ). tcp_at headers next.0 next.1 packet) (behind_extension kind at packet))
unfolding tcp_at
header_one headers kind at packet = refl

pub header_step : (n seen kind at : ℕ) (packet : List ℕ) → seen < n
    → tcp_at (n - seen) kind at packet ≡ (if kind == 6 then Ok (Some at)
    else onward (λ (next : ℕ × ℕ). tcp_at (n - (seen + 1)) next.0 next.1 packet)
    (behind_extension kind at packet))
header_step n seen kind at packet h =
    let e : n - seen ≡ suc (n - (seen + 1)) = omega arith in
    ap (λ (k : ℕ). tcp_at k kind at packet) e ∙ header_one (n - (seen + 1)) kind at packet

pub header_end : (n seen kind at : ℕ) (packet : List ℕ) → seen ≡ n
    → tcp_at (n - seen) kind at packet ≡ Ok None
unfolding tcp_at
header_end n seen kind at packet h =
    let e : n - seen ≡ zero = omega arith in
    ap (λ (k : ℕ). tcp_at k kind at packet) e

pub header_more : (n seen kind at next behind : ℕ) (packet : List ℕ) → seen < n → kind ≢ 6
    → behind_extension kind at packet ≡ Ok (Some (next, behind))
    → tcp_at (n - (seen + 1)) next behind packet ≡ tcp_at (n - seen) kind at packet
header_more n seen kind at next behind packet h other found =
    grind (arith, header_step n seen kind at packet h)

-- of IPv6
pub ruleset headers = (header_step, header_more, header_end)
