-- The ends are the same if `==` says so.
use mathlib.Core.Path.{fun_ext}
use Rattle.std.proofs.Common.{◌≡◌, refl}
use Rattle.std.specs.Prelude.{◌&&◌}
use Rattle.std.specs.declared.net.socket_addr.SocketAddr.{SocketAddr}
use Rattle.std.specs.declared.net.socket_addr.SocketAddr.TheVariants.{V4, V6}
use Rattle.capture_connections.specs.declared.ends.Ends.{Ends}
use Rattle.capture_connections.specs.contracts.ends.EndsPartialEq.TheImpl.{eq-value}
use Rattle.capture_connections.specs.SameEnds.{same_ends, same_address}

equal_at : (l u m v : SocketAddr)
    → eq-value.it (record { lower = l; upper = u }) (record { lower = m; upper = v })
    ≡ (same_address l m && same_address u v)
equal_at (V4 l) (V4 u) (V4 m) (V4 v) = refl
equal_at (V4 l) (V4 u) (V4 m) (V6 v) = refl
equal_at (V4 l) (V4 u) (V6 m) (V4 v) = refl
equal_at (V4 l) (V4 u) (V6 m) (V6 v) = refl
equal_at (V4 l) (V6 u) (V4 m) (V4 v) = refl
equal_at (V4 l) (V6 u) (V4 m) (V6 v) = refl
equal_at (V4 l) (V6 u) (V6 m) (V4 v) = refl
equal_at (V4 l) (V6 u) (V6 m) (V6 v) = refl
equal_at (V6 l) (V4 u) (V4 m) (V4 v) = refl
equal_at (V6 l) (V4 u) (V4 m) (V6 v) = refl
equal_at (V6 l) (V4 u) (V6 m) (V4 v) = refl
equal_at (V6 l) (V4 u) (V6 m) (V6 v) = refl
equal_at (V6 l) (V6 u) (V4 m) (V4 v) = refl
equal_at (V6 l) (V6 u) (V4 m) (V6 v) = refl
equal_at (V6 l) (V6 u) (V6 m) (V4 v) = refl
equal_at (V6 l) (V6 u) (V6 m) (V6 v) = refl

pub equal_ends : (a b : Ends) → eq-value.it a b ≡ same_ends a b
equal_ends a b = equal_at a.lower a.upper b.lower b.upper

pub equal_is : eq-value.it ≡ same_ends
equal_is = fun_ext (λ a. fun_ext (λ b. equal_ends a b))
