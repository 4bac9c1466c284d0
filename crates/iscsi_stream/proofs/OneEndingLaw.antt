-- Two calls that fed the same bytes ended in the same way.
use Rattle.std.proofs.Common.{◌≡◌, ◌⊎◌, inl, inr, Bool, true, false, sym, ap, subst, ◌∙◌}
use Rattle.iscsi_stream.specs.declared.fault.StreamFault.{StreamFault}
use Rattle.iscsi_stream.specs.Stream.{NoPdu}
use Rattle.iscsi_stream.specs.Framing.{Framing, IsBegun}
use Rattle.iscsi_stream.proofs.ReadyLemmas.{apart}
use Rattle.iscsi_stream.proofs.FrontLemmas.{Sight, IsLeft, IsRefused, begun_or_refused, framer, refused_none, refused_once}

-- What a call leaves and answers behind the PDUs that it received.
pub record Outcome (M R : Type 0) : Type 0 where
  pub is_over : M → Bool
  -- the session, and the answers where they closed it and where it goes on
  pub session : M
  pub ended : R
  pub going : R
  -- the session that a refused rest closes, and the answer to that
  pub shut : M
  pub broken : StreamFault → R
  pub shut_is : is_over shut ≡ true

-- How a call ended, before the rest of the stream.
pub data Ended {M R : Type 0} (o : Outcome M R) (x : Sight) (result : R) (session : M) (framing : Framing) : Type 0 where
  -- the session was closed by what was received
  Over : o.is_over o.session ≡ true → result ≡ o.ended → session ≡ o.session → Ended o x result session framing
  -- it goes on, and nothing is wrong with the rest
  GoesOn : o.is_over o.session ≡ false → result ≡ o.going → session ≡ o.session → IsLeft x framing → Ended o x result session framing
  -- the rest is refused
  Breaks : (fault : StreamFault) → o.is_over o.session ≡ false → result ≡ o.broken fault → session ≡ o.shut → IsRefused x fault →
      Ended o x result session framing

-- It received all that there is, or what it received closed the session.
pub end_of : {M R : Type 0} (o : Outcome M R) (x : Sight) (result : R) (session : M) (framing : Framing) → Ended o x result session framing
    → (o.is_over o.session ≡ true) ⊎ NoPdu x.limit x.rest
end_of o x result session framing (Over over e m) = inl over
end_of o x result session framing (GoesOn live e m left) = inr left.none
end_of o x result session framing (Breaks fault live e m refused) = inr (refused_none x fault refused)

-- what a call answered, and the session and the framing that it left
pub record Call (M R : Type 0) : Type 0 where
  pub result : R
  pub session : M
  pub framing : Framing

-- these three together
abbrev pub call : {M R : Type 0} → R → M → Framing → Call M R
call result session framing = record { result = result; session = session; framing = framing }

-- Both calls answered the same, and left the same session, and, while it goes on, the same framing.
pub record EndAlike {M R : Type 0} (is_over : M → Bool) (one other : Call M R) : Type 0 where
  pub answered : other.result ≡ one.result
  pub session_is : other.session ≡ one.session
  pub framing : is_over one.session ≡ false → other.framing ≡ one.framing

pub end_alike : {M R : Type 0} (o : Outcome M R) (x y : Sight) (result other : R) (session same : M) (v w : Framing)
    → (o.is_over o.session ≡ false → y ≡ x) → Ended o x result session v → Ended o y other same w →
    EndAlike o.is_over (call result session v) (call other same w)
end_alike o x y result other session same v w see (Over over e m) (Over late f n) =
    record { answered = f ∙ sym e; session_is = n ∙ sym m; framing = λ live. absurd (apart (ap o.is_over m ∙ over) live) }
end_alike o x y result other session same v w see (GoesOn live e m left) (GoesOn live' f n left') =
    record { answered = f ∙ sym e; session_is = n ∙ sym m; framing = λ open_. left'.is ∙ ap framer (see live) ∙ sym left.is }
end_alike o x y result other session same v w see (Breaks a live e m refused) (Breaks b live' f n refused') =
    let one : a ≡ b = refused_once x a b refused (subst (λ (z : Sight). IsRefused z b) (see live) refused') in
    record { answered = f ∙ ap o.broken (sym one) ∙ sym e; session_is = n ∙ sym m; framing = λ open_. absurd (apart (ap o.is_over m ∙ o.shut_is) open_) }
end_alike o x y result other session same v w see (GoesOn live e m left) (Breaks b live' f n refused) =
    absurd (begun_or_refused x b left.begun (subst (λ (z : Sight). IsRefused z b) (see live) refused))
end_alike o x y result other session same v w see (Breaks a live e m refused) (GoesOn live' f n left) =
    absurd (begun_or_refused x a (subst (λ (z : Sight). IsBegun z.limit z.rest) (see live) left.begun) refused)
end_alike o x y result other session same v w see (Over over e m) (GoesOn live f n left) = absurd (apart over live)
end_alike o x y result other session same v w see (Over over e m) (Breaks b live f n refused) = absurd (apart over live)
end_alike o x y result other session same v w see (GoesOn live e m left) (Over over f n) = absurd (apart over live)
end_alike o x y result other session same v w see (Breaks a live e m refused) (Over over f n) = absurd (apart over live)
