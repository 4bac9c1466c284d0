-- The login: both ends hold the same at its end, and two that suit each other come there.
pub mod HeldBack
pub mod TargetStep
pub mod InitiatorStep
pub mod RoundAgrees
pub mod Exchange
pub mod AgreementLaw
pub mod IdleLaw
pub mod Compatible
pub mod RoundBegins
pub mod RoundProgress
pub mod NearerLemmas
pub mod LoginEndsInStep
pub mod NoFailure
pub mod NoEarlyFailureLaw
