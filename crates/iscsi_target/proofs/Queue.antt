pub mod TaskPlaceLemmas
pub mod PendingLemmas
pub mod AcceptedOrderLaw
pub mod QueueLemmas
