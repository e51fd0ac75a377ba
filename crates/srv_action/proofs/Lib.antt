pub mod DeliveryLemmas
pub mod EventLemmas
pub mod FarewellLemmas
pub mod ReadLemmas
pub mod SessionLemmas
pub mod SettleLemmas
