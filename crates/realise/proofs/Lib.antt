pub mod AdditionLemmas
pub mod PinLemmas
pub mod ChargingLemmas
pub mod SeveralLemmas
pub mod HoldingLemmas
pub mod KeepingLemmas
pub mod ForgettingLemmas
