pub mod Calls
pub mod Demand
pub mod History
pub mod Settling
pub mod WrongRelays
