pub mod Computed
pub mod Example
pub mod Laws
pub mod Lines
pub mod Outcome
