pub mod Excerpts
pub mod Rolling
pub mod Windows
pub mod Laws
pub mod Computed
pub mod Calls
pub mod RollingCalls
