pub mod Calls
pub mod Laws
pub mod Refutations
pub mod Theorem
