pub mod Bits
pub mod Calls
pub mod Laws
pub mod Lists
