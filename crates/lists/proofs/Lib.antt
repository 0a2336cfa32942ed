pub mod Each
pub mod Filled
pub mod Lists
pub mod Put
pub mod Tested
pub mod Pasted
pub mod Made
