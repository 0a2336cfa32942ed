pub mod Each
pub mod Put
