pub mod RoundTrip
pub mod Canonical
pub mod Laws
