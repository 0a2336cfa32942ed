pub mod Generator
pub mod Internal
