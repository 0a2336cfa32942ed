pub mod Codes
pub mod Bits
pub mod Cells
pub mod Internal
