pub mod Window
pub mod Fourier
pub mod Cordic
pub mod Exact
pub mod Lanes
pub mod Estimate
pub mod Internal
