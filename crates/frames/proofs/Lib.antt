pub mod Output
pub mod Samples
pub mod Ranges
pub mod Frames
pub mod Checks
pub mod Computed
pub mod Calls
