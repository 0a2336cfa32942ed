pub mod Squares
pub mod Diff
pub mod Size
pub mod Holds
