pub mod Calls
pub mod Digits
pub mod Played
pub mod PlayedText
pub mod Printed
pub mod Runs
