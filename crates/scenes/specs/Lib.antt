pub mod Scenes
pub mod Generator
pub mod Lines
pub mod Played
pub mod PlayedText
