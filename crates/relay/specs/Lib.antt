pub mod Channel
pub mod Internal
pub mod Relay
pub mod Settings
pub mod Sound
