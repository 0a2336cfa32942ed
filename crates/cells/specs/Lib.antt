pub mod Excerpt
pub mod Strongest
pub mod Rolling
pub mod Internal
pub mod Channel
