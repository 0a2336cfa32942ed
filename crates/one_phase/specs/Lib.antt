pub mod OnePhase
