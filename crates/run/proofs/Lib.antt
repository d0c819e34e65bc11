pub mod ApplyLaws
pub mod StepLaws
pub mod TurnLaws
pub mod RunLaws
pub mod Unique
