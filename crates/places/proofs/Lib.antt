pub mod Steps
pub mod WordLaws
pub mod PlaceLaws
pub mod UnusedLaws
pub mod Unique
