pub mod KindLaws
pub mod PartLaws
pub mod Accepts
pub mod Verdicts
pub mod Answers
pub mod Runs
pub mod Unique
