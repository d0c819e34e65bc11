pub mod Apply
pub mod Run
pub mod Turns
