pub mod Load
pub mod Parts
pub mod Grammar
pub mod Meaning
