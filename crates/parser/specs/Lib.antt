pub mod Machine
pub mod Answers
pub mod Plans
pub mod Tags
pub mod Nodes
pub mod Documents
