pub mod ByteLaws
pub mod WrittenLaws
pub mod Cases
pub mod AtTheFace
pub mod Demand1
pub mod Demand2
pub mod Demand3
pub mod TheWalk
