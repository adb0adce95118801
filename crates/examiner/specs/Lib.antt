pub mod Histories
pub mod Owing
pub mod Steps
pub mod Promises
pub mod Tallies
pub mod Lives
pub mod Reports
pub mod WorkedUnit
