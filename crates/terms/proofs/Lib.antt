pub mod Table
pub mod Wide
pub mod Stacking
