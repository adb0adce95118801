pub mod Relating
pub mod Mentioning
pub mod Kinding
pub mod Covering
pub mod Roomy
pub mod Pointing
pub mod Ranging
pub mod Spanned
