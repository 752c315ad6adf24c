pub mod Check
pub mod Claims
pub mod Prove
pub mod Value
