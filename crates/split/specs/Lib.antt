pub mod Answer
pub mod Below
pub mod Claims
pub mod Located
pub mod Reads
pub mod Repair
pub mod Search
