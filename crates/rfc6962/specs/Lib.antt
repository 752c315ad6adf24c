pub mod Claims
pub mod Consistency
pub mod Hashed
pub mod Layouts
pub mod Prove
pub mod Rfc6962
pub mod Root
pub mod Whole
