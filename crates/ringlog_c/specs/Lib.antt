pub mod Claims
pub mod Wire
