pub mod Claimed
pub mod Decimals
pub mod Pieces
