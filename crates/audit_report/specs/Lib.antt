pub mod Claims
pub mod Decimal
pub mod Findings
pub mod Put
pub mod Report
pub mod Run
