-- Definitions for contracts inside the crate.
pub mod Bodies
pub mod Writing
pub mod Report
