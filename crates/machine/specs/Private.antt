-- Definitions for contracts inside the crate.
pub mod Accept
