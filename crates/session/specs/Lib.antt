-- Sessions, the text that `pool` prints of them, and what is claimed of both, in the order of reading.
pub mod Words
pub mod Contents
pub mod Session
pub mod Text
pub mod Refusals
pub mod Claims
pub mod Pool
pub mod Apart
pub mod Worked
pub mod WorkedBlindness
-- Definitions for contracts inside the crate: no claim and no public contract depends on them.
pub mod Private
