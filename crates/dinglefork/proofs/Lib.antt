-- Laws that the proofs of this crate use.
pub mod Texts
