-- Laws that the proofs of this crate use.
mod CommandLine
