-- Blindness of commands and runs, from the blindness of the protocols.
pub mod Public
pub mod RunProtocol
pub mod Run
pub mod Pairs
pub mod Runs
pub mod Refusal
pub mod Records
