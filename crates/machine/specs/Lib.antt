-- Commands and runs, in reading order.
pub mod Table
pub mod Lent
pub mod Refusal
pub mod Verdict
pub mod Steps
pub mod Command
pub mod Registers
pub mod Start
pub mod Run
pub mod Printed
-- The claims, and the definitions that only they use.
pub mod Records
pub mod Pairing
pub mod Refusals
pub mod Claims
pub mod Apart
pub mod WorkedRuns
pub mod Texts
-- Definitions for contracts inside the crate.
pub mod Private
