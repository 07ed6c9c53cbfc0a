-- The definitions in reading order: what the protocols are; docs/SPECIFICATION.md says the same in words.
pub mod Word
pub mod Shares
pub mod Place
pub mod Protocol
pub mod Store
pub mod Local
pub mod Reshare
pub mod Multiply
pub mod Bit
pub mod Masked
pub mod Bits
pub mod Equal
pub mod Open
pub mod Below
-- What they draw, send and leave, and what the code's functions answer.
pub mod Contents
pub mod Counts
pub mod Draws
pub mod Outcome
pub mod Lent
pub mod Printed
-- What is claimed of them, and the notions that the claims use.
pub mod Blind
pub mod Parties
pub mod Own
pub mod Alone
pub mod Claims
pub mod Apart
pub mod Worked
-- Definitions for contracts inside the crate. One claim uses them too, `word_forms`: that the code's rounds on whole
-- words are those of Bits and Equal.
pub mod Private
