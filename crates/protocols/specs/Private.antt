-- What only contracts inside the crate use, and the claim `word_forms`.
pub mod Lending
pub mod WordForm
pub mod Bits
pub mod Equal
