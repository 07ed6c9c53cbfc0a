-- What the contracts of `pool` say of its arguments.
pub mod Arguments
