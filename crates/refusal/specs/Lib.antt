-- The refusals, and the number of each.
pub mod Refusal
pub mod Returned
