-- What the calls that are the same for all chips stand on.
pub mod Calls
