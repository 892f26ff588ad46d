-- Laws of refusals.
pub mod Laws
