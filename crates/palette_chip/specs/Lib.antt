-- A palette chip's rules, for any chip.
pub mod Rules
