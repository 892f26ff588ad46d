-- What a record of the program stands for.
pub mod Record
