pub mod Misreads
pub mod Columns
pub mod Verbs
pub mod Said
pub mod Commands
