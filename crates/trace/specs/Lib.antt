pub mod Settled
pub mod Faults
pub mod Replies
pub mod Texts
pub mod Session
pub mod Transcript
pub mod Dealings
