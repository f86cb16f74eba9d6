-- What the laws cite.
pub mod Told
pub mod BranchesTold
pub mod InFull
pub mod PromiseTold
