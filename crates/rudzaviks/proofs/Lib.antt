-- The laws that the functions' proofs cite.
pub mod InFull
pub mod Optimize
pub mod ReduceBytes
pub mod Survey
pub mod Written
