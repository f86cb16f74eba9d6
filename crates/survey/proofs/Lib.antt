-- Laws that several functions' proofs cite.
pub mod Masks
