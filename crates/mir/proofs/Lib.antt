-- Laws that several functions' proofs, and the crates above, cite.
pub mod Clash
pub mod Asked
pub mod Folds
pub mod Masks
pub mod Over
pub mod Passing
pub mod Records
pub mod Renaming
pub mod Shapes
