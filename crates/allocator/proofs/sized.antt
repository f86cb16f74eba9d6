-- Working space by classes, src/sized.rt.
pub mod Written
