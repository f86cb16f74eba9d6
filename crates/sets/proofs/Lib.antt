-- Laws of the read set and its index.
pub mod Pairs
pub mod Paths
pub mod Bound
