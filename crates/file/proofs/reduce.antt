-- A file reduced, src/reduce.rt.
pub mod Promise
