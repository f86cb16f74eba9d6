-- The laws that the functions' proofs cite. Those that serve one file of src/ stand in the folder of its name.
pub mod FileVerdict
pub mod Sections
pub mod WordBounds
