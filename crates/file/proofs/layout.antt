-- The file's words, src/layout.rt.
pub mod Bytes
