-- Inner: no promise is made in these words.
pub mod Coloring
pub mod Walk
