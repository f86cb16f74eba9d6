-- Inner: no promise is made in these words; what the questions promise is in mir.
pub mod Table
