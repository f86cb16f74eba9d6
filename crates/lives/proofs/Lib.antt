-- Laws of the ends, and of the registers along a walk, which the walks above cite too.
pub mod Ends
mod Prefix
pub mod Registers
