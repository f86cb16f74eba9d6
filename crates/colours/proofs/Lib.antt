-- Laws of bits, of the colours' state, and of the choices.
pub mod Search
pub mod Bits
pub mod Mapped
pub mod Needed
pub mod Colours
pub mod Choices
pub mod Expiring
pub mod Steps
-- what the masks tell
pub mod MaskTold
