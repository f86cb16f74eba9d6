-- Inner: no promise of an operation is made in these words. What the masks of bits say is `Masked`. MaskCases is public: what the laws
-- say of them.
pub mod Masks
pub mod Colours
pub mod MaskCases
