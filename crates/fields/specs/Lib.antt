-- Fields by their widths in bits, and the bits of a number that they are made of.
pub mod Fields
pub mod Parts
