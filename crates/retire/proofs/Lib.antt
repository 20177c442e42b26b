-- Laws of the bits that a SACK names, of a word's set bits one by one, of the rows part by part, of a block's two words, of what cack names word by
-- word and of the rows' front; and that each public function's contract settles its result. Assumes nothing.
pub mod Naming
pub mod Walk
pub mod Words
pub mod Blocks
pub mod Reached
pub mod Judged
pub mod Front
pub mod Settled
