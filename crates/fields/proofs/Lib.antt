-- Laws on numbers by their bits, on bytes and on fields, and what the contracts come to. Assumes nothing.
pub mod Spelling
pub mod Cuts
pub mod OneByte
pub mod Joining
pub mod RoundTrip
pub mod Layouts
pub mod Checked
pub mod Padding
pub mod Settled
