-- Demand 3: what the two sides promise together.
pub mod Wire
pub mod Network
pub mod Rules
pub mod Promise
pub mod Sense
pub mod Progress
