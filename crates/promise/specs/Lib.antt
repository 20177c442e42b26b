-- 01, When the card says no, and Pinning every answer down: what a rule gives, and what an engine owes for it, whatever the answer.
pub mod Line
pub mod Outcome
pub mod Promise
