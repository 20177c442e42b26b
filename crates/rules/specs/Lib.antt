-- Document 01 as definitions, in its own order, as the requests of document 02 amend it (No. 3: a SACK that contradicts itself; No. 4: the
-- count; No. 6: longer pipes; No. 8: false alarms). Nothing here is proved or run: proofs/ has the theorems.
pub mod Numbers
pub mod Numbered
pub mod Receiver
pub mod Receiving
pub mod Sender
pub mod Retire
pub mod Marks
pub mod Sending
pub mod Connection
pub mod Table
pub mod Kept
pub mod Kinds
pub mod Paper
pub mod Outcomes
pub mod Log
pub mod Refusals
pub mod Replay
pub mod Limits
pub mod Bench
