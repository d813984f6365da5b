-- Logs and certificates.
pub mod Cert
pub mod Sets
-- The invariant of one node, and all that keeps it.
pub mod Meant
pub mod Local
pub mod Grow
pub mod Change
pub mod Turn
pub mod Cases
pub mod React
pub mod Receive
pub mod Outcome
pub mod Open
pub mod Read
pub mod Write
pub mod Compare
pub mod Finish
pub mod Borrow
-- All nodes.
pub mod Sites
pub mod World
-- How an operation moves on, for any property of a node.
pub mod Passes
pub mod MoveOn
-- What no step loses: what it was handed, and the good message of every tag below one in use.
pub mod Live
pub mod Mark
