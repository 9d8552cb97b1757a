-- What becomes of a network when one of its servers is asked for something, takes a line, or has a
-- way opened or closed: which of it stays.
--   NodeChanged, SetWays  one node is other than it was, one way of it
--   SentOut, Asked        what a server puts out is on its ways and with its clients
--   Delivered             a line is taken off a way
pub mod NodeChanged
pub mod SentOut
pub mod Asked
pub mod SetWays
pub mod BothAsked
pub mod Delivered
