-- What a client does at its own server: that server does what the room machine of its part does,
-- and tells its neighbours.
--   Users, Clients        whose home is this server, and which clients stay where only some do
--   Effects .. Events     an effect, the steps of a line, whatever happens: the server is what it
--                         has to be, its clients see the same
--   Fits                  so it does as the machine (`does_as_machine`)
--   Doable                the effects can be done and told, each when its turn comes
--   Lines, Along          on each link goes at most one line of each
--   Tells                 what is put out tells of the effects in turn (`tells_from_home`)
pub mod Users
pub mod Clients
pub mod Effects
pub mod Steps
pub mod Events
pub mod Fits
pub mod Doable
pub mod Lines
pub mod Along
pub mod Tells
