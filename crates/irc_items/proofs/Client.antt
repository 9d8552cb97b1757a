-- A client connects, says a line or goes. Its server is the one source of lines; they come from
-- there to its whole part.
--   Given    its server has served it (`IsServedFor`), and nothing else has changed
--   Due      what comes from outside keeps the rules
--   Side     `IsClientStep`: what is known of it; who takes lines; each server fits its part as it
--            was
--   Home..   (folder Home) the server does what the room machine of its part does, and tells its
--            neighbours of the effects in turn
--   OthersAlong, OtherServers
--            what those effects make of the room machine of the part, for its other servers and
--            their clients
--   Begins   the others follow those effects: where each server comes to and what each client has
--            received (`client_goes_on`)
--   Sound    how many lines; `ComesTo`, so the network is sound (`client_sound`)
--   Items    the three items: `connect_sound`, `line_sound`, `gone_sound`
pub mod Given
pub mod Due
pub mod Side
pub mod OthersAlong
pub mod OtherServers
pub mod Begins
pub mod Sound
pub mod Items
