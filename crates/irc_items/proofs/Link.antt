-- A link is made. Its two ends are the sources and meet: each is told by the other of all that is
-- on its side, and tells its own side in turn.
--   Given                   both ends are open, PASS and SERVER of the near one are on their way
--                           (`IsLinked`)
--   Step                    `IsLinkStep`; where each server stands; each fits its side, of which
--                           nobody knows of the link
--   Sides, Ends, Over       the deeds, a side before and after, who is joined then; the link as
--                           either end sees it
--   Ways, Begins            what is under way is what the ends tell each other, and how that starts
--   ToldFirst, ServersTold, Count, Starts
--                           an end tells of each server of its side, once, and then of its room
--   Rooms, RoomTold, Kills, Answers
--                           the room, line by line (folder Burst); whose nickname is on both sides
--                           is killed, and the one line that goes back does nothing
--   Told                    so each end is told what there is to tell (`told_by_link`)
--   Gains, Side, Halls, Shown
--                           what a side comes to: whom it knows, its room and clients, what those
--                           have seen
--   Coming                  so each server comes to the world with the link (`ComesToLinked`)
--   Sound                   what clients receive, how many lines; `ComesTo` (`link_sound`)
--   Item                    all of it put together (`link_item_sound`)
pub mod Given
pub mod Sides
pub mod Gains
pub mod Step
pub mod Ends
pub mod Ways
pub mod Begins
pub mod Over
pub mod ToldFirst
pub mod ServersTold
pub mod Kills
pub mod Halls
pub mod Rooms
pub mod Starts
pub mod Answers
pub mod RoomTold
pub mod Told
pub mod Side
pub mod Shown
pub mod Coming
pub mod Count
pub mod Sound
pub mod Item
