-- A burst: the lines by which an end of a new link tells of its room. Each is read as what it says,
-- or as the KILL of whoever has the nickname there.
--   Told, Stated, Taken   each line tells of what the room has, and can be taken by the other's
--                         room
--   Read, Written         what the other side reads of it, and what the end writes
--   ChannelLines          which of them stand behind the introductions
--   Lines, ChangeLines, Collisions
--                         what a server makes of one line: it says its deed, or it stands aside;
--                         which may be answered
pub mod Told
pub mod Stated
pub mod ChannelLines
pub mod ChangeLines
pub mod Taken
pub mod Read
pub mod Written
pub mod Lines
pub mod Collisions
