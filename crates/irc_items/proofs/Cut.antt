-- A link is lost. Its two ends are the sources, and do not meet: each tells its own side, in turn,
-- of the loss of each server that was behind the link.
--   Given               both ends have served the loss, and the way between them is gone (`IsCut`)
--   Step                `IsCutStep`; what is left; where each server stands
--   Sides, Ends         the deeds, and a side before and after; who is still joined and linked
--   Names, NamesPassing, Forgetting, LostUsersQuit, Losses, LostInTurn
--                       servers that are lost one after another: what is forgotten, who quits, what
--                       is left of a side and seen of it
--   Home, Told          what an end does of that, and that its lines say it to each neighbour
--   Parts               each side is sound, its servers fit it, and its lines come from its end
--   Side, Halls         what a side comes to: whom it knows, its room, what its clients have seen
--   Coming              so each server comes to the world without the link (`ComesToCut`)
--   Begins              what is under way, and how it starts
--   Sound               what clients receive, how many lines; `ComesTo` (`cut_sound`)
--   Item                all of it put together (`cut_item_sound`)
pub mod Given
pub mod Sides
pub mod Ends
pub mod Step
pub mod Names
pub mod NamesPassing
pub mod Forgetting
pub mod LostUsersQuit
pub mod Losses
pub mod LostInTurn
pub mod Home
pub mod Told
pub mod Parts
pub mod Side
pub mod Halls
pub mod Coming
pub mod Begins
pub mod Sound
pub mod Item
