-- Any item: a client's, a link that is made, one that is lost. That the network is sound once an
-- item is given is proved once (Step, `item_sound`), of whatever is such a step and comes to where
-- it is to come.
--
-- The plan, from the item to the headline (../GivenStaysSound):
--   1. Given           what the network is just after: `HasTaken` (Step), and of each server at
--                      which the item is given what it is and what it put out. Nodes has the words
--                      for that: a server is asked, a way is opened or closed
--   2. Step            `IsStep`: the network was sound, at rest and one room, the world takes the
--                      item, and the network has taken it (`is_step`)
--   3. Ends            the servers at which it is given, its sources: a client has one, a link two.
--                      What is said of an end e and the other, o, is said of both
--   4. Sources         where each server stands: at a source, behind one, or aside (`Stands`).
--                      Lines come from the sources; each server of a side takes the same list of
--                      deeds (`starts_from`), and so many lines come (`few_from_one`,
--                      `few_from_two`)
--   5. Begun           `IsBegun`, `IsGoingOn`: who is next to a source is told of the deeds, and by
--                      them each server comes to the new world, each client to what it is owed.
--                      Servers follow line by line (`begins`, by Good)
--   6. Right           what servers keep by then is right, on each side and aside (`all_right`); a
--                      server that fits its side fits the new world (`refits`)
--   7. Step            `ComesTo` is put together of these; `item_sound`
-- Rest, AtRest and Reading: what is so at rest. Counting and FewLines: how many lines. DeedsInTurn:
-- a side through deeds.
--
-- A new kind of item would be a folder beside Client, Cut and Link. It needs
--   its sources        a relation `Ends e o`, and `Stands` for each server (as Cut.Step, `stands`)
--   its deeds          a list for each side, and what a side is after it (as Cut.Sides, Cut.Side)
--   why they are done  each source puts out lines that tell of them in turn, `Tells` (as Cut.Told),
--                      each deed can be done and told when its turn comes
--   where that leads   each server is what it has to be in the world after (as Cut.Coming), and
--                      each client has received what the world says
--   a bound            of the lines that come, which is `most` of the world
-- and a case in ../GivenStaysSound, ../Refusals and ../KeepsSettings, and its laws in src/laws.rt.
-- The rest is here. docs/ARCHITECTURE.md, "To add a kind of item", has the places in other crates.
-- This is for items that leave names and settings of servers as they are (`HasTaken`).
pub mod Step
pub mod Ends
pub mod Reading
pub mod Rest
pub mod AtRest
pub mod Begun
pub mod FewLines
pub mod Sources
pub mod Right
pub mod Counting
pub mod ItemsMore
pub mod SourceFacts
pub mod DeedsInTurn
