-- Each line that tells of a deed goes well when its turn comes (`IsGoodLine`), so servers follow
-- line by line.
--   PutOut, MetEnds         what is put out, and to which ends: who is known has named itself, and
--                           is owed nothing
--   Replies                 a line of which something is put out so is answered well
--   GoodEffects .. Kills    by kind of deed: what goes out goes to own clients and on links, and
--                           back only what may
--   GoodLines               all of them: the terms of following (`good_terms`, `well_follow`)
pub mod PutOut
pub mod MetEnds
pub mod Replies
pub mod GoodEffects
pub mod GoodDeeds
pub mod GoodKills
pub mod GoodGains
pub mod GoodLines
