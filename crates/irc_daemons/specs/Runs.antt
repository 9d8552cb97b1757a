-- Runs of daemons: turns of engines, one after another, and the items of the run. An item begins
-- where nothing is on its way between servers. By a link that is made or lost two servers are
-- told, one after the other, and no other item comes in between.
--
-- a.net and b.net are linked; al is client 1 at a.net.
--   a.net reads `PRIVMSG bo :hi` of al     an item, `line 1`
--   b.net reads what a.net has passed on   no item
--   a.net loses the link                   an item, `cut a.net b.net`; b.net is still to be told
--   a.net writes to al that bo is gone     no item; al must not say anything yet
--   b.net loses the link                   no item: its half of that one
use Rattle.std.specs.Prelude.{◌≡◌, ℕ, ⊤, Option, Some, None, List, [], ◌∷◌, ◌++◌}
use Rattle.irc_outbox.specs.Calls.{Call}
use Rattle.irc_relay.specs.Links.{Name}
use Rattle.irc_world.specs.Owed.{world_of}
use Rattle.irc_world.specs.Refused.{refused}
use Rattle.irc_world.specs.Stepping.{Item, connect, cut, gone, line, link}
use Rattle.irc_world.specs.World.{Setting}
use Rattle.irc_daemons.specs.Daemons.{AreLinksOpen, Daemons}
use Rattle.irc_daemons.specs.Items.{AreItems, IsApartStep, IsQuiet}
use Rattle.irc_daemons.specs.Steps.{Steps}
use Rattle.irc_daemons.specs.Tellings.{IsOfItem, Owing, TellsEnd, LinkTidings}

-- Two servers that are linked are peers of each other with one password, and not joined yet,
-- directly or by others.
abbrev pub MayBe : List Setting → List Item → Item → Type 0
MayBe settings before (link near far) =
    refused settings (world_of settings before) (link near far) ≡ None
MayBe settings before (connect server host) = ⊤
MayBe settings before (line client bytes) = ⊤
MayBe settings before (gone client) = ⊤
MayBe settings before (cut near far) = ⊤

-- while an end is still to be told, no item comes
abbrev pub NoneMeanwhile : Option Owing → List Item → Type 0
NoneMeanwhile None items = ⊤
NoneMeanwhile (Some owing) items = items ≡ []

-- Links stay open until their server is told that they are lost, and items do not overlap.
pub data Runs {W : Type 0} (is_after : W → List Call → Type 0) (names : List Name)
    (settings : List Setting) (begin : Daemons W)
    : List Item → Option Owing → Daemons W → Type 0 where
  no_step : Runs is_after names settings begin [] None begin
  one_more : (place : ℕ) (items more : List Item) (owing : Option Owing) (between new : Daemons W)
      → Runs is_after names settings begin items owing between
      → (step : Steps is_after place between new) → AreLinksOpen new
      → AreItems names new place step.did.events more → IsApartStep step → NoneMeanwhile owing more
      → Runs is_after names settings begin (items ++ more) owing new
  first_told : (place other : ℕ) (mine theirs : LinkTidings) (items : List Item) (item : Item)
      (between new : Daemons W) → Runs is_after names settings begin items None between
      → IsQuiet between → IsOfItem names place other item mine theirs → MayBe settings items item
      → TellsEnd is_after mine place other between new → Runs is_after names settings begin
      (items ++ item ∷ []) (Some (record { place = other; other = place; tidings = theirs })) new
  second_told : (owing : Owing) (items : List Item) (between new : Daemons W)
      → Runs is_after names settings begin items (Some owing) between
      → TellsEnd is_after owing.tidings owing.place owing.other between new
      → Runs is_after names settings begin items None new
