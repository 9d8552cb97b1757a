-- All that a server looks at when it reads a line of a link, and whom a line may be from.
--
-- Servers form a tree, so a server and its users are behind just one link, and what is told of them
-- comes by it alone. Three in a row:
--
--     a.net <-----> b.net <-----> c.net
--      al            bo            cy
--
-- What b.net makes of lines that come by its link to a.net:
--   `:al QUIT :x`          may come: al is a user of a.net, which is behind this link.
--   `:cy QUIT :x`          WrongDirection: cy is behind the other link. Were it taken, b.net would
--                          tell c.net that c.net's own user has left, and the two would no longer
--                          have the same room. A sound server never sends it, so nothing is mended
--                          by reading on.
--   `:bo QUIT :x`          WrongDirection: what b.net's own users do, b.net tells the others. So
--                          is `:b.net TOPIC #c :x`.
--   `:d.net TOPIC #c :x`   WrongDirection: nobody has told b.net of d.net, and a server is told of
--                          before it speaks.
--   `:zz QUIT :x`          may come, and means nothing. That nobody has this nickname is no fault
--                          of a.net: zz may have been taken out by the other side while the line
--                          was on its way. To close the link for it would be to lose links in the
--                          normal run of things.
--   `:9d QUIT :x`          is from nobody that could be looked for. It is let pass here, and is
--                          BadName once all else is right.
use Rattle.std.specs.Prelude.{ℕ, Bool, true, false, Option, List, nat_eq, if◌then◌else◌}
use Rattle.std.specs.List.{list_any}
use Rattle.std.specs.Option.{option_map_or}
use Rattle.std.specs.FinMap.{keys}
use Rattle.irc_names.specs.Fold.{key}
use Rattle.irc_names.specs.Names.{is_nick, is_server}
use Rattle.irc_names.specs.Tables.{row}
use Rattle.irc_channels.specs.declared.channel.Channel.{Channel}
use Rattle.irc_room.specs.Room.{Room}
use Rattle.irc_room.specs.Readers.{home_under}
use Rattle.irc_routes.specs.Known.{Known, next_hop, distance_of, token_in}

pub record Reader : Type 0 where
  -- the server that the user of a nickname is connected to
  pub home : List ℕ → Option (List ℕ)
  -- whether a server is behind the link
  pub is_far : List ℕ → Bool
  -- the server that a number of the neighbour stands for
  pub server : ℕ → Option (List ℕ)
  -- how many links away a server is
  pub distance : List ℕ → Option ℕ
  -- whether a channel is there, and has a member behind the link
  pub has_far : List ℕ → Bool
  -- whether links tell it who is away
  pub tells_away : Bool

-- whether a server is reached by this link
abbrev pub is_behind_link : Known → ℕ → List ℕ → Bool
is_behind_link known link name = option_map_or (nat_eq link) (next_hop known name) false

-- whether a member of a channel is at home behind this link
abbrev pub some_behind_link : Room → Known → ℕ → Channel → Bool
some_behind_link room known link channel =
    list_any (λ fold. option_map_or (is_behind_link known link) (home_under room fold) false)
    (keys channel.members)

-- what a server knows when a line comes to it by this link
abbrev pub reader_of : Room → Known → ℕ → Reader
reader_of room known link = record {
  home = λ nick. home_under room (key nick);
  is_far = is_behind_link known link;
  server = token_in known link;
  distance = distance_of known;
  has_far =
      λ name. option_map_or (some_behind_link room known link) (row room.channels (key name)) false;
  tells_away = known.about.tells_away;
}

-- Whether a line from this name may come by this link. It may not where it is from a server that is
-- not behind the link, be it known or not, nor where it is from a user whose server is not; one
-- from a nickname that nobody has may.
abbrev pub may_come : Reader → List ℕ → Bool
may_come reader name =
    if is_server name then reader.is_far name
    else (if is_nick name then option_map_or reader.is_far (reader.home name) true
    else true)
