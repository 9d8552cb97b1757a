-- What a server keeps of its links, and of the servers behind them, as these come and go (RFC 2813
-- section 4.1).
--
-- a.net has the link 1 to b.net. `:b.net SERVER c.net 2 2 :C` by it: a.net keeps a row of c.net,
-- behind link 1, two links away, number 2 there. A second such line, and one with number 1, which
-- is b.net's, change nothing.
use Rattle.std.specs.Prelude.{ℕ, Bool, ◌&&◌, is_none, Option, Some, List}
use Rattle.std.specs.Option.{option_map_or}
use Rattle.std.specs.FinMap.{get, insert}
use Rattle.irc_line.specs.Messages.{Written}
use Rattle.irc_stage.specs.Ends.{End}
use Rattle.irc_stage.specs.Ways.{but, met_links}
use Rattle.irc_room.specs.After.{titled_by}
use Rattle.irc_routes.specs.Adding.{added_fault}
use Rattle.irc_routes.specs.Known.{Known, added, token_in, without_link, without_server}
use Rattle.irc_stage.specs.View.{View, without_end}
use Rattle.irc_stage.specs.EffectTold.{Served, on_links, with_sent}

-- ---- what an end keeps

-- the password that the other end gave, which is looked at when it names itself
abbrev pub with_password : ℕ → List ℕ → View → View
with_password link word view =
    option_map_or (λ (end : End). record view {
      ends = insert view.ends link
          (record end { password = Some word });
    }) (get view.ends link) view

-- the name of the server at the other end, once it is met
abbrev pub with_far : ℕ → List ℕ → View → View
with_far link name view =
    option_map_or (λ (end : End). record view {
      ends = insert view.ends link
          (record end { far = Some name });
    }) (get view.ends link) view

-- ---- servers come and go

-- A server more is taken where it is not known, there is room for it, and the neighbour's number
-- for it is free.
abbrev pub is_taken : Known → ℕ → List ℕ → ℕ → Bool
is_taken known link name token =
    is_none (added_fault known name) && is_none (token_in known link token)

-- a server more is behind this link, under the neighbour's number for it
abbrev pub with_row : ℕ → List ℕ → List ℕ → ℕ → ℕ → List ℕ → View → View
with_row link uplink name distance token info view =
    record view { routes = added link uplink name distance token info view.routes }

-- a server that is lost is known no more
abbrev pub without_row : List ℕ → View → View
without_row name view = record view { routes = without_server name view.routes }

-- a link that is open no more; behind it nobody is
abbrev pub unlinked : ℕ → View → View
unlinked link view = record (without_end link view) { routes = without_link link view.routes }

-- ---- channels of both sides

-- a channel that is there has the greater spelling of the two: the one that it has, and this one
abbrev pub with_title : List ℕ → View → View
with_title channel view = record view { room = titled_by channel view.room }

-- ---- what is told on to all

-- a line on every link that counts, but for the one by which it came
abbrev pub told_on_all : Option ℕ → Written → Served → Served
told_on_all arrival parts s = with_sent (on_links (but arrival (met_links s.state.ends)) parts) s
