-- Views that are alike stay so with other routes, with an end that is put in, changed or taken out
-- under its numbers, and with one room.
use Rattle.std.proofs.Common.{◌≡◌, ℕ, true, is_some, Option, Some, None, List, sym, subst}
use Rattle.std.specs.FinMap.{get, insert, remove}
use Rattle.std.specs.Option.{option_and_then, option_map_or}
use Rattle.irc_stage.specs.Ends.{End, Ends, fresh_end}
use Rattle.irc_room.specs.Room.{Room}
use Rattle.irc_routes.specs.Known.{Known}
use Rattle.irc_stage.specs.View.{View, with_end, without_end}
use Rattle.irc_stage.specs.Linked.{with_far, with_password}
use Rattle.irc_numbers.specs.Alike.{AreAlike, AreApart, IsAmong, Numbers}
use Rattle.irc_numbers.proofs.Effects.{end_at}
use Rattle.irc_numbers.proofs.KnownAlike.{AreKnownAlike}
use Rattle.irc_numbers.proofs.Numbers.{put_alike, put_among, taken_alike, taken_among}

module _ (numbers : Numbers) (own other : View) (alike : AreAlike numbers own other) where
  pub routed : (mine theirs : Known) → AreKnownAlike numbers mine theirs
      → AreAlike numbers (record own { routes = mine }) (record other { routes = theirs })
  routed mine theirs known = record {
    name = known.name;
    about = known.about;
    rows = known.rows;
    peers = alike.peers;
    ends = alike.ends;
    no_other_end = alike.no_other_end;
    clients = alike.clients;
    no_other_client = alike.no_other_client;
    room = alike.room;
  }

  pub ended : (mine theirs : Ends)
      → ((place : ℕ) → get theirs place ≡ option_and_then (get mine) (numbers.link place))
      → ((conn : ℕ) → is_some (get mine conn) ≡ true → IsAmong numbers.link conn)
      → AreAlike numbers (record own { ends = mine }) (record other { ends = theirs })
  ended mine theirs ends no_other_end = record {
    name = alike.name;
    about = alike.about;
    rows = alike.rows;
    peers = alike.peers;
    ends = ends;
    no_other_end = no_other_end;
    clients = alike.clients;
    no_other_client = alike.no_other_client;
    room = alike.room;
  }

  pub housed : (mine theirs : Room) → theirs ≡ mine
      → AreAlike numbers (record own { room = mine }) (record other { room = theirs })
  housed mine theirs same = record {
    name = alike.name;
    about = alike.about;
    rows = alike.rows;
    peers = alike.peers;
    ends = alike.ends;
    no_other_end = alike.no_other_end;
    clients = alike.clients;
    no_other_client = alike.no_other_client;
    room = same;
  }

  -- ---- the end of one link

  module _ (apart : AreApart numbers) (place conn : ℕ)
      (is_end : numbers.link place ≡ Some conn) where
    put : (end : End) → AreAlike numbers (record own { ends = insert own.ends conn end })
        (record other { ends = insert other.ends place end })
    put end =
        ended (insert own.ends conn end) (insert other.ends place end)
        (put_alike numbers.link apart.links own.ends other.ends alike.ends alike.no_other_end place
        conn is_end end)
        (put_among numbers.link apart.links own.ends other.ends alike.ends alike.no_other_end place
        conn is_end end)

    pub opened_alike : (starts : Option (List ℕ))
        → AreAlike numbers (with_end conn starts own) (with_end place starts other)
    opened_alike starts = put (fresh_end starts)

    pub closed_alike : AreAlike numbers (without_end conn own) (without_end place other)
    closed_alike =
        ended (remove own.ends conn) (remove other.ends place)
        (taken_alike numbers.link apart.links own.ends other.ends alike.ends alike.no_other_end
        place conn is_end)
        (taken_among numbers.link apart.links own.ends other.ends alike.ends alike.no_other_end
        place conn is_end)

    -- it is changed, where it is there
    abbrev if_there : (End → End) → ℕ → View → Option End → View
    if_there change link view o = option_map_or
        (λ (end : End). record view { ends = insert view.ends link (change end) }) o view

    end_changed : (change : End → End) → AreAlike numbers (if_there change conn own
        (get own.ends conn)) (if_there change place other (get other.ends place))
    end_changed change =
        subst (λ o. AreAlike numbers (if_there change conn own (get own.ends conn))
        (if_there change place other o))
        (sym (end_at numbers own other alike place conn is_end)) (by (get own.ends conn))
      where
        by : (o : Option End)
            → AreAlike numbers (if_there change conn own o) (if_there change place other o)
        by None = alike
        by (Some end) = put (change end)

    pub far_alike : (name : List ℕ)
        → AreAlike numbers (with_far conn name own) (with_far place name other)
    far_alike name = end_changed (λ (end : End). record end { far = Some name })

    pub password_alike : (word : List ℕ)
        → AreAlike numbers (with_password conn word own) (with_password place word other)
    password_alike word = end_changed (λ (end : End). record end { password = Some word })
