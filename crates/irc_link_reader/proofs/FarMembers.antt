-- The members of a channel are its rows, each under the fold of its name.
use Rattle.std.proofs.Common.{◌≡◌, ℕ, Bool, true, false, ◌&&◌, is_some, Option, Some, None}
use Rattle.std.proofs.Common.{List, map, refl, sym, ◌∙◌, ap}
use Rattle.std.specs.List.{list_any}
use Rattle.std.specs.Option.{option_map_or}
use Rattle.std.specs.FinMap.{entries}
use Rattle.irc_names.specs.Lemmas.PlainFacts.{list_any-map}
use Rattle.irc_tables.specs.declared.table.Row.{Row}
use Rattle.irc_tables.specs.RowViews.{row_entry}
use Rattle.irc_channels.specs.ChannelTable.{members_in}
use Rattle.irc_channels.specs.declared.channel.Channel.{Channel}
use Rattle.irc_channels.specs.declared.flags.Flags.{Flags}
use Rattle.irc_room.specs.Room.{Room}
use Rattle.irc_routes.specs.Known.{Known}
use Rattle.irc_link_reader.specs.Loops.Readings.{is_member_far}
use Rattle.irc_room.specs.Readers.{home_under}
use Rattle.irc_link_reader.specs.Reader.{reader_of, is_behind_link, some_behind_link}

pub far-rows : (room : Room) (known : Known) (link : ℕ) (o : Option Channel)
    (rows : List (Row Flags)) → map row_entry rows ≡ members_in o
    → (is_some o && list_any (is_member_far (reader_of room known link)) rows)
    ≡ option_map_or (some_behind_link room known link) o false
far-rows room known link None rows is = refl
far-rows room known link (Some channel) rows is =
    let far : List ℕ → Bool =
    λ fold. option_map_or (is_behind_link known link) (home_under room fold) false in
    let entry_far : List ℕ × Flags → Bool = λ e. far e.0 in
    sym (list_any-map entry_far row_entry rows) ∙ ap (list_any entry_far) is
    ∙ sym (list_any-map far (λ (e : List ℕ × Flags). e.0) (entries channel.members))

-- the same of a channel that is there
pub far-there : (room : Room) (known : Known) (link : ℕ) (o : Option Channel)
    (rows : List (Row Flags)) → map row_entry rows ≡ members_in o → is_some o ≡ true
    → list_any (is_member_far (reader_of room known link)) rows ≡ option_map_or
    (some_behind_link room known link) o false
far-there room known link o rows is there =
    sym (ap (λ b. b && list_any (is_member_far (reader_of room known link)) rows) there)
    ∙ far-rows room known link o rows is
