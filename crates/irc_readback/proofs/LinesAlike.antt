-- Lines of a link in rooms that are alike but for who is invited.
use Rattle.std.proofs.Common.{◌≡◌, ℕ, false, if◌then◌else◌, Option, Some, None, List, [], ◌∷◌}
use Rattle.std.proofs.Common.{codes, refl, sym, ap, ◌∙◌, option_map}
use Rattle.std.specs.Option.{option_map_or}
use Rattle.irc_names.specs.Fold.{key}
use Rattle.irc_names.specs.Tables.{Table, row}
use Rattle.irc_users.specs.declared.user.User.{User}
use Rattle.irc_modes.specs.declared.modes.ModeChange.{ModeChange}
use Rattle.irc_channels.specs.declared.channel.Channel.{Channel}
use Rattle.irc_room.specs.effect.By.{By}
use Rattle.irc_room.specs.effect.By.TheVariants as by
use Rattle.irc_room.specs.effect.Effect.TheVariants.{AddUser, Rename, Quit, Join, Part, Kick}
use Rattle.irc_room.specs.effect.Effect.TheVariants.{ChangeModes, SetTopic, Say, Invite, ChangeUser}
use Rattle.irc_room.specs.effect.Target.{Target}
use Rattle.irc_room.specs.effect.Target.TheVariants as target
use Rattle.irc_room.specs.Invitations.{of_home}
use Rattle.irc_room.specs.OtherInvitations.{AreAlike, HomeIsAlike, uninviting}
use Rattle.irc_room.specs.Readers.{home_under}
use Rattle.irc_room.specs.Room.{Room}
use Rattle.irc_room.specs.Seen.{changes_words, stored_channel, stored_nick, target_name}
use Rattle.irc_routes.specs.Known.{Known, distance_of, token_in}
use Rattle.irc_link_reader.specs.Means.{read_by}
use Rattle.irc_link_reader.specs.Reader.{Reader, some_behind_link, is_behind_link, reader_of}
use Rattle.irc_link_words.specs.Words.{marked}
use Rattle.irc_link_writer.specs.Written.{by_name, from, wire_change}
use Rattle.irc_readback.specs.OtherInvitations.{AlikeMeanAlike, AlikeWriteAlike, ReadAtHome}
use Rattle.irc_readback.specs.OtherInvitations.{WrittenAtHome}

module _ (room other : Room) (alike : AreAlike room other) where
  -- a room with these users, and the channels of the first
  abbrev with_users : Table User → Room
  with_users users = record { users = users; channels = room.channels }

  -- what looks at a channel's row, but not at who is invited there
  row_alike : {X : Type 0} (asks : Option Channel → X)
      → ((found : Option Channel) → asks found ≡ asks (option_map uninviting found))
      → (name : List ℕ) → asks (row room.channels (key name)) ≡ asks (row other.channels (key name))
  row_alike asks blind name =
      blind (row room.channels (key name)) ∙ ap asks (alike.channels (key name))
      ∙ sym (blind (row other.channels (key name)))

  -- ---- what is written

  nick_alike : (nick : List ℕ) → stored_nick room nick ≡ stored_nick other nick
  nick_alike nick = ap (λ (users : Table User). stored_nick (with_users users) nick) alike.users

  channel_alike : (channel : List ℕ) → stored_channel room channel ≡ stored_channel other channel
  channel_alike channel =
      row_alike (λ found. option_map_or (λ (c : Channel). c.name) found channel) blind channel
    where
      blind : (found : Option Channel) → option_map_or (λ (c : Channel). c.name) found channel
          ≡ option_map_or (λ (c : Channel). c.name) (option_map uninviting found) channel
      blind None = refl
      blind (Some c) = refl

  words_alike : (changes : List ModeChange)
      → changes_words room changes ≡ changes_words other changes
  words_alike changes =
      ap (λ (users : Table User). changes_words (with_users users) changes) alike.users

  doer_alike : (known : Known) (doer : By) → by_name room known doer ≡ by_name other known doer
  doer_alike known (by.User nick) = nick_alike nick
  doer_alike known by.Home = refl

  target_alike : (to : Target) → target_name room to ≡ target_name other to
  target_alike (target.User nick) = nick_alike nick
  target_alike (target.Channel channel) = channel_alike channel

  -- ---- what is read

  far_alike : (known : Known) (link : ℕ) (name : List ℕ)
      → option_map_or (some_behind_link room known link) (row room.channels (key name)) false
      ≡ option_map_or (some_behind_link other known link) (row other.channels (key name)) false
  far_alike known link name =
      row_alike (λ found. option_map_or (some_behind_link room known link) found false) blind name
      ∙ ap (λ (users : Table User). option_map_or (some_behind_link (with_users users) known link)
      (row other.channels (key name)) false) alike.users
    where
      blind : (found : Option Channel)
          → option_map_or (some_behind_link room known link) found false
          ≡ option_map_or (some_behind_link room known link) (option_map uninviting found) false
      blind None = refl
      blind (Some c) = refl

  reader_alike : (known : Known) (link : ℕ) → reader_of room known link ≡ reader_of other known link
  reader_alike known link = λ i. record {
    home = λ nick. home_under (with_users (alike.users i)) (key nick);
    is_far = is_behind_link known link;
    server = token_in known link;
    distance = distance_of known;
    has_far = λ name. far_alike known link name i;
    tells_away = known.about.tells_away;
  }

pub alike_write_alike : AlikeWriteAlike
alike_write_alike room other known (AddUser user) alike = refl
alike_write_alike room other known (Rename nick new) alike =
    λ i. from (nick_alike room other alike nick i) (codes "NICK") (new ∷ []) None
alike_write_alike room other known (Quit nick text) alike =
    λ i. from (nick_alike room other alike nick i) (codes "QUIT") [] (Some text)
alike_write_alike room other known (Join nick channel op) alike =
    λ i. from (nick_alike room other alike nick i) (codes "JOIN")
    (marked (channel_alike room other alike channel i) op ∷ []) None
alike_write_alike room other known (Part nick channel text) alike =
    λ i. from (nick_alike room other alike nick i) (codes "PART")
    (channel_alike room other alike channel i ∷ []) (Some text)
alike_write_alike room other known (Kick doer channel nick text) alike =
    λ i. from (nick_alike room other alike doer i) (codes "KICK")
    (channel_alike room other alike channel i ∷ nick_alike room other alike nick i ∷ []) (Some text)
alike_write_alike room other known (ChangeModes doer channel changes) alike =
    λ i. from (doer_alike room other alike known doer i) (codes "MODE")
    (channel_alike room other alike channel i ∷ words_alike room other alike changes i) None
alike_write_alike room other known (SetTopic doer channel topic) alike =
    λ i. from (doer_alike room other alike known doer i) (codes "TOPIC")
    (channel_alike room other alike channel i ∷ []) (Some topic)
alike_write_alike room other known (Say doer notice to text) alike =
    λ i. from (nick_alike room other alike doer i) (if notice then codes "NOTICE"
    else codes "PRIVMSG")
    (target_alike room other alike to i ∷ []) (Some (text.items))
alike_write_alike room other known (Invite doer nick channel) alike =
    λ i. from (nick_alike room other alike doer i) (codes "INVITE")
    (nick_alike room other alike nick i ∷ channel_alike room other alike channel i ∷ []) None
alike_write_alike room other known (ChangeUser nick change) alike =
    λ i. wire_change (nick_alike room other alike nick i) change

pub alike_mean_alike : AlikeMeanAlike
alike_mean_alike room other known link message alike =
    ap (λ (r : Reader). read_by r message) (reader_alike room other alike known link)

pub written_at_home : HomeIsAlike → AlikeWriteAlike → WrittenAtHome
written_at_home home_alike write home room known effect =
    write (of_home home room) room known effect (home_alike home room)

pub read_at_home : HomeIsAlike → AlikeMeanAlike → ReadAtHome
read_at_home home_alike mean home room known link message =
    mean (of_home home room) room known link message (home_alike home room)
