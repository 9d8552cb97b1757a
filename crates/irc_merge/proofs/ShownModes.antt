-- What a user of this side is shown when the modes and the topic of a channel are told: what they
-- raise, if the user is in the channel and somebody in it is behind the link; else nothing.
use Rattle.std.proofs.Common.{◌≡◌, ℕ, Bool, true, false, cond, Option, Some, None, List, [], ◌∷◌}
use Rattle.std.proofs.Common.{◌++◌, refl, sym, ◌∙◌, ap, map, option_to_list, codes}
use Rattle.std.proofs.lemmas.List.{append-nil, append_assoc}
use Rattle.std.specs.List.{list_all, list_any, AllByRecursion}
use Rattle.std.specs.Option.{option_map_or}
use Rattle.std.specs.Ordering.{is_lt}
use Rattle.std.specs.FinMap.{keys}
use Rattle.irc_line.specs.Messages.{named as home_sender, text}
use Rattle.irc_names.specs.Fold.{key}
use Rattle.irc_names.specs.Greater.{bytes_cmp}
use Rattle.irc_names.specs.Tables.{row}
use Rattle.irc_names.specs.TableLaws.{row-alter_same}
use Rattle.irc_users.specs.declared.user.User.{User}
use Rattle.irc_modes.specs.declared.modes.ModeChange.{ModeChange}
use Rattle.irc_modes.specs.Raised.{raising}
use Rattle.irc_modes.specs.RaisedLaws.{line_raised}
use Rattle.irc_channels.specs.declared.channel.Channel.{Channel}
use Rattle.irc_channels.specs.Channels.{has_member}
use Rattle.irc_room.specs.effect.By.TheVariants as by
use Rattle.irc_room.specs.effect.Effect.TheVariants.{SetTopic}
use Rattle.irc_room.specs.Room.{Room}
use Rattle.irc_room.specs.After.{alter_channel}
use Rattle.irc_merge.specs.ShownAlong.{shown_along}
use Rattle.irc_merge.specs.Deeds.{Deed, sets, tops, changes_made, raised_in, is_greater_topic}
use Rattle.irc_merge.specs.Deeds.{after_deeds, shown_by, shown_by_all}
use Rattle.irc_merge.specs.Bursts.{home_passes, topic_line}
use Rattle.irc_merge.specs.BurstRead.{some_far, read_deed}
use Rattle.irc_merge.specs.MergeShown.{raised_line, raised_lines, raised_topic}
use Rattle.irc_merge.specs.Lemmas.ShownReading.{shown_one, shown_reads, shown_reads-one}
use Rattle.irc_merge.specs.Lemmas.ChannelRows.{row_has, row_set, set_row, all_raised}
use Rattle.irc_merge.proofs.ChannelTold.{lines_count}
use Rattle.irc_merge.proofs.PlainChanges.{is_plain, only_modes, raising_plain}
use Rattle.irc_merge.proofs.ShownChannels.{Sees, IsBlind, change_unseen, topic_unseen}
use Rattle.irc_merge.proofs.ShownChannels.{changes_shown, topic_shown, still_blind}

-- the lines that tell modes, and the one that tells a topic
abbrev pub tail : List ℕ → List ℕ → List (List ModeChange) → List ℕ → List Deed
tail server name lines topic = map (sets server name) lines ++ topic_line server name topic

module _ (viewer own server name : List ℕ) (far : List ℕ → Bool) where
  -- ---- nobody of the channel is behind the link

  abbrev AreLeft : Room → List Deed → Type 0
  AreLeft room deeds = AllByRecursion (λ deed. read_deed own far room deed ≡ []) deeds

  left_unseen : (deeds : List Deed) (room : Room) → AreLeft room deeds
      → shown_reads viewer own far room deeds ≡ []
  left_unseen [] room left = refl
  left_unseen (deed ∷ deeds) room left =
      shown_reads-one viewer own far room deed deeds
      ∙ (λ i. shown_by_all viewer room (left.0 i)
      ++ shown_reads viewer own far (after_deeds room (left.0 i)) deeds)
      ∙ left_unseen deeds room left.1

  tail_left : (lines : List (List ModeChange)) (topic : List ℕ) (room : Room)
      → some_far far room name ≡ false → AreLeft room (tail server name lines topic)
  tail_left [] [] room near = tt
  tail_left [] (byte ∷ topic) room near =
      (ap (λ b. cond b (tops server name (byte ∷ topic) ∷ []) []) near, tt)
  tail_left (line ∷ lines) topic room near =
      (ap (λ b. cond b (sets server name line ∷ []) []) near, tail_left lines topic room near)

  pub tail_near : (lines : List (List ModeChange)) (topic : List ℕ) (room : Room)
      → some_far far room name ≡ false
      → shown_reads viewer own far room (tail server name lines topic) ≡ []
  tail_near lines topic room near =
      left_unseen (tail server name lines topic) room (tail_left lines topic room near)

  -- ---- the viewer is not in it

  made_unseen : (changes : List ModeChange) (room : Room) → IsBlind viewer name room
      → shown_along viewer room (changes_made name changes) ≡ []
  made_unseen [] room blind = refl
  made_unseen (change ∷ changes) room blind =
      ap (λ o. option_to_list o ++ []) (change_unseen viewer name (change ∷ changes) room blind)

  set_unseen : (line : List ModeChange) (room : Room) → IsBlind viewer name room
      → shown_one viewer own far room (sets server name line) ≡ []
  unfolding shown_by
  set_unseen line room blind = by_test (some_far far room name)
    where
      by_test : (b : Bool) → shown_by_all viewer room (cond b (sets server name line ∷ []) []) ≡ []
      by_test true = ap (λ lines. lines ++ []) (made_unseen (raised_in room name line) room blind)
      by_test false = refl

  top_unseen : (topic : List ℕ) (room : Room) → IsBlind viewer name room
      → shown_one viewer own far room (tops server name topic) ≡ []
  unfolding shown_by
  top_unseen topic room blind = by_test (some_far far room name)
    where
      by_greater : (b : Bool)
          → shown_along viewer room (cond b (SetTopic by.Home name topic ∷ []) []) ≡ []
      by_greater true = ap (λ o. option_to_list o ++ []) (topic_unseen viewer name topic room blind)
      by_greater false = refl

      by_test : (b : Bool) → shown_by_all viewer room (cond b (tops server name topic ∷ []) []) ≡ []
      by_test true = ap (λ lines. lines ++ []) (by_greater (is_greater_topic room name topic))
      by_test false = refl

  blind_set : (line : List ModeChange) (room : Room) → list_all is_plain line ≡ true
      → IsBlind viewer name room → IsBlind viewer name
      (alter_channel name (λ x. row_set (home_passes far room.users) x line) room)
  blind_set line room plain blind =
      still_blind viewer name room (λ x. row_set (home_passes far room.users) x line) blind by_row
    where
      by_test : (channel : Channel) → has_member (key viewer) channel ≡ false → (b : Bool)
          → row_has (key viewer) (cond b (Some (all_raised line channel)) (Some channel)) ≡ false
      by_test channel none true =
          ap (has_member (key viewer)) (only_modes (raising line channel.modes) channel
          (raising_plain line channel.modes plain)) ∙ none
      by_test channel none false = none

      by_row : (x : Option Channel) → row_has (key viewer) x ≡ false
          → row_has (key viewer) (row_set (home_passes far room.users) x line) ≡ false
      by_row None none = none
      by_row (Some channel) none =
          by_test channel none (list_any (home_passes far room.users) (keys channel.members))

  pub tail_unseen : (lines : List (List ModeChange)) (topic : List ℕ) (room : Room)
      → AllByRecursion (λ line. list_all is_plain line ≡ true) lines → IsBlind viewer name room
      → shown_reads viewer own far room (tail server name lines topic) ≡ []
  tail_unseen [] [] room plain blind = refl
  tail_unseen [] (byte ∷ topic) room plain blind =
      shown_reads-one viewer own far room (tops server name (byte ∷ topic)) []
      ∙ ap (λ lines. lines ++ []) (top_unseen (byte ∷ topic) room blind)
  tail_unseen (line ∷ lines) topic room plain blind =
      shown_reads-one viewer own far room (sets server name line) (tail server name lines topic)
      ∙ (λ i. set_unseen line room blind i ++ shown_reads viewer own far
      (set_row own server name far line room i) (tail server name lines topic))
      ∙ tail_unseen lines topic (alter_channel name (λ x. row_set
      (home_passes far room.users) x line) room) plain.1 (blind_set line room plain.0 blind)

  -- ---- it is, and somebody in it is behind the link

  -- the viewer is this user, in this channel, which somebody behind the link is in too
  pub record SeesFar (user : User) (channel : Channel) (room : Room) : Type 0 where
    pub at : row room.users (key viewer) ≡ Some user
    pub named : key user.nick ≡ key viewer
    pub there : row room.channels (key name) ≡ Some channel
    pub member : has_member (key viewer) channel ≡ true
    pub some : list_any (home_passes far room.users) (keys channel.members) ≡ true

  sees_it : (user : User) (channel : Channel) (room : Room) → SeesFar user channel room
      → Sees viewer name user channel.name room
  sees_it user channel room sees = record {
    at = sees.at;
    named = sees.named;
    channel = channel;
    there = sees.there;
    titled = refl;
    member = sees.member;
  }

  is_far : (user : User) (channel : Channel) (room : Room) → SeesFar user channel room
      → some_far far room name ≡ true
  is_far user channel room sees =
      ap (λ o. option_map_or (λ (c : Channel). list_any (home_passes far room.users)
      (keys c.members)) o false) sees.there ∙ sees.some

  made_seen : (user : User) (channel : Channel) (room : Room) → SeesFar user channel room
      → (changes : List ModeChange) → list_all is_plain changes ≡ true
      → shown_along viewer room (changes_made name changes) ≡ raised_line user channel.name changes
  made_seen user channel room sees [] plain = refl
  made_seen user channel room sees (change ∷ changes) plain =
      ap (λ o. option_to_list o ++ []) (changes_shown viewer name user channel.name
      (change ∷ changes) room (sees_it user channel room sees) plain)

  set_seen : (user : User) (channel : Channel) (room : Room) → SeesFar user channel room
      → (line : List ModeChange) → list_all is_plain line ≡ true → shown_one viewer own far room
      (sets server name line) ≡ raised_line user channel.name (raising line channel.modes)
  unfolding shown_by
  set_seen user channel room sees line plain =
      ap (λ b. shown_by_all viewer room (cond b (sets server name line ∷ []) []))
      (is_far user channel room sees)
      ∙ ap (λ o. shown_along viewer room (changes_made name
      (option_map_or (λ (c : Channel). raising line c.modes) o [])) ++ []) sees.there
      ∙ ap (λ lines. lines ++ []) (made_seen user channel room sees (raising line channel.modes)
      (raising_plain line channel.modes plain))
      ∙ append-nil (raised_line user channel.name (raising line channel.modes))

  sees_set : (user : User) (channel : Channel) (room : Room) → SeesFar user channel room
      → (line : List ModeChange) → list_all is_plain line ≡ true
      → SeesFar user (record channel { modes = line_raised channel.modes line })
      (alter_channel name (λ x. row_set (home_passes far room.users) x line) room)
  sees_set user channel room sees line plain = record {
    at = sees.at;
    named = sees.named;
    there =
        row-alter_same (key name) (λ x. row_set (home_passes far room.users) x line) room.channels
        ∙ ap (λ x. row_set (home_passes far room.users) x line) sees.there
        ∙ lines_count (home_passes far room.users) (line ∷ []) channel sees.some (plain, tt);
    member = sees.member;
    some = sees.some;
  }

  top_seen : (user : User) (channel : Channel) (room : Room) → SeesFar user channel room
      → (topic : List ℕ) → shown_one viewer own far room (tops server name topic)
      ≡ raised_topic user channel.name channel.topic topic
  unfolding shown_by
  top_seen user channel room sees topic =
      ap (λ b. shown_by_all viewer room (cond b (tops server name topic ∷ []) []))
      (is_far user channel room sees)
      ∙ ap (λ o. shown_along viewer room (cond (option_map_or (λ (c : Channel). is_lt
      (bytes_cmp c.topic topic)) o false) (SetTopic by.Home name topic ∷ []) []) ++ [])
      sees.there
      ∙ by_greater (is_lt (bytes_cmp channel.topic topic))
    where
      by_greater : (b : Bool)
          → shown_along viewer room (cond b (SetTopic by.Home name topic ∷ []) []) ++ []
          ≡ cond b (text (record {
            sender = home_sender user.home;
            command = codes "TOPIC";
            middle = channel.name ∷ [];
            last = Some topic;
          }) ∷ []) []
      by_greater true = ap (λ o. (option_to_list o ++ []) ++ [])
          (topic_shown viewer name user channel.name topic room (sees_it user channel room sees))
      by_greater false = refl

  -- no topic is above nothing
  none_above : (topic : List ℕ) → is_lt (bytes_cmp topic []) ≡ false
  none_above [] = refl
  none_above (byte ∷ topic) = refl

  pub tail_seen : (user : User) (lines : List (List ModeChange))
      (topic : List ℕ) (channel : Channel) (room : Room)
      → AllByRecursion (λ line. list_all is_plain line ≡ true) lines → SeesFar user channel room
      → shown_reads viewer own far room (tail server name lines topic)
      ≡ raised_lines user channel.name lines channel.modes
      ++ raised_topic user channel.name channel.topic topic
  tail_seen user [] [] channel room plain sees =
      sym (ap (λ b. cond b (text (record {
        sender = home_sender user.home;
        command = codes "TOPIC";
        middle = channel.name ∷ [];
        last = Some [];
      }) ∷ []) [])
      (none_above channel.topic))
  tail_seen user [] (byte ∷ topic) channel room plain sees =
      shown_reads-one viewer own far room (tops server name (byte ∷ topic)) []
      ∙ ap (λ lines. lines ++ []) (top_seen user channel room sees (byte ∷ topic))
      ∙ append-nil (raised_topic user channel.name channel.topic (byte ∷ topic))
  tail_seen user (line ∷ lines) topic channel room plain sees =
      let new : Channel = record channel { modes = line_raised channel.modes line } in
      shown_reads-one viewer own far room (sets server name line) (tail server name lines topic)
      ∙ (λ i. set_seen user channel room sees line plain.0 i ++ shown_reads viewer own far
      (set_row own server name far line room i) (tail server name lines topic))
      ∙ ap (λ rest. raised_line user channel.name (raising line channel.modes) ++ rest)
      (tail_seen user lines topic new (alter_channel name (λ x. row_set (home_passes far room.users)
      x line) room) plain.1 (sees_set user channel room sees line plain.0))
      ∙ sym (append_assoc (raised_line user channel.name (raising line channel.modes))
      (raised_lines user channel.name lines (line_raised channel.modes line))
      (raised_topic user channel.name channel.topic topic))
