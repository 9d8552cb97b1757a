-- What one user is shown by one member who comes to a channel: its JOIN and its flags, if the user
-- is in the channel; else nothing.
use Rattle.std.proofs.Common.{◌≡◌, ℕ, Bool, true, false, cond, not, Option, Some, None, List}
use Rattle.std.proofs.Common.{[], ◌∷◌, ◌++◌, refl, sym, ◌∙◌, ap, is_some, option_map}
use Rattle.std.proofs.Common.{option_to_list, filter_map, codes, nat_eq}
use Rattle.std.proofs.lemmas.Bool.{and_parts, or_from, or_right}
use Rattle.std.specs.Prelude.{unwrap_or}
use Rattle.std.specs.List.{list_all, cons_option}
use Rattle.std.specs.Cmp.Lexicographic.{pointwise, bytes_decides}
use Rattle.std.specs.Option.{option_and_then, option_map_or}
use Rattle.std.specs.FinMap.{get-empty}
use Rattle.std.proofs.Math.Bool.{false≢true}
use Rattle.irc_line.specs.Messages.{named, text}
use Rattle.irc_names.specs.Fold.{key, same}
use Rattle.irc_names.specs.Tables.{fold_cmp, row}
use Rattle.irc_names.specs.TableLaws.{same_fold, same_fold-refl, row-alter, row-alter_same}
use Rattle.irc_users.specs.declared.user.User.{User}
use Rattle.irc_channels.specs.declared.flags.Flags.{Flags}
use Rattle.irc_modes.specs.declared.modes.ModeChange.{ModeChange}
use Rattle.irc_modes.specs.declared.modes.ModeLetter.{ModeLetter}
use Rattle.irc_modes.specs.declared.modes.ModeLetter.TheVariants as letter
use Rattle.irc_channels.specs.declared.channel.Channel.{Channel}
use Rattle.irc_channels.specs.Channels.{has_member, new_channel, joined, changed, all_changed}
use Rattle.irc_modes.specs.Letters.{letter_byte, sign_byte}
use Rattle.irc_modes.specs.ModeWritten.{letters_text, changes_written}
use Rattle.irc_room.specs.effect.By.TheVariants as by
use Rattle.irc_room.specs.effect.Effect.TheVariants.{Join, ChangeModes, SetTopic}
use Rattle.irc_room.specs.Room.{Room}
use Rattle.irc_room.specs.Effects.{is_member}
use Rattle.irc_room.specs.After.{after, alter_channel}
use Rattle.irc_room.specs.Seen.{full_sender, line_from, names_member, stored_nick, written_words}
use Rattle.irc_room.specs.Seen.{shown_line}
use Rattle.irc_room.specs.Lemmas.ModesKept.{same_rows}
use Rattle.irc_room.specs.Viewers.{shows_to, line_for}
use Rattle.irc_merge.specs.ShownAlong.{shown_along}
use Rattle.irc_merge.specs.Deeds.{flag_given, member_comes}
use Rattle.irc_merge.specs.MergeShown.{join_line, flag_line, arrival}
use Rattle.irc_merge.proofs.PlainChanges.{is_plain}
use Rattle.irc_merge.specs.Lemmas.ChannelRows.{given, with_member, comes_to, row_has}

-- one who is a member stays one when another joins, and one who is none stays none
joined_member : (q fold : List ℕ) (channel : Channel) → has_member q channel ≡ true
    → has_member q (joined fold false channel) ≡ true
joined_member q fold channel member = by_test (has_member fold channel)
  where
    by_fold : (b : Bool) → is_some
        (cond b (Some (record { op = false; voice = false })) (row channel.members q)) ≡ true
    by_fold true = refl
    by_fold false = member

    by_test : (b : Bool) → has_member q
        (cond b channel (with_member fold (record { op = false; voice = false }) channel)) ≡ true
    by_test true = member
    by_test false = ap is_some
        (row-alter fold (λ _. Some (record { op = false; voice = false })) channel.members q)
        ∙ by_fold (same_fold q fold)

joined_name : (fold : List ℕ) (channel : Channel) → (joined fold false channel).name ≡ channel.name
joined_name fold channel = by_test (has_member fold channel)
  where
    by_test : (b : Bool) → (cond b channel
        (with_member fold (record { op = false; voice = false }) channel)).name ≡ channel.name
    by_test true = refl
    by_test false = refl

joined_outside : (q fold : List ℕ) (channel : Channel) → same_fold q fold ≡ false
    → has_member q channel ≡ false → has_member q (joined fold false channel) ≡ false
joined_outside q fold channel apart outside = by_test (has_member fold channel)
  where
    by_test : (b : Bool) → has_member q
        (cond b channel (with_member fold (record { op = false; voice = false }) channel)) ≡ false
    by_test true = outside
    by_test false =
        ap is_some
        (row-alter fold (λ _. Some (record { op = false; voice = false })) channel.members q)
        ∙ ap (λ b. is_some
        (cond b (Some (record { op = false; voice = false })) (row channel.members q))) apart
        ∙ outside

flagged_member : (which : ModeLetter) → names_member which ≡ true → (nick q : List ℕ)
    (channel : Channel) → has_member q (changed (given which nick) channel) ≡ has_member q channel
flagged_member letter.Operator flag nick q channel =
    same_rows (key nick) (λ f. record f { op = true }) channel.members q
flagged_member letter.Voice flag nick q channel =
    same_rows (key nick) (λ f. record f { voice = true }) channel.members q
flagged_member letter.InviteOnly flag nick q channel = refl
flagged_member letter.Moderated flag nick q channel = refl
flagged_member letter.NoOutside flag nick q channel = refl
flagged_member letter.TopicLocked flag nick q channel = refl
flagged_member letter.Private flag nick q channel = refl
flagged_member letter.Secret flag nick q channel = refl
flagged_member letter.Key flag nick q channel = refl
flagged_member letter.Limit flag nick q channel = refl
flagged_member letter.Ban flag nick q channel = refl

flagged_name : (which : ModeLetter) → names_member which ≡ true
    → (nick : List ℕ) (channel : Channel) → (changed (given which nick) channel).name ≡ channel.name
flagged_name letter.Operator flag nick channel = refl
flagged_name letter.Voice flag nick channel = refl
flagged_name letter.InviteOnly flag nick channel = refl
flagged_name letter.Moderated flag nick channel = refl
flagged_name letter.NoOutside flag nick channel = refl
flagged_name letter.TopicLocked flag nick channel = refl
flagged_name letter.Private flag nick channel = refl
flagged_name letter.Secret flag nick channel = refl
flagged_name letter.Key flag nick channel = refl
flagged_name letter.Limit flag nick channel = refl
flagged_name letter.Ban flag nick channel = refl

new_outside : (name fold : List ℕ) (x : Option Channel) → row_has fold x ≡ false
    → has_member fold (unwrap_or x (new_channel name)) ≡ false
new_outside name fold None outside = ap is_some (get-empty {X = Flags} fold_cmp fold)
new_outside name fold (Some channel) outside = outside

-- one who is no member stays none when another comes
pub comes_outside : (name q fold : List ℕ) (flags : Flags) (x : Option Channel) → same_fold q fold
    ≡ false → row_has q x ≡ false → row_has q (comes_to name fold flags x) ≡ false
comes_outside name q fold flags x two outside =
    ap is_some (row-alter fold (λ _. Some flags) (unwrap_or x (new_channel name)).members q)
    ∙ ap (λ b. is_some (cond b (Some flags) (row (unwrap_or x (new_channel name)).members q))) two
    ∙ new_outside name q x outside

-- words of the channel's own modes are written as they are told
words_as_told : (room : Room) (changes : List ModeChange) → list_all is_plain changes ≡ true
    → written_words room changes ≡ filter_map (λ (c : ModeChange). c.word) changes
words_as_told room [] plain = refl
words_as_told room (change ∷ changes) plain =
    let parts = and_parts _ _ plain in
    λ i. cons_option (by (names_member change.letter) parts.0 i)
    (words_as_told room changes parts.1 i)
  where
    by : (b : Bool) → not b ≡ true
        → cond b (option_map (stored_nick room) change.word) change.word ≡ change.word
    by true plain = cc
    by false plain = refl

module _ (viewer name : List ℕ) where
  -- ---- a viewer who is in the channel

  -- the viewer is this user, and a member of the channel with this title
  pub record Sees (user : User) (title : List ℕ) (room : Room) : Type 0 where
    pub at : row room.users (key viewer) ≡ Some user
    pub named : key user.nick ≡ key viewer
    pub channel : Channel
    pub there : row room.channels (key name) ≡ Some channel
    pub titled : channel.name ≡ title
    pub member : has_member (key viewer) channel ≡ true

  -- a change of the channel that keeps its name and that member
  pub still_sees : (user : User) (title : List ℕ) (room : Room)
      (change : Option Channel → Option Channel) (new : Channel → Channel)
      → Sees user title room → ((channel : Channel) → change (Some channel) ≡ Some (new channel))
      → ((channel : Channel) → (new channel).name ≡ channel.name) → ((channel : Channel)
      → has_member (key viewer) channel ≡ true → has_member (key viewer) (new channel) ≡ true)
      → Sees user title (alter_channel name change room)
  still_sees user title room change new sees is name_stays member_stays = record {
    at = sees.at;
    named = sees.named;
    channel = new sees.channel;
    there = row-alter_same (key name) change room.channels ∙ ap change sees.there ∙ is sees.channel;
    titled = name_stays sees.channel ∙ sees.titled;
    member = member_stays sees.channel sees.member;
  }

  sees_join : (user : User) (title nick : List ℕ) (room : Room) → Sees user title room
      → Sees user title (after room (Join nick name false))
  unfolding after
  sees_join user title nick room sees =
      still_sees user title room (λ c. Some (joined (key nick) false
      (unwrap_or c (new_channel name)))) (joined (key nick) false) sees (λ c. refl)
      (joined_name (key nick)) (joined_member (key viewer) (key nick))

  sees_flag : (which : ModeLetter) → names_member which ≡ true
      → (user : User) (title nick : List ℕ) (room : Room) → Sees user title room
      → Sees user title (after room (ChangeModes by.Home name (given which nick ∷ [])))
  unfolding after
  sees_flag which flag user title nick room sees =
      still_sees user title room (option_map (all_changed (given which nick ∷ [])))
      (changed (given which nick)) sees (λ c. refl)
      (flagged_name which flag nick) (λ c member. flagged_member which flag nick (key viewer) c
      ∙ member)

  member_seen : (user : User) (title : List ℕ) (room : Room) → Sees user title room
      → is_member room user.nick name ≡ true
  member_seen user title room sees =
      ap (λ f. option_map_or (has_member f) (row room.channels (key name)) false) sees.named
      ∙ ap (λ o. option_map_or (has_member (key viewer)) o false) sees.there
      ∙ sees.member

  join_shown : (user : User) (title nick : List ℕ) (holder : User) (room : Room)
      → Sees user title room → is_member room nick name ≡ false → row room.users (key nick)
      ≡ Some holder → shows_to room (Join nick name false) viewer ≡ Some (join_line title holder)
  unfolding shows_to
  join_shown user title nick holder room sees outside at =
      ap (λ b. cond b None (option_and_then (line_for room (Join nick name false))
      (row room.users (key viewer)))) outside
      ∙ ap (option_and_then (line_for room (Join nick name false))) sees.at
      ∙ ap (λ b. cond b (line_from (codes "JOIN") (option_map_or (λ (c : Channel). c.name)
      (row room.channels (key name)) name ∷ []) None
      (option_map full_sender (row room.users (key nick)))) None) (or_right (same nick user.nick) _
      (member_seen user title room sees))
      ∙ (λ i. line_from (codes "JOIN") (option_map_or (λ (c : Channel). c.name) (sees.there i) name
      ∷ []) None (option_map full_sender (at i)))
      ∙ ap (λ t. Some (join_line t holder)) sees.titled

  -- the line with which the viewer's own server gives a flag
  abbrev mode_line : User → List ℕ → ModeLetter → List ℕ → List ℕ
  mode_line user title which nick =
      text (record {
        sender = named user.home;
        command = codes "MODE";
        middle = title ∷ (sign_byte true ∷ letter_byte which ∷ []) ∷ nick ∷ [];
        last = None;
      })

  abbrev written_mode : User → ModeLetter → List ℕ → Option (List ℕ) → Option (List ℕ)
  written_mode user which channel word =
      line_from (codes "MODE") (channel ∷ (sign_byte true ∷ letter_byte which ∷ [])
      ∷ cons_option word []) None (Some (named user.home))

  flag_shown : (which : ModeLetter) → names_member which ≡ true
      → (user : User) (title nick : List ℕ) (holder : User) (room : Room) → Sees user title room
      → row room.users (key nick) ≡ Some holder → shows_to room (ChangeModes by.Home name
      (given which nick ∷ [])) viewer ≡ Some (mode_line user title which holder.nick)
  unfolding shows_to
  flag_shown which flag user title nick holder room sees at =
      ap (option_and_then (line_for room (ChangeModes by.Home name (given which nick ∷ []))))
      sees.at
      ∙ ap (λ b. cond b (shown_line room (ChangeModes by.Home name (given which nick ∷ [])) user)
      None) (member_seen user title room sees)
      ∙ (λ i. written_mode user which (option_map_or (λ (c : Channel). c.name) (sees.there i) name)
      (cond (flag i) (Some (option_map_or (λ (u : User). u.nick) (at i) nick)) (Some nick)))
      ∙ ap (λ t. Some (mode_line user t which holder.nick)) sees.titled

  -- changes of the channel's own modes, as they are
  pub changes_shown : (user : User) (title : List ℕ) (changes : List ModeChange) (room : Room)
      → Sees user title room → list_all is_plain changes ≡ true
      → shows_to room (ChangeModes by.Home name changes) viewer
      ≡ Some (text (record {
        sender = named user.home;
        command = codes "MODE";
        middle = title ∷ changes_written changes;
        last = None;
      }))
  unfolding shows_to
  changes_shown user title changes room sees plain =
      ap (option_and_then (line_for room (ChangeModes by.Home name changes))) sees.at
      ∙ ap (λ b. cond b (shown_line room (ChangeModes by.Home name changes) user) None)
      (member_seen user title room sees)
      ∙ (λ i. line_from (codes "MODE") (option_map_or (λ (c : Channel). c.name) (sees.there i) name
      ∷ letters_text changes ∷ words_as_told room changes plain i)
      None (Some (named user.home)))
      ∙ ap (λ t. Some (text (record {
        sender = named user.home;
        command = codes "MODE";
        middle = t ∷ changes_written changes;
        last = None;
      }))) sees.titled

  pub topic_shown : (user : User) (title topic : List ℕ) (room : Room) → Sees user title room
      → shows_to room (SetTopic by.Home name topic) viewer
      ≡ Some (text (record {
        sender = named user.home;
        command = codes "TOPIC";
        middle = title ∷ [];
        last = Some topic;
      }))
  unfolding shows_to
  topic_shown user title topic room sees =
      ap (option_and_then (line_for room (SetTopic by.Home name topic))) sees.at
      ∙ ap (λ b. cond b (shown_line room (SetTopic by.Home name topic) user) None)
      (member_seen user title room sees)
      ∙ (λ i. line_from (codes "TOPIC") (option_map_or (λ (c : Channel). c.name) (sees.there i) name
      ∷ []) (Some topic) (Some (named user.home)))
      ∙ ap (λ t. Some (text (record {
        sender = named user.home;
        command = codes "TOPIC";
        middle = t ∷ [];
        last = Some topic;
      }))) sees.titled

  flags_shown : (user : User) (title nick : List ℕ) (holder : User) (op voice : Bool) (room : Room)
      → Sees user title room → row room.users (key nick) ≡ Some holder → shown_along viewer room
      (flag_given op letter.Operator name nick ++ flag_given voice letter.Voice name nick)
      ≡ flag_line user title op (codes "+o") holder.nick
      ++ flag_line user title voice (codes "+v") holder.nick
  unfolding after
  flags_shown user title nick holder false false room sees at = refl
  flags_shown user title nick holder true false room sees at =
      ap (λ o. option_to_list o ++ [])
      (flag_shown letter.Operator refl user title nick holder room sees at)
  flags_shown user title nick holder false true room sees at =
      ap (λ o. option_to_list o ++ [])
      (flag_shown letter.Voice refl user title nick holder room sees at)
  flags_shown user title nick holder true true room sees at =
      λ i. option_to_list (flag_shown letter.Operator refl user title nick holder room sees at i)
      ++ (option_to_list (flag_shown letter.Voice refl user title nick holder
      (after room (ChangeModes by.Home name (given letter.Operator nick ∷ [])))
      (sees_flag letter.Operator refl user title nick room sees) at i) ++ [])

  pub come_shown : (user : User) (title nick : List ℕ) (flags : Flags) (holder : User) (room : Room)
      → Sees user title room → is_member room nick name ≡ false
      → row room.users (key nick) ≡ Some holder
      → shown_along viewer room (member_comes name (nick, flags)) ≡ arrival user title flags holder
  unfolding after
  come_shown user title nick flags holder room sees outside at =
      λ i. option_to_list (join_shown user title nick holder room sees outside at i)
      ++ flags_shown user title nick holder flags.op flags.voice (after room (Join nick name false))
      (sees_join user title nick room sees) at i

  pub sees_come : (user : User) (title fold : List ℕ) (flags : Flags) (room : Room)
      → Sees user title room → Sees user title (alter_channel name (comes_to name fold flags) room)
  sees_come user title fold flags room sees =
      still_sees user title room (comes_to name fold flags) (with_member fold flags) sees
      (λ c. refl) (λ c. refl) (λ c member.
      ap is_some (row-alter fold (λ _. Some flags) c.members (key viewer))
      ∙ by_fold c member (same_fold (key viewer) fold))
    where
      by_fold : (c : Channel) → has_member (key viewer) c ≡ true → (b : Bool)
          → is_some (cond b (Some flags) (row c.members (key viewer))) ≡ true
      by_fold c member true = refl
      by_fold c member false = member

  -- ---- a viewer who is not in the channel

  pub record IsBlind (room : Room) : Type 0 where
    pub named : (user : User) → row room.users (key viewer) ≡ Some user → key user.nick ≡ key viewer
    pub outside : row_has (key viewer) (row room.channels (key name)) ≡ false

  out_of : (room : Room) (user : User) → IsBlind room → row room.users (key viewer) ≡ Some user
      → is_member room user.nick name ≡ false
  out_of room user blind at =
      ap (λ f. row_has f (row room.channels (key name))) (blind.named user at) ∙ blind.outside

  pub change_unseen : (changes : List ModeChange) (room : Room) → IsBlind room
      → shows_to room (ChangeModes by.Home name changes) viewer ≡ None
  unfolding shows_to
  change_unseen changes room blind = by_row (row room.users (key viewer)) refl
    where
      by_row : (o : Option User) → row room.users (key viewer) ≡ o
          → option_and_then (line_for room (ChangeModes by.Home name changes)) o ≡ None
      by_row None at = refl
      by_row (Some user) at =
          ap (λ b. cond b (shown_line room (ChangeModes by.Home name changes) user) None)
          (out_of room user blind at)

  pub topic_unseen : (topic : List ℕ) (room : Room) → IsBlind room
      → shows_to room (SetTopic by.Home name topic) viewer ≡ None
  unfolding shows_to
  topic_unseen topic room blind = by_row (row room.users (key viewer)) refl
    where
      by_row : (o : Option User) → row room.users (key viewer) ≡ o
          → option_and_then (line_for room (SetTopic by.Home name topic)) o ≡ None
      by_row None at = refl
      by_row (Some user) at =
          ap (λ b. cond b (shown_line room (SetTopic by.Home name topic) user) None)
          (out_of room user blind at)

  -- two folds that are not one
  apart : (nick fold : List ℕ) → same_fold fold (key nick) ≡ false
      → pointwise nat_eq (key nick) fold ≡ false
  apart nick fold two = by_test (pointwise nat_eq (key nick) fold) refl
    where
      by_test : (b : Bool) → pointwise nat_eq (key nick) fold ≡ b → b ≡ false
      by_test true one = absurd (false≢true (sym two ∙ ap (λ f. same_fold f (key nick))
          (sym ((bytes_decides (key nick) fold).0 one)) ∙ same_fold-refl (key nick)))
      by_test false other = refl

  join_unseen : (nick : List ℕ) (room : Room) → IsBlind room → same_fold (key viewer) (key nick)
      ≡ false → shows_to room (Join nick name false) viewer ≡ None
  unfolding shows_to
  join_unseen nick room blind two = by_idle (is_member room nick name)
    where
      by_row : (o : Option User) → row room.users (key viewer) ≡ o
          → option_and_then (line_for room (Join nick name false)) o ≡ None
      by_row None at = refl
      by_row (Some user) at =
          ap (λ b. cond b (shown_line room (Join nick name false) user) None)
          (or_from (same nick user.nick) (is_member room user.nick name)
          (ap (pointwise nat_eq (key nick)) (blind.named user at) ∙ apart nick (key viewer) two)
          (out_of room user blind at))

      by_idle : (b : Bool) → cond b None (option_and_then (line_for room (Join nick name false))
          (row room.users (key viewer))) ≡ None
      by_idle true = refl
      by_idle false = by_row (row room.users (key viewer)) refl

  pub still_blind : (room : Room) (change : Option Channel → Option Channel)
      → IsBlind room → ((x : Option Channel) → row_has (key viewer) x ≡ false
      → row_has (key viewer) (change x) ≡ false) → IsBlind (alter_channel name change room)
  still_blind room change blind stays = record {
    named = blind.named;
    outside = ap (row_has (key viewer)) (row-alter_same (key name) change room.channels)
        ∙ stays (row room.channels (key name)) blind.outside;
  }

  blind_join : (nick : List ℕ) (room : Room) → IsBlind room
      → same_fold (key viewer) (key nick) ≡ false → IsBlind (after room (Join nick name false))
  unfolding after
  blind_join nick room blind two =
      still_blind room (λ c. Some (joined (key nick) false (unwrap_or c (new_channel name)))) blind
      (λ x outside.
      joined_outside (key viewer) (key nick) (unwrap_or x (new_channel name)) two
      (new_outside name (key viewer) x outside))

  blind_flag : (which : ModeLetter) → names_member which ≡ true → (nick : List ℕ) (room : Room)
      → IsBlind room → IsBlind (after room (ChangeModes by.Home name (given which nick ∷ [])))
  unfolding after
  blind_flag which flag nick room blind =
      still_blind room (option_map (all_changed (given which nick ∷ []))) blind by_row
    where
      by_row : (x : Option Channel) → row_has (key viewer) x ≡ false
          → row_has (key viewer) (option_map (all_changed (given which nick ∷ [])) x) ≡ false
      by_row None outside = outside
      by_row (Some channel) outside = flagged_member which flag nick (key viewer) channel ∙ outside

  flags_unseen : (nick : List ℕ) (op voice : Bool) (room : Room) → IsBlind room → shown_along viewer
      room (flag_given op letter.Operator name nick ++ flag_given voice letter.Voice name nick) ≡ []
  flags_unseen nick false false room blind = refl
  flags_unseen nick true false room blind =
      ap (λ o. option_to_list o ++ []) (change_unseen (given letter.Operator nick ∷ []) room blind)
  flags_unseen nick false true room blind =
      ap (λ o. option_to_list o ++ []) (change_unseen (given letter.Voice nick ∷ []) room blind)
  flags_unseen nick true true room blind =
      λ i. option_to_list (change_unseen (given letter.Operator nick ∷ []) room blind i)
      ++ (option_to_list (change_unseen (given letter.Voice nick ∷ [])
      (after room (ChangeModes by.Home name (given letter.Operator nick ∷ [])))
      (blind_flag letter.Operator refl nick room blind) i) ++ [])

  pub come_unseen : (nick : List ℕ) (flags : Flags) (room : Room)
      → IsBlind room → same_fold (key viewer) (key nick) ≡ false
      → shown_along viewer room (member_comes name (nick, flags)) ≡ []
  come_unseen nick flags room blind two =
      λ i. option_to_list (join_unseen nick room blind two i)
      ++ flags_unseen nick flags.op flags.voice (after room (Join nick name false))
      (blind_join nick room blind two) i

  pub blind_come : (fold : List ℕ) (flags : Flags) (room : Room) → IsBlind room → same_fold
      (key viewer) fold ≡ false → IsBlind (alter_channel name (comes_to name fold flags) room)
  blind_come fold flags room blind two = still_blind room (comes_to name fold flags) blind
      (λ x outside. comes_outside name (key viewer) fold flags x two outside)
