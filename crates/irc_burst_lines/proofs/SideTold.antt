-- What is told of one side of a room, by looking at the whole room.
use Rattle.std.proofs.Common.{◌≡◌, ℕ, Bool, true, false, cond, Option, Some, None, List, [], ◌∷◌}
use Rattle.std.proofs.Common.{◌++◌, map, filter, filter_map, refl, ◌∙◌, ap, if◌then◌else◌}
use Rattle.std.proofs.lemmas.List.{map-append}
use Rattle.std.specs.List.{flat_map, cons_option}
use Rattle.std.specs.Option.{option_map, option_map_or, option_and_then}
use Rattle.std.specs.FinMap.{entries, keys, values, retain_keys}
use Rattle.std.proofs.lemmas.Simd.{map-map}
use Rattle.irc_names.specs.Fold.{key}
use Rattle.irc_names.specs.Tables.{Table, row, each}
use Rattle.irc_names.specs.TableLaws.{row-each}
use Rattle.irc_line.specs.Messages.{Written}
use Rattle.irc_users.specs.declared.user.User.{User}
use Rattle.irc_users.specs.ChangesTold.{as_introduced, changes_of}
use Rattle.irc_channels.specs.declared.flags.Flags.{Flags}
use Rattle.irc_channels.specs.declared.channel.Channel.{Channel}
use Rattle.irc_modes.specs.declared.modes.ModeChange.{ModeChange}
use Rattle.irc_modes.specs.Modes.{is_nil}
use Rattle.irc_modes.specs.ModesSet.{set_changes, ban_changes}
use Rattle.irc_room.specs.effect.Effect.TheVariants.{AddUser, ChangeUser}
use Rattle.irc_room.specs.Readers.{channel_at}
use Rattle.irc_room.specs.Room.{Room}
use Rattle.irc_routes.specs.Known.{Known, servers_told}
use Rattle.irc_merge.specs.Deeds.{Deed, does, brings, sets, tops}
use Rattle.irc_merge.specs.Bursts.{burst, side_of, user_deeds, channel_deeds, channel_side}
use Rattle.irc_merge.specs.Bursts.{own_deeds, change_deeds, people_deeds}
use Rattle.irc_merge.specs.Bursts.{user_passes, home_passes, stored_member, stored_members}
use Rattle.irc_merge.specs.Bursts.{settings_line, topic_line, in_lines, members_a_line, bans_a_line}
use Rattle.irc_merge.specs.Lemmas.TableWords.{values_each, entries_kept}
use Rattle.irc_link_writer.specs.Written.{introduction}
use Rattle.irc_burst_lines.specs.DeedLines.{deed_parts}
use Rattle.irc_burst_lines.specs.BurstLines.{burst_parts, channel_parts, is_near, server_deed}
use Rattle.irc_burst_lines.specs.Loops.Telling.{row_parts, is_near_user, near_user, near_member}
use Rattle.irc_burst_lines.specs.Loops.Telling.{near_members, member_lines, settings_lines}
use Rattle.irc_burst_lines.specs.Loops.Telling.{ban_lines, topic_lines, channel_lines, channel_told}
use Rattle.irc_burst_lines.specs.Loops.Telling.{told_if, own_lines, change_lines}

module _ (room : Room) (known : Known) (link : ℕ) where
  abbrev passes : List ℕ → Bool
  passes = is_near known link

  abbrev users : Table User
  users = room.users

  abbrev near_users : Table User
  near_users = each (user_passes passes) users

  abbrev written : Deed → Written
  written = deed_parts room known

  -- ---- users

  users_near : (us : List User) → map written (map (λ user. does (AddUser (as_introduced user)))
      (filter_map (user_passes passes) us)) ≡ map (introduction known)
      (filter (is_near_user known link) us)
  users_near [] = refl
  users_near (user ∷ us) = by_home (passes user.home) (users_near us)
    where
      by_home : (b : Bool)
          → map written (map (λ user. does (AddUser (as_introduced user)))
          (filter_map (user_passes passes) us))
          ≡ map (introduction known) (filter (is_near_user known link) us)
          → map written (map (λ user. does (AddUser (as_introduced user)))
          (cons_option (if b then Some user else None) (filter_map (user_passes passes) us)))
          ≡ map (introduction known) (cond b (user ∷ filter (is_near_user known link) us)
          (filter (is_near_user known link) us))
      by_home true rest = ap (λ more. introduction known user ∷ more) rest
      by_home false rest = rest

  users_told : map written (user_deeds (side_of passes room)) ≡ map (introduction known)
      (filter (is_near_user known link) (values users))
  unfolding side_of
  users_told = ap (λ us. map written (map (λ user. does (AddUser (as_introduced user))) us))
      (values_each (user_passes passes) users) ∙ users_near (values users)

  -- ---- what they have set

  own_written : (user : User) → map written (own_deeds user) ≡ own_lines room known user
  own_written user =
      map-map written (λ change. does (ChangeUser user.nick change)) (changes_of user)

  changes_near : (us : List User)
      → map written (flat_map own_deeds (filter_map (user_passes passes) us))
      ≡ change_lines room known link us
  changes_near [] = refl
  changes_near (user ∷ us) = by_home (passes user.home) (changes_near us)
    where
      by_home : (b : Bool)
          → map written (flat_map own_deeds (filter_map (user_passes passes) us))
          ≡ flat_map (own_lines room known) (filter (is_near_user known link) us)
          → map written (flat_map own_deeds
          (cons_option (if b then Some user else None) (filter_map (user_passes passes) us)))
          ≡ flat_map (own_lines room known) (cond b (user ∷ filter (is_near_user known link) us)
          (filter (is_near_user known link) us))
      by_home true rest =
          map-append written (own_deeds user)
          (flat_map own_deeds (filter_map (user_passes passes) us))
          ∙ (λ i. own_written user i ++ rest i)
      by_home false rest = rest

  changes_told : map written (change_deeds (side_of passes room))
      ≡ change_lines room known link (values users)
  unfolding side_of
  changes_told = ap (λ us. map written (flat_map own_deeds us))
      (values_each (user_passes passes) users) ∙ changes_near (values users)

  people_told : map written (people_deeds (side_of passes room))
      ≡ map (introduction known) (filter (is_near_user known link) (values users))
      ++ change_lines room known link (values users)
  people_told =
      map-append written (user_deeds (side_of passes room)) (change_deeds (side_of passes room))
      ∙ (λ i. users_told i ++ changes_told i)

  -- ---- the members of a channel

  abbrev stays : List ℕ × Flags → Bool
  stays e = home_passes passes users e.0

  abbrev nears : List (List ℕ × Flags) → List (List ℕ × Flags)
  nears es = filter_map (near_member passes users) es

  if_kept : {X Y : Type 0} (f : X → Option Y) (b : Bool) (x : X) (xs : List X)
      → filter_map f (cond b (x ∷ xs) xs)
      ≡ cond b (cons_option (f x) (filter_map f xs)) (filter_map f xs)
  if_kept f true x xs = refl
  if_kept f false x xs = refl

  abbrev stored : Flags → User → List ℕ × Flags
  stored flags user = (user.nick, flags)

  one_home : (flags : Flags) (user : User) (b : Bool) (s : Option User)
      (R N : List (List ℕ × Flags)) → s ≡ cond b (Some user) None → R ≡ N → cond b (cons_option
      (option_map (stored flags) s) R) R ≡ cons_option (cond b (Some (user.nick, flags)) None) N
  one_home flags user true s R N is rest = ap (λ o. cons_option (option_map (stored flags) o) R) is
      ∙ ap (λ more. (user.nick, flags) ∷ more) rest
  one_home flags user false s R N is rest = rest

  one_row : (flags : Flags) (o s : Option User) (R N : List (List ℕ × Flags))
      → s ≡ option_and_then (user_passes passes) o → R ≡ N → cond (option_map_or
      (λ (user : User). passes user.home) o false) (cons_option (option_map (stored flags) s) R) R
      ≡ cons_option (option_and_then (near_user passes flags) o) N
  one_row flags None s R N is rest = rest
  one_row flags (Some user) s R N is rest = one_home flags user (passes user.home) s R N is rest

  members_near : (es : List (List ℕ × Flags))
      → filter_map (stored_member near_users) (filter stays es) ≡ nears es
  members_near [] = refl
  members_near (e ∷ es) =
      if_kept (stored_member near_users) (stays e) e (filter stays es)
      ∙ one_row e.1 (row users e.0) (row near_users e.0)
      (filter_map (stored_member near_users) (filter stays es)) (nears es)
      (row-each (user_passes passes) users e.0) (members_near es)

  -- a channel has members on this side just where there is one to tell of
  none_home : (user : User) (flags : Flags) (b : Bool) (fold : List ℕ) (K : List (List ℕ))
      (N : List (List ℕ × Flags)) → is_nil K ≡ is_nil N → is_nil (cond b (fold ∷ K) K)
      ≡ is_nil (cons_option (cond b (Some (user.nick, flags)) None) N)
  none_home user flags true fold K N rest = refl
  none_home user flags false fold K N rest = rest

  none_row : (flags : Flags) (o : Option User) (fold : List ℕ)
      (K : List (List ℕ)) (N : List (List ℕ × Flags)) → is_nil K ≡ is_nil N
      → is_nil (cond (option_map_or (λ (user : User). passes user.home) o false) (fold ∷ K) K)
      ≡ is_nil (cons_option (option_and_then (near_user passes flags) o) N)
  none_row flags None fold K N rest = rest
  none_row flags (Some user) fold K N rest = none_home user flags (passes user.home) fold K N rest

  map_kept : {X Y : Type 0} (f : X → Y) (b : Bool) (x : X) (xs : List X)
      → map f (cond b (x ∷ xs) xs) ≡ cond b (f x ∷ map f xs) (map f xs)
  map_kept f true x xs = refl
  map_kept f false x xs = refl

  none_near : (es : List (List ℕ × Flags))
      → is_nil (map (λ e. e.0) (filter stays es)) ≡ is_nil (nears es)
  none_near [] = refl
  none_near (e ∷ es) =
      ap is_nil (map_kept (λ (e : List ℕ × Flags). e.0) (stays e) e (filter stays es))
      ∙ none_row e.1 (row users e.0) e.0 (map (λ e. e.0) (filter stays es)) (nears es)
      (none_near es)

  -- ---- a channel

  abbrev deeds : Channel → List Deed
  deeds channel = channel_deeds known.name near_users channel

  settings_written : (name : List ℕ) (changes : List ModeChange)
      → map written (settings_line known.name name changes) ≡ settings_lines known.name name changes
  settings_written name [] = refl
  settings_written name (change ∷ changes) = refl

  topic_written : (name topic : List ℕ)
      → map written (topic_line known.name name topic) ≡ topic_lines known.name name topic
  topic_written name topic = by_nil (is_nil topic)
    where
      by_nil : (b : Bool) → map written (if b then [] else tops known.name name topic ∷ [])
          ≡ (if b then [] else deed_parts room known (tops known.name name topic) ∷ [])
      by_nil true = refl
      by_nil false = refl

  -- the lines of a channel that these members are told of
  deeds_written : (channel : Channel) (members : List (List ℕ × Flags)) →
      map written
      (map (brings known.name channel.name) (in_lines members_a_line members)
      ++ (settings_line known.name channel.name (set_changes channel.modes)
      ++ (map (sets known.name channel.name) (in_lines bans_a_line (ban_changes channel.modes.bans))
      ++ topic_line known.name channel.name channel.topic)))
      ≡ member_lines known.name channel.name members
      ++ (settings_lines known.name channel.name (set_changes channel.modes)
      ++ (ban_lines known.name channel.name (ban_changes channel.modes.bans)
      ++ topic_lines known.name channel.name channel.topic))
  deeds_written channel members =
      let brought = map (brings known.name channel.name) (in_lines members_a_line members) in
      let set = settings_line known.name channel.name (set_changes channel.modes) in
      let banned = map (sets known.name channel.name)
      (in_lines bans_a_line (ban_changes channel.modes.bans)) in
      let topped = topic_line known.name channel.name channel.topic in
      map-append written brought (set ++ (banned ++ topped))
      ∙ ap (λ ls. ls ++ map written (set ++ (banned ++ topped)))
      (map-map written (brings known.name channel.name) (in_lines members_a_line members))
      ∙ ap (λ ls. member_lines known.name channel.name members ++ ls) (
      map-append written set (banned ++ topped)
      ∙ ap (λ ls. ls ++ map written (banned ++ topped))
      (settings_written channel.name (set_changes channel.modes))
      ∙ ap (λ ls. settings_lines known.name channel.name (set_changes channel.modes) ++ ls) (
      map-append written banned topped
      ∙ ap (λ ls. ls ++ map written topped) (map-map written (sets known.name channel.name)
      (in_lines bans_a_line (ban_changes channel.modes.bans)))
      ∙ ap (λ ls. ban_lines known.name channel.name (ban_changes channel.modes.bans) ++ ls)
      (topic_written channel.name channel.topic)))

  abbrev near_side : Channel → Channel
  near_side channel = record channel {
    members = retain_keys channel.members (home_passes passes users);
    invited = retain_keys channel.invited (home_passes passes users);
  }

  -- by who is left of it
  by_members : (channel : Channel) (members : List (List ℕ × Flags))
      → is_nil (keys (near_side channel).members) ≡ is_nil members
      → stored_members near_users (near_side channel) ≡ members → map written (option_map_or deeds
      (if is_nil (keys (near_side channel).members) then None else Some (near_side channel)) [])
      ≡ channel_lines known.name channel members
  by_members channel [] none are = ap (λ b.
      map written (option_map_or deeds (if b then None else Some (near_side channel)) [])) none
  by_members channel (member ∷ members) some are =
      ap (λ b. map written (option_map_or deeds (if b then None else Some (near_side channel)) []))
      some
      ∙ ap (λ ms. map written
      (map (brings known.name channel.name) (in_lines members_a_line ms)
      ++ (settings_line known.name channel.name (set_changes channel.modes)
      ++ (map (sets known.name channel.name) (in_lines bans_a_line (ban_changes channel.modes.bans))
      ++ topic_line known.name channel.name channel.topic)))) are
      ∙ deeds_written channel (member ∷ members)

  one_channel : (channel : Channel) → map written (option_map_or deeds
      (channel_side passes users channel) []) ≡ channel_told known link users channel
  one_channel channel =
      let kept = entries_kept channel.members (home_passes passes users) in
      by_members channel (near_members passes users channel)
      (ap (λ es. is_nil (map (λ (e : List ℕ × Flags). e.0) es)) kept
      ∙ none_near (entries channel.members))
      (ap (filter_map (stored_member near_users)) kept ∙ members_near (entries channel.members))

  flat_mapped : (f : Channel → List Deed) (o : Option Channel) (cs : List Channel)
      → flat_map f (cons_option o cs) ≡ option_map_or f o [] ++ flat_map f cs
  flat_mapped f None cs = refl
  flat_mapped f (Some channel) cs = refl

  channels_written : (cs : List Channel) → map written (flat_map deeds
      (filter_map (channel_side passes users) cs)) ≡ flat_map (channel_told known link users) cs
  channels_written [] = refl
  channels_written (channel ∷ cs) =
      let side = channel_side passes users channel in
      let rest = filter_map (channel_side passes users) cs in
      ap (map written) (flat_mapped deeds side rest)
      ∙ map-append written (option_map_or deeds side []) (flat_map deeds rest)
      ∙ ap (λ ls. ls ++ map written (flat_map deeds rest)) (one_channel channel)
      ∙ ap (λ ls. channel_told known link users channel ++ ls) (channels_written cs)

  channels_told : map written (flat_map (channel_deeds known.name (side_of passes room).users)
      (values (side_of passes room).channels))
      ≡ flat_map (channel_told known link users) (values room.channels)
  unfolding side_of
  channels_told = ap (λ cs. map written (flat_map deeds cs)) (values_each
      (channel_side passes users) room.channels) ∙ channels_written (values room.channels)

  -- one of them, by its name
  channel_if : (channel : Option Channel)
      → map written (option_map_or deeds (option_and_then (channel_side passes users) channel) [])
      ≡ told_if known link room channel
  channel_if None = refl
  channel_if (Some channel) = one_channel channel

  pub channel_is_told : (name : List ℕ)
      → channel_parts room known link name ≡ told_if known link room (channel_at room (key name))
  unfolding side_of
  channel_is_told name = ap (λ channel. map written (option_map_or deeds channel []))
      (row-each (channel_side passes users) room.channels (key name))
      ∙ channel_if (row room.channels (key name))

  -- ---- the whole burst

  pub side_told : burst_parts room known link
      ≡ map (row_parts known) (servers_told known link)
      ++ ((map (introduction known) (filter (is_near_user known link) (values users))
      ++ change_lines room known link (values users))
      ++ flat_map (channel_told known link users) (values room.channels))
  unfolding burst_parts burst
  side_told =
      let servers = map server_deed (servers_told known link) in
      let us = people_deeds (side_of passes room) in
      let cs = flat_map (channel_deeds known.name (side_of passes room).users)
      (values (side_of passes room).channels) in
      map-append written servers (us ++ cs)
      ∙ ap (λ ls. ls ++ map written (us ++ cs))
      (map-map written server_deed (servers_told known link))
      ∙ ap (λ ls. map (row_parts known) (servers_told known link) ++ ls) (
      map-append written us cs
      ∙ ap (λ ls. ls ++ map written cs) people_told
      ∙ ap (λ ls. (map (introduction known) (filter (is_near_user known link) (values users))
      ++ change_lines room known link (values users)) ++ ls) channels_told)
