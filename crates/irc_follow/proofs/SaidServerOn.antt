-- Deeds of a server, other than a KILL, go on to each other neighbour as lines that say them there.
use Rattle.std.proofs.Common.{◌≡◌, ◌≢◌, inl, inr, ℕ, Bool, true, false, not, ◌&&◌, ◌||◌, is_some}
use Rattle.std.proofs.Common.{Option, Some, None, Ok, List, [], ◌∷◌, ◌++◌, codes, length, lit≤, map}
use Rattle.std.proofs.Common.{refl, sym, ◌∙◌, ap, option_map, if◌then◌else◌}
use Rattle.std.proofs.lemmas.Bool.{le-leb, and_from, or_right}
use Rattle.std.specs.FinMap.{get, keys}
use Rattle.std.specs.List.{list_any, AllByRecursion}
use Rattle.std.specs.Option.{option_map_or}
use Rattle.std.proofs.lemmas.Option.{same_Some}
use Rattle.irc_names.specs.Lemmas.PlainFacts.{is_some-map}
use Rattle.irc_line.specs.Messages.{IsPlain, Written, line_text, message_of}
use Rattle.irc_names.specs.Limits.{max_words}
use Rattle.irc_names.specs.Fold.{key}
use Rattle.irc_names.specs.Names.{IsServer, is_server}
use Rattle.irc_names.specs.Tables.{row}
use Rattle.irc_users.specs.declared.user.User.{User}
use Rattle.irc_channels.specs.declared.channel.Channel.{Channel}
use Rattle.irc_channels.specs.declared.flags.Flags.{Flags}
use Rattle.irc_room.specs.effect.Effect.{Effect}
use Rattle.irc_modes.specs.declared.modes.ModeChange.{ModeChange}
use Rattle.irc_room.specs.Seen.{stored_nick}
use Rattle.irc_room.specs.OtherInvitations.{AreAlike}
use Rattle.irc_room.specs.Room.{Room}
use Rattle.irc_room.specs.After.{titled_by}
use Rattle.irc_room.specs.Lemmas.AlikeLaw.{alike_have_alike, alike_stay_alike, alike_take_alike}
use Rattle.irc_room.specs.Lemmas.RespelledRooms.{alike_are_respelled_alike}
use Rattle.irc_merge.specs.Bursts.{home_passes}
use Rattle.irc_merge.specs.AsideInvitations.{AreReadAlike}
use Rattle.irc_merge.specs.BurstRead.{brought, new_members, some_far}
use Rattle.irc_merge.specs.Deeds.{Deed, brings, loses, sets, tops, titled, effects_of}
use Rattle.irc_merge.specs.Quits.{quits_of, users_at}
use Rattle.irc_merge.specs.Lemmas.DeedsAlike.{alike_read_alike}
use Rattle.irc_merge.specs.Lemmas.SpelledMembers.{new_titled}
use Rattle.irc_relay.specs.Links.{Name}
use Rattle.irc_relay.specs.Relay.{TakesFrom}
use Rattle.irc_routes.specs.declared.server_row.ServerRow.{ServerRow}
use Rattle.irc_routes.specs.Known.{is_itself, is_known, row_of}
use Rattle.irc_burst.specs.DeedsMeant.{a_deed, as_stored, deeds_meant}
use Rattle.irc_burst_lines.specs.DeedLines.{mode_parts, njoin_parts, squit_parts, topic_parts}
use Rattle.irc_burst_lines.specs.Lemmas.WholeLines.{squit_fits}
use Rattle.irc_link_reader.specs.Reader.{Reader, is_behind_link, may_come}
use Rattle.irc_link_words.specs.Words.{are_words}
use Rattle.irc_stage.specs.EffectTold.{Served, all_changed, in_silence}
use Rattle.irc_stage.specs.Linked.{told_on_all}
use Rattle.irc_stage.specs.View.{View}
use Rattle.irc_server.specs.DeedTold.{deed_told, forgotten, told_by}
use Rattle.irc_readback.specs.Lemmas.LinesReadBack.{carried_no_nul, command_plain, from_plain}
use Rattle.irc_follow.specs.SideState.{ItemSetting, number, IsItemSetting, IsSoundSide}
use Rattle.irc_follow.specs.SideState as of_side
use Rattle.irc_follow.specs.Fits.{Fits}
use Rattle.irc_follow.specs.Laws.{GoesOn, SaidLossGoesOn, SaidMembersGoOn, SaidModesGoOn}
use Rattle.irc_follow.specs.Laws.{SaidTopicGoesOn}
use Rattle.irc_follow.specs.Says.{neighbour_served, lines_on, machine, Says, AreToldMembers}
use Rattle.irc_follow.specs.Says.{HasOneOfFar, IsDoableByServer, IsDoableLoss, IsFar, IsFarChannel}
use Rattle.irc_follow.specs.Says.{IsOfFar, IsOneOfFar, IsToldMember}
use Rattle.irc_follow.specs.Lemmas.DeedEffects.{at_room}
use Rattle.irc_follow.specs.Lemmas.CarriedLines.{members_carried, modes_carried, squit_carried}
use Rattle.irc_follow.specs.Lemmas.CarriedLines.{topic_carried}
use Rattle.irc_follow.specs.Lemmas.LinesOnLinks.{ends_by_all, none_by_all}
use Rattle.irc_follow.specs.Lemmas.MemberLines.{AreNicks, all_new}
use Rattle.irc_follow.proofs.SaidKillOn.{stored_named}
use Rattle.irc_follow.specs.Lemmas.Neighbours.{IsKnownOfLines}
use Rattle.irc_follow.specs.Lemmas.Neighbours as beside
use Rattle.irc_follow.specs.Lemmas.SaidDeed.{deed_served}
use Rattle.irc_follow.specs.Lemmas.SaidEffect.{far_is_another, rooms_alike}
use Rattle.irc_follow.specs.Lemmas.ServerLines.{all_so, brought_some, members_plain, members_read}
use Rattle.irc_follow.specs.Lemmas.ServerLines.{members_whole, modes_plain, modes_read, modes_whole}
use Rattle.irc_follow.specs.Lemmas.ServerLines.{topic_plain, topic_read, topic_whole}

module _ (known : IsKnownOfLines) (s : ItemSetting) (p t u : Name) (w : of_side.SideState)
    (view other : View)
    (line : List ℕ) (client : ℕ)
    (fixed : IsItemSetting s) (takes : TakesFrom s.streams t p) (next : TakesFrom s.streams u t)
    (apart : u ≢ p) (writer : Fits s t w view)
    (reader : Fits s u w other) (server : Name) (server_known : w.tree.knows server ≡ true)
    (server_far : IsFar s w server) where
  sound : IsSoundSide s w
  sound = writer.sound

  abbrev far_reader : Reader
  far_reader = beside.far_reader s p t u w view other takes next apart writer reader

  rule : (x : Name) → w.tree.knows x ≡ true → IsServer x
  rule x is = fixed.servers.named x (sound.tree.known_among x is)

  far_behind : (x : Name) → w.tree.knows x ≡ true → IsFar s w x
      → is_behind_link other.routes (number s t) x ≡ true
  far_behind = beside.far_behind s p t u w view other takes next apart writer reader

  server_named : IsServer server
  server_named = rule server server_known

  server_behind : is_behind_link other.routes (number s t) server ≡ true
  server_behind = far_behind server server_known server_far

  comes : may_come far_reader server ≡ true
  comes = beside.server_may_come s p t u w view other takes next apart writer reader server
      server_named server_behind

  rooms : AreAlike other.room w.hall.room
  rooms = rooms_alike s t u w other next reader

  -- what goes to the neighbour of a deed whose effects are done one by one, in the room as the deed
  -- has spelled it
  lines_of : (deed : Deed) (room : Room) (effects : List Effect) (parts : Written)
      (after : Served → Served) → ((before : Served) → (after before).out ≡ before.out)
      → ((before : Served) → (after before).state.ends ≡ before.state.ends)
      → told_by (number s p) (a_deed deed) (in_silence view)
      ≡ told_on_all (Some (number s p)) parts (after (all_changed effects (at_room view room [])))
      → told_by (number s p) (a_deed deed) (in_silence view) ≡ neighbour_served s p view line
      → lines_on (number s u) (neighbour_served s p view line).out ≡ line_text parts ∷ []
  lines_of deed room effects parts after same_out same_ends is asked_is =
      let before = all_changed effects (at_room view room []) in
      ap (λ (so : Served). lines_on (number s u) so.out) (sym asked_is ∙ is)
      ∙ beside.told_all s p t u w view other takes next apart writer reader false parts
      (after before)
      (ap (λ ends. get ends (number s u)) (same_ends before
      ∙ ends_by_all effects (at_room view room [])))
      ∙ ap (λ out. lines_on (number s u) out ++ (line_text parts ∷ [])) (same_out before)
      ∙ ap (λ l. l ++ (line_text parts ∷ []))
      (none_by_all (number s u) effects (at_room view room []))

  -- ---- a server is lost

  module _ (name text : List ℕ) (says : Says s p t w view (loses server name text) line) where
    doable : IsDoableLoss s w server name text
    doable = says.doable

    abbrev parts : Written
    parts = squit_parts server name text

    name_named : IsServer name
    name_named = rule name doable.can.known

    plain : IsPlain parts
    plain = from_plain server (codes "SQUIT") (name ∷ []) (Some text)
        (known.names.server server server_named).plain
        (command_plain _ _ refl refl refl) ((known.names.server name name_named).plain, tt)
        (carried_no_nul text doable.by_server.told.carried) (lit≤ tt)

    known_there : is_known other.routes name ≡ true
    known_there = or_right (is_itself other.routes name) (is_some (row_of other.routes name))
        (sym (is_some-map (λ (r : ServerRow). r.link) (row_of other.routes name))
        ∙ ap is_some (beside.there_row s p t u w view other takes next apart writer reader name
        doable.can.known
        (far_is_another s t u w other next reader name doable.far)))

    meant : deeds_meant other.room other.routes (number s t) (message_of parts)
        ≡ Ok (a_deed (loses server name text) ∷ [])
    unfolding deeds_meant
    meant = all_so (are_words text) (may_come far_reader server
        && (not (is_known other.routes name) || is_behind_link other.routes (number s t) name))
        (is_server server && (is_server name && is_known other.routes name)) (loses server name text
        ∷ []) (le-leb (length text) max_words doable.by_server.told.fits)
        (and_from (may_come far_reader server) (not (is_known other.routes name)
        || is_behind_link other.routes (number s t) name) comes
        (or_right (not (is_known other.routes name)) (is_behind_link other.routes (number s t) name)
        (far_behind name doable.can.known doable.far)))
        (and_from (is_server server) (is_server name && is_known other.routes name) server_named
        (and_from (is_server name) (is_known other.routes name) name_named known_there))

    loss_lines : lines_on (number s u) (neighbour_served s p view line).out ≡ line_text parts ∷ []
    unfolding told_by deed_told
    loss_lines = lines_of (loses server name text) view.room (quits_of text
        (users_at name view.room)) parts (forgotten name) (λ _. refl) (λ _. refl) refl
        (sym (deed_served s p t w view takes writer
        (loses server name text) line says.end says.is_end says.means))

    pub loss_goes : GoesOn s t u w other (loses server name text)
        ((machine s client).sends t p view line u)
    loss_goes = beside.goes_on s p t u w view other takes next apart writer reader known parts plain
        (squit_fits server name text server_named name_named
        (le-leb (length text) max_words doable.by_server.told.fits))
        (squit_carried known.names server server_named name text name_named doable.by_server.told)
        (loses server name text) (a_deed (loses server name text) ∷ []) line client
        refl meant doable loss_lines

  -- ---- a channel with a member that is far

  abbrev far : Name → Bool
  far = is_behind_link other.routes (number s t)

  far_members : (folds : List (List ℕ)) → IsOneOfFar s w folds
      → list_any (home_passes far w.hall.room.users) folds ≡ true
  far_members [] none = absurd none
  far_members (fold ∷ folds) (inr later) =
      or_right (home_passes far w.hall.room.users fold)
      (list_any (home_passes far w.hall.room.users) folds) (far_members folds later)
  far_members (fold ∷ folds) (inl now) =
      ap (λ b. b || list_any (home_passes far w.hall.room.users) folds)
      (by (row w.hall.room.users fold) refl now)
    where
      by : (o : Option User) → row w.hall.room.users fold ≡ o
          → IsOfFar s w (option_map (λ (user : User). user.home) o) → option_map_or
          (λ (user : User). is_behind_link other.routes (number s t) user.home) o false ≡ true
      by None at none = absurd none
      by (Some user) at some = far_behind user.home (sound.at_known fold user at) some

  far_channel : (channel : List ℕ) → IsFarChannel s w channel
      → some_far far w.hall.room channel ≡ true
  far_channel channel is = by (row w.hall.room.channels (key channel)) is.some
    where
      by : (o : Option Channel) → HasOneOfFar s w o → option_map_or (λ (c : Channel).
          list_any (home_passes (is_behind_link other.routes (number s t)) w.hall.room.users)
          (keys c.members)) o false ≡ true
      by None none = absurd none
      by (Some c) one = far_members (keys c.members) one

  -- a line is read there as in the whole room
  read_alike : AreReadAlike server far other.room w.hall.room
  read_alike = alike_read_alike alike_stay_alike alike_take_alike alike_have_alike server far
      other.room w.hall.room rooms

  -- ---- a topic

  module _ (channel topic : List ℕ)
      (says : Says s p t w view (tops server channel topic) line) where
    by_server : IsDoableByServer s w server (tops server channel topic)
    by_server = says.doable

    abbrev topic_written : Written
    topic_written = topic_parts server channel topic

    topic_meant : deeds_meant other.room other.routes (number s t) (message_of topic_written)
        ≡ Ok (a_deed (tops server channel topic) ∷ [])
    topic_meant =
        topic_read known.names other.room other.routes (number s t) server server_named
        server_behind server channel topic by_server.told.far.named
        by_server.told.carried
        ∙ ap (λ (deeds : List Deed). Ok (map a_deed deeds))
        (read_alike.one (tops server channel topic) ∙ ap (λ b. if b then tops server channel topic
        ∷ [] else []) (far_channel channel by_server.told.far))

    topic_lines : lines_on (number s u) (neighbour_served s p view line).out
        ≡ line_text topic_written ∷ []
    unfolding told_by deed_told
    topic_lines = lines_of (tops server channel topic) view.room
        (effects_of view.room (tops server channel topic)) topic_written
        (λ before. before) (λ _. refl) (λ _. refl) refl
        (sym (deed_served s p t w view takes writer
        (tops server channel topic) line says.end says.is_end says.means))

    pub topic_goes : GoesOn s t u w other (tops server channel topic)
        ((machine s client).sends t p view line u)
    topic_goes =
        beside.goes_on s p t u w view other takes next apart writer reader known topic_written
        (topic_plain known.names server server_named channel topic by_server.told.far.named
        by_server.told.carried)
        (topic_whole known.names server server_named channel topic by_server.told.far.named
        by_server.told.carried)
        (topic_carried known.names server server_named channel topic by_server.told.far.named
        by_server.told.carried)
        (tops server channel topic) (a_deed (tops server channel topic)
        ∷ []) line client refl topic_meant by_server topic_lines

  -- ---- modes

  module _ (channel : List ℕ) (changes : List ModeChange)
      (says : Says s p t w view (sets server channel changes) line) where
    by_setter : IsDoableByServer s w server (sets server channel changes)
    by_setter = says.doable

    abbrev modes_written : Written
    modes_written = mode_parts server channel changes

    modes_meant : deeds_meant other.room other.routes (number s t) (message_of modes_written)
        ≡ Ok (a_deed (sets server channel changes) ∷ [])
    modes_meant =
        modes_read known.names other.room other.routes (number s t) server server_named
        server_behind server channel changes by_setter.told.far.named
        by_setter.told.readable
        ∙ ap (λ (deeds : List Deed). Ok (map a_deed deeds))
        (read_alike.one (sets server channel changes) ∙ ap (λ b. if b then sets server channel
        changes ∷ [] else []) (far_channel channel by_setter.told.far))

    modes_lines : lines_on (number s u) (neighbour_served s p view line).out
        ≡ line_text modes_written ∷ []
    unfolding told_by deed_told
    modes_lines = lines_of (sets server channel changes) view.room
        (effects_of view.room (sets server channel changes)) modes_written
        (λ before. before) (λ _. refl) (λ _. refl) refl
        (sym (deed_served s p t w view takes writer
        (sets server channel changes) line says.end says.is_end says.means))

    pub modes_go : GoesOn s t u w other (sets server channel changes)
        ((machine s client).sends t p view line u)
    modes_go =
        beside.goes_on s p t u w view other takes next apart writer reader known modes_written
        (modes_plain known.names server server_named channel changes w.hall.room
        by_setter.told.far.named by_setter.told.readable by_setter.told.sent)
        (modes_whole known.names server server_named channel changes by_setter.told.far.named
        by_setter.told.readable)
        (modes_carried known.names server server_named w.hall.room sound.within channel changes
        by_setter.told.far.named by_setter.told.sent)
        (sets server channel changes) (a_deed (sets server channel changes)
        ∷ []) line client refl modes_meant by_setter modes_lines

  -- ---- members

  module _ (channel : List ℕ) (members : List (List ℕ × Flags))
      (says : Says s p t w view (brings server channel members) line) where
    by_bringer : IsDoableByServer s w server (brings server channel members)
    by_bringer = says.doable

    told_members : AreToldMembers s w channel members
    told_members = by_bringer.told

    abbrev members_written : Written
    members_written = njoin_parts server channel members

    nicks_named : (more : List (List ℕ × Flags)) → AllByRecursion (IsToldMember s w) more
        → AreNicks more
    nicks_named [] all = tt
    nicks_named (member ∷ more) all = (
      stored_named member.0 w.hall.room (λ user at. (sound.within.users
          (key member.0) user at).nick) all.0.stored,
      nicks_named more all.1,
    )

    nicks : AreNicks members
    nicks = nicks_named members told_members.each

    homes_far : (more : List (List ℕ × Flags))
        → AllByRecursion (IsToldMember s w) more → AllByRecursion
        (λ (member : List ℕ × Flags). home_passes far other.room.users (key member.0) ≡ true) more
    homes_far [] all = tt
    homes_far (member ∷ more) all = (
      ap (λ users. home_passes far users (key member.0)) rooms.users
          ∙ by (row w.hall.room.users (key member.0)) refl all.0.far,
      homes_far more all.1,
    )
      where
        by : (o : Option User) → row w.hall.room.users (key member.0) ≡ o
            → IsOfFar s w (option_map (λ (user : User). user.home) o) → option_map_or
            (λ (user : User). is_behind_link other.routes (number s t) user.home) o false ≡ true
        by None at none = absurd none
        by (Some user) at some = far_behind user.home (sound.at_known (key member.0) user at) some

    spelled : (more : List (List ℕ × Flags)) → AllByRecursion (IsToldMember s w) more
        → map (as_stored other.room) more ≡ more
    spelled [] all = refl
    spelled (member ∷ more) all = λ i. (stored_so i, member.1) ∷ spelled more all.1 i
      where
        stored_so : stored_nick other.room member.0 ≡ member.0
        stored_so =
            ap (λ users. option_map_or (λ (user : User). user.nick)
            (row users (key member.0)) member.0) rooms.users
            ∙ by (row w.hall.room.users (key member.0)) all.0.stored
          where
            by : (o : Option User) → option_map (λ (user : User). user.nick) o ≡ Some member.0
                → option_map_or (λ (user : User). user.nick) o member.0 ≡ member.0
            by None is = refl
            by (Some user) is = same_Some user.nick member.0 is

    -- all of them are new there, whichever spelling it has of the channel
    new_there : AllByRecursion (λ (member : List ℕ × Flags). home_passes far other.room.users
        (key member.0) ≡ true) members → new_members far other.room channel members ≡ members
    new_there homes =
        sym (new_titled far channel members other.room)
        ∙ all_new far other.room.users channel members (titled_by channel other.room)
        (titled_by channel w.hall.room)
        (alike_are_respelled_alike channel other.room w.hall.room rooms) refl by_bringer.each homes

    members_meant : deeds_meant other.room other.routes (number s t) (message_of members_written)
        ≡ Ok (a_deed (brings server channel members) ∷ [])
    members_meant =
        members_read known.names other.room other.routes (number s t) server server_named
        server_behind channel members told_members.named told_members.some
        nicks told_members.few
        ∙ ap (λ (deeds : List Deed). Ok (map a_deed deeds))
        (ap (λ more. brought server channel (map (as_stored other.room) more))
        (new_there (homes_far members told_members.each))
        ∙ ap (brought server channel) (spelled members told_members.each)
        ∙ brought_some server channel members told_members.some)

    members_lines : lines_on (number s u) (neighbour_served s p view line).out
        ≡ line_text members_written ∷ []
    unfolding told_by deed_told
    members_lines =
        lines_of (brings server channel members) (titled view.room (brings server channel members))
        (effects_of view.room (brings server channel members)) members_written (λ before. before)
        (λ _. refl) (λ _. refl) refl
        (sym (deed_served s p t w view takes writer
        (brings server channel members) line says.end says.is_end says.means))

    pub members_go : GoesOn s t u w other (brings server channel members)
        ((machine s client).sends t p view line u)
    members_go =
        beside.goes_on s p t u w view other takes next apart writer reader known members_written
        (members_plain known.names server server_named channel members told_members.named nicks)
        (members_whole known.names server server_named channel members told_members.named nicks
        told_members.few)
        (members_carried known.names server server_named channel members told_members.named nicks)
        (brings server channel members) (a_deed (brings server channel members)
        ∷ []) line client refl members_meant by_bringer members_lines

pub said_loss_goes_on : IsKnownOfLines → SaidLossGoesOn
said_loss_goes_on known server name text s p t u w view other line client fixed takes next apart
    writer reader says =
    loss_goes known s p t u w view other line client fixed takes next apart writer reader server
    says.doable.by_server.known says.doable.by_server.far name text says

pub said_topic_goes_on : IsKnownOfLines → SaidTopicGoesOn
said_topic_goes_on known server channel topic s p t u w view other line client fixed takes next
    apart writer reader says =
    topic_goes known s p t u w view other line client fixed takes next apart writer reader server
    says.doable.known says.doable.far channel topic says

pub said_modes_go_on : IsKnownOfLines → SaidModesGoOn
said_modes_go_on known server channel changes s p t u w view other line client fixed takes next
    apart writer reader says =
    modes_go known s p t u w view other line client fixed takes next apart writer reader server
    says.doable.known says.doable.far channel changes says

pub said_members_go_on : IsKnownOfLines → SaidMembersGoOn
said_members_go_on known server channel members s p t u w view other line client fixed takes next
    apart writer reader says =
    members_go known s p t u w view other line client fixed takes next apart writer reader server
    says.doable.known says.doable.far channel members says
