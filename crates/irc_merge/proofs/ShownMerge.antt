-- What a user of this side is shown by a burst that is read is what the merge shows.
use Rattle.std.proofs.Common.{◌≡◌, ℕ, Bool, true, false, cond, not, ◌&&◌, Option, Some, None, List}
use Rattle.std.proofs.Common.{[], ◌∷◌, ◌++◌, refl, sym, ◌∙◌, ap, map, filter, filter_map, is_some}
use Rattle.std.proofs.Common.{option_map}
use Rattle.std.proofs.lemmas.Bool.{and_parts, not-true}
use Rattle.std.specs.List.{list_any, flat_map, cons_option, AllByRecursion}
use Rattle.std.specs.Option.{option_map_or}
use Rattle.std.specs.FinMap.{entries, entries_sorted, values, keys, retain_keys, find, is_sorted}
use Rattle.std.specs.FinMap.{get-entries}
use Rattle.std.proofs.Math.Bool.{false≢true}
use Rattle.irc_names.specs.Lemmas.PlainFacts.{is_true}
use Rattle.irc_names.specs.Fold.{key}
use Rattle.irc_names.specs.Greater.{bytes_cmp, greater}
use Rattle.irc_names.specs.Tables.{Table, fold_cmp, row, alter, each, both}
use Rattle.irc_names.specs.TableLaws.{same_table, row-each, row-keys, row-alter_same}
use Rattle.irc_users.specs.declared.user.User.{User}
use Rattle.irc_channels.specs.declared.flags.Flags.{Flags}
use Rattle.irc_channels.specs.declared.channel.Channel.{Channel}
use Rattle.irc_channels.specs.Channels.{has_member, new_channel, respelled}
use Rattle.irc_modes.specs.Modes.{is_nil}
use Rattle.irc_modes.specs.ModesSet.{AreWithinLimits}
use Rattle.irc_room.specs.Room.{Room, IsWellFormed, IsSoundRow}
use Rattle.irc_room.specs.After.{alter_channel, titled_by}
use Rattle.irc_merge.specs.Quits.{quits_of, collision_text}
use Rattle.irc_merge.specs.ShownAlong.{shown_along}
use Rattle.irc_merge.specs.Bursts.{burst, people_deeds, channel_deeds, home_passes, stored_members}
use Rattle.irc_merge.specs.Merge.{clash, room_without, either}
use Rattle.irc_merge.specs.MergeShown.{arrival, member_arrival, mode_lines, raised_lines}
use Rattle.irc_merge.specs.MergeShown.{raised_topic, channel_arrivals, arrivals, merge_shown}
use Rattle.irc_merge.specs.Laws.{AreApart, CanBeTold, ShownIsMergeShown}
use Rattle.irc_merge.specs.Lemmas.TableWords.{row-kept, first_there, entries_kept}
use Rattle.irc_merge.specs.Lemmas.TableWords.{entries_all, values_each}
use Rattle.irc_merge.specs.Lemmas.Quitting.{thinned}
use Rattle.irc_merge.specs.Lemmas.Clashing.{clashing, users_without, channels_without, without_well}
use Rattle.irc_merge.specs.Lemmas.Joining.{row-either, either_first, union_well}
use Rattle.irc_merge.specs.Lemmas.ShownReading.{shown_reads, shown_reads-append}
use Rattle.irc_merge.specs.Lemmas.Introducing.{told_user, both_users}
use Rattle.irc_merge.proofs.UsersRead.{users_introduced, channels_introduced}
use Rattle.irc_merge.proofs.UsersShown.{kills_shown}
use Rattle.irc_merge.specs.Lemmas.ChannelRows.{members_row, deeds_row}
use Rattle.irc_merge.proofs.ChannelTold.{IsNear, IsNearRow, IsTellable, StandsThere, come}
use Rattle.irc_merge.proofs.ChannelTold.{some_come, none_come, kept_far, near_alone, either_none}
use Rattle.irc_merge.proofs.ChannelTold.{with_empty, no_rows, lines_plain, entries_pass}
use Rattle.irc_merge.proofs.ReadMerge.{gone, passes_is, left_passes, left_kept, none_near}
use Rattle.irc_merge.proofs.ReadMerge.{near_channel, near_row, told_deeds, step_row, step_here}
use Rattle.irc_merge.specs.Lemmas.ChannelRows.{row_has}
use Rattle.irc_merge.proofs.ShownMembers.{shown_joins, joins_seen, joins_unseen, arrived}
use Rattle.irc_merge.proofs.ShownMembers.{AreOutside, AreHeld, deeds_shown}
use Rattle.irc_merge.proofs.ShownModes.{tail, tail_near, tail_unseen, tail_seen}

over_some : {X Y Z : Type 0} (f : Y → List Z) (h : X → Option Y) (xs : List X)
    → flat_map f (filter_map h xs) ≡ flat_map (λ x. option_map_or f (h x) []) xs
over_some f h [] = refl
over_some {X} {Y} {Z} f h (x ∷ xs) = by_row (h x) (over_some f h xs)
  where
    by_row : (o : Option Y) → flat_map f (filter_map h xs)
        ≡ flat_map (λ x. option_map_or f (h x) []) xs → flat_map f (cons_option o (filter_map h xs))
        ≡ option_map_or f o [] ++ flat_map (λ x. option_map_or f (h x) []) xs
    by_row None rest = rest
    by_row (Some y) rest = ap (λ zs. f y ++ zs) rest

over_none : {X Z : Type 0} (f : X → List Z) (xs : List X) → ((x : X) → f x ≡ [])
    → flat_map f xs ≡ []
over_none f [] none = refl
over_none f (x ∷ xs) none = λ i. none x i ++ over_none f xs none i

no_entries : {X : Type 0} (es : List (List ℕ × X)) → is_nil (map (λ e. e.0) es) ≡ true → es ≡ []
no_entries [] none = refl
no_entries (e ∷ es) none = cc

module _ (far : List ℕ → Bool) (room other : Room) (well : IsWellFormed room)
    (well_other : IsWellFormed other) (apart : AreApart far room other)
    (ours : CanBeTold room) (viewer : List ℕ) (mine : User)
    (at : row room.users (key viewer) ≡ Some mine) where
  abbrev here : Room
  here = room_without room other

  abbrev there : Room
  there = room_without other room

  abbrev all : Table User
  all = both either here.users there.users

  abbrev pass : List ℕ → Bool
  pass = home_passes far all

  abbrev away : List ℕ → Bool
  away = gone far room other well well_other apart

  pass_is : (q : List ℕ) → pass q ≡ option_map_or (λ (user : User). far user.home)
      (told_user (row room.users q) (row other.users q)) false
  pass_is = passes_is far room other well well_other apart

  all_is : (q : List ℕ) → row all q ≡ told_user (row room.users q) (row other.users q)
  all_is = both_users room other well well_other

  -- the viewer is of this side
  mine_near : pass (key viewer) ≡ false
  mine_near =
      pass_is (key viewer)
      ∙ ap (λ o. option_map_or (λ (user : User). far user.home)
      (told_user o (row other.users (key viewer))) false) at
      ∙ by_row (row other.users (key viewer))
    where
      by_row : (o : Option User)
          → option_map_or (λ (user : User). far user.home) (told_user (Some mine) o) false ≡ false
      by_row None = apart.near (key viewer) mine at
      by_row (Some user) = refl

  all_named : (user : User) → row all (key viewer) ≡ Some user → key user.nick ≡ key viewer
  all_named user is = (union_well here there (without_well room other well)
      (without_well other room well_other)).users_named (key viewer) user is

  -- where it is left, nobody of the other side had its nickname
  mine_left : is_some (row here.users (key viewer)) ≡ true
      → (row here.users (key viewer) ≡ Some mine) × (row all (key viewer) ≡ Some mine)
  mine_left left =
      by_row (row other.users (key viewer)) refl
      (sym (ap is_some (users_without room other well (key viewer) ∙ ap (λ o.
      cond (is_some o && is_some (row other.users (key viewer))) None o) at)) ∙ left)
    where
      by_row : (o : Option User) → row other.users (key viewer) ≡ o
          → is_some (cond (is_some o) None (Some mine)) ≡ true
          → (row here.users (key viewer) ≡ Some mine) × (row all (key viewer) ≡ Some mine)
      by_row None none left = (
        users_without room other well (key viewer)
            ∙ (λ i. cond (is_some (at i) && is_some (none i)) None (at i)),
        all_is (key viewer) ∙ (λ i. told_user (at i) (none i)),
      )
      by_row (Some user) some left = absurd (false≢true left)

  held : AreHeld pass other.users all
  held q holder is passing = all_is q ∙ ap (told_user (row room.users q)) is
      ∙ by_row (row room.users q) (sym (pass_is q ∙ ap (λ o. option_map_or
      (λ (user : User). far user.home) (told_user (row room.users q) o) false) is) ∙ passing)
    where
      by_row : (o : Option User) → option_map_or (λ (user : User). far user.home)
          (told_user o (Some holder)) false ≡ true → told_user o (Some holder) ≡ Some holder
      by_row None passing = refl
      by_row (Some user) passing = absurd (false≢true passing)

  -- ---- the members of a channel of the other side

  abbrev per : User → Channel → List (List ℕ)
  per user channel =
      option_map_or (λ (theirs : Channel). option_map_or (channel_arrivals there user theirs)
      (row here.channels (key theirs.name)) []) (thinned away channel) []

  abbrev lines_of : Channel → List (List ℕ)
  lines_of channel =
      option_map_or (λ (user : User). per user channel) (row here.users (key viewer)) []

  there_stays : (q : List ℕ) → not (away q) ≡ true → row there.users q ≡ row other.users q
  there_stays q stays = users_without other room well_other q ∙ ap (λ b. cond b None
      (row other.users q)) (sym (clashing other room well_other q) ∙ not-true (away q) stays)

  over_kept : (title : List ℕ) (es : List (List ℕ × Flags))
      → AllByRecursion (λ e. is_some (row other.users e.0) ≡ true) es
      → flat_map (member_arrival there.users mine title) (filter (λ e. not (away e.0)) es)
      ≡ flat_map (arrived pass other.users mine title) es
  over_kept title [] known = refl
  over_kept title (e ∷ es) known =
      by_test (not (away e.0)) refl (over_kept title es known.1)
      ∙ ap (λ b. cond b (option_map_or (arrival mine title e.1) (row other.users e.0) []) []
      ++ flat_map (arrived pass other.users mine title) es)
      (sym (left_passes far room other well well_other apart e.0 known.0))
    where
      by_test : (b : Bool) → not (away e.0) ≡ b → flat_map (member_arrival there.users mine title)
          (filter (λ e. not (away e.0)) es) ≡ flat_map (arrived pass other.users mine title) es
          → flat_map (member_arrival there.users mine title)
          (cond b (e ∷ filter (λ e. not (away e.0)) es) (filter (λ e. not (away e.0)) es))
          ≡ cond b (option_map_or (arrival mine title e.1) (row other.users e.0) []) []
          ++ flat_map (arrived pass other.users mine title) es
      by_test true stays rest =
          λ i. option_map_or (arrival mine title e.1) (there_stays e.0 stays i) [] ++ rest i
      by_test false goes rest = rest

  known_entries : (fold : List ℕ) (channel : Channel) → IsSoundRow other.users fold channel
      → AllByRecursion (λ e. is_some (row other.users e.0) ≡ true) (entries channel.members)
  known_entries fold channel sound =
      entries_pass (λ q. is_some (row other.users q) ≡ true) (entries channel.members)
      (λ q known. sound.members_known q (sym (row-keys channel.members q) ∙ known))

  standing : (fold : List ℕ) (channel : Channel) → IsSoundRow other.users fold channel
      → AllByRecursion (λ e. StandsThere other.users e.0) (entries channel.members)
  standing fold channel sound =
      entries_pass (StandsThere other.users) (entries channel.members) (λ q known.
      stands q (row other.users q) refl
      (sound.members_known q (sym (row-keys channel.members q) ∙ known)))
    where
      stands : (q : List ℕ) (o : Option User) → row other.users q ≡ o → is_some o ≡ true
          → StandsThere other.users q
      stands q None is some = absurd (false≢true some)
      stands q (Some user) is some =
          record { holder = user; at = is; named = well_other.users_named q user is }

  -- a room with the users of both sides and these channels
  abbrev with_all : Table Channel → Room
  with_all channels = record { users = all; channels = channels }

  -- the room when the members of a channel have come
  abbrev come_to : Channel → Table Channel → Room
  come_to channel channels =
      alter_channel channel.name (members_row pass other.users channel) (with_all channels)

  -- a channel of the other side, as it is told
  record IsTold (fold : List ℕ) (channel : Channel) : Type 0 where
    sound : IsSoundRow other.users fold channel
    modes : AreWithinLimits channel.modes

  tellable : (fold : List ℕ) (channel : Channel) → IsTold fold channel
      → IsTellable other.users channel
  tellable fold channel told = record {
    modes = told.modes;
    members = (told.sound).members_known;
    named = well_other.users_named;
  }

  abbrev kept : Channel → Table Flags
  kept channel = retain_keys channel.members pass

  kept_is : (fold : List ℕ) (channel : Channel) → IsTold fold channel
      → kept channel ≡ retain_keys channel.members (λ q. not (away q))
  kept_is fold channel told =
      left_kept far room other well well_other apart channel (told.sound).members_known

  -- ---- for one who is a member

  module _ (server own fold : List ℕ) (channel ours_here : Channel) (channels : Table Channel)
      (told : IsTold fold channel)
      (is_row : row channels (key channel.name) ≡ Some ours_here)
      (is_here : row here.channels (key channel.name) ≡ Some ours_here)
      (member : has_member (key viewer) ours_here ≡ true) where
    abbrev title : List ℕ
    title = greater bytes_cmp ours_here.name channel.name

    known : (q : List ℕ) → is_some (row ours_here.members q) ≡ true
        → is_some (row here.users q) ≡ true
    known q some = ((without_well room other well).channels_sound
        (key channel.name) ours_here is_here).members_known q some

    left : (row here.users (key viewer) ≡ Some mine) × (row all (key viewer) ≡ Some mine)
    left = mine_left (known (key viewer) member)

    near : IsNear pass ours_here
    near =
        near_channel far room other well well_other apart ours (key channel.name) ours_here is_here

    titled_row : row (titled_by channel.name (with_all channels)).channels (key channel.name)
        ≡ Some (respelled channel.name ours_here)
    titled_row =
        row-alter_same (key channel.name) (option_map (respelled channel.name)) channels
        ∙ ap (option_map (respelled channel.name)) is_row

    outside : AreOutside pass channel.name (entries channel.members)
        (titled_by channel.name (with_all channels))
    outside q some passing = ap (row_has q) titled_row ∙ by_member (has_member q ours_here) refl
      where
        by_member : (b : Bool) → has_member q ours_here ≡ b → b ≡ false
        by_member true is =
            absurd (false≢true
            (sym (ap is_some (none_near far room other well well_other apart q passing))
            ∙ known q is))
        by_member false is = refl

    -- it sees all who come
    members_seen : shown_joins viewer far channel.name (titled_by channel.name (with_all channels))
        (stored_members other.users channel)
        ≡ flat_map (member_arrival there.users mine title)
        (entries (retain_keys channel.members (λ q. not (away q))))
    members_seen =
        joins_seen viewer channel.name far other.users mine title (entries channel.members)
        (is_true _ (entries_sorted channel.members))
        (standing fold channel told.sound) (titled_by channel.name (with_all channels))
        (record {
          at = left.1;
          named = well.users_named (key viewer) mine at;
          channel = respelled channel.name ours_here;
          there = titled_row;
          titled = refl;
          member = member;
        })
        outside held
        ∙ sym (ap (flat_map (member_arrival there.users mine title))
        (entries_kept channel.members (λ q. not (away q)))
        ∙ over_kept title (entries channel.members) (known_entries fold channel told.sound))

    come_row : row (come_to channel channels).channels (key channel.name)
        ≡ Some (come pass channel ours_here)
    come_row =
        row-alter_same (key channel.name) (members_row pass other.users channel) channels
        ∙ ap (members_row pass other.users channel) is_row
        ∙ some_come pass other.users channel ours_here (tellable fold channel told) near

    -- what its modes and its topic raise
    abbrev raised : List (List ℕ)
    raised = raised_lines mine title (mode_lines channel.modes) ours_here.modes
        ++ raised_topic mine title ours_here.topic channel.topic

    -- and that, where somebody has come
    modes_seen : (b : Bool) → is_nil (keys (kept channel)) ≡ b
        → shown_reads viewer own far (come_to channel channels)
        (tail server channel.name (mode_lines channel.modes) channel.topic) ≡ cond b [] raised
    modes_seen true none =
        tail_near viewer own server channel.name far (mode_lines channel.modes) channel.topic
        (come_to channel channels)
        (ap (λ o. option_map_or (λ (c : Channel). list_any pass (keys c.members)) o false) come_row
        ∙ ap (λ (t : Table Flags). list_any pass (keys t))
        (with_empty ours_here.members (kept channel) (no_rows (kept channel) none))
        ∙ near_alone pass ours_here near)
    modes_seen false some =
        tail_seen viewer own server channel.name far mine (mode_lines channel.modes) channel.topic
        (record ours_here { name = title; members = both either ours_here.members (kept channel) })
        (come_to channel channels) (lines_plain channel.modes)
        (record {
          at = left.1;
          named = well.users_named (key viewer) mine at;
          there = come_row
              ∙ ap (λ b. Some (record ours_here {
                name = cond b ours_here.name title;
                members = both either ours_here.members (kept channel);
              })) some;
          member = ap is_some (row-either ours_here.members (kept channel) (key viewer))
              ∙ either_first (row ours_here.members (key viewer))
              (row (kept channel) (key viewer)) member;
          some = kept_far pass channel.members ours_here.members some;
        })

    seen_lines : shown_reads viewer own far (with_all channels)
        (channel_deeds server other.users channel) ≡ lines_of channel
    seen_lines =
        deeds_shown viewer own server far other.users channel (with_all channels)
        ∙ by_test (is_nil (keys (retain_keys channel.members (λ q. not (away q))))) refl
        ∙ sym (ap (λ o. option_map_or (λ (user : User). per user channel) o []) left.0)
      where
        over : (b : Bool) → is_nil (keys (retain_keys channel.members (λ q. not (away q)))) ≡ b
            → flat_map (member_arrival there.users mine title)
            (entries (retain_keys channel.members (λ q. not (away q))))
            ++ cond b [] raised ≡ per mine channel
        over true none =
            ap (λ (es : List (List ℕ × Flags)). flat_map
            (member_arrival there.users mine title) es ++ [])
            (no_entries (entries (retain_keys channel.members (λ q. not (away q)))) none)
            ∙ sym (ap (λ b. option_map_or (λ (theirs : Channel). option_map_or
            (channel_arrivals there mine theirs) (row here.channels (key theirs.name)) [])
            (cond b None
            (Some (record channel {
              members = retain_keys channel.members (λ q. not (away q));
              invited = retain_keys channel.invited (λ q. not (away q));
            }))) []) none)
        over false some =
            let theirs : Channel =
            record channel {
              members = retain_keys channel.members (λ q. not (away q));
              invited = retain_keys channel.invited (λ q. not (away q));
            } in
            sym (ap (λ b. option_map_or (λ (theirs : Channel). option_map_or
            (channel_arrivals there mine theirs) (row here.channels (key theirs.name)) [])
            (cond b None (Some theirs)) []) some
            ∙ ap (λ o. option_map_or (channel_arrivals there mine theirs) o []) is_here
            ∙ ap (λ b. cond b (flat_map (member_arrival there.users mine title)
            (entries theirs.members) ++ raised) [])
            (ap (λ f. has_member f ours_here) (well.users_named (key viewer) mine at) ∙ member))

        by_test : (b : Bool) → is_nil (keys (retain_keys channel.members (λ q. not (away q)))) ≡ b
            → shown_joins viewer far channel.name (titled_by channel.name (with_all channels))
            (stored_members other.users channel)
            ++ shown_reads viewer own far (come_to channel channels)
            (tail server channel.name (mode_lines channel.modes) channel.topic)
            ≡ per mine channel
        by_test b is =
            (λ i. members_seen i ++ modes_seen b (ap (λ (t : Table Flags). is_nil (keys t))
            (kept_is fold channel told) ∙ is) i) ∙ over b is

  -- ---- one who is none sees nothing

  -- the viewer is not among those who come
  kept_out : (channel : Channel) → row (kept channel) (key viewer) ≡ None
  kept_out channel = row-kept channel.members pass (key viewer)
      ∙ ap (λ b. cond b (row channel.members (key viewer)) None) mine_near

  come_out : (fold : List ℕ) (channel : Channel) → IsTold fold channel
      → (x : Option Channel) → IsNearRow pass x → row_has (key viewer) x ≡ false
      → row_has (key viewer) (members_row pass other.users channel x) ≡ false
  come_out fold channel told None is_near none =
      ap (row_has (key viewer)) (none_come pass other.users channel (tellable fold channel told))
      ∙ by_test (is_nil (keys (kept channel)))
    where
      by_test : (b : Bool) → row_has (key viewer) (cond b None
          (Some (record (new_channel channel.name) { members = kept channel }))) ≡ false
      by_test true = refl
      by_test false = ap is_some (kept_out channel)
  come_out fold channel told (Some ours_here) is_near none =
      ap (row_has (key viewer))
      (some_come pass other.users channel ours_here (tellable fold channel told) is_near)
      ∙ ap is_some (row-either ours_here.members (kept channel) (key viewer)
      ∙ ap (either (row ours_here.members (key viewer))) (kept_out channel)
      ∙ either_none (row ours_here.members (key viewer)))
      ∙ none

  respelled_has : (q name : List ℕ) (x : Option Channel)
      → row_has q (option_map (respelled name) x) ≡ row_has q x
  respelled_has q name None = refl
  respelled_has q name (Some channel) = refl

  unseen_lines : (own server fold : List ℕ) (channel : Channel) (channels : Table Channel)
      → IsTold fold channel → row channels (key channel.name) ≡ row here.channels (key channel.name)
      → row_has (key viewer) (row here.channels (key channel.name)) ≡ false → shown_reads viewer own
      far (with_all channels) (channel_deeds server other.users channel) ≡ []
  unseen_lines own server fold channel channels told same none =
      deeds_shown viewer own server far other.users channel (with_all channels)
      ∙ (λ i. joins_unseen viewer channel.name far (stored_members other.users channel)
      (titled_by channel.name (with_all channels)) mine_near
      (record {
        named = all_named;
        outside =
            ap (row_has (key viewer))
            (row-alter_same (key channel.name) (option_map (respelled channel.name)) channels)
            ∙ respelled_has (key viewer) channel.name (row channels (key channel.name))
            ∙ ap (row_has (key viewer)) same
            ∙ none;
      }) i
      ++ tail_unseen viewer own server channel.name far (mode_lines channel.modes) channel.topic
      (come_to channel channels) (lines_plain channel.modes)
      (record {
        named = all_named;
        outside =
            ap (row_has (key viewer))
            (row-alter_same (key channel.name) (members_row pass other.users channel) channels
            ∙ ap (members_row pass other.users channel) same)
            ∙ come_out fold channel told (row here.channels (key channel.name))
            (near_row far room other well well_other apart ours (key channel.name)) none;
      }) i)

  not_there : (b : Bool) (lines : List (List ℕ)) → b ≡ false → cond b lines [] ≡ []
  not_there true lines e = cc
  not_there false lines e = refl

  no_lines : (channel : Channel)
      → row_has (key viewer) (row here.channels (key channel.name)) ≡ false → lines_of channel ≡ []
  no_lines channel none = by_user (row here.users (key viewer)) refl
    where
      by_channel : (user : User) → key user.nick ≡ key viewer
          → (theirs : Channel) (o : Option Channel) → row_has (key viewer) o ≡ false
          → option_map_or (channel_arrivals there user theirs) o [] ≡ []
      by_channel user named theirs None none = refl
      by_channel user named theirs (Some channel) none =
          not_there (has_member (key user.nick) channel) _
          (ap (λ f. has_member f channel) named ∙ none)

      by_left : (user : User) → key user.nick ≡ key viewer → (b : Bool)
          → option_map_or (λ (theirs : Channel). option_map_or (channel_arrivals there user theirs)
          (row here.channels (key theirs.name)) [])
          (cond b None
          (Some (record channel {
            members = retain_keys channel.members (λ q. not (away q));
            invited = retain_keys channel.invited (λ q. not (away q));
          }))) [] ≡ []
      by_left user named true = refl
      by_left user named false =
          by_channel user named (record channel {
            members = retain_keys channel.members
                (λ q. not (away q));
            invited = retain_keys channel.invited (λ q. not (away q));
          })
          (row here.channels (key channel.name)) none

      by_user : (o : Option User) → row here.users (key viewer) ≡ o
          → option_map_or (λ (user : User). per user channel) o [] ≡ []
      by_user None is = refl
      by_user (Some user) is =
          by_left user ((without_well room other well).users_named (key viewer) user is)
          (is_nil (keys (retain_keys channel.members (λ q. not (away q)))))

  channel_lines : (own server fold : List ℕ) (channel : Channel) (channels : Table Channel)
      → IsTold fold channel → row channels (key channel.name) ≡ row here.channels (key channel.name)
      → shown_reads viewer own far (with_all channels) (channel_deeds server other.users channel)
      ≡ lines_of channel
  channel_lines own server fold channel channels told same =
      by_row (row here.channels (key channel.name)) refl
    where
      unseen : row_has (key viewer) (row here.channels (key channel.name)) ≡ false
          → shown_reads viewer own far (with_all channels)
          (channel_deeds server other.users channel) ≡ lines_of channel
      unseen none =
          unseen_lines own server fold channel channels told same none ∙ sym (no_lines channel none)

      by_member : (ours_here : Channel) → row here.channels (key channel.name) ≡ Some ours_here
          → (b : Bool) → has_member (key viewer) ours_here ≡ b → shown_reads viewer own far
          (with_all channels) (channel_deeds server other.users channel) ≡ lines_of channel
      by_member ours_here is true member =
          seen_lines server own fold channel ours_here channels told (same ∙ is) is member
      by_member ours_here is false none = unseen (ap (row_has (key viewer)) is ∙ none)

      by_row : (o : Option Channel) → row here.channels (key channel.name) ≡ o → shown_reads viewer
          own far (with_all channels) (channel_deeds server other.users channel) ≡ lines_of channel
      by_row None is = unseen (ap (row_has (key viewer)) is)
      by_row (Some ours_here) is = by_member ours_here is (has_member (key viewer) ours_here) refl

  -- ---- all channels

  all_lines : (own server : List ℕ) (es : List (List ℕ × Channel)) → is_sorted fold_cmp es ≡ true
      → AllByRecursion (λ e. IsTold e.0 e.1) es → (channels : Table Channel)
      → ((q : List ℕ) → is_some (find fold_cmp q es) ≡ true → row channels q ≡ row here.channels q)
      → shown_reads viewer own far (with_all channels) (told_deeds far room other well well_other
      apart server es) ≡ flat_map lines_of (map (λ e. e.1) es)
  all_lines own server [] rise told channels same = refl
  all_lines own server (e ∷ es) rise told channels same =
      let parts = and_parts _ _ rise in
      let before = with_all channels in
      let rest = told_deeds far room other well well_other apart server es in
      shown_reads-append viewer own far before (channel_deeds server other.users e.1) rest
      ∙ (λ i. channel_lines own server e.0 e.1 channels told.0
      (ap (row channels) ((told.0).sound).named ∙ same e.0 (first_there e es)
      ∙ ap (row here.channels) (sym ((told.0).sound).named)) i
      ++ shown_reads viewer own far (deeds_row own server far other.users e.1 before i) rest)
      ∙ ap (λ lines. lines_of e.1 ++ lines)
      (all_lines own server es parts.1 told.1 (alter (key e.1.name)
      (step_row far room other well well_other apart before e.1) channels)
      (step_here far room other well well_other apart before e es parts.0
      ((told.0).sound).named same))

  left_values : values there.channels ≡ filter_map (thinned away) (values other.channels)
  left_values =
      ap values (same_table there.channels (each (thinned away) other.channels) (λ q.
      channels_without other room well_other q ∙ sym (row-each (thinned away) other.channels q)))
      ∙ values_each (thinned away) other.channels

  gathered : (o : Option User) → flat_map (λ (channel : Channel).
      option_map_or (λ (user : User). per user channel) o []) (values other.channels)
      ≡ option_map_or (arrivals here there) o []
  gathered None =
      over_none (λ (channel : Channel). option_map_or (λ (user : User). per user channel) None [])
      (values other.channels) (λ channel. refl)
  gathered (Some user) =
      sym (ap (flat_map (λ (theirs : Channel). option_map_or (channel_arrivals there user theirs)
      (row here.channels (key theirs.name)) [])) left_values
      ∙ over_some (λ (theirs : Channel). option_map_or (channel_arrivals there user theirs)
      (row here.channels (key theirs.name)) []) (thinned away) (values other.channels))

  pub burst_shown : (own server : List ℕ) → CanBeTold other
      → shown_reads viewer own far room (burst server other) ≡ merge_shown room other viewer
  unfolding burst merge_shown
  burst_shown own server theirs =
      let rise = is_true _ (entries_sorted other.channels) in
      let told = flat_map (channel_deeds server other.users) (values other.channels) in
      shown_reads-append viewer own far room (people_deeds other) told
      ∙ (λ i. kills_shown viewer own far room other well well_other (ap is_some at) i
      ++ shown_reads viewer own far (record {
        users = users_introduced own far room other well well_other i;
        channels = channels_introduced own far room other well well_other i;
      }) told)
      ∙ ap (λ lines. shown_along viewer room (quits_of collision_text (clash room other)) ++ lines)
      (all_lines own server (entries other.channels) rise
      (entries_all IsTold (entries other.channels)
      (λ q channel is.
      let there : row other.channels q ≡ Some channel = get-entries other.channels q ∙ is in
      record {
        sound = well_other.channels_sound q channel there;
        modes = theirs.modes q channel there;
      }) rise)
      here.channels (λ q some. refl)
      ∙ gathered (row here.users (key viewer)))

pub shown_is_merge_shown : ShownIsMergeShown
shown_is_merge_shown own server far room other well well_other ours theirs apart viewer mine at =
    burst_shown far room other well well_other apart ours viewer mine at own server theirs
