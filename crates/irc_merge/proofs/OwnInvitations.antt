-- Invitations play no part in what a burst tells, does and shows, but that each server keeps those
-- of its own users.
use Rattle.std.proofs.Common.{◌≡◌, ℕ, Bool, true, false, cond, not, ◌&&◌, ◌||◌, Option, Some, None}
use Rattle.std.proofs.Common.{List, [], ◌∷◌, ◌++◌, refl, sym, ◌∙◌, ap, subst, filter_map}
use Rattle.std.proofs.Common.{option_map, option_to_list, codes}
use Rattle.std.specs.List.{flat_map, list_any}
use Rattle.std.specs.Option.{option_and_then, option_map_or}
use Rattle.std.specs.Cmp.Lexicographic.{bytes_decides}
use Rattle.std.specs.FinMap.{empty, keys, values, retain_keys, get-empty}
use Rattle.std.proofs.Math.Bool.{false≢true}
use Rattle.std.proofs.lemmas.Option.{none-some, same_Some}
use Rattle.irc_names.specs.Fold.{key, same}
use Rattle.irc_names.specs.Tables.{Table, fold_cmp, row, alter, each}
use Rattle.irc_names.specs.TableLaws.{same_table, row-each}
use Rattle.irc_users.specs.declared.user.User.{User}
use Rattle.irc_users.specs.UserTable.{is_home}
use Rattle.irc_channels.specs.declared.channel.Channel.{Channel}
use Rattle.irc_modes.specs.Modes.{is_nil}
use Rattle.irc_modes.specs.ModesSet.{AreWithinLimits}
use Rattle.irc_channels.specs.Channels.{has_member, without_user}
use Rattle.irc_room.specs.effect.Effect.TheVariants.{Quit}
use Rattle.irc_room.specs.Room.{Room, IsWellFormed}
use Rattle.irc_room.specs.After.{after}
use Rattle.irc_room.specs.Lemmas.Rows.{alter_same}
use Rattle.irc_room.specs.Seen.{full_sender, line_from}
use Rattle.irc_room.specs.Viewers.{shows_to}
use Rattle.irc_merge.specs.ShownAlong.{shown_along}
use Rattle.irc_merge.specs.Deeds.{after_deeds, shown_by_all}
use Rattle.irc_merge.specs.BurstRead.{read_all}
use Rattle.irc_merge.specs.Quits.{quits_of, collision_text}
use Rattle.irc_merge.specs.Bursts.{burst}
use Rattle.irc_merge.specs.Merge.{clash, room_without, uninvited, channel_uninvited}
use Rattle.irc_merge.specs.MergeShown.{channel_arrivals, arrivals, merge_shown}
use Rattle.irc_merge.specs.Laws.{AreApart, CanBeTold}
use Rattle.irc_room.specs.Invitations.{is_at, inviting_only, of_home}
use Rattle.irc_merge.specs.OwnInvitations.{ServerReadsMerge, ServerShowsMerge}
use Rattle.irc_merge.specs.Lemmas.TableWords.{values_each}
use Rattle.irc_merge.specs.Lemmas.Quitting.{among, thinned}
use Rattle.irc_merge.specs.Lemmas.Clashing.{users_without, channels_without}
use Rattle.irc_merge.specs.Lemmas.HomeRows.{home_row}
use Rattle.irc_merge.specs.Lemmas.UninvitedRooms.{uninvited_well}
use Rattle.irc_merge.specs.Lemmas.HomeOfMerge.{same_without, home_users, home_well, home_of_merge}
use Rattle.irc_merge.proofs.ReadMerge.{nothing_kept, uninvited_burst, burst_read_is_merge}
use Rattle.irc_merge.specs.Lemmas.ShownUsers.{quit_to, quit_shows}
use Rattle.irc_merge.proofs.ShownMerge.{shown_is_merge_shown}

-- ---- a room without its invitations, whichever it had

-- other invitations are none, once there are none
pub of_home_uninvited : (home : List ℕ) (room : Room)
    → uninvited (of_home home room) ≡ uninvited room
unfolding of_home
of_home_uninvited home room = ap (λ (t : Table Channel). record room { channels = t }) (same_table
    (each channel_uninvited (each (λ channel. Some (inviting_only (is_at home room.users) channel))
    room.channels)) (each channel_uninvited room.channels) (λ q.
    row-each channel_uninvited
    (each (λ channel. Some (inviting_only (is_at home room.users) channel)) room.channels) q
    ∙ ap (option_and_then channel_uninvited)
    (row-each (λ channel. Some (inviting_only (is_at home room.users) channel)) room.channels q)
    ∙ by_row (row room.channels q)
    ∙ sym (row-each channel_uninvited room.channels q)))
  where
    by_row : (o : Option Channel) → option_and_then channel_uninvited
        (option_and_then (λ channel. Some (inviting_only (is_at home room.users) channel)) o)
        ≡ option_and_then channel_uninvited o
    by_row None = refl
    by_row (Some channel) = refl

-- what a server has of a room is told as all of the room
pub of_home_burst : (server home : List ℕ) (room : Room)
    → burst server (of_home home room) ≡ burst server room
of_home_burst server home room =
    sym (uninvited_burst server (of_home home room))
    ∙ ap (burst server) (of_home_uninvited home room) ∙ uninvited_burst server room

-- ---- quits

left_twice : (gone : List ℕ → Bool) (o : Option Channel)
    → option_and_then (thinned gone) (option_and_then channel_uninvited o)
    ≡ option_and_then channel_uninvited (option_and_then (thinned gone) o)
left_twice gone None = refl
left_twice gone (Some channel) =
    by_test (is_nil (keys (retain_keys channel.members (λ q. not (gone q)))))
  where
    by_test : (b : Bool) → cond b None (Some (record channel {
      members = retain_keys channel.members
          (λ q. not (gone q));
      invited = retain_keys empty (λ q. not (gone q));
    }))
        ≡ option_and_then channel_uninvited
        (cond b None (Some (record channel {
          members = retain_keys channel.members (λ q.
              not (gone q));
          invited = retain_keys channel.invited (λ q. not (gone q));
        })))
    by_test true = refl
    by_test false =
        ap (λ (t : Table (Unit {0})). Some (record channel {
          members = retain_keys channel.members
              (λ q. not (gone q));
          invited = t;
        })) (sym (nothing_kept (λ q. not (gone q))))

-- who quits before takes no part in who is invited after
pub without_uninvited : (room other : Room) → IsWellFormed room
    → room_without (uninvited room) other ≡ uninvited (room_without room other)
without_uninvited room other well = λ i. record { users = same_users i; channels = same_channels i }
  where
    same_users : (room_without (uninvited room) other).users ≡ (room_without room other).users
    same_users =
        same_table (room_without (uninvited room) other).users (room_without room other).users (λ q.
        users_without (uninvited room) other (uninvited_well room well) q
        ∙ sym (users_without room other well q))

    same_channels : (room_without (uninvited room) other).channels ≡ each channel_uninvited
        (room_without room other).channels
    same_channels = same_table (room_without (uninvited room) other).channels
        (each channel_uninvited (room_without room other).channels) (λ q.
        channels_without (uninvited room) other (uninvited_well room well) q
        ∙ ap (option_and_then (thinned (among (clash room other))))
        (row-each channel_uninvited room.channels q)
        ∙ left_twice (among (clash room other)) (row room.channels q)
        ∙ sym (row-each channel_uninvited (room_without room other).channels q
        ∙ ap (option_and_then channel_uninvited) (channels_without room other well q)))

-- who clashes is a matter of users
any_uninvited : (p : Channel → Bool) → ((channel : Channel)
    → p (record channel { invited = empty }) ≡ p channel) → (channels : List Channel)
    → list_any p (filter_map channel_uninvited channels) ≡ list_any p channels
any_uninvited p same [] = refl
any_uninvited p same (channel ∷ channels) = λ i. same channel i || any_uninvited p same channels i

quit_uninvited : (room : Room) (nick text viewer : List ℕ)
    → shows_to (uninvited room) (Quit nick text) viewer ≡ shows_to room (Quit nick text) viewer
quit_uninvited room nick text viewer =
    quit_shows (uninvited room) nick text viewer
    ∙ by_viewer (row room.users (key viewer))
    ∙ sym (quit_shows room nick text viewer)
  where
    by_viewer : (o : Option User)
        → quit_to nick text (each channel_uninvited room.channels) (row room.users (key nick)) o
        ≡ quit_to nick text room.channels (row room.users (key nick)) o
    by_viewer None = refl
    by_viewer (Some user) =
        ap (λ b. cond (not (same nick user.nick) && b) (line_from (codes "QUIT") [] (Some text)
        (option_map full_sender (row room.users (key nick)))) None)
        (ap (list_any (λ channel. has_member (key nick) channel && has_member
        (key user.nick) channel)) (values_each channel_uninvited room.channels)
        ∙ any_uninvited (λ channel. has_member (key nick) channel
        && has_member (key user.nick) channel) (λ channel. refl) (values room.channels))

gone_uninvited : (room : Room) (nick text : List ℕ)
    → after (uninvited room) (Quit nick text) ≡ uninvited (after room (Quit nick text))
unfolding after
gone_uninvited room nick text = ap (λ (t : Table Channel).
    record { users = alter (key nick) (λ _. None) room.users; channels = t }) (same_table
    (each (without_user (key nick)) (each channel_uninvited room.channels))
    (each channel_uninvited (each (without_user (key nick)) room.channels)) (λ q.
    row-each (without_user (key nick)) (each channel_uninvited room.channels) q
    ∙ ap (option_and_then (without_user (key nick))) (row-each channel_uninvited room.channels q)
    ∙ by_row (row room.channels q)
    ∙ sym (row-each channel_uninvited (each (without_user (key nick)) room.channels) q
    ∙ ap (option_and_then channel_uninvited) (row-each (without_user (key nick)) room.channels q))))
  where
    by_test : (channel : Channel) (b : Bool) → cond b None
        (Some (record channel {
          members = alter (key nick) (λ _. None) channel.members;
          invited = alter (key nick) (λ _. None) empty;
        }))
        ≡ option_and_then channel_uninvited
        (cond b None (Some (record channel {
          members = alter (key nick) (λ _. None) channel.members;
          invited = alter (key nick) (λ _. None) channel.invited;
        })))
    by_test channel true = refl
    by_test channel false =
        ap (λ (t : Table (Unit {0})). Some (record channel {
          members = alter (key nick)
              (λ _. None) channel.members;
          invited = t;
        }))
        (alter_same (key nick) (λ _. None) empty (sym (get-empty fold_cmp (key nick))))

    by_row : (o : Option Channel)
        → option_and_then (without_user (key nick)) (option_and_then channel_uninvited o)
        ≡ option_and_then channel_uninvited (option_and_then (without_user (key nick)) o)
    by_row None = refl
    by_row (Some channel) =
        by_test channel (is_nil (keys (alter (key nick) (λ _. None) channel.members)))

quits_uninvited : (viewer text : List ℕ) (users : List User) (room : Room) → shown_along viewer
    (uninvited room) (quits_of text users) ≡ shown_along viewer room (quits_of text users)
quits_uninvited viewer text [] room = refl
quits_uninvited viewer text (user ∷ users) room =
    λ i. option_to_list (quit_uninvited room user.nick text viewer i)
    ++ (ap (λ r. shown_along viewer r (quits_of text users)) (gone_uninvited room user.nick text)
    ∙ quits_uninvited viewer text users (after room (Quit user.nick text))) i

-- ---- arrivals

ours_uninvited : (other : Room) (viewer : User) (theirs : Channel) (o : Option Channel)
    → option_map_or (channel_arrivals other viewer theirs) (option_and_then channel_uninvited o) []
    ≡ option_map_or (channel_arrivals other viewer theirs) o []
ours_uninvited other viewer theirs None = refl
ours_uninvited other viewer theirs (Some ours) = refl

each_arrival : (room other : Room) (viewer : User) (channels : List Channel)
    → flat_map (λ (theirs : Channel). option_map_or (channel_arrivals other viewer theirs)
    (row (uninvited room).channels (key theirs.name)) []) (filter_map channel_uninvited channels)
    ≡ flat_map (λ (theirs : Channel). option_map_or (channel_arrivals other viewer theirs)
    (row room.channels (key theirs.name)) []) channels
each_arrival room other viewer [] = refl
each_arrival room other viewer (channel ∷ channels) =
    λ i. (ap (λ o. option_map_or (channel_arrivals other viewer channel) o [])
    (row-each channel_uninvited room.channels (key channel.name))
    ∙ ours_uninvited other viewer channel (row room.channels (key channel.name))) i
    ++ each_arrival room other viewer channels i

arrivals_uninvited : (room other : Room) (viewer : User)
    → arrivals (uninvited room) (uninvited other) viewer ≡ arrivals room other viewer
arrivals_uninvited room other viewer =
    ap (flat_map (λ (theirs : Channel). option_map_or (channel_arrivals other viewer theirs)
    (row (uninvited room).channels (key theirs.name)) []))
    (values_each channel_uninvited other.channels)
    ∙ each_arrival room other viewer (values other.channels)

pub shown_uninvited : (room other : Room) → IsWellFormed room
    → IsWellFormed other → (viewer : List ℕ)
    → merge_shown (uninvited room) (uninvited other) viewer ≡ merge_shown room other viewer
unfolding merge_shown
shown_uninvited room other well well_other viewer =
    (λ i. quits_uninvited viewer collision_text (clash room other) room i
    ++ left_arrivals i)
    ∙ ap (λ lines. shown_along viewer room (quits_of collision_text (clash room other)) ++ lines)
    (by_row (row (room_without room other).users (key viewer)))
  where
    ours : room_without (uninvited room) (uninvited other) ≡ uninvited (room_without room other)
    ours = same_without (uninvited room) other ∙ without_uninvited room other well

    theirs : room_without (uninvited other) (uninvited room) ≡ uninvited (room_without other room)
    theirs = same_without (uninvited other) room ∙ without_uninvited other room well_other

    left_arrivals : option_map_or (arrivals (room_without (uninvited room) (uninvited other))
        (room_without (uninvited other) (uninvited room)))
        (row (room_without (uninvited room) (uninvited other)).users (key viewer)) []
        ≡ option_map_or (arrivals (uninvited (room_without room other)) (uninvited
        (room_without other room))) (row (room_without room other).users (key viewer)) []
    left_arrivals =
        λ j. option_map_or (arrivals (ours j) (theirs j)) (row (ours j).users (key viewer)) []

    by_row : (o : Option User) → option_map_or
        (arrivals (uninvited (room_without room other)) (uninvited (room_without other room))) o []
        ≡ option_map_or (arrivals (room_without room other) (room_without other room)) o []
    by_row None = refl
    by_row (Some user) = arrivals_uninvited (room_without room other) (room_without other room) user

-- ---- a server of one side reads what a server of the other tells

elsewhere_of : (home : List ℕ) (far : List ℕ → Bool) (room other : Room) → AreApart far room other
    → far home ≡ false → (q : List ℕ) (user : User) → row other.users q ≡ Some user
    → is_home home user ≡ false
elsewhere_of home far room other apart near q user at = by_test (is_home home user) refl
  where
    by_test : (b : Bool) → is_home home user ≡ b → b ≡ false
    by_test true here =
        absurd (false≢true (sym near ∙ ap far (sym ((bytes_decides user.home home).0 here))
        ∙ apart.behind q user at))
    by_test false none = refl

home_apart : (home : List ℕ) (far : List ℕ → Bool) (room other : Room) → AreApart far room other
    → AreApart far (of_home home room) other
home_apart home far room other apart = record {
  near = λ q user is. apart.near q user (ap (λ t. row t q) (sym (home_users home room)) ∙ is);
  behind = apart.behind;
}

home_told : (home : List ℕ) (room : Room) → CanBeTold room → CanBeTold (of_home home room)
home_told home room told = record {
  modes = λ fold channel is. by_row fold channel (row room.channels fold) refl
      (sym (home_row home room fold) ∙ is);
}
  where
    by_row : (fold : List ℕ) (channel : Channel) (o : Option Channel) → row room.channels fold ≡ o
        → option_map (inviting_only (is_at home room.users)) o ≡ Some channel
        → AreWithinLimits channel.modes
    by_row fold channel None at is = absurd (none-some channel is)
    by_row fold channel (Some before) at is =
        subst (λ (c : Channel). AreWithinLimits c.modes) (same_Some
        (inviting_only (is_at home room.users) before) channel is) (told.modes fold before at)

pub server_reads_merge : ServerReadsMerge
server_reads_merge own server home theirs far room other well well_other ours told apart near =
    ap (λ ds. after_deeds (of_home home room) (read_all own far (of_home home room) ds))
    (of_home_burst server theirs other)
    ∙ burst_read_is_merge own server far (of_home home room) other (home_well home room well)
    well_other (home_told home room ours) told (home_apart home far room other apart)
    ∙ home_of_merge home room other well well_other (elsewhere_of home far room other apart near)

pub server_shows_merge : ServerShowsMerge
server_shows_merge own server home theirs far room other well well_other ours told apart viewer
    user at =
    ap (λ ds. shown_by_all viewer (of_home home room) (read_all own far (of_home home room) ds))
    (of_home_burst server theirs other)
    ∙ shown_is_merge_shown own server far (of_home home room) other
    (home_well home room well) well_other (home_told home room ours) told
    (home_apart home far room other apart) viewer user
    (ap (λ t. row t (key viewer)) (home_users home room) ∙ at)
    ∙ sym (shown_uninvited (of_home home room) other (home_well home room well) well_other viewer)
    ∙ ap (λ r. merge_shown r (uninvited other) viewer) (of_home_uninvited home room)
    ∙ shown_uninvited room other well well_other viewer
