-- One server's part of a room that two became is the merge of its part of the one with the other.
use Rattle.std.proofs.Common.{◌≡◌, ℕ, Bool, true, false, cond, not, ◌&&◌, Option, Some, None, List}
use Rattle.std.proofs.Common.{refl, sym, ◌∙◌, ap, subst, is_some, option_map}
use Rattle.std.specs.Option.{option_and_then, option_map_or}
use Rattle.std.specs.FinMap.{empty, keys, retain_keys, get-empty}
use Rattle.std.proofs.Math.Bool.{false≢true}
use Rattle.std.proofs.lemmas.Option.{none-some, same_Some}
use Rattle.irc_names.specs.Lemmas.PlainFacts.{same_either_way}
use Rattle.irc_names.specs.Tables.{Table, fold_cmp, row, each, both}
use Rattle.irc_names.specs.TableLaws.{same_table, row-each}
use Rattle.irc_users.specs.declared.user.User.{User}
use Rattle.irc_users.specs.UserTable.{is_home}
use Rattle.irc_channels.specs.declared.channel.Channel.{Channel}
use Rattle.irc_modes.specs.Modes.{is_nil}
use Rattle.irc_room.specs.Room.{Room, IsWellFormed, IsSoundRow}
use Rattle.irc_merge.specs.Merge.{clash, room_without, either, joined_channel, one_channel, merge}
use Rattle.irc_merge.specs.Merge.{uninvited, channel_uninvited}
use Rattle.irc_room.specs.Invitations.{is_at, inviting_only, of_home}
use Rattle.irc_merge.specs.Lemmas.TableWords.{row-kept}
use Rattle.irc_merge.specs.Lemmas.Quitting.{among, thinned}
use Rattle.irc_merge.specs.Lemmas.Introducing.{told_user, both_users}
use Rattle.irc_merge.specs.Lemmas.Clashing.{clashing, users_without, channels_without}
use Rattle.irc_merge.specs.Lemmas.Joining.{row-either, row-joined}
use Rattle.irc_merge.specs.Lemmas.HomeRows.{home_row}
use Rattle.irc_merge.specs.Lemmas.UninvitedRooms.{uninvited_well}

pub same_without : (room other : Room)
    → room_without room (uninvited other) ≡ room_without room other
unfolding room_without
same_without room other = refl

pub home_users : (home : List ℕ) (room : Room) → (of_home home room).users ≡ room.users
unfolding of_home
home_users home room = refl

home_clash : (home : List ℕ) (room other : Room)
    → clash (of_home home room) other ≡ clash room other
unfolding of_home
home_clash home room other = refl

clash_home : (home : List ℕ) (room other : Room)
    → clash other (of_home home room) ≡ clash other room
unfolding of_home
clash_home home room other = refl

invited_sound : (users : Table User) (stays : List ℕ → Bool) (fold : List ℕ) (channel : Channel)
    → IsSoundRow users fold channel → IsSoundRow users fold (inviting_only stays channel)
invited_sound users stays fold channel sound = record {
  named = sound.named;
  members_known = sound.members_known;
  invited_known = λ q there. sound.invited_known q
      (by_test q (stays q) (sym (ap is_some (row-kept channel.invited stays q)) ∙ there));
  some_member = sound.some_member;
}
  where
    by_test : (q : List ℕ) (b : Bool) → is_some (cond b (row channel.invited q) None) ≡ true
        → is_some (row channel.invited q) ≡ true
    by_test q true there = there
    by_test q false there = absurd (false≢true there)

pub home_well : (home : List ℕ) (room : Room) → IsWellFormed room → IsWellFormed (of_home home room)
home_well home room well = record {
  users_named =
      λ q user is. well.users_named q user (ap (λ t. row t q) (sym (home_users home room)) ∙ is);
  channels_sound = λ fold channel is.
      subst (λ us. IsSoundRow us fold channel) (sym (home_users home room))
      (by_row fold channel (row room.channels fold) refl (sym (home_row home room fold) ∙ is));
}
  where
    by_row : (fold : List ℕ) (channel : Channel) (o : Option Channel) → row room.channels fold ≡ o
        → option_map (inviting_only (is_at home room.users)) o ≡ Some channel
        → IsSoundRow room.users fold channel
    by_row fold channel None at is = absurd (none-some channel is)
    by_row fold channel (Some before) at is =
        subst (IsSoundRow room.users fold)
        (same_Some (inviting_only (is_at home room.users) before) channel is)
        (invited_sound room.users (is_at home room.users) fold before
        (well.channels_sound fold before at))

-- this side's room, the other's, and a server of this side
module _ (home : List ℕ) (room other : Room) (well : IsWellFormed room)
    (well_other : IsWellFormed other)
    (elsewhere : (q : List ℕ) (user : User) → row other.users q ≡ Some user
    → is_home home user ≡ false) where
  abbrev all : Table User
  all = both either (room_without room other).users (room_without other room).users

  abbrev stays : List ℕ → Bool
  stays = is_at home all

  stays_is : (q : List ℕ) → stays q ≡ option_map_or (is_home home)
      (told_user (row room.users q) (row other.users q)) false
  stays_is q =
      ap (λ o. option_map_or (is_home home) o false) (both_users room other well well_other q)

  abbrev gone : List ℕ → Bool
  gone = among (clash room other)

  abbrev theirs_gone : List ℕ → Bool
  theirs_gone = among (clash other room)

  -- an invitation of this side
  our_invited : (invited : Table (Unit {0}))
      → ((q : List ℕ) → is_some (row invited q) ≡ true → is_some (row room.users q) ≡ true)
      → retain_keys (retain_keys invited (is_at home room.users)) (λ q. not (gone q))
      ≡ retain_keys (retain_keys invited (λ q. not (gone q))) stays
  our_invited invited known = same_table _ _ (λ q.
      row-kept (retain_keys invited (is_at home room.users)) (λ q. not (gone q)) q
      ∙ ap (λ o. cond (not (gone q)) o None) (row-kept invited (is_at home room.users) q)
      ∙ by_row q (row invited q) refl
      ∙ sym (row-kept (retain_keys invited (λ q. not (gone q))) stays q
      ∙ ap (λ o. cond (stays q) o None) (row-kept invited (λ q. not (gone q)) q)))
    where
      by_users : (q : List ℕ) (o p : Option User) → is_some o ≡ true
          → (x : Option (Unit {0})) → cond (not (is_some o && is_some p))
          (cond (option_map_or (is_home home) o false) x None) None
          ≡ cond (option_map_or (is_home home) (told_user o p) false)
          (cond (not (is_some o && is_some p)) x None) None
      by_users q None p there x = absurd (false≢true there)
      by_users q (Some user) None there x = refl
      by_users q (Some user) (Some holder) there x = refl

      by_row : (q : List ℕ) (o : Option (Unit {0})) → row invited q ≡ o
          → cond (not (gone q)) (cond (is_at home room.users q) o None) None
          ≡ cond (stays q) (cond (not (gone q)) o None) None
      by_row q None at =
          ap (λ o. cond (not (gone q)) o None) (same_either_way (is_at home room.users q) None)
          ∙ same_either_way (not (gone q)) None
          ∙ sym (ap (λ o. cond (stays q) o None) (same_either_way (not (gone q)) None)
          ∙ same_either_way (stays q) None)
      by_row q (Some u) at =
          (λ i. cond (not (clashing room other well q i))
          (cond (is_at home room.users q) (Some u) None) None)
          ∙ by_users q (row room.users q) (row other.users q) (known q (ap is_some at)) (Some u)
          ∙ sym (λ i. cond (stays_is q i)
          (cond (not (clashing room other well q i)) (Some u) None) None)

  -- and one of the other side
  their_invited : (invited : Table (Unit {0})) → ((q : List ℕ) → is_some (row invited q) ≡ true
      → is_some (row other.users q) ≡ true) → retain_keys empty (λ q. not (theirs_gone q))
      ≡ retain_keys (retain_keys invited (λ q. not (theirs_gone q))) stays
  their_invited invited known = same_table _ _ (λ q.
      row-kept empty (λ q. not (theirs_gone q)) q
      ∙ ap (λ o. cond (not (theirs_gone q)) o None) (get-empty {X = Unit {0}} fold_cmp q)
      ∙ same_either_way (not (theirs_gone q)) None
      ∙ by_row q (row invited q) refl
      ∙ sym (row-kept (retain_keys invited (λ q. not (theirs_gone q))) stays q
      ∙ ap (λ o. cond (stays q) o None) (row-kept invited (λ q. not (theirs_gone q)) q)))
    where
      by_users : (q : List ℕ) (o p : Option User) → row other.users q ≡ p → is_some p ≡ true
          → (x : Option (Unit {0})) → None ≡ cond (option_map_or (is_home home)
          (told_user o p) false) (cond (not (is_some p && is_some o)) x None) None
      by_users q o None is there x = absurd (false≢true there)
      by_users q None (Some user) is there x = sym (ap (λ b. cond b x None) (elsewhere q user is))
      by_users q (Some holder) (Some user) is there x = refl

      by_row : (q : List ℕ) (o : Option (Unit {0})) → row invited q ≡ o
          → None ≡ cond (stays q) (cond (not (theirs_gone q)) o None) None
      by_row q None at = sym (ap (λ o. cond (stays q) o None)
          (same_either_way (not (theirs_gone q)) None) ∙ same_either_way (stays q) None)
      by_row q (Some u) at =
          by_users q (row room.users q) (row other.users q) refl (known q (ap is_some at)) (Some u)
          ∙ sym (λ i. cond (stays_is q i)
          (cond (not (clashing other room well_other q i)) (Some u) None) None)

  ours_left : (fold : List ℕ) → row (room_without (of_home home room) (uninvited other)).channels
      fold ≡ option_map (inviting_only stays) (row (room_without room other).channels fold)
  ours_left fold =
      ap (λ (r : Room). row r.channels fold) (same_without (of_home home room) other)
      ∙ channels_without (of_home home room) other (home_well home room well) fold
      ∙ ap (λ us. option_and_then (thinned (among us)) (row (of_home home room).channels fold))
      (home_clash home room other)
      ∙ ap (option_and_then (thinned gone)) (home_row home room fold)
      ∙ by_row (row room.channels fold) refl
      ∙ sym (ap (option_map (inviting_only stays)) (channels_without room other well fold))
    where
      by_test : (channel : Channel) → IsSoundRow room.users fold channel → (b : Bool)
          → cond b None (Some (record channel {
            members = retain_keys channel.members (λ q. not (gone q));
            invited = retain_keys (retain_keys channel.invited (is_at home room.users))
                (λ q. not (gone q));
          }))
          ≡ option_map (inviting_only stays)
          (cond b None (Some (record channel {
            members = retain_keys channel.members (λ q.
                not (gone q));
            invited = retain_keys channel.invited (λ q. not (gone q));
          })))
      by_test channel sound true = refl
      by_test channel sound false =
          ap (λ (t : Table (Unit {0})). Some (record channel {
            members = retain_keys channel.members
                (λ q. not (gone q));
            invited = t;
          }))
          (our_invited channel.invited sound.invited_known)

      by_row : (o : Option Channel) → row room.channels fold ≡ o
          → option_and_then (thinned gone) (option_map (inviting_only (is_at home room.users)) o)
          ≡ option_map (inviting_only stays) (option_and_then (thinned gone) o)
      by_row None at = refl
      by_row (Some channel) at = by_test channel (well.channels_sound fold channel at)
          (is_nil (keys (retain_keys channel.members (λ q. not (gone q)))))

  theirs_left : (fold : List ℕ) → row (room_without (uninvited other) (of_home home room)).channels
      fold ≡ option_map (inviting_only stays) (row (room_without other room).channels fold)
  theirs_left fold =
      channels_without (uninvited other) (of_home home room) (uninvited_well other well_other) fold
      ∙ ap (λ us. option_and_then (thinned (among us)) (row (uninvited other).channels fold))
      (clash_home home room (uninvited other))
      ∙ ap (option_and_then (thinned theirs_gone)) (row-each channel_uninvited other.channels fold)
      ∙ by_row (row other.channels fold) refl
      ∙ sym (ap (option_map (inviting_only stays)) (channels_without other room well_other fold))
    where
      by_test : (channel : Channel) → IsSoundRow other.users fold channel → (b : Bool) → cond b None
          (Some (record channel {
            members = retain_keys channel.members (λ q. not (theirs_gone q));
            invited = retain_keys empty (λ q. not (theirs_gone q));
          }))
          ≡ option_map (inviting_only stays)
          (cond b None (Some (record channel {
            members = retain_keys channel.members
                (λ q. not (theirs_gone q));
            invited = retain_keys channel.invited (λ q. not (theirs_gone q));
          })))
      by_test channel sound true = refl
      by_test channel sound false =
          ap (λ (t : Table (Unit {0})). Some (record channel {
            members = retain_keys channel.members
                (λ q. not (theirs_gone q));
            invited = t;
          }))
          (their_invited channel.invited sound.invited_known)

      by_row : (o : Option Channel) → row other.channels fold ≡ o
          → option_and_then (thinned theirs_gone) (option_and_then channel_uninvited o)
          ≡ option_map (inviting_only stays) (option_and_then (thinned theirs_gone) o)
      by_row None at = refl
      by_row (Some channel) at = by_test channel (well_other.channels_sound fold channel at)
          (is_nil (keys (retain_keys channel.members (λ q. not (theirs_gone q)))))

  -- invitations of both, of whom some stay
  one_staying : (c d : Channel) → one_channel (inviting_only stays c) (inviting_only stays d)
      ≡ inviting_only stays (one_channel c d)
  one_staying c d =
      ap (λ (t : Table (Unit {0})). record (one_channel c d) { invited = t }) (same_table _ _ (λ q.
      row-either (retain_keys c.invited stays) (retain_keys d.invited stays) q
      ∙ (λ i. either (row-kept c.invited stays q i) (row-kept d.invited stays q i))
      ∙ by_test (stays q) (row c.invited q) (row d.invited q)
      ∙ sym (row-kept (both either c.invited d.invited) stays q
      ∙ ap (λ o. cond (stays q) o None) (row-either c.invited d.invited q))))
    where
      by_test : (b : Bool) (x y : Option (Unit {0}))
          → either (cond b x None) (cond b y None) ≡ cond b (either x y) None
      by_test true x y = refl
      by_test false x y = refl

  joined_staying : (x y : Option Channel) → joined_channel (option_map (inviting_only stays) x)
      (option_map (inviting_only stays) y) ≡ option_map (inviting_only stays) (joined_channel x y)
  joined_staying None None = refl
  joined_staying None (Some d) = refl
  joined_staying (Some c) None = refl
  joined_staying (Some c) (Some d) = ap Some (one_staying c d)

  left_users : (fold : List ℕ) → row (room_without (of_home home room) (uninvited other)).users fold
      ≡ row (room_without room other).users fold
  left_users fold =
      ap (λ (r : Room). row r.users fold) (same_without (of_home home room) other)
      ∙ users_without (of_home home room) other (home_well home room well) fold
      ∙ ap (λ us. cond (is_some (row us fold) && is_some (row other.users fold)) None (row us fold))
      (home_users home room)
      ∙ sym (users_without room other well fold)

  their_users : (fold : List ℕ) → row (room_without (uninvited other) (of_home home room)).users
      fold ≡ row (room_without other room).users fold
  their_users fold =
      users_without (uninvited other) (of_home home room) (uninvited_well other well_other) fold
      ∙ ap (λ us. cond (is_some (row other.users fold) && is_some (row us fold)) None
      (row other.users fold)) (home_users home room)
      ∙ sym (users_without other room well_other fold)

  pub home_of_merge : merge (of_home home room) (uninvited other) ≡ of_home home (merge room other)
  unfolding merge of_home
  home_of_merge = λ i. record { users = same_users i; channels = same_channels i }
    where
      same_users : both either (room_without (of_home home room) (uninvited other)).users
          (room_without (uninvited other) (of_home home room)).users ≡ all
      same_users = same_table _ _ (λ q.
          row-either (room_without (of_home home room) (uninvited other)).users
          (room_without (uninvited other) (of_home home room)).users q
          ∙ (λ i. either (left_users q i) (their_users q i))
          ∙ sym (row-either (room_without room other).users (room_without other room).users q))

      mapped : (o : Option Channel) → option_map (inviting_only stays) o
          ≡ option_and_then (λ channel. Some (inviting_only stays channel)) o
      mapped None = refl
      mapped (Some channel) = refl

      same_channels : both joined_channel
          (room_without (of_home home room) (uninvited other)).channels
          (room_without (uninvited other) (of_home home room)).channels
          ≡ each (λ channel. Some (inviting_only stays channel)) (both joined_channel
          (room_without room other).channels (room_without other room).channels)
      same_channels = same_table _ _ (λ q.
          row-joined (room_without (of_home home room) (uninvited other)).channels
          (room_without (uninvited other) (of_home home room)).channels q
          ∙ (λ i. joined_channel (ours_left q i) (theirs_left q i))
          ∙ joined_staying (row (room_without room other).channels q)
          (row (room_without other room).channels q)
          ∙ ap (option_map (inviting_only stays)) (sym (row-joined
          (room_without room other).channels (room_without other room).channels q))
          ∙ mapped (row (both joined_channel (room_without room other).channels
          (room_without other room).channels) q)
          ∙ sym (row-each (λ channel. Some (inviting_only stays channel)) (both joined_channel
          (room_without room other).channels (room_without other room).channels) q))
