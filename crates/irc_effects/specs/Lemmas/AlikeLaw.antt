-- Rooms that are alike but for who is invited: both are one room in which nobody is, and no
-- question but that of an invitation tells that room from them.
use Rattle.std.proofs.Common.{◌≡◌, ℕ, Bool, true, false, if◌then◌else◌, Option, Some, None, List}
use Rattle.std.proofs.Common.{refl, sym, ◌∙◌, ap, is_some, option_map, unwrap_or}
use Rattle.std.specs.List.{list_all}
use Rattle.std.specs.Option.{option_and_then, option_map_or}
use Rattle.std.specs.FinMap.{empty, retain_keys, get-empty}
use Rattle.irc_names.specs.Fold.{key}
use Rattle.irc_names.specs.Tables.{Table, fold_cmp, row, alter, each, moved}
use Rattle.irc_names.specs.TableLaws.{same_table, row-each, row-moved_none, row-retain_keys}
use Rattle.irc_users.specs.UserTable.{with_nick}
use Rattle.irc_channels.specs.declared.channel.Channel.{Channel}
use Rattle.irc_channels.specs.Channels.{new_channel, joined, left, with_topic, all_changed}
use Rattle.irc_effects.specs.declared.effect.Effect.{Effect}
use Rattle.irc_effects.specs.declared.effect.Effect.TheVariants.{Rename, Quit, Join, Part}
use Rattle.irc_effects.specs.declared.effect.Effect.TheVariants.{Kick, ChangeModes, SetTopic}
use Rattle.irc_effects.specs.declared.effect.Effect.TheVariants.{Invite}
use Rattle.irc_effects.specs.declared.fault.RoomFault.TheVariants.{Failed}
use Rattle.irc_effects.specs.Room.{Room}
use Rattle.irc_effects.specs.Effects.{has_channel, is_member, is_idle, needs_users, needs_channel}
use Rattle.irc_effects.specs.Effects.{brings_free}
use Rattle.irc_effects.specs.After.{after}
use Rattle.irc_effects.specs.Seen.{seen}
use Rattle.irc_effects.specs.Applying.{missing_fault, does}
use Rattle.irc_effects.specs.Invitations.{is_at, inviting_only, with_invited, of_home}
use Rattle.irc_effects.specs.Viewers.{shows_to}
use Rattle.irc_effects.specs.OtherInvitations.{uninviting, AreAlike, HomeIsAlike, AlikeHaveAlike}
use Rattle.irc_effects.specs.OtherInvitations.{AlikeTakeAlike, AlikeStayAlike}
use Rattle.irc_effects.specs.Lemmas.InvitingOnly.{keeping, left_only, joined_only, changed_only}
use Rattle.irc_effects.specs.Lemmas.InvitingOnly.{topic_only}
use Rattle.irc_effects.specs.Lemmas.HomeLaw.{only_altered, only_unchanged, only_without}
use Rattle.irc_effects.specs.Lemmas.HomeLaw.{only_renamed}
use Rattle.irc_effects.specs.Lemmas.HomeRooms.{row-of_home}
use Rattle.irc_effects.specs.Lemmas.BlindToInvitations.{channel_same, member_same, idle_same}
use Rattle.irc_effects.specs.Lemmas.BlindToInvitations.{free_same, needed_same, missing_same}
use Rattle.irc_effects.specs.Lemmas.BlindToInvitations.{does_same, seen_same, shows_same}

abbrev nobody : List ℕ → Bool
nobody nick = false

none_stays : (invited : Table (Unit {0})) → retain_keys invited nobody ≡ empty
none_stays invited = same_table (retain_keys invited nobody) empty
    (λ q. row-retain_keys invited nobody q ∙ sym (get-empty fold_cmp q))

uninvited_row : (found : Option Channel)
    → option_and_then (keeping nobody) found ≡ option_map uninviting found
uninvited_row None = refl
uninvited_row (Some channel) =
    ap (λ t. Some (record channel { invited = t })) (none_stays channel.invited)

one_room : (room other : Room) → AreAlike room other
    → with_invited nobody room ≡ with_invited nobody other
one_room room other alike =
    let channels : each (keeping nobody) room.channels ≡ each (keeping nobody) other.channels =
    same_table (each (keeping nobody) room.channels) (each (keeping nobody) other.channels) (λ q.
    row-each (keeping nobody) room.channels q ∙ uninvited_row (row room.channels q)
    ∙ alike.channels q
    ∙ sym (row-each (keeping nobody) other.channels q ∙ uninvited_row (row other.channels q))) in
    λ i. record { users = alike.users i; channels = channels i }

alike_of_one : (room other : Room) → with_invited nobody room ≡ with_invited nobody other
    → AreAlike room other
alike_of_one room other one = record {
  users = ap (λ (r : Room). r.users) one;
  channels = λ fold.
      sym (row-each (keeping nobody) room.channels fold ∙ uninvited_row (row room.channels fold))
      ∙ ap (λ (r : Room). row r.channels fold) one
      ∙ (row-each (keeping nobody) other.channels fold ∙ uninvited_row (row other.channels fold));
}

-- whatever is asked of two such rooms, but for invitations
asked_alike : {X : Type 0} (asks : Room → X)
    → ((room : Room) → asks (with_invited nobody room) ≡ asks room) → (room other : Room)
    → AreAlike room other → asks room ≡ asks other
asked_alike asks blind room other alike = sym (blind room) ∙ ap asks (one_room room other alike)
    ∙ blind other

pub alike_have_alike : AlikeHaveAlike
alike_have_alike room other alike = record {
  user = λ nick. ap (λ users. is_some (row users (key nick))) alike.users;
  channel = λ name. asked_alike (λ r. has_channel r name)
      (λ r. channel_same nobody r name) room other alike;
  member = λ nick name. asked_alike (λ r. is_member r nick name)
      (λ r. member_same nobody r nick name) room other alike;
}

pub alike_take_alike : AlikeTakeAlike
alike_take_alike room other effect alike =
    let free =
    asked_alike (λ r. brings_free r effect) (λ r. free_same nobody r effect) room other alike in
    let users = ap (λ users. list_all (λ nick. is_some (row users (key nick)))
    (needs_users effect)) alike.users in
    let needed =
    asked_alike (λ r. option_map_or (has_channel r) (needs_channel effect) true)
    (λ r. needed_same nobody r effect) room other alike in
    let missing = asked_alike (λ r. missing_fault r effect)
    (λ r. missing_same nobody r effect) room other alike in
    record {
      free = free;
      possible = (
        λ possible. record {
          users_there = sym users ∙ possible.users_there;
          channel_there = sym needed ∙ possible.channel_there;
          nick_free = sym free ∙ possible.nick_free;
        },
        λ possible. record {
          users_there = users ∙ possible.users_there;
          channel_there = needed ∙ possible.channel_there;
          nick_free = free ∙ possible.nick_free;
        },
      );
      idle = asked_alike (λ r. is_idle r effect) (λ r. idle_same nobody r effect) room other alike;
      missing = missing;
      fault = λ own failed. ap (λ f. if failed then Some Failed else f) missing;
      does = asked_alike (λ r. does r effect) (λ r. does_same nobody r effect) room other alike;
      seen = asked_alike (λ r. seen r effect) (λ r. seen_same nobody r effect) room other alike;
      shows = λ nick. asked_alike (λ r. shows_to r effect nick)
          (λ r. shows_same nobody r effect nick) room other alike;
    }

-- what an effect makes of the room in which nobody is invited
abbrev uninvited_after : Effect → Room → Room
uninvited_after (Invite by nick name) room = room
uninvited_after effect room = after room effect

moved_nobody : (old new : List ℕ) (invited : Table (Unit {0})) → retain_keys
    (moved old new (λ u. u) invited) nobody ≡ moved old new (λ u. u) (retain_keys invited nobody)
moved_nobody old new invited = same_table (retain_keys (moved old new (λ u. u) invited) nobody)
    (moved old new (λ u. u) (retain_keys invited nobody)) (λ q.
    row-retain_keys (moved old new (λ u. u) invited) nobody q
    ∙ sym (row-moved_none old new (λ u. u) (retain_keys invited nobody)
    (row-retain_keys invited nobody old) q ∙ row-retain_keys invited nobody q))

uninvited_follows : (room : Room) (effect : Effect)
    → with_invited nobody (after room effect) ≡ uninvited_after effect (with_invited nobody room)
unfolding after
uninvited_follows room (Rename nick new) =
    only_renamed nobody nobody (moved (key nick) (key new) (with_nick new) room.users) (key nick)
    (key new) room.channels
    (λ fold channel at. moved_nobody (key nick) (key new) channel.invited)
uninvited_follows room (Quit nick text) =
    only_without nobody nobody (alter (key nick) (λ _. None) room.users) (key nick) room.channels
    (λ q apart. refl)
uninvited_follows room (Join nick name op) =
    only_altered nobody name (λ c. Some (joined (key nick) op (unwrap_or c (new_channel name))))
    room (joined_only nobody (key nick) op name)
uninvited_follows room (Part nick name text) =
    only_altered nobody name (option_and_then (left (key nick))) room (left_only nobody (key nick))
uninvited_follows room (Kick by name nick text) =
    only_altered nobody name (option_and_then (left (key nick))) room (left_only nobody (key nick))
uninvited_follows room (ChangeModes by name changes) =
    only_altered nobody name (option_map (all_changed changes)) room (changed_only nobody changes)
uninvited_follows room (SetTopic by name text) =
    only_altered nobody name (option_map (with_topic text)) room (topic_only nobody text)
uninvited_follows room (Invite by nick name) = only_unchanged nobody name nick room refl
uninvited_follows room other = refl

pub alike_stay_alike : AlikeStayAlike
alike_stay_alike room other effect alike =
    alike_of_one (after room effect) (after other effect)
    (uninvited_follows room effect ∙ ap (uninvited_after effect) (one_room room other alike)
    ∙ sym (uninvited_follows other effect))

pub home_is_alike : HomeIsAlike
unfolding of_home
home_is_alike home room = record {
  users = refl;
  channels = λ fold. ap (option_map uninviting) (row-of_home home room fold)
      ∙ blind (row room.channels fold);
}
  where
    blind : (found : Option Channel) → option_map uninviting
        (option_map (inviting_only (is_at home room.users)) found) ≡ option_map uninviting found
    blind None = refl
    blind (Some channel) = refl
