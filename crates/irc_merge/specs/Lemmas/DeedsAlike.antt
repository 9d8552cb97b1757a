-- What is read, done and shown of deeds does not look at invitations, and each server's part of the
-- room follows them.
use Rattle.std.proofs.Common.{◌≡◌, ℕ, Bool, true, false, not, ◌&&◌, Option, Some, None, List, []}
use Rattle.std.proofs.Common.{◌∷◌, ◌++◌, refl, sym, ◌∙◌, ap, subst, option_map, option_to_list}
use Rattle.std.proofs.Common.{if◌then◌else◌, is_some}
use Rattle.std.specs.Prelude.{⊤}
use Rattle.std.specs.List.{list_any, AllByRecursion, flat_map}
use Rattle.std.specs.Ordering.{is_lt}
use Rattle.std.specs.Option.{option_map_or}
use Rattle.std.specs.FinMap.{keys}
use Rattle.irc_names.specs.Fold.{key}
use Rattle.irc_names.specs.Greater.{bytes_cmp}
use Rattle.irc_names.specs.Tables.{Table, row}
use Rattle.irc_users.specs.declared.user.User.{User}
use Rattle.irc_channels.specs.declared.flags.Flags.{Flags}
use Rattle.irc_channels.specs.declared.channel.Channel.{Channel}
use Rattle.irc_modes.specs.declared.modes.ModeChange.{ModeChange}
use Rattle.irc_modes.specs.declared.modes.ModeLetter.{ModeLetter}
use Rattle.irc_modes.specs.declared.modes.ModeLetter.TheVariants as letter
use Rattle.irc_modes.specs.Raised.{raising}
use Rattle.irc_room.specs.effect.By.TheVariants as by
use Rattle.irc_room.specs.effect.Effect.{Effect}
use Rattle.irc_room.specs.effect.Effect.TheVariants.{AddUser, Quit}
use Rattle.irc_room.specs.effect.Effect.TheVariants.{ChangeModes, SetTopic, Invite, ChangeUser}
use Rattle.irc_room.specs.Room.{Room, IsWellFormed}
use Rattle.irc_room.specs.Effects.{IsPossible, brings_free}
use Rattle.irc_room.specs.After.{after, titled_by}
use Rattle.irc_room.specs.InTurn.{after_all, EachInTurn}
use Rattle.irc_room.specs.Invitations.{is_at, inviting_only, of_home, after_at, HomeFollows}
use Rattle.irc_room.specs.OtherInvitations.{uninviting, AlikeHaveAlike, AlikeTakeAlike}
use Rattle.irc_room.specs.OtherInvitations.{AlikeStayAlike}
use Rattle.irc_room.specs.OtherInvitations.{AreAlike as AreAlikeRooms}
use Rattle.irc_room.specs.Lemmas.WellFormedLaw.{after_is_well_formed}
use Rattle.irc_room.specs.Lemmas.RespelledRooms.{respelled_is_well_formed, home_is_respelled}
use Rattle.irc_room.specs.Lemmas.RespelledRooms.{alike_are_respelled_alike}
use Rattle.irc_merge.specs.AsideInvitations.{AlikeReadAlike, AlikeDoAlike, HomeFollowsDeed}
use Rattle.irc_merge.specs.Bursts.{home_passes}
use Rattle.irc_merge.specs.BurstRead.{introduced, new_members, brought, some_far, read_deed}
use Rattle.irc_merge.specs.BurstRead.{read_all}
use Rattle.irc_merge.specs.Deeds.{Deed, does, gains, loses, kills, brings, sets, tops, flag_given}
use Rattle.irc_merge.specs.Deeds.{member_comes, changes_made, raised_in, is_greater_topic, titled}
use Rattle.irc_merge.specs.Deeds.{effects_of, after_deed, after_deeds, shown_by}
use Rattle.irc_merge.specs.Quits.{quits_of, users_at, collision_text}
use Rattle.irc_merge.specs.ShownAlong.{shown_along}
use Rattle.irc_merge.specs.Lemmas.Quitting.{quit_well}
use Rattle.irc_merge.specs.Lemmas.HomeRows.{home_row}

-- ---- effects of a deed

raised_aside : (changes : List ModeChange) (found : Option Channel)
    → option_map_or (λ (c : Channel). raising changes c.modes) found []
    ≡ option_map_or (λ (c : Channel). raising changes c.modes) (option_map uninviting found) []
raised_aside changes None = refl
raised_aside changes (Some channel) = refl

greater_aside : (topic : List ℕ) (found : Option Channel)
    → option_map_or (λ (c : Channel). is_lt (bytes_cmp c.topic topic)) found false
    ≡ option_map_or (λ (c : Channel). is_lt (bytes_cmp c.topic topic))
    (option_map uninviting found) false
greater_aside topic None = refl
greater_aside topic (Some channel) = refl

effects_alike : (room other : Room) (deed : Deed) → AreAlikeRooms room other
    → effects_of room deed ≡ effects_of other deed
effects_alike room other (does effect) alike = refl
effects_alike room other (gains uplink name info) alike = refl
effects_alike room other (loses server name text) alike =
    ap (λ (users : Table User). quits_of text
    (users_at name (record { users = users; channels = room.channels }))) alike.users
effects_alike room other (kills server nick) alike = refl
effects_alike room other (brings server channel members) alike = refl
effects_alike room other (sets server channel changes) alike =
    ap (changes_made channel)
    (raised_aside changes (row room.channels (key channel))
    ∙ ap (λ o. option_map_or (λ (c : Channel). raising changes c.modes) o [])
    (alike.channels (key channel))
    ∙ sym (raised_aside changes (row other.channels (key channel))))
effects_alike room other (tops server channel topic) alike =
    ap (λ b. if b then SetTopic by.Home channel topic ∷ [] else [])
    (greater_aside topic (row room.channels (key channel))
    ∙ ap (λ o. option_map_or (λ (c : Channel). is_lt (bytes_cmp c.topic topic)) o false)
    (alike.channels (key channel))
    ∙ sym (greater_aside topic (row other.channels (key channel))))

pub titled_alike : (room other : Room) (deed : Deed) → AreAlikeRooms room other
    → AreAlikeRooms (titled room deed) (titled other deed)
titled_alike room other (does effect) alike = alike
titled_alike room other (gains uplink name info) alike = alike
titled_alike room other (loses server name text) alike = alike
titled_alike room other (kills server nick) alike = alike
titled_alike room other (brings server channel members) alike =
    alike_are_respelled_alike channel room other alike
titled_alike room other (sets server channel changes) alike = alike
titled_alike room other (tops server channel topic) alike = alike

module _ (stay : AlikeStayAlike) (take : AlikeTakeAlike) (have : AlikeHaveAlike) where
  all_stay : (room other : Room) (effects : List Effect) → AreAlikeRooms room other
      → AreAlikeRooms (after_all room effects) (after_all other effects)
  all_stay room other [] alike = alike
  all_stay room other (effect ∷ effects) alike =
      all_stay (after room effect) (after other effect) effects (stay room other effect alike)

  all_show : (viewer : List ℕ) (room other : Room) (effects : List Effect)
      → AreAlikeRooms room other
      → shown_along viewer room effects ≡ shown_along viewer other effects
  all_show viewer room other [] alike = refl
  all_show viewer room other (effect ∷ effects) alike =
      λ i. option_to_list ((take room other effect alike).shows viewer i)
      ++ all_show viewer (after room effect) (after other effect) effects
      (stay room other effect alike) i

  pub alike_do_alike : AlikeDoAlike
  unfolding after_deed shown_by
  alike_do_alike room other deed alike =
      let same = effects_alike room other deed alike in
      let before = titled_alike room other deed alike in
      record {
        effects = same;
        stays = subst (λ effects. AreAlikeRooms (after_all (titled room deed)
            (effects_of room deed)) (after_all (titled other deed) effects)) same
            (all_stay (titled room deed) (titled other deed) (effects_of room deed) before);
        shown = λ viewer.
            all_show viewer (titled room deed) (titled other deed) (effects_of room deed) before
            ∙ ap (shown_along viewer (titled other deed)) same;
      }

  deeds_stay : (room other : Room) (deeds : List Deed) → AreAlikeRooms room other
      → AreAlikeRooms (after_deeds room deeds) (after_deeds other deeds)
  deeds_stay room other [] alike = alike
  deeds_stay room other (deed ∷ deeds) alike = deeds_stay (after_deed room deed)
      (after_deed other deed) deeds ((alike_do_alike room other deed alike).stays)

  -- ---- what is read

  module _ (own : List ℕ) (far : List ℕ → Bool) where
    introduced_alike : (room other : Room) (user : User) → AreAlikeRooms room other
        → introduced own room user ≡ introduced own other user
    introduced_alike room other user alike =
        ap (λ (users : Table User). introduced own
        (record { users = users; channels = room.channels }) user) alike.users

    members_alike : (room other : Room) (channel : List ℕ)
        (members : List (List ℕ × Flags)) → AreAlikeRooms room other
        → new_members far room channel members ≡ new_members far other channel members
    members_alike room other channel [] alike = refl
    members_alike room other channel (member ∷ members) alike =
        let joining = members_alike (after_all room (member_comes channel member))
        (after_all other (member_comes channel member)) channel members
        (all_stay room other (member_comes channel member) alike) in
        let staying = members_alike room other channel members alike in
        λ i. if home_passes far (alike.users i) (key member.0)
        && not ((have room other alike).member member.0 channel i)
        then member ∷ joining i else staying i

    far_aside : (users : Table User) (found : Option Channel) → option_map_or
        (λ (c : Channel). list_any (home_passes far users) (keys c.members)) found false
        ≡ option_map_or (λ (c : Channel). list_any (home_passes far users) (keys c.members))
        (option_map uninviting found) false
    far_aside users None = refl
    far_aside users (Some channel) = refl

    some_far_alike : (room other : Room) (channel : List ℕ) → AreAlikeRooms room other
        → some_far far room channel ≡ some_far far other channel
    some_far_alike room other channel alike =
        far_aside room.users (row room.channels (key channel))
        ∙ (λ i. option_map_or (λ (c : Channel). list_any (home_passes far (alike.users i))
        (keys c.members)) (alike.channels (key channel) i) false)
        ∙ sym (far_aside other.users (row other.channels (key channel)))

    one_alike : (room other : Room) (deed : Deed) → AreAlikeRooms room other
        → read_deed own far room deed ≡ read_deed own far other deed
    one_alike room other (does (AddUser user)) alike = introduced_alike room other user alike
    one_alike room other (does (ChangeUser nick change)) alike =
        ap (λ (users : Table User). if is_some (row users (key nick))
        then does (ChangeUser nick change) ∷ [] else []) alike.users
    one_alike room other (does effect) alike = refl
    one_alike room other (gains uplink name info) alike = refl
    one_alike room other (loses server name text) alike = refl
    one_alike room other (kills server nick) alike = refl
    one_alike room other (brings server channel members) alike =
        ap (brought server channel) (members_alike room other channel members alike)
    one_alike room other (sets server channel changes) alike =
        ap (λ b. if b then sets server channel changes ∷ [] else [])
        (some_far_alike room other channel alike)
    one_alike room other (tops server channel topic) alike =
        ap (λ b. if b then tops server channel topic ∷ [] else [])
        (some_far_alike room other channel alike)

    read_alike : (room other : Room) (deeds : List Deed) → AreAlikeRooms room other
        → read_all own far room deeds ≡ read_all own far other deeds
    read_alike room other [] alike = refl
    read_alike room other (deed ∷ deeds) alike =
        ap (λ rest. read_deed own far room deed ++ rest)
        (read_alike (after_deeds room (read_deed own far room deed))
        (after_deeds other (read_deed own far room deed)) deeds
        (deeds_stay room other (read_deed own far room deed) alike))
        ∙ ap (λ now. now ++ read_all own far (after_deeds other now) deeds)
        (one_alike room other deed alike)

  pub alike_read_alike : AlikeReadAlike
  alike_read_alike own far room other alike = record {
    one = λ deed. one_alike own far room other deed alike;
    all = λ deeds. read_alike own far room other deeds alike;
  }

-- ---- one server's part of the room

-- an effect that invites nobody
abbrev InvitesNobody : Effect → Type 0
InvitesNobody (Invite by nick channel) = ⊥
InvitesNobody other = ⊤

all_append : (one other : List Effect) → AllByRecursion InvitesNobody one
    → AllByRecursion InvitesNobody other → AllByRecursion InvitesNobody (one ++ other)
all_append [] other all rest = rest
all_append (effect ∷ one) other all rest = (all.0, all_append one other all.1 rest)

quits_invite : (text : List ℕ) (users : List User)
    → AllByRecursion InvitesNobody (quits_of text users)
quits_invite text [] = tt
quits_invite text (user ∷ users) = (tt, quits_invite text users)

flag_invites : (has : Bool) (which : ModeLetter) (channel nick : List ℕ)
    → AllByRecursion InvitesNobody (flag_given has which channel nick)
flag_invites true which channel nick = (tt, tt)
flag_invites false which channel nick = tt

members_invite : (channel : List ℕ) (members : List (List ℕ × Flags))
    → AllByRecursion InvitesNobody (flat_map (member_comes channel) members)
members_invite channel [] = tt
members_invite channel (member ∷ members) =
    all_append (member_comes channel member) (flat_map (member_comes channel) members) (
      tt,
      all_append (flag_given member.1.op letter.Operator channel member.0)
          (flag_given member.1.voice letter.Voice channel member.0)
          (flag_invites member.1.op letter.Operator channel member.0)
          (flag_invites member.1.voice letter.Voice channel member.0),
    )
    (members_invite channel members)

at_all : (home : List ℕ) (room : Room) (effect : Effect) → InvitesNobody effect
    → after_at home room effect ≡ after room effect
at_all home room (Invite by nick channel) none = absurd none
at_all home room other none = refl

-- each effect can be done when its turn comes, as far as a room has to stay well formed
abbrev StaysWell : Room → Effect → Type 0
StaysWell room effect =
    (IsWellFormed room → IsWellFormed (after room effect)) × (brings_free room effect ≡ true)

users_at_home : (home : List ℕ) (room : Room) (name : List ℕ)
    → users_at name room ≡ users_at name (of_home home room)
unfolding of_home
users_at_home home room name = refl

-- what a channel has but who is invited is the same at each server
raised_at_home : (home : List ℕ) (room : Room) (channel : List ℕ) (changes : List ModeChange)
    → raised_in (of_home home room) channel changes ≡ raised_in room channel changes
raised_at_home home room channel changes =
    ap (λ o. option_map_or (λ (c : Channel). raising changes c.modes) o [])
    (home_row home room (key channel)) ∙ by_row (row room.channels (key channel))
  where
    by_row : (o : Option Channel) → option_map_or (λ (c : Channel). raising changes c.modes)
        (option_map (inviting_only (is_at home room.users)) o) []
        ≡ option_map_or (λ (c : Channel). raising changes c.modes) o []
    by_row None = refl
    by_row (Some c) = refl

greater_at_home : (home : List ℕ) (room : Room) (channel topic : List ℕ)
    → is_greater_topic (of_home home room) channel topic ≡ is_greater_topic room channel topic
greater_at_home home room channel topic =
    ap (λ o. option_map_or (λ (c : Channel). is_lt (bytes_cmp c.topic topic)) o false)
    (home_row home room (key channel)) ∙ by_row (row room.channels (key channel))
  where
    by_row : (o : Option Channel) → option_map_or (λ (c : Channel). is_lt (bytes_cmp c.topic topic))
        (option_map (inviting_only (is_at home room.users)) o) false
        ≡ option_map_or (λ (c : Channel). is_lt (bytes_cmp c.topic topic)) o false
    by_row None = refl
    by_row (Some c) = refl

module _ (follows : HomeFollows) where
  all_follow : (home : List ℕ) (room : Room) (effects : List Effect) → IsWellFormed room
      → AllByRecursion InvitesNobody effects → EachInTurn StaysWell room effects
      → of_home home (after_all room effects) ≡ after_all (of_home home room) effects
  all_follow home room [] well none stays = refl
  all_follow home room (effect ∷ effects) well none stays =
      all_follow home (after room effect) effects (stays.now.0 well) none.1 stays.later
      ∙ ap (λ r. after_all r effects) (follows home room effect well stays.now.1
      ∙ at_all home (of_home home room) effect none.0)

  quits_stay : (room : Room) (text : List ℕ) (users : List User)
      → EachInTurn StaysWell room (quits_of text users)
  quits_stay room text [] = tt
  quits_stay room text (user ∷ users) =
      record {
        now = (quit_well room user.nick text, refl);
        later = quits_stay (after room (Quit user.nick text)) text users;
      }

  possible_stay : (room : Room) (effects : List Effect) → EachInTurn IsPossible room effects
      → EachInTurn StaysWell room effects
  possible_stay room [] possible = tt
  possible_stay room (effect ∷ effects) possible = record {
    now = (λ well. after_is_well_formed room effect well possible.now, possible.now.nick_free);
    later = possible_stay (after room effect) effects possible.later;
  }

  made_follow : (home : List ℕ) (room : Room) (channel : List ℕ) (changes : List ModeChange)
      → IsWellFormed room → of_home home (after_all room (changes_made channel changes))
      ≡ after_all (of_home home room) (changes_made channel changes)
  made_follow home room channel [] well = refl
  made_follow home room channel (change ∷ changes) well =
      follows home room (ChangeModes by.Home channel (change ∷ changes)) well refl

  topic_follows : (home : List ℕ) (room : Room) (channel topic : List ℕ)
      → IsWellFormed room → (b : Bool)
      → of_home home (after_all room (if b then SetTopic by.Home channel topic ∷ [] else []))
      ≡ after_all (of_home home room) (if b then SetTopic by.Home channel topic ∷ [] else [])
  topic_follows home room channel topic well true =
      follows home room (SetTopic by.Home channel topic) well refl
  topic_follows home room channel topic well false = refl

  pub home_follows_deed : HomeFollowsDeed
  unfolding after_deed
  home_follows_deed home room (does effect) well can = follows home room effect well can
  home_follows_deed home room (gains uplink name info) well can = refl
  home_follows_deed home room (loses server name text) well can =
      all_follow home room (quits_of text (users_at name room)) well
      (quits_invite text (users_at name room)) (quits_stay room text (users_at name room))
      ∙ ap (λ users. after_all (of_home home room) (quits_of text users))
      (users_at_home home room name)
  home_follows_deed home room (kills server nick) well can =
      all_follow home room (Quit nick collision_text ∷ []) well (tt, tt)
      (record { now = (quit_well room nick collision_text, refl); later = tt })
  home_follows_deed home room (brings server channel members) well can =
      all_follow home (titled_by channel room) (flat_map (member_comes channel) members)
      (respelled_is_well_formed channel room well)
      (members_invite channel members) (possible_stay (titled_by channel room) _ can)
      ∙ ap (λ r. after_all r (flat_map (member_comes channel) members))
      (home_is_respelled home channel room)
  home_follows_deed home room (sets server channel changes) well can =
      made_follow home room channel (raised_in room channel changes) well
      ∙ ap (λ made. after_all (of_home home room) (changes_made channel made))
      (sym (raised_at_home home room channel changes))
  home_follows_deed home room (tops server channel topic) well can =
      topic_follows home room channel topic well (is_greater_topic room channel topic)
      ∙ ap (λ b. after_all (of_home home room) (if b then SetTopic by.Home channel topic ∷ []
      else [])) (sym (greater_at_home home room channel topic))
