-- A burst is read line by line: in the room that the lines before it have left, each line tells of
-- what the other side has. Whoever holds the nickname of a user who is introduced was there before
-- the burst.
use Rattle.std.proofs.Common.{◌≡◌, ℕ, ◌≤◌, Bool, true, false, cond, ◌⊎◌, inl, inr, Option, Some}
use Rattle.std.proofs.Common.{None, List, [], ◌∷◌, ◌++◌, length, refl, sym, ◌∙◌, ap, subst, is_some}
use Rattle.std.proofs.Common.{map, option_map, arith}
use Rattle.std.proofs.lemmas.Bool.{and_parts}
use Rattle.std.proofs.lemmas.List.{append-nil, length-append}
use Rattle.std.specs.Bool.{⊤}
use Rattle.std.specs.FinMap.{entries, entries_sorted, values, find, get-entries, is_sorted}
use Rattle.std.specs.List.{flat_map, AllByRecursion}
use Rattle.std.specs.Option.{option_map_or}
use Rattle.std.proofs.Math.Bool.{false≢true}
use Rattle.std.proofs.lemmas.Option.{none-some, same_Some}
use Rattle.irc_names.specs.Lemmas.PlainFacts.{is_true}
use Rattle.irc_channels.specs.declared.flags.Flags.{Flags}
use Rattle.irc_follow.specs.Lemmas.DeedEffects.{members_quiet, sets_quiet, tops_quiet, users_stay}
use Rattle.irc_merge.specs.Lemmas.DoableDeeds.{deeds_well}
use Rattle.irc_merge.specs.BurstRead.{introduced, new_members, brought, some_far, read_deed}
use Rattle.irc_merge.specs.BurstRead.{read_all}
use Rattle.irc_merge.specs.Bursts.{burst, user_deeds, own_deeds, change_deeds, people_deeds}
use Rattle.irc_merge.specs.Bursts.{channel_deeds}
use Rattle.irc_merge.specs.Lemmas.BareUsers.{bare, bare_deeds, bare_sorted, bare_named}
use Rattle.irc_merge.specs.Lemmas.BareUsers.{introduced_row}
use Rattle.irc_merge.specs.Lemmas.Reading.{reads, reads-one}
use Rattle.irc_merge.specs.CanBeDone.{IsOfBurst, LinesCanBeDone}
use Rattle.irc_merge.specs.Deeds.{Deed, does, kills, brings, sets, tops, member_comes, effects_of}
use Rattle.irc_merge.specs.Deeds.{after_deed, after_deeds}
use Rattle.irc_merge.specs.Laws.{AreApart}
use Rattle.irc_merge.specs.Lemmas.Introducing.{introductions, told_user}
use Rattle.irc_merge.specs.Lemmas.TableWords.{above_first, entries_all, first_there}
use Rattle.irc_modes.specs.declared.modes.ModeChange.{ModeChange}
use Rattle.irc_names.specs.Fold.{key}
use Rattle.irc_names.specs.Tables.{fold_cmp, row}
use Rattle.irc_names.specs.TableLaws.{same_fold, one_fold, row-alter}
use Rattle.irc_room.specs.After.{after, titled_by}
use Rattle.irc_room.specs.Effects.{has_user}
use Rattle.irc_room.specs.effect.Effect.TheVariants.{AddUser, ChangeUser}
use Rattle.irc_room.specs.Lemmas.ViewerLaws.{IsNamed, table_named}
use Rattle.irc_room.specs.Limits.{IsWithinLimits}
use Rattle.irc_room.specs.Room.{Room, IsWellFormed}
use Rattle.irc_room.specs.Sendable.{IsStoredNick}
use Rattle.irc_users.specs.declared.user.User.{User}
use Rattle.irc_users.specs.declared.user_change.UserChange.{UserChange}
use Rattle.irc_users.specs.ChangesTold.{as_introduced, changes_of}
use Rattle.irc_users.specs.UserTable.{with_change}
use Rattle.irc_items.proofs.Burst.ChannelLines.{deeds_of_channels, IsOfChannel}
use Rattle.irc_items.proofs.Burst.Stated.{both_all, burst_is_told}
use Rattle.irc_items.proofs.Burst.Told.{IsTold, IsTheirs, IsTheirUser, AreTheirs}
use Rattle.irc_items.proofs.Link.Sides.{IsReadDeed}

pub record IsToldIn (server : List ℕ) (far : List ℕ → Bool) (other room : Room)
    (deed : Deed) : Type 0 where
  pub well : IsWellFormed room
  pub theirs : AreTheirs far other room
  pub told : IsTold server other deed

-- each of some lines is told so, in the room that those before it have left
abbrev pub AreToldIn : List ℕ → List ℕ → (List ℕ → Bool) → Room → Room → List Deed → Type 0
AreToldIn own server far other room [] = ⊤
AreToldIn own server far other room (deed ∷ deeds) =
    IsToldIn server far other room deed
    × AreToldIn own server far other (after_deeds room (read_deed own far room deed)) deeds

-- ---- what is read of a line

-- no deed, or one, which is the line or a KILL
record IsReadAsOne (own : List ℕ) (read : List Deed) : Type 0 where
  after : Deed
  is : read ≡ after ∷ []
  read_so : IsReadDeed own after

abbrev IsReadAs : List ℕ → List Deed → Type 0
IsReadAs own read = (read ≡ []) ⊎ IsReadAsOne own read

introduced_one : (own : List ℕ) (room : Room) (user : User)
    → IsReadAs own (introduced own room user)
introduced_one own room user = by_row (row room.users (key user.nick))
  where
    by_row : (o : Option User) → IsReadAs own
        (option_map_or (λ (holder : User). kills own holder.nick ∷ []) o (does (AddUser user) ∷ []))
    by_row None = inr (record { after = does (AddUser user); is = refl; read_so = tt })
    by_row (Some holder) = inr (record { after = kills own holder.nick; is = refl; read_so = refl })

brought_one : (own server channel : List ℕ) (members : List (List ℕ × Flags))
    → IsReadAs own (brought server channel members)
brought_one own server channel [] = inl refl
brought_one own server channel (member ∷ members) =
    inr (record { after = brings server channel (member ∷ members); is = refl; read_so = tt })

if_one : (own : List ℕ) (b : Bool) (deed : Deed) → IsReadDeed own deed
    → IsReadAs own (cond b (deed ∷ []) [])
if_one own true deed so = inr (record { after = deed; is = refl; read_so = so })
if_one own false deed so = inl refl

read_as : (own server : List ℕ) (far : List ℕ → Bool) (other room : Room) (deed : Deed)
    → IsToldIn server far other room deed → IsReadAs own (read_deed own far room deed)
read_as own server far other room (does (AddUser user)) told = introduced_one own room user
read_as own server far other room (does (ChangeUser nick change)) told =
    if_one own (has_user room nick) (does (ChangeUser nick change)) tt
read_as own server far other room (brings by channel members) told =
    brought_one own by channel (new_members far room channel members)
read_as own server far other room (sets by channel changes) told =
    if_one own (some_far far room channel) (sets by channel changes) tt
read_as own server far other room (tops by channel topic) told =
    if_one own (some_far far room channel) (tops by channel topic) tt
read_as own server far other room deed told = absurd told.told

-- ---- what it leaves

of_burst : (server : List ℕ) (other : Room) (deed : Deed) → IsTold server other deed
    → IsOfBurst deed
of_burst server other (does (AddUser user)) told = tt
of_burst server other (does (ChangeUser nick change)) told = tt
of_burst server other (brings by channel members) told = tt
of_burst server other (sets by channel changes) told = tt
of_burst server other (tops by channel topic) told = tt
of_burst server other deed told = absurd told

read_well : LinesCanBeDone → (own : List ℕ) (far : List ℕ → Bool)
    (room : Room) (deed : Deed) → IsOfBurst deed → IsWellFormed room
    → IsWellFormed (after_deeds room (read_deed own far room deed))
read_well doable own far room deed is well =
    let read = read_deed own far room deed ++ [] in
    subst IsWellFormed (ap (after_deeds room) (append-nil (read_deed own far room deed)))
    (deeds_well room read (doable own far room (deed ∷ []) (is, tt) well) well)

-- lines about channels bring no user
brought_users : (room : Room) (server channel : List ℕ) (members : List (List ℕ × Flags))
    → (after_deeds room (brought server channel members)).users ≡ room.users
unfolding after_deed
brought_users room server channel [] = refl
brought_users room server channel (member ∷ members) =
    users_stay (titled_by channel room) (flat_map (member_comes channel) (member ∷ members))
    (members_quiet channel (member ∷ members))

set_users : (room : Room) (b : Bool) (server channel : List ℕ) (changes : List ModeChange)
    → (after_deeds room (cond b (sets server channel changes ∷ []) [])).users ≡ room.users
unfolding after_deed
set_users room true server channel changes =
    users_stay room (effects_of room (sets server channel changes))
    (sets_quiet room server channel changes)
set_users room false server channel changes = refl

topped_users : (room : Room) (b : Bool) (server channel topic : List ℕ)
    → (after_deeds room (cond b (tops server channel topic ∷ []) [])).users ≡ room.users
unfolding after_deed
topped_users room true server channel topic =
    users_stay room (effects_of room (tops server channel topic))
    (tops_quiet room server channel topic)
topped_users room false server channel topic = refl

-- whoever is introduced stands in the room where the nickname was free, nobody does where it was
-- held, and all others stay
user_row : (own : List ℕ) (room : Room) (user : User) → IsWellFormed room → (q : List ℕ)
    → row (after_deeds room (introduced own room user)).users q
    ≡ cond (same_fold q (key user.nick)) (told_user (row room.users (key user.nick)) (Some user))
    (row room.users q)
unfolding after_deed after
user_row own room user well q = by_row (row room.users (key user.nick)) refl
  where
    by_row : (o : Option User) → row room.users (key user.nick) ≡ o
        → row (after_deeds room (option_map_or (λ (holder : User). kills own holder.nick ∷ []) o
        (does (AddUser user) ∷ []))).users q
        ≡ cond (same_fold q (key user.nick)) (told_user o (Some user)) (row room.users q)
    by_row None at = row-alter (key user.nick) (λ _. Some user) room.users q
    by_row (Some holder) at =
        row-alter (key holder.nick) (λ _. None) room.users q
        ∙ ap (λ f. cond (same_fold q f) None (row room.users q))
        (well.users_named (key user.nick) holder at)

same_theirs : (far : List ℕ → Bool) (other room now : Room) → now.users ≡ room.users
    → AreTheirs far other room → AreTheirs far other now
same_theirs far other room now users theirs fold user is away =
    theirs fold user (ap (λ us. row us fold) (sym users) ∙ is) away

user_theirs : (own : List ℕ) (far : List ℕ → Bool) (other room : Room) (user : User)
    → IsWellFormed room → IsTheirUser other user → AreTheirs far other room
    → AreTheirs far other (after_deeds room (introduced own room user))
user_theirs own far other room user well they theirs q found is away =
    by_fold (same_fold q (key user.nick)) refl (row room.users (key user.nick))
    (sym (user_row own room user well q) ∙ is)
  where
    by_fold : (b : Bool) → same_fold q (key user.nick) ≡ b → (o : Option User) → cond b
        (told_user o (Some user)) (row room.users q) ≡ Some found → IsTheirs other q found
    by_fold true one None at = record {
      their = they.their;
      there = ap (row other.users) (one_fold q (key user.nick) one) ∙ they.there;
      same_nick = ap (λ (u : User). u.nick) (sym (same_Some user found at))
          ∙ ap (λ (u : User). u.nick) (sym they.bare);
    }
    by_fold true one (Some holder) at = absurd (none-some found at)
    by_fold false two o at = theirs q found at away

-- a change leaves each user its nickname and its home
change_theirs : (far : List ℕ → Bool) (other room : Room) (b : Bool) (nick : List ℕ)
    (change : UserChange) → AreTheirs far other room
    → AreTheirs far other (after_deeds room (cond b (does (ChangeUser nick change) ∷ []) []))
unfolding after_deed after
change_theirs far other room false nick change theirs q found is away = theirs q found is away
change_theirs far other room true nick change theirs q found is away =
    by_fold (same_fold q (key nick)) refl (row room.users (key nick)) refl
    (sym (row-alter (key nick) (option_map (with_change change)) room.users q) ∙ is)
  where
    by_fold : (b : Bool) → same_fold q (key nick) ≡ b → (o : Option User)
        → row room.users (key nick) ≡ o
        → cond b (option_map (with_change change) o) (row room.users q) ≡ Some found
        → IsTheirs other q found
    by_fold true one None at none = absurd (none-some found none)
    by_fold true one (Some user) at some =
        let made : with_change change user ≡ found =
        same_Some (with_change change user) found some in
        let they = theirs (key nick) user at
        (ap (λ (u : User). far u.home) made ∙ away) in
        record {
          their = they.their;
          there = ap (row other.users) (one_fold q (key nick) one) ∙ they.there;
          same_nick = ap (λ (u : User). u.nick) (sym made) ∙ they.same_nick;
        }
    by_fold false two o at there = theirs q found there away

pub read_theirs : (own server : List ℕ) (far : List ℕ → Bool)
    (other room : Room) (deed : Deed) → IsToldIn server far other room deed
    → AreTheirs far other (after_deeds room (read_deed own far room deed))
read_theirs own server far other room (does (AddUser user)) told =
    user_theirs own far other room user told.well told.told told.theirs
read_theirs own server far other room (does (ChangeUser nick change)) told =
    change_theirs far other room (has_user room nick) nick change told.theirs
read_theirs own server far other room (brings by channel members) told =
    same_theirs far other room
    (after_deeds room (brought by channel (new_members far room channel members)))
    (brought_users room by channel (new_members far room channel members)) told.theirs
read_theirs own server far other room (sets by channel changes) told =
    same_theirs far other room
    (after_deeds room (cond (some_far far room channel) (sets by channel changes ∷ []) []))
    (set_users room (some_far far room channel) by channel changes) told.theirs
read_theirs own server far other room (tops by channel topic) told =
    same_theirs far other room
    (after_deeds room (cond (some_far far room channel) (tops by channel topic ∷ []) []))
    (topped_users room (some_far far room channel) by channel topic) told.theirs
read_theirs own server far other room deed told = absurd told.told

-- ---- all lines

told_in : LinesCanBeDone → (own server : List ℕ) (far : List ℕ → Bool) (other : Room)
    (deeds : List Deed) → AllByRecursion (IsTold server other) deeds → (room : Room)
    → IsWellFormed room → AreTheirs far other room → AreToldIn own server far other room deeds
told_in doable own server far other [] told room well theirs = tt
told_in doable own server far other (deed ∷ deeds) told room well theirs =
    let now : IsToldIn server far other room deed =
    record { well = well; theirs = theirs; told = told.0 } in (
      now,
      told_in doable own server far other deeds told.1
          (after_deeds room (read_deed own far room deed))
          (read_well doable own far room deed (of_burst server other deed told.0) well)
          (read_theirs own server far other room deed now),
    )

-- whoever is far is of the other room, where nobody here is far
nobody_far : (far : List ℕ → Bool) (room other : Room) → AreApart far room other
    → AreTheirs far other room
nobody_far far room other apart fold user is away =
    absurd (false≢true (sym (apart.near fold user is) ∙ away))

pub burst_told_in : LinesCanBeDone → (own server : List ℕ) (far : List ℕ → Bool) (room other : Room)
    → IsWellFormed room → IsWellFormed other → IsWithinLimits other
    → AreApart far room other → AreToldIn own server far other room (burst server other)
burst_told_in doable own server far room other well well_other within apart =
    told_in doable own server far other (burst server other)
    (burst_is_told server other well_other within) room well (nobody_far far room other apart)

-- ---- how much is read, and what

module _ (own server : List ℕ) (far : List ℕ → Bool) (other : Room) where
  one_or_none : (read : List Deed) → IsReadAs own read → length read ≤ 1
  one_or_none read (inl none) = let long = ap length none in omega (arith, long)
  one_or_none read (inr one) = let long = ap length one.is in omega (arith, long)

  pub read_at_most : (deeds : List Deed) (room : Room) → AreToldIn own server far other room deeds
      → length (read_all own far room deeds) ≤ length deeds
  read_at_most [] room told = omega arith
  read_at_most (deed ∷ deeds) room told =
      let first = one_or_none (read_deed own far room deed)
      (read_as own server far other room deed told.0) in
      let later = read_at_most deeds (after_deeds room (read_deed own far room deed)) told.1 in
      let both = length-append (read_deed own far room deed)
      (read_all own far (after_deeds room (read_deed own far room deed)) deeds) in
      omega (arith, both, first, later)

  each_read : (read : List Deed) → IsReadAs own read → AllByRecursion (IsReadDeed own) read
  each_read read (inl none) = subst (AllByRecursion (IsReadDeed own)) (sym none) tt
  each_read read (inr one) = subst (AllByRecursion (IsReadDeed own)) (sym one.is) (one.read_so, tt)

pub reads_deeds : (own server : List ℕ) (far : List ℕ → Bool) (other room : Room)
    (deeds : List Deed) → AreToldIn own server far other room deeds
    → AllByRecursion (IsReadDeed own) (read_all own far room deeds)
reads_deeds own server far other room [] told = tt
reads_deeds own server far other room (deed ∷ deeds) told =
    both_all (IsReadDeed own) (read_deed own far room deed)
    (read_all own far (after_deeds room (read_deed own far room deed)) deeds)
    (each_read own server far other (read_deed own far room deed)
    (read_as own server far other room deed told.0))
    (reads_deeds own server far other (after_deeds room (read_deed own far room deed)) deeds told.1)

pub no_more_read : LinesCanBeDone → (own server : List ℕ) (far : List ℕ → Bool) (room other : Room)
    → IsWellFormed room → IsWellFormed other → IsWithinLimits other → AreApart far room other
    → length (read_all own far room (burst server other)) ≤ length (burst server other)
no_more_read doable own server far room other well well_other within apart =
    read_at_most own server far other (burst server other) room
    (burst_told_in doable own server far room other well well_other within apart)

-- ---- whoever holds a nickname

-- whoever holds the nickname of a user who is introduced, in the room at that moment
pub record IsHeldBy (room other : Room) (user holder : User) : Type 0 where
  pub there : row room.users (key user.nick) ≡ Some holder
  pub stored : IsStoredNick room holder.nick
  pub same_key : key holder.nick ≡ key user.nick

pub held_by : (own server : List ℕ) (far : List ℕ → Bool) (other room : Room) (user holder : User)
    → IsToldIn server far other room (does (AddUser user))
    → row room.users (key user.nick) ≡ Some holder → IsHeldBy room other user holder
held_by own server far other room user holder told at =
    let same : key holder.nick ≡ key user.nick = told.well.users_named (key user.nick) holder at in
    record {
      there = at;
      stored = ap (λ f. option_map (λ (u : User). u.nick) (row room.users f)) same
          ∙ ap (option_map (λ (u : User). u.nick)) at;
      same_key = same;
    }

-- whoever holds that nickname held it at the start, and whoever has one of which a change is told
-- is behind the link
abbrev pub IsHeldFirst : (List ℕ → Bool) → Room → Room → Deed → Type 0
IsHeldFirst far start room (does (AddUser user)) =
    (holder : User) → row room.users (key user.nick) ≡ Some holder
    → row start.users (key user.nick) ≡ Some holder
IsHeldFirst far start room (does (ChangeUser nick change)) =
    (holder : User) → row room.users (key nick) ≡ Some holder → far holder.home ≡ true
IsHeldFirst far start room deed = ⊤

-- so of each of some lines, in the room that those before it have left
abbrev pub AreHeldFirst : List ℕ → (List ℕ → Bool) → Room → Room → List Deed → Type 0
AreHeldFirst own far start room [] = ⊤
AreHeldFirst own far start room (deed ∷ deeds) =
    IsHeldFirst far start room deed
    × AreHeldFirst own far start (after_deeds room (read_deed own far room deed)) deeds

-- ---- users come in folded order, each once

module _ (own : List ℕ) (far : List ℕ → Bool) (start : Room) where
  held_so : (room : Room) (deed : Deed) → IsOfChannel deed → IsHeldFirst far start room deed
  held_so room (does effect) nobody = absurd nobody
  held_so room deed nobody = tt

  others_held : (deeds : List Deed) → AllByRecursion IsOfChannel deeds → (room : Room)
      → AreHeldFirst own far start room deeds
  others_held [] nobody room = tt
  others_held (deed ∷ deeds) nobody room = (
    held_so room deed nobody.0,
    others_held deeds nobody.1 (after_deeds room (read_deed own far room deed)),
  )

  both_held : (a b : List Deed) (room : Room) → AreHeldFirst own far start room a
      → AreHeldFirst own far start (reads own far room a) b
      → AreHeldFirst own far start room (a ++ b)
  both_held [] b room first second = second
  both_held (deed ∷ a) b room first second = (
    first.0,
    both_held a b (after_deeds room (read_deed own far room deed)) first.1
        (subst (λ r. AreHeldFirst own far start r b) (reads-one own far room deed a) second),
  )

  -- whoever is there under a fold is behind the link, and stays so
  abbrev IsFarRow : Room → List ℕ → Type 0
  IsFarRow room fold = (holder : User) → row room.users fold ≡ Some holder → far holder.home ≡ true

  far_stays : (room : Room) (nick : List ℕ) (change : UserChange) (fold : List ℕ)
      → IsFarRow room fold
      → IsFarRow (after_deeds room (read_deed own far room (does (ChangeUser nick change)))) fold
  unfolding after_deed after
  far_stays room nick change fold is = by (has_user room nick)
    where
      by_fold : (b : Bool) → same_fold fold (key nick) ≡ b → (o : Option User)
          → row room.users (key nick) ≡ o → (holder : User)
          → cond b (option_map (with_change change) o) (row room.users fold) ≡ Some holder
          → far holder.home ≡ true
      by_fold true one None at holder none = absurd (none-some holder none)
      by_fold true one (Some user) at holder some =
          ap (λ (u : User). far u.home) (sym (same_Some (with_change change user) holder some))
          ∙ is user (ap (row room.users) (one_fold fold (key nick) one) ∙ at)
      by_fold false two o at holder there = is holder there

      by : (b : Bool)
          → IsFarRow (after_deeds room (cond b (does (ChangeUser nick change) ∷ []) [])) fold
      by false = is
      by true = λ holder at. by_fold (same_fold fold (key nick)) refl (row room.users (key nick))
          refl holder
          (sym (row-alter (key nick) (option_map (with_change change)) room.users fold) ∙ at)

  own_stays : (nick : List ℕ) (changes : List UserChange) (room : Room) (fold : List ℕ)
      → IsFarRow room fold
      → IsFarRow (reads own far room (map (λ change. does (ChangeUser nick change)) changes)) fold
  own_stays nick [] room fold is = is
  own_stays nick (change ∷ changes) room fold is =
      let later = map (λ change. does (ChangeUser nick change)) changes in
      subst (λ r. IsFarRow r fold)
      (sym (reads-one own far room (does (ChangeUser nick change)) later))
      (own_stays nick changes
      (after_deeds room (read_deed own far room (does (ChangeUser nick change)))) fold
      (far_stays room nick change fold is))

  own_held : (nick : List ℕ) (changes : List UserChange) (room : Room) → IsFarRow room (key nick)
      → AreHeldFirst own far start room (map (λ change. does (ChangeUser nick change)) changes)
  own_held nick [] room is = tt
  own_held nick (change ∷ changes) room is = (
    is,
    own_held nick changes
        (after_deeds room (read_deed own far room (does (ChangeUser nick change))))
        (far_stays room nick change (key nick) is),
  )

  all_stay : (nick : List ℕ) (changes : List UserChange) (room : Room) (users : List User)
      → AllByRecursion (λ (user : User). IsFarRow room (key user.nick)) users
      → AllByRecursion (λ (user : User). IsFarRow
      (reads own far room (map (λ change. does (ChangeUser nick change)) changes)) (key user.nick))
      users
  all_stay nick changes room [] all = tt
  all_stay nick changes room (user ∷ users) all = (
    own_stays nick changes room (key user.nick) all.0,
    all_stay nick changes room users all.1,
  )

  changes_held : (users : List User) (room : Room)
      → AllByRecursion (λ (user : User). IsFarRow room (key user.nick)) users
      → AreHeldFirst own far start room (flat_map own_deeds users)
  changes_held [] room all = tt
  changes_held (user ∷ users) room all =
      both_held (own_deeds user) (flat_map own_deeds users) room
      (own_held user.nick (changes_of user) room all.0)
      (changes_held users (reads own far room (own_deeds user))
      (all_stay user.nick (changes_of user) room users all.1))

  -- what was held of the nicknames that are still to come is held
  users_held : LinesCanBeDone → (es : List (List ℕ × User)) → is_sorted fold_cmp es ≡ true
      → AllByRecursion IsNamed es → (room : Room) → IsWellFormed room
      → ((q : List ℕ) → is_some (find fold_cmp q es) ≡ true → row room.users q ≡ row start.users q)
      → AreHeldFirst own far start room (introductions es)
  users_held doable [] rise named room well still = tt
  users_held doable (e ∷ es) rise named room well still =
      let parts = and_parts _ _ rise in
      let here : row room.users (key e.1.nick) ≡ row start.users (key e.1.nick) =
      subst (λ f. row room.users f ≡ row start.users f) (sym named.0) (still e.0 (first_there e es))
      in (
        (λ holder at. sym here ∙ at),
        users_held doable es parts.1 named.1 (after_deeds room (introduced own room e.1))
            (read_well doable own far room (does (AddUser e.1)) tt well)
            (λ q there.
            let apart : same_fold q e.0 ≡ false = above_first q e es parts.0 there in
            user_row own room e.1 well q
            ∙ ap (λ f. cond (same_fold q f) (told_user (row room.users (key e.1.nick)) (Some e.1))
            (row room.users q)) named.0
            ∙ ap (λ b. cond b (told_user (row room.users (key e.1.nick)) (Some e.1))
            (row room.users q)) apart
            ∙ still q (ap (λ b. is_some (cond b (Some e.1) (find fold_cmp q es))) apart ∙ there)),
      )

values_all : {X : Type 0} (P : X → Type 0) (es : List (List ℕ × X))
    → AllByRecursion (λ e. P e.1) es → AllByRecursion P (map (λ e. e.1) es)
values_all P [] all = tt
values_all P (e ∷ es) all = (all.0, values_all P es all.1)

-- who was introduced is there, behind the link, or nobody is
introduced_far : (own : List ℕ) (far : List ℕ → Bool) (room other : Room) → IsWellFormed room
    → IsWellFormed other → AreApart far room other
    → AllByRecursion (λ (user : User). (holder : User)
    → row (reads own far room (user_deeds other)).users (key user.nick) ≡ Some holder
    → far holder.home ≡ true) (values other.users)
introduced_far own far room other well well_other apart =
    values_all (λ (user : User). (holder : User)
    → row (reads own far room (user_deeds other)).users (key user.nick) ≡ Some holder
    → far holder.home ≡ true) (entries other.users)
    (entries_all (λ fold user. (holder : User)
    → row (reads own far room (user_deeds other)).users (key user.nick) ≡ Some holder
    → far holder.home ≡ true) (entries other.users) each (is_true _ (entries_sorted other.users)))
  where
    by_rows : (user : User) → far user.home ≡ true → (o : Option User) (holder : User)
        → told_user o (Some (as_introduced user)) ≡ Some holder → far holder.home ≡ true
    by_rows user away None holder is =
        ap (λ (u : User). far u.home) (sym (same_Some (as_introduced user) holder is)) ∙ away
    by_rows user away (Some mine) holder is = absurd (none-some holder is)

    each : (fold : List ℕ) (user : User) → find fold_cmp fold (entries other.users) ≡ Some user
        → (holder : User)
        → row (reads own far room (user_deeds other)).users (key user.nick) ≡ Some holder
        → far holder.home ≡ true
    each fold user found holder is =
        let at : row other.users fold ≡ Some user = get-entries other.users fold ∙ found in
        by_rows user (apart.behind fold user at) (row room.users fold) holder
        (sym (ap (λ o. told_user (row room.users fold) (option_map as_introduced o)) at)
        ∙ sym (introduced_row own far room other well well_other fold)
        ∙ ap (row (reads own far room (user_deeds other)).users)
        (sym (well_other.users_named fold user at))
        ∙ is)

pub held_first : LinesCanBeDone → (own server : List ℕ) (far : List ℕ → Bool) (room other : Room)
    → IsWellFormed room → IsWellFormed other → AreApart far room other
    → AreHeldFirst own far room room (burst server other)
unfolding burst
held_first doable own server far room other well well_other apart =
    both_held own far room (people_deeds other)
    (flat_map (channel_deeds server other.users) (values other.channels)) room
    (both_held own far room (user_deeds other) (change_deeds other) room
    (subst (AreHeldFirst own far room room) (sym (bare_deeds (entries other.users)))
    (users_held own far room doable (bare (entries other.users))
    (bare_sorted (entries other.users) ∙ is_true _ (entries_sorted other.users))
    (bare_named (entries other.users) (table_named other.users well_other.users_named)) room well
    (λ q there. refl)))
    (changes_held own far room (values other.users) (reads own far room (user_deeds other))
    (introduced_far own far room other well well_other apart)))
    (others_held own far room
    (flat_map (channel_deeds server other.users) (values other.channels))
    (deeds_of_channels server other.users (values other.channels))
    (reads own far room (people_deeds other)))
