-- Each line of a burst tells of what the room has of which it is told: its users, what they have
-- set, and of each channel the members, the modes, the bans and the topic.
use Rattle.std.proofs.Common.{◌≡◌, ℕ, ◌+◌, ◌*◌, ◌-◌, ◌<◌, ◌≤◌, Bool, true, false, ◌&&◌}
use Rattle.std.proofs.Common.{if◌then◌else◌, Option, Some, None, IfSome, suc, zero, List, [], ◌∷◌}
use Rattle.std.proofs.Common.{◌++◌, length, map, take, drop, decimal, filter_map, refl, sym, ◌∙◌}
use Rattle.std.proofs.Common.{ap, subst, arith}
use Rattle.std.proofs.Math.Nat.{suc-mul}
use Rattle.std.proofs.lemmas.Grind.{div_ceil_times}
use Rattle.std.proofs.lemmas.List.{length-drop, length-take, length-map, take-map, drop-map}
use Rattle.std.specs.Cmp.{first_so, second_so}
use Rattle.std.specs.FinMap.{entries, entries_sorted, values, get-entries}
use Rattle.std.specs.Int.{div_ceil}
use Rattle.std.specs.List.{cons_option, flat_map, list_all, AllByRecursion}
use Rattle.std.specs.Option.{option_map, option_map_or}
use Rattle.std.specs.Simd.{first_chunks}
use Rattle.irc_names.specs.Lemmas.PlainFacts.{is_true}
use Rattle.irc_acts.specs.CarriedWords.{digits_carried, key_carried}
use Rattle.irc_channels.specs.declared.channel.Channel.{Channel}
use Rattle.irc_channels.specs.declared.flags.Flags.{Flags}
use Rattle.irc_line.specs.Carried.{is_carried, IsCarried}
use Rattle.irc_merge.specs.Bursts.{in_lines, members_a_line, bans_a_line, user_deeds, stored_member}
use Rattle.irc_merge.specs.Bursts.{own_deeds, change_deeds, people_deeds}
use Rattle.irc_merge.specs.Bursts.{stored_members, settings_line, topic_line, channel_deeds, burst}
use Rattle.irc_merge.specs.Deeds.{does, brings, sets, tops}
use Rattle.irc_merge.specs.Lemmas.TableWords.{entries_all}
use Rattle.irc_modes.specs.Lemmas.SetReadable.{set_is_readable, bans_are_readable}
use Rattle.irc_modes.specs.Lemmas.LimitFacts.{limit-digits}
use Rattle.irc_modes.specs.Lemmas.LimitText.{limit_written}
use Rattle.irc_modes.specs.Modes.{is_nil}
use Rattle.irc_modes.specs.declared.modes.Modes.{Modes}
use Rattle.irc_modes.specs.ModesSet.{AreWithinLimits, IsLimit, set, flag_set, privacy_set, key_set}
use Rattle.irc_modes.specs.ModesSet.{limit_set, set_changes, ban_changes}
use Rattle.irc_modes.specs.Readable.{AreReadable}
use Rattle.irc_modes.specs.declared.modes.ModeChange.{ModeChange}
use Rattle.irc_modes.specs.declared.modes.ModeLetter.{ModeLetter}
use Rattle.irc_modes.specs.declared.modes.ModeLetter.TheVariants as letter
use Rattle.irc_modes.specs.declared.modes.Privacy.{Privacy}
use Rattle.irc_modes.specs.declared.modes.Privacy.TheVariants.{Public, Private, Secret}
use Rattle.irc_names.specs.Fold.{key}
use Rattle.irc_names.specs.Names.{IsChannel, is_ban_mask, IsKey}
use Rattle.irc_names.specs.Tables.{row}
use Rattle.irc_names.specs.UserTexts.{IsAway}
use Rattle.irc_room.specs.effect.Effect.TheVariants.{AddUser, ChangeUser}
use Rattle.irc_room.specs.Limits.{IsBanCarried, IsChangeWithin, IsChannelWithin, IsUserWithin}
use Rattle.irc_room.specs.Limits.{IsWithinLimits}
use Rattle.irc_room.specs.Room.{Room, IsWellFormed}
use Rattle.irc_room.specs.Sendable.{IsSentChange}
use Rattle.irc_users.specs.declared.user.User.{User}
use Rattle.irc_users.specs.declared.user_change.UserChange.{UserChange}
use Rattle.irc_users.specs.declared.user_change.UserChange.TheVariants.{Away}
use Rattle.irc_users.specs.ChangesTold.{as_introduced, changes_of}
use Rattle.irc_users.specs.Lemmas.ChangesMeet.{told_unseen}
use Rattle.irc_users.specs.UserTable.{is_shown}
use Rattle.irc_items.proofs.Burst.Told.{IsTheirUser, IsTheirMember, AreTheirChanges, IsTheirTopic}
use Rattle.irc_items.proofs.Burst.Told.{IsTold}

-- ---- lists

pub both_all : {X : Type 0} (P : X → Type 0) (a b : List X) → AllByRecursion P a
    → AllByRecursion P b → AllByRecursion P (a ++ b)
both_all P [] b one other = other
both_all P (x ∷ a) b one other = (one.0, both_all P a b one.1 other)

all_taken : {X : Type 0} (P : X → Type 0) (n : ℕ) (xs : List X) → AllByRecursion P xs
    → AllByRecursion P (take n xs)
all_taken P zero xs all = tt
all_taken P (suc n) [] all = tt
all_taken P (suc n) (x ∷ xs) all = (all.0, all_taken P n xs all.1)

all_left : {X : Type 0} (P : X → Type 0) (n : ℕ) (xs : List X) → AllByRecursion P xs
    → AllByRecursion P (drop n xs)
all_left P zero xs all = all
all_left P (suc n) [] all = tt
all_left P (suc n) (x ∷ xs) all = all_left P n xs all.1

-- a line of some things, each of which is so: there are some, and not too many
record IsLine {X : Type 0} (n : ℕ) (P : X → Type 0) (line : List X) : Type 0 where
  some : is_nil line ≡ false
  few : length line ≤ n
  each : AllByRecursion P line

taken_some : {X : Type 0} (n : ℕ) (xs : List X) → 0 < n → 0 < length xs → is_nil (take n xs) ≡ false
taken_some zero xs some more = absurd (omega (arith, some))
taken_some (suc n) [] some more = absurd (omega (arith, more))
taken_some (suc n) (x ∷ xs) some more = refl

taken_few : {X : Type 0} (n : ℕ) (xs : List X) → length (take n xs) ≤ n
taken_few n xs = let long = length-take n xs in omega (arith, long)

-- what is left when a line more was taken, of lines that hold so many
more_left : (m n l whole : ℕ) → whole ≡ m + n → whole < l + n → m < l
more_left m n l whole is h = omega (arith, is, h)

still_left : (m n l left : ℕ) → left ≡ l - n → m < l → m < left + n
still_left m n l left is h = omega (arith, is, h)

module _ {X : Type 0} (n : ℕ) (P : X → Type 0) where
  chunks_are : (k : ℕ) (xs : List X) → 0 < n → k * n < length xs + n → AllByRecursion P xs
      → AllByRecursion (IsLine n P) (first_chunks n k xs)
  chunks_are zero xs some short all = tt
  chunks_are (suc k) xs some short all =
      let left : k * n < length xs =
      more_left (k * n) n (length xs) (suc k * n) (suc-mul k n) short in
      let more : 0 < length xs = omega (arith, left) in (
        record {
          some = taken_some n xs some more;
          few = taken_few n xs;
          each = all_taken P n xs all;
        },
        chunks_are k (drop n xs) some (still_left (k * n) n (length xs) (length (drop n xs))
            (length-drop n xs) left) (all_left P n xs all),
      )

  lines_are : (xs : List X) → 0 < n → AllByRecursion P xs
      → AllByRecursion (IsLine n P) (in_lines n xs)
  unfolding in_lines
  lines_are xs some all =
      chunks_are (div_ceil (length xs) n) xs some (div_ceil_times (length xs) n some).1 all

-- ---- users

users_stated : (server : List ℕ) (other : Room) (es : List (List ℕ × User))
    → AllByRecursion (λ e. IsTheirUser other (as_introduced e.1)) es
    → AllByRecursion (IsTold server other)
    (map (λ user. does (AddUser (as_introduced user))) (map (λ e. e.1) es))
users_stated server other [] all = tt
users_stated server other (e ∷ es) all = (all.0, users_stated server other es all.1)

bare_within : (user : User) → IsUserWithin user → IsUserWithin (as_introduced user)
bare_within user within = record {
  nick = within.nick;
  name = within.name;
  name_some = within.name_some;
  host = within.host;
  real_fits = within.real_fits;
  real_carried = within.real_carried;
  home = within.home;
  away = tt;
}

each_user : (other : Room) → IsWellFormed other → IsWithinLimits other → (fold : List ℕ)
    (user : User) → row other.users fold ≡ Some user → IsTheirUser other (as_introduced user)
each_user other well within fold user is = record {
  their = user;
  there = ap (row other.users) (well.users_named fold user is) ∙ is;
  bare = refl;
  sent = record { within = bare_within user (within.users fold user is); whole = refl };
}

-- ---- what they have set

set_within : (away : Option (List ℕ)) → IfSome away IsAway
    → AllByRecursion IsChangeWithin (option_map_or (λ text. Away (Some text) ∷ []) away [])
set_within None within = tt
set_within (Some text) within = (within, tt)

-- a user of the other room, found there
record IsThere (other : Room) (user : User) : Type 0 where
  there : row other.users (key user.nick) ≡ Some user
  within : IsUserWithin user

its_changes_stated : (server : List ℕ) (other : Room) (user : User) → IsThere other user
    → (changes : List UserChange) → AllByRecursion IsChangeWithin changes
    → AllByRecursion (λ change. is_shown change ≡ false) changes
    → AllByRecursion (IsTold server other)
    (map (λ change. does (ChangeUser user.nick change)) changes)
its_changes_stated server other user is [] keep unseen = tt
its_changes_stated server other user is (change ∷ changes) keep unseen = (
  record {
    their = user;
    there = is.there;
    stored = refl;
    keeps = keep.0;
    unseen = unseen.0;
  },
  its_changes_stated server other user is changes keep.1 unseen.1,
)

own_stated : (server : List ℕ) (other : Room) (es : List (List ℕ × User))
    → AllByRecursion (λ e. IsThere other e.1) es
    → AllByRecursion (IsTold server other) (flat_map own_deeds (map (λ e. e.1) es))
own_stated server other [] all = tt
own_stated server other (e ∷ es) all =
    both_all (IsTold server other) (own_deeds e.1) (flat_map own_deeds (map (λ e. e.1) es))
    (its_changes_stated server other e.1 all.0 (changes_of e.1)
    (set_within e.1.set.away all.0.within.away) (told_unseen e.1))
    (own_stated server other es all.1)

-- ---- members

member_stated : (other : Room) → IsWellFormed other → (m : List ℕ × Flags) (o : Option User)
    → row other.users m.0 ≡ o → (rest : List (List ℕ × Flags))
    → AllByRecursion (IsTheirMember other) rest → AllByRecursion (IsTheirMember other)
    (cons_option (option_map (λ (user : User). (user.nick, m.1)) o) rest)
member_stated other well m None at rest all = all
member_stated other well m (Some user) at rest all = (
  record {
    user = user;
    there = ap (row other.users) (well.users_named m.0 user at)
        ∙ at;
    stored = refl;
  },
  all,
)

members_stated : (other : Room) → IsWellFormed other → (es : List (List ℕ × Flags))
    → AllByRecursion (IsTheirMember other) (filter_map (stored_member other.users) es)
members_stated other well [] = tt
members_stated other well (m ∷ es) =
    member_stated other well m (row other.users m.0) refl
    (filter_map (stored_member other.users) es) (members_stated other well es)

some_members : (members : List (List ℕ × Flags)) → is_nil members ≡ false → members ≡ [] → ⊥
some_members members some none = let clash = ap is_nil none in cc

line_stated : (server : List ℕ) (other : Room) (channel : List ℕ)
    → IsChannel channel → (lines : List (List (List ℕ × Flags)))
    → AllByRecursion (IsLine members_a_line (IsTheirMember other)) lines
    → AllByRecursion (IsTold server other) (map (brings server channel) lines)
line_stated server other channel named [] all = tt
line_stated server other channel named (line ∷ lines) all = (
  (
    refl,
    record {
      named = named;
      some = some_members line all.0.some;
      few = all.0.few;
      each = all.0.each;
    },
  ),
  line_stated server other channel named lines all.1,
)

-- ---- modes but for bans

-- a change whose word a line can carry, and that is no ban
record IsPlain (change : ModeChange) : Type 0 where
  sent : (room : Room) → IsSentChange room change
  kept : IsBanCarried change.letter change.word

flag_plain : (on : Bool) (which : ModeLetter) → IsPlain (set which None)
    → AllByRecursion IsPlain (flag_set on which)
flag_plain true which is = (is, tt)
flag_plain false which is = tt

privacy_plain : (privacy : Privacy) → AllByRecursion IsPlain (privacy_set privacy)
privacy_plain Public = tt
privacy_plain Private = (record { sent = λ room. tt; kept = tt }, tt)
privacy_plain Secret = (record { sent = λ room. tt; kept = tt }, tt)

key_plain : (word : Option (List ℕ)) → IfSome word IsKey → AllByRecursion IsPlain (key_set word)
key_plain None is = tt
key_plain (Some word) is = (record { sent = λ room. key_carried word is; kept = tt }, tt)

limit_carried : (limit : ℕ) → IsLimit limit → IsCarried (decimal limit)
limit_carried limit is =
    digits_carried (decimal limit) (limit-digits (decimal limit) (limit_written limit is))

limit_plain : (limit : Option ℕ) → IfSome limit IsLimit → AllByRecursion IsPlain (limit_set limit)
limit_plain None is = tt
limit_plain (Some limit) is = (record { sent = λ room. limit_carried limit is; kept = tt }, tt)

plain : (which : ModeLetter) → IsBanCarried which None → IsPlain (set which None)
plain which kept = record { sent = λ room. tt; kept = kept }

settings_plain : (modes : Modes) → AreWithinLimits modes
    → AllByRecursion IsPlain (set_changes modes)
settings_plain modes within =
    both_all IsPlain (flag_set modes.invite_only letter.InviteOnly) _
    (flag_plain modes.invite_only letter.InviteOnly (plain letter.InviteOnly tt))
    (both_all IsPlain (flag_set modes.moderated letter.Moderated) _
    (flag_plain modes.moderated letter.Moderated (plain letter.Moderated tt))
    (both_all IsPlain (flag_set modes.no_outside letter.NoOutside) _
    (flag_plain modes.no_outside letter.NoOutside (plain letter.NoOutside tt))
    (both_all IsPlain (privacy_set modes.privacy) _ (privacy_plain modes.privacy)
    (both_all IsPlain (flag_set modes.topic_locked letter.TopicLocked) _
    (flag_plain modes.topic_locked letter.TopicLocked (plain letter.TopicLocked tt))
    (both_all IsPlain (key_set modes.key) (limit_set modes.limit) (key_plain modes.key within.key)
    (limit_plain modes.limit within.limit))))))

all_sent : (room : Room) (changes : List ModeChange) → AllByRecursion IsPlain changes
    → AllByRecursion (IsSentChange room) changes
all_sent room [] all = tt
all_sent room (change ∷ changes) all = (all.0.sent room, all_sent room changes all.1)

all_kept : (changes : List ModeChange) → AllByRecursion IsPlain changes
    → AllByRecursion (λ (c : ModeChange). IsBanCarried c.letter c.word) changes
all_kept [] all = tt
all_kept (change ∷ changes) all = (all.0.kept, all_kept changes all.1)

changes_stated : (channel : List ℕ) (changes : List ModeChange) → IsChannel channel
    → AreReadable changes → AllByRecursion IsPlain changes → AreTheirChanges channel changes
changes_stated channel changes named readable all = record {
  named = named;
  readable = readable;
  sent = λ room. all_sent room changes all;
  kept = all_kept changes all;
}

settings_stated : (server : List ℕ) (other : Room) (channel : List ℕ) (modes : Modes)
    → IsChannel channel → AreWithinLimits modes
    → AllByRecursion (IsTold server other) (settings_line server channel (set_changes modes))
settings_stated server other channel modes named within =
    by_changes (set_changes modes) (set_is_readable modes within) (settings_plain modes within)
  where
    by_changes : (changes : List ModeChange)
        → (is_nil changes ≡ false → AreReadable changes) → AllByRecursion IsPlain changes
        → AllByRecursion (IsTold server other) (settings_line server channel changes)
    by_changes [] readable all = tt
    by_changes (change ∷ changes) readable all =
        ((refl, changes_stated channel (change ∷ changes) named (readable refl) all), tt)

-- ---- bans

-- a mask that a ban keeps and a line can carry
record IsCarriedMask (mask : List ℕ) : Type 0 where
  rule : is_ban_mask mask ≡ true
  carried : IsCarried mask

masks_carried : (bans : List (List ℕ)) → list_all is_ban_mask bans ≡ true
    → list_all is_carried bans ≡ true → AllByRecursion IsCarriedMask bans
masks_carried [] rule carried = tt
masks_carried (mask ∷ bans) rule carried = (
  record {
    rule = first_so (is_ban_mask mask) (list_all is_ban_mask bans) rule;
    carried = first_so (is_carried mask) (list_all is_carried bans) carried;
  },
  masks_carried bans (second_so (is_ban_mask mask) (list_all is_ban_mask bans) rule)
      (second_so (is_carried mask) (list_all is_carried bans) carried),
)

masks_rule : (bans : List (List ℕ)) → AllByRecursion IsCarriedMask bans
    → list_all is_ban_mask bans ≡ true
masks_rule [] all = refl
masks_rule (mask ∷ bans) all =
    ap (λ b. b && list_all is_ban_mask bans) all.0.rule ∙ masks_rule bans all.1

bans_plain : (bans : List (List ℕ)) → AllByRecursion IsCarriedMask bans
    → AllByRecursion IsPlain (ban_changes bans)
bans_plain [] all = tt
bans_plain (mask ∷ bans) all =
    (record { sent = λ room. all.0.carried; kept = all.0.carried }, bans_plain bans all.1)

chunks_mapped : {X Y : Type 0} (f : X → Y) (n k : ℕ) (xs : List X)
    → first_chunks n k (map f xs) ≡ map (map f) (first_chunks n k xs)
chunks_mapped f n zero xs = refl
chunks_mapped f n (suc k) xs =
    (λ i. take-map f n xs i ∷ first_chunks n k (drop-map f n xs i))
    ∙ ap (λ rest. map f (take n xs) ∷ rest) (chunks_mapped f n k (drop n xs))

lines_mapped : {X Y : Type 0} (f : X → Y) (n : ℕ) (xs : List X)
    → in_lines n (map f xs) ≡ map (map f) (in_lines n xs)
unfolding in_lines
lines_mapped f n xs = ap (λ l. first_chunks n (div_ceil l n) (map f xs)) (length-map xs f)
    ∙ chunks_mapped f n (div_ceil (length xs) n) xs

ban_line_stated : (server : List ℕ) (other : Room) (channel : List ℕ) → IsChannel channel
    → (lines : List (List (List ℕ))) → AllByRecursion (IsLine bans_a_line IsCarriedMask) lines
    → AllByRecursion (IsTold server other) (map (sets server channel) (map ban_changes lines))
ban_line_stated server other channel named [] all = tt
ban_line_stated server other channel named (line ∷ lines) all = (
  (
    refl,
    changes_stated channel (ban_changes line) named
        (bans_are_readable line (masks_rule line all.0.each) all.0.some all.0.few)
        (bans_plain line all.0.each),
  ),
  ban_line_stated server other channel named lines all.1,
)

-- ---- a channel

topic_stated : (server : List ℕ) (other : Room) (channel topic : List ℕ)
    → IsTheirTopic channel topic
    → AllByRecursion (IsTold server other) (topic_line server channel topic)
topic_stated server other channel topic is = by_test (is_nil topic)
  where
    by_test : (b : Bool)
        → AllByRecursion (IsTold server other) (if b then [] else tops server channel topic ∷ [])
    by_test true = tt
    by_test false = ((refl, is), tt)

channel_stated : (server : List ℕ) (other : Room) → IsWellFormed other
    → (channel : Channel) → IsChannelWithin channel
    → AllByRecursion (IsTold server other) (channel_deeds server other.users channel)
channel_stated server other well channel within =
    let named = within.name in
    let told = IsTold server other in
    let modes = channel.modes in
    let members = lines_are members_a_line (IsTheirMember other)
    (stored_members other.users channel) (omega arith)
    (members_stated other well (entries channel.members)) in
    let masks = lines_are bans_a_line IsCarriedMask modes.bans (omega arith)
    (masks_carried modes.bans within.modes.masks within.bans_carried) in
    both_all told (map (brings server channel.name)
    (in_lines members_a_line (stored_members other.users channel))) _
    (line_stated server other channel.name named
    (in_lines members_a_line (stored_members other.users channel)) members)
    (both_all told (settings_line server channel.name (set_changes modes)) _
    (settings_stated server other channel.name modes named within.modes)
    (both_all told (map (sets server channel.name) (in_lines bans_a_line (ban_changes modes.bans)))
    (topic_line server channel.name channel.topic)
    (subst (λ lines. AllByRecursion told (map (sets server channel.name) lines))
    (sym (lines_mapped (λ mask. set letter.Ban (Some mask)) bans_a_line modes.bans))
    (ban_line_stated server other channel.name named (in_lines bans_a_line modes.bans) masks))
    (topic_stated server other channel.name channel.topic
    (record { named = named; carried = within.topic }))))

channels_stated : (server : List ℕ) (other : Room) → IsWellFormed other
    → (es : List (List ℕ × Channel)) → AllByRecursion (λ e. IsChannelWithin e.1) es → AllByRecursion
    (IsTold server other) (flat_map (channel_deeds server other.users) (map (λ e. e.1) es))
channels_stated server other well [] all = tt
channels_stated server other well (e ∷ es) all =
    both_all (IsTold server other) (channel_deeds server other.users e.1)
    (flat_map (channel_deeds server other.users) (map (λ e. e.1) es))
    (channel_stated server other well e.1 all.0) (channels_stated server other well es all.1)

-- ---- all of it

pub users_are_told : (server : List ℕ) (other : Room) → IsWellFormed other → IsWithinLimits other
    → AllByRecursion (IsTold server other) (user_deeds other)
users_are_told server other well within =
    users_stated server other (entries other.users)
    (entries_all (λ fold user. IsTheirUser other (as_introduced user)) (entries other.users)
    (λ fold user is. each_user other well within fold user (get-entries other.users fold ∙ is))
    (is_true _ (entries_sorted other.users)))

pub changes_are_told : (server : List ℕ) (other : Room) → IsWellFormed other → IsWithinLimits other
    → AllByRecursion (IsTold server other) (change_deeds other)
changes_are_told server other well within =
    own_stated server other (entries other.users)
    (entries_all (λ fold user. IsThere other user) (entries other.users)
    (λ fold user is. let at : row other.users fold ≡ Some user = get-entries other.users fold ∙ is
    in record {
      there = ap (row other.users) (well.users_named fold user at) ∙ at;
      within = within.users fold user at;
    })
    (is_true _ (entries_sorted other.users)))

pub channels_are_told : (server : List ℕ) (other : Room) → IsWellFormed other
    → IsWithinLimits other → AllByRecursion (IsTold server other)
    (flat_map (channel_deeds server other.users) (values other.channels))
channels_are_told server other well within =
    channels_stated server other well (entries other.channels)
    (entries_all (λ fold channel. IsChannelWithin channel) (entries other.channels)
    (λ fold channel is. within.channels fold channel (get-entries other.channels fold ∙ is))
    (is_true _ (entries_sorted other.channels)))

pub burst_is_told : (server : List ℕ) (other : Room) → IsWellFormed other → IsWithinLimits other
    → AllByRecursion (IsTold server other) (burst server other)
unfolding burst
burst_is_told server other well within =
    both_all (IsTold server other) (people_deeds other)
    (flat_map (channel_deeds server other.users) (values other.channels))
    (both_all (IsTold server other) (user_deeds other) (change_deeds other)
    (users_are_told server other well within) (changes_are_told server other well within))
    (channels_are_told server other well within)
