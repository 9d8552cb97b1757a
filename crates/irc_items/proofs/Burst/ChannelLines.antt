-- The lines of a burst that stand behind its introductions: what users have set, and channels.
use Rattle.std.proofs.Common.{ℕ, Bool, true, false, cond, List, [], ◌∷◌, map}
use Rattle.std.specs.Bool.{⊤}
use Rattle.std.specs.List.{flat_map, AllByRecursion}
use Rattle.irc_channels.specs.declared.channel.Channel.{Channel}
use Rattle.irc_merge.specs.Bursts.{in_lines, members_a_line, bans_a_line, stored_members}
use Rattle.irc_merge.specs.Bursts.{channel_deeds, own_deeds, settings_line}
use Rattle.irc_merge.specs.Deeds.{Deed, does, brings, sets, tops}
use Rattle.irc_room.specs.effect.Effect.TheVariants.{ChangeUser}
use Rattle.irc_users.specs.ChangesTold.{changes_of}
use Rattle.irc_modes.specs.Modes.{is_nil}
use Rattle.irc_modes.specs.ModesSet.{set_changes, ban_changes}
use Rattle.irc_modes.specs.declared.modes.ModeChange.{ModeChange}
use Rattle.irc_names.specs.Tables.{Table}
use Rattle.irc_users.specs.declared.user.User.{User}
use Rattle.irc_items.proofs.Burst.Stated.{both_all}

abbrev pub IsOfChannel : Deed → Type 0
IsOfChannel (brings server channel members) = ⊤
IsOfChannel (sets server channel changes) = ⊤
IsOfChannel (tops server channel topic) = ⊤
IsOfChannel deed = ⊥

-- what users have set, too
abbrev pub StandsBehind : Deed → Type 0
StandsBehind (does (ChangeUser nick change)) = ⊤
StandsBehind (brings server channel members) = ⊤
StandsBehind (sets server channel changes) = ⊤
StandsBehind (tops server channel topic) = ⊤
StandsBehind deed = ⊥

lines_of : {X : Type 0} (P : Deed → Type 0) (line : X → Deed) → ((x : X) → P (line x))
    → (xs : List X) → AllByRecursion P (map line xs)
lines_of P line each [] = tt
lines_of P line each (x ∷ xs) = (each x, lines_of P line each xs)

settings_of_channel : (server channel : List ℕ) (changes : List ModeChange)
    → AllByRecursion IsOfChannel (settings_line server channel changes)
settings_of_channel server channel [] = tt
settings_of_channel server channel (change ∷ changes) = (tt, tt)

topic_of_channel : (server channel topic : List ℕ) (b : Bool)
    → AllByRecursion IsOfChannel (cond b [] (tops server channel topic ∷ []))
topic_of_channel server channel topic true = tt
topic_of_channel server channel topic false = (tt, tt)

deeds_of_channel : (server : List ℕ) (users : Table User) (channel : Channel)
    → AllByRecursion IsOfChannel (channel_deeds server users channel)
deeds_of_channel server users channel =
    both_all IsOfChannel (map (brings server channel.name)
    (in_lines members_a_line (stored_members users channel))) _
    (lines_of IsOfChannel (brings server channel.name) (λ x. tt)
    (in_lines members_a_line (stored_members users channel)))
    (both_all IsOfChannel (settings_line server channel.name (set_changes channel.modes)) _
    (settings_of_channel server channel.name (set_changes channel.modes))
    (both_all IsOfChannel
    (map (sets server channel.name) (in_lines bans_a_line (ban_changes channel.modes.bans))) _
    (lines_of IsOfChannel (sets server channel.name) (λ x. tt)
    (in_lines bans_a_line (ban_changes channel.modes.bans)))
    (topic_of_channel server channel.name channel.topic (is_nil channel.topic))))

pub deeds_of_channels : (server : List ℕ) (users : Table User) (channels : List Channel)
    → AllByRecursion IsOfChannel (flat_map (channel_deeds server users) channels)
deeds_of_channels server users [] = tt
deeds_of_channels server users (channel ∷ channels) =
    both_all IsOfChannel (channel_deeds server users channel)
    (flat_map (channel_deeds server users) channels)
    (deeds_of_channel server users channel) (deeds_of_channels server users channels)

pub deeds_of_changes : (users : List User) → AllByRecursion StandsBehind (flat_map own_deeds users)
deeds_of_changes [] = tt
deeds_of_changes (user ∷ users) =
    both_all StandsBehind (own_deeds user) (flat_map own_deeds users)
    (lines_of StandsBehind (λ change. does (ChangeUser user.nick change)) (λ change. tt)
    (changes_of user))
    (deeds_of_changes users)

behind_one : (deed : Deed) → IsOfChannel deed → StandsBehind deed
behind_one (brings server channel members) is = tt
behind_one (sets server channel changes) is = tt
behind_one (tops server channel topic) is = tt
behind_one deed is = absurd is

pub all_behind : (deeds : List Deed) → AllByRecursion IsOfChannel deeds
    → AllByRecursion StandsBehind deeds
all_behind [] all = tt
all_behind (deed ∷ deeds) all = (behind_one deed all.0, all_behind deeds all.1)
