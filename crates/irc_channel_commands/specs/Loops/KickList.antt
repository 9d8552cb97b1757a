-- The two lists of a KICK, read from the front.
use Rattle.std.specs.Prelude.{◌≡◌, ◌<◌, ℕ, Bool, Option, None, MatchOption, List, [], ◌∷◌, is_some}
use Rattle.std.specs.Prelude.{length, if◌then◌else◌}
use Rattle.std.specs.Borrow.{Bor}
use Rattle.irc_names.specs.Fold.{key}
use Rattle.irc_names.specs.Tables.{row}
use Rattle.irc_users.specs.declared.user.User.{User}
use Rattle.irc_room.specs.Readers.{flags_at}
use Rattle.irc_room.specs.Room.{Room}
use Rattle.irc_acts.specs.declared.act.Act.{Act}
use Rattle.irc_acts.specs.declared.context.Context.{Context}
use Rattle.irc_acts.specs.Ahead.{ahead, in_turn}
use Rattle.irc_acts.specs.CommaLists.{entries}
use Rattle.irc_channel_commands.specs.declared.kick.KickLists.{KickLists}
use Rattle.irc_channel_commands.specs.Kick.{Kicking, kick_one, kicking, kicks}

-- what is left of them, where one channel is meant for all nicknames, or each for its own
abbrev pub kicks_left : Bool → List (List ℕ) → List (List ℕ) → List Kicking
kicks_left one channels [] = []
kicks_left one [] (nick ∷ nicks) = []
kicks_left one (channel ∷ channels) (nick ∷ nicks) =
    kicking channel nick ∷ kicks_left one (if one then channel ∷ channels else channels) nicks

-- what is left of the code's two lists
abbrev pub kicks_of : KickLists → List Kicking
kicks_of left = kicks_left left.is_one (entries left.channels.now) (entries left.nicks.now)

-- the channel and the nickname that come next, and the lists behind them, which are shorter; none
-- where nothing is left
abbrev pub IsNextKick : KickLists → Option (Bor (List ℕ) × Bor (List ℕ) × KickLists) → Type 0
IsNextKick left next =
    MatchOption next (kicks_of left ≡ [])
    (λ n. (kicks_of left ≡ kicking n.0.now n.1.now ∷ kicks_of n.2)
    × (length n.2.nicks.now < length left.nicks.now))

-- what is left is kicked, one after another
abbrev pub kick_list : Room → User → List ℕ → KickLists → List Act
kick_list room me text left = in_turn (kick_one me text) room (kicks_of left)

-- an act is what kicking one nickname does, in the room as some steps leave it
abbrev pub IsKickAhead : Context → List ℕ → List Act → Kicking → Act → Type 0
IsKickAhead context text steps asked act =
    kick_one context.me.now text (ahead context.room.now.room steps) asked ≡ act ∷ []

-- an act is what comes of kicking a member that was found under a nickname, if one was
abbrev pub IsKick : User → List ℕ → List ℕ → List ℕ → Option User → Act → Type 0
IsKick me text name nick member act = kicks me text name nick member ≡ act ∷ []

-- the user with a fold, where it is a member of the channel with a fold
abbrev pub member_at : Room → List ℕ → List ℕ → Option User
member_at room nick channel = if is_some (flags_at room nick channel) then row room.users nick
    else None

-- the user of a nickname, where it is a member of the channel of a name in the room as some steps
-- leave it
abbrev pub member_ahead : Room → List Act → List ℕ → List ℕ → Option User
member_ahead room steps nick channel = member_at (ahead room steps) (key nick) (key channel)
