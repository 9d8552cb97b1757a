-- Which names the code puts in lines.
use Rattle.std.specs.Prelude.{◌≡◌, ℕ, Bool, not, ◌||◌, Some, List, [], ◌∷◌, ◌++◌, map, Result, OnOk}
use Rattle.std.specs.Global.{Vec}
use Rattle.std.specs.declared.alloc.AllocError.{AllocError}
use Rattle.std.specs.List.{filter_map}
use Rattle.std.specs.FinMap.{entries as rows_of}
use Rattle.arrayvec.specs.ArrayVec.{ArrayVec}
use Rattle.irc_names.specs.Fold.{key}
use Rattle.irc_names.specs.Tables.{alter}
use Rattle.irc_tables.specs.declared.table.Row.{Row}
use Rattle.irc_tables.specs.RowViews.{row_entry}
use Rattle.irc_users.specs.declared.user.User.{User}
use Rattle.irc_channels.specs.declared.channel.Channel.{Channel}
use Rattle.irc_channels.specs.declared.flags.Flags.{Flags}
use Rattle.irc_numerics.specs.Limits.{max_names}
use Rattle.irc_numerics.specs.declared.replies.Listed.{Listed}
use Rattle.irc_room.specs.Room.{Room}
use Rattle.irc_acts.specs.declared.act.Act.{Act}
use Rattle.irc_acts.specs.declared.name_lines.Naming.{Naming}
use Rattle.irc_acts.specs.Names.{listed, listed_names, name_line}
use Rattle.irc_acts.specs.Loops.FilledLines.{Came}

-- all are named, or those without mode i
abbrev pub is_shown : Bool → User → Bool
is_shown all member = all || not member.invisible

-- the names of some members, of those that are named
abbrev pub named_among : Naming → List (List ℕ × Flags) → List Listed
named_among naming members =
    filter_map (listed naming.room.now.room.users (is_shown naming.all)) members

-- a call puts names into the lines of a channel: lines that are full are appended, and the names of
-- the last are held
abbrev pub Fills
    : Result (Unit {0}) AllocError → Channel → List Listed → Vec Act → ArrayVec Listed → Vec Act
    → ArrayVec Listed → Type 0
Fills result channel names old before new after =
    OnOk result
    (Came max_names (name_line channel) old.items before.items names new.items after.items)

-- the name of the member with a nickname, if it is named
abbrev pub FillsOne
    : Result (Unit {0}) AllocError → Naming → List ℕ → Flags → Vec Act → ArrayVec Listed → Vec Act
    → ArrayVec Listed → Type 0
FillsOne result naming name flags =
    Fills result naming.channel.now (named_among naming ((key name, flags) ∷ []))

-- the names of the members of some rows
abbrev pub FillsEach
    : Result (Unit {0}) AllocError → Naming → List (Row Flags) → Vec Act → ArrayVec Listed → Vec Act
    → ArrayVec Listed → Type 0
FillsEach result naming rows =
    Fills result naming.channel.now (named_among naming (map row_entry rows))

-- the members before a fold that none of them has and those behind it: between them stands a new
-- one, whatever it is there
abbrev pub ArePartedAt : List ℕ → Channel → List (Row Flags) → List (Row Flags) → Type 0
ArePartedAt fold channel before behind =
    (flags : Flags) → rows_of (alter fold (λ _. Some flags) channel.members) ≡ map row_entry before
    ++ (fold, flags) ∷ map row_entry behind

-- the names of a channel, if it is listed
abbrev pub names_if_listed : Room → User → Channel → List Act
names_if_listed room me channel = listed_names room me (channel ∷ [])
