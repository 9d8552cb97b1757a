-- What a LIST or a WHO puts out, part by part. Each relation is from what was put out before to
-- what is put out now.
use Rattle.std.specs.Prelude.{ℕ, Bool, is_some, List, [], ◌∷◌, ◌++◌, length, map}
use Rattle.std.specs.Borrow.{Bor}
use Rattle.std.specs.List.{filter_map, flat_map}
use Rattle.std.specs.FinMap.{entries, values}
use Rattle.irc_batch.specs.Batches.{Batch}
use Rattle.irc_names.specs.Fold.{key}
use Rattle.irc_names.specs.Tables.{row}
use Rattle.irc_tables.specs.declared.table.Row.{Row}
use Rattle.irc_tables.specs.RowViews.{row_entry}
use Rattle.irc_users.specs.declared.user.User.{User}
use Rattle.irc_channels.specs.declared.flags.Flags.{Flags}
use Rattle.irc_channels.specs.declared.channel.Channel.{Channel}
use Rattle.irc_room.specs.Room.{Room}
use Rattle.irc_routes.specs.Known.{place_of}
use Rattle.irc_acts.specs.declared.context.Context.{Context}
use Rattle.irc_acts.specs.Standing.{is_seen_from}
use Rattle.irc_acts.specs.Loops.NameLines.{is_shown}
use Rattle.irc_acts.specs.Names.{listed, named_members}
use Rattle.irc_queries.specs.List.{asked_entry, list_steps, listed_entries}
use Rattle.irc_queries.specs.Said.{SaysSteps}
use Rattle.irc_queries.specs.Who.{end_of_who, member_line, replies_of_members, who_replies}
use Rattle.irc_queries.specs.Who.{replies_of_seen, replies_of_users, who_steps}

-- a LIST with these parameters is answered
abbrev pub AnswersList : Context → List (List ℕ) → ℕ → Batch → Batch → Type 0
AnswersList context params =
    SaysSteps context (list_steps context.room.now.room context.me.now params)

-- the entries of those of these channels that are listed
abbrev pub SaysListed : Context → List Channel → ℕ → Batch → Batch → Type 0
SaysListed context channels =
    SaysSteps context (listed_entries context.room.now.room.users context.me.now channels)

abbrev pub SaysAllListed : Context → ℕ → Batch → Batch → Type 0
SaysAllListed context = SaysListed context (values context.room.now.room.channels)

-- the entries of channels of these names
abbrev pub SaysNamed : Context → List (List ℕ) → ℕ → Batch → Batch → Type 0
SaysNamed context names =
    SaysSteps context (flat_map (asked_entry context.room.now.room context.me.now) names)

abbrev pub SaysEntry : Context → List ℕ → ℕ → Batch → Batch → Type 0
SaysEntry context name = SaysSteps context (asked_entry context.room.now.room context.me.now name)

-- how many members of a channel NAMES would name to the asker; whether the member of a row is
-- named, where all are or only those without mode i
abbrev pub named_here : Context → Channel → ℕ
named_here context channel =
    length (named_members context.room.now.room.users context.me.now channel)

abbrev pub is_named_row : Room → Bool → Row Flags → Bool
is_named_row room all row = is_some (listed room.users (is_shown all) (row_entry row))

-- a WHO with these parameters is answered
abbrev pub AnswersWho : Context → List (List ℕ) → ℕ → Batch → Batch → Type 0
AnswersWho context params = SaysSteps context
    (who_steps context.room.now.room (place_of context.routes.now) context.me.now params)

-- what is told of whom a word asks for, alone and with the end behind it
abbrev pub SaysTold : Context → List ℕ → ℕ → Batch → Batch → Type 0
SaysTold context asked = SaysSteps context
    (who_replies context.room.now.room (place_of context.routes.now) context.me.now asked)

abbrev pub SaysAll : Context → List ℕ → List ℕ → ℕ → Batch → Batch → Type 0
SaysAll context asked given =
    SaysSteps context (who_replies context.room.now.room
    (place_of context.routes.now) context.me.now asked ++ end_of_who given ∷ [])

-- whether the asker, whose own channels stand in these rows, sees a user
abbrev pub asker_sees : Context → List (Bor (Row Channel)) → User → Bool
asker_sees context own user =
    is_seen_from (map (λ (row : Bor (Row Channel)). row.now.value) own) context.me.now user

-- what is told of whom a word asks for, of those who are seen so
abbrev pub SaysSeen : Context → List (Bor (Row Channel)) → List ℕ → ℕ → Batch → Batch → Type 0
SaysSeen context own asked =
    SaysSteps context (replies_of_seen context.room.now.room (place_of context.routes.now)
    (λ user. asker_sees context own user) context.me.now asked)

-- of the members of the channel of a name, where it is there and known
abbrev pub SaysFound : Context → List (Bor (Row Channel)) → List ℕ → ℕ → Batch → Batch → Type 0
SaysFound context own name =
    let room = context.room.now.room in
    SaysSteps context
    (replies_of_members room (place_of context.routes.now) (λ user. asker_sees context own user)
    context.me.now (row room.channels (key name)))

-- of these members of a channel
abbrev pub SaysMembers : Context → List (Bor (Row Channel)) → Channel → List (List ℕ × Flags) → ℕ
    → Batch → Batch → Type 0
SaysMembers context own channel members =
    SaysSteps context (filter_map (member_line context.room.now.room (place_of context.routes.now)
    (λ user. asker_sees context own user) channel) members)

abbrev pub SaysAllMembers : Context → List (Bor (Row Channel)) → Channel → ℕ → Batch → Batch
    → Type 0
SaysAllMembers context own channel = SaysMembers context own channel (entries channel.members)

-- of these users, where a mask asks for them
abbrev pub SaysUsers : Context → List (Bor (Row Channel)) → List ℕ → List User → ℕ → Batch → Batch
    → Type 0
SaysUsers context own mask users =
    SaysSteps context (replies_of_users (place_of context.routes.now)
    (λ user. asker_sees context own user) mask users)

abbrev pub SaysAllUsers : Context → List (Bor (Row Channel)) → List ℕ → ℕ → Batch → Batch → Type 0
SaysAllUsers context own mask = SaysUsers context own mask (values context.room.now.room.users)
