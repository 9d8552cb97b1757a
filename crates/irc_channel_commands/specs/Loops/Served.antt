-- What the code does by the letters of an operator: what it answers, and the changes that it keeps.
use Rattle.std.specs.Prelude.{◌≡◌, List, Result, OnOk}
use Rattle.std.specs.Global.{Vec}
use Rattle.std.specs.declared.alloc.AllocError.{AllocError}
use Rattle.irc_channels.specs.declared.channel.Channel.{Channel}
use Rattle.irc_modes.specs.declared.mode_words.ModeItem.{ModeItem}
use Rattle.irc_modes.specs.ModeViews.{all_asked, asked}
use Rattle.irc_room.specs.Applying.{ServerRoom}
use Rattle.irc_acts.specs.declared.act.Act.{Act}
use Rattle.irc_acts.specs.Steps.{AddsTo}
use Rattle.irc_channel_commands.specs.declared.kept_changes.KeptChanges.{KeptChanges}
use Rattle.irc_channel_commands.specs.ChannelMode.{ModeOutcome, one_served, served}
use Rattle.irc_channel_commands.specs.Loops.Judged.{channel_behind}

-- what comes of all letters
abbrev pub outcome_of_each : ServerRoom → Channel → List ModeItem → ModeOutcome
outcome_of_each room channel items = served room.room.users channel channel (all_asked items)

-- what comes of one, in the channel as the changes that are kept leave it
abbrev pub outcome_of_one : ServerRoom → Channel → KeptChanges → ModeItem → ModeOutcome
outcome_of_one room channel kept item =
    one_served room.room.users channel (channel_behind kept channel) (asked item)

-- a call appends the replies to all letters
abbrev pub AnswersEach : ServerRoom → Channel → List ModeItem → Vec Act → Vec Act
    → Result (Unit {0}) AllocError → Type 0
AnswersEach room channel items old new result =
    AddsTo result old new (outcome_of_each room channel items).replies

-- a call keeps the changes of all letters, and no others
abbrev pub ChangesEach : ServerRoom → Channel → List ModeItem → KeptChanges
    → Result (Unit {0}) AllocError → Type 0
ChangesEach room channel items new result =
    OnOk result (new.changes.items ≡ (outcome_of_each room channel items).changes)

-- a call appends the reply to one letter
abbrev pub AnswersOne : ServerRoom → Channel → KeptChanges → ModeItem → Vec Act → Vec Act
    → Result (Unit {0}) AllocError → Type 0
AnswersOne room channel kept item old new result =
    AddsTo result old new (outcome_of_one room channel kept item).replies

-- a call keeps the change of one letter, too
abbrev pub ChangesOne : ServerRoom → Channel → KeptChanges → ModeItem → KeptChanges
    → Result (Unit {0}) AllocError → Type 0
ChangesOne room channel old item new result =
    AddsTo result old.changes new.changes (outcome_of_one room channel old item).changes
