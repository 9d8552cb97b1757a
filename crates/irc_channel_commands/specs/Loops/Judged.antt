-- What comes of a change as the code holds it.
use Rattle.std.specs.Prelude.{ℕ, Bool, Option, List}
use Rattle.std.specs.Borrow.{Bor}
use Rattle.std.specs.Option.{option_copied}
use Rattle.irc_channels.specs.declared.channel.Channel.{Channel}
use Rattle.irc_channels.specs.Channels.{all_changed}
use Rattle.irc_modes.specs.declared.modes.AskedChange.{AskedChange}
use Rattle.irc_modes.specs.declared.modes.Modes.{Modes}
use Rattle.irc_modes.specs.Modes.{mask_in}
use Rattle.irc_room.specs.Applying.{ServerRoom}
use Rattle.irc_channel_commands.specs.declared.kept_changes.KeptChanges.{KeptChanges}
use Rattle.irc_channel_commands.specs.declared.verdict.Verdict.{Verdict}
use Rattle.irc_channel_commands.specs.Judging.{judge, key_judged, mask_judged, setting_judged}
use Rattle.irc_channel_commands.specs.Judging.{word_judged}

-- the channel as the changes that are kept leave it
abbrev pub channel_behind : KeptChanges → Channel → Channel
channel_behind kept start = all_changed kept.changes.items start

-- what comes of a change in the channel as it is now
abbrev pub judge_asked : ServerRoom → Channel → AskedChange → Verdict
judge_asked room now asked =
    judge room.room.users now asked.plus asked.letter (option_copied asked.word)

-- of one of a mode of the channel itself, by its modes as they are now
abbrev pub setting_asked : List ℕ → Modes → AskedChange → Verdict
setting_asked name modes asked =
    setting_judged name modes asked.plus asked.letter (option_copied asked.word)

-- of one of the key, by the key that is set
abbrev pub key_asked : List ℕ → Bool → Option (Bor (List ℕ)) → Option (Bor (List ℕ)) → Verdict
key_asked name plus word before = key_judged name plus (option_copied word) (option_copied before)

-- of one of a ban, by those of the channel as it is now
abbrev pub mask_asked : Channel → Channel → AskedChange → Verdict
mask_asked start now asked =
    mask_judged start.name asked.plus (mask_in (option_copied asked.word)) now.modes.bans

-- of one of a member's flag
abbrev pub word_asked : ServerRoom → Channel → AskedChange → Verdict
word_asked room now asked =
    word_judged room.room.users now asked.plus asked.letter (option_copied asked.word)
