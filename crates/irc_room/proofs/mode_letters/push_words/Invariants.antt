use Rattle.std.proofs.Common.{◌≡◌, ◌≤◌, ◌++◌, length, drop}
use Rattle.std.specs.List.{filter_map}
use Rattle.irc_line.specs.Bytes.{cut}
use Rattle.irc_line.specs.Limits.{max_line}
use Rattle.irc_line.specs.Messages.{middle_text}
use Rattle.irc_effects.specs.Seen.{written_word}
use Rattle.irc_room.proofs.mode_letters.push_words.Given as goal

abbrev pub invariant-loop-change : goal.invariant-loop-change
invariant-loop-change l = record {
  still_cut : length l.line.items ≤ max_line;
  pushed : cut (l.line.items
      ++ middle_text (filter_map (written_word l.tables) (drop l.change-index l.changes)))
      ≡ cut (l.fn.line.items ++ middle_text (filter_map (written_word l.tables) l.changes));
}
