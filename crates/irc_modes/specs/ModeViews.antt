-- What the items of a MODE say, without where the bytes of their words lie.
use Rattle.std.specs.Prelude.{List, map}
use Rattle.std.specs.Option.{option_copied}
use Rattle.irc_modes.specs.declared.mode_words.ModeItem.{ModeItem}
use Rattle.irc_modes.specs.declared.mode_words.ModeItem.TheVariants as item
use Rattle.irc_modes.specs.declared.mode_words.ReadLetter.{ReadLetter as CodeReadLetter}
use Rattle.irc_modes.specs.ModeWords.{Asked, change, list, no_word, unknown, ReadLetter}

abbrev pub asked : ModeItem → Asked
asked (item.Change c) = change c.plus c.letter (option_copied c.word)
asked item.List = list
asked item.NoWord = no_word
asked (item.Unknown byte) = unknown byte

abbrev pub all_asked : List ModeItem → List Asked
all_asked items = map asked items

abbrev pub letter_read : CodeReadLetter → ReadLetter
letter_read r = record { byte = r.byte; takes = r.takes; once = r.once; asked = asked r.item }
