-- Texts for clients, computed.
use Rattle.std.proofs.Common.{refl}
use Rattle.std.specs.Fmt.{digits}
use Rattle.std.specs.Str.{chars, is_utf8}
use Rattle.std.specs.Str.Lossy.{utf8_error_len, utf8_valid_len}
use Rattle.irc_line.specs.Bytes.{cut}
use Rattle.irc_line.specs.Messages.{line_text}
use Rattle.irc_line.specs.Reading.{read_of}
use Rattle.irc_numerics.specs.Replies.{table}
use Rattle.irc_door.specs.Letters.{whole_letters}
use Rattle.irc_door.specs.Examples.{CapabilitiesAreNone}
use Rattle.irc_door.specs.Examples.{LettersAreWhole, MessagesAreTold, OthersGo, RowsAreTurned}
use Rattle.irc_door.specs.Examples.{SupportedFits, TextsAreMessages, VersionIsOne}

pub rows_are_turned : RowsAreTurned
unfolding read_of line_text cut digits
rows_are_turned = record { supported = refl; invited = refl; nick = refl; version = refl }

pub others_go : OthersGo
unfolding read_of line_text cut digits whole_letters
others_go = record { command = refl; text = refl; ending = refl }

pub letters_are_whole : LettersAreWhole
unfolding whole_letters utf8_error_len utf8_valid_len is_utf8 chars lib.Utf8.encode
letters_are_whole = record { two = refl; three = refl; four = refl; whole = refl; other = refl }

pub supported_fits : SupportedFits
supported_fits server nick = refl

pub version_is_one : VersionIsOne
unfolding table
version_is_one server = refl

pub messages_are_told : MessagesAreTold
unfolding read_of line_text cut
messages_are_told = record { two_lines = refl; no_line = refl; in_a_text = refl; turned_too = refl }

pub texts_are_messages : TextsAreMessages
texts_are_messages = record {
  nothing = refl;
  two_lines = refl;
  ended = refl;
  inside = refl;
  last = refl;
  nul = refl;
  room = refl;
  just_room = refl;
}

pub capabilities_are_none : CapabilitiesAreNone
unfolding read_of line_text cut whole_letters
capabilities_are_none = record {
  lists = refl;
  lists_set = refl;
  takes_none = refl;
  ends = refl;
  other = refl;
  alone = refl;
  of_another = refl;
  not_refused = refl;
  another_line = refl;
}
