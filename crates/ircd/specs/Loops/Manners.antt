-- What comes of reading how clients are to be spoken to.
use Rattle.std.specs.Prelude.{◌≡◌, ℕ, true, ⊤, Option, Result, Ok, Err, List, is_some}
use Rattle.std.specs.Str.Lines.{lines}
use Rattle.irc_door.specs.declared.manner.Manner.{Manner}
use Rattle.irc_door.specs.declared.motd.Motd.{Motd}
use Rattle.irc_door.specs.MessagesOfTheDay.{is_message, lines_of}
use Rattle.irc_endings.specs.declared.fault.Stop.{Stop}
use Rattle.irc_endings.specs.declared.fault.Stop.TheVariants.{Usage, BadScript, BadConfiguration}
use Rattle.irc_endings.specs.declared.fault.Stop.TheVariants.{Failed}
use Rattle.ircd.specs.declared.setup.Setup.{Setup}
use Rattle.ircd.specs.Loops.Turns.{IsOfFile}
use Rattle.ircd.specs.Serving.{motd_file, HasMotd, IsMannerOf, IsMotd}

-- a text is a message of the day, or it is none, or memory ran out
abbrev pub IsMotdIn : List ℕ → Result Motd Stop → Type 0
IsMotdIn text (Ok motd) = (is_message text ≡ true) × (lines_of motd ≡ lines text)
IsMotdIn text (Err stop) = IsOfFile stop

abbrev pub ReadsMotd : (room : ℕ) → Result Motd Stop → Type 0
ReadsMotd room (Ok motd) = IsMotd room motd
ReadsMotd room (Err stop) = IsOfFile stop

-- there is a message, or none, as a file is named; or one is named, and it is not read
abbrev pub FindsMotd : (file : Option (List ℕ)) → (room : ℕ) → Result (Option Motd) Stop → Type 0
FindsMotd file room (Ok motd) = HasMotd file room motd
FindsMotd file room (Err BadConfiguration) = is_some file ≡ true
FindsMotd file room (Err Failed) = ⊤
FindsMotd file room (Err Usage) = ⊥
FindsMotd file room (Err (BadScript line)) = ⊥

abbrev pub FindsManner : Setup → Result Manner Stop → Type 0
FindsManner setup (Ok manner) = IsMannerOf setup manner
FindsManner setup (Err BadConfiguration) = is_some (motd_file setup) ≡ true
FindsManner setup (Err Failed) = ⊤
FindsManner setup (Err Usage) = ⊥
FindsManner setup (Err (BadScript line)) = ⊥
