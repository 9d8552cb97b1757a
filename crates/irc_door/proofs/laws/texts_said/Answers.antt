use Rattle.irc_door.proofs.Examples.{capabilities_are_none}
use Rattle.irc_door.proofs.Examples.{letters_are_whole, messages_are_told, others_go}
use Rattle.irc_door.proofs.Examples.{rows_are_turned, supported_fits, texts_are_messages}
use Rattle.irc_door.proofs.Examples.{version_is_one}
use Rattle.irc_door.proofs.laws.texts_said.Goals as goal

pub returns-clause-rows : goal.returns-clause-rows
returns-clause-rows c = rows_are_turned

pub returns-clause-others : goal.returns-clause-others
returns-clause-others c = others_go

pub returns-clause-letters : goal.returns-clause-letters
returns-clause-letters c = letters_are_whole

pub returns-clause-supported : goal.returns-clause-supported
returns-clause-supported c = supported_fits

pub returns-clause-version : goal.returns-clause-version
returns-clause-version c = version_is_one

pub returns-clause-message : goal.returns-clause-message
returns-clause-message c = messages_are_told

pub returns-clause-texts : goal.returns-clause-texts
returns-clause-texts c = texts_are_messages

pub returns-clause-capabilities : goal.returns-clause-capabilities
returns-clause-capabilities c = capabilities_are_none
