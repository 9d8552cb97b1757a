-- Why a line that tells of an effect is refused, by why it closes the link.
use Rattle.irc_batch.specs.declared.close_reason.CloseReason.{CloseReason}
use Rattle.irc_batch.specs.declared.close_reason.CloseReason.TheVariants as reason
use Rattle.irc_link_words.specs.declared.fault.WireFault.{WireFault}
use Rattle.irc_link_words.specs.declared.fault.WireFault.TheVariants as fault

-- a line that tells of an effect closes the link for one of the first five reasons alone
abbrev pub wire_fault : CloseReason → WireFault
wire_fault reason.UnknownCommand = fault.UnknownCommand
wire_fault reason.BadToken = fault.BadToken
wire_fault reason.WrongDirection = fault.WrongDirection
wire_fault reason.BadName = fault.BadName
wire_fault other = fault.Parameters
