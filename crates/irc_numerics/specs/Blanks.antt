-- What the code keeps in the storage of a list behind its last entry.
use Rattle.std.specs.Prelude.{codes}
use Rattle.irc_numerics.specs.declared.replies.Listed.{Listed}
use Rattle.irc_numerics.specs.declared.replies.OnChannel.{OnChannel}
use Rattle.irc_numerics.specs.declared.replies.MemberMark.TheVariants.{Plain}

-- where no member stands
abbrev pub blank_member : Listed
blank_member = record { mark = Plain; nick = codes "x" }

-- where no channel does
abbrev pub blank_place : OnChannel
blank_place = record { mark = Plain; channel = codes "#" }
