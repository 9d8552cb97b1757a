-- A command that has several refusals: a table of conditions, each with its reply. The first that
-- holds is answered, and nothing is done.
use Rattle.std.specs.Prelude.{Bool, Option, Some, None, List, [], ◌∷◌, if◌then◌else◌}
use Rattle.irc_numerics.specs.declared.replies.Reply.{Reply}
use Rattle.irc_acts.specs.declared.act.Act.{Act}
use Rattle.irc_acts.specs.declared.act.Act.TheVariants.{Answer}

-- whether a condition holds, and what is answered where it does
pub record RefusalRow : Type 0 where
  pub applies : Bool
  pub reply : Reply

-- a row of such a table
abbrev pub where_so : Bool → Reply → RefusalRow
where_so applies reply = record { applies = applies; reply = reply }

-- what is answered, if any condition holds
abbrev pub first_refusal : List RefusalRow → Option Reply
first_refusal [] = None
first_refusal (row ∷ rows) = if row.applies then Some row.reply else first_refusal rows

-- these steps, unless there is a refusal
abbrev pub unless_refused : Option Reply → List Act → List Act
unless_refused None steps = steps
unless_refused (Some reply) steps = Answer reply ∷ []
