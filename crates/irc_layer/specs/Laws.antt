-- How long the log of an end gets: in one that holds 1,048,576 changes nothing is put, and with the
-- next line that comes and does not say that some are read the link is closed (`heard_by`). No line
-- that comes makes it longer (`LogsStayAsLong` of `irc_crossing`). So it is bounded by that and by
-- what one line more tells.
use Rattle.std.specs.Prelude.{◌≡◌, ℕ, true, List}
use Rattle.irc_layer.specs.declared.end.Cause.{Cause}
use Rattle.irc_layer.specs.declared.end.End.{End}
use Rattle.irc_layer.specs.Ends.{is_full}
use Rattle.irc_layer.specs.Putting.{behind_line}

abbrev pub FullLogsStay : Type 0
FullLogsStay = (cause : Cause) (link lines : ℕ) (line : List ℕ) (end : End) → is_full end ≡ true
    → (behind_line cause link lines line end).log ≡ end.log
