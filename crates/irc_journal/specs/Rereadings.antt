-- The lines that tell of a configuration that is read again (our own choice).
--
--   ircd: configuration: read again
--   ircd: configuration: not read again: it is bad
--   ircd: configuration: name has changed: that wants a restart
use Rattle.std.specs.Prelude.{List, ℕ, ◌++◌, codes}
use Rattle.irc_journal.specs.declared.rereading.Rereading.{Rereading}
use Rattle.irc_journal.specs.declared.rereading.Rereading.TheVariants.{Taken, Unreadable, Bad}
use Rattle.irc_journal.specs.declared.rereading.Rereading.TheVariants.{BadMotd, NoMemory, Stuck}

abbrev pub rereading_line : Rereading → List ℕ
rereading_line Taken = codes "ircd: configuration: read again\n"
rereading_line Unreadable = codes "ircd: configuration: not read again: it cannot be read\n"
rereading_line Bad = codes "ircd: configuration: not read again: it is bad\n"
rereading_line BadMotd = codes "ircd: configuration: not read again: its motd is bad\n"
rereading_line NoMemory = codes "ircd: configuration: not read again: no memory\n"
rereading_line Stuck =
    codes "ircd: configuration: not read again: what asks for it cannot be taken away\n"

-- what stands at a key waits for the next start
abbrev pub restart_line : List ℕ → List ℕ
restart_line key =
    codes "ircd: configuration: " ++ key ++ codes " has changed: that wants a restart\n"
