-- What has become of whoever had a nickname, as a name.
use Rattle.std.specs.Prelude.{ℕ, Option, Some, None, List}
use Rattle.irc_crossing.specs.declared.change.Standing.{Standing}
use Rattle.irc_crossing.specs.declared.change.Standing.TheVariants.{Stays, Renamed, Gone}

abbrev pub name_of : Standing → List ℕ → Option (List ℕ)
name_of Stays nick = Some nick
name_of (Renamed new) nick = Some new.now
name_of Gone nick = None
