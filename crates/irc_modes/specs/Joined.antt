-- Two descriptions of one channel's modes, joined: nothing that one of them has set is lost (our
-- own choice; RFC 2813 says nothing of servers whose channels differ).
use Rattle.std.specs.Prelude.{ℕ, ◌||◌, List, map}
use Rattle.std.specs.Ordering.{nat_cmp}
use Rattle.std.specs.FinMap.{from_entries, values}
use Rattle.irc_names.specs.Fold.{key}
use Rattle.irc_names.specs.Greater.{bytes_cmp, greater_of}
use Rattle.irc_names.specs.Tables.{Table, both}
use Rattle.irc_modes.specs.declared.modes.Modes.{Modes}
use Rattle.irc_modes.specs.declared.modes.Privacy.{Privacy}
use Rattle.irc_modes.specs.declared.modes.Privacy.TheVariants.{Public, Private, Secret}

-- none is less than p, and p than s
abbrev pub joined_privacy : Privacy → Privacy → Privacy
joined_privacy Public other = other
joined_privacy Private Secret = Secret
joined_privacy Private other = Private
joined_privacy Secret other = Secret

-- bans by their folds
abbrev pub by_fold : List (List ℕ) → Table (List ℕ)
by_fold bans = from_entries (map (λ ban. (key ban, ban)) bans)

-- all bans of both, in folded order; of two spellings of one ban the greater. There may be as many
-- as both have.
abbrev pub joined_bans : List (List ℕ) → List (List ℕ) → List (List ℕ)
joined_bans one other = values (both (greater_of bytes_cmp) (by_fold one) (by_fold other))

-- A flag is set where one of them has it; the key is the greater by bytes, the limit the greater
-- number.
abbrev pub joined_modes : Modes → Modes → Modes
joined_modes one other = record {
  invite_only = one.invite_only || other.invite_only;
  moderated = one.moderated || other.moderated;
  no_outside = one.no_outside || other.no_outside;
  topic_locked = one.topic_locked || other.topic_locked;
  privacy = joined_privacy one.privacy other.privacy;
  key = greater_of bytes_cmp one.key other.key;
  limit = greater_of nat_cmp one.limit other.limit;
  bans = joined_bans one.bans other.bans;
}
