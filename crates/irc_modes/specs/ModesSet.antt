-- The changes that set all that is set in a channel's modes, as a server tells them to one that
-- knows the channel only from it. Made on a channel with no mode set, they make the modes what they
-- are.
use Rattle.std.specs.Prelude.{◌≡◌, ℕ, ◌≤◌, Bool, true, Option, Some, None, List, [], ◌∷◌, ◌++◌, map}
use Rattle.std.specs.Prelude.{decimal, if◌then◌else◌}
use Rattle.std.specs.List.{list_all}
use Rattle.std.specs.Option.{IfSome}
use Rattle.irc_names.specs.Names.{is_ban_mask, IsKey}
use Rattle.irc_modes.specs.declared.modes.Modes.{Modes}
use Rattle.irc_modes.specs.declared.modes.ModeChange.{ModeChange}
use Rattle.irc_modes.specs.declared.modes.ModeLetter.{ModeLetter}
use Rattle.irc_modes.specs.declared.modes.ModeLetter.TheVariants as letter
use Rattle.irc_modes.specs.declared.modes.Privacy.{Privacy}
use Rattle.irc_modes.specs.declared.modes.Privacy.TheVariants.{Public, Private, Secret}
use Rattle.irc_modes.specs.Bans.{IsBanList}
use Rattle.irc_modes.specs.Limits.{max_limit}

-- `+`, a letter, and its parameter if it has one
abbrev pub set : ModeLetter → Option (List ℕ) → ModeChange
set which word = record { plus = true; letter = which; word = word }

-- a mode without a parameter
abbrev pub flag_set : Bool → ModeLetter → List ModeChange
flag_set on which = if on then set which None ∷ [] else []

-- p and s are one value
abbrev pub privacy_set : Privacy → List ModeChange
privacy_set Public = []
privacy_set Private = set letter.Private None ∷ []
privacy_set Secret = set letter.Secret None ∷ []

-- the key, and the limit in decimal; what is not set needs no letter
abbrev pub key_set : Option (List ℕ) → List ModeChange
key_set None = []
key_set (Some key) = set letter.Key (Some key) ∷ []

abbrev pub limit_set : Option ℕ → List ModeChange
limit_set None = []
limit_set (Some limit) = set letter.Limit (Some (decimal limit)) ∷ []

-- those of i m n p s t k l that are set, in this order (the order is our own choice)
abbrev pub set_changes : Modes → List ModeChange
set_changes modes =
    flag_set modes.invite_only letter.InviteOnly
    ++ (flag_set modes.moderated letter.Moderated
    ++ (flag_set modes.no_outside letter.NoOutside
    ++ (privacy_set modes.privacy
    ++ (flag_set modes.topic_locked letter.TopicLocked
    ++ (key_set modes.key
    ++ limit_set modes.limit)))))

-- a ban each, in folded order
abbrev pub ban_changes : List (List ℕ) → List ModeChange
ban_changes bans = map (λ mask. set letter.Ban (Some mask)) bans

-- ---- what modes can be

-- a channel's limit is 1 to 65535 (our own choice)
pub record IsLimit (limit : ℕ) : Type 0 where
  pub least : 1 ≤ limit
  pub most : limit ≤ max_limit

-- A key and a limit that are set keep their rules; the bans are masks, in folded order, and no two
-- the same. Of how many bans there are nothing is said.
pub record AreWithinLimits (modes : Modes) : Type 0 where
  pub key : IfSome modes.key IsKey
  pub limit : IfSome modes.limit IsLimit
  pub in_order : IsBanList modes.bans
  pub masks : list_all is_ban_mask modes.bans ≡ true
