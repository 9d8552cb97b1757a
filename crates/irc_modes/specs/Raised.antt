-- Which changes of modes, as a server tells them of its side's channel, raise something in the
-- modes that are there: those are made, and the others are left out (our own choice).
use Rattle.std.specs.Prelude.{ℕ, Bool, true, false, not, Option, Some, List, [], ◌∷◌, find}
use Rattle.std.specs.Prelude.{if◌then◌else◌}
use Rattle.std.specs.declared.cmp.Ordering.{Ordering}
use Rattle.std.specs.Ordering.{is_lt, nat_cmp}
use Rattle.std.specs.Option.{option_map_or}
use Rattle.irc_names.specs.Fold.{same}
use Rattle.irc_names.specs.Greater.{bytes_cmp}
use Rattle.irc_names.specs.Digits.{number_of}
use Rattle.irc_modes.specs.Modes.{is_limit, with_ban, mode_step}
use Rattle.irc_modes.specs.declared.modes.Modes.{Modes}
use Rattle.irc_modes.specs.declared.modes.ModeChange.{ModeChange}
use Rattle.irc_modes.specs.declared.modes.ModeLetter.{ModeLetter}
use Rattle.irc_modes.specs.declared.modes.ModeLetter.TheVariants as letter
use Rattle.irc_modes.specs.declared.modes.Privacy.{Privacy}
use Rattle.irc_modes.specs.declared.modes.Privacy.TheVariants.{Public, Secret}

-- whether something new is greater than what is there; it is where nothing is there
abbrev pub is_above : {X : Type 0} → (X → X → Ordering) → X → Option X → Bool
is_above order new there = option_map_or (λ old. is_lt (order old new)) there true

-- p and s are one value: what of it each of the two letters looks at
abbrev pub is_public : Privacy → Bool
is_public Public = true
is_public other = false

abbrev pub is_secret : Privacy → Bool
is_secret Secret = true
is_secret other = false

-- What is taken away counts always, and so does a mode of a member. A word that is no limit raises
-- one: it changes nothing, so that it does not matter.
abbrev pub raises : Bool → ModeLetter → Option (List ℕ) → Modes → Bool
raises true letter.InviteOnly word modes = not modes.invite_only
raises true letter.Moderated word modes = not modes.moderated
raises true letter.NoOutside word modes = not modes.no_outside
raises true letter.TopicLocked word modes = not modes.topic_locked
raises true letter.Private word modes = is_public modes.privacy
raises true letter.Secret word modes = not (is_secret modes.privacy)
raises true letter.Key (Some word) modes = is_above bytes_cmp word modes.key
raises true letter.Limit (Some word) modes =
    if is_limit word then is_above nat_cmp (number_of word) modes.limit else true
raises true letter.Ban (Some word) modes = is_above bytes_cmp word (find (same word) modes.bans)
raises plus other word modes = true

-- Of changes one after another those that raise something, each judged by the modes as those before
-- it have left them.
abbrev pub raising : List ModeChange → Modes → List ModeChange
raising [] modes = []
raising (change ∷ changes) modes =
    if raises change.plus change.letter change.word modes
    then change ∷ raising changes (mode_step modes change) else raising changes modes

-- a change is made where it raises something
abbrev pub raise_step : Modes → ModeChange → Modes
raise_step modes change =
    if raises change.plus change.letter change.word modes then mode_step modes change else modes

-- a ban is set where none is the same under the fold, or one that is less by bytes
abbrev pub raise_ban : List (List ℕ) → List ℕ → List (List ℕ)
raise_ban bans mask =
    if is_above bytes_cmp mask (find (same mask) bans) then with_ban mask bans else bans

-- a change, where it raises something
abbrev pub raised_of : ModeChange → Modes → List ModeChange
raised_of change modes =
    if raises change.plus change.letter change.word modes then change ∷ [] else []
