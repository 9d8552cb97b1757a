-- Many changes of modes are those of the channel and those of its members, which do not touch each
-- other.
use Rattle.std.proofs.Common.{◌≡◌, ℕ, Bool, Option, Some, None, List, [], ◌∷◌, fold, refl, sym, ap}
use Rattle.std.proofs.Common.{◌∙◌, option_map, is_some, true, false}
use Rattle.std.specs.Prelude.{unwrap_or}
use Rattle.irc_names.specs.Fold.{key}
use Rattle.irc_names.specs.Tables.{Table, row, put, alter}
use Rattle.irc_channels.specs.declared.channel.Channel.{Channel}
use Rattle.irc_channels.specs.declared.flags.Flags.{Flags}
use Rattle.irc_modes.specs.declared.modes.Modes.{Modes}
use Rattle.irc_modes.specs.declared.modes.ModeChange.{ModeChange}
use Rattle.irc_modes.specs.declared.modes.ModeLetter.{ModeLetter}
use Rattle.irc_modes.specs.declared.modes.ModeLetter.TheVariants as letter
use Rattle.irc_modes.specs.Modes.{mode_changed, mode_step, modes_after}
use Rattle.irc_channels.specs.Channels.{letter_changed, all_changed}
use Rattle.irc_channels.specs.Loops.ManyChanges.{members_changed, members_step, members_after}

-- a channel with other modes and members
abbrev pub parted : Modes → Table Flags → Channel → Channel
parted modes members channel = record channel { modes = modes; members = members }

letter_parted : (plus : Bool) (which : ModeLetter) (word : Option (List ℕ)) (channel : Channel)
    → letter_changed plus which word channel ≡ parted (mode_changed plus which word channel.modes)
    (members_changed plus which word channel.members) channel
letter_parted plus letter.InviteOnly word channel = refl
letter_parted plus letter.Moderated word channel = refl
letter_parted plus letter.NoOutside word channel = refl
letter_parted plus letter.TopicLocked word channel = refl
letter_parted plus letter.Private word channel = refl
letter_parted plus letter.Secret word channel = refl
letter_parted plus letter.Key word channel = refl
letter_parted plus letter.Limit word channel = refl
letter_parted plus letter.Ban word channel = refl
letter_parted plus letter.Operator (Some word) channel = refl
letter_parted plus letter.Operator None channel = refl
letter_parted plus letter.Voice (Some word) channel = refl
letter_parted plus letter.Voice None channel = refl

pub all_parted : (changes : List ModeChange) (channel : Channel) → all_changed changes channel
    ≡ parted (modes_after changes channel.modes) (members_after changes channel.members) channel
all_parted [] channel = refl
all_parted (change ∷ changes) channel =
    ap (all_changed changes) (letter_parted change.plus change.letter change.word channel)
    ∙ all_parted changes
    (parted (mode_step channel.modes change) (members_step channel.members change) channel)

-- a row that is there is changed, and one that is not is made and changed
pub there_changed : (fold : List ℕ) (f : Channel → Channel) (fresh : Channel)
    (table : Table Channel) → is_some (row table fold) ≡ true
    → alter fold (option_map f) table ≡ alter fold (λ c. Some (f (unwrap_or c fresh))) table
unfolding alter
there_changed fold f fresh table there = ap (put table fold) (by (row table fold) there)
  where
    by : (o : Option Channel) → is_some o ≡ true → option_map f o ≡ Some (f (unwrap_or o fresh))
    by None there = cc
    by (Some channel) there = refl

pub new_changed : (fold : List ℕ) (f : Channel → Channel) (fresh : Channel)
    (table : Table Channel) → is_some (row table fold) ≡ false
    → alter fold (λ _. Some (f fresh)) table ≡ alter fold (λ c. Some (f (unwrap_or c fresh))) table
unfolding alter
new_changed fold f fresh table missing = ap (put table fold) (by (row table fold) missing)
  where
    by : (o : Option Channel) → is_some o ≡ false → Some (f fresh) ≡ Some (f (unwrap_or o fresh))
    by None missing = refl
    by (Some channel) missing = cc

-- the same, as the call that joins a user to a channel finds them: told is the name that it was
-- given, and inside its rows
pub joined_there : (name told : List ℕ) (f : Channel → Channel) (fresh : Channel)
    (inside before after : Table Channel) (found : Bool) → found ≡ is_some (row before (key name))
    → found ≡ true → told ≡ name → inside ≡ before → after ≡ alter (key told) (option_map f) inside
    → after ≡ alter (key name) (λ c. Some (f (unwrap_or c fresh))) before
joined_there name told f fresh inside before after found is there same_name same_rows told_after =
    told_after ∙ ap (λ n. alter (key n) (option_map f) inside) same_name
    ∙ ap (alter (key name) (option_map f)) same_rows
    ∙ there_changed (key name) f fresh before (sym is ∙ there)

pub joined_new : (name told : List ℕ) (f : Channel → Channel) (fresh made : Channel)
    (inside before after : Table Channel) (found : Bool) → found ≡ is_some (row before (key name))
    → found ≡ false → told ≡ name → inside ≡ before → made ≡ f fresh → after ≡ alter (key told)
    (λ _. Some made) inside → after ≡ alter (key name) (λ c. Some (f (unwrap_or c fresh))) before
joined_new name told f fresh made inside before after found is missing same_name same_rows is_made
    told_after =
    told_after ∙ ap (λ n. alter (key n) (λ _. Some made) inside) same_name
    ∙ ap (alter (key name) (λ _. Some made)) same_rows
    ∙ ap (λ m. alter (key name) (λ _. Some m) before) is_made
    ∙ new_changed (key name) f fresh before (sym is ∙ missing)
