-- The modes of a channel, and what each change of one does (RFC 2811 section 4).
use Rattle.std.specs.Prelude.{ℕ, Bool, true, false, not, ◌&&◌, Option, Some, None, List, [], ◌∷◌}
use Rattle.std.specs.Prelude.{◌++◌, fold, filter, nat_le, if◌then◌else◌}
use Rattle.std.specs.List.{list_any, list_all}
use Rattle.std.specs.Char.{is_ascii_digit}
use Rattle.std.specs.Option.{option_copied}
use Rattle.std.specs.Ordering.{is_lt}
use Rattle.irc_names.specs.Fold.{same, name_cmp}
use Rattle.irc_names.specs.Names.{fits, is_key, is_ban_mask}
use Rattle.irc_names.specs.Digits.{number_of}
use Rattle.irc_modes.specs.Limits.{max_limit, max_limit_digits}
use Rattle.irc_modes.specs.declared.modes.Privacy.{Privacy}
use Rattle.irc_modes.specs.declared.modes.Privacy.TheVariants.{Public, Private, Secret}
use Rattle.irc_modes.specs.declared.modes.Modes.{Modes}
use Rattle.irc_modes.specs.declared.modes.ModeChange.{ModeChange}
use Rattle.irc_modes.specs.declared.modes.AskedChange.{AskedChange}
use Rattle.irc_modes.specs.declared.modes.ModeLetter.{ModeLetter}
use Rattle.irc_modes.specs.declared.modes.ModeLetter.TheVariants as letter

-- the modes of a new channel
abbrev pub no_modes : Modes
no_modes = record {
  invite_only = false;
  moderated = false;
  no_outside = false;
  topic_locked = false;
  privacy = Public;
  key = None;
  limit = None;
  bans = [];
}

-- whether nothing is in a list
abbrev pub is_nil : {X : Type 0} → List X → Bool
is_nil [] = true
is_nil (x ∷ xs) = false

-- p is set only where nothing is, and cleared only where it is set (our own choice)
abbrev pub private_changed : Bool → Privacy → Privacy
private_changed true Public = Private
private_changed false Private = Public
private_changed _ before = before

-- s is set in any case, and cleared only where it is set (our own choice)
abbrev pub secret_changed : Bool → Privacy → Privacy
secret_changed true _ = Secret
secret_changed false Secret = Public
secret_changed false before = before

-- a limit is 1 to 65535, written in at most 5 digits (our own choice)
unfoldable pub is_limit : List ℕ → Bool
is_limit digits =
    list_all is_ascii_digit digits && fits max_limit_digits digits
    && (nat_le 1 (number_of digits) && nat_le (number_of digits) max_limit)

-- k is set to its parameter; one that is no key changes nothing, nor does k without one. It is
-- cleared whatever its parameter is.
abbrev pub key_changed : Bool → Option (List ℕ) → Option (List ℕ) → Option (List ℕ)
key_changed true (Some word) before = if is_key word then Some word else before
key_changed true None before = before
key_changed false word before = None

-- l is set to the number that its parameter writes; one that is no limit changes nothing, nor does
-- l without one
abbrev pub limit_changed : Bool → Option (List ℕ) → Option ℕ → Option ℕ
limit_changed true (Some word) before = if is_limit word then Some (number_of word) else before
limit_changed true None before = before
limit_changed false word before = None

-- The bans with this mask in its place in folded order. It takes the place of one that is the same
-- under the fold.
abbrev pub with_ban : List ℕ → List (List ℕ) → List (List ℕ)
with_ban mask bans =
    filter (λ ban. is_lt (name_cmp ban mask)) bans
    ++ mask ∷ filter (λ ban. is_lt (name_cmp mask ban)) bans

-- The bans but for the one that is the same under the fold.
abbrev pub without_ban : List ℕ → List (List ℕ) → List (List ℕ)
without_ban mask bans = filter (λ ban. not (same mask ban)) bans

-- what the sign does with a mask
abbrev pub ban_changed : Bool → List ℕ → List (List ℕ) → List (List ℕ)
ban_changed true mask bans = with_ban mask bans
ban_changed false mask bans = without_ban mask bans

-- a ban is set or taken away; a parameter that is no mask changes nothing
abbrev pub bans_changed : Bool → List ℕ → List (List ℕ) → List (List ℕ)
bans_changed plus word bans = if is_ban_mask word then ban_changed plus word bans else bans

-- a letter that has no parameter changes no ban
abbrev pub bans_by_word : Bool → Option (List ℕ) → List (List ℕ) → List (List ℕ)
bans_by_word plus (Some word) bans = bans_changed plus word bans
bans_by_word plus None bans = bans

-- the mask that a change of a ban names; none where it changes no ban, or its parameter is no mask
abbrev pub mask_in : Option (List ℕ) → Option (List ℕ)
mask_in None = None
mask_in (Some word) = if is_ban_mask word then Some word else None

abbrev pub ban_mask : ModeLetter → Option (List ℕ) → Option (List ℕ)
ban_mask letter.Ban word = mask_in word
ban_mask other word = None

abbrev pub is_new : List (List ℕ) → Option (List ℕ) → Bool
is_new bans None = false
is_new bans (Some mask) = not (list_any (same mask) bans)

-- whether a change sets a ban that is not there: no other change of modes takes memory
abbrev pub adds_ban : List (List ℕ) → ModeChange → Bool
adds_ban bans change = is_new bans (ban_mask change.letter change.word) && change.plus

-- what a change of a mode of the channel does, by its letter; o and v are modes of a member
abbrev pub mode_changed : Bool → ModeLetter → Option (List ℕ) → Modes → Modes
mode_changed plus letter.InviteOnly word m = record m { invite_only = plus }
mode_changed plus letter.Moderated word m = record m { moderated = plus }
mode_changed plus letter.NoOutside word m = record m { no_outside = plus }
mode_changed plus letter.TopicLocked word m = record m { topic_locked = plus }
mode_changed plus letter.Private word m = record m { privacy = private_changed plus m.privacy }
mode_changed plus letter.Secret word m = record m { privacy = secret_changed plus m.privacy }
mode_changed plus letter.Key word m = record m { key = key_changed plus word m.key }
mode_changed plus letter.Limit word m = record m { limit = limit_changed plus word m.limit }
mode_changed plus letter.Ban word m = record m { bans = bans_by_word plus word m.bans }
mode_changed plus other word m = m

-- what one change does
abbrev pub mode_step : Modes → ModeChange → Modes
mode_step modes change = mode_changed change.plus change.letter change.word modes

-- the modes of a channel after changes, one after another
abbrev pub modes_after : List ModeChange → Modes → Modes
modes_after changes modes = fold mode_step modes changes

-- the change that is asked for, with a parameter of its own
abbrev pub kept_change : AskedChange → ModeChange
kept_change asked =
    record { plus = asked.plus; letter = asked.letter; word = option_copied asked.word }
