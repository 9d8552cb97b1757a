-- Channels with the invitations of some users alone: what each change of a channel makes of them.
use Rattle.std.proofs.Common.{◌≡◌, ℕ, Bool, true, false, cond, Option, Some, None, List, [], ◌∷◌}
use Rattle.std.proofs.Common.{refl, sym, ◌∙◌, ap, unwrap_or, option_map}
use Rattle.std.specs.Option.{option_and_then}
use Rattle.std.specs.FinMap.{keys, retain_keys}
use Rattle.irc_names.specs.Tables.{Table, row, alter, moved}
use Rattle.irc_names.specs.TableLaws.{same_fold, retain_keys-empty, retain_keys-alter}
use Rattle.irc_modes.specs.declared.modes.ModeChange.{ModeChange}
use Rattle.irc_modes.specs.declared.modes.ModeLetter.{ModeLetter}
use Rattle.irc_modes.specs.declared.modes.ModeLetter.TheVariants as letter
use Rattle.irc_channels.specs.declared.channel.Channel.{Channel}
use Rattle.irc_channels.specs.Channels.{has_member, new_channel, joined, left, without_user}
use Rattle.irc_channels.specs.Channels.{renamed, invited_too, with_topic, letter_changed, changed}
use Rattle.irc_channels.specs.Channels.{all_changed}
use Rattle.irc_modes.specs.Modes.{is_nil}
use Rattle.irc_effects.specs.Invitations.{inviting_only}
use Rattle.irc_effects.specs.Lemmas.Rows.{alter_same}

-- the channel with the invitations of those alone who pass a test, as a row that stays
abbrev pub keeping : (List ℕ → Bool) → Channel → Option Channel
keeping stays channel = Some (inviting_only stays channel)

-- the same channel with others invited
abbrev inviting : Channel → Table (Unit {0}) → Channel
inviting channel invited = record channel { invited = invited }

none_either : (b : Bool) → ◌≡◌ {A = Option (Unit {0})} (cond b None None) None
none_either true = refl
none_either false = refl

-- whoever is taken out of those who are invited
pub without_invited : (before after : List ℕ → Bool) (nick : List ℕ) (invited : Table (Unit {0}))
    → ((q : List ℕ) → same_fold q nick ≡ false → after q ≡ before q) → retain_keys
    (alter nick (λ _. None) invited) after ≡ alter nick (λ _. None) (retain_keys invited before)
without_invited before after nick invited elsewhere =
    retain_keys-alter before after nick (λ _. None) (λ _. None) invited
    (none_either (after nick)) elsewhere

pub left_only : (stays : List ℕ → Bool) (nick : List ℕ) (found : Option Channel)
    → option_and_then (keeping stays) (option_and_then (left nick) found)
    ≡ option_and_then (left nick) (option_and_then (keeping stays) found)
left_only stays nick None = refl
left_only stays nick (Some channel) =
    by_tests (has_member nick channel) (is_nil (keys (alter nick (λ _. None) channel.members)))
  where
    rest : Channel
    rest = record channel { members = alter nick (λ _. None) channel.members }

    by_tests : (member none : Bool)
        → option_and_then (keeping stays) (cond member (cond none None (Some rest)) (Some channel))
        ≡ cond member (cond none None (Some (inviting_only stays rest)))
        (Some (inviting_only stays channel))
    by_tests true true = refl
    by_tests true false = refl
    by_tests false none = refl

joined_one : (stays : List ℕ → Bool) (nick : List ℕ) (op : Bool) (channel : Channel)
    → inviting_only stays (joined nick op channel) ≡ joined nick op (inviting_only stays channel)
joined_one stays nick op channel = by_test (has_member nick channel)
  where
    more : Channel
    more = record channel {
      members = alter nick (λ _. Some (record { op = op; voice = false })) channel.members;
      invited = alter nick (λ _. None) channel.invited;
    }

    by_test : (member : Bool)
        → inviting_only stays (cond member channel more)
        ≡ cond member (inviting_only stays channel)
        (inviting more (alter nick (λ _. None) (retain_keys channel.invited stays)))
    by_test true = refl
    by_test false =
        ap (inviting more) (without_invited stays stays nick channel.invited (λ q apart. refl))

pub joined_only : (stays : List ℕ → Bool) (nick : List ℕ)
    (op : Bool) (name : List ℕ) (found : Option Channel)
    → option_and_then (keeping stays) (Some (joined nick op (unwrap_or found (new_channel name))))
    ≡ Some (joined nick op (unwrap_or (option_and_then (keeping stays) found) (new_channel name)))
joined_only stays nick op name None =
    ap Some (joined_one stays nick op (new_channel name)
    ∙ ap (λ t. joined nick op (inviting (new_channel name) t)) (retain_keys-empty stays))
joined_only stays nick op name (Some channel) = ap Some (joined_one stays nick op channel)

letter_only : (stays : List ℕ → Bool) (plus : Bool) (which : ModeLetter) (word : Option (List ℕ))
    (channel : Channel) → inviting_only stays (letter_changed plus which word channel)
    ≡ letter_changed plus which word (inviting_only stays channel)
letter_only stays plus letter.InviteOnly word channel = refl
letter_only stays plus letter.Moderated word channel = refl
letter_only stays plus letter.NoOutside word channel = refl
letter_only stays plus letter.TopicLocked word channel = refl
letter_only stays plus letter.Private word channel = refl
letter_only stays plus letter.Secret word channel = refl
letter_only stays plus letter.Key word channel = refl
letter_only stays plus letter.Limit word channel = refl
letter_only stays plus letter.Ban word channel = refl
letter_only stays plus letter.Operator (Some word) channel = refl
letter_only stays plus letter.Operator None channel = refl
letter_only stays plus letter.Voice (Some word) channel = refl
letter_only stays plus letter.Voice None channel = refl

changed_one : (stays : List ℕ → Bool) (changes : List ModeChange) (channel : Channel)
    → inviting_only stays (all_changed changes channel) ≡ all_changed changes
    (inviting_only stays channel)
changed_one stays [] channel = refl
changed_one stays (c ∷ changes) channel =
    changed_one stays changes (changed c channel)
    ∙ ap (all_changed changes) (letter_only stays c.plus c.letter c.word channel)

pub changed_only : (stays : List ℕ → Bool) (changes : List ModeChange) (found : Option Channel)
    → option_and_then (keeping stays) (option_map (all_changed changes) found)
    ≡ option_map (all_changed changes) (option_and_then (keeping stays) found)
changed_only stays changes None = refl
changed_only stays changes (Some channel) = ap Some (changed_one stays changes channel)

pub topic_only : (stays : List ℕ → Bool) (topic : List ℕ) (found : Option Channel)
    → option_and_then (keeping stays) (option_map (with_topic topic) found)
    ≡ option_map (with_topic topic) (option_and_then (keeping stays) found)
topic_only stays topic None = refl
topic_only stays topic (Some channel) = refl

-- one invitation more, which stays
pub invited_only : (stays : List ℕ → Bool) (nick : List ℕ)
    → stays nick ≡ true → (found : Option Channel)
    → option_and_then (keeping stays) (option_map (invited_too nick) found)
    ≡ option_map (invited_too nick) (option_and_then (keeping stays) found)
invited_only stays nick here None = refl
invited_only stays nick here (Some channel) =
    ap (λ t. Some (inviting channel t))
    (retain_keys-alter stays stays nick (λ _. Some tt) (λ _. Some tt) channel.invited
    (ap (λ b. cond b (Some tt) None) here) (λ q apart. refl))

-- one invitation more, which does not stay
pub invited_elsewhere : (stays : List ℕ → Bool) (nick : List ℕ) → stays nick ≡ false
    → (found : Option Channel) → option_and_then (keeping stays)
    (option_map (invited_too nick) found) ≡ option_and_then (keeping stays) found
invited_elsewhere stays nick away None = refl
invited_elsewhere stays nick away (Some channel) =
    ap (λ t. Some (inviting channel t)) (same_invited channel.invited)
  where
    same_invited : (invited : Table (Unit {0}))
        → retain_keys (alter nick (λ _. Some tt) invited) stays ≡ retain_keys invited stays
    same_invited invited =
        retain_keys-alter stays stays nick (λ _. Some tt) (λ o. o) invited
        (ap (λ b. cond b (Some tt) None) away ∙ sym (ap (λ b. cond b (row invited nick) None) away))
        (λ q apart. refl)
        ∙ alter_same nick (λ o. o) (retain_keys invited stays) refl

-- a user is gone
pub without_only : (before after : List ℕ → Bool) (nick : List ℕ) (channel : Channel)
    → ((q : List ℕ) → same_fold q nick ≡ false → after q ≡ before q) → option_and_then
    (keeping after) (without_user nick channel) ≡ without_user nick (inviting_only before channel)
without_only before after nick channel elsewhere =
    by_test (is_nil (keys (alter nick (λ _. None) channel.members)))
  where
    rest : Channel
    rest = record channel {
      members = alter nick (λ _. None) channel.members;
      invited = alter nick (λ _. None) channel.invited;
    }

    by_test : (none : Bool)
        → option_and_then (keeping after) (cond none None (Some rest))
        ≡ cond none None
        (Some (inviting rest (alter nick (λ _. None) (retain_keys channel.invited before))))
    by_test true = refl
    by_test false = ap (λ t. Some (inviting rest t))
        (without_invited before after nick channel.invited elsewhere)

-- a user has another nickname
pub renamed_only : (before after : List ℕ → Bool) (old new : List ℕ) (channel : Channel)
    → retain_keys (moved old new (λ u. u) channel.invited) after
    ≡ moved old new (λ u. u) (retain_keys channel.invited before)
    → inviting_only after (renamed old new channel) ≡ renamed old new (inviting_only before channel)
renamed_only before after old new channel is = ap (inviting (renamed old new channel)) is
