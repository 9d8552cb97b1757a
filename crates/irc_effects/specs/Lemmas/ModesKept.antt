-- Changes of modes keep a channel's name, who is invited, and who its members are.
use Rattle.std.proofs.Common.{◌≡◌, ℕ, Bool, true, false, cond, Option, Some, None, List, [], ◌∷◌}
use Rattle.std.proofs.Common.{refl, sym, ◌∙◌, ap, is_some, option_map}
use Rattle.irc_names.specs.Lemmas.PlainFacts.{is_some-map}
use Rattle.irc_names.specs.Fold.{key}
use Rattle.irc_names.specs.Tables.{Table, row, alter}
use Rattle.irc_names.specs.TableLaws.{same_fold, one_fold, row-alter}
use Rattle.irc_users.specs.declared.user.User.{User}
use Rattle.irc_channels.specs.declared.flags.Flags.{Flags}
use Rattle.irc_modes.specs.declared.modes.ModeChange.{ModeChange}
use Rattle.irc_modes.specs.declared.modes.ModeLetter.{ModeLetter}
use Rattle.irc_modes.specs.declared.modes.ModeLetter.TheVariants as letter
use Rattle.irc_channels.specs.declared.channel.Channel.{Channel}
use Rattle.irc_channels.specs.Channels.{member_changed, letter_changed, changed, all_changed}
use Rattle.irc_effects.specs.Room.{IsSoundRow}
use Rattle.irc_effects.specs.Lemmas.Rows.{some_key, some_row}

-- two channels with one name, the same invited, and the same members, whatever their flags
pub record HasSameFolk (before after : Channel) : Type 0 where
  pub name : after.name ≡ before.name
  pub invited : after.invited ≡ before.invited
  pub members : (q : List ℕ) → is_some (row after.members q) ≡ is_some (row before.members q)

-- a row that is changed where it is there
pub same_rows : {X : Type 0} (fold : List ℕ) (f : X → X) (table : Table X) (q : List ℕ)
    → is_some (row (alter fold (option_map f) table) q) ≡ is_some (row table q)
same_rows fold f table q =
    ap is_some (row-alter fold (option_map f) table q) ∙ by_fold (same_fold q fold) refl
  where
    by_fold : (b : Bool) → same_fold q fold ≡ b
        → is_some (cond b (option_map f (row table fold)) (row table q)) ≡ is_some (row table q)
    by_fold true one =
        is_some-map f (row table fold) ∙ ap (λ p. is_some (row table p)) (sym (one_fold q fold one))
    by_fold false two = refl

folk : (channel : Channel) → HasSameFolk channel channel
folk channel = record { name = refl; invited = refl; members = λ q. refl }

member_folk : (nick : List ℕ) (f : Flags → Flags) (channel : Channel)
    → HasSameFolk channel (member_changed nick f channel)
member_folk nick f channel =
    record { name = refl; invited = refl; members = same_rows (key nick) f channel.members }

pub letter_folk : (plus : Bool) (which : ModeLetter) (word : Option (List ℕ)) (channel : Channel)
    → HasSameFolk channel (letter_changed plus which word channel)
letter_folk plus letter.InviteOnly word channel =
    record { name = refl; invited = refl; members = λ q. refl }
letter_folk plus letter.Moderated word channel =
    record { name = refl; invited = refl; members = λ q. refl }
letter_folk plus letter.NoOutside word channel =
    record { name = refl; invited = refl; members = λ q. refl }
letter_folk plus letter.TopicLocked word channel =
    record { name = refl; invited = refl; members = λ q. refl }
letter_folk plus letter.Private word channel =
    record { name = refl; invited = refl; members = λ q. refl }
letter_folk plus letter.Secret word channel =
    record { name = refl; invited = refl; members = λ q. refl }
letter_folk true letter.Key (Some word) channel =
    record { name = refl; invited = refl; members = λ q. refl }
letter_folk true letter.Key None channel = folk channel
letter_folk false letter.Key word channel =
    record { name = refl; invited = refl; members = λ q. refl }
letter_folk true letter.Limit (Some word) channel =
    record { name = refl; invited = refl; members = λ q. refl }
letter_folk true letter.Limit None channel = folk channel
letter_folk false letter.Limit word channel =
    record { name = refl; invited = refl; members = λ q. refl }
letter_folk plus letter.Ban (Some word) channel =
    record { name = refl; invited = refl; members = λ q. refl }
letter_folk plus letter.Ban None channel = folk channel
letter_folk plus letter.Operator (Some word) channel =
    member_folk word (λ f. record f { op = plus }) channel
letter_folk plus letter.Operator None channel = folk channel
letter_folk plus letter.Voice (Some word) channel =
    member_folk word (λ f. record f { voice = plus }) channel
letter_folk plus letter.Voice None channel = folk channel

folk_sound : (users : Table User) (fold : List ℕ) (before after : Channel)
    → HasSameFolk before after → IsSoundRow users fold before → IsSoundRow users fold after
folk_sound users fold before after same sound = record {
  named = ap key same.name ∙ sound.named;
  members_known = λ q there. sound.members_known q (sym (same.members q) ∙ there);
  invited_known =
      λ q there. sound.invited_known q (ap (λ t. is_some (row t q)) (sym same.invited) ∙ there);
  some_member = let found = some_row before.members sound.some_member in
      some_key after.members found.0 (same.members found.0 ∙ found.1);
}

-- a row whose modes are changed
pub changed_sound : (users : Table User) (fold : List ℕ)
    (changes : List ModeChange) (channel : Channel) → IsSoundRow users fold channel
    → IsSoundRow users fold (all_changed changes channel)
changed_sound users fold [] channel sound = sound
changed_sound users fold (c ∷ changes) channel sound =
    changed_sound users fold changes (changed c channel)
    (folk_sound users fold channel (changed c channel)
    (letter_folk c.plus c.letter c.word channel) sound)
