-- Agreement, and what a burst tells, does not look at invitations.
use Rattle.std.proofs.Common.{◌≡◌, ℕ, Bool, true, ◌&&◌, Option, Some, None, List, [], ◌∷◌, refl}
use Rattle.std.proofs.Common.{sym, ◌∙◌, ap, option_map, filter_map}
use Rattle.std.specs.List.{list_all}
use Rattle.std.specs.Option.{option_and_then, option_map_or}
use Rattle.std.specs.FinMap.{entries}
use Rattle.irc_names.specs.Tables.{row}
use Rattle.irc_names.specs.TableLaws.{row-each}
use Rattle.irc_channels.specs.declared.channel.Channel.{Channel}
use Rattle.irc_room.specs.Room.{Room, IsWellFormed}
use Rattle.irc_room.specs.Invitations.{of_home, HomeIsWellFormed}
use Rattle.irc_merge.specs.Agreeing.{are_alike, agree}
use Rattle.irc_merge.specs.AsideInvitations.{AgreeLooksAtNoInvitation, BurstTellsNoInvitation}
use Rattle.irc_merge.specs.Merge.{room_without, uninvited, channel_uninvited}
use Rattle.irc_merge.specs.Lemmas.TableWords.{entries_each}
use Rattle.irc_merge.specs.Lemmas.HomeOfMerge.{same_without}
use Rattle.irc_merge.proofs.OwnInvitations.{of_home_uninvited, of_home_burst, without_uninvited}

-- ---- agreement

abbrev agrees_on : Room → List ℕ × Channel → Bool
agrees_on other e = option_map_or (are_alike e.1) (row other.channels e.0) true

aside_row : (channel : Channel) (found : Option Channel) → option_map_or (are_alike channel)
    (option_and_then channel_uninvited found) true ≡ option_map_or (are_alike channel) found true
aside_row channel None = refl
aside_row channel (Some found) = refl

abbrev uninvited_entry : List ℕ × Channel → Option (List ℕ × Channel)
uninvited_entry e = option_map (λ c. (e.0, c)) (channel_uninvited e.1)

all_aside : (other : Room) (es : List (List ℕ × Channel)) → list_all (agrees_on (uninvited other))
    (filter_map uninvited_entry es) ≡ list_all (agrees_on other) es
all_aside other [] = refl
all_aside other (e ∷ es) =
    λ i. (ap (λ found. option_map_or (are_alike e.1) found true) (row-each channel_uninvited
    other.channels e.0) ∙ aside_row e.1 (row other.channels e.0)) i
    && all_aside other es i

agree_uninvited : (one other : Room) → IsWellFormed one → IsWellFormed other
    → agree (uninvited one) (uninvited other) ≡ agree one other
agree_uninvited one other well_one well_other =
    (λ i. list_all (agrees_on (theirs i)) (entries (ours i).channels))
    ∙ ap (list_all (agrees_on (uninvited (room_without other one))))
    (entries_each channel_uninvited (room_without one other).channels)
    ∙ all_aside (room_without other one) (entries (room_without one other).channels)
  where
    ours : room_without (uninvited one) (uninvited other) ≡ uninvited (room_without one other)
    ours = same_without (uninvited one) other ∙ without_uninvited one other well_one

    theirs : room_without (uninvited other) (uninvited one) ≡ uninvited (room_without other one)
    theirs = same_without (uninvited other) one ∙ without_uninvited other one well_other

pub agree_looks_at_no_invitation : HomeIsWellFormed → AgreeLooksAtNoInvitation
agree_looks_at_no_invitation home_well home theirs one other well_one well_other =
    sym (agree_uninvited (of_home home one) (of_home theirs other) (home_well home one well_one)
    (home_well theirs other well_other))
    ∙ (λ i. agree (of_home_uninvited home one i) (of_home_uninvited theirs other i))
    ∙ agree_uninvited one other well_one well_other

pub burst_tells_no_invitation : BurstTellsNoInvitation
burst_tells_no_invitation = of_home_burst
