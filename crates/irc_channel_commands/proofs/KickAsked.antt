-- What is asked for by the two lists of a KICK, as the code counts them.
use Rattle.std.proofs.Common.{◌≡◌, ℕ, true, false, Some, None, List, [], ◌∷◌, length, map, nat_eq}
use Rattle.std.proofs.Common.{refl, sym, ◌∙◌, ap, if◌then◌else◌}
use Rattle.std.specs.Cmp.{nat_eq_equiv}
use Rattle.irc_channel_commands.specs.Kick.{kicking, paired, kicks_asked}
use Rattle.irc_channel_commands.specs.Loops.KickList.{kicks_left}

-- one channel is meant for each nickname
all_from_one : (channel : List ℕ) (nicks : List (List ℕ))
    → map (kicking channel) nicks ≡ kicks_left true (channel ∷ []) nicks
all_from_one channel [] = refl
all_from_one channel (nick ∷ nicks) =
    ap (λ asked. kicking channel nick ∷ asked) (all_from_one channel nicks)

each_its_own : (channels nicks : List (List ℕ))
    → paired channels nicks ≡ kicks_left false channels nicks
each_its_own [] [] = refl
each_its_own [] (nick ∷ nicks) = refl
each_its_own (channel ∷ channels) [] = refl
each_its_own (channel ∷ channels) (nick ∷ nicks) =
    ap (λ asked. kicking channel nick ∷ asked) (each_its_own channels nicks)

pub one_asked : (channels nicks : List (List ℕ)) → length channels ≡ 1
    → kicks_asked channels nicks ≡ Some (kicks_left true channels nicks)
one_asked [] nicks one = cc one
one_asked (channel ∷ []) nicks one = ap Some (all_from_one channel nicks)
one_asked (channel ∷ other ∷ channels) nicks one = cc one

pub each_asked : (channels nicks : List (List ℕ)) → (length channels ≡ 1 → ⊥) → length channels
    ≡ length nicks → kicks_asked channels nicks ≡ Some (kicks_left false channels nicks)
each_asked channels nicks many fit = by_channels channels many
    (sym (ap (nat_eq (length channels)) fit) ∙ nat_eq_equiv.refl (length channels))
  where
    by_channels : (all : List (List ℕ)) → (length all ≡ 1 → ⊥) → nat_eq (length all) (length nicks)
        ≡ true → kicks_asked all nicks ≡ Some (kicks_left false all nicks)
    by_channels [] none fits = ap (λ b. if b then Some (paired [] nicks) else None) fits
        ∙ ap Some (each_its_own [] nicks)
    by_channels (channel ∷ []) none fits = absurd (none refl)
    by_channels (channel ∷ other ∷ more) none fits =
        ap (λ b. if b then Some (paired (channel ∷ other ∷ more) nicks) else None) fits
        ∙ ap Some (each_its_own (channel ∷ other ∷ more) nicks)
