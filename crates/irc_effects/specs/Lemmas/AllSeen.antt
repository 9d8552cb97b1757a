-- All who see an effect, user by user, are those to whom it is shown.
use Rattle.std.proofs.Common.{◌≡◌, ℕ, Bool, true, false, cond, Option, Some, None, List, [], ◌∷◌}
use Rattle.std.proofs.Common.{refl, sym, ◌∙◌, ap, map, filter, filter_map, is_some, if◌then◌else◌}
use Rattle.std.proofs.Common.{option_map}
use Rattle.std.specs.List.{cons_option}
use Rattle.std.proofs.Math.Bool.{false≢true}
use Rattle.irc_users.specs.declared.user.User.{User}
use Rattle.irc_effects.specs.declared.effect.Effect.{Effect}
use Rattle.irc_effects.specs.Room.{Room}
use Rattle.irc_effects.specs.Seen.{Showing, seen, shown_to, shown_line, sees}

abbrev pub nicks : List Showing → List (List ℕ)
nicks = map (λ (s : Showing). s.viewer)

-- whether an effect shows each viewer a line, or none
abbrev pub IsLined : Room → Effect → Bool → Type 0
IsLined room effect lined = (viewer : User) → is_some (shown_line room effect viewer) ≡ lined

one_nick : (user : User) (line : Option (List ℕ)) → is_some line ≡ true → (rest : List Showing)
    → nicks (cons_option (option_map (λ l. record { viewer = user.nick; line = l }) line) rest)
    ≡ user.nick ∷ nicks rest
one_nick user None lined rest = absurd (false≢true lined)
one_nick user (Some l) lined rest = refl

-- what is shown to a user, if it sees the effect
abbrev shown_if : Room → Effect → User → Bool → Option Showing
shown_if room effect user b = if b then option_map (λ l. record { viewer = user.nick; line = l })
    (shown_line room effect user) else None

pub all_seen : (room : Room) (effect : Effect) → IsLined room effect true → (users : List User)
    → map (λ (user : User). user.nick) (filter (λ user. sees room effect user.nick) users)
    ≡ nicks (filter_map (shown_to room effect) users)
all_seen room effect lined [] = refl
all_seen room effect lined (user ∷ users) =
    by_sight (all_seen room effect lined users) (sees room effect user.nick) refl
  where
    by_sight : map (λ (user : User). user.nick) (filter (λ user. sees room effect user.nick) users)
        ≡ nicks (filter_map (shown_to room effect) users) → (b : Bool)
        → sees room effect user.nick ≡ b → map (λ (user : User). user.nick)
        (filter (λ user. sees room effect user.nick) (user ∷ users))
        ≡ nicks (filter_map (shown_to room effect) (user ∷ users))
    by_sight rest true seen =
        ap (λ b.
        map (λ (user : User). user.nick)
        (cond b (user ∷ filter (λ user. sees room effect user.nick) users)
        (filter (λ user. sees room effect user.nick) users)))
        seen
        ∙ ap (λ xs. user.nick ∷ xs) rest
        ∙ sym (one_nick user (shown_line room effect user) (lined user)
        (filter_map (shown_to room effect) users))
        ∙ ap (λ b. nicks (cons_option (shown_if room effect user b)
        (filter_map (shown_to room effect) users))) (sym seen)
    by_sight rest false unseen =
        ap (λ b.
        map (λ (user : User). user.nick)
        (cond b (user ∷ filter (λ user. sees room effect user.nick) users)
        (filter (λ user. sees room effect user.nick) users)))
        unseen
        ∙ rest
        ∙ ap (λ b. nicks (cons_option (shown_if room effect user b)
        (filter_map (shown_to room effect) users))) (sym unseen)
