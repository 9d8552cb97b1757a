-- All who see an effect, user by user, are those to whom it is shown.
use Rattle.std.specs.Borrow.{Bor}
use Rattle.std.proofs.Common.{◌≡◌, ℕ, Bool, true, false, Option, Some, None, List, [], ◌∷◌}
use Rattle.std.proofs.Common.{refl, sym, ◌∙◌, ap, map, filter_map, is_some, if◌then◌else◌}
use Rattle.std.proofs.Common.{option_map}
use Rattle.std.specs.List.{cons_option}
use Rattle.std.specs.FinMap.{values}
use Rattle.std.proofs.Math.Bool.{false≢true}
use Rattle.irc_users.specs.declared.user.User.{User}
use Rattle.irc_effects.specs.declared.effect.Effect.{Effect}
use Rattle.irc_effects.specs.Room.{Room}
use Rattle.irc_effects.specs.Effects.{is_idle}
use Rattle.irc_room.specs.Loops.Viewing.{viewers}
use Rattle.irc_effects.specs.Seen.{Showing, seen, shown_to, shown_line, sees}
use Rattle.irc_effects.specs.Lemmas.AllSeen.{nicks, IsLined, all_seen}

no_line : (line : Option (List ℕ)) → is_some line ≡ false → line ≡ None
no_line None none = refl
no_line (Some l) none = absurd (false≢true (sym none))

none_shown : (b : Bool) (user : User) (line : Option (List ℕ))
    → line ≡ None → ◌≡◌ {A = Option Showing}
    (if b then option_map (λ l. record { viewer = user.nick; line = l }) line else None) None
none_shown true user line none = ap (option_map (λ l. record { viewer = user.nick; line = l })) none
none_shown false user line none = refl

none_seen : (room : Room) (effect : Effect) → IsLined room effect false → (users : List User)
    → filter_map (shown_to room effect) users ≡ []
none_seen room effect lined [] = refl
none_seen room effect lined (user ∷ users) =
    ap (λ o. cons_option o (filter_map (shown_to room effect) users))
    (none_shown (sees room effect user.nick) user (shown_line room effect user)
    (no_line (shown_line room effect user) (lined user)))
    ∙ none_seen room effect lined users

pub idle_has_no_viewers : (room : Room) (effect : Effect) → is_idle room effect ≡ true
    → [] ≡ nicks (seen room effect)
unfolding seen
idle_has_no_viewers room effect idle =
    ap (λ b. nicks (if b then [] else filter_map (shown_to room effect) (values room.users)))
    (sym idle)

pub no_line_no_viewers : (room : Room) (effect : Effect) → IsLined room effect false
    → [] ≡ nicks (seen room effect)
unfolding seen
no_line_no_viewers room effect lined = by_idle (is_idle room effect)
  where
    by_idle : (b : Bool)
        → [] ≡ nicks (if b then [] else filter_map (shown_to room effect) (values room.users))
    by_idle true = refl
    by_idle false = ap nicks (sym (none_seen room effect lined (values room.users)))

of_users : (users : List (Bor User)) → map (λ (user : Bor User). user.now.nick) users
    ≡ map (λ (user : User). user.nick) (map (λ (user : Bor User). user.now) users)
of_users [] = refl
of_users (user ∷ users) = ap (λ xs. user.now.nick ∷ xs) (of_users users)

-- the nicknames of users that were found
pub nicknames_found : (users : List (Bor User)) (all : List User)
    → map (λ (user : Bor User). user.now) users ≡ all
    → map (λ (user : Bor User). user.now.nick) users ≡ map (λ (user : User). user.nick) all
nicknames_found users all are = of_users users ∙ ap (map (λ (user : User). user.nick)) are

pub viewers_are_seen : (room : Room) (effect : Effect) → is_idle room effect ≡ false
    → IsLined room effect true → (users : List (Bor User))
    → map (λ (user : Bor User). user.now) users ≡ viewers room effect
    → map (λ (user : Bor User). user.now.nick) users ≡ nicks (seen room effect)
unfolding seen
viewers_are_seen room effect busy lined users are =
    nicknames_found users (viewers room effect) are
    ∙ all_seen room effect lined (values room.users)
    ∙ ap (λ b. nicks (if b then [] else filter_map (shown_to room effect) (values room.users)))
    (sym busy)
