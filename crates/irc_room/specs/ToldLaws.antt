-- What an effect shows to the users of one server, user by user, is what it shows there.
use Rattle.std.proofs.Common.{◌≡◌, ℕ, Bool, true, false, cond, ◌&&◌, Option, Some, None, List}
use Rattle.std.proofs.Common.{[], ◌∷◌, ◌++◌, refl, sym, ◌∙◌, ap, map, nat_eq, filter, filter_map}
use Rattle.std.proofs.Common.{if◌then◌else◌, option_map}
use Rattle.std.proofs.lemmas.List.{append_assoc, map-append}
use Rattle.std.specs.Cmp.Lexicographic.{nat_list_cmp_total, bytes_decides, pointwise}
use Rattle.std.specs.List.{AllByRecursion, cons_option, flat_map}
use Rattle.std.specs.Option.{option_map_or}
use Rattle.std.specs.FinMap.{entries, entries_sorted, values, find, is_sorted, get-entries}
use Rattle.std.proofs.lemmas.Bool.{and_right}
use Rattle.irc_names.specs.Lemmas.PlainFacts.{is_true}
use Rattle.arrayvec.specs.ArrayVec.{ArrayVec}
use Rattle.irc_names.specs.Fold.{key}
use Rattle.irc_names.specs.Tables.{Table, fold_cmp, row}
use Rattle.irc_tables.specs.Lemmas.OrderedEntries.{find-there, sorted-below}
use Rattle.irc_users.specs.declared.user.User.{User}
use Rattle.irc_users.specs.UserTable.{is_home}
use Rattle.irc_effects.specs.declared.effect.Effect.{Effect}
use Rattle.irc_effects.specs.Room.{Room}
use Rattle.irc_effects.specs.Effects.{is_idle}
use Rattle.irc_effects.specs.Seen.{Showing, seen, shown_to, shown_line, sees}
use Rattle.irc_effects.specs.Applying.{ServerRoom, is_own, handed}
use Rattle.irc_room.specs.Loops.LineViews.{ShowsAt}
use Rattle.irc_room.specs.Loops.Telling.{shown_at}
use Rattle.irc_effects.specs.Found.{AreNamed}
use Rattle.irc_room.specs.Loops.Viewing.{own_nick, line_for_own, viewers}

-- each user of a table is found by its own nickname
abbrev IsStored : Table User → List ℕ × User → Type 0
IsStored users e = row users (key e.1.nick) ≡ Some e.1

all_stored : (users : Table User) → AreNamed users → (front es : List (List ℕ × User))
    → front ++ es ≡ entries users → AllByRecursion (IsStored users) es
all_stored users named front [] is = tt
all_stored users named front (e ∷ es) is =
    let sorted : is_sorted fold_cmp (front ++ e ∷ es) ≡ true = ap (is_sorted fold_cmp) is
    ∙ is_true _ (entries_sorted users) in
    let at : row users e.0 ≡ Some e.1 =
    get-entries users e.0 ∙ ap (find fold_cmp e.0) (sym is)
    ∙ find-there nat_list_cmp_total e.0 e.1 front es
    (sorted-below nat_list_cmp_total e.0 e.1 front es sorted) in (
      ap (row users) (named e.0 e.1 at)
          ∙ at,
      all_stored users named (front ++ e ∷ []) es (append_assoc front (e ∷ []) es ∙ is),
    )

module _ (own : List ℕ) (room : Room) (effect : Effect) (line : Option (List ℕ))
    (shows : ShowsAt room effect own line) where
  abbrev kept : ServerRoom
  kept = record { own = own; failed = false; room = room }

  -- the line, if there is one, for a user
  abbrev told_line : Option (List ℕ) → User → List (List ℕ × ArrayVec ℕ)
  told_line None user = []
  told_line (Some l) user = if is_home own user && sees room effect user.nick
      then (user.nick, record { items = l }) ∷ [] else []

  abbrev here : List Showing → List (List ℕ × ArrayVec ℕ)
  here showings = map handed (filter (is_own kept) showings)

  abbrev showing : User → List ℕ → Showing
  showing user l = record { viewer = user.nick; line = l }

  untold : (user : User) (b : Bool) → (is_home own user && sees room effect user.nick) ≡ b
      → b ≡ false → (l : Option (List ℕ)) → told_line l user ≡ []
  untold user b is out None = refl
  untold user b is out (Some l) =
      ap (λ t. if t then (user.nick, record { items = l }) ∷ [] else []) (is ∙ out)

  -- a showing to a user stays just where the user is one of the server
  kept_or_not : (user : User) → row room.users (key user.nick) ≡ Some user → (l : List ℕ)
      (rest : List Showing) (b : Bool) → is_home own user ≡ b → here (showing user l ∷ rest)
      ≡ cond b ((user.nick, record { items = l }) ∷ here rest) (here rest)
  kept_or_not user at l rest true home =
      ap (λ t. map handed (cond t (showing user l ∷ filter (is_own kept) rest) (filter
      (is_own kept) rest))) (ap (λ o. option_map_or (is_home own) o false) at ∙ home)
  kept_or_not user at l rest false far =
      ap (λ t. map handed (cond t (showing user l ∷ filter (is_own kept) rest)
      (filter (is_own kept) rest))) (ap (λ o. option_map_or (is_home own) o false) at ∙ far)

  by_line : (user : User) → row room.users (key user.nick) ≡ Some user → sees room effect user.nick
      ≡ true → (rest : List Showing) → is_home own user ≡ true → (l : Option (List ℕ))
      → here (cons_option (option_map (showing user) l) rest) ≡ told_line l user ++ here rest
  by_line user at seen rest home None = refl
  by_line user at seen rest home (Some l) =
      kept_or_not user at l rest true home
      ∙ ap (λ t. (if t then (user.nick, record { items = l }) ∷ [] else []) ++ here rest)
      (sym (ap (λ b. b && sees room effect user.nick) home ∙ seen))

  far_line : (user : User) → row room.users (key user.nick) ≡ Some user
      → (rest : List Showing) → is_home own user ≡ false → (l : Option (List ℕ))
      → here (cons_option (option_map (showing user) l) rest) ≡ here rest
  far_line user at rest far None = refl
  far_line user at rest far (Some l) = kept_or_not user at l rest false far

  by_home : (user : User) → row room.users (key user.nick) ≡ Some user
      → sees room effect user.nick ≡ true → (rest : List Showing) (b : Bool) → is_home own user ≡ b
      → here (cons_option (option_map (showing user) (shown_line room effect user)) rest)
      ≡ told_line line user ++ here rest
  by_home user at seen rest true home =
      ap (λ l. here (cons_option (option_map (showing user) l) rest))
      (shows user ((bytes_decides user.home own).0 home))
      ∙ by_line user at seen rest home line
  by_home user at seen rest false far =
      far_line user at rest far (shown_line room effect user)
      ∙ ap (λ t. t ++ here rest)
      (sym (untold user _ refl (ap (λ b. b && sees room effect user.nick) far) line))

  one_told : (user : User) → row room.users (key user.nick) ≡ Some user → (rest : List Showing)
      → here (cons_option (shown_to room effect user) rest) ≡ told_line line user ++ here rest
  one_told user at rest = by_sight (sees room effect user.nick) refl
    where
      by_sight : (b : Bool) → sees room effect user.nick ≡ b
          → here (cons_option (shown_to room effect user) rest) ≡ told_line line user ++ here rest
      by_sight true seen =
          ap (λ t. here (cons_option (if t then option_map (showing user)
          (shown_line room effect user) else None) rest)) seen
          ∙ by_home user at seen rest (is_home own user) refl
      by_sight false unseen =
          ap (λ t. here (cons_option (if t then option_map (showing user)
          (shown_line room effect user) else None) rest)) unseen
          ∙ ap (λ t. t ++ here rest)
          (sym (untold user _ refl (and_right (is_home own user) _ unseen) line))

  all_told : (es : List (List ℕ × User)) → AllByRecursion (IsStored room.users) es
      → here (filter_map (shown_to room effect) (map (λ e. e.1) es)) ≡ flat_map (told_line line)
      (map (λ e. e.1) es)
  all_told [] stored = refl
  all_told (e ∷ es) stored =
      one_told e.1 stored.0 (filter_map (shown_to room effect) (map (λ e. e.1) es))
      ∙ ap (λ t. told_line line e.1 ++ t) (all_told es stored.1)

  shown_is_told : AreNamed room.users → is_idle room effect ≡ false
      → shown_at own room effect ≡ flat_map (told_line line) (values room.users)
  unfolding seen
  shown_is_told named busy =
      ap (λ b. here (if b then [] else filter_map (shown_to room effect) (values room.users))) busy
      ∙ all_told (entries room.users) (all_stored room.users named [] (entries room.users) refl)

-- a viewer of the server is told the line
told_alike : (home : Bool) (user : User) (line : List ℕ) (rest : List (List ℕ × ArrayVec ℕ))
    → (if home && true then (user.nick, record { items = line }) ∷ [] else [])
    ++ rest ≡ (if home then (user.nick, record { items = line }) ∷ [] else []) ++ rest
told_alike true user line rest = refl
told_alike false user line rest = refl

told_not : (home : Bool) (user : User) (line : List ℕ) (rest : List (List ℕ × ArrayVec ℕ))
    → (if home && false then (user.nick, record { items = line }) ∷ [] else []) ++ rest ≡ rest
told_not true user line rest = refl
told_not false user line rest = refl

-- the line, for each user of the server that sees the effect; and those of all users that see it
abbrev each_told : List ℕ → Room → Effect → List ℕ → List User → List (List ℕ × ArrayVec ℕ)
each_told own room effect line users = flat_map (λ (user : User). if is_home own user
    && sees room effect user.nick then (user.nick, record { items = line }) ∷ [] else []) users

abbrev who_see : Room → Effect → List User → List User
who_see room effect users = filter (λ (user : User). sees room effect user.nick) users

viewers_told : (own : List ℕ) (room : Room) (effect : Effect) (line : List ℕ) (users : List User)
    → each_told own room effect line users ≡ flat_map (line_for_own own line)
    (who_see room effect users)
viewers_told own room effect line [] = refl
viewers_told own room effect line (user ∷ users) =
    by_sight (viewers_told own room effect line users) (sees room effect user.nick) refl
  where
    by_sight : each_told own room effect line users ≡ flat_map (line_for_own own line)
        (who_see room effect users) → (b : Bool) → sees room effect user.nick ≡ b
        → each_told own room effect line (user ∷ users) ≡ flat_map (line_for_own own line)
        (who_see room effect (user ∷ users))
    by_sight rest true seen =
        ap (λ b. (if is_home own user && b then (user.nick, record { items = line }) ∷ [] else [])
        ++ each_told own room effect line users) seen
        ∙ told_alike (is_home own user) user line (each_told own room effect line users)
        ∙ ap (λ lines. line_for_own own line user ++ lines) rest
        ∙ ap (λ b. flat_map (line_for_own own line)
        (cond b (user ∷ who_see room effect users) (who_see room effect users))) (sym seen)
    by_sight rest false unseen =
        ap (λ b. (if is_home own user && b then (user.nick, record { items = line }) ∷ [] else [])
        ++ each_told own room effect line users) unseen
        ∙ told_not (is_home own user) user line (each_told own room effect line users)
        ∙ rest
        ∙ ap (λ b. flat_map (line_for_own own line)
        (cond b (user ∷ who_see room effect users) (who_see room effect users))) (sym unseen)

-- what is told to those who see an effect is all that it shows
pub all_is_told : (own : List ℕ) (room : Room) (effect : Effect) (line : List ℕ)
    → ShowsAt room effect own (Some line) → AreNamed room.users → is_idle room effect ≡ false
    → shown_at own room effect ≡ flat_map (line_for_own own line) (viewers room effect)
all_is_told own room effect line shows named busy =
    shown_is_told own room effect (Some line) shows named busy
    ∙ viewers_told own room effect line (values room.users)

-- an idle effect shows nothing
pub idle_tells_nothing : (own : List ℕ) (room : Room) (effect : Effect) → is_idle room effect ≡ true
    → shown_at own room effect ≡ []
unfolding seen
idle_tells_nothing own room effect idle =
    ap (λ b. map handed (filter (is_own (record { own = own; failed = false; room = room }))
    (if b then [] else filter_map (shown_to room effect) (values room.users)))) idle

none_told : {X : Type 0} (f : User → List X) → ((user : User) → f user ≡ []) → (users : List User)
    → flat_map f users ≡ []
none_told f none [] = refl
none_told f none (user ∷ users) =
    ap (λ t. t ++ flat_map f users) (none user) ∙ none_told f none users

-- nor does one without a line
pub no_line_tells_nothing : (own : List ℕ) (room : Room) (effect : Effect)
    → ShowsAt room effect own None → AreNamed room.users → is_idle room effect ≡ false
    → shown_at own room effect ≡ []
no_line_tells_nothing own room effect shows named busy =
    shown_is_told own room effect None shows named busy
    ∙ none_told _ (λ user. refl) (values room.users)

-- the line, to each of these users that is one of the server
pub told_each : (own line : List ℕ) (users : List User)
    → map (λ viewer. (viewer, record { items = line })) (flat_map (own_nick own) users)
    ≡ flat_map (line_for_own own line) users
told_each own line [] = refl
told_each own line (user ∷ users) =
    map-append pair (own_nick own user) (flat_map (own_nick own) users)
    ∙ ap (λ l. l ++ map pair (flat_map (own_nick own) users))
    (told_one (pointwise nat_eq user.home own))
    ∙ ap (λ l. line_for_own own line user ++ l) (told_each own line users)
  where
    pair : List ℕ → List ℕ × ArrayVec ℕ
    pair viewer = (viewer, record { items = line })

    told_one : (b : Bool)
        → map pair (if b then user.nick ∷ [] else []) ≡ (if b then pair user.nick ∷ [] else [])
    told_one true = refl
    told_one false = refl
