-- What a user of this side is shown while the users of the other side are introduced: those who
-- clash quit, and nothing else is shown.
use Rattle.std.proofs.Common.{◌≡◌, ℕ, Bool, true, false, cond, Option, Some, None, List, []}
use Rattle.std.proofs.Common.{◌∷◌, ◌++◌, refl, sym, ◌∙◌, ap, is_some, option_to_list}
use Rattle.std.proofs.lemmas.Bool.{and_parts}
use Rattle.std.proofs.lemmas.List.{append-nil}
use Rattle.std.specs.List.{AllByRecursion}
use Rattle.std.specs.Option.{option_and_then, option_map_or}
use Rattle.std.specs.FinMap.{entries, entries_sorted, values, find, is_sorted}
use Rattle.std.specs.FinMap.Entries.{below_all}
use Rattle.std.proofs.Math.Bool.{false≢true}
use Rattle.irc_names.specs.Lemmas.PlainFacts.{is_true}
use Rattle.irc_names.specs.Fold.{key}
use Rattle.irc_names.specs.Tables.{Table, fold_cmp, row, each}
use Rattle.irc_names.specs.TableLaws.{same_fold, one_fold, row-alter}
use Rattle.irc_users.specs.declared.user.User.{User}
use Rattle.irc_channels.specs.Channels.{without_user}
use Rattle.irc_room.specs.effect.Effect.TheVariants.{AddUser, Quit}
use Rattle.irc_room.specs.Room.{Room, IsWellFormed}
use Rattle.irc_room.specs.After.{after}
use Rattle.irc_room.specs.Found.{users_under}
use Rattle.irc_room.specs.Lemmas.ViewerLaws.{IsNamed, table_named}
use Rattle.irc_room.specs.Viewers.{shows_to, line_for}
use Rattle.irc_merge.specs.ShownAlong.{shown_along}
use Rattle.irc_merge.specs.Quits.{quits_of, collision_text}
use Rattle.irc_merge.specs.Deeds.{does, kills, shown_by, shown_by_all}
use Rattle.irc_merge.specs.Bursts.{user_deeds, change_deeds, people_deeds}
use Rattle.irc_merge.specs.Merge.{clash}
use Rattle.irc_merge.specs.Lemmas.TableWords.{absent}
use Rattle.irc_merge.specs.Lemmas.Reading.{reads}
use Rattle.irc_merge.specs.Lemmas.ShownReading.{shown_one, shown_reads, shown_reads-one}
use Rattle.irc_merge.specs.Lemmas.ShownReading.{shown_reads-append}
use Rattle.irc_merge.specs.Lemmas.Introducing.{met, met_by, is_met, met_well, introductions}
use Rattle.irc_merge.specs.Lemmas.Introducing.{under_same, above_apart, other_met, holders}
use Rattle.irc_merge.specs.Lemmas.ShownUsers.{quit_to, quit_shows}
use Rattle.irc_merge.specs.Lemmas.BareUsers.{bare, bare_deeds, bare_sorted, bare_named, bare_under}
use Rattle.irc_merge.proofs.ChangesRead.{changes_unseen}

-- two rooms that differ by the user of one fold alone
record AreBeside (fold : List ℕ) (one other : Room) : Type 0 where
  users : (q : List ℕ) → same_fold q fold ≡ false → row one.users q ≡ row other.users q
  channels : one.channels ≡ other.channels

quit_beside : (fold : List ℕ) (one other : Room) (nick text : List ℕ) → AreBeside fold one other
    → AreBeside fold (after one (Quit nick text)) (after other (Quit nick text))
unfolding after
quit_beside fold one other nick text beside = record {
  users = λ q apart.
      row-alter (key nick) (λ _. None) one.users q
      ∙ ap (cond (same_fold q (key nick)) None) (beside.users q apart)
      ∙ sym (row-alter (key nick) (λ _. None) other.users q);
  channels = ap (each (without_user (key nick))) beside.channels;
}

quits_beside : (fold viewer text : List ℕ) (users : List User) (one other : Room)
    → AreBeside fold one other → same_fold (key viewer) fold ≡ false
    → AllByRecursion (λ (user : User). same_fold (key user.nick) fold ≡ false) users
    → shown_along viewer one (quits_of text users) ≡ shown_along viewer other (quits_of text users)
quits_beside fold viewer text [] one other beside apart others = refl
quits_beside fold viewer text (user ∷ users) one other beside apart others =
    (λ i. option_to_list ((
    quit_shows one user.nick text viewer
    ∙ (λ j. quit_to user.nick text (beside.channels j) (beside.users (key user.nick) others.0 j)
    (beside.users (key viewer) apart j))
    ∙ sym (quit_shows other user.nick text viewer)
    ) i) ++ quits_beside fold viewer text users (after one (Quit user.nick text)) (after other
    (Quit user.nick text))
    (quit_beside fold one other user.nick text beside) apart others.1 i)

-- ---- one user is introduced

added_shows : (room : Room) (user : User) (viewer : List ℕ)
    → shows_to room (AddUser user) viewer ≡ None
unfolding shows_to
added_shows room user viewer = by_row (row room.users (key viewer))
  where
    by_row : (o : Option User) → option_and_then (line_for room (AddUser user)) o ≡ None
    by_row None = refl
    by_row (Some u) = refl

added_beside : (room : Room) (user : User) (fold : List ℕ) → key user.nick ≡ fold
    → AreBeside fold (after room (AddUser user)) room
unfolding after
added_beside room user fold named = record {
  users = λ q apart. row-alter (key user.nick) (λ _. Some user) room.users q
      ∙ ap (λ b. cond b (Some user) (row room.users q)) (ap (same_fold q) named ∙ apart);
  channels = refl;
}

-- the users under folds that are above another are apart from it
under_apart : (users : Table User) (fold : List ℕ)
    → ((q : List ℕ) (user : User) → row users q ≡ Some user → key user.nick ≡ q)
    → (es : List (List ℕ × User)) → below_all fold_cmp fold es ≡ true → AllByRecursion
    (λ (user : User). same_fold (key user.nick) fold ≡ false) (users_under users es)
under_apart users fold named [] below = tt
under_apart users fold named (e ∷ es) below =
    let parts = and_parts _ _ below in
    by_row (row users e.0) refl (above_apart fold e.0 parts.0)
    (under_apart users fold named es parts.1)
  where
    by_row : (o : Option User) → row users e.0 ≡ o → same_fold e.0 fold ≡ false → AllByRecursion
        (λ (user : User). same_fold (key user.nick) fold ≡ false) (users_under users es)
        → AllByRecursion (λ (user : User). same_fold (key user.nick) fold ≡ false)
        (option_to_list o ++ users_under users es)
    by_row None at apart rest = rest
    by_row (Some user) at apart rest =
        (ap (λ f. same_fold f fold) (named e.0 user at) ∙ apart, rest)

-- ---- all of them

-- a viewer under whose fold a user is still to be introduced is there
abbrev IsThere : List ℕ → Room → List (List ℕ × User) → Type 0
IsThere viewer room es = is_some (find fold_cmp (key viewer) es) ≡ true
    → is_some (row room.users (key viewer)) ≡ true

still_there : (viewer : List ℕ) (room : Room) (e : List ℕ × User) (es : List (List ℕ × User))
    → IsWellFormed room → key e.1.nick ≡ e.0 → below_all fold_cmp e.0 es ≡ true
    → IsThere viewer room (e ∷ es) → IsThere viewer (met room e.1) es
still_there viewer room e es well named below there still =
    by_fold (same_fold (key viewer) e.0) refl
  where
    by_fold : (b : Bool) → same_fold (key viewer) e.0 ≡ b
        → is_some (row (met room e.1).users (key viewer)) ≡ true
    by_fold true one = absurd (false≢true (sym (ap is_some (ap (λ f. find fold_cmp f es)
        (one_fold (key viewer) e.0 one) ∙ absent e.0 es below)) ∙ still))
    by_fold false two =
        ap is_some (other_met room e.1 e.0 well named (key viewer) two)
        ∙ there (ap (λ b. is_some (cond b (Some e.1) (find fold_cmp (key viewer) es))) two ∙ still)

-- a viewer who is there does not clash with one whose nickname nobody holds
viewer_apart : (viewer : List ℕ) (room : Room) (e : List ℕ × User) (es : List (List ℕ × User))
    → key e.1.nick ≡ e.0 → IsThere viewer room (e ∷ es) → row room.users (key e.1.nick) ≡ None
    → same_fold (key viewer) e.0 ≡ false
viewer_apart viewer room e es named there none = by_fold (same_fold (key viewer) e.0) refl
  where
    by_fold : (b : Bool) → same_fold (key viewer) e.0 ≡ b → b ≡ false
    by_fold true one =
        absurd (false≢true (sym
        (ap is_some (ap (row room.users) (one_fold (key viewer) e.0 one ∙ sym named) ∙ none))
        ∙ there (ap (λ b. is_some (cond b (Some e.1) (find fold_cmp (key viewer) es))) one)))
    by_fold false two = refl

one_shows : (viewer own : List ℕ) (far : List ℕ → Bool) (room : Room) (e : List ℕ × User)
    (es : List (List ℕ × User)) → IsWellFormed room → key e.1.nick ≡ e.0 → below_all fold_cmp e.0 es
    ≡ true → IsThere viewer room (e ∷ es) → shown_one viewer own far room (does (AddUser e.1))
    ++ shown_along viewer (met room e.1) (quits_of collision_text (users_under room.users es))
    ≡ shown_along viewer room (quits_of collision_text
    (option_to_list (row room.users (key e.1.nick)) ++ users_under room.users es))
unfolding shown_by
one_shows viewer own far room e es well named below there =
    by_row (row room.users (key e.1.nick)) refl
  where
    by_row : (o : Option User) → row room.users (key e.1.nick) ≡ o → shown_by_all viewer room
        (option_map_or (λ (holder : User). kills own holder.nick ∷ []) o (does (AddUser e.1) ∷ []))
        ++ shown_along viewer (met_by room e.1 o)
        (quits_of collision_text (users_under room.users es))
        ≡ shown_along viewer room
        (quits_of collision_text (option_to_list o ++ users_under room.users es))
    by_row None at =
        ap (λ o. ((option_to_list o ++ []) ++ []) ++ shown_along viewer (after room (AddUser e.1))
        (quits_of collision_text (users_under room.users es))) (added_shows room e.1 viewer)
        ∙ quits_beside e.0 viewer collision_text (users_under room.users es)
        (after room (AddUser e.1)) room (added_beside room e.1 e.0 named)
        (viewer_apart viewer room e es named there at)
        (under_apart room.users e.0 well.users_named es below)
    by_row (Some holder) at =
        ap (λ lines. lines ++ shown_along viewer (after room (Quit holder.nick collision_text))
        (quits_of collision_text (users_under room.users es)))
        (append-nil (option_to_list (shows_to room (Quit holder.nick collision_text) viewer) ++ [])
        ∙ append-nil
        (option_to_list (shows_to room (Quit holder.nick collision_text) viewer)))

users_show : (viewer own : List ℕ) (far : List ℕ → Bool) (es : List (List ℕ × User))
    → is_sorted fold_cmp es ≡ true → AllByRecursion IsNamed es → (room : Room) → IsWellFormed room
    → IsThere viewer room es → shown_reads viewer own far room (introductions es)
    ≡ shown_along viewer room (quits_of collision_text (users_under room.users es))
users_show viewer own far [] rise named room well there = refl
users_show viewer own far (e ∷ es) rise named room well there =
    let parts = and_parts _ _ rise in
    shown_reads-one viewer own far room (does (AddUser e.1)) (introductions es)
    ∙ ap (λ r. shown_one viewer own far room (does (AddUser e.1))
    ++ shown_reads viewer own far r (introductions es)) (is_met own room e.1)
    ∙ ap (λ rest. shown_one viewer own far room (does (AddUser e.1)) ++ rest)
    (users_show viewer own far es parts.1 named.1 (met room e.1) (met_well room e.1 well)
    (still_there viewer room e es well named.0 parts.0 there)
    ∙ ap (λ us. shown_along viewer (met room e.1) (quits_of collision_text us))
    (under_same (met room e.1).users room.users e.0
    (other_met room e.1 e.0 well named.0) es parts.0))
    ∙ one_shows viewer own far room e es well named.0 parts.0 there
    ∙ ap (λ f. shown_along viewer room (quits_of collision_text
    (option_to_list (row room.users f) ++ users_under room.users es))) named.0

-- one of this side is shown just the quits of those who clash
pub kills_shown : (viewer own : List ℕ) (far : List ℕ → Bool) (room other : Room)
    → IsWellFormed room → IsWellFormed other → is_some (row room.users (key viewer)) ≡ true
    → shown_reads viewer own far room (people_deeds other) ≡ shown_along viewer room
    (quits_of collision_text (clash room other))
kills_shown viewer own far room other well well_other there =
    shown_reads-append viewer own far room (user_deeds other) (change_deeds other)
    ∙ (λ i. introductions_show i
    ++ changes_unseen viewer own far (values other.users)
    (reads own far room (user_deeds other)) i)
    ∙ append-nil (shown_along viewer room (quits_of collision_text (clash room other)))
  where
    introductions_show : shown_reads viewer own far room (user_deeds other)
        ≡ shown_along viewer room (quits_of collision_text (clash room other))
    introductions_show =
        ap (shown_reads viewer own far room) (bare_deeds (entries other.users))
        ∙ users_show viewer own far (bare (entries other.users))
        (bare_sorted (entries other.users) ∙ is_true _ (entries_sorted other.users))
        (bare_named (entries other.users) (table_named other.users well_other.users_named))
        room well (λ known. there)
        ∙ ap (λ us. shown_along viewer room (quits_of collision_text us))
        (bare_under room.users (entries other.users) ∙ holders room other well)
