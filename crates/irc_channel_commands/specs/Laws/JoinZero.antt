-- `JOIN 0` leaves channels that are there: whichever have been left, the row of each other one
-- stays as it is.
use Rattle.std.proofs.Common.{◌≡◌, ℕ, Bool, true, false, cond, T, Some, None, List, [], ◌∷◌, filter}
use Rattle.std.proofs.Common.{map, refl, sym, ◌∙◌, ap}
use Rattle.std.specs.declared.cmp.Ordering.{Ordering}
use Rattle.std.specs.declared.cmp.Ordering.TheVariants.{Less, Equal, Greater}
use Rattle.std.specs.Ordering.{is_lt, is_eq}
use Rattle.std.specs.Option.{option_and_then}
use Rattle.std.specs.List.{AllByRecursion}
use Rattle.std.specs.FinMap.{entries, entries_sorted, is_sorted, find, get-entries}
use Rattle.std.specs.FinMap.Entries.{below_all}
use Rattle.std.proofs.Math.Facts.{and_yes}
use Rattle.irc_names.specs.Fold.{key}
use Rattle.irc_names.specs.Tables.{fold_cmp, row}
use Rattle.irc_names.specs.TableLaws.{same_fold, same_fold-refl, one_fold, row-alter_other}
use Rattle.irc_users.specs.declared.user.User.{User}
use Rattle.irc_channels.specs.declared.channel.Channel.{Channel}
use Rattle.irc_channels.specs.Channels.{has_member, left}
use Rattle.irc_channels.specs.Texts.{cut_words}
use Rattle.irc_room.specs.effect.Effect.TheVariants.{Part}
use Rattle.irc_room.specs.Room.{Room, IsWellFormed}
use Rattle.irc_room.specs.After.{after}
use Rattle.irc_acts.specs.ByTest.{by_test}
use Rattle.irc_acts.specs.Moves.{own_channels}
use Rattle.irc_acts.specs.Own.{parts, AreOwn}
use Rattle.irc_channel_commands.specs.Join.{leaves}

-- folds in rising order are apart

less_apart : (o : Ordering) → T (is_lt o) → is_eq o ≡ false
less_apart Less lt = refl
less_apart Equal lt = absurd lt
less_apart Greater lt = absurd lt

above_apart : (low high : List ℕ) → T (is_lt (fold_cmp low high)) → same_fold high low ≡ false
above_apart low high lt = by_fold (same_fold high low) refl
  where
    by_fold : (b : Bool) → same_fold high low ≡ b → b ≡ false
    by_fold false is = refl
    by_fold true is =
        sym (same_fold-refl low) ∙ ap (same_fold low) (sym (one_fold high low is))
        ∙ less_apart (fold_cmp low high) lt

none_below : (q : List ℕ) (es : List (List ℕ × Channel)) → T (below_all fold_cmp q es)
    → find fold_cmp q es ≡ None
none_below q [] below = refl
none_below q (e ∷ es) below =
    let parts = and_yes _ _ below in
    ap (λ b. cond b (Some e.1) (find fold_cmp q es)) (less_apart (fold_cmp q e.0) parts.0)
    ∙ none_below q es parts.1

-- A row of the table of channels: it stands under the fold of its name.
record StandsIn (room : Room) (e : List ℕ × Channel) : Type 0 where
  named : key e.1.name ≡ e.0
  there : row room.channels e.0 ≡ Some e.1

-- when a channel is left, those behind it stand as they did
still_stand : (room : Room) (me : User) (first : List ℕ × Channel)
    (es : List (List ℕ × Channel)) → key first.1.name ≡ first.0
    → T (below_all fold_cmp first.0 es) → AllByRecursion (StandsIn room) es
    → AllByRecursion (StandsIn (after room (Part me.nick first.1.name (cut_words me.nick)))) es
unfolding after
still_stand room me first [] named below all = tt
still_stand room me first (e ∷ es) named below all =
    let parts = and_yes _ _ below in
    let apart : same_fold e.0 (key first.1.name) ≡ false =
    ap (same_fold e.0) named ∙ above_apart first.0 e.0 parts.0 in (
      record {
        named = all.0.named;
        there = row-alter_other (key first.1.name)
            (option_and_then (left (key me.nick))) room.channels e.0 apart ∙ all.0.there;
      },
      still_stand room me first es named parts.1 all.1,
    )

leaving_rows : (room : Room) (me : User) (es : List (List ℕ × Channel))
    → T (is_sorted fold_cmp es) → AllByRecursion (StandsIn room) es
    → AreOwn me room (map (leaves me) (filter (has_member (key me.nick)) (map (λ e. e.1) es)))
leaving_rows room me [] rise all = tt
leaving_rows room me (e ∷ es) rise all =
    let parted = and_yes _ _ rise in
    let rest = filter (has_member (key me.nick)) (map (λ (x : List ℕ × Channel). x.1) es) in
    let now = after room (Part me.nick e.1.name (cut_words me.nick)) in
    by_test (λ (channels : List Channel). AreOwn me room (map (leaves me) channels))
    (has_member (key me.nick) e.1) (e.1 ∷ rest) rest
    (λ member. record {
      now = parts e.1.name (cut_words me.nick) e.1 (ap (row room.channels) all.0.named
          ∙ all.0.there) member;
      later = leaving_rows now me es parted.1 (still_stand room me e es all.0.named parted.0 all.1);
    })
    (λ outside. leaving_rows room me es parted.1 all.1)

-- each row of a well-formed room stands so
all_stand : (room : Room) (es : List (List ℕ × Channel)) → T (is_sorted fold_cmp es)
    → ((q : List ℕ) (channel : Channel) → find fold_cmp q es ≡ Some channel
    → StandsIn room (q, channel)) → AllByRecursion (StandsIn room) es
all_stand room [] rise found = tt
all_stand room (e ∷ es) rise found =
    let parts = and_yes _ _ rise in (
      found e.0 e.1 (ap (λ b. cond b (Some e.1) (find fold_cmp e.0 es)) (same_fold-refl e.0)),
      all_stand room es parts.1
          (λ q channel is. found q channel (later q channel parts.0 is (same_fold q e.0) refl)),
    )
  where
    later : (q : List ℕ) (channel : Channel) → T (below_all fold_cmp e.0 es)
        → find fold_cmp q es ≡ Some channel → (b : Bool) → same_fold q e.0 ≡ b
        → cond (same_fold q e.0) (Some e.1) (find fold_cmp q es) ≡ Some channel
    later q channel below is true one = let none = none_below e.0 es below in let folds =
        ap (λ f. find fold_cmp f es) (one_fold q e.0 one) in cc
    later q channel below is false two = ap (λ b. cond b (Some e.1) (find fold_cmp q es)) two ∙ is

pub leaving_own : (room : Room) (me : User) → IsWellFormed room
    → AreOwn me room (map (leaves me) (own_channels room me))
leaving_own room me well =
    leaving_rows room me (entries room.channels) (entries_sorted room.channels)
    (all_stand room (entries room.channels) (entries_sorted room.channels)
    (λ q channel is. let at : row room.channels q ≡ Some channel = get-entries room.channels q
    ∙ is in
    record { named = (well.channels_sound q channel at).named; there = at }))
