-- Those who become members by one line, judged one after another.
use Rattle.std.proofs.Common.{◌≡◌, ℕ, Bool, true, false, cond, not, ◌&&◌, ◌||◌, Option, Some, None}
use Rattle.std.proofs.Common.{List, [], ◌∷◌, ◌++◌, fold, map, refl, subst, sym, ◌∙◌, ap}
use Rattle.std.proofs.Common.{append_assoc, append-nil, is_some, nat_eq, if◌then◌else◌}
use Rattle.std.specs.List.{list_any}
use Rattle.std.specs.Option.{option_map_or}
use Rattle.std.specs.Prelude.{unwrap_or}
use Rattle.std.specs.Cmp.Lexicographic.{pointwise, bytes_decides}
use Rattle.std.specs.FinMap.{get-empty}
use Rattle.std.proofs.Math.Bool.{false≢true}
use Rattle.irc_names.specs.Fold.{key, same}
use Rattle.irc_names.specs.Tables.{fold_cmp, row}
use Rattle.irc_names.specs.TableLaws.{same_fold, same_fold-refl, one_fold, row-alter}
use Rattle.irc_names.specs.TableLaws.{row-alter_same}
use Rattle.irc_users.specs.declared.user.User.{User}
use Rattle.irc_channels.specs.declared.flags.Flags.{Flags}
use Rattle.irc_channels.specs.declared.channel.Channel.{Channel}
use Rattle.irc_channels.specs.Channels.{has_member, new_channel}
use Rattle.irc_room.specs.After.{alter_channel}
use Rattle.irc_room.specs.Effects.{is_member}
use Rattle.irc_room.specs.InTurn.{after_all}
use Rattle.irc_merge.specs.Deeds.{member_comes}
use Rattle.irc_merge.specs.Bursts.{home_passes}
use Rattle.irc_merge.specs.BurstRead.{is_new_member, new_members}
use Rattle.irc_merge.specs.Lemmas.ChannelRows.{comes, comes_to}
use Rattle.irc_merge.specs.Lemmas.ChannelRows.{row_has}
use Rattle.irc_merge.specs.Lemmas.BooleanTests.{and_not}
use Rattle.std.proofs.lemmas.List.{map-append}
use Rattle.std.proofs.Math.Bool.{and-true, or-false}
use Rattle.irc_names.specs.Lemmas.PlainFacts.{and_neither}
use Rattle.irc_room.specs.Room.{Room, IsWellFormed}
use Rattle.irc_room.specs.Seen.{stored_nick}
use Rattle.irc_link_reader.specs.declared.deed.NewMember.{NewMember}
use Rattle.irc_burst.specs.DeedsMeant.{as_stored}
use Rattle.irc_link_reader.specs.Loops.Tellings.{told_members}
use Rattle.irc_burst.specs.Loops.Deeds.{is_member_among, taken_as_stored}

pub among-told : (nick : List ℕ) (members : List NewMember) → is_member_among
    (told_members members) nick ≡ list_any (λ (member : NewMember). same member.nick nick) members
among-told nick [] = refl
among-told nick (member ∷ members) = ap (λ b. same member.nick nick || b) (among-told nick members)

pub ruleset among_told = (among-told)

-- a nickname as it is stored is the same
key_stored : (room : Room) → IsWellFormed room → (nick : List ℕ)
    → key (stored_nick room nick) ≡ key nick
key_stored room well nick = by_row (row room.users (key nick)) refl
  where
    by_row : (o : Option User) → row room.users (key nick) ≡ o
        → key (option_map_or (λ (user : User). user.nick) o nick) ≡ key nick
    by_row None is = refl
    by_row (Some user) is = well.users_named (key nick) user is

pub among_stored : (room : Room) → IsWellFormed room
    → (members : List (List ℕ × Flags)) (nick : List ℕ)
    → is_member_among (map (as_stored room) members) nick ≡ is_member_among members nick
among_stored room well [] nick = refl
among_stored room well (member ∷ members) nick =
    ap (λ fold. pointwise nat_eq fold (key nick)
    || is_member_among (map (as_stored room) members) nick) (key_stored room well member.0)
    ∙ ap (λ b. same member.0 nick || b) (among_stored room well members nick)

-- ---- one after another

module _ (far : List ℕ → Bool) (channel : List ℕ) where
  two_folds : (one other : List ℕ) → same one other ≡ false
      → same_fold (key other) (key one) ≡ false
  two_folds one other two = by_test (same_fold (key other) (key one)) refl
    where
      by_test : (b : Bool) → same_fold (key other) (key one) ≡ b → b ≡ false
      by_test true is = absurd (false≢true (sym two
          ∙ (bytes_decides (key one) (key other)).1 (sym (one_fold (key other) (key one) is))))
      by_test false none = refl

  -- whether another becomes a member, once one has come
  comes_row : (fold q : List ℕ) (flags : Flags) (x : Option Channel) (b : Bool)
      → same_fold q fold ≡ b → row_has q (comes_to channel fold flags x) ≡ (b || row_has q x)
  comes_row fold q flags x b is =
      ap is_some (row-alter fold (λ _. Some flags) (unwrap_or x (new_channel channel)).members q)
      ∙ ap (λ t. is_some (cond t (Some flags) (row (unwrap_or x (new_channel channel)).members q)))
      is
      ∙ by b
    where
      old : (x : Option Channel) → has_member q (unwrap_or x (new_channel channel)) ≡ row_has q x
      old None = ap is_some (get-empty {X = Flags} fold_cmp q)
      old (Some c) = refl

      by : (b : Bool) → is_some (cond b (Some flags)
          (row (unwrap_or x (new_channel channel)).members q)) ≡ (b || row_has q x)
      by true = refl
      by false = old x

  new_after : (room : Room) (member other : List ℕ × Flags) (b : Bool)
      → same_fold (key other.0) (key member.0) ≡ b → is_new_member far
      (alter_channel channel (comes_to channel (key member.0) member.1) room) channel other
      ≡ (is_new_member far room channel other && not b)
  new_after room member other b is =
      ap (λ t. home_passes far room.users (key other.0) && not t)
      (ap (row_has (key other.0))
      (row-alter_same (key channel) (comes_to channel (key member.0) member.1) room.channels)
      ∙ comes_row (key member.0) (key other.0) member.1 (row room.channels (key channel)) b is)
      ∙ logic (home_passes far room.users (key other.0)) (is_member room other.0 channel) b
    where
      logic : (h m b : Bool) → (h && not (b || m)) ≡ ((h && not m) && not b)
      logic true true true = refl
      logic true true false = refl
      logic true false true = refl
      logic true false false = refl
      logic false m b = refl

  same_is : (one other : List ℕ) (b : Bool) → same one other ≡ b
      → same_fold (key other) (key one) ≡ b
  same_is one other true is = subst (λ fold. same_fold (key other) fold ≡ true)
      (sym ((bytes_decides (key one) (key other)).0 is)) (same_fold-refl (key other))
  same_is one other false is = two_folds one other is

  abbrev taken : Room → List (List ℕ × Flags) → List ℕ × Flags → List (List ℕ × Flags)
  taken room members member = if is_new_member far room channel member
      && not (is_member_among members member.0) then members ++ member ∷ [] else members

  -- a room in which some have come by now
  abbrev InStep : Room → Room → List (List ℕ × Flags) → Type 0
  InStep first room members = (x : List ℕ × Flags) → is_new_member far room channel x
      ≡ (is_new_member far first channel x && not (is_member_among members x.0))

  among_more : (members : List (List ℕ × Flags)) (member : List ℕ × Flags) (nick : List ℕ)
      → is_member_among (members ++ member ∷ []) nick
      ≡ (is_member_among members nick || same member.0 nick)
  among_more [] member nick = or-false (same member.0 nick)
  among_more (one ∷ members) member nick =
      ap (λ b. same one.0 nick || b) (among_more members member nick)
      ∙ regroup (same one.0 nick) (is_member_among members nick) (same member.0 nick)
    where
      regroup : (a b c : Bool) → (a || (b || c)) ≡ ((a || b) || c)
      regroup true b c = refl
      regroup false b c = refl

  step_on : (first room : Room) (members : List (List ℕ × Flags)) (member : List ℕ × Flags)
      → InStep first room members → InStep first (alter_channel channel
      (comes_to channel (key member.0) member.1) room) (members ++ member ∷ [])
  step_on first room members member step x =
      new_after room member x (same member.0 x.0) (same_is member.0 x.0 (same member.0 x.0) refl)
      ∙ ap (λ b. b && not (same member.0 x.0)) (step x)
      ∙ and_neither (is_new_member far first channel x) (is_member_among members x.0)
      (same member.0 x.0)
      ∙ ap (λ b. is_new_member far first channel x && not b) (sym (among_more members member x.0))

  abbrev AreTaken : Room → List (List ℕ × Flags) → Type 0
  AreTaken first more = (room : Room) (members : List (List ℕ × Flags)) → InStep first room members
      → members ++ new_members far room channel more ≡ fold (taken first) members more

  one_turn : (first : Room) (member : List ℕ × Flags) (more : List (List ℕ × Flags))
      → AreTaken first more → (room : Room) (members : List (List ℕ × Flags))
      → InStep first room members → (b : Bool) → is_new_member far room channel member ≡ b
      → members ++ cond b (member ∷ new_members far (after_all room (member_comes channel member))
      channel more) (new_members far room channel more)
      ≡ fold (taken first) (cond b (members ++ member ∷ []) members) more
  one_turn first member more rest room members step true new =
      let room_then = alter_channel channel (comes_to channel (key member.0) member.1) room in
      ap (λ r. members ++ member ∷ new_members far r channel more)
      (comes channel member room ((and_not (home_passes far room.users (key member.0))
      (is_member room member.0 channel) new).1))
      ∙ sym (append_assoc members (member ∷ []) (new_members far room_then channel more))
      ∙ rest room_then (members ++ member ∷ []) (step_on first room members member step)
  one_turn first member more rest room members step false old = rest room members step

  in_turn : (first : Room) (more : List (List ℕ × Flags)) → AreTaken first more
  in_turn first [] room members step = append-nil members
  in_turn first (member ∷ more) room members step =
      one_turn first member more (in_turn first more) room members step
      (is_new_member far room channel member) refl
      ∙ ap (λ b. fold (taken first) (cond b (members ++ member ∷ []) members) more) (step member)

  -- the same with nicknames as they are stored
  one_stored : (room : Room) → IsWellFormed room → (members : List (List ℕ × Flags))
      (member : List ℕ × Flags) → taken_as_stored far room channel
      (map (as_stored room) members) member ≡ map (as_stored room) (taken room members member)
  one_stored room well members member =
      ap (λ b. if is_new_member far room channel member && not b then map (as_stored room) members
      ++ as_stored room member ∷ [] else map (as_stored room) members)
      (among_stored room well members member.0)
      ∙ by (is_new_member far room channel member && not (is_member_among members member.0))
    where
      by : (b : Bool) → (if b then map (as_stored room) members ++ as_stored room member ∷ []
          else map (as_stored room) members)
          ≡ map (as_stored room) (if b then members ++ member ∷ [] else members)
      by true = sym (map-append (as_stored room) members (member ∷ []))
      by false = refl

  stored_turn : (room : Room) → IsWellFormed room → (more members : List (List ℕ × Flags))
      → fold (taken_as_stored far room channel) (map (as_stored room) members) more
      ≡ map (as_stored room) (fold (taken room) members more)
  stored_turn room well [] members = refl
  stored_turn room well (member ∷ more) members =
      ap (λ ms. fold (taken_as_stored far room channel) ms more)
      (one_stored room well members member)
      ∙ stored_turn room well more (taken room members member)

  pub members_taken : (room : Room) → IsWellFormed room → (more : List (List ℕ × Flags))
      → fold (taken_as_stored far room channel) [] more ≡ map (as_stored room)
      (new_members far room channel more)
  members_taken room well more =
      stored_turn room well more []
      ∙ ap (map (as_stored room))
      (sym (in_turn room more room [] (λ x. sym (and-true (is_new_member far room channel x)))))
