-- The lists follow what changes.
use Rattle.std.proofs.Common.{◌≡◌, ℕ, Bool, true, false, cond, not, ◌&&◌, ◌||◌, if◌then◌else◌}
use Rattle.std.proofs.Common.{Option, Some, None, List, [], ◌∷◌, ◌++◌, refl, sym, ◌∙◌, ap, subst}
use Rattle.std.proofs.Common.{is_some, option_map, unwrap_or, filter, T}
use Rattle.std.proofs.lemmas.List.Folds.{list_any-append}
use Rattle.std.specs.Option.{option_and_then, option_map_or}
use Rattle.std.specs.FinMap.{empty, entries, entries_sorted, find, is_sorted, keys, get-empty}
use Rattle.std.specs.FinMap.{get-entries}
use Rattle.std.specs.FinMap.Entries.{below_all}
use Rattle.std.specs.Cmp.Lexicographic.{nat_list_cmp_total}
use Rattle.std.proofs.lemmas.Option.{same_Some}
use Rattle.std.proofs.Math.Facts.{and_yes}
use Rattle.irc_names.specs.Lemmas.PlainFacts.{is_true}
use Rattle.irc_names.specs.Fold.{key}
use Rattle.irc_names.specs.Tables.{Table, fold_cmp, row, put, alter, moved}
use Rattle.irc_names.specs.TableLaws.{same_fold, same_fold-refl, one_fold, row-alter, row-moved}
use Rattle.irc_names.specs.TableLaws.{row-moved_none}
use Rattle.irc_tables.specs.Lemmas.OrderedEntries.{above-is, find-above}
use Rattle.irc_channels.specs.Channels.{has_member}
use Rattle.irc_modes.specs.Modes.{is_nil}
use Rattle.irc_room.specs.effect.Effect.{Effect}
use Rattle.irc_room.specs.effect.Effect.TheVariants.{Rename, Quit, Join, Part, Kick}
use Rattle.irc_room.specs.After.{after, titled_by}
use Rattle.irc_room.specs.Effects.{IsPossible}
use Rattle.irc_room.specs.Room.{Room, IsWellFormed}
use Rattle.irc_room.specs.Readers.{channels_of}
use Rattle.irc_room.specs.Lemmas.Rows.{some_key}
use Rattle.irc_stage.specs.Loops.Listening.{Conns, Lists, conn_in, kept_at, is_in, heard_at}
use Rattle.irc_stage.specs.Loops.Listening.{folds_of, index_after, is_named, while_used, with_conn}
use Rattle.irc_stage.specs.Loops.Listening.{without_conn, AreSo, AreUsed, Forgets, IsNoMove, Sets}
use Rattle.irc_stage.specs.Loops.Listening.{SetsAt, SetsIf}
use Rattle.irc_stage.proofs.Memberships.{free, joins, kicks, parts, quits, renames, stays, titles}

-- ---- one list

kept_alter : (channel : List ℕ) (change : Option Conns → Option Conns) (lists : Lists)
    (c n : List ℕ) → kept_at (alter channel change lists) c n ≡ cond (same_fold c channel)
    (conn_in (change (row lists channel)) n) (kept_at lists c n)
kept_alter channel change lists c n = ap (λ o. conn_in o n) (row-alter channel change lists c)
    ∙ by_test (same_fold c channel)
  where
    by_test : (b : Bool) → conn_in (cond b (change (row lists channel)) (row lists c)) n
        ≡ cond b (conn_in (change (row lists channel)) n) (kept_at lists c n)
    by_test true = refl
    by_test false = refl

-- what is said of each row stays so, where it is said of the one that is changed
used_alter : (channel : List ℕ) (change : Option Conns → Option Conns) (lists : Lists)
    → ((conns : Conns) → change (row lists channel) ≡ Some conns → is_nil (keys conns) ≡ false)
    → AreUsed lists → AreUsed (alter channel change lists)
used_alter channel change lists here used c conns is =
    by_test (same_fold c channel) (sym (row-alter channel change lists c) ∙ is)
  where
    by_test : (b : Bool) → cond b (change (row lists channel)) (row lists c) ≡ Some conns
        → is_nil (keys conns) ≡ false
    by_test true at = here conns at
    by_test false at = used c conns at

put_used : (nick : List ℕ) (conn : ℕ) (old conns : Conns)
    → Some (alter nick (λ _. Some conn) old) ≡ Some conns → is_nil (keys conns) ≡ false
put_used nick conn old conns is =
    subst (λ (t : Conns). is_nil (keys t) ≡ false) (same_Some _ conns is)
    (some_key (alter nick (λ _. Some conn) old) nick
    (ap is_some (row-alter nick (λ _. Some conn) old nick
    ∙ ap (λ b. cond b (Some conn) (row old nick)) (same_fold-refl nick))))

left_used : (table conns : Conns) → while_used table ≡ Some conns → is_nil (keys conns) ≡ false
left_used table conns = by_test (is_nil (keys table)) refl
  where
    by_test : (b : Bool) → is_nil (keys table) ≡ b → (if b then None else Some table) ≡ Some conns
        → is_nil (keys conns) ≡ false
    by_test true nil is = cc is
    by_test false some is =
        subst (λ (t : Conns). is_nil (keys t) ≡ false) (same_Some table conns is) some

-- a list of which nothing is left answers as none
left_answers : (table : Conns) (n : List ℕ) → conn_in (while_used table) n ≡ row table n
left_answers table n = by_test (is_nil (keys table)) refl
  where
    out : is_nil (keys table) ≡ true → (o : Option ℕ) → row table n ≡ o → None ≡ o
    out nil None at = refl
    out nil (Some conn) at = let some = some_key table n (ap is_some at) in cc

    by_test : (b : Bool) → is_nil (keys table) ≡ b
        → conn_in (if b then None else Some table) n ≡ row table n
    by_test true nil = out nil (row table n) refl
    by_test false some = refl

pub put_sets : (channel nick : List ℕ) (conn : ℕ) (old new : Lists)
    → new ≡ alter channel (with_conn nick conn) old → SetsAt channel nick (Some conn) old new
put_sets channel nick conn old new is = record {
  at = λ c n.
      ap (λ lists. kept_at lists c n) is ∙ kept_alter channel (with_conn nick conn) old c n
      ∙ by_channel c n (same_fold c channel) refl (row old channel) refl;
  used = λ used. subst AreUsed (sym is) (used_alter channel (with_conn nick conn) old
      (put_used nick conn (unwrap_or (row old channel) empty)) used);
}
  where
    by_nick : (n : List ℕ) (conns : Conns) (b : Bool)
        → cond b (Some conn) (row conns n) ≡ (if b then Some conn else row conns n)
    by_nick n conns true = refl
    by_nick n conns false = refl

    none_in : (n : List ℕ) (b : Bool) → cond b (Some conn) (row (empty {X = ℕ} {R = fold_cmp}) n)
        ≡ (if b then Some conn else None)
    none_in n true = refl
    none_in n false = get-empty {X = ℕ} fold_cmp n

    in_it : (n : List ℕ) (o : Option Conns)
        → conn_in (with_conn nick conn o) n ≡ (if same_fold n nick then Some conn else conn_in o n)
    in_it n None = row-alter nick (λ _. Some conn) empty n ∙ none_in n (same_fold n nick)
    in_it n (Some conns) =
        row-alter nick (λ _. Some conn) conns n ∙ by_nick n conns (same_fold n nick)

    by_channel : (c n : List ℕ) (b : Bool) → same_fold c channel ≡ b → (o : Option Conns)
        → row old channel ≡ o → cond b (conn_in (with_conn nick conn (row old channel)) n)
        (kept_at old c n) ≡ (if b && same_fold n nick then Some conn else kept_at old c n)
    by_channel c n true one o at =
        in_it n (row old channel) ∙ ap (λ q. if same_fold n nick then Some conn
        else kept_at old q n) (sym (one_fold c channel one))
    by_channel c n false two o at = refl

-- the same, where there is a list, and where there is none
pub put_there : (channel nick : List ℕ) (conn : ℕ) (old : Lists) → is_some (row old channel) ≡ true
    → alter channel (option_map (λ (conns : Conns). alter nick (λ _. Some conn) conns)) old
    ≡ alter channel (with_conn nick conn) old
unfolding alter
put_there channel nick conn old there = ap (put old channel) (by_row (row old channel) there)
  where
    by_row : (o : Option Conns) → is_some o ≡ true → option_map
        (λ (conns : Conns). alter nick (λ _. Some conn) conns) o ≡ with_conn nick conn o
    by_row None there = cc there
    by_row (Some conns) there = refl

pub put_first : (channel nick : List ℕ) (conn : ℕ) (old : Lists) → is_some (row old channel) ≡ false
    → alter channel (λ _. Some (alter nick (λ _. Some conn) empty)) old
    ≡ alter channel (with_conn nick conn) old
unfolding alter
put_first channel nick conn old none = ap (put old channel) (by_row (row old channel) none)
  where
    by_row : (o : Option Conns) → is_some o ≡ false
        → Some (alter nick (λ _. Some conn) empty) ≡ with_conn nick conn o
    by_row None none = refl
    by_row (Some conns) none = cc none

pub none_of : (o : Option ℕ) → false ≡ is_some o → o ≡ None
none_of None none = refl
none_of (Some conn) none = cc none

-- a connection is gone from a list, if there is one
gone_from : (nick : List ℕ) (o : Option Conns) (n : List ℕ) → conn_in
    (option_and_then (without_conn nick) o) n ≡ (if same_fold n nick then None else conn_in o n)
gone_from nick None n = by_test (same_fold n nick)
  where
    by_test : (b : Bool) → ◌≡◌ {A = Option ℕ} None (if b then None else None)
    by_test true = refl
    by_test false = refl
gone_from nick (Some conns) n =
    left_answers (alter nick (λ _. None) conns) n ∙ row-alter nick (λ _. None) conns n

gone_used : (nick : List ℕ) (o : Option Conns) (conns : Conns)
    → option_and_then (without_conn nick) o ≡ Some conns → is_nil (keys conns) ≡ false
gone_used nick None conns is = cc is
gone_used nick (Some table) conns is = left_used (alter nick (λ _. None) table) conns is

pub gone_sets : (channel nick : List ℕ) (old new : Lists) → new ≡ alter channel
    (option_and_then (without_conn nick)) old → SetsAt channel nick None old new
gone_sets channel nick old new is = record {
  at = λ c n.
      ap (λ lists. kept_at lists c n) is
      ∙ kept_alter channel (option_and_then (without_conn nick)) old c n
      ∙ by_channel c n (same_fold c channel) refl;
  used = λ used. subst AreUsed (sym is) (used_alter channel
      (option_and_then (without_conn nick)) old (gone_used nick (row old channel)) used);
}
  where
    by_channel : (c n : List ℕ) (b : Bool) → same_fold c channel ≡ b
        → cond b (conn_in (option_and_then (without_conn nick) (row old channel)) n)
        (kept_at old c n) ≡ (if b && same_fold n nick then None else kept_at old c n)
    by_channel c n true one =
        gone_from nick (row old channel) n ∙ ap (λ q. if same_fold n nick then None
        else kept_at old q n) (sym (one_fold c channel one))
    by_channel c n false two = refl

-- ---- one list after another

pub none_yet : (nick : List ℕ) (value : Option ℕ) (lists : Lists)
    → Sets (is_named []) nick value lists lists
none_yet nick value lists = record { at = λ c n. refl; used = λ used. used }

pub sets_alike : (one other : List ℕ → Bool) (nick : List ℕ) (value : Option ℕ) (old new : Lists)
    → ((c : List ℕ) → one c ≡ other c) → Sets one nick value old new → Sets other nick value old new
sets_alike one other nick value old new alike sets = record {
  at = λ c n. sets.at c n ∙ ap (λ b. if b && same_fold n nick then value else kept_at old c n)
      (alike c);
  used = sets.used;
}

one_more : (names : List (List ℕ)) (name nick : List ℕ) (value : Option ℕ) (old mid new : Lists)
    → Sets (is_named names) nick value old mid → SetsAt name nick value mid new
    → Sets (is_named (names ++ name ∷ [])) nick value old new
one_more names name nick value old mid new first second = record {
  at = λ c n.
      second.at c n
      ∙ ap (λ o. if same_fold c name && same_fold n nick then value else o) (first.at c n)
      ∙ by_tests (same_fold c name) (is_named names c) (same_fold n nick) (kept_at old c n)
      ∙ ap (λ b. if b && same_fold n nick then value else kept_at old c n)
      (sym (list_any-append (same_fold c) names (name ∷ [])));
  used = λ used. second.used (first.used used);
}
  where
    by_tests : (a g s : Bool) (o : Option ℕ) → (if a && s then value
        else (if g && s then value else o)) ≡ (if (g || (a || false)) && s then value else o)
    by_tests true true true o = refl
    by_tests true true false o = refl
    by_tests true false true o = refl
    by_tests true false false o = refl
    by_tests false true true o = refl
    by_tests false true false o = refl
    by_tests false false s o = refl

-- ---- who is a member of what

-- in order, no other entry has the fold of the first
pub none_behind : {X : Type 0} (q : List ℕ) (es : List (List ℕ × X)) → T (below_all fold_cmp q es)
    → find fold_cmp q es ≡ None
none_behind q es below =
    find-above nat_list_cmp_total q es (sym (above-is nat_list_cmp_total q es) ∙ is_true _ below)

-- a name is among those of some entries just where one is found that passes
named_found : {X : Type 0} (test : X → Bool) (es : List (List ℕ × X)) → T (is_sorted fold_cmp es)
    → (c : List ℕ) → is_named (folds_of (filter (λ e. test e.1) es)) c
    ≡ option_map_or test (find fold_cmp c es) false
named_found test [] rise c = refl
named_found {X} test (e ∷ es) rise c =
    let parts = and_yes _ _ rise in
    by_test (test e.1) (same_fold c e.0) refl refl parts.0 (named_found test es parts.1 c)
  where
    by_test : (passes one : Bool) → test e.1 ≡ passes → same_fold c e.0 ≡ one
        → T (below_all fold_cmp e.0 es) → is_named (folds_of (filter (λ e. test e.1) es)) c
        ≡ option_map_or test (find fold_cmp c es) false → is_named
        (folds_of (cond (test e.1) (e ∷ filter (λ e. test e.1) es) (filter (λ e. test e.1) es))) c
        ≡ option_map_or test (cond (same_fold c e.0) (Some e.1) (find fold_cmp c es)) false
    by_test true true passes one below rest =
        ap (λ b. is_named (folds_of
        (cond b (e ∷ filter (λ e. test e.1) es) (filter (λ e. test e.1) es))) c) passes
        ∙ ap (λ b. b || is_named (folds_of (filter (λ e. test e.1) es)) c) one
        ∙ sym (ap (λ b. option_map_or test (cond b (Some e.1) (find fold_cmp c es)) false) one
        ∙ passes)
    by_test true false passes one below rest =
        ap (λ b. is_named (folds_of
        (cond b (e ∷ filter (λ e. test e.1) es) (filter (λ e. test e.1) es))) c) passes
        ∙ ap (λ b. b || is_named (folds_of (filter (λ e. test e.1) es)) c) one
        ∙ rest
        ∙ sym (ap (λ b. option_map_or test (cond b (Some e.1) (find fold_cmp c es)) false) one)
    by_test false true passes one below rest =
        ap (λ b. is_named (folds_of
        (cond b (e ∷ filter (λ e. test e.1) es) (filter (λ e. test e.1) es))) c) passes
        ∙ rest
        ∙ ap (λ o. option_map_or test o false) (ap (λ q. find fold_cmp q es) (one_fold c e.0 one)
        ∙ none_behind e.0 es below)
        ∙ sym (ap (λ b. option_map_or test (cond b (Some e.1) (find fold_cmp c es)) false) one
        ∙ passes)
    by_test false false passes one below rest =
        ap (λ b. is_named (folds_of
        (cond b (e ∷ filter (λ e. test e.1) es) (filter (λ e. test e.1) es))) c) passes
        ∙ rest
        ∙ sym (ap (λ b. option_map_or test (cond b (Some e.1) (find fold_cmp c es)) false) one)

pub named_in : (room : Room) (nick c : List ℕ)
    → is_named (folds_of (channels_of room nick)) c ≡ is_in room (key nick) c
named_in room nick c =
    named_found (has_member (key nick)) (entries room.channels) (entries_sorted room.channels) c
    ∙ ap (λ o. option_map_or (has_member (key nick)) o false) (sym (get-entries room.channels c))

-- ---- what is kept is right, still

-- where what is heard changes as what is kept does
so_after : (test : List ℕ → Bool) (nick : List ℕ) (value : Option ℕ) (old new : Lists)
    (room later : Room) (by_nick index : Table ℕ) → AreSo old room by_nick
    → Sets test nick value old new → ((c n : List ℕ) → heard_at later index c n ≡ (if test c
    && same_fold n nick then value else heard_at room by_nick c n)) → AreSo new later index
so_after test nick value old new room later by_nick index so sets heard = record {
  at = λ c n.
      sets.at c n
      ∙ ap (λ o. if test c && same_fold n nick then value else o) (so.at c n)
      ∙ sym (heard c n);
  used = sets.used so.used;
}

same_heard : (lists : Lists) (room later : Room) (by_nick : Table ℕ) → AreSo lists room by_nick
    → ((n c : List ℕ) → is_in later n c ≡ is_in room n c) → AreSo lists later by_nick
same_heard lists room later by_nick so same = record {
  at = λ c n. so.at c n ∙ ap (λ b. if b then row by_nick n else None) (sym (same n c));
  used = so.used;
}

none_or : (b : Bool) (o : Option ℕ) → o ≡ None → (if b then o else None) ≡ None
none_or true o none = none
none_or false o none = refl

-- nothing stands under a nickname that is no client's
pub nothing_kept : (test : List ℕ → Bool) (nick : List ℕ) (lists : Lists) (room : Room)
    (by_nick : Table ℕ) → AreSo lists room by_nick → row by_nick nick ≡ None
    → Sets test nick None lists lists
nothing_kept test nick lists room by_nick so none = record {
  at = λ c n. by_test c n (test c) (same_fold n nick) refl;
  used = λ used. used;
}
  where
    by_test : (c n : List ℕ) (a b : Bool) → same_fold n nick ≡ b
        → kept_at lists c n ≡ (if a && b then None else kept_at lists c n)
    by_test c n true true one =
        so.at c n ∙ none_or (is_in room n c) (row by_nick n)
        (ap (row by_nick) (one_fold n nick one) ∙ none)
    by_test c n true false one = refl
    by_test c n false b one = refl

-- by those of its own channels is by all
pub own_gone : (nick : List ℕ) (old new : Lists) (room : Room) (by_nick : Table ℕ)
    → AreSo old room by_nick → Sets (is_in room nick) nick None old new → Forgets nick old new
own_gone nick old new room by_nick so sets = record {
  at = λ c n. sets.at c n ∙ by_test c n (is_in room nick c) (same_fold n nick) refl refl;
  used = sets.used;
}
  where
    by_test : (c n : List ℕ) (a b : Bool) → is_in room nick c ≡ a → same_fold n nick ≡ b
        → (if a && b then None else kept_at old c n) ≡ (if b then None else kept_at old c n)
    by_test c n true b member one = refl
    by_test c n false true out one =
        so.at c n ∙ ap (λ b. if b then row by_nick n else None)
        (ap (λ q. is_in room q c) (one_fold n nick one) ∙ out)
    by_test c n false false out one = refl

module _ (room : Room) (by_nick : Table ℕ) (nick : List ℕ) (old new : Lists)
    (so : AreSo old room by_nick) where
  -- a client joins a channel, or another user does
  pub joined_so : (channel : List ℕ) (op : Bool) → SetsAt (key channel) (key nick)
      (row by_nick (key nick)) old new → AreSo new (after room (Join nick channel op)) by_nick
  joined_so channel op sets = so_after (λ c. same_fold c (key channel)) (key nick)
      (row by_nick (key nick)) old new room _ by_nick by_nick so sets (λ c n.
      ap (λ b. if b then row by_nick n else None) (joins room nick channel op n c)
      ∙ by_tests c n (same_fold c (key channel)) (same_fold n (key nick)) refl)
    where
      by_tests : (c n : List ℕ) (a b : Bool) → same_fold n (key nick) ≡ b
          → (if (a && b) || is_in room n c then row by_nick n else None)
          ≡ (if a && b then row by_nick (key nick) else heard_at room by_nick c n)
      by_tests c n true true one = ap (row by_nick) (one_fold n (key nick) one)
      by_tests c n true false one = refl
      by_tests c n false b one = refl

  pub joined_if : (channel : List ℕ) (op : Bool) → SetsIf (row by_nick (key nick)) (key channel)
      (key nick) old new → AreSo new (after room (Join nick channel op)) by_nick
  joined_if channel op = by_conn (row by_nick (key nick)) refl
    where
      by_conn : (o : Option ℕ) → row by_nick (key nick) ≡ o → SetsIf o (key channel)
          (key nick) old new → AreSo new (after room (Join nick channel op)) by_nick
      by_conn None is same =
          joined_so channel op
          (subst (λ v. SetsAt (key channel) (key nick) v old new) (sym is)
          (subst (SetsAt (key channel) (key nick) None old) (sym same)
          (nothing_kept (λ c. same_fold c (key channel)) (key nick) old room by_nick so is)))
      by_conn (Some conn) is sets = joined_so channel op
          (subst (λ v. SetsAt (key channel) (key nick) v old new) (sym is) sets)

  left_heard : (a b member : Bool) (o : Option ℕ) → (if not (a && b) && member then o else None)
      ≡ (if a && b then None else (if member then o else None))
  left_heard true true member o = refl
  left_heard true false member o = refl
  left_heard false b member o = refl

  pub parted_so : (channel text : List ℕ) → SetsAt (key channel) (key nick) None old new
      → AreSo new (after room (Part nick channel text)) by_nick
  parted_so channel text sets = so_after (λ c. same_fold c (key channel))
      (key nick) None old new room _ by_nick by_nick so sets (λ c n.
      ap (λ b. if b then row by_nick n else None) (parts room nick channel text n c)
      ∙ left_heard (same_fold c (key channel)) (same_fold n (key nick)) (is_in room n c)
      (row by_nick n))

  pub kicked_so : (by channel text : List ℕ) → SetsAt (key channel) (key nick) None old new
      → AreSo new (after room (Kick by channel nick text)) by_nick
  kicked_so by channel text sets = so_after (λ c. same_fold c (key channel))
      (key nick) None old new room _ by_nick by_nick so sets (λ c n.
      ap (λ b. if b then row by_nick n else None) (kicks room by nick channel text n c)
      ∙ left_heard (same_fold c (key channel)) (same_fold n (key nick)) (is_in room n c)
      (row by_nick n))

  pub quit_so : (text : List ℕ) → Forgets (key nick) old new
      → AreSo new (after room (Quit nick text)) by_nick
  quit_so text sets =
      so_after (λ c. true) (key nick) None old new room _ by_nick by_nick so sets (λ c n.
      ap (λ b. if b then row by_nick n else None) (quits room nick text n c)
      ∙ left_heard true (same_fold n (key nick)) (is_in room n c) (row by_nick n))

  -- a client comes, and its user is in these channels already
  pub seated_so : (conn : ℕ) → Sets (is_in room (key nick)) (key nick) (Some conn) old new
      → AreSo new room (alter (key nick) (λ _. Some conn) by_nick)
  seated_so conn sets = so_after (is_in room (key nick)) (key nick)
      (Some conn) old new room room by_nick _ so sets (λ c n.
      ap (λ o. if is_in room n c then o else None) (row-alter (key nick) (λ _. Some conn) by_nick n)
      ∙ by_nicks c n (same_fold n (key nick)) (is_in room (key nick) c) refl refl)
    where
      by_nicks : (c n : List ℕ) (b member : Bool) → same_fold n (key nick) ≡ b → is_in room
          (key nick) c ≡ member → (if is_in room n c then (cond b (Some conn) (row by_nick n))
          else None) ≡ (if member && b then Some conn else heard_at room by_nick c n)
      by_nicks c n true true one member = ap (λ b. if b then Some conn else None)
          (ap (λ q. is_in room q c) (one_fold n (key nick) one) ∙ member)
      by_nicks c n true false one out =
          let is_out : is_in room n c ≡ false = ap (λ q. is_in room q c) (one_fold n (key nick) one)
          ∙ out in
          ap (λ b. if b then Some conn else None) is_out
          ∙ sym (ap (λ b. if b then row by_nick n else None) is_out)
      by_nicks c n false true one member = refl
      by_nicks c n false false one member = refl

  -- a client is gone, and its user is still in its channels
  pub left_so : Forgets (key nick) old new → AreSo new room (alter (key nick) (λ _. None) by_nick)
  left_so sets = so_after (λ c. true) (key nick) None old new room room by_nick _ so sets (λ c n.
      ap (λ o. if is_in room n c then o else None) (row-alter (key nick) (λ _. None) by_nick n)
      ∙ by_nicks (is_in room n c) (same_fold n (key nick)) (row by_nick n))
    where
      by_nicks : (member b : Bool) (o : Option ℕ) → (if member then (cond b None o) else None)
          ≡ (if b then None else (if member then o else None))
      by_nicks true true o = refl
      by_nicks true false o = refl
      by_nicks false true o = refl
      by_nicks false false o = refl

-- effects by which nobody moves, and another spelling of a channel's name
stayed_so : (lists : Lists) (room : Room) (by_nick : Table ℕ) (effect : Effect) → IsNoMove effect
    → AreSo lists room by_nick → AreSo lists (after room effect) by_nick
stayed_so lists room by_nick effect unmoved so =
    same_heard lists room (after room effect) by_nick so (stays room effect unmoved)

-- the index is then as it was
pub unmoved_so : (lists : Lists) (room : Room) (by_nick : Table ℕ) (effect : Effect)
    → IsNoMove effect → AreSo lists room by_nick
    → AreSo lists (after room effect) (index_after effect by_nick)
unmoved_so lists room by_nick (Rename nick new) unmoved so = absurd unmoved
unmoved_so lists room by_nick (Quit nick text) unmoved so = absurd unmoved
unmoved_so lists room by_nick (Join nick channel op) unmoved so = absurd unmoved
unmoved_so lists room by_nick (Part nick channel text) unmoved so = absurd unmoved
unmoved_so lists room by_nick (Kick by channel nick text) unmoved so = absurd unmoved
unmoved_so lists room by_nick other unmoved so = stayed_so lists room by_nick other unmoved so

-- by an effect that is another
pub at_effect : (lists : Lists) (room : Room) (by_nick : Table ℕ) (effect other : Effect)
    → effect ≡ other → AreSo lists (after room other) (index_after other by_nick)
    → AreSo lists (after room effect) (index_after effect by_nick)
at_effect lists room by_nick effect other is so =
    subst (λ e. AreSo lists (after room e) (index_after e by_nick)) (sym is) so

pub titled_so : (lists : Lists) (room : Room) (by_nick : Table ℕ) (channel : List ℕ)
    → AreSo lists room by_nick → AreSo lists (titled_by channel room) by_nick
titled_so lists room by_nick channel so =
    same_heard lists room (titled_by channel room) by_nick so (titles room channel)

-- a user has another nickname
module _ (room : Room) (by_nick : Table ℕ) (nick new : List ℕ) (well : IsWellFormed room)
    (possible : IsPossible room (Rename nick new)) (old : Lists)
    (so : AreSo old room by_nick) where
  heard_renamed : (c n : List ℕ) → heard_at (after room (Rename nick new))
      (moved (key nick) (key new) (λ value. value) by_nick) c n
      ≡ (if cond (same_fold n (key new)) (is_in room (key nick) c)
      (cond (same_fold n (key nick)) false (is_in room n c))
      then row (moved (key nick) (key new) (λ value. value) by_nick) n else None)
  heard_renamed c n = ap (λ b. if b then row (moved (key nick) (key new) (λ value. value) by_nick) n
      else None) (renames room nick new well possible n c)

  -- one that is a client
  pub client_renamed : (conn : ℕ) → row by_nick (key nick) ≡ Some conn
      → (between later : Lists) → Forgets (key nick) old between
      → Sets (is_in room (key nick)) (key new) (Some conn) between later → AreSo later
      (after room (Rename nick new)) (moved (key nick) (key new) (λ value. value) by_nick)
  client_renamed conn is between later gone came = record {
    at = λ c n.
        came.at c n
        ∙ ap (λ o. if is_in room (key nick) c && same_fold n (key new) then Some conn else o)
        (gone.at c n ∙ ap (λ o. if same_fold n (key nick) then None else o) (so.at c n))
        ∙ by_folds c n (same_fold n (key new)) (same_fold n (key nick))
        (is_in room (key nick) c) refl refl refl
        ∙ ap (λ o. if cond (same_fold n (key new)) (is_in room (key nick) c)
        (cond (same_fold n (key nick)) false (is_in room n c)) then o else None)
        (sym (row-moved (key nick) (key new) (λ value. value) by_nick conn is n))
        ∙ sym (heard_renamed c n);
    used = came.used (gone.used so.used);
  }
    where
      not_new : (c n : List ℕ) → n ≡ key new → is_in room (key nick) c ≡ false → (b : Bool)
          → is_in room n c ≡ b → (if b then row by_nick n else None) ≡ None
      not_new c n at out true there =
          let known =
          free room nick new well possible c (ap (λ q. is_in room q c) (sym at) ∙ there) in
          let too : is_in room (key nick) c ≡ true = ap (λ q. is_in room q c) (sym (at ∙ known))
          ∙ there in cc
      not_new c n at out false there = refl

      none_in : (b : Bool) (o : Option ℕ) → o ≡ None → (if b then None else o) ≡ None
      none_in true o none = refl
      none_in false o none = none

      by_folds : (c n : List ℕ) (a b member : Bool) → same_fold n (key new) ≡ a
          → same_fold n (key nick) ≡ b → is_in room (key nick) c ≡ member
          → (if member && a then Some conn else (if b then None else heard_at room by_nick c n))
          ≡ (if cond a member (cond b false (is_in room n c))
          then cond a (Some conn) (cond b None (row by_nick n)) else None)
      by_folds c n true b true one is there = refl
      by_folds c n true b false one is out = none_in b (heard_at room by_nick c n)
          (not_new c n (one_fold n (key new) one) out (is_in room n c) refl)
      by_folds c n false true true two one there = refl
      by_folds c n false true false two one out = refl
      by_folds c n false false true two is there = refl
      by_folds c n false false false two is out = refl

  -- one that is none
  pub other_renamed : row by_nick (key nick) ≡ None → row by_nick (key new) ≡ None → AreSo old
      (after room (Rename nick new)) (moved (key nick) (key new) (λ value. value) by_nick)
  other_renamed none none_new = record {
    at = λ c n.
        so.at c n
        ∙ by_folds c n (same_fold n (key new)) (same_fold n (key nick)) refl refl
        ∙ ap (λ o. if cond (same_fold n (key new)) (is_in room (key nick) c)
        (cond (same_fold n (key nick)) false (is_in room n c)) then o else None)
        (sym (row-moved_none (key nick) (key new) (λ value. value) by_nick none n))
        ∙ sym (heard_renamed c n);
    used = so.used;
  }
    where
      both_none : (a b : Bool) (o : Option ℕ) → o ≡ None
          → (if a then o else None) ≡ (if b then o else None)
      both_none a b o none = none_or a o none ∙ sym (none_or b o none)

      by_folds : (c n : List ℕ) (a b : Bool) → same_fold n (key new) ≡ a
          → same_fold n (key nick) ≡ b → heard_at room by_nick c n
          ≡ (if cond a (is_in room (key nick) c) (cond b false (is_in room n c)) then row by_nick n
          else None)
      by_folds c n true b one is =
          both_none (is_in room n c) (is_in room (key nick) c) (row by_nick n)
          (ap (row by_nick) (one_fold n (key new) one) ∙ none_new)
      by_folds c n false true two one = none_or (is_in room n c) (row by_nick n)
          (ap (row by_nick) (one_fold n (key nick) one) ∙ none)
      by_folds c n false false two is = refl
