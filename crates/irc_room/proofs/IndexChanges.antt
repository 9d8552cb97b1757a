-- What stands by which nickname after each change of an index.
use Rattle.std.proofs.Common.{◌≡◌, ℕ, Bool, true, false, cond, not, ◌&&◌, ◌||◌, Option, Some, None}
use Rattle.std.proofs.Common.{List, [], ◌∷◌, refl, sym, ◌∙◌, ap, is_some, option_map, Result, Ok}
use Rattle.std.proofs.Common.{Err, IsOk, IsTrue, OnOk, OnErr, is_err}
use Rattle.std.specs.Option.{option_map_or}
use Rattle.std.specs.FinMap.{empty, entries, find, get-empty, get-entries}
use Rattle.irc_names.specs.Fold.{key, same}
use Rattle.irc_names.specs.FoldLaws.{same-tells}
use Rattle.irc_names.specs.Tables.{fold_cmp, row, alter, moved}
use Rattle.irc_names.specs.TableLaws.{same_fold, same_fold-refl, one_fold, row-alter}
use Rattle.irc_names.specs.TableLaws.{row-alter_same, row-moved, row-moved_none, same_table}
use Rattle.irc_modes.specs.Modes.{is_nil}
use Rattle.irc_room.specs.Indexes.{Names, Index, is_among, names_in, stands, HasWay, IsAlike}
use Rattle.irc_room.specs.Indexes.{IsOpened, IsUsed, Adds, Drops}

-- one row of the index is changed
stands-alter : (nick : List ℕ) (change : Option Names → Option Names) (index : Index) (n c : List ℕ)
    → stands (alter nick change index) n c ≡ cond (same_fold n nick)
    (is_among c (change (row index nick))) (stands index n c)
stands-alter nick change index n c =
    ap (is_among c) (row-alter nick change index n) ∙ by_test (same_fold n nick)
  where
    by_test : (b : Bool) → is_among c (cond b (change (row index nick)) (row index n))
        ≡ cond b (is_among c (change (row index nick))) (stands index n c)
    by_test true = refl
    by_test false = refl

none_here : (c : List ℕ) → is_some (row (empty {X = Unit {0}} {R = fold_cmp}) c) ≡ false
none_here c = ap is_some (get-empty {X = Unit {0}} fold_cmp c)

-- a row with nothing in it
pub opened : (before after : Index) (nick : List ℕ) → row before nick ≡ None
    → after ≡ alter nick (λ _. Some empty) before → IsOpened before after nick
opened before after nick none is = record {
  there =
      ap (λ i. is_some (row i nick)) is ∙ ap is_some (row-alter nick (λ _. Some empty) before nick
      ∙ ap (λ b. cond b (Some empty) (row before nick)) (same_fold-refl nick));
  alike = record {
    at = λ n c. ap (λ i. stands i n c) is
        ∙ stands-alter nick (λ _. Some empty) before n c ∙ by_fold n c (same_fold n nick) refl;
  };
}
  where
    by_fold : (n c : List ℕ) (b : Bool) → same_fold n nick ≡ b
        → cond b (is_among c (Some empty)) (stands before n c) ≡ stands before n c
    by_fold n c true one =
        none_here c ∙ sym (ap (is_among c) (ap (row before) (one_fold n nick one) ∙ none))
    by_fold n c false two = refl

-- a name put in a row that is there
among_put : (name : List ℕ) (o : Option Names) (c : List ℕ) → is_some o ≡ true
    → is_among c (option_map (λ (ns : Names). alter name (λ _. Some tt) ns) o)
    ≡ (same_fold c name || is_among c o)
among_put name None c there = cc
among_put name (Some ns) c there =
    ap is_some (row-alter name (λ _. Some tt) ns c) ∙ by_test (same_fold c name)
  where
    by_test : (b : Bool) → is_some (cond b (Some tt) (row ns c)) ≡ (b || is_some (row ns c))
    by_test true = refl
    by_test false = refl

pub added : (before opened after : Index) (nick name : List ℕ) → IsOpened before opened nick
    → after ≡ alter nick (option_map (λ (ns : Names). alter name (λ _. Some tt) ns)) opened
    → Adds before after nick name
added before opened after nick name has is = record {
  at = λ n c. ap (λ i. stands i n c) is
      ∙ stands-alter nick (option_map (λ (ns : Names). alter name (λ _. Some tt) ns)) opened n c
      ∙ by_fold n c (same_fold n nick) refl;
}
  where
    by_fold : (n c : List ℕ) (b : Bool) → same_fold n nick ≡ b → cond b
        (is_among c (option_map (λ (ns : Names). alter name (λ _. Some tt) ns) (row opened nick)))
        (stands opened n c) ≡ ((b && same_fold c name) || stands before n c)
    by_fold n c true one =
        among_put name (row opened nick) c has.there
        ∙ ap (λ b. same_fold c name || b) (ap (λ q. stands opened q c) (sym (one_fold n nick one))
        ∙ has.alike.at n c)
    by_fold n c false two = has.alike.at n c

-- a name taken out of a row
among_taken : (name : List ℕ) (o : Option Names) (c : List ℕ) → is_among c (option_map
    (λ (ns : Names). alter name (λ _. None) ns) o) ≡ (not (same_fold c name) && is_among c o)
among_taken name None c = by_test (same_fold c name)
  where
    by_test : (b : Bool) → false ≡ (not b && false)
    by_test true = refl
    by_test false = refl
among_taken name (Some ns) c =
    ap is_some (row-alter name (λ _. None) ns c) ∙ by_test (same_fold c name)
  where
    by_test : (b : Bool) → is_some (cond b None (row ns c)) ≡ (not b && is_some (row ns c))
    by_test true = refl
    by_test false = refl

pub dropped : (before after : Index) (nick name : List ℕ) → after ≡ alter nick
    (option_map (λ (ns : Names). alter name (λ _. None) ns)) before → Drops before after nick name
dropped before after nick name is = record {
  at = λ n c. ap (λ i. stands i n c) is
      ∙ stands-alter nick (option_map (λ (ns : Names). alter name (λ _. None) ns)) before n c
      ∙ by_fold n c (same_fold n nick) refl;
}
  where
    by_fold : (n c : List ℕ) (b : Bool) → same_fold n nick ≡ b → cond b
        (is_among c (option_map (λ (ns : Names). alter name (λ _. None) ns) (row before nick)))
        (stands before n c) ≡ (not (b && same_fold c name) && stands before n c)
    by_fold n c true one = among_taken name (row before nick) c
        ∙ ap (λ q. not (same_fold c name) && stands before q c) (sym (one_fold n nick one))
    by_fold n c false two = refl

-- all names by one nickname are gone
pub forgotten : (before after : Index) (nick : List ℕ) → after ≡ alter nick (λ _. None) before
    → (n c : List ℕ) → stands after n c ≡ (not (same_fold n nick) && stands before n c)
forgotten before after nick is n c = ap (λ i. stands i n c) is
    ∙ stands-alter nick (λ _. None) before n c ∙ by_test (same_fold n nick)
  where
    by_test : (b : Bool) → cond b false (stands before n c) ≡ (not b && stands before n c)
    by_test true = refl
    by_test false = refl

-- all names by one nickname stand by another, by which there were none
pub stands-moved : (before after : Index) (nick new : List ℕ) → after ≡ moved nick new
    (λ names. names) before → ((c : List ℕ) → stands before new c ≡ true → new ≡ nick)
    → (n c : List ℕ) → stands after n c ≡ cond (same_fold n new) (stands before nick c)
    (cond (same_fold n nick) false (stands before n c))
stands-moved before after nick new is free n c =
    ap (λ i. stands i n c) is ∙ by_row (row before nick) refl
  where
    by_folds : (x : Names) (a b : Bool) → row before nick ≡ Some x
        → is_among c (cond a (Some x) (cond b None (row before n))) ≡ cond a (stands before nick c)
        (cond b false (stands before n c))
    by_folds x true b here = sym (ap (is_among c) here)
    by_folds x false true here = refl
    by_folds x false false here = refl

    not_there : row before nick ≡ None → stands before nick c ≡ false
    not_there none = ap (is_among c) none

    not_new : row before nick ≡ None → (b : Bool) → stands before new c ≡ b → b ≡ false
    not_new none true there =
        sym there ∙ ap (λ q. stands before q c) (free c there) ∙ not_there none
    not_new none false there = refl

    by_none : row before nick ≡ None → (a b : Bool) → same_fold n new ≡ a → same_fold n nick ≡ b
        → stands before n c ≡ cond a (stands before nick c) (cond b false (stands before n c))
    by_none none true b one other = ap (λ q. stands before q c) (one_fold n new one)
        ∙ not_new none (stands before new c) refl ∙ sym (not_there none)
    by_none none false true one other = ap (λ q. stands before q c) (one_fold n nick other)
        ∙ not_there none
    by_none none false false one other = refl

    by_row : (o : Option Names) → row before nick ≡ o
        → stands (moved nick new (λ names. names) before) n c ≡ cond (same_fold n new)
        (stands before nick c) (cond (same_fold n nick) false (stands before n c))
    by_row (Some x) here = ap (is_among c) (row-moved nick new (λ names. names) before x here n)
        ∙ by_folds x (same_fold n new) (same_fold n nick) here
    by_row None none = ap (is_among c) (row-moved_none nick new (λ names. names) before none n)
        ∙ by_none none (same_fold n new) (same_fold n nick) refl refl

-- ---- a way for the row of one nickname to another

-- a name is taken out wherever there is a row, since it takes no memory
pub surely_taken : {U E : Type 0} (o : Option Names) (result : Result U E) → (o ≡ None
    → IsOk result) → (IsTrue (option_map_or (λ (ns : Names). true) o false) → IsOk result)
    → is_err result ≡ true → ⊥
surely_taken None (Ok u) absent sure failed = cc failed
surely_taken None (Err e) absent sure failed = cc (absent refl)
surely_taken (Some ns) (Ok u) absent sure failed = cc failed
surely_taken (Some ns) (Err e) absent sure failed = cc (sure refl)

-- what follows where a call was not refused
pub went_well : {U E A B : Type 0} (result : Result U E) → is_err result ≡ false → (A → B)
    → OnOk result A → B
went_well (Ok u) well follows told = follows told
went_well (Err e) well follows told = cc well

-- a row with nothing in it is put where there was none
pub way_made : (before after : Index) (nick new : List ℕ)
    → after ≡ alter new (λ _. Some empty) before → HasWay after nick new
way_made before after nick new is = record {
  there = λ _. ap (λ i. is_some (row i new)) is
      ∙ ap is_some (row-alter_same new (λ _. Some empty) before);
}

pub way_alike : {U E : Type 0} (before after : Index) (new : List ℕ) (result : Result U E)
    → row before new ≡ None → OnOk result (after ≡ alter new (λ _. Some empty) before)
    → OnErr result (after ≡ before) → IsAlike before after
way_alike before after new (Ok u) none put same = (opened before after new none put).alike
way_alike before after new (Err e) none put same =
    record { at = λ n c. ap (λ i. stands i n c) same }

-- once a row is out, that of another nickname is still there
pub stays_by_name : (index : Index) (nick new : List ℕ)
    → same nick new ≡ false → is_some (row index (key new)) ≡ true
    → is_some (row (alter (key nick) (λ _. None) index) (key new)) ≡ true
stays_by_name index nick new apart there =
    ap is_some (row-alter (key nick) (λ _. None) index (key new))
    ∙ by (same_fold (key new) (key nick)) refl
  where
    by : (b : Bool) → same_fold (key new) (key nick) ≡ b
        → is_some (cond b None (row index (key new))) ≡ true
    by true one = absurd (let e : true ≡ false = sym
        ((same-tells nick new).1 (sym (one_fold (key new) (key nick) one))) ∙ apart in cc)
    by false other = there

-- a row that is moved to where it stands
pub moved_nowhere : (index : Index) (nick new : List ℕ) → new ≡ nick
    → index ≡ moved nick new (λ names. names) index
moved_nowhere index nick new one = by (row index nick) refl
  where
    here : (x : Names) → row index nick ≡ Some x → (q : List ℕ) (a b : Bool) → same_fold q new ≡ a
        → same_fold q nick ≡ b → row index q ≡ cond a (Some x) (cond b None (row index q))
    here x there q true b at other = ap (row index) (one_fold q new at ∙ one) ∙ there
    here x there q false true at other = cc (sym at ∙ ap (same_fold q) one ∙ other)
    here x there q false false at other = refl

    by : (o : Option Names) → row index nick ≡ o → index ≡ moved nick new (λ names. names) index
    by None none =
        same_table index _ (λ q. sym (row-moved_none nick new (λ names. names) index none q))
    by (Some x) there = same_table index _ (λ q.
        here x there q (same_fold q new) (same_fold q nick) refl refl
        ∙ sym (row-moved nick new (λ names. names) index x there q))

-- a name that is taken out, and then a row that may go, since nothing stands in it
pub dropped_alike : (before between after : Index) (nick name : List ℕ)
    → Drops before between nick name → IsAlike between after → Drops before after nick name
dropped_alike before between after nick name drops alike =
    record { at = λ n c. alike.at n c ∙ drops.at n c }

nil_is : {X : Type 0} (xs : List X) → is_nil xs ≡ true → xs ≡ []
nil_is [] none = refl
nil_is (x ∷ xs) none = cc none

-- in a row without names there is none
none_among : (o : Option Names) (c : List ℕ) → is_nil (names_in o) ≡ true → is_among c o ≡ false
none_among None c none = refl
none_among (Some ns) c none =
    ap is_some (get-entries ns c ∙ ap (find fold_cmp c) (nil_is (entries ns) none))

-- a row in which nothing stands is taken out
pub closed_alike : (before after : Index) (nick : List ℕ) → is_nil (names_in (row before nick))
    ≡ true → after ≡ alter nick (λ _. None) before → IsAlike before after
closed_alike before after nick none is = record {
  at = λ n c. ap (λ i. stands i n c) is ∙ stands-alter nick (λ _. None) before n c
      ∙ by_fold n c (same_fold n nick) refl;
}
  where
    by_fold : (n c : List ℕ) (b : Bool) → same_fold n nick ≡ b
        → cond b false (stands before n c) ≡ stands before n c
    by_fold n c true one = sym (ap (λ q. stands before q c) (one_fold n nick one)
        ∙ none_among (row before nick) c none)
    by_fold n c false two = refl

pub closed_used : (before after : Index) (nick : List ℕ) → after ≡ alter nick (λ _. None) before
    → IsUsed after nick
closed_used before after nick is =
    record { at = λ _. ap (λ i. row i nick) is ∙ row-alter_same nick (λ _. None) before }
