-- Bans of two lists, joined: what each fold has, and that they are in order, whatever the lists.
use Rattle.std.proofs.Common.{◌≡◌, ℕ, Bool, true, false, cond, Option, Some, None, List, [], ◌∷◌}
use Rattle.std.proofs.Common.{refl, sym, ◌∙◌, ap, map}
use Rattle.std.proofs.lemmas.Bool.{and_from}
use Rattle.std.specs.Prelude.{find}
use Rattle.std.specs.Cmp.{first_so, second_so}
use Rattle.std.specs.List.{list_all, AllByRecursion}
use Rattle.std.specs.Ordering.{is_lt}
use Rattle.std.specs.FinMap.{entries, values}
use Rattle.irc_names.specs.Fold.{key, same}
use Rattle.irc_names.specs.Greater.{bytes_cmp, greater_of}
use Rattle.irc_names.specs.GreaterLaws.{greater_of-itself, greater_text-even}
use Rattle.irc_names.specs.GreaterLaws.{greater_text-associates}
use Rattle.irc_names.specs.Tables.{Table, row, both}
use Rattle.irc_names.specs.TableLaws.{same_table, row-both}
use Rattle.irc_modes.specs.Bans.{IsBanList}
use Rattle.irc_modes.specs.Joined.{by_fold, joined_bans}
use Rattle.irc_modes.specs.Lemmas.BansByFold.{EachRow, AreKeyed, rows-by_fold, keyed-by_fold}
use Rattle.irc_modes.specs.Lemmas.BansByFold.{entries_so, rises-values, by_fold-values}
use Rattle.irc_modes.specs.Lemmas.BansByFold.{values-by_fold, row-by_fold, same_bans}

-- two lists as one table
abbrev together : List (List ℕ) → List (List ℕ) → Table (List ℕ)
together one other = both (greater_of bytes_cmp) (by_fold one) (by_fold other)

row-together : (one other : List (List ℕ)) (fold : List ℕ)
    → row (together one other) fold
    ≡ greater_of bytes_cmp (row (by_fold one) fold) (row (by_fold other) fold)
row-together one other = row-both (greater_of bytes_cmp) (by_fold one) (by_fold other) refl

-- what is so of each row of both tables is so of each row of the one
rows-together : (Q : List ℕ → List ℕ → Type 0) (one other : List (List ℕ))
    → EachRow Q (by_fold one) → EachRow Q (by_fold other) → EachRow Q (together one other)
rows-together Q one other so so_too fold ban is =
    by (row (by_fold one) fold) (row (by_fold other) fold) refl refl
    (sym (row-together one other fold) ∙ is)
  where
    of_two : (mine yours : List ℕ) (b : Bool) → row (by_fold one) fold ≡ Some mine
        → row (by_fold other) fold ≡ Some yours → Some (cond b yours mine) ≡ Some ban → Q fold ban
    of_two mine yours true here there is = so_too fold ban (there ∙ is)
    of_two mine yours false here there is = so fold ban (here ∙ is)

    by : (mine yours : Option (List ℕ)) → row (by_fold one) fold ≡ mine
        → row (by_fold other) fold ≡ yours → greater_of bytes_cmp mine yours ≡ Some ban
        → Q fold ban
    by None yours here there is = so_too fold ban (there ∙ is)
    by (Some mine) None here there is = so fold ban (here ∙ is)
    by (Some mine) (Some yours) here there is =
        of_two mine yours (is_lt (bytes_cmp mine yours)) here there is

keyed-together : (one other : List (List ℕ)) → AreKeyed (together one other)
keyed-together one other =
    rows-together (λ fold ban. key ban ≡ fold) one other (keyed-by_fold one) (keyed-by_fold other)

-- they are in order
pub rises-joined_bans : (one other : List (List ℕ)) → IsBanList (joined_bans one other)
rises-joined_bans one other = rises-values (together one other) (keyed-together one other)

-- at each fold the greater of what both have there
pub row-joined_bans : (one other : List (List ℕ)) (fold : List ℕ)
    → row (by_fold (joined_bans one other)) fold
    ≡ greater_of bytes_cmp (row (by_fold one) fold) (row (by_fold other) fold)
row-joined_bans one other fold =
    let again = by_fold-values (together one other) (keyed-together one other) in
    ap (λ (bans : Table (List ℕ)). row bans fold) again ∙ row-together one other fold

-- for each mask the greater of the bans that are the same in both
pub find-joined_bans : (one other : List (List ℕ)) (mask : List ℕ)
    → find (same mask) (joined_bans one other)
    ≡ greater_of bytes_cmp (find (same mask) one) (find (same mask) other)
find-joined_bans one other mask =
    sym (row-by_fold (joined_bans one other) mask)
    ∙ row-joined_bans one other (key mask)
    ∙ (λ i. greater_of bytes_cmp (row-by_fold one mask i) (row-by_fold other mask i))

-- which list is named first makes no difference
pub joined_bans-even : (one other : List (List ℕ)) → joined_bans one other ≡ joined_bans other one
joined_bans-even one other =
    ap values (same_table (together one other) (together other one) (λ fold.
    row-together one other fold
    ∙ greater_text-even (row (by_fold one) fold) (row (by_fold other) fold)
    ∙ sym (row-together other one fold)))

-- nor does it which two of three are joined first
pub joined_bans-associates : (one next last : List (List ℕ))
    → joined_bans (joined_bans one next) last ≡ joined_bans one (joined_bans next last)
joined_bans-associates one next last =
    let left = joined_bans one next in
    let right = joined_bans next last in
    let here : List ℕ → Option (List ℕ) = row (by_fold one) in
    let there : List ℕ → Option (List ℕ) = row (by_fold next) in
    let behind : List ℕ → Option (List ℕ) = row (by_fold last) in
    same_bans (joined_bans left last) (joined_bans one right)
    (rises-joined_bans left last) (rises-joined_bans one right) (λ fold.
    row-joined_bans left last fold
    ∙ ap (λ o. greater_of bytes_cmp o (behind fold)) (row-joined_bans one next fold)
    ∙ greater_text-associates (here fold) (there fold) (behind fold)
    ∙ sym (ap (greater_of bytes_cmp (here fold)) (row-joined_bans next last fold))
    ∙ sym (row-joined_bans one right fold))

-- bans in order, joined with themselves, are what they are
pub joined_bans-itself : (bans : List (List ℕ)) → IsBanList bans → joined_bans bans bans ≡ bans
joined_bans-itself bans rising =
    ap values (same_table (together bans bans) (by_fold bans) (λ fold.
    row-together bans bans fold ∙ greater_of-itself bytes_cmp (row (by_fold bans) fold)))
    ∙ values-by_fold bans rising

-- what is so of all bans of both is so of all that are joined
pub all-joined_bans : (p : List ℕ → Bool) (one other : List (List ℕ)) → list_all p one ≡ true
    → list_all p other ≡ true → list_all p (joined_bans one other) ≡ true
all-joined_bans p one other all all_too =
    let Passes : List ℕ → List ℕ → Type 0 = λ fold ban. p ban ≡ true in
    let mine = rows-by_fold Passes one (each one all) in
    let yours = rows-by_fold Passes other (each other all_too) in
    let rows = rows-together Passes one other mine yours in
    of_entries (entries (together one other)) (entries_so Passes (together one other) rows)
  where
    each : (bans : List (List ℕ)) → list_all p bans ≡ true
        → AllByRecursion (λ ban. p ban ≡ true) bans
    each [] all = tt
    each (ban ∷ bans) all =
        let rest = second_so (p ban) (list_all p bans) all in
        (first_so (p ban) (list_all p bans) all, each bans rest)

    of_entries : (es : List (List ℕ × List ℕ)) → AllByRecursion (λ e. p e.1 ≡ true) es
        → list_all p (map (λ e. e.1) es) ≡ true
    of_entries [] so = refl
    of_entries (e ∷ es) so =
        and_from (p e.1) (list_all p (map (λ e. e.1) es)) so.0 (of_entries es so.1)
