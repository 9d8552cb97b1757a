-- Whether nobody but a user is a member, found by the other members.
use Rattle.std.proofs.Common.{◌≡◌, ℕ, Bool, true, false, cond, not, ◌||◌, None, List, [], ◌∷◌, refl}
use Rattle.std.proofs.Common.{sym, ◌∙◌, ap, is_some, map}
use Rattle.std.specs.List.{list_any}
use Rattle.std.specs.FinMap.{keys, entries}
use Rattle.std.proofs.Math.Bool.{false≢true, or-true}
use Rattle.irc_names.specs.Lemmas.PlainFacts.{none_if_not_some}
use Rattle.irc_names.specs.Fold.{key, same}
use Rattle.irc_names.specs.FoldLaws.{same-ties}
use Rattle.irc_names.specs.Tables.{Table, row, alter}
use Rattle.irc_names.specs.TableLaws.{same_fold, same_fold-refl, one_fold, row-alter, row-keys}
use Rattle.irc_tables.specs.declared.table.Row.{Row}
use Rattle.irc_tables.specs.RowViews.{row_entry}
use Rattle.irc_modes.specs.Modes.{is_nil}
use Rattle.irc_channels.specs.declared.channel.Channel.{Channel}
use Rattle.irc_channels.specs.declared.flags.Flags.{Flags}
use Rattle.irc_effects.specs.Lemmas.Rows.{no_row, some_key}
use Rattle.irc_room.specs.Indexes.{folds_of, is_alone}

abbrev another : List ℕ → List ℕ → Bool
another nick fold = not (same_fold fold nick)

any_at : (p : List ℕ → Bool) (q : List ℕ) (folds : List (List ℕ))
    → list_any (same_fold q) folds ≡ true → p q ≡ true → list_any p folds ≡ true
any_at p q [] found is = absurd (false≢true found)
any_at p q (fold ∷ folds) found is =
    by_fold (λ more. any_at p q folds more is) (same_fold q fold) refl found
  where
    by_fold : (list_any (same_fold q) folds ≡ true → list_any p folds ≡ true)
        → (b : Bool) → same_fold q fold ≡ b → (b || list_any (same_fold q) folds) ≡ true
        → (p fold || list_any p folds) ≡ true
    by_fold rest true one found = ap (λ f. p f || list_any p folds) (sym (one_fold q fold one))
        ∙ ap (λ b. b || list_any p folds) is
    by_fold rest false two found = ap (λ b. p fold || b) (rest found) ∙ or-true (p fold)

abbrev IsFoundIn : (List ℕ → Bool) → List (List ℕ) → Type 0
IsFoundIn p folds = (q : List ℕ) × ((p q ≡ true) × (list_any (same_fold q) folds ≡ true))

-- some fold of which it is said
any_found : (p : List ℕ → Bool) (folds : List (List ℕ)) → list_any p folds ≡ true
    → IsFoundIn p folds
any_found p [] found = absurd (false≢true found)
any_found p (fold ∷ folds) found = by_test (any_found p folds) (p fold) refl found
  where
    by_test : (list_any p folds ≡ true → IsFoundIn p folds) → (b : Bool) → p fold ≡ b
        → (b || list_any p folds) ≡ true → IsFoundIn p (fold ∷ folds)
    by_test rest true is found =
        (fold, (is, ap (λ b. b || list_any (same_fold fold) folds) (same_fold-refl fold)))
    by_test rest false is found =
        let more = rest found in (
          more.0,
          (
            more.1.0,
            ap (λ b. same_fold more.0 fold || b) more.1.1
                ∙ or-true (same_fold more.0 fold),
          ),
        )

alone_folds : {X : Type 0} (nick : List ℕ) (table : Table X)
    → is_nil (keys (alter nick (λ _. None) table)) ≡ not (list_any (another nick) (keys table))
alone_folds {X} nick table = by_test (list_any (another nick) (keys table)) refl
  where
    rest : Table X
    rest = alter nick (λ _. None) table

    stays : (q : List ℕ) (b : Bool) → same_fold q nick ≡ b → not b ≡ true → row rest q ≡ row table q
    stays q true one other = absurd (false≢true other)
    stays q false two other =
        row-alter nick (λ _. None) table q ∙ ap (λ b. cond b None (row table q)) two

    gone : list_any (another nick) (keys table) ≡ false → (q : List ℕ) → row rest q ≡ None
    gone none q = row-alter nick (λ _. None) table q ∙ by_fold (same_fold q nick) refl
      where
        by_row : same_fold q nick ≡ false → (b : Bool) → is_some (row table q) ≡ b
            → row table q ≡ None
        by_row two true there = absurd (false≢true (sym none
            ∙ any_at (another nick) q (keys table) (row-keys table q ∙ there) (ap not two)))
        by_row two false out = none_if_not_some (row table q) out

        by_fold : (b : Bool) → same_fold q nick ≡ b → cond b None (row table q) ≡ None
        by_fold true one = refl
        by_fold false two = by_row two (is_some (row table q)) refl

    by_test : (b : Bool) → list_any (another nick) (keys table) ≡ b → is_nil (keys rest) ≡ not b
    by_test true found =
        let other = any_found (another nick) (keys table) found in
        some_key rest other.0 (ap is_some (stays other.0 (same_fold other.0 nick) refl other.1.0)
        ∙ sym (row-keys table other.0) ∙ other.1.1)
    by_test false none = no_row rest (gone none)

any_rows : (nick : List ℕ) (rows : List (Row Flags))
    → list_any (λ (member : Row Flags). not (same member.name.items nick)) rows
    ≡ list_any (another (key nick)) (folds_of (map row_entry rows))
any_rows nick [] = refl
any_rows nick (r ∷ rows) = ap (λ b. not b || list_any (λ
    (member : Row Flags). not (same member.name.items nick)) rows) (same-ties r.name.items nick)
    ∙ ap (λ b. another (key nick) (key r.name.items) || b) (any_rows nick rows)

-- the members of a channel, all in their rows
pub alone_told : (nick : List ℕ) (channel : Channel) (members : List (Row Flags))
    → map row_entry members ≡ entries channel.members
    → not (list_any (λ (member : Row Flags). not (same member.name.items nick)) members)
    ≡ is_alone (key nick) channel
alone_told nick channel members are =
    ap not (any_rows nick members ∙ ap (λ es. list_any (another (key nick)) (folds_of es)) are)
    ∙ sym (alone_folds (key nick) channel.members)
